-- The predicates of a site table (PLDI 2005 section 2): a branch site has two, that its condition is true and that it is false; another site
-- has six, how its value stands to 0 or to its partner. They are numbered from 0 through all sites in order.
use Rattle.std.specs.Prelude.{◌≡◌, ℕ, zero, suc, ◌+◌, ◌-◌, ◌<◌, nat_lt, if◌then◌else◌, List, [], ◌∷◌, take, slice_get, Option, None, Some, sum_by, codes}
use Rattle.std.specs.Fmt.{signed_decimal}
use Rattle.cbi_base.specs.Text.{line_of_fields}
use Rattle.flow.specs.declared.site.BranchWord.{BranchWord}
use Rattle.flow.specs.declared.site.BranchWord.TheVariants.{If, While, Do, For, Question, AndAnd, OrOr}
use Rattle.flow.specs.declared.site.Partner.{Partner}
use Rattle.flow.specs.declared.site.Partner.TheVariants.{Variable, Constant}
use Rattle.flow.specs.declared.site.SiteKind.{SiteKind}
use Rattle.flow.specs.declared.site.SiteKind.TheVariants.{Branch, Return, Pair}
use Rattle.flow.specs.declared.site.Site.{Site}

-- how many predicates a site has
abbrev pub predicates_of : SiteKind → ℕ
predicates_of (Branch word) = 2
predicates_of (Return callee) = 6
predicates_of (Pair target slot partner) = 6

-- how many predicates these sites have
abbrev pub predicate_count : List Site → ℕ
predicate_count sites = sum_by (λ (s : Site). predicates_of s.kind) sites

-- a predicate: its number among all, the place of its site, and its number among the predicates of that site
pub record IsPredicate (sites : List Site) (predicate place : ℕ) (site : Site) (number : ℕ) : Type 0 where
  pub stands : slice_get sites place ≡ Some site
  pub own : number < predicates_of site.kind
  pub is : predicate ≡ predicate_count (take place sites) + number

-- the number is that of a predicate
pub record IsPlaced (sites : List Site) (predicate : ℕ) : Type 0 where
  pub place : ℕ
  pub number : ℕ
  pub site : Site
  pub is : IsPredicate sites predicate place site number

-- the site of a predicate, by its number among all
abbrev pub site_at : List Site → ℕ → Option Site
site_at [] predicate = None
site_at (s ∷ sites) predicate = if nat_lt predicate (predicates_of s.kind) then Some s else site_at sites (predicate - predicates_of s.kind)

abbrev pub branch_word : BranchWord → List ℕ
branch_word If = codes "if"
branch_word While = codes "while"
branch_word Do = codes "do"
branch_word For = codes "for"
branch_word Question = codes "?:"
branch_word AndAnd = codes "&&"
branch_word OrOr = codes "||"

-- what a branch's predicate says of its condition
abbrev pub truth_word : ℕ → List ℕ
truth_word zero = codes "true"
truth_word (suc n) = codes "false"

-- the relation of another site's predicate
abbrev pub relation_sign : ℕ → List ℕ
relation_sign zero = codes "<"
relation_sign (suc zero) = codes "<="
relation_sign (suc (suc zero)) = codes ">"
relation_sign (suc (suc (suc zero))) = codes ">="
relation_sign (suc (suc (suc (suc zero)))) = codes "=="
relation_sign (suc (suc (suc (suc (suc n))))) = codes "!="

abbrev pub partner_text : Partner → List ℕ
partner_text (Variable name slot) = name
partner_text (Constant value) = signed_decimal value

-- the text of a site's predicate with this number
abbrev pub text_of_kind : SiteKind → ℕ → List ℕ
text_of_kind (Branch word) number = line_of_fields (branch_word word ∷ codes "is" ∷ truth_word number ∷ [])
text_of_kind (Return callee) number = line_of_fields (callee ∷ relation_sign number ∷ codes "0" ∷ [])
text_of_kind (Pair target slot partner) number = line_of_fields (target ∷ relation_sign number ∷ partner_text partner ∷ [])

-- the text of a predicate, by its number among all
abbrev pub predicate_text : List Site → ℕ → List ℕ
predicate_text [] predicate = []
predicate_text (s ∷ sites) predicate =
    if nat_lt predicate (predicates_of s.kind) then text_of_kind s.kind predicate else predicate_text sites (predicate - predicates_of s.kind)
