-- What the line of a site is read as, by a plain body.
use Rattle.std.specs.Prelude.{ℕ, ◌==◌, if◌then◌else◌, List, [], ◌∷◌, Option, None, Some, codes}
use Rattle.std.specs.Option.{option_map}
use Rattle.cbi_base.specs.Numbers.{is_word, ◌>>=◌, number_of, signed_of, greatest_u32}
use Rattle.flow.specs.declared.site.Slot.{Slot}
use Rattle.flow.specs.declared.site.Slot.TheVariants.{Local, Global}
use Rattle.flow.specs.declared.site.Partner.{Partner}
use Rattle.flow.specs.declared.site.Partner.TheVariants.{Variable, Constant}
use Rattle.flow.specs.declared.site.BranchWord.{BranchWord}
use Rattle.flow.specs.declared.site.BranchWord.TheVariants.{If, While, Do, For, Question, AndAnd, OrOr}
use Rattle.flow.specs.declared.site.SiteKind.{SiteKind}
use Rattle.flow.specs.declared.site.SiteKind.TheVariants.{Branch, Return, Pair}
use Rattle.flow.specs.declared.site.Site.{Site}
use Rattle.program_lines.specs.Rows.{name_of}

unfoldable pub branch_of : List ℕ → Option BranchWord
branch_of field =
    if is_word field (codes "if") then Some If else
    (if is_word field (codes "while") then Some While else
    (if is_word field (codes "do") then Some Do else
    (if is_word field (codes "for") then Some For else
    (if is_word field (codes "?:") then Some Question else
    (if is_word field (codes "&&") then Some AndAnd else
    (if is_word field (codes "||") then Some OrOr else None))))))

-- a variable: `l` or `g`, and a number
unfoldable pub slot_of : List ℕ → Option Slot
slot_of [] = None
slot_of (letter ∷ digits) =
    if letter == 108 then option_map Local (number_of greatest_u32 digits) else
    (if letter == 103 then option_map Global (number_of greatest_u32 digits) else None)

-- the last two fields of a pair: a constant and `k`, or a name and its variable
abbrev pub partner_of : List (List ℕ) → Option Partner
partner_of [] = None
partner_of (first ∷ []) = None
partner_of (first ∷ second ∷ []) =
    if is_word second (codes "k") then option_map Constant (signed_of first) else
    (name_of first >>= λ name. option_map (Variable name) (slot_of second))
partner_of (first ∷ second ∷ next ∷ more) = None

abbrev pub branch_fields : List (List ℕ) → Option SiteKind
branch_fields [] = None
branch_fields (word ∷ []) = option_map Branch (branch_of word)
branch_fields (word ∷ next ∷ more) = None

abbrev pub return_fields : List (List ℕ) → Option SiteKind
return_fields [] = None
return_fields (callee ∷ []) = option_map Return (name_of callee)
return_fields (callee ∷ next ∷ more) = None

abbrev pub pair_fields : List (List ℕ) → Option SiteKind
pair_fields [] = None
pair_fields (target ∷ []) = None
pair_fields (target ∷ place ∷ rest) = name_of target >>= λ name. slot_of place >>= λ slot. option_map (Pair name slot) (partner_of rest)

abbrev pub site_kind_of : List ℕ → List (List ℕ) → Option SiteKind
site_kind_of word fields =
    if is_word word (codes "branch") then branch_fields fields else
    (if is_word word (codes "return") then return_fields fields else
    (if is_word word (codes "pair") then pair_fields fields else None))

-- the word of a site's kind, the numbers of its function, its line and its token, and the fields after them
unfoldable pub site_parts : List (List ℕ) → Option ((List ℕ × (ℕ × (ℕ × ℕ))) × List (List ℕ))
site_parts (word ∷ kind ∷ function ∷ line ∷ token ∷ rest) =
    if is_word word (codes "site")
    then (number_of greatest_u32 function >>= λ f. number_of greatest_u32 line >>= λ l. option_map (λ t. ((kind, (f, (l, t))), rest))
    (number_of greatest_u32 token))
    else None
site_parts fields = None

-- the line of a site
unfoldable pub site_of_row : List (List ℕ) → Option Site
site_of_row fields =
    site_parts fields >>= λ parts.
    option_map (λ looks. record { kind = looks; function = parts.0.1.0; line = parts.0.1.1.0; token = parts.0.1.1.1 }) (site_kind_of parts.0.0 parts.1)
