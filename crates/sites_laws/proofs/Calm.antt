-- What expressions hold for sites: no branch of a statement.
use Rattle.std.proofs.Common.{◌≡◌, ℕ, ◌+◌, Bool, true, false, List, [], ◌∷◌, ◌++◌, Option, Some, None, refl, sym, ◌∙◌, arith}
use Rattle.std.specs.Prelude.{cond, count_by}
use Rattle.std.proofs.lemmas.Bool.{false≢true}
use Rattle.std.proofs.lemmas.List.Sums.{sum_by-append}
use Rattle.c_syntax.specs.declared.expr.PrefixOperator.TheVariants as prefix
use Rattle.c_syntax.specs.declared.token.Sign.{Sign}
use Rattle.c_syntax.specs.declared.token.Sign.TheVariants as sign
use Rattle.c_syntax.specs.ExprTree as e
use Rattle.c_syntax.specs.StatementTree as s
use Rattle.c_syntax.specs.Words.{ExprTree, ExprList, LinkList, PostfixList, InitialTree, StartTree}
use Rattle.flow.specs.declared.site.BranchWord.TheVariants as branch
use Rattle.sites.specs.declared.spots.Spot.{Spot}
use Rattle.sites.specs.declared.spots.Spot.TheVariants as spot
use Rattle.sites.specs.Bodies.{initial_spots, start_spots, starts_spots}
use Rattle.sites.specs.Spots.{change_spots, expr_spots, exprs_spots, joined_spots, links_spots, named_token, part_spots, postfix_spots}

abbrev pub is_calm : Spot → Bool
is_calm (spot.Branch token branch.If) = false
is_calm (spot.Branch token branch.While) = false
is_calm (spot.Branch token branch.Do) = false
is_calm (spot.Branch token branch.For) = false
is_calm other = true

abbrev pub Calm : List Spot → Type 0
Calm [] = Unit {0}
Calm (x ∷ xs) = (is_calm x ≡ true) × Calm xs

both : (xs ys : List Spot) → Calm xs → Calm ys → Calm (xs ++ ys)
both [] ys h g = g
both (x ∷ xs) ys h g = (h.0, both xs ys h.1 g)

-- none of them is counted
pub none_in : (p : Spot → Bool) → ((x : Spot) → is_calm x ≡ true → p x ≡ false) → (xs : List Spot) → Calm xs → count_by p xs ≡ 0
none_in p none [] h = refl
none_in p none (x ∷ xs) h =
    sum_by-append (λ (y : Spot). cond (p y) 1 0) (x ∷ []) xs ∙ by (p x) (none x h.0) (none_in p none xs h.1)
  where
    by : (b : Bool) → b ≡ false → count_by p xs ≡ 0 → 0 + cond b 1 0 + count_by p xs ≡ 0
    by true e g = absurd (false≢true (sym e))
    by false e g = omega (arith, g)

changes : (token : ℕ) (o : Option ℕ) → Calm (change_spots token o)
changes token None = tt
changes token (Some target) = (refl, tt)

joins : (token : ℕ) (x : Sign) → Calm (joined_spots token x)
joins token sign.AndAnd = (refl, tt)
joins token sign.OrOr = (refl, tt)
joins token x = tt

mutual
  pub expr_calm : (x : ExprTree) → Calm (expr_spots x)
  expr_calm (e.Comma token operands) = exprs_calm operands
  expr_calm (e.Assign token x target value) =
      both (expr_spots target ++ change_spots token (named_token target)) (expr_spots value)
      (both (expr_spots target) (change_spots token (named_token target)) (expr_calm target) (changes token (named_token target))) (expr_calm value)
  expr_calm (e.Conditional token condition first second) =
      both (expr_spots condition ++ spot.Branch token branch.Question ∷ expr_spots first) (expr_spots second)
      (both (expr_spots condition) (spot.Branch token branch.Question ∷ expr_spots first) (expr_calm condition) (refl, expr_calm first)) (expr_calm second)
  expr_calm (e.Chain level first links) = both (expr_spots first) (links_spots links) (expr_calm first) (links_calm links)
  expr_calm (e.Cast token b stars operand) = expr_calm operand
  expr_calm (e.Prefix token prefix.Increment operand) = both (change_spots token (named_token operand)) (expr_spots operand)
      (changes token (named_token operand)) (expr_calm operand)
  expr_calm (e.Prefix token prefix.Decrement operand) = both (change_spots token (named_token operand)) (expr_spots operand)
      (changes token (named_token operand)) (expr_calm operand)
  expr_calm (e.Prefix token prefix.SizeOf operand) = tt
  expr_calm (e.Prefix token operator operand) = expr_calm operand
  expr_calm (e.SizeOfType token b stars) = tt
  expr_calm (e.Postfix primary operators) = both (expr_spots primary) (postfix_spots (named_token primary) operators)
      (expr_calm primary) (postfix_calm (named_token primary) operators)
  expr_calm (e.Name token name) = tt
  expr_calm (e.Call token name arguments) = (refl, exprs_calm arguments)
  expr_calm (e.Constant token kind value) = (refl, tt)
  expr_calm (e.Strings token parts) = tt
  expr_calm (e.Paren token inner) = expr_calm inner
  expr_calm (e.Null token) = tt
  expr_calm (e.EndOfFile token) = tt

  exprs_calm : (xs : ExprList) → Calm (exprs_spots xs)
  exprs_calm e.no_exprs = tt
  exprs_calm (e.more_exprs x rest) = both (expr_spots x) (exprs_spots rest) (expr_calm x) (exprs_calm rest)

  links_calm : (links : LinkList) → Calm (links_spots links)
  links_calm e.no_links = tt
  links_calm (e.more_links token x operand rest) = both (joined_spots token x ++ expr_spots operand) (links_spots rest)
      (both (joined_spots token x) (expr_spots operand) (joins token x) (expr_calm operand)) (links_calm rest)

  postfix_calm : (target : Option ℕ) (operators : PostfixList) → Calm (postfix_spots target operators)
  postfix_calm target e.no_postfix = tt
  postfix_calm target (e.index token x rest) = both (expr_spots x) (postfix_spots None rest) (expr_calm x) (postfix_calm None rest)
  postfix_calm target (e.member token name rest) = postfix_calm None rest
  postfix_calm target (e.arrow token name rest) = postfix_calm None rest
  postfix_calm target (e.increment token rest) = both (change_spots token target) (postfix_spots None rest) (changes token target) (postfix_calm None rest)
  postfix_calm target (e.decrement token rest) = both (change_spots token target) (postfix_spots None rest) (changes token target) (postfix_calm None rest)

pub part_calm : (x : Option ExprTree) → Calm (part_spots x)
part_calm None = tt
part_calm (Some x) = expr_calm x

initial_calm : (name_token : ℕ) (x : Option InitialTree) → Calm (initial_spots name_token x)
initial_calm name_token None = tt
initial_calm name_token (Some (s.Value value)) = (refl, expr_calm value)
initial_calm name_token (Some (s.Braced token items comma)) = exprs_calm items

pub starts_calm : (xs : List StartTree) → Calm (starts_spots xs)
starts_calm [] = tt
starts_calm (x ∷ xs) = both (start_spots x) (starts_spots xs) (initial_calm x.declarator.name_token x.initial) (starts_calm xs)
