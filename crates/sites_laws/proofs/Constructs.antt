-- What a body holds for sites is what its constructs make.
use Rattle.std.proofs.Common.{◌≡◌, ℕ, ◌+◌, Bool, List, [], ◌∷◌, ◌++◌, length, Option, Some, None, refl, sym, ap, ◌∙◌, arith, append_assoc}
use Rattle.std.specs.Prelude.{cond, count_by}
use Rattle.std.proofs.lemmas.List.Sums.{sum_by-append}
use Rattle.c_syntax.specs.declared.token.Sign.{Sign}
use Rattle.c_syntax.specs.declared.token.Sign.TheVariants as sign
use Rattle.c_syntax.specs.declared.expr.PrefixOperator.TheVariants as prefix
use Rattle.c_syntax.specs.ExprTree as e
use Rattle.c_syntax.specs.Words.{ExprTree, ExprList, LinkList, PostfixList, ItemTree, ItemAt, item_kinds, InitialTree, StartTree, ForStartTree, StatementTree}
use Rattle.c_syntax.specs.Words.{EntryList}
use Rattle.c_syntax.specs.ItemTree as i
use Rattle.c_syntax.specs.StatementTree as s
use Rattle.flow.specs.declared.site.BranchWord.TheVariants as word
use Rattle.sites.specs.declared.spots.Spot.{Spot}
use Rattle.sites.specs.declared.spots.Spot.TheVariants as spot
use Rattle.sites.specs.Bodies.{declaration_spots, entries_spots, for_spots, for_start_spots, initial_spots, start_spots, starts_spots, statement_spots}
use Rattle.sites.specs.Spots.{change_spots, expr_spots, exprs_spots, joined_spots, links_spots, named_token, part_spots, postfix_spots}
use Rattle.sites.specs.Standing.{item_spots}
use Rattle.sites.proofs.Rises.{Rises}
use Rattle.sites.proofs.RisesTable.{rises-held}
use Rattle.sites_laws.specs.Constructs.{AreMadeBy, SitedConstruct, Expression, Statement, Declared, SpotsRise, all_decide, all_make, begins_with, new_value_spots, logical_branch_spots}
use Rattle.sites_laws.specs.Constructs.{entries_constructs, expr_constructs, exprs_constructs, for_start_constructs, initial_constructs, item_constructs}
use Rattle.sites_laws.specs.Constructs.{links_constructs, construct_spots, optional_constructs, postfix_constructs, starts_constructs, statement_constructs}
use Rattle.sites_laws.specs.Constructs.{statement_makes, steps_behind}

-- the tables

changes_are : (token : ℕ) (x : ExprTree) → change_spots token (named_token x) ≡ new_value_spots token x
changes_are own (e.Comma token operands) = refl
changes_are own (e.Assign token s target value) = refl
changes_are own (e.Conditional token condition first second) = refl
changes_are own (e.Chain level first links) = refl
changes_are own (e.Cast token b stars operand) = refl
changes_are own (e.Prefix token operator operand) = refl
changes_are own (e.SizeOfType token b stars) = refl
changes_are own (e.Postfix primary operators) = refl
changes_are own (e.Name token name) = refl
changes_are own (e.Call token name arguments) = refl
changes_are own (e.Constant token kind value) = refl
changes_are own (e.Strings token parts) = refl
changes_are own (e.Paren token inner) = refl
changes_are own (e.Null token) = refl
changes_are own (e.EndOfFile token) = refl

decides_is : (token : ℕ) (s : Sign) → joined_spots token s ≡ logical_branch_spots token s
decides_is token sign.LeftBrace = refl
decides_is token sign.RightBrace = refl
decides_is token sign.LeftParen = refl
decides_is token sign.RightParen = refl
decides_is token sign.LeftBracket = refl
decides_is token sign.RightBracket = refl
decides_is token sign.Semicolon = refl
decides_is token sign.Comma = refl
decides_is token sign.Dot = refl
decides_is token sign.Arrow = refl
decides_is token sign.PlusPlus = refl
decides_is token sign.MinusMinus = refl
decides_is token sign.Ampersand = refl
decides_is token sign.Star = refl
decides_is token sign.Plus = refl
decides_is token sign.Minus = refl
decides_is token sign.Tilde = refl
decides_is token sign.Exclamation = refl
decides_is token sign.Slash = refl
decides_is token sign.Percent = refl
decides_is token sign.ShiftLeft = refl
decides_is token sign.ShiftRight = refl
decides_is token sign.Less = refl
decides_is token sign.Greater = refl
decides_is token sign.LessEqual = refl
decides_is token sign.GreaterEqual = refl
decides_is token sign.EqualEqual = refl
decides_is token sign.NotEqual = refl
decides_is token sign.Caret = refl
decides_is token sign.Bar = refl
decides_is token sign.AndAnd = refl
decides_is token sign.OrOr = refl
decides_is token sign.Question = refl
decides_is token sign.Colon = refl
decides_is token sign.Equal = refl
decides_is token sign.StarEqual = refl
decides_is token sign.SlashEqual = refl
decides_is token sign.PercentEqual = refl
decides_is token sign.PlusEqual = refl
decides_is token sign.MinusEqual = refl
decides_is token sign.ShiftLeftEqual = refl
decides_is token sign.ShiftRightEqual = refl
decides_is token sign.AndEqual = refl
decides_is token sign.XorEqual = refl
decides_is token sign.OrEqual = refl

all_both : (xs ys : List SitedConstruct) → all_make (xs ++ ys) ≡ all_make xs ++ all_make ys
all_both [] ys = refl
all_both (x ∷ xs) ys = ap (λ zs. construct_spots x ++ zs) (all_both xs ys) ∙ sym (append_assoc (construct_spots x) (all_make xs) (all_make ys))

for_is : (token : ℕ) (start : ForStartTree) (condition step : Option ExprTree) (body : StatementTree)
    → for_spots token condition ≡ statement_makes (s.For token start condition step body)
for_is token start None step body = refl
for_is token start (Some x) step body = refl

-- how often something is among them
module _ (p : Spot → Bool) where
  abbrev n : List Spot → ℕ
  n spots = count_by p spots

  abbrev m : List SitedConstruct → ℕ
  m constructs = count_by p (all_make constructs)

  both : (xs ys : List Spot) → n (xs ++ ys) ≡ n xs + n ys
  both xs ys = sum_by-append (λ (x : Spot). cond (p x) 1 0) xs ys

  made_both : (xs ys : List SitedConstruct) → m (xs ++ ys) ≡ m xs + m ys
  made_both xs ys = ap n (all_both xs ys) ∙ both (all_make xs) (all_make ys)

  -- a construct before those in it
  own : (x : SitedConstruct) (xs : List SitedConstruct) → m (x ∷ xs) ≡ n (construct_spots x) + m xs
  own x xs = both (construct_spots x) (all_make xs)

  -- `++` or `--` before an operand
  step_made : (token : ℕ) (operand : ExprTree) → n (expr_spots operand) ≡ m (expr_constructs operand)
      → n (change_spots token (named_token operand) ++ expr_spots operand) ≡ n (new_value_spots token operand ++ all_make (expr_constructs operand))
  step_made token operand h = omega (
    arith,
    both (change_spots token (named_token operand)) (expr_spots operand),
    both (new_value_spots token operand) (all_make (expr_constructs operand)),
    ap n (changes_are token operand),
    h,
  )

  mutual
    expr_made : (x : ExprTree) → n (expr_spots x) ≡ m (expr_constructs x)
    expr_made (e.Comma token operands) = exprs_made operands
    expr_made (e.Assign token s target value) = omega (
      arith,
      both (expr_spots target ++ change_spots token (named_token target)) (expr_spots value),
      both (expr_spots target) (change_spots token (named_token target)),
      ap n (changes_are token target),
      own (Expression (e.Assign token s target value)) (expr_constructs target ++ expr_constructs value),
      made_both (expr_constructs target) (expr_constructs value),
      expr_made target,
      expr_made value,
    )
    expr_made (e.Conditional token condition first second) = omega (
      arith,
      both (expr_spots condition ++ spot.Branch token word.Question ∷ expr_spots first) (expr_spots second),
      both (expr_spots condition) (spot.Branch token word.Question ∷ expr_spots first),
      both (spot.Branch token word.Question ∷ []) (expr_spots first),
      own (Expression (e.Conditional token condition first second)) (expr_constructs condition ++ (expr_constructs first ++ expr_constructs second)),
      made_both (expr_constructs condition) (expr_constructs first ++ expr_constructs second),
      made_both (expr_constructs first) (expr_constructs second),
      expr_made condition,
      expr_made first,
      expr_made second,
    )
    expr_made (e.Chain level first links) = omega (
      arith,
      both (expr_spots first) (links_spots links),
      own (Expression (e.Chain level first links)) (expr_constructs first ++ links_constructs links),
      made_both (expr_constructs first) (links_constructs links),
      expr_made first,
      links_made links,
    )
    expr_made (e.Cast token b stars operand) = expr_made operand
    expr_made (e.Prefix token prefix.Increment operand) = step_made token operand (expr_made operand)
    expr_made (e.Prefix token prefix.Decrement operand) = step_made token operand (expr_made operand)
    expr_made (e.Prefix token prefix.SizeOf operand) = refl
    expr_made (e.Prefix token prefix.Address operand) = expr_made operand
    expr_made (e.Prefix token prefix.Indirection operand) = expr_made operand
    expr_made (e.Prefix token prefix.Plus operand) = expr_made operand
    expr_made (e.Prefix token prefix.Minus operand) = expr_made operand
    expr_made (e.Prefix token prefix.Complement operand) = expr_made operand
    expr_made (e.Prefix token prefix.Not operand) = expr_made operand
    expr_made (e.SizeOfType token b stars) = refl
    expr_made (e.Postfix primary operators) = omega (
      arith,
      both (expr_spots primary) (postfix_spots (named_token primary) operators),
      own (Expression (e.Postfix primary operators)) (expr_constructs primary ++ postfix_constructs operators),
      made_both (expr_constructs primary) (postfix_constructs operators),
      expr_made primary,
      behind_made primary operators,
    )
    expr_made (e.Name token name) = refl
    expr_made (e.Call token name arguments) = omega (
      arith,
      both (spot.Call token name ∷ []) (exprs_spots arguments),
      own (Expression (e.Call token name arguments)) (exprs_constructs arguments),
      exprs_made arguments,
    )
    expr_made (e.Constant token kind value) = refl
    expr_made (e.Strings token parts) = refl
    expr_made (e.Paren token inner) = expr_made inner
    expr_made (e.Null token) = refl
    expr_made (e.EndOfFile token) = refl

    exprs_made : (xs : ExprList) → n (exprs_spots xs) ≡ m (exprs_constructs xs)
    exprs_made e.no_exprs = refl
    exprs_made (e.more_exprs x rest) = omega (
      arith,
      both (expr_spots x) (exprs_spots rest),
      made_both (expr_constructs x) (exprs_constructs rest),
      expr_made x,
      exprs_made rest,
    )

    links_made : (links : LinkList) → n (links_spots links) ≡ n (all_decide links) + m (links_constructs links)
    links_made e.no_links = omega arith
    links_made (e.more_links token s operand rest) = omega (
      arith,
      both (joined_spots token s ++ expr_spots operand) (links_spots rest),
      both (joined_spots token s) (expr_spots operand),
      ap n (decides_is token s),
      both (logical_branch_spots token s) (all_decide rest),
      made_both (expr_constructs operand) (links_constructs rest),
      expr_made operand,
      links_made rest,
    )

    postfix_made : (operators : PostfixList) → n (postfix_spots None operators) ≡ m (postfix_constructs operators)
    postfix_made e.no_postfix = refl
    postfix_made (e.index token x rest) = omega (
      arith,
      both (expr_spots x) (postfix_spots None rest),
      made_both (expr_constructs x) (postfix_constructs rest),
      expr_made x,
      postfix_made rest,
    )
    postfix_made (e.member token name rest) = postfix_made rest
    postfix_made (e.arrow token name rest) = postfix_made rest
    postfix_made (e.increment token rest) = postfix_made rest
    postfix_made (e.decrement token rest) = postfix_made rest

    -- the operators behind a primary expression
    behind_made : (x : ExprTree) (operators : PostfixList)
        → n (postfix_spots (named_token x) operators) ≡ n (steps_behind x operators) + m (postfix_constructs operators)
    behind_made x e.no_postfix = omega arith
    behind_made x (e.index token y rest) = omega (
      arith,
      both (expr_spots y) (postfix_spots None rest),
      made_both (expr_constructs y) (postfix_constructs rest),
      expr_made y,
      postfix_made rest,
    )
    behind_made x (e.member token name rest) = omega (arith, postfix_made rest)
    behind_made x (e.arrow token name rest) = omega (arith, postfix_made rest)
    behind_made x (e.increment token rest) =
        omega (arith, both (change_spots token (named_token x)) (postfix_spots None rest), ap n (changes_are token x), postfix_made rest)
    behind_made x (e.decrement token rest) =
        omega (arith, both (change_spots token (named_token x)) (postfix_spots None rest), ap n (changes_are token x), postfix_made rest)

  part_made : (x : Option ExprTree) → n (part_spots x) ≡ m (optional_constructs x)
  part_made None = refl
  part_made (Some x) = expr_made x

  initial_made : (name_token : ℕ) (x : Option InitialTree)
      → n (initial_spots name_token x) ≡ n (begins_with name_token x) + m (initial_constructs x)
  initial_made name_token None = omega arith
  initial_made name_token (Some (s.Value value)) =
      omega (arith, both (spot.Change (name_token + 1) name_token ∷ []) (expr_spots value), expr_made value)
  initial_made name_token (Some (s.Braced token items comma)) = omega (arith, exprs_made items)

  starts_made : (xs : List StartTree) → n (starts_spots xs) ≡ m (starts_constructs xs)
  starts_made [] = refl
  starts_made (x ∷ xs) = omega (
    arith,
    both (start_spots x) (starts_spots xs),
    own (Declared x) (initial_constructs x.initial ++ starts_constructs xs),
    made_both (initial_constructs x.initial) (starts_constructs xs),
    initial_made x.declarator.name_token x.initial,
    starts_made xs,
  )

  for_start_made : (x : ForStartTree) → n (for_start_spots x) ≡ m (for_start_constructs x)
  for_start_made (s.Declares declaration) = starts_made declaration.starts
  for_start_made (s.Computes x) = part_made x

  mutual
    statement_made : (x : StatementTree) → n (statement_spots x) ≡ m (statement_constructs x)
    statement_made (s.Block token entries) = entries_made entries
    statement_made (s.Empty token) = refl
    statement_made (s.Expr token x) = expr_made x
    statement_made (s.If token condition first) = omega (
      arith,
      both (spot.Branch token word.If ∷ expr_spots condition) (statement_spots first),
      both (spot.Branch token word.If ∷ []) (expr_spots condition),
      own (Statement (s.If token condition first)) (expr_constructs condition ++ statement_constructs first),
      made_both (expr_constructs condition) (statement_constructs first),
      expr_made condition,
      statement_made first,
    )
    statement_made (s.IfElse token condition first second) = omega (
      arith,
      both (spot.Branch token word.If ∷ expr_spots condition ++ statement_spots first) (statement_spots second),
      both (spot.Branch token word.If ∷ expr_spots condition) (statement_spots first),
      both (spot.Branch token word.If ∷ []) (expr_spots condition),
      own (Statement (s.IfElse token condition first second)) (expr_constructs condition ++ (statement_constructs first ++ statement_constructs second)),
      made_both (expr_constructs condition) (statement_constructs first ++ statement_constructs second),
      made_both (statement_constructs first) (statement_constructs second),
      expr_made condition,
      statement_made first,
      statement_made second,
    )
    statement_made (s.While token condition body) = omega (
      arith,
      both (spot.Branch token word.While ∷ expr_spots condition) (statement_spots body),
      both (spot.Branch token word.While ∷ []) (expr_spots condition),
      own (Statement (s.While token condition body)) (expr_constructs condition ++ statement_constructs body),
      made_both (expr_constructs condition) (statement_constructs body),
      expr_made condition,
      statement_made body,
    )
    statement_made (s.Do token body condition) = omega (
      arith,
      both (spot.Branch token word.Do ∷ statement_spots body) (expr_spots condition),
      both (spot.Branch token word.Do ∷ []) (statement_spots body),
      own (Statement (s.Do token body condition)) (statement_constructs body ++ expr_constructs condition),
      made_both (statement_constructs body) (expr_constructs condition),
      statement_made body,
      expr_made condition,
    )
    statement_made (s.For token start condition step body) = omega (
      arith,
      both (for_spots token condition ++ for_start_spots start ++ part_spots condition ++ part_spots step) (statement_spots body),
      both (for_spots token condition ++ for_start_spots start ++ part_spots condition) (part_spots step),
      both (for_spots token condition ++ for_start_spots start) (part_spots condition),
      both (for_spots token condition) (for_start_spots start),
      ap n (for_is token start condition step body),
      own (Statement (s.For token start condition step body))
          (for_start_constructs start ++ (optional_constructs condition ++ (optional_constructs step ++ statement_constructs body))),
      made_both (for_start_constructs start) (optional_constructs condition ++ (optional_constructs step ++ statement_constructs body)),
      made_both (optional_constructs condition) (optional_constructs step ++ statement_constructs body),
      made_both (optional_constructs step) (statement_constructs body),
      for_start_made start,
      part_made condition,
      part_made step,
      statement_made body,
    )
    statement_made (s.Return token value) = part_made value
    statement_made (s.Break token) = refl
    statement_made (s.Continue token) = refl

    entries_made : (xs : EntryList) → n (entries_spots xs) ≡ m (entries_constructs xs)
    entries_made s.no_entries = refl
    entries_made (s.declared declaration rest) = omega (
      arith,
      both (declaration_spots declaration) (entries_spots rest),
      made_both (starts_constructs declaration.starts) (entries_constructs rest),
      starts_made declaration.starts,
      entries_made rest,
    )
    entries_made (s.stated statement rest) = omega (
      arith,
      both (statement_spots statement) (entries_spots rest),
      made_both (statement_constructs statement) (entries_constructs rest),
      statement_made statement,
      entries_made rest,
    )

pub item_made : (x : ItemTree) → AreMadeBy (item_constructs x) (item_spots x)
item_made (i.Function token b stars name ps (Some body)) = λ p. entries_made p body
item_made x = λ p. refl

rise_so : (low high : ℕ) (spots : List Spot) → Rises low high spots → SpotsRise low high spots
rise_so low high [] h = h
rise_so low high (spot.Branch token word ∷ rest) h = (h.0, h.1, rise_so token high rest h.2)
rise_so low high (spot.Call token name ∷ rest) h = (h.0, h.1, rise_so token high rest h.2)
rise_so low high (spot.Change token target ∷ rest) h = (h.0, h.1, rise_so token high rest h.2)
rise_so low high (spot.Constant value ∷ rest) h = rise_so low high rest h

pub item_rises : (x : ItemTree) (at : ℕ) → ItemAt at x → SpotsRise at (at + length (item_kinds x)) (item_spots x)
item_rises x at h = rise_so at (at + length (item_kinds x)) (item_spots x) (rises-held at x h)
