-- The constants of a body are listed from left to right.
use Rattle.std.proofs.Common.{◌≡◌, ℕ, ℤ, List, [], ◌∷◌, ◌++◌, Option, Some, None, refl, sym, ap, ap₂, ◌∙◌, append_assoc}
use Rattle.std.proofs.lemmas.List.{append-nil}
use Rattle.c_syntax.specs.declared.token.Sign.{Sign}
use Rattle.c_syntax.specs.declared.expr.PrefixOperator.TheVariants as prefix
use Rattle.c_syntax.specs.ExprTree as e
use Rattle.c_syntax.specs.Words.{ExprTree, ExprList, LinkList, PostfixList, ItemTree, InitialTree, StartTree, ForStartTree, StatementTree, EntryList}
use Rattle.c_syntax.specs.ItemTree as i
use Rattle.c_syntax.specs.StatementTree as s
use Rattle.flow.specs.declared.site.BranchWord.{BranchWord}
use Rattle.flow.specs.declared.site.BranchWord.TheVariants as word
use Rattle.sites.specs.declared.spots.Spot.{Spot}
use Rattle.sites.specs.declared.spots.Spot.TheVariants as spot
use Rattle.sites.specs.Bodies.{declaration_spots, entries_spots, for_spots, for_start_spots, initial_spots, start_spots, starts_spots, statement_spots}
use Rattle.sites.specs.Spots.{branch_spots, change_spots, expr_spots, exprs_spots, joined_spots, branch_of_sign, links_spots, named_token, part_spots, postfix_spots}
use Rattle.sites.specs.Standing.{item_spots}
use Rattle.sites_laws.specs.Constructs.{SitedConstruct, Expression, Statement, Declared, entries_constructs, expr_constructs, exprs_constructs}
use Rattle.sites_laws.specs.Constructs.{for_start_constructs, initial_constructs, item_constructs, links_constructs, numbers_in, optional_constructs}
use Rattle.sites_laws.specs.Constructs.{postfix_constructs, starts_constructs, statement_constructs, values_in}

values_both : (xs ys : List Spot) → values_in (xs ++ ys) ≡ values_in xs ++ values_in ys
values_both [] ys = refl
values_both (spot.Branch token w ∷ xs) ys = values_both xs ys
values_both (spot.Call token name ∷ xs) ys = values_both xs ys
values_both (spot.Change token target ∷ xs) ys = values_both xs ys
values_both (spot.Constant value ∷ xs) ys = ap (λ vs. value ∷ vs) (values_both xs ys)

numbers_both : (xs ys : List SitedConstruct) → numbers_in (xs ++ ys) ≡ numbers_in xs ++ numbers_in ys
numbers_both [] ys = refl
numbers_both (Expression (e.Comma token operands) ∷ xs) ys = numbers_both xs ys
numbers_both (Expression (e.Assign token s target value) ∷ xs) ys = numbers_both xs ys
numbers_both (Expression (e.Conditional token condition first second) ∷ xs) ys = numbers_both xs ys
numbers_both (Expression (e.Chain level first links) ∷ xs) ys = numbers_both xs ys
numbers_both (Expression (e.Cast token b stars operand) ∷ xs) ys = numbers_both xs ys
numbers_both (Expression (e.Prefix token operator operand) ∷ xs) ys = numbers_both xs ys
numbers_both (Expression (e.SizeOfType token b stars) ∷ xs) ys = numbers_both xs ys
numbers_both (Expression (e.Postfix primary operators) ∷ xs) ys = numbers_both xs ys
numbers_both (Expression (e.Name token name) ∷ xs) ys = numbers_both xs ys
numbers_both (Expression (e.Call token name arguments) ∷ xs) ys = numbers_both xs ys
numbers_both (Expression (e.Constant token kind value) ∷ xs) ys = ap (λ vs. value ∷ vs) (numbers_both xs ys)
numbers_both (Expression (e.Strings token parts) ∷ xs) ys = numbers_both xs ys
numbers_both (Expression (e.Paren token inner) ∷ xs) ys = numbers_both xs ys
numbers_both (Expression (e.Null token) ∷ xs) ys = numbers_both xs ys
numbers_both (Expression (e.EndOfFile token) ∷ xs) ys = numbers_both xs ys
numbers_both (Statement x ∷ xs) ys = numbers_both xs ys
numbers_both (Declared x ∷ xs) ys = numbers_both xs ys

-- one part behind another
in_turn : (xs ys : List Spot) (a b : List SitedConstruct) → values_in xs ≡ numbers_in a → values_in ys ≡ numbers_in b → values_in (xs ++ ys) ≡ numbers_in (a ++ b)
in_turn xs ys a b h g = values_both xs ys ∙ ap₂ (λ l m. l ++ m) h g ∙ sym (numbers_both a b)

-- what has no constant, before a part or behind it
before : (xs ys : List Spot) (l : List ℤ) → values_in xs ≡ [] → values_in ys ≡ l → values_in (xs ++ ys) ≡ l
before xs ys l h g = values_both xs ys ∙ ap (λ m. m ++ values_in ys) h ∙ g

after : (xs ys : List Spot) (l : List ℤ) → values_in xs ≡ l → values_in ys ≡ [] → values_in (xs ++ ys) ≡ l
after xs ys l h g = values_both xs ys ∙ ap (λ m. values_in xs ++ m) g ∙ append-nil (values_in xs) ∙ h

changed_none : (token : ℕ) (o : Option ℕ) → values_in (change_spots token o) ≡ []
changed_none token None = refl
changed_none token (Some target) = refl

joined_none : (token : ℕ) (s : Sign) → values_in (joined_spots token s) ≡ []
joined_none token s = by (branch_of_sign s)
  where
    by : (o : Option BranchWord) → values_in (branch_spots token o) ≡ []
    by None = refl
    by (Some w) = refl

for_none : (token : ℕ) (x : Option ExprTree) → values_in (for_spots token x) ≡ []
for_none token None = refl
for_none token (Some x) = refl

mutual
  expr_ordered : (x : ExprTree) → values_in (expr_spots x) ≡ numbers_in (expr_constructs x)
  expr_ordered (e.Comma token operands) = exprs_ordered operands
  expr_ordered (e.Assign token s target value) =
      in_turn (expr_spots target ++ change_spots token (named_token target)) (expr_spots value) (expr_constructs target) (expr_constructs value)
      (after (expr_spots target) (change_spots token (named_token target)) (numbers_in (expr_constructs target)) (expr_ordered target)
      (changed_none token (named_token target)))
      (expr_ordered value)
  expr_ordered (e.Conditional token condition first second) =
      in_turn (expr_spots condition ++ spot.Branch token word.Question ∷ expr_spots first) (expr_spots second)
      (expr_constructs condition ++ expr_constructs first) (expr_constructs second)
      (in_turn (expr_spots condition) (spot.Branch token word.Question ∷ expr_spots first) (expr_constructs condition) (expr_constructs first)
      (expr_ordered condition) (expr_ordered first))
      (expr_ordered second)
      ∙ ap numbers_in (append_assoc (expr_constructs condition) (expr_constructs first) (expr_constructs second))
  expr_ordered (e.Chain level first links) =
      in_turn (expr_spots first) (links_spots links) (expr_constructs first) (links_constructs links) (expr_ordered first) (links_ordered links)
  expr_ordered (e.Cast token b stars operand) = expr_ordered operand
  expr_ordered (e.Prefix token prefix.Increment operand) =
      before (change_spots token (named_token operand)) (expr_spots operand) (numbers_in (expr_constructs operand)) (changed_none token (named_token operand))
      (expr_ordered operand)
  expr_ordered (e.Prefix token prefix.Decrement operand) =
      before (change_spots token (named_token operand)) (expr_spots operand) (numbers_in (expr_constructs operand)) (changed_none token (named_token operand))
      (expr_ordered operand)
  expr_ordered (e.Prefix token prefix.Address operand) = expr_ordered operand
  expr_ordered (e.Prefix token prefix.Indirection operand) = expr_ordered operand
  expr_ordered (e.Prefix token prefix.Plus operand) = expr_ordered operand
  expr_ordered (e.Prefix token prefix.Minus operand) = expr_ordered operand
  expr_ordered (e.Prefix token prefix.Complement operand) = expr_ordered operand
  expr_ordered (e.Prefix token prefix.Not operand) = expr_ordered operand
  expr_ordered (e.Postfix primary operators) =
      in_turn (expr_spots primary) (postfix_spots (named_token primary) operators) (expr_constructs primary) (postfix_constructs operators)
      (expr_ordered primary) (postfix_ordered operators (named_token primary))
  expr_ordered (e.Call token name arguments) = exprs_ordered arguments
  expr_ordered (e.Paren token inner) = expr_ordered inner
  expr_ordered x = refl

  exprs_ordered : (xs : ExprList) → values_in (exprs_spots xs) ≡ numbers_in (exprs_constructs xs)
  exprs_ordered e.no_exprs = refl
  exprs_ordered (e.more_exprs x rest) =
      in_turn (expr_spots x) (exprs_spots rest) (expr_constructs x) (exprs_constructs rest) (expr_ordered x) (exprs_ordered rest)

  links_ordered : (links : LinkList) → values_in (links_spots links) ≡ numbers_in (links_constructs links)
  links_ordered e.no_links = refl
  links_ordered (e.more_links token s operand rest) =
      in_turn (joined_spots token s ++ expr_spots operand) (links_spots rest) (expr_constructs operand) (links_constructs rest)
      (before (joined_spots token s) (expr_spots operand) (numbers_in (expr_constructs operand)) (joined_none token s) (expr_ordered operand))
      (links_ordered rest)

  postfix_ordered : (operators : PostfixList) (o : Option ℕ) → values_in (postfix_spots o operators) ≡ numbers_in (postfix_constructs operators)
  postfix_ordered e.no_postfix o = refl
  postfix_ordered (e.index token x rest) o =
      in_turn (expr_spots x) (postfix_spots None rest) (expr_constructs x) (postfix_constructs rest) (expr_ordered x) (postfix_ordered rest None)
  postfix_ordered (e.member token name rest) o = postfix_ordered rest None
  postfix_ordered (e.arrow token name rest) o = postfix_ordered rest None
  postfix_ordered (e.increment token rest) o =
      before (change_spots token o) (postfix_spots None rest) (numbers_in (postfix_constructs rest)) (changed_none token o) (postfix_ordered rest None)
  postfix_ordered (e.decrement token rest) o =
      before (change_spots token o) (postfix_spots None rest) (numbers_in (postfix_constructs rest)) (changed_none token o) (postfix_ordered rest None)

part_ordered : (x : Option ExprTree) → values_in (part_spots x) ≡ numbers_in (optional_constructs x)
part_ordered None = refl
part_ordered (Some x) = expr_ordered x

initial_ordered : (name_token : ℕ) (x : Option InitialTree) → values_in (initial_spots name_token x) ≡ numbers_in (initial_constructs x)
initial_ordered name_token None = refl
initial_ordered name_token (Some (s.Value value)) = expr_ordered value
initial_ordered name_token (Some (s.Braced token items comma)) = exprs_ordered items

starts_ordered : (xs : List StartTree) → values_in (starts_spots xs) ≡ numbers_in (starts_constructs xs)
starts_ordered [] = refl
starts_ordered (x ∷ xs) =
    in_turn (start_spots x) (starts_spots xs) (initial_constructs x.initial) (starts_constructs xs)
    (initial_ordered x.declarator.name_token x.initial) (starts_ordered xs)

for_start_ordered : (x : ForStartTree) → values_in (for_start_spots x) ≡ numbers_in (for_start_constructs x)
for_start_ordered (s.Declares declaration) = starts_ordered declaration.starts
for_start_ordered (s.Computes x) = part_ordered x

mutual
  statement_ordered : (x : StatementTree) → values_in (statement_spots x) ≡ numbers_in (statement_constructs x)
  statement_ordered (s.Block token entries) = entries_ordered entries
  statement_ordered (s.Expr token x) = expr_ordered x
  statement_ordered (s.If token condition first) =
      in_turn (spot.Branch token word.If ∷ expr_spots condition) (statement_spots first) (expr_constructs condition) (statement_constructs first)
      (expr_ordered condition) (statement_ordered first)
  statement_ordered (s.IfElse token condition first second) =
      in_turn (spot.Branch token word.If ∷ expr_spots condition ++ statement_spots first) (statement_spots second)
      (expr_constructs condition ++ statement_constructs first) (statement_constructs second)
      (in_turn (spot.Branch token word.If ∷ expr_spots condition) (statement_spots first) (expr_constructs condition) (statement_constructs first)
      (expr_ordered condition) (statement_ordered first))
      (statement_ordered second)
      ∙ ap numbers_in (append_assoc (expr_constructs condition) (statement_constructs first) (statement_constructs second))
  statement_ordered (s.While token condition body) =
      in_turn (spot.Branch token word.While ∷ expr_spots condition) (statement_spots body) (expr_constructs condition) (statement_constructs body)
      (expr_ordered condition) (statement_ordered body)
  statement_ordered (s.Do token body condition) =
      in_turn (spot.Branch token word.Do ∷ statement_spots body) (expr_spots condition) (statement_constructs body) (expr_constructs condition)
      (statement_ordered body) (expr_ordered condition)
  statement_ordered (s.For token start condition step body) =
      let a : List SitedConstruct = for_start_constructs start in
      let b : List SitedConstruct = optional_constructs condition in
      let c : List SitedConstruct = optional_constructs step in
      let d : List SitedConstruct = statement_constructs body in
      in_turn (for_spots token condition ++ for_start_spots start ++ part_spots condition ++ part_spots step) (statement_spots body) ((a ++ b) ++ c) d
      (in_turn (for_spots token condition ++ for_start_spots start ++ part_spots condition) (part_spots step) (a ++ b) c
      (in_turn (for_spots token condition ++ for_start_spots start) (part_spots condition) a b
      (before (for_spots token condition) (for_start_spots start) (numbers_in a) (for_none token condition) (for_start_ordered start))
      (part_ordered condition))
      (part_ordered step))
      (statement_ordered body)
      ∙ ap numbers_in (append_assoc (a ++ b) c d ∙ append_assoc a b (c ++ d))
  statement_ordered (s.Return token value) = part_ordered value
  statement_ordered x = refl

  entries_ordered : (xs : EntryList) → values_in (entries_spots xs) ≡ numbers_in (entries_constructs xs)
  entries_ordered s.no_entries = refl
  entries_ordered (s.declared declaration rest) =
      in_turn (declaration_spots declaration) (entries_spots rest) (starts_constructs declaration.starts) (entries_constructs rest)
      (starts_ordered declaration.starts) (entries_ordered rest)
  entries_ordered (s.stated statement rest) =
      in_turn (statement_spots statement) (entries_spots rest) (statement_constructs statement) (entries_constructs rest)
      (statement_ordered statement) (entries_ordered rest)

pub item_ordered : (x : ItemTree) → values_in (item_spots x) ≡ numbers_in (item_constructs x)
item_ordered (i.Function token b stars name ps (Some body)) = entries_ordered body
item_ordered x = refl
