-- The constructs of a body leave no expression out that the events of its tree list.
use Rattle.std.proofs.Common.{◌≡◌, ℕ, ◌+◌, Bool, List, [], ◌∷◌, ◌++◌, length, Option, Some, None, refl, sym, ap, ◌∙◌, arith, append_assoc}
use Rattle.std.specs.Prelude.{cond, count_by}
use Rattle.std.proofs.lemmas.List.Sums.{sum_by-append}
use Rattle.c_syntax.specs.declared.expr.PrefixOperator.TheVariants as prefix
use Rattle.c_syntax.specs.ExprTree as e
use Rattle.c_syntax.specs.Words.{ExprTree, ExprList, LinkList, PostfixList, ItemTree, declarator_kinds, InitialTree, StartTree, ForStartTree, StatementTree}
use Rattle.c_syntax.specs.Words.{EntryList}
use Rattle.c_syntax.specs.ItemTree as i
use Rattle.c_syntax.specs.StatementTree as s
use Rattle.c_meaning.specs.Trees.{token_of}
use Rattle.c_types_faults.specs.Events.{Calls, Other, Event, Value, Initialises, Variable, Opens, Closes, Struct, Names, Defines}
use Rattle.c_types_faults.specs.Events.{declaration_events, entries_events, expr_events, exprs_events, for_start_events, initial_events, links_events}
use Rattle.c_types_faults.specs.Events.{optional_events, postfix_events, scope_events, start_events, starts_events, statement_events}
use Rattle.sites_laws.specs.Constructs.{AreAll, Expression, SitedConstruct, all_tokens, body_events, entries_constructs, expr_constructs, exprs_constructs}
use Rattle.sites_laws.specs.Constructs.{for_start_constructs, initial_constructs, item_constructs, link_tokens, links_constructs, optional_constructs}
use Rattle.sites_laws.specs.Constructs.{own_tokens, postfix_constructs, postfix_tokens, starts_constructs, statement_constructs, tokens_of}

tokens_both : (xs ys : List Event) → own_tokens (xs ++ ys) ≡ own_tokens xs ++ own_tokens ys
tokens_both [] ys = refl
tokens_both (Value token c ∷ xs) ys = ap (λ ks. token ∷ ks) (tokens_both xs ys)
tokens_both (Initialises token ∷ xs) ys = tokens_both xs ys
tokens_both (Variable token ∷ xs) ys = tokens_both xs ys
tokens_both (Opens ∷ xs) ys = tokens_both xs ys
tokens_both (Closes ∷ xs) ys = tokens_both xs ys
tokens_both (Struct ∷ xs) ys = tokens_both xs ys
tokens_both (Names name ∷ xs) ys = tokens_both xs ys
tokens_both (Defines ∷ xs) ys = tokens_both xs ys

all_both : (xs ys : List SitedConstruct) → all_tokens (xs ++ ys) ≡ all_tokens xs ++ all_tokens ys
all_both [] ys = refl
all_both (x ∷ xs) ys = ap (λ ks. tokens_of x ++ ks) (all_both xs ys) ∙ sym (append_assoc (tokens_of x) (all_tokens xs) (all_tokens ys))

-- how often a token is among them
module _ (p : ℕ → Bool) where
  abbrev c : List ℕ → ℕ
  c tokens = count_by p tokens

  abbrev n : List Event → ℕ
  n events = c (own_tokens events)

  abbrev m : List SitedConstruct → ℕ
  m constructs = c (all_tokens constructs)

  joined : (xs ys : List ℕ) → c (xs ++ ys) ≡ c xs + c ys
  joined xs ys = sum_by-append (λ (x : ℕ). cond (p x) 1 0) xs ys

  both : (xs ys : List Event) → n (xs ++ ys) ≡ n xs + n ys
  both xs ys = ap c (tokens_both xs ys) ∙ joined (own_tokens xs) (own_tokens ys)

  made_both : (xs ys : List SitedConstruct) → m (xs ++ ys) ≡ m xs + m ys
  made_both xs ys = ap c (all_both xs ys) ∙ joined (all_tokens xs) (all_tokens ys)

  -- an expression before those in it
  own : (x : ExprTree) (xs : List SitedConstruct) → m (Expression x ∷ xs) ≡ c (tokens_of (Expression x)) + m xs
  own x xs = joined (tokens_of (Expression x)) (all_tokens xs)

  -- an expression behind one part
  behind : (token : ℕ) (es : List Event) (xs : List SitedConstruct) → n es ≡ m xs → n (es ++ Value token Other ∷ []) ≡ c (token ∷ all_tokens xs)
  behind token es xs h = omega (arith, both es (Value token Other ∷ []), joined (token ∷ []) (all_tokens xs), h)

  mutual
    expr_all : (x : ExprTree) → n (expr_events x) ≡ m (expr_constructs x)
    expr_all (e.Comma token operands) = behind token (exprs_events operands) (exprs_constructs operands) (exprs_all operands)
    expr_all (e.Assign token s target value) = omega (
      arith,
      both (expr_events target) (expr_events value ++ Value token Other ∷ []),
      both (expr_events value) (Value token Other ∷ []),
      own (e.Assign token s target value) (expr_constructs target ++ expr_constructs value),
      made_both (expr_constructs target) (expr_constructs value),
      expr_all target,
      expr_all value,
    )
    expr_all (e.Conditional token condition first second) = omega (
      arith,
      both (expr_events condition) (expr_events first ++ (expr_events second ++ Value token Other ∷ [])),
      both (expr_events first) (expr_events second ++ Value token Other ∷ []),
      both (expr_events second) (Value token Other ∷ []),
      own (e.Conditional token condition first second) (expr_constructs condition ++ (expr_constructs first ++ expr_constructs second)),
      made_both (expr_constructs condition) (expr_constructs first ++ expr_constructs second),
      made_both (expr_constructs first) (expr_constructs second),
      expr_all condition,
      expr_all first,
      expr_all second,
    )
    expr_all (e.Chain level first links) = omega (
      arith,
      both (expr_events first) (links_events links),
      own (e.Chain level first links) (expr_constructs first ++ links_constructs links),
      made_both (expr_constructs first) (links_constructs links),
      expr_all first,
      links_all links,
    )
    expr_all (e.Cast token b stars operand) = behind token (expr_events operand) (expr_constructs operand) (expr_all operand)
    expr_all (e.Prefix token prefix.SizeOf operand) = omega (
      arith,
      both (expr_events operand) (Value token Other ∷ []),
      own (e.Prefix token prefix.SizeOf operand) [],
      joined (token ∷ []) (own_tokens (expr_events operand)),
    )
    expr_all (e.Prefix token prefix.Increment operand) = behind token (expr_events operand) (expr_constructs operand) (expr_all operand)
    expr_all (e.Prefix token prefix.Decrement operand) = behind token (expr_events operand) (expr_constructs operand) (expr_all operand)
    expr_all (e.Prefix token prefix.Address operand) = behind token (expr_events operand) (expr_constructs operand) (expr_all operand)
    expr_all (e.Prefix token prefix.Indirection operand) = behind token (expr_events operand) (expr_constructs operand) (expr_all operand)
    expr_all (e.Prefix token prefix.Plus operand) = behind token (expr_events operand) (expr_constructs operand) (expr_all operand)
    expr_all (e.Prefix token prefix.Minus operand) = behind token (expr_events operand) (expr_constructs operand) (expr_all operand)
    expr_all (e.Prefix token prefix.Complement operand) = behind token (expr_events operand) (expr_constructs operand) (expr_all operand)
    expr_all (e.Prefix token prefix.Not operand) = behind token (expr_events operand) (expr_constructs operand) (expr_all operand)
    expr_all (e.SizeOfType token b stars) = refl
    expr_all (e.Postfix primary operators) = omega (
      arith,
      both (expr_events primary) (postfix_events (token_of primary) operators),
      own (e.Postfix primary operators) (expr_constructs primary ++ postfix_constructs operators),
      made_both (expr_constructs primary) (postfix_constructs operators),
      expr_all primary,
      postfix_all operators (token_of primary),
    )
    expr_all (e.Name token name) = refl
    expr_all (e.Call token name arguments) = omega (
      arith,
      both (exprs_events arguments) (Value token (Calls name) ∷ []),
      own (e.Call token name arguments) (exprs_constructs arguments),
      exprs_all arguments,
    )
    expr_all (e.Constant token kind value) = refl
    expr_all (e.Strings token parts) = refl
    expr_all (e.Paren token inner) = behind token (expr_events inner) (expr_constructs inner) (expr_all inner)
    expr_all (e.Null token) = refl
    expr_all (e.EndOfFile token) = refl

    exprs_all : (xs : ExprList) → n (exprs_events xs) ≡ m (exprs_constructs xs)
    exprs_all e.no_exprs = refl
    exprs_all (e.more_exprs x rest) = omega (
      arith,
      both (expr_events x) (exprs_events rest),
      made_both (expr_constructs x) (exprs_constructs rest),
      expr_all x,
      exprs_all rest,
    )

    links_all : (links : LinkList) → n (links_events links) ≡ c (link_tokens links) + m (links_constructs links)
    links_all e.no_links = omega arith
    links_all (e.more_links token s operand rest) = omega (
      arith,
      both (expr_events operand) (Value token Other ∷ links_events rest),
      joined (token ∷ []) (own_tokens (links_events rest)),
      joined (token ∷ []) (link_tokens rest),
      made_both (expr_constructs operand) (links_constructs rest),
      expr_all operand,
      links_all rest,
    )

    postfix_all : (operators : PostfixList) (operand : ℕ)
        → n (postfix_events operand operators) ≡ c (postfix_tokens operators) + m (postfix_constructs operators)
    postfix_all e.no_postfix operand = omega arith
    postfix_all (e.index token x rest) operand = omega (
      arith,
      both (expr_events x) (Value token Other ∷ postfix_events token rest),
      joined (token ∷ []) (own_tokens (postfix_events token rest)),
      joined (token ∷ []) (postfix_tokens rest),
      made_both (expr_constructs x) (postfix_constructs rest),
      expr_all x,
      postfix_all rest token,
    )
    postfix_all (e.member token name rest) operand =
        omega (arith, joined (token ∷ []) (own_tokens (postfix_events token rest)), joined (token ∷ []) (postfix_tokens rest), postfix_all rest token)
    postfix_all (e.arrow token name rest) operand =
        omega (arith, joined (token ∷ []) (own_tokens (postfix_events token rest)), joined (token ∷ []) (postfix_tokens rest), postfix_all rest token)
    postfix_all (e.increment token rest) operand =
        omega (arith, joined (token ∷ []) (own_tokens (postfix_events token rest)), joined (token ∷ []) (postfix_tokens rest), postfix_all rest token)
    postfix_all (e.decrement token rest) operand =
        omega (arith, joined (token ∷ []) (own_tokens (postfix_events token rest)), joined (token ∷ []) (postfix_tokens rest), postfix_all rest token)

  part_all : (x : Option ExprTree) → n (optional_events x) ≡ m (optional_constructs x)
  part_all None = refl
  part_all (Some x) = expr_all x

  initial_all : (equal : ℕ) (x : Option InitialTree) → n (initial_events equal x) ≡ m (initial_constructs x)
  initial_all equal None = refl
  initial_all equal (Some (s.Value value)) = expr_all value
  initial_all equal (Some (s.Braced token items comma)) = exprs_all items

  starts_all : (xs : List StartTree) → n (starts_events xs) ≡ m (starts_constructs xs)
  starts_all [] = refl
  starts_all (x ∷ xs) = omega (
    arith,
    both (start_events x) (starts_events xs),
    made_both (initial_constructs x.initial) (starts_constructs xs),
    initial_all (x.declarator.token + length (declarator_kinds x.declarator)) x.initial,
    starts_all xs,
  )

  for_start_all : (x : ForStartTree) → n (for_start_events x) ≡ m (for_start_constructs x)
  for_start_all (s.Declares declaration) = starts_all declaration.starts
  for_start_all (s.Computes x) = part_all x

  -- in a scope of its own
  scoped_all : (es : List Event) (k : ℕ) → n es ≡ k → n (scope_events es) ≡ k
  scoped_all es k h = omega (arith, both es (Closes ∷ []), h)

  mutual
    statement_all : (x : StatementTree) → n (statement_events x) ≡ m (statement_constructs x)
    statement_all (s.Block token entries) = scoped_all (entries_events entries) (m (entries_constructs entries)) (entries_all entries)
    statement_all (s.Empty token) = refl
    statement_all (s.Expr token x) = expr_all x
    statement_all (s.If token condition first) = omega (
      arith,
      both (expr_events condition) (statement_events first),
      made_both (expr_constructs condition) (statement_constructs first),
      expr_all condition,
      statement_all first,
    )
    statement_all (s.IfElse token condition first second) = omega (
      arith,
      both (expr_events condition) (statement_events first ++ statement_events second),
      both (statement_events first) (statement_events second),
      made_both (expr_constructs condition) (statement_constructs first ++ statement_constructs second),
      made_both (statement_constructs first) (statement_constructs second),
      expr_all condition,
      statement_all first,
      statement_all second,
    )
    statement_all (s.While token condition body) = omega (
      arith,
      both (expr_events condition) (statement_events body),
      made_both (expr_constructs condition) (statement_constructs body),
      expr_all condition,
      statement_all body,
    )
    statement_all (s.Do token body condition) = omega (
      arith,
      both (statement_events body) (expr_events condition),
      made_both (statement_constructs body) (expr_constructs condition),
      statement_all body,
      expr_all condition,
    )
    statement_all (s.For token start condition step body) =
        scoped_all (for_start_events start ++ (optional_events condition ++ (optional_events step ++ statement_events body)))
        (m (statement_constructs (s.For token start condition step body))) (omega (
          arith,
          both (for_start_events start) (optional_events condition ++ (optional_events step ++ statement_events body)),
          both (optional_events condition) (optional_events step ++ statement_events body),
          both (optional_events step) (statement_events body),
          made_both (for_start_constructs start) (optional_constructs condition ++ (optional_constructs step ++ statement_constructs body)),
          made_both (optional_constructs condition) (optional_constructs step ++ statement_constructs body),
          made_both (optional_constructs step) (statement_constructs body),
          for_start_all start,
          part_all condition,
          part_all step,
          statement_all body,
        ))
    statement_all (s.Return token value) = part_all value
    statement_all (s.Break token) = refl
    statement_all (s.Continue token) = refl

    entries_all : (xs : EntryList) → n (entries_events xs) ≡ m (entries_constructs xs)
    entries_all s.no_entries = refl
    entries_all (s.declared declaration rest) = omega (
      arith,
      both (declaration_events declaration) (entries_events rest),
      made_both (starts_constructs declaration.starts) (entries_constructs rest),
      starts_all declaration.starts,
      entries_all rest,
    )
    entries_all (s.stated statement rest) = omega (
      arith,
      both (statement_events statement) (entries_events rest),
      made_both (statement_constructs statement) (entries_constructs rest),
      statement_all statement,
      entries_all rest,
    )

pub item_all : (x : ItemTree) → AreAll (item_constructs x) (body_events x)
item_all (i.Function token b stars name ps (Some body)) = λ p. entries_all p body
item_all x = λ p. refl
