-- What a part of a text needs room for has tokens of its own, and its strings are among its tokens.
use Rattle.std.proofs.Common.{◌+◌, ◌≤◌, List, [], ◌∷◌, ◌++◌, length, Option, Some, None, arith, length-append}
use Rattle.std.specs.List.{flat_map}
use Rattle.c_syntax.specs.declared.parts.Params.{Params}
use Rattle.c_syntax.specs.declared.parts.Params.TheVariants as params
use Rattle.c_syntax.specs.declared.token.Sign.TheVariants as sign
use Rattle.c_syntax.specs.ExprTree as e
use Rattle.c_syntax.specs.Words.{ExprTree, ExprList, InitialTree, StartTree, DeclarationTree, ForStartTree, StatementTree, EntryList, ItemTree, Kinds, a_sign}
use Rattle.c_syntax.specs.Words.{after_commas, body_kinds, declaration_kinds, entry_kinds, expr_kinds, exprs_kinds, for_start_kinds, initial_kinds, item_kinds}
use Rattle.c_syntax.specs.Words.{more_exprs_kinds, optional_kinds, param_kinds, params_kinds, parenthesized_kinds, start_kinds, statement_kinds, with_commas}
use Rattle.c_syntax.specs.StatementTree as s
use Rattle.c_syntax.specs.ItemTree as i
use Rattle.c_types_expressions.specs.Room.{items_in}
use Rattle.c_types_expressions.proofs.Texts.{bytes_both, bytes_in, expr_bytes, exprs_bytes}
use Rattle.c_types_walk.specs.ItemWalk.{listed_params}
use Rattle.c_types_walk.specs.Room.{body_needs, body_text, declaration_needs, declaration_text, entries_need, entries_text, for_start_needs, for_start_text, initial_needs, initial_text, item_needs, item_text, items_need, items_text, part_text, start_needs, start_text, starts_need, starts_text, statement_needs, statement_text}

-- of several expressions each but the first has a comma
more_long : (xs : ExprList) → items_in xs ≤ length (more_exprs_kinds xs)
more_long e.no_exprs = omega arith
more_long (e.more_exprs x rest) = simp length-append (omega (arith, more_long rest))

exprs_long : (xs : ExprList) → items_in xs ≤ length (exprs_kinds xs) + 1
exprs_long e.no_exprs = omega arith
exprs_long (e.more_exprs x rest) = simp length-append (omega (arith, more_long rest))

-- the part of an initialiser behind its variable
abbrev equals : Option InitialTree → Kinds
equals x = optional_kinds (λ y. a_sign sign.Equal ++ initial_kinds y) x

initial_long : (x : Option InitialTree) → initial_needs x ≤ length (equals x)
initial_long None = omega arith
initial_long (Some (s.Value value)) = omega arith
initial_long (Some (s.Braced token items comma)) = simp length-append (omega (arith, exprs_long items))

-- a variable has a name, and each item of its initialiser but the first a comma
start_long : (x : StartTree) → start_needs x ≤ length (start_kinds x)
start_long x = simp length-append (omega (arith, initial_long x.initial))

starts_behind : (xs : List StartTree) → starts_need xs ≤ length (after_commas start_kinds xs)
starts_behind [] = omega arith
starts_behind (x ∷ xs) = omega (arith, starts_behind xs, start_long x, length-append (a_sign sign.Comma ++ start_kinds x) (after_commas start_kinds xs))

pub starts_long : (xs : List StartTree) → starts_need xs ≤ length (with_commas start_kinds xs)
starts_long [] = omega arith
starts_long (x ∷ xs) = omega (arith, starts_behind xs, start_long x, length-append (start_kinds x) (after_commas start_kinds xs))

-- so have all of a declaration
declaration_long : (d : DeclarationTree) → declaration_needs d ≤ length (declaration_kinds d)
declaration_long d = simp length-append (omega (arith, starts_long d.starts))

for_start_long : (x : ForStartTree) → for_start_needs x ≤ length (for_start_kinds x)
for_start_long (s.Declares declaration) = declaration_long declaration
for_start_long (s.Computes x) = omega arith

mutual
  statement_long : (x : StatementTree) → statement_needs x ≤ length (statement_kinds x)
  statement_long (s.Block token entries) = simp length-append (omega (arith, entries_long entries))
  statement_long (s.If token condition first) = simp length-append (omega (arith, statement_long first))
  statement_long (s.IfElse token condition first second) = simp length-append (omega (arith, statement_long first, statement_long second))
  statement_long (s.While token condition body) = simp length-append (omega (arith, statement_long body))
  statement_long (s.Do token body condition) = simp length-append (omega (arith, statement_long body))
  statement_long (s.For token start condition step body) = simp length-append (omega (arith, for_start_long start, statement_long body))
  statement_long x = omega arith

  entries_long : (xs : EntryList) → entries_need xs ≤ length (entry_kinds xs)
  entries_long s.no_entries = omega arith
  entries_long (s.declared declaration rest) =
      omega (arith, declaration_long declaration, entries_long rest, length-append (declaration_kinds declaration) (entry_kinds rest))
  entries_long (s.stated statement rest) = simp length-append (omega (arith, statement_long statement, entries_long rest))

-- of several parameters each but the first has a comma
behind_commas : {A : Type 0} (f : A → Kinds) (xs : List A) → length xs ≤ length (after_commas f xs)
behind_commas f [] = omega arith
behind_commas f (x ∷ xs) = omega (arith, behind_commas f xs, length-append (a_sign sign.Comma ++ f x) (after_commas f xs))

between_commas : {A : Type 0} (f : A → Kinds) (xs : List A) → length xs ≤ length (with_commas f xs) + 1
between_commas f [] = omega arith
between_commas f (x ∷ xs) = omega (arith, behind_commas f xs, length-append (f x) (after_commas f xs))

params_long : (ps : Params) → length (listed_params ps) ≤ length (parenthesized_kinds (params_kinds ps))
params_long params.Empty = omega arith
params_long params.Void = omega arith
params_long (params.List list) = simp length-append (omega (arith, between_commas param_kinds list))

-- a body has a brace, and else a semicolon stands there
body_long : (body : Option EntryList) → body_needs body + 1 ≤ length (body_kinds body)
body_long None = omega arith
body_long (Some entries) = simp length-append (omega (arith, entries_long entries))

item_long : (x : ItemTree) → item_needs x ≤ length (item_kinds x)
item_long (i.Struct token tag members) = simp length-append (omega arith)
item_long (i.Function token base stars name ps body) = simp length-append (omega (arith, simp length-append at (params_long ps), body_long body))
item_long (i.Declaration declaration) = declaration_long declaration

pub items_long : (xs : List ItemTree) → items_need xs ≤ length (flat_map item_kinds xs)
items_long [] = omega arith
items_long (x ∷ xs) = omega (arith, item_long x, items_long xs, length-append (item_kinds x) (flat_map item_kinds xs))

-- the strings

part_bytes : (x : Option ExprTree) → part_text x ≤ bytes_in (optional_kinds expr_kinds x)
part_bytes None = omega arith
part_bytes (Some x) = expr_bytes x

initial_bytes : (x : Option InitialTree) → initial_text x ≤ bytes_in (equals x)
initial_bytes None = omega arith
initial_bytes (Some (s.Value value)) = simp bytes_both (omega (arith, expr_bytes value))
initial_bytes (Some (s.Braced token items comma)) = simp bytes_both (omega (arith, exprs_bytes items))

start_bytes : (x : StartTree) → start_text x ≤ bytes_in (start_kinds x)
start_bytes x = simp bytes_both (omega (arith, initial_bytes x.initial))

behind_bytes : (xs : List StartTree) → starts_text xs ≤ bytes_in (after_commas start_kinds xs)
behind_bytes [] = omega arith
behind_bytes (x ∷ xs) = omega (
  arith,
  behind_bytes xs,
  start_bytes x,
  bytes_both (a_sign sign.Comma) (start_kinds x),
  bytes_both (a_sign sign.Comma ++ start_kinds x) (after_commas start_kinds xs),
)

starts_bytes : (xs : List StartTree) → starts_text xs ≤ bytes_in (with_commas start_kinds xs)
starts_bytes [] = omega arith
starts_bytes (x ∷ xs) = omega (arith, behind_bytes xs, start_bytes x, bytes_both (start_kinds x) (after_commas start_kinds xs))

declaration_bytes : (d : DeclarationTree) → declaration_text d ≤ bytes_in (declaration_kinds d)
declaration_bytes d = simp bytes_both (omega (arith, starts_bytes d.starts))

for_start_bytes : (x : ForStartTree) → for_start_text x ≤ bytes_in (for_start_kinds x)
for_start_bytes (s.Declares declaration) = declaration_bytes declaration
for_start_bytes (s.Computes x) = simp bytes_both (omega (arith, part_bytes x))

mutual
  statement_bytes : (x : StatementTree) → statement_text x ≤ bytes_in (statement_kinds x)
  statement_bytes (s.Block token entries) = simp bytes_both (omega (arith, entries_bytes entries))
  statement_bytes (s.Expr token x) = simp bytes_both (omega (arith, expr_bytes x))
  statement_bytes (s.If token condition first) = simp bytes_both (omega (arith, expr_bytes condition, statement_bytes first))
  statement_bytes (s.IfElse token condition first second) =
      simp bytes_both (omega (arith, expr_bytes condition, statement_bytes first, statement_bytes second))
  statement_bytes (s.While token condition body) = simp bytes_both (omega (arith, expr_bytes condition, statement_bytes body))
  statement_bytes (s.Do token body condition) = simp bytes_both (omega (arith, statement_bytes body, expr_bytes condition))
  statement_bytes (s.For token start condition step body) =
      simp bytes_both (omega (arith, for_start_bytes start, part_bytes condition, part_bytes step, statement_bytes body))
  statement_bytes (s.Return token value) = simp bytes_both (omega (arith, part_bytes value))
  statement_bytes x = omega arith

  entries_bytes : (xs : EntryList) → entries_text xs ≤ bytes_in (entry_kinds xs)
  entries_bytes s.no_entries = omega arith
  entries_bytes (s.declared declaration rest) =
      omega (arith, declaration_bytes declaration, entries_bytes rest, bytes_both (declaration_kinds declaration) (entry_kinds rest))
  entries_bytes (s.stated statement rest) = simp bytes_both (omega (arith, statement_bytes statement, entries_bytes rest))

body_bytes : (body : Option EntryList) → body_text body ≤ bytes_in (body_kinds body)
body_bytes None = omega arith
body_bytes (Some entries) = simp bytes_both (omega (arith, entries_bytes entries))

item_bytes : (x : ItemTree) → item_text x ≤ bytes_in (item_kinds x)
item_bytes (i.Struct token tag members) = omega arith
item_bytes (i.Function token base stars name ps body) = simp bytes_both (omega (arith, body_bytes body))
item_bytes (i.Declaration declaration) = declaration_bytes declaration

pub items_bytes : (xs : List ItemTree) → items_text xs ≤ bytes_in (flat_map item_kinds xs)
items_bytes [] = omega arith
items_bytes (x ∷ xs) = simp bytes_both (omega (arith, item_bytes x, items_bytes xs))
