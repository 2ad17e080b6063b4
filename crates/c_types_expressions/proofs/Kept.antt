-- What the walk through an expression keeps: each relation, of what is known before and behind a part, that lasts from one step to the next and that no
-- note breaks.
use Rattle.std.proofs.Common.{ℕ, Bool, true, false, List, [], ◌∷◌, ◌++◌, Option, Some, None, Result, Ok, Err, if◌then◌else◌, slice_get}
use Rattle.c_syntax.specs.declared.parts.Base.{Base}
use Rattle.c_syntax.specs.declared.parts.Base.TheVariants as base
use Rattle.c_syntax.specs.ExprTree as e
use Rattle.c_syntax.specs.ExprTree.{ExprTree, ExprList, LinkList, PostfixList}
use Rattle.c_types_rules.specs.declared.fault.FaultKind.{FaultKind}
use Rattle.c_types_rules.specs.declared.layout.Member.{Member}
use Rattle.c_types_rules.specs.declared.operand.Operand.{Operand}
use Rattle.c_types_rules.specs.Words.{TypeTree, Int, OperandOrFault, constant_of, parenthesized_operand, null_of, place_of, string_of, value_of, library_called}
use Rattle.c_types_rules.specs.Functions as functions
use Rattle.c_types_expressions.specs.declared.names.Meaning.{Meaning}
use Rattle.c_types_expressions.specs.declared.names.Meaning.TheVariants as meaning
use Rattle.c_types_expressions.specs.declared.walk.FunctionEntry.{FunctionEntry}
use Rattle.c_types_expressions.specs.declared.walk.Walk.{Walk}
use Rattle.c_types_expressions.specs.ExprWalk.{base_type, called_name, format_of, is_printf, operand_noted, named_operand, of_function, of_variable, selected_member, string_cells, tagged_type}
use Rattle.c_types_expressions.specs.ExprWalk.{walk_expr, walk_exprs, walk_links, walk_postfix, walk_whole, whole_call, with_call, with_offset, with_use}
use Rattle.c_types_expressions.specs.Names.{declared_meaning, meaning_of}
use Rattle.c_types_expressions.specs.Walked.{Walked, Fine, Faulty, ◌>>=◌, with_type}
use Rattle.c_types_expressions.proofs.Giving.{Gives}

-- where a part of the walk meets no fault, what is known behind it is so related to what was known before
abbrev pub Keeps : {A : Type 0} → (Walk → Walk → Type 0) → Walk → Walked A → Type 0
Keeps R w r = Gives (λ _ v. R w v) r

-- the relation lasts, and each note of an expression keeps it
pub record IsKeptByNotes (R : Walk → Walk → Type 0) : Type 0 where
  pub here : (w : Walk) → R w w
  pub next : (w u v : Walk) → R w u → R u v → R w v
  pub typed : (token : ℕ) (t : TypeTree) (w : Walk) → R w (with_type token t w)
  pub used : (token index : ℕ) (w : Walk) → R w (with_use token index w)
  pub called : (token index : ℕ) (w : Walk) → R w (with_call token index w)
  pub selected : (token offset : ℕ) (w : Walk) → R w (with_offset token offset w)

-- one part or another
pub either : {A : Type 0} (R : Walk → Walk → Type 0) (w : Walk) (b : Bool) (r q : Walked A) → Keeps R w r → Keeps R w q → Keeps R w (if b then r else q)
either R w true r q h k = h
either R w false r q h k = k

module _ (R : Walk → Walk → Type 0) (lasts : (w u v : Walk) → R w u → R u v → R w v) where
  -- a step before others
  pub step_before : {A : Type 0} (w u : Walk) (r : Walked A) → R w u → Keeps R u r → Keeps R w r
  step_before w u (Fine x v) a b = lasts w u v a b
  step_before w u (Faulty kind token) a b = tt

  -- one part after another
  pub both : {A B : Type 0} (w : Walk) (r : Walked A) (next : A → Walk → Walked B) → Keeps R w r → ((x : A) (v : Walk) → Keeps R v (next x v))
      → Keeps R w (r >>= next)
  both w (Fine x v) next h g = step_before w v (next x v) h (g x v)
  both w (Faulty kind token) next h g = tt

module _ (R : Walk → Walk → Type 0) (here : (w : Walk) → R w w) where
  -- a struct that a base names
  tagged_keeps : (token : ℕ) (m : Option Meaning) (w : Walk) → Keeps R w (tagged_type token m w)
  tagged_keeps token None w = tt
  tagged_keeps token (Some (meaning.Struct index)) w = here w
  tagged_keeps token (Some m) w = tt

  -- a named type
  pub base_keeps : (b : Base) (w : Walk) → Keeps R w (base_type b w)
  base_keeps (base.Struct token tag) w = tagged_keeps token (declared_meaning tag w.tags) w
  base_keeps b w = here w

module _ (R : Walk → Walk → Type 0) (k : IsKeptByNotes R) where
  -- a construct that is looked at
  looked_keeps : (token : ℕ) (l : OperandOrFault) (w : Walk) → Keeps R w (operand_noted token l w)
  looked_keeps token (Ok x) w = k.typed token x.ctype w
  looked_keeps token (Err kind) w = tt

  -- one after another note
  noted_keeps : (token : ℕ) (l : OperandOrFault) (w u : Walk) → R w u → Keeps R w (operand_noted token l u)
  noted_keeps token l w u h = step_before R k.next w u (operand_noted token l u) h (looked_keeps token l u)

  -- a variable that a name means
  variable_keeps : (token index : ℕ) (declared : Option TypeTree) (w : Walk) → Keeps R w (of_variable token index declared w)
  variable_keeps token index None w = tt
  variable_keeps token index (Some of) w = noted_keeps token (Ok (place_of of)) w (with_use token index w) (k.used token index w)

  -- a name that isn't called
  name_keeps : (token : ℕ) (m : Option Meaning) (w : Walk) → Keeps R w (named_operand token m w)
  name_keeps token None w = tt
  name_keeps token (Some (meaning.Variable index)) w = variable_keeps token index (slice_get w.declared_types index) w
  name_keeps token (Some m) w = tt

  -- a call of a function of the text
  function_keeps : (token index : ℕ) (f : Option FunctionEntry) (xs : List Operand) (w : Walk) → Keeps R w (of_function token index f xs w)
  function_keeps token index None xs w = tt
  function_keeps token index (Some f) xs w = noted_keeps token (functions.typed_call f.ctype xs) w (with_call token index w) (k.called token index w)

  -- a call
  called_keeps : (token : ℕ) (m : Option Meaning) (xs : List Operand) (w : Walk) → Keeps R w (called_name token m xs w)
  called_keeps token None xs w = tt
  called_keeps token (Some (meaning.Function index)) xs w = function_keeps token index (slice_get w.functions index) xs w
  called_keeps token (Some (meaning.Library function)) xs w = looked_keeps token (library_called function xs) w
  called_keeps token (Some m) xs w = tt

  -- a member that `.` or `->` names
  selected_keeps : (token : ℕ) (place : Bool) (m : Result Member FaultKind) (w : Walk) → Keeps R w (selected_member token place m w)
  selected_keeps token place (Err kind) w = tt
  selected_keeps token place (Ok m) w =
      noted_keeps token (Ok (record { ctype = m.ctype; place = place; null = false })) w (with_offset token m.offset w) (k.selected token m.offset w)

  mutual
    -- an expression, with its parts
    expr_keeps : (x : ExprTree) (w : Walk) → Keeps R w (walk_expr x w)
    expr_keeps (e.Comma token operands) w = both R k.next w (walk_exprs operands [] w) _ (exprs_keep operands [] w) (λ xs v. looked_keeps token _ v)
    expr_keeps (e.Assign token s target value) w = both R k.next w (walk_expr target w) _ (expr_keeps target w)
        (λ x v. both R k.next v (walk_expr value v) _ (expr_keeps value v) (λ y u. looked_keeps token _ u))
    expr_keeps (e.Conditional token condition first second) w = both R k.next w (walk_expr condition w) _ (expr_keeps condition w)
        (λ c v. both R k.next v (walk_expr first v) _ (expr_keeps first v)
        (λ x u. both R k.next u (walk_expr second u) _ (expr_keeps second u) (λ y r. looked_keeps token _ r)))
    expr_keeps (e.Chain level first links) w = both R k.next w (walk_expr first w) _ (expr_keeps first w) (λ x v. links_keep links x v)
    expr_keeps (e.Cast token b stars operand) w = both R k.next w (base_type b w) _ (base_keeps R k.here b w)
        (λ of v. both R k.next v (walk_expr operand v) _ (expr_keeps operand v) (λ x u. looked_keeps token _ u))
    expr_keeps (e.Prefix token operator operand) w = both R k.next w (walk_expr operand w) _ (expr_keeps operand w) (λ x v. looked_keeps token _ v)
    expr_keeps (e.SizeOfType token b stars) w = both R k.next w (base_type b w) _ (base_keeps R k.here b w) (λ of v. looked_keeps token _ v)
    expr_keeps (e.Postfix primary operators) w = both R k.next w (walk_expr primary w) _ (expr_keeps primary w) (λ x v. postfix_keeps operators x v)
    expr_keeps (e.Name token name) w = name_keeps token (meaning_of name w.names) w
    expr_keeps (e.Call token name arguments) w = both R k.next w (walk_exprs arguments [] w) _ (exprs_keep arguments [] w) (λ xs v. called_keeps token _ xs v)
    expr_keeps (e.Constant token kind value) w = looked_keeps token (Ok (constant_of kind value)) w
    expr_keeps (e.Strings token parts) w = looked_keeps token (Ok (string_of (string_cells parts))) w
    expr_keeps (e.Paren token inner) w = both R k.next w (walk_expr inner w) _ (expr_keeps inner w) (λ x v. looked_keeps token (Ok (parenthesized_operand x)) v)
    expr_keeps (e.Null token) w = looked_keeps token (Ok null_of) w
    expr_keeps (e.EndOfFile token) w = looked_keeps token (Ok (value_of Int)) w

    -- several expressions
    exprs_keep : (xs : ExprList) (before : List Operand) (w : Walk) → Keeps R w (walk_exprs xs before w)
    exprs_keep e.no_exprs before w = k.here w
    exprs_keep (e.more_exprs x rest) before w = both R k.next w (walk_expr x w) _ (expr_keeps x w) (λ y v. exprs_keep rest (before ++ y ∷ []) v)

    -- the links of a chain
    links_keep : (links : LinkList) (left : Operand) (w : Walk) → Keeps R w (walk_links links left w)
    links_keep e.no_links left w = k.here w
    links_keep (e.more_links token s operand rest) left w = both R k.next w (walk_expr operand w) _ (expr_keeps operand w)
        (λ right v. both R k.next v (operand_noted token _ v) _ (looked_keeps token _ v) (λ x u. links_keep rest x u))

    -- what stands behind a primary expression
    postfix_keeps : (operators : PostfixList) (left : Operand) (w : Walk) → Keeps R w (walk_postfix operators left w)
    postfix_keeps e.no_postfix left w = k.here w
    postfix_keeps (e.index token x rest) left w = both R k.next w (walk_expr x w) _ (expr_keeps x w)
        (λ right v. both R k.next v (operand_noted token _ v) _ (looked_keeps token _ v) (λ y u. postfix_keeps rest y u))
    postfix_keeps (e.member token name rest) left w = both R k.next w (selected_member token _ _ w) _ (selected_keeps token _ _ w) (λ y u. postfix_keeps rest y u)
    postfix_keeps (e.arrow token name rest) left w = both R k.next w (selected_member token _ _ w) _ (selected_keeps token _ _ w) (λ y u. postfix_keeps rest y u)
    postfix_keeps (e.increment token rest) left w = both R k.next w (operand_noted token _ w) _ (looked_keeps token _ w) (λ y u. postfix_keeps rest y u)
    postfix_keeps (e.decrement token rest) left w = both R k.next w (operand_noted token _ w) _ (looked_keeps token _ w) (λ y u. postfix_keeps rest y u)

  -- a call that is the whole expression of a statement
  whole_call_keeps : (token : ℕ) (m : Option Meaning) (arguments : ExprList) (xs : List Operand) (w : Walk) → Keeps R w (whole_call token m arguments xs w)
  whole_call_keeps token m arguments xs w = either R w (is_printf m) (operand_noted token (format_of arguments xs) w) (called_name token m xs w)
      (looked_keeps token (format_of arguments xs) w) (called_keeps token m xs w)

  -- the whole expression of a statement
  whole_keeps : (x : ExprTree) (w : Walk) → Keeps R w (walk_whole x w)
  whole_keeps (e.Call token name arguments) w =
      both R k.next w (walk_exprs arguments [] w) _ (exprs_keep arguments [] w) (λ xs v. whole_call_keeps token (meaning_of name v.names) arguments xs v)
  whole_keeps x w = expr_keeps x w

-- the relation lasts, and each expression keeps it
pub record IsKeptByExpressions (R : Walk → Walk → Type 0) : Type 0 where
  pub here : (w : Walk) → R w w
  pub next : (w u v : Walk) → R w u → R u v → R w v
  pub expr : (x : ExprTree) (w : Walk) → Keeps R w (walk_expr x w)
  pub exprs : (xs : ExprList) (before : List Operand) (w : Walk) → Keeps R w (walk_exprs xs before w)
  pub whole : (x : ExprTree) (w : Walk) → Keeps R w (walk_whole x w)

-- what the notes keep, expressions keep
pub by_notes : (R : Walk → Walk → Type 0) → IsKeptByNotes R → IsKeptByExpressions R
by_notes R k = record { here = k.here; next = k.next; expr = expr_keeps R k; exprs = exprs_keep R k; whole = whole_keeps R k }
