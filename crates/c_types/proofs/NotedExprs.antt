-- What the walk notes of expressions.
use Rattle.std.proofs.Common.{◌≡◌, ℕ, Bool, List, [], ◌∷◌, ◌++◌, Option, Some, None, Result, Ok, Err, slice_get, refl}
use Rattle.c_syntax.specs.declared.parts.Base.{Base}
use Rattle.c_syntax.specs.declared.parts.Base.TheVariants as base
use Rattle.c_syntax.specs.ExprTree as e
use Rattle.c_syntax.specs.ExprTree.{ExprTree, ExprList, LinkList, PostfixList}
use Rattle.c_types_rules.specs.declared.fault.FaultKind.{FaultKind}
use Rattle.c_types_rules.specs.declared.layout.Member.{Member}
use Rattle.c_types_rules.specs.declared.operand.Operand.{Operand}
use Rattle.c_types_rules.specs.Words.{TypeTree, OperandOrFault, constant_of, parenthesized_operand, null_of, place_of, string_of, value_of, library_called}
use Rattle.c_types_rules.specs.TypeTree as t
use Rattle.c_types_rules.specs.Functions as functions
use Rattle.c_types_expressions.specs.declared.names.Meaning.{Meaning}
use Rattle.c_types_expressions.specs.declared.names.Meaning.TheVariants as meaning
use Rattle.c_types_expressions.specs.declared.walk.FunctionEntry.{FunctionEntry}
use Rattle.c_types_expressions.specs.declared.walk.Walk.{Walk}
use Rattle.c_types_expressions.specs.Words.{declared_meaning, meaning_of, Walked, ◌>>=◌, base_type, called_name, format_of, is_printf, operand_noted, named_operand, of_function}
use Rattle.c_types_expressions.specs.Words.{of_variable, selected_member, string_cells, tagged_type, walk_expr, walk_exprs, walk_links, walk_postfix, walk_whole}
use Rattle.c_types_expressions.specs.Words.{whole_call, with_call, with_offset, with_use}
use Rattle.c_types.specs.Parts.{Part, Expression, Use, expr_parts, exprs_parts, links_parts, postfix_parts}
use Rattle.c_types.proofs.Noted.{Notes, behind, both, either, stage, then_on, typed_one, use_one}

tagged_notes : (token : ℕ) (m : Option Meaning) (w : Walk) → Notes [] (stage w) (tagged_type token m w)
tagged_notes token (Some (meaning.Struct index)) w = (refl, (λ h. h), refl)
tagged_notes token m w = tt

pub base_notes : (b : Base) (w : Walk) → Notes [] (stage w) (base_type b w)
base_notes (base.Struct token tag) w = tagged_notes token (declared_meaning tag w.tags) w
base_notes b w = (refl, (λ h. h), refl)

pub looked_notes : (token : ℕ) (l : OperandOrFault) (w : Walk) → Notes (Expression token ∷ []) (stage w) (operand_noted token l w)
looked_notes token (Ok x) w = typed_one token x.ctype w
looked_notes token (Err kind) w = tt

-- a construct that is looked at, and what comes behind it
looked_on : {A : Type 0} (qs : List Part) (token : ℕ) (l : OperandOrFault) (w : Walk) (next : Operand → Walk → Walked A) → ((x : Operand) (v : Walk) → Notes qs (stage v) (next x v)) →
    Notes (Expression token ∷ qs) (stage w) (operand_noted token l w >>= next)
looked_on qs token l w next k = both (Expression token ∷ []) qs (stage w) (operand_noted token l w) next (looked_notes token l w) k

variable_notes : (token index : ℕ) (declared : Option TypeTree) (w : Walk) → slice_get w.declared_types index ≡ declared →
    Notes (Use token ∷ Expression token ∷ []) (stage w) (of_variable token index declared w)
variable_notes token index None w is = tt
variable_notes token index (Some t) w is =
    behind (Use token ∷ []) (Expression token ∷ []) (stage w) (stage (with_use token index w)) (operand_noted token (Ok (place_of t)) (with_use token index w)) (use_one token index t w is)
    (looked_notes token (Ok (place_of t)) (with_use token index w))

named_notes : (token : ℕ) (m : Option Meaning) (w : Walk) → Notes (Use token ∷ Expression token ∷ []) (stage w) (named_operand token m w)
named_notes token (Some (meaning.Variable index)) w = variable_notes token index (slice_get w.declared_types index) w refl
named_notes token m w = tt

function_notes : (token index : ℕ) (f : Option FunctionEntry) (xs : List Operand) (w : Walk) → Notes (Expression token ∷ []) (stage w) (of_function token index f xs w)
function_notes token index None xs w = tt
function_notes token index (Some f) xs w = looked_notes token (functions.typed_call f.ctype xs) (with_call token index w)

called_notes : (token : ℕ) (m : Option Meaning) (xs : List Operand) (w : Walk) → Notes (Expression token ∷ []) (stage w) (called_name token m xs w)
called_notes token (Some (meaning.Function index)) xs w = function_notes token index (slice_get w.functions index) xs w
called_notes token (Some (meaning.Library function)) xs w = looked_notes token (library_called function xs) w
called_notes token m xs w = tt

selected_on : {A : Type 0} (qs : List Part) (token : ℕ) (place : Bool) (m : Result Member FaultKind) (w : Walk) (next : Operand → Walk → Walked A) →
    ((x : Operand) (v : Walk) → Notes qs (stage v) (next x v)) → Notes (Expression token ∷ qs) (stage w) (selected_member token place m w >>= next)
selected_on qs token place (Err kind) w next k = tt
selected_on qs token place (Ok m) w next k = both (Expression token ∷ []) qs (stage w) (selected_member token place (Ok m) w) next (typed_one token m.ctype (with_offset token m.offset w)) k

mutual
  pub expr_notes : (x : ExprTree) (w : Walk) → Notes (expr_parts x) (stage w) (walk_expr x w)
  expr_notes (e.Comma token operands) w =
      both (exprs_parts operands) (Expression token ∷ []) (stage w) (walk_exprs operands [] w) _ (exprs_notes operands [] w) (λ xs v. looked_notes token _ v)
  expr_notes (e.Assign token s target value) w =
      both (expr_parts target) (expr_parts value ++ Expression token ∷ []) (stage w) (walk_expr target w) _ (expr_notes target w)
      (λ x v. both (expr_parts value) (Expression token ∷ []) (stage v) (walk_expr value v) _ (expr_notes value v) (λ y u. looked_notes token _ u))
  expr_notes (e.Conditional token condition first second) w =
      both (expr_parts condition) (expr_parts first ++ (expr_parts second ++ Expression token ∷ [])) (stage w) (walk_expr condition w) _ (expr_notes condition w)
      (λ c v. both (expr_parts first) (expr_parts second ++ Expression token ∷ []) (stage v) (walk_expr first v) _ (expr_notes first v)
      (λ x u. both (expr_parts second) (Expression token ∷ []) (stage u) (walk_expr second u) _ (expr_notes second u) (λ y r. looked_notes token _ r)))
  expr_notes (e.Chain level first links) w =
      both (expr_parts first) (links_parts links) (stage w) (walk_expr first w) _ (expr_notes first w) (λ x v. links_notes links x v)
  expr_notes (e.Cast token b stars operand) w =
      then_on (expr_parts operand ++ Expression token ∷ []) (stage w) (base_type b w) _ (base_notes b w)
      (λ t v. both (expr_parts operand) (Expression token ∷ []) (stage v) (walk_expr operand v) _ (expr_notes operand v) (λ x u. looked_notes token _ u))
  expr_notes (e.Prefix token operator operand) w =
      both (expr_parts operand) (Expression token ∷ []) (stage w) (walk_expr operand w) _ (expr_notes operand w) (λ x v. looked_notes token _ v)
  expr_notes (e.SizeOfType token b stars) w = then_on (Expression token ∷ []) (stage w) (base_type b w) _ (base_notes b w) (λ t v. looked_notes token _ v)
  expr_notes (e.Postfix primary operators) w =
      both (expr_parts primary) (postfix_parts operators) (stage w) (walk_expr primary w) _ (expr_notes primary w) (λ x v. postfix_notes operators x v)
  expr_notes (e.Name token name) w = named_notes token (meaning_of name w.names) w
  expr_notes (e.Call token name arguments) w =
      both (exprs_parts arguments) (Expression token ∷ []) (stage w) (walk_exprs arguments [] w) _ (exprs_notes arguments [] w) (λ xs v. called_notes token _ xs v)
  expr_notes (e.Constant token kind value) w = looked_notes token (Ok (constant_of kind value)) w
  expr_notes (e.Strings token parts) w = looked_notes token (Ok (string_of (string_cells parts))) w
  expr_notes (e.Paren token inner) w =
      both (expr_parts inner) (Expression token ∷ []) (stage w) (walk_expr inner w) _ (expr_notes inner w) (λ x v. looked_notes token (Ok (parenthesized_operand x)) v)
  expr_notes (e.Null token) w = looked_notes token (Ok null_of) w
  expr_notes (e.EndOfFile token) w = looked_notes token (Ok (value_of t.Int)) w

  pub exprs_notes : (xs : ExprList) (before : List Operand) (w : Walk) → Notes (exprs_parts xs) (stage w) (walk_exprs xs before w)
  exprs_notes e.no_exprs before w = (refl, (λ h. h), refl)
  exprs_notes (e.more_exprs x rest) before w =
      both (expr_parts x) (exprs_parts rest) (stage w) (walk_expr x w) _ (expr_notes x w) (λ y v. exprs_notes rest (before ++ y ∷ []) v)

  pub links_notes : (links : LinkList) (left : Operand) (w : Walk) → Notes (links_parts links) (stage w) (walk_links links left w)
  links_notes e.no_links left w = (refl, (λ h. h), refl)
  links_notes (e.more_links token s operand rest) left w =
      both (expr_parts operand) (Expression token ∷ links_parts rest) (stage w) (walk_expr operand w) _ (expr_notes operand w)
      (λ right v. looked_on (links_parts rest) token _ v _ (λ x u. links_notes rest x u))

  pub postfix_notes : (operators : PostfixList) (left : Operand) (w : Walk) → Notes (postfix_parts operators) (stage w) (walk_postfix operators left w)
  postfix_notes e.no_postfix left w = (refl, (λ h. h), refl)
  postfix_notes (e.index token x rest) left w =
      both (expr_parts x) (Expression token ∷ postfix_parts rest) (stage w) (walk_expr x w) _ (expr_notes x w)
      (λ right v. looked_on (postfix_parts rest) token _ v _ (λ y u. postfix_notes rest y u))
  postfix_notes (e.member token name rest) left w = selected_on (postfix_parts rest) token _ _ w _ (λ y u. postfix_notes rest y u)
  postfix_notes (e.arrow token name rest) left w = selected_on (postfix_parts rest) token _ _ w _ (λ y u. postfix_notes rest y u)
  postfix_notes (e.increment token rest) left w = looked_on (postfix_parts rest) token _ w _ (λ y u. postfix_notes rest y u)
  postfix_notes (e.decrement token rest) left w = looked_on (postfix_parts rest) token _ w _ (λ y u. postfix_notes rest y u)

whole_call_notes : (token : ℕ) (m : Option Meaning) (arguments : ExprList) (xs : List Operand) (w : Walk) → Notes (Expression token ∷ []) (stage w) (whole_call token m arguments xs w)
whole_call_notes token m arguments xs w =
    either (Expression token ∷ []) (stage w) (is_printf m) (operand_noted token (format_of arguments xs) w) (called_name token m xs w) (looked_notes token (format_of arguments xs) w)
    (called_notes token m xs w)

-- the whole expression of a statement
pub whole_notes : (x : ExprTree) (w : Walk) → Notes (expr_parts x) (stage w) (walk_whole x w)
whole_notes (e.Call token name arguments) w =
    both (exprs_parts arguments) (Expression token ∷ []) (stage w) (walk_exprs arguments [] w) _ (exprs_notes arguments [] w) (λ xs v. whole_call_notes token _ arguments xs v)
whole_notes x w = expr_notes x w
