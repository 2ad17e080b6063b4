-- The path of the walk through expressions: behind one of them its type is noted at its own token.
use Rattle.std.proofs.Common.{◌≡◌, ℕ, Bool, true, false, List, [], ◌∷◌, ◌++◌, Option, Some, None, Result, Ok, Err, slice_get, refl, sym, subst}
use Rattle.c_syntax.specs.declared.parts.Base.{Base}
use Rattle.c_syntax.specs.declared.parts.Base.TheVariants as base
use Rattle.c_syntax.specs.ExprTree as e
use Rattle.c_syntax.specs.ExprTree.{ExprTree, ExprList, LinkList, PostfixList}
use Rattle.c_types_rules.specs.declared.fault.FaultKind.{FaultKind}
use Rattle.c_types_rules.specs.declared.layout.Member.{Member}
use Rattle.c_types_rules.specs.declared.operand.Operand.{Operand}
use Rattle.c_types_rules.specs.Words.{TypeTree, OperandOrFault, constant_of, parenthesized_operand, null_of, place_of, string_of, value_of, library_called}
use Rattle.c_types_rules.specs.TypeTree as t
use Rattle.c_types_rules.specs.Functions as functions
use Rattle.c_meaning.specs.Trees.{link_token, postfix_token, token_of}
use Rattle.c_types_expressions.specs.declared.names.Meaning.{Meaning}
use Rattle.c_types_expressions.specs.declared.names.Meaning.TheVariants as meaning
use Rattle.c_types_expressions.specs.declared.walk.FunctionEntry.{FunctionEntry}
use Rattle.c_types_expressions.specs.declared.walk.Walk.{Walk}
use Rattle.c_types_expressions.specs.Words.{declared_meaning, meaning_of, Walked, ◌>>=◌, with_type, base_type, called_name, format_of, is_printf, operand_noted, named_operand}
use Rattle.c_types_expressions.specs.Words.{of_function, of_variable, selected_member, string_cells, tagged_type, walk_expr, walk_exprs, walk_links, walk_postfix}
use Rattle.c_types_expressions.specs.Words.{walk_whole, whole_call, with_call, with_offset, with_use}
use Rattle.c_types_faults.specs.Events.{Calls, Selects, Other, Event, Value, expr_events, exprs_events, links_events, postfix_events}
use Rattle.c_types_faults.proofs.Paths.{Anyhow, CalledAs, Goes, Holds, Notes, View, either, goes_then, holds_here, member_by, then_on, typed, view}

tagged_goes : (token : ℕ) (m : Option Meaning) (w : Walk) → Goes Anyhow [] (view w) (tagged_type token m w)
tagged_goes token (Some (meaning.Struct index)) w = (refl, tt)
tagged_goes token m w = tt

pub base_goes : (b : Base) (w : Walk) → Goes Anyhow [] (view w) (base_type b w)
base_goes (base.Struct token tag) w = tagged_goes token (declared_meaning tag w.tags) w
base_goes b w = (refl, tt)

-- the type of the operand is noted at the token
abbrev pub TypedAt : ℕ → Operand → View → Type 0
TypedAt token x a = Holds token x.ctype a

looked_goes : (token : ℕ) (l : OperandOrFault) (w : Walk) → Goes (TypedAt token) (Value token Other ∷ []) (view w) (operand_noted token l w)
looked_goes token (Ok x) w = ((view (with_type token x.ctype w), ((x.ctype, refl), refl)), holds_here token x.ctype (view w))
looked_goes token (Err kind) w = tt

-- a construct that is looked at, and what comes behind it
looked_on : {A : Type 0} (Q : A → View → Type 0) (ys : List Event) (token : ℕ) (l : OperandOrFault) (w : Walk) (next : Operand → Walk → Walked A)
    → ((x : Operand) (v : Walk) → TypedAt token x (view v) → Goes Q ys (view v) (next x v))
    → Goes Q (Value token Other ∷ ys) (view w) (operand_noted token l w >>= next)
looked_on Q ys token l w next k = goes_then (TypedAt token) Q (Value token Other ∷ []) ys (view w) (operand_noted token l w) next (looked_goes token l w) k

variable_goes : (token index : ℕ) (declared : Option TypeTree) (w : Walk)
    → Goes (TypedAt token) (Value token Other ∷ []) (view w) (of_variable token index declared w)
variable_goes token index None w = tt
variable_goes token index (Some t) w = looked_goes token (Ok (place_of t)) (with_use token index w)

named_goes : (token : ℕ) (m : Option Meaning) (w : Walk) → Goes (TypedAt token) (Value token Other ∷ []) (view w) (named_operand token m w)
named_goes token (Some (meaning.Variable index)) w = variable_goes token index (slice_get w.declared_types index) w
named_goes token m w = tt

-- a call of what the name means
called_step : (token : ℕ) (name : List ℕ) (a b : View) (m : Option Meaning) → meaning_of name a.names ≡ m → CalledAs token m a b
    → Notes (Calls name) token a b
called_step token name a b m h k = subst (λ o. CalledAs token o a b) (sym h) k

function_goes : (token index : ℕ) (name : List ℕ) (f : Option FunctionEntry) (xs : List Operand) (w : Walk)
    → meaning_of name w.names ≡ Some (meaning.Function index)
    → Goes (TypedAt token) (Value token (Calls name) ∷ []) (view w) (of_function token index f xs w)
function_goes token index name None xs w h = tt
function_goes token index name (Some f) xs w h = by (functions.typed_call f.ctype xs)
  where
    by : (l : OperandOrFault) → Goes (TypedAt token) (Value token (Calls name) ∷ []) (view w) (operand_noted token l (with_call token index w))
    by (Ok x) = (
      (view (with_type token x.ctype (with_call token index w)), (called_step token name (view w) _ (Some (meaning.Function index)) h (x.ctype, refl), refl)),
      holds_here token x.ctype (view (with_call token index w)),
    )
    by (Err kind) = tt

library_goes : (token : ℕ) (name : List ℕ) (m : Option Meaning) (l : OperandOrFault) (w : Walk) → meaning_of name w.names ≡ m
    → ((t : TypeTree) → CalledAs token m (view w) (typed token t (view w)))
    → Goes (TypedAt token) (Value token (Calls name) ∷ []) (view w) (operand_noted token l w)
library_goes token name m (Ok x) w h k = (
  (view (with_type token x.ctype w), (called_step token name (view w) _ m h (k x.ctype), refl)),
  holds_here token x.ctype (view w),
)
library_goes token name m (Err kind) w h k = tt

called_goes : (token : ℕ) (name : List ℕ) (m : Option Meaning) (xs : List Operand) (w : Walk) → meaning_of name w.names ≡ m
    → Goes (TypedAt token) (Value token (Calls name) ∷ []) (view w) (called_name token m xs w)
called_goes token name (Some (meaning.Function index)) xs w h = function_goes token index name (slice_get w.functions index) xs w h
called_goes token name (Some (meaning.Library function)) xs w h =
    library_goes token name (Some (meaning.Library function)) (library_called function xs) w h (λ t. (t, refl))
called_goes token name m xs w h = tt

whole_call_goes : (token : ℕ) (name : List ℕ) (m : Option Meaning) (arguments : ExprList) (xs : List Operand) (w : Walk) → meaning_of name w.names ≡ m
    → Goes (TypedAt token) (Value token (Calls name) ∷ []) (view w) (whole_call token m arguments xs w)
whole_call_goes token name (Some (meaning.Function index)) arguments xs w h = called_goes token name (Some (meaning.Function index)) xs w h
whole_call_goes token name (Some (meaning.Library function)) arguments xs w h =
    either (TypedAt token) (Value token (Calls name) ∷ []) (view w) (is_printf (Some (meaning.Library function))) (operand_noted token (format_of arguments xs) w)
    (called_name token (Some (meaning.Library function)) xs w)
    (library_goes token name (Some (meaning.Library function)) (format_of arguments xs) w h (λ t. (t, refl)))
    (called_goes token name (Some (meaning.Library function)) xs w h)
whole_call_goes token name m arguments xs w h = tt

-- a member of an operand whose type is noted
selected_goes : (token operand : ℕ) (behind place : Bool) (name : List ℕ) (left : TypeTree) (m : Result Member FaultKind) (w : Walk)
    → member_by behind w.structs name left ≡ m → Holds operand left (view w)
    → Goes (TypedAt token) (Value token (Selects operand behind name) ∷ []) (view w) (selected_member token place m w)
selected_goes token operand behind place name left (Err kind) w h k = tt
selected_goes token operand behind place name left (Ok m) w h k = (
  (view (with_type token m.ctype (with_offset token m.offset w)), (record { of = left; member = m; holds = k; is = h; to = refl }, refl)),
  holds_here token m.ctype (view (with_offset token m.offset w)),
)

mutual
  pub expr_goes : (x : ExprTree) (w : Walk) → Goes (TypedAt (token_of x)) (expr_events x) (view w) (walk_expr x w)
  expr_goes (e.Comma token operands) w =
      goes_then Anyhow (TypedAt token) (exprs_events operands) (Value token Other ∷ []) (view w) (walk_exprs operands [] w) _ (exprs_goes operands [] w)
      (λ xs v g. looked_goes token _ v)
  expr_goes (e.Assign token s target value) w =
      goes_then (TypedAt (token_of target)) (TypedAt token) (expr_events target) (expr_events value ++ Value token Other ∷ []) (view w) (walk_expr target w) _
      (expr_goes target w)
      (λ x v g. goes_then (TypedAt (token_of value)) (TypedAt token) (expr_events value) (Value token Other ∷ []) (view v) (walk_expr value v) _
      (expr_goes value v) (λ y u f. looked_goes token _ u))
  expr_goes (e.Conditional token condition first second) w =
      goes_then (TypedAt (token_of condition)) (TypedAt token) (expr_events condition) (expr_events first ++ (expr_events second ++ Value token Other ∷ []))
      (view w) (walk_expr condition w) _ (expr_goes condition w)
      (λ c v g. goes_then (TypedAt (token_of first)) (TypedAt token) (expr_events first) (expr_events second ++ Value token Other ∷ []) (view v)
      (walk_expr first v) _ (expr_goes first v)
      (λ x u f. goes_then (TypedAt (token_of second)) (TypedAt token) (expr_events second) (Value token Other ∷ []) (view u) (walk_expr second u) _
      (expr_goes second u) (λ y r h. looked_goes token _ r)))
  expr_goes (e.Chain level first links) w =
      goes_then (TypedAt (token_of first)) (TypedAt (link_token (token_of first) links)) (expr_events first) (links_events links) (view w) (walk_expr first w) _
      (expr_goes first w) (λ x v g. links_goes links (token_of first) x v g)
  expr_goes (e.Cast token b stars operand) w =
      then_on Anyhow (TypedAt token) (expr_events operand ++ Value token Other ∷ []) (view w) (base_type b w) _ (base_goes b w)
      (λ t v g. goes_then (TypedAt (token_of operand)) (TypedAt token) (expr_events operand) (Value token Other ∷ []) (view v) (walk_expr operand v) _
      (expr_goes operand v) (λ x u f. looked_goes token _ u))
  expr_goes (e.Prefix token operator operand) w =
      goes_then (TypedAt (token_of operand)) (TypedAt token) (expr_events operand) (Value token Other ∷ []) (view w) (walk_expr operand w) _
      (expr_goes operand w) (λ x v g. looked_goes token _ v)
  expr_goes (e.SizeOfType token b stars) w =
      then_on Anyhow (TypedAt token) (Value token Other ∷ []) (view w) (base_type b w) _ (base_goes b w) (λ t v g. looked_goes token _ v)
  expr_goes (e.Postfix primary operators) w =
      goes_then (TypedAt (token_of primary)) (TypedAt (postfix_token (token_of primary) operators)) (expr_events primary)
      (postfix_events (token_of primary) operators) (view w) (walk_expr primary w) _ (expr_goes primary w)
      (λ x v g. postfix_goes operators (token_of primary) x v g)
  expr_goes (e.Name token name) w = named_goes token (meaning_of name w.names) w
  expr_goes (e.Call token name arguments) w =
      goes_then Anyhow (TypedAt token) (exprs_events arguments) (Value token (Calls name) ∷ []) (view w) (walk_exprs arguments [] w) _
      (exprs_goes arguments [] w) (λ xs v g. called_goes token name (meaning_of name v.names) xs v refl)
  expr_goes (e.Constant token kind value) w = looked_goes token (Ok (constant_of kind value)) w
  expr_goes (e.Strings token parts) w = looked_goes token (Ok (string_of (string_cells parts))) w
  expr_goes (e.Paren token inner) w =
      goes_then (TypedAt (token_of inner)) (TypedAt token) (expr_events inner) (Value token Other ∷ []) (view w) (walk_expr inner w) _ (expr_goes inner w)
      (λ x v g. looked_goes token (Ok (parenthesized_operand x)) v)
  expr_goes (e.Null token) w = looked_goes token (Ok null_of) w
  expr_goes (e.EndOfFile token) w = looked_goes token (Ok (value_of t.Int)) w

  pub exprs_goes : (xs : ExprList) (before : List Operand) (w : Walk) → Goes Anyhow (exprs_events xs) (view w) (walk_exprs xs before w)
  exprs_goes e.no_exprs before w = (refl, tt)
  exprs_goes (e.more_exprs x rest) before w =
      goes_then (TypedAt (token_of x)) Anyhow (expr_events x) (exprs_events rest) (view w) (walk_expr x w) _ (expr_goes x w)
      (λ y v g. exprs_goes rest (before ++ y ∷ []) v)

  links_goes : (links : LinkList) (operand : ℕ) (left : Operand) (w : Walk) → TypedAt operand left (view w)
      → Goes (TypedAt (link_token operand links)) (links_events links) (view w) (walk_links links left w)
  links_goes e.no_links operand left w h = (refl, h)
  links_goes (e.more_links token s x rest) operand left w h =
      goes_then (TypedAt (token_of x)) (TypedAt (link_token token rest)) (expr_events x) (Value token Other ∷ links_events rest) (view w) (walk_expr x w) _
      (expr_goes x w)
      (λ right v g. looked_on (TypedAt (link_token token rest)) (links_events rest) token _ v _ (λ y u f. links_goes rest token y u f))

  postfix_goes : (operators : PostfixList) (operand : ℕ) (left : Operand) (w : Walk) → TypedAt operand left (view w)
      → Goes (TypedAt (postfix_token operand operators)) (postfix_events operand operators) (view w) (walk_postfix operators left w)
  postfix_goes e.no_postfix operand left w h = (refl, h)
  postfix_goes (e.index token x rest) operand left w h =
      goes_then (TypedAt (token_of x)) (TypedAt (postfix_token token rest)) (expr_events x) (Value token Other ∷ postfix_events token rest) (view w)
      (walk_expr x w) _ (expr_goes x w)
      (λ right v g. looked_on (TypedAt (postfix_token token rest)) (postfix_events token rest) token _ v _ (λ y u f. postfix_goes rest token y u f))
  postfix_goes (e.member token name rest) operand left w h =
      goes_then (TypedAt token) (TypedAt (postfix_token token rest)) (Value token (Selects operand false name) ∷ []) (postfix_events token rest) (view w) _ _
      (selected_goes token operand false _ name left.ctype _ w refl h) (λ y u f. postfix_goes rest token y u f)
  postfix_goes (e.arrow token name rest) operand left w h =
      goes_then (TypedAt token) (TypedAt (postfix_token token rest)) (Value token (Selects operand true name) ∷ []) (postfix_events token rest) (view w) _ _
      (selected_goes token operand true _ name left.ctype _ w refl h) (λ y u f. postfix_goes rest token y u f)
  postfix_goes (e.increment token rest) operand left w h =
      looked_on (TypedAt (postfix_token token rest)) (postfix_events token rest) token _ w _ (λ y u f. postfix_goes rest token y u f)
  postfix_goes (e.decrement token rest) operand left w h =
      looked_on (TypedAt (postfix_token token rest)) (postfix_events token rest) token _ w _ (λ y u f. postfix_goes rest token y u f)

-- the whole expression of a statement
pub whole_goes : (x : ExprTree) (w : Walk) → Goes (TypedAt (token_of x)) (expr_events x) (view w) (walk_whole x w)
whole_goes (e.Call token name arguments) w =
    goes_then Anyhow (TypedAt token) (exprs_events arguments) (Value token (Calls name) ∷ []) (view w) (walk_exprs arguments [] w) _
    (exprs_goes arguments [] w) (λ xs v g. whole_call_goes token name (meaning_of name v.names) arguments xs v refl)
whole_goes x w = expr_goes x w
