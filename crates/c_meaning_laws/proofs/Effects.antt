-- What an expression does where nothing takes its value is what it does where its value is taken.
use Rattle.std.proofs.Common.{◌≡◌, ℕ, Bool, true, false, ◌==◌, length, List, [], Option, Some, None, refl, ap, sym, ◌∙◌, subst}
use Rattle.c_meaning_laws.proofs.Values.{decayed_value}
use Rattle.cbi_base.specs.declared.scalar.Scalar.{Scalar}
use Rattle.c_types_rules.specs.declared.library.Library.{Library}
use Rattle.c_types_rules.specs.declared.library.Library.TheVariants as library
use Rattle.c_syntax.specs.declared.expr.PrefixOperator.{PrefixOperator}
use Rattle.c_syntax.specs.declared.expr.PrefixOperator.TheVariants as prefix
use Rattle.c_syntax.specs.ExprTree as e
use Rattle.c_syntax.specs.ExprTree.{ExprTree, ExprList}
use Rattle.c_meaning.specs.declared.value_type.Called.{Called}
use Rattle.c_meaning.specs.declared.value_type.Called.TheVariants as called
use Rattle.c_meaning.specs.declared.value_type.ValueType.{ValueType}
use Rattle.c_meaning.specs.declared.value_type.ValueType.TheVariants as type
use Rattle.c_meaning.specs.Words.{Argument, Arguments, call_function, call_library, call_sense, with_result, is_null_as, load_at, Sense, arm_effect}
use Rattle.c_meaning.specs.Words.{arm_value, cast_sense, conditional, is_struct_value, sense_of_place, postfixed_sense, prefixed_sense, size_value, place_or_value, Setting, Signature}
use Rattle.c_meaning.specs.Words.{arguments_value, expr, arguments_printed, last_sense, lone_value, value_after_postfix, pointed_place, variable, called_as, expression_count, ends_as_place}
use Rattle.c_meaning.specs.Words.{has_value, is_place, token_of, type_of, visited_truth, World, Out, Go, Next, OutDone, answer_or_trap, bind, chosen_part, value_discarded, no_effect, stuck_run}
use Rattle.c_meaning_laws.specs.Rules.{IsValue}
use Rattle.c_meaning_laws.specs.Typed.{CallsFunction, CallsLibrary, Typed, TypedArguments, TypedCall, TypedLast, TypedLone}
use Rattle.c_meaning_laws.specs.Discarding.{CastDiscards, StatementDiscards}
use Rattle.c_meaning_laws.proofs.Parts.{bind_behind}

-- the value is let go
abbrev LetsGo : Sense → Type 0
LetsGo m = (w : World) → m.effect w ≡ value_discarded (m.value w)

load_goes : (of : Option ValueType) (v : Scalar) (w : World) → IsValue of → chosen_part (is_struct_value of) no_effect (λ u. value_discarded (load_at of v u)) w ≡ value_discarded (load_at of v w)
load_goes (Some type.Void) v w h = absurd h
load_goes (Some type.Struct) v w h = absurd h
load_goes None v w h = absurd h
load_goes of v w h = refl

place_goes : (of : Option ValueType) (p : World → Out Scalar) → IsValue of → LetsGo (sense_of_place of p)
place_goes of p h w = bind_behind (p w) (load_at of) _ (λ _. no_effect) (λ v u. load_goes of v u h)

postfix_goes : (b : Bool) (of : Option ValueType) (m : World → Out Scalar) → IsValue of → LetsGo (postfixed_sense b of m)
postfix_goes true of m h w = place_goes of m h w
postfix_goes false of m h w = refl

size_goes : (cells : Option ℕ) → LetsGo (size_value cells)
size_goes None w = refl
size_goes (Some cells) w = refl

cast_goes : (b : Bool) (of : Option ValueType) (m : Sense) → IsValue of → LetsGo (cast_sense b of m)
cast_goes b (Some type.Void) m h w = absurd h
cast_goes b (Some type.Struct) m h w = absurd h
cast_goes b None m h w = absurd h
cast_goes b of m h w = refl

pub arm_goes : (b : Bool) (have of : Option ValueType) (m : Sense) (w : World) → IsValue of → arm_effect b have of m w ≡ value_discarded (arm_value b have of m w)
arm_goes b have (Some type.Void) m w h = absurd h
arm_goes b have (Some type.Struct) m w h = absurd h
arm_goes b have None m w h = absurd h
arm_goes b have of m w h = refl

chosen_goes : (b : Bool) (first second : World → Out Scalar) (act other : World → OutDone) (w : World) → act w ≡ value_discarded (first w) → other w ≡ value_discarded (second w)
    → chosen_part b act other w ≡ value_discarded (chosen_part b first second w)
chosen_goes true first second act other w h k = h
chosen_goes false first second act other w h k = k

module _ (s : Setting) (room : ℕ) where
  prefix_goes : (token : ℕ) (o : PrefixOperator) (of : Option ValueType) (cells : Option ℕ) (m : Sense) → IsValue (s.facts.type_at token)
      → LetsGo (prefixed_sense s token o of cells m)
  prefix_goes token prefix.Indirection of cells m h w =
      place_goes (s.facts.type_at token) (λ u. bind (m.value u) (λ v y. answer_or_trap (pointed_place v) y)) h w
  prefix_goes token prefix.SizeOf of cells m h w = size_goes cells w
  prefix_goes token o of cells m h w = refl

  pub conditional_goes : (token : ℕ) (c : Sense) (first second : World → Out Scalar) (act other : World → OutDone)
      → ((w : World) → act w ≡ value_discarded (first w)) → ((w : World) → other w ≡ value_discarded (second w)) → LetsGo (conditional s token c first second act other)
  conditional_goes token c first second act other h k w =
      bind_behind (c.value w) _ _ (λ _. no_effect) (λ v u.
      bind_behind (visited_truth s token v u) _ _ (λ _. no_effect) (λ b y. chosen_goes b first second act other y (h y) (k y)))

  result_goes : (token : ℕ) (of : ValueType) (m : World → Out Scalar) → IsValue (Some of) → LetsGo (with_result s token (has_value of) m)
  result_goes token type.Void m h w = absurd h
  result_goes token type.Struct m h w = absurd h
  result_goes token of m h w = refl

  function_goes : (token number : ℕ) (f : Option Signature) (n : ℕ) (arguments : Arguments) (Fit : List ValueType → Type 0) (of : Option ValueType)
      → CallsFunction f Fit of → IsValue of → LetsGo (call_function s token number f n arguments)
  function_goes token number None n arguments Fit of h k w = absurd h
  function_goes token number (Some f) n arguments Fit of h k w =
      result_goes token f.result (chosen_part (n == length f.params) (λ u. bind (arguments f.params u) (s.call number)) stuck_run) (subst IsValue h.1 k) w

  library_goes : (token : ℕ) (function : Library) (n : ℕ) (argument : Argument) (print : World → OutDone) (Fit : List ValueType → Type 0) (One : Type 0)
      (of : Option ValueType) → CallsLibrary function Fit One of → IsValue of → LetsGo (call_library s token function n argument print)
  library_goes token library.Free n argument print Fit One of h k w = absurd (subst IsValue h.1 k)
  library_goes token library.Exit n argument print Fit One of h k w = absurd (subst IsValue h.1 k)
  library_goes token library.Abort n argument print Fit One of h k w = absurd (subst IsValue h.1 k)
  library_goes token library.Assert n argument print Fit One of h k w = absurd (subst IsValue h.1 k)
  library_goes token library.Printf n argument print Fit One of h k w = absurd h
  library_goes token function n argument print Fit One of h k w = refl

  call_goes : (token : ℕ) (what : Called) (n : ℕ) (arguments : Arguments) (argument : Argument) (print : World → OutDone) (Fit : List ValueType → Type 0)
      (One : Type 0) (of : Option ValueType) → TypedCall s.facts s.sites room what Fit One of → IsValue of
      → LetsGo (call_sense s token what n arguments argument print)
  call_goes token (called.Function number) n arguments argument print Fit One of h k w =
      function_goes token number (s.facts.signature number) n arguments Fit of h k w
  call_goes token (called.Library function) n arguments argument print Fit One of h k w = library_goes token function n argument print Fit One of h k w
  call_goes token called.Unknown n arguments argument print Fit One of h k w = absurd h

  mutual
    goes : (x : ExprTree) → Typed s.facts s.sites room x → IsValue (type_of s.facts x) → LetsGo (expr s x)
    goes (e.Comma token operands) h k w = last_goes (s.facts.type_at token) operands h k w
    goes (e.Conditional token condition first second) h k w =
        conditional_goes token (expr s condition)
        (arm_value (is_null_as (s.facts.type_at token) first) (type_of s.facts first) (s.facts.type_at token) (expr s first))
        (arm_value (is_null_as (s.facts.type_at token) second) (type_of s.facts second) (s.facts.type_at token) (expr s second))
        (arm_effect (is_null_as (s.facts.type_at token) first) (type_of s.facts first) (s.facts.type_at token) (expr s first))
        (arm_effect (is_null_as (s.facts.type_at token) second) (type_of s.facts second) (s.facts.type_at token) (expr s second))
        (λ u. arm_goes (is_null_as (s.facts.type_at token) first) (type_of s.facts first) (s.facts.type_at token) (expr s first) u k)
        (λ u. arm_goes (is_null_as (s.facts.type_at token) second) (type_of s.facts second) (s.facts.type_at token) (expr s second) u k) w
    goes (e.Cast token base stars operand) h k w = cast_goes (is_null_as (s.facts.type_at token) operand) (s.facts.type_at token) (expr s operand) k w
    goes (e.Prefix token operator operand) h k w =
        prefix_goes token operator (type_of s.facts operand) (s.facts.cells_at (token_of operand)) (expr s operand) k w
    goes (e.SizeOfType token base stars) h k w = size_goes (s.facts.named_cells base stars) w
    goes (e.Postfix primary operators) h k w =
        postfix_goes (ends_as_place (is_place primary) operators) (type_of s.facts (e.Postfix primary operators))
        (λ u. bind (place_or_value (is_place primary) (expr s primary) u) (value_after_postfix s (is_place primary) (type_of s.facts primary) operators)) k w
    goes (e.Name token name) h k w = place_goes (s.facts.type_at token) (variable s (s.facts.slot_at token)) k w
    goes (e.Call token name arguments) h k w =
        call_goes token (called_as (s.facts.function_at token) name) (expression_count arguments) (λ types. arguments_value s types arguments [])
        (λ want. lone_value s want arguments) (arguments_printed s arguments) (λ types. TypedArguments s.facts s.sites room types arguments)
        (TypedLone s.facts s.sites room arguments) (s.facts.type_at token) h k w
    goes (e.Paren token inner) h k w = goes inner h.0 (subst IsValue h.1 k) w
    goes x h k w = refl

    last_goes : (of : Option ValueType) (operands : ExprList) → TypedLast s.facts s.sites room of operands → IsValue of → LetsGo (last_sense s operands)
    last_goes of e.no_exprs h k w = absurd h
    last_goes of (e.more_exprs x e.no_exprs) h k w = goes x h.0 (decayed_value (type_of s.facts x) (subst IsValue h.1 k)) w
    last_goes of (e.more_exprs x (e.more_exprs y rest)) h k w =
        bind_behind ((expr s x).effect w) (λ _. (last_sense s (e.more_exprs y rest)).value) _ (λ _. no_effect)
        (λ _ u. last_goes of (e.more_exprs y rest) h.1 k u)

pub cast_discards : CastDiscards
cast_discards s n result token other cast_token word paren x w h =
    subst (λ of. bind ((expr s x).effect w) (λ _. Go Next) ≡ bind ((cast_sense (is_null_as of (e.Paren paren x)) of (expr s x)).effect w) (λ _. Go Next)) (sym h) refl

pub statement_discards : StatementDiscards
statement_discards s room n result token x w h k =
    ap (λ out. bind out (λ _. Go Next)) (goes s room x h k w) ∙ sym (bind_behind ((expr s x).value w) (λ _. no_effect) _ (λ _. Go Next) (λ v u. refl))
