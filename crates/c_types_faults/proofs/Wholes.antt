-- The whole expression of a statement.
use Rattle.std.proofs.Common.{◌⊎◌, inl, inr, ◌≡◌, ℕ, refl, subst, sym, ◌∙◌, List, [], ◌∷◌, Some, None, Ok, Err, Bool, true, false}
use Rattle.std.proofs.lemmas.Bool.{false≢true}
use Rattle.std.specs.Prelude.{Option, if◌then◌else◌}
use Rattle.c_syntax.specs.ExprTree as e
use Rattle.c_syntax.specs.ExprTree.{ExprTree, ExprList}
use Rattle.c_types_rules.specs.declared.fault.FaultKind.{FaultKind}
use Rattle.c_types_rules.specs.declared.fault.FaultKind.TheVariants as fault
use Rattle.c_types_rules.specs.declared.library.Library.{Library}
use Rattle.c_types_rules.specs.declared.library.Library.TheVariants as library
use Rattle.c_types_rules.specs.declared.operand.Operand.{Operand}
use Rattle.c_types_rules.specs.Words.{Int, value_of, OperandOrFault, fits_format}
use Rattle.c_types_expressions.specs.declared.names.Meaning.{Meaning}
use Rattle.c_types_expressions.specs.declared.names.Meaning.TheVariants as meaning
use Rattle.c_types_expressions.specs.declared.walk.Walk.{Walk}
use Rattle.c_types_expressions.specs.Words.{concatenated_strings, format_of, walk_whole, whole_call, meaning_of}
use Rattle.c_types_laws.proofs.Ruled.{Is}
use Rattle.c_types_faults.specs.Known.{Entity, Object, Function, Standard, Known}
use Rattle.c_types_faults.specs.Agrees.{Denotes}
use Rattle.c_types_faults.specs.Calls.{Calls}
use Rattle.c_types_faults.specs.Operands.{AsValue}
use Rattle.c_types_faults.specs.Exprs.{AreOperands}
use Rattle.c_types_faults.specs.Wholes.{IsFormatted, IsWhole, WholeBreaks, WholeCallBreaks}
use Rattle.c_types_faults.proofs.Exprs.{call_tells, expr_tells, exprs_tells}
use Rattle.c_types_faults.proofs.Refusing.{IsErr, fault_is}
use Rattle.c_types_faults.proofs.Telling.{Agreed, Tells, agrees_on, and_then, looks, shown, weaker}

abbrev Printed : Bool → OperandOrFault
Printed fits = if fits then Ok (value_of Int) else Err fault.Arguments

printed_is : (b : Bool) (d : Operand) → Is (Printed b) d → (b ≡ true) × (d ≡ value_of Int)
printed_is true d h = (refl, same d h)
  where
    same : (d : Operand) → Is (Ok (value_of Int)) d → d ≡ value_of Int
    same d h = cc
printed_is false d h = absurd (cc)

printed_breaks : (b : Bool) (j : FaultKind) → IsErr (Printed b) j → (j ≡ fault.Arguments) × (b ≡ true → ⊥)
printed_breaks true j h = absurd (cc)
printed_breaks false j h = (fault_is fault.Arguments j h, false≢true)

no_format : {A : Type 0} (d : Operand) → Is (Err fault.Arguments) d → A
no_format d h = absurd (cc)

format_is : (arguments : ExprList) (xs : List Operand) (d : Operand) → Is (format_of arguments xs) d → IsFormatted arguments xs × (d ≡ value_of Int)
format_is (e.more_exprs (e.Strings token parts) rest) (x ∷ xs) d h = printed_is (fits_format (concatenated_strings parts) xs) d h
format_is e.no_exprs xs d h = no_format d h
format_is (e.more_exprs (e.Strings token parts) rest) [] d h = no_format d h
format_is (e.more_exprs (e.Comma token operands) rest) xs d h = no_format d h
format_is (e.more_exprs (e.Assign token s target value) rest) xs d h = no_format d h
format_is (e.more_exprs (e.Conditional token condition first second) rest) xs d h = no_format d h
format_is (e.more_exprs (e.Chain level first links) rest) xs d h = no_format d h
format_is (e.more_exprs (e.Cast token b stars operand) rest) xs d h = no_format d h
format_is (e.more_exprs (e.Prefix token o operand) rest) xs d h = no_format d h
format_is (e.more_exprs (e.SizeOfType token b stars) rest) xs d h = no_format d h
format_is (e.more_exprs (e.Postfix primary operators) rest) xs d h = no_format d h
format_is (e.more_exprs (e.Name token name) rest) xs d h = no_format d h
format_is (e.more_exprs (e.Call token name arguments) rest) xs d h = no_format d h
format_is (e.more_exprs (e.Constant token of value) rest) xs d h = no_format d h
format_is (e.more_exprs (e.Paren token inner) rest) xs d h = no_format d h
format_is (e.more_exprs (e.Null token) rest) xs d h = no_format d h
format_is (e.more_exprs (e.EndOfFile token) rest) xs d h = no_format d h

format_breaks : (arguments : ExprList) (xs : List Operand) (j : FaultKind) → IsErr (format_of arguments xs) j
    → (j ≡ fault.Arguments) × (IsFormatted arguments xs → ⊥)
format_breaks (e.more_exprs (e.Strings token parts) rest) (x ∷ xs) j h = printed_breaks (fits_format (concatenated_strings parts) xs) j h
format_breaks e.no_exprs xs j h = (fault_is fault.Arguments j h, λ f. f)
format_breaks (e.more_exprs (e.Strings token parts) rest) [] j h = (fault_is fault.Arguments j h, λ f. f)
format_breaks (e.more_exprs (e.Comma token operands) rest) xs j h = (fault_is fault.Arguments j h, λ f. f)
format_breaks (e.more_exprs (e.Assign token s target value) rest) xs j h = (fault_is fault.Arguments j h, λ f. f)
format_breaks (e.more_exprs (e.Conditional token condition first second) rest) xs j h = (fault_is fault.Arguments j h, λ f. f)
format_breaks (e.more_exprs (e.Chain level first links) rest) xs j h = (fault_is fault.Arguments j h, λ f. f)
format_breaks (e.more_exprs (e.Cast token b stars operand) rest) xs j h = (fault_is fault.Arguments j h, λ f. f)
format_breaks (e.more_exprs (e.Prefix token o operand) rest) xs j h = (fault_is fault.Arguments j h, λ f. f)
format_breaks (e.more_exprs (e.SizeOfType token b stars) rest) xs j h = (fault_is fault.Arguments j h, λ f. f)
format_breaks (e.more_exprs (e.Postfix primary operators) rest) xs j h = (fault_is fault.Arguments j h, λ f. f)
format_breaks (e.more_exprs (e.Name token name) rest) xs j h = (fault_is fault.Arguments j h, λ f. f)
format_breaks (e.more_exprs (e.Call token name arguments) rest) xs j h = (fault_is fault.Arguments j h, λ f. f)
format_breaks (e.more_exprs (e.Constant token of value) rest) xs j h = (fault_is fault.Arguments j h, λ f. f)
format_breaks (e.more_exprs (e.Paren token inner) rest) xs j h = (fault_is fault.Arguments j h, λ f. f)
format_breaks (e.more_exprs (e.Null token) rest) xs j h = (fault_is fault.Arguments j h, λ f. f)
format_breaks (e.more_exprs (e.EndOfFile token) rest) xs j h = (fault_is fault.Arguments j h, λ f. f)

-- a call of what the name denotes, which gives a value or prints
abbrev CallsWhole : Option Entity → ExprList → List Operand → Operand → Type 0
CallsWhole x arguments xs d = AsValue (Calls x xs) d ⊎ ((x ≡ Some (Standard library.Printf)) × IsFormatted arguments xs × (d ≡ value_of Int))

module _ (k : Known) (token : ℕ) (arguments : ExprList) (xs : List Operand) where
  abbrev Told : Option Meaning → Option Entity → Walk → Type 0
  Told m x w = Tells (whole_call token m arguments xs w) (λ d v. CallsWhole x arguments xs d × (shown v ≡ shown w))
      (λ j at. (at ≡ token) × WholeCallBreaks x arguments xs j)

  plain_call : (m : Option Meaning) (x : Option Entity) (w : Walk)
      → Tells (whole_call token m arguments xs w) (λ d v. AsValue (Calls x xs) d × (shown v ≡ shown w)) (λ j at.
      (at ≡ token) × WholeCallBreaks x arguments xs j)
      → Told m x w
  plain_call m x w h = weaker h (λ j at b. b) (λ d v p. (inl p.0, p.1))

  standard_tells : (f : Library) (w : Walk) → Told (Some (meaning.Library f)) (Some (Standard f)) w
  standard_tells library.Printf w = looks token (format_of arguments xs) w
      (λ d h. let f = format_is arguments xs d h in (inr (refl, f.0, f.1), refl)) (λ j h. (refl, format_breaks arguments xs j h))
  standard_tells f w = plain_call (Some (meaning.Library f)) (Some (Standard f)) w (call_tells k token xs (Some (meaning.Library f)) (Some (Standard f)) w refl)

  whole_call_tells : (m : Option Meaning) (x : Option Entity) (w : Walk) → Denotes w.declared_types w.functions m x → Told m x w
  whole_call_tells (Some (meaning.Library f)) (Some (Standard g)) w h = subst (λ a. Told (Some (meaning.Library f)) (Some (Standard a)) w) h
      (standard_tells f w)
  whole_call_tells None None w h = plain_call None None w (call_tells k token xs None None w h)
  whole_call_tells (Some (meaning.Function index)) (Some (Function f)) w h = plain_call (Some (meaning.Function index)) (Some (Function f)) w
      (call_tells k token xs (Some (meaning.Function index)) (Some (Function f)) w h)
  whole_call_tells (Some (meaning.Variable index)) (Some (Object of)) w h = plain_call (Some (meaning.Variable index)) (Some (Object of)) w
      (call_tells k token xs (Some (meaning.Variable index)) (Some (Object of)) w h)
  whole_call_tells (Some (meaning.Library f)) (Some (Object of)) w h = absurd h
  whole_call_tells (Some (meaning.Library f)) (Some (Function g)) w h = absurd h
  whole_call_tells None (Some x) w h = absurd h
  whole_call_tells (Some (meaning.Function index)) (Some (Object of)) w h = absurd h
  whole_call_tells (Some (meaning.Function index)) (Some (Standard f)) w h = absurd h
  whole_call_tells (Some (meaning.Variable index)) (Some (Function f)) w h = absurd h
  whole_call_tells (Some (meaning.Variable index)) (Some (Standard f)) w h = absurd h
  whole_call_tells (Some (meaning.Struct index)) (Some x) w h = absurd h
  whole_call_tells (Some m) None w h = absurd h

module _ (k : Known) where
  whole_is : (token : ℕ) (name : List ℕ) (arguments : ExprList) (xs : List Operand) (d : Operand) → AreOperands k arguments xs
      → CallsWhole (k.ordinary name) arguments xs d → IsWhole k (e.Call token name arguments) d
  whole_is token name arguments xs d a (inl h) = inl (xs, (a, h))
  whole_is token name arguments xs d a (inr h) = inr (h.0, (xs, (a, h.1)), h.2)

  pub whole_tells : (x : ExprTree) (w : Walk) → Agreed k (shown w) → Tells (walk_whole x w) (λ d v. IsWhole k x d × (shown v ≡ shown w)) (WholeBreaks k x)
  whole_tells (e.Call token name arguments) w g = and_then (exprs_tells k arguments [] w g) (λ j at h. inl h) (λ xs v p.
      weaker (whole_call_tells k token arguments xs (meaning_of name v.names) (k.ordinary name) v ((agrees_on g p.1).by.ordinary name))
      (λ j at h. inr (xs, (subst (AreOperands k arguments) (sym p.0.1.0) p.0.1.1, h)))
      (λ d u q. (whole_is token name arguments xs d (subst (AreOperands k arguments) (sym p.0.1.0) p.0.1.1) q.0, q.1 ∙ p.1)))
  whole_tells x w g = expr_tells k x w g
