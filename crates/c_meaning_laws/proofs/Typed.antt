-- Where types fit, what is given is of its type.
use Rattle.std.proofs.Common.{◌≡◌, true, false, length, Option, Some, None, refl, ap, ap₂, sym, ◌∙◌, subst}
use Rattle.std.proofs.Math.Path.{fun_ext}
use Rattle.std.proofs.lemmas.Bool.{false≢true}
use Rattle.cbi_base.specs.declared.scalar.Kind.TheVariants.{Int}
use Rattle.cbi_base.specs.declared.scalar.Scalar.{Scalar}
use Rattle.cbi_base.specs.declared.scalar.Scalar.TheVariants.{Number, Place, Null, Undefined}
use Rattle.cbi_base.specs.Words.{LiesIn, IsInRange}
use Rattle.c_syntax.specs.declared.expr.PrefixOperator.TheVariants as prefix
use Rattle.c_syntax.specs.ExprTree as e
use Rattle.c_syntax.specs.ExprTree.{ExprTree}
use Rattle.c_meaning.specs.declared.value_type.ValueType.{ValueType}
use Rattle.c_meaning.specs.declared.value_type.ValueType.TheVariants as type
use Rattle.c_meaning.specs.Words.{Setting, Signature, sense_of_place, postfixed_sense, place_or_value, expr, value_after_postfix, pointed_place, call_at, setting_of, is_place, type_of, World, Out}
use Rattle.c_meaning.specs.Words.{Go, Stop, Returned, answer_or_trap, bind}
use Rattle.c_meaning_laws.specs.Rules.{IsValue}
use Rattle.c_meaning_laws.specs.Typed.{variable_named}
use Rattle.c_meaning_laws.specs.TypedSource.{GivesInt, TypedBody, without_sites}
use Rattle.c_meaning_laws.specs.TypedStatements.{TypedEntries}
use Rattle.c_meaning_laws.proofs.Expressions.{expr_safe}
use Rattle.c_meaning_laws.proofs.Runs.{calls_safe}
use Rattle.c_meaning_laws.proofs.Safe.{Ending}
use Rattle.c_meaning_laws.proofs.Statements.{FlowFits, entries_safe}
use Rattle.c_meaning_laws.proofs.Values.{Fits, IsAt}
use Rattle.c_meaning_laws.proofs.Visits.{Spot, spot_at}
use Rattle.c_meaning_laws.specs.Addresses.{TargetOfAddressIsPlace}
use Rattle.c_meaning_laws.specs.Exits.{TypedMainMeets, main_body}
use Rattle.c_meaning_laws.specs.Negation.{IsValueOfType, TypedValueMeets}
use Rattle.c_meaning_laws.specs.Parentheses.{KeepsType}
use Rattle.c_meaning_laws.proofs.Places.{typed_keeps}

-- a value of the kind that is wanted, in its range
fitting : (t : Option ValueType) (v : Scalar) → IsValue t → Fits t v → IsInRange v → IsValueOfType t v
fitting (Some (type.Number kind)) (Number other n) h f r = (sym f, subst (λ k. LiesIn k n) (sym f) r)
fitting (Some (type.Number kind)) (Place number offset) h f r = absurd f
fitting (Some (type.Number kind)) Null h f r = absurd f
fitting (Some (type.Pointer size)) (Number other n) h f r = absurd f
fitting (Some (type.Array size)) (Number other n) h f r = absurd f
fitting (Some (type.Array size)) Null h f r = absurd f
fitting (Some type.Void) v h f r = absurd h
fitting (Some type.Struct) v h f r = absurd h
fitting None v h f r = absurd h
fitting (Some (type.Number kind)) Undefined h f r = tt
fitting (Some (type.Pointer size)) Undefined h f r = tt
fitting (Some (type.Pointer size)) (Place number offset) h f r = tt
fitting (Some (type.Pointer size)) Null h f r = tt
fitting (Some (type.Array size)) Undefined h f r = tt
fitting (Some (type.Array size)) (Place number offset) h f r = tt

pub ending : {A : Type 0} (P : A → Type 0) (out : Out A) (x : A) (u : World) → Ending P out → out ≡ Go x u → P x
ending P out x u h is = subst (Ending P) is h

pub typed_value_meets : TypedValueMeets
typed_value_meets src calls locals x w fits typed value range v u is =
    let s : Setting = setting_of src (call_at src calls) locals in
    fitting (type_of s.facts x) v value (ending (Fits (type_of s.facts x)) ((expr s x).value w) v u
    (((expr_safe s (call_at (without_sites src) calls) fits.sites (calls_safe src fits calls) x typed).value value).at w) is) (range v u is)

int_given : (g : Option Signature) (f : Signature) → g ≡ Some f → GivesInt g → f.result ≡ type.Number Int
int_given g f is h = subst GivesInt is h

pub typed_main_meets : TypedMainMeets
typed_main_meets src turns locals f body w fits known has count range v u is =
    let s : Setting = setting_of src (call_at src turns) locals in
    let bodies : TypedBody src.facts src.sites f (Some body) = subst (TypedBody src.facts src.sites f) has (fits.bodies src.main f known) in
    let result : f.result ≡ type.Number Int = int_given (src.facts.signature src.main) f known fits.main in
    let entries : TypedEntries src.facts src.sites locals.count (type.Number Int) false body =
    subst (λ n. TypedEntries src.facts src.sites n (type.Number Int) false body) (sym count)
    (subst (λ t. TypedEntries src.facts src.sites (length f.locals) t false body) result bodies) in
    let flow : FlowFits (type.Number Int) false (Returned (Some v)) =
    ending (FlowFits (type.Number Int) false) (main_body src turns locals body w) (Returned (Some v)) u
    ((entries_safe s (call_at (without_sites src) turns) fits.sites (calls_safe src fits turns) (type.Number Int) body turns false entries).at w) is in
    fitting (Some (type.Number Int)) v tt flow.0 (range v u is)

-- an expression that is a place is one of its type
place_sense : (s : Setting) (x : ExprTree) → is_place x ≡ true → KeepsType s.facts x → expr s x ≡ sense_of_place (type_of s.facts x) (expr s x).place
place_sense s (e.Name token name) is keeps = refl
place_sense s (e.Prefix token prefix.Indirection operand) is keeps = refl
place_sense s (e.Postfix primary operators) is keeps =
    let of : Option ValueType = type_of s.facts (e.Postfix primary operators) in
    let m : World → Out Scalar = λ w. bind (place_or_value (is_place primary) (expr s primary) w) (value_after_postfix s (is_place primary) (type_of s.facts primary) operators) in
    ap (λ b. postfixed_sense b of m) is ∙ ap (λ b. sense_of_place of (postfixed_sense b of m).place) (sym is)
place_sense s (e.Paren token inner) is keeps =
    place_sense s inner is keeps.1 ∙ ap (λ of. sense_of_place of (expr s inner).place) (sym keeps.0)
place_sense s x is keeps = absurd (false≢true is)

-- a place is what `*` goes on with
at_pointed : (v : Scalar) (w : World) → IsAt v → answer_or_trap (pointed_place v) w ≡ Go v w
at_pointed (Place number offset) w h = refl
at_pointed v w h = absurd h

followed_place : (P : Scalar → Type 0) (out : Out Scalar) → ((v : Scalar) → P v → IsAt v) → Ending P out → bind out (λ v u. answer_or_trap (pointed_place v) u) ≡ out
followed_place P (Go v w) f h = at_pointed v w (f v h)
followed_place P (Stop outcome w) f h = refl

pub target_of_address_is_place : TargetOfAddressIsPlace
target_of_address_is_place src calls locals star address x fits typed is same =
    let s : Setting = setting_of src (call_at src calls) locals in
    ap₂ sense_of_place same (fun_ext (λ w.
    followed_place (Spot locals (variable_named s.facts x)) ((expr s x).place w) (spot_at locals (variable_named s.facts x))
    (((expr_safe s (call_at (without_sites src) calls) fits.sites (calls_safe src fits calls) x typed).place is).at w)))
    ∙ sym (place_sense s x is (typed_keeps s locals.count x typed))
