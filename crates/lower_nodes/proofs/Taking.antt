-- What becomes of values and places.
use Rattle.std.proofs.Common.{◌≡◌, ℕ, refl, sym, subst, List, [], ◌∷◌, ◌++◌, length, true, false, Option, Some}
use Rattle.cbi_base.specs.declared.scalar.Want.TheVariants as want
use Rattle.flow.specs.declared.node.Node.{Node}
use Rattle.flow.specs.declared.node.Node.TheVariants as node
use Rattle.flow.specs.declared.node.View.TheVariants as view
use Rattle.c_meaning.specs.declared.value_type.ValueType.{ValueType}
use Rattle.c_meaning.specs.declared.value_type.ValueType.TheVariants as type
use Rattle.c_meaning.specs.Expressions.{is_struct_value}
use Rattle.lower_relation.specs.Paths.{◌then◌, Does, Either, ForkTo, Nothing, Ways}
use Rattle.lower_relation.specs.Operators.{LoadThrough, PointerPlace}
use Rattle.lower_relation.specs.Values.{DiscardedPlace, LoadAt}
use Rattle.lower_nodes.specs.Made.{GraphPath, Made, MadeFor, MadeWays}
use Rattle.lower_nodes.specs.Purposes.{PurposeTakes, TakesPlace, TakesThrough, is_single, condition_ways}
use Rattle.lower_nodes.specs.Ends.{WantedAlike, purpose_ends}
use Rattle.lower_nodes.specs.Standing.{AllLike, Allowed, Like, Allowance, PartStands}
use Rattle.lower_nodes.specs.declared.purpose.Purpose.{Purpose}
use Rattle.lower_nodes.specs.declared.purpose.Purpose.TheVariants as purpose
use Rattle.lower_nodes.proofs.Building.{either_made, later_self, nothing_made, one_made, stays_put, stood_put, then_made, view_made}
use Rattle.lower_nodes.proofs.Wanting.{as_effect, as_truth, as_value}

pub fork_made : (n0 n1 : List Node) (i yes_at no_at : ℕ) → i ≡ length n0 → n1 ≡ n0 ++ node.Fork yes_at no_at ∷ [] → MadeWays (λ G. ForkTo G) n0 n1 i (condition_ways yes_at no_at)
fork_made n0 n1 i yes_at no_at at is =
    view_made (λ (w : Ways). view.Forks w.yes_to w.no_to) (node.Fork yes_at no_at) n0 n1 i (condition_ways yes_at no_at) refl at is (λ all b. b)
    (λ s l same like. record { same = refl; visits = λ h. h; fork = λ f. f })

-- a path before a fork
pub tests_made : (R : GraphPath ℕ) (n0 n1 n2 : List Node) (f i yes_at no_at : ℕ) → f ≡ length n0 → n1 ≡ n0 ++ node.Fork yes_at no_at ∷ [] → Made R n1 n2 i f →
    MadeWays (λ G. R G then ForkTo G) n0 n2 i (condition_ways yes_at no_at)
tests_made R n0 n1 n2 f i yes_at no_at at is made = then_made R (λ G. ForkTo G) n0 n1 n2 i f (condition_ways yes_at no_at) (fork_made n0 n1 f yes_at no_at at is) made

took_value : (s : Allowance) (n : List Node) (next j : ℕ) (l : Purpose) → WantedAlike (purpose.Value next) l → AllLike s n (next ∷ []) (purpose_ends l) → PurposeTakes (Allowed s) j l →
    PartStands s (length n) n next j
took_value s n next j (purpose.Value to) same like h = stood_put s n next j (subst (λ q. Like s n next q) (sym h) like.0)
took_value s n next j (purpose.Effect to) same like h = absurd same
took_value s n next j (purpose.Truth yes_at no_at) same like h = absurd same

pub take_value : (n : List Node) (next : ℕ) → MadeFor (λ G. PurposeTakes G) n n next (purpose.Value next)
take_value n next = record {
  does = λ fin l. refl;
  keeps = later_self 0 n;
  leads = λ below. stays_put n next below;
  stands = λ s j l same like h. took_value s n next j l same like h;
}

pub take_effect : (n0 n1 : List Node) (i next : ℕ) → i ≡ length n0 → n1 ≡ n0 ++ node.Drop next ∷ [] → MadeFor (λ G. PurposeTakes G) n0 n1 i (purpose.Effect next)
take_effect n0 n1 i next at is =
    as_effect (λ G. Does G (node.Drop 0)) (λ G. PurposeTakes G) (λ G i k h. h) (λ G i k h. h) n0 n1 i next (one_made (node.Drop 0) (node.Drop next) n0 n1 i next refl at is)

pub take_truth : (n0 n1 : List Node) (i yes_at no_at : ℕ) → i ≡ length n0 → n1 ≡ n0 ++ node.Fork yes_at no_at ∷ [] → MadeFor (λ G. PurposeTakes G) n0 n1 i (purpose.Truth yes_at no_at)
take_truth n0 n1 i yes_at no_at at is = as_truth (λ G. ForkTo G) (λ G. PurposeTakes G) (λ G i w h. h) (λ G i w h. h) n0 n1 i yes_at no_at (fork_made n0 n1 i yes_at no_at at is)

pub place_value : (of : Option ValueType) (n0 n1 : List Node) (i next : ℕ) → Made (λ G. LoadAt G of) n0 n1 i next → MadeFor (λ G. TakesPlace G of) n0 n1 i (purpose.Value next)
place_value of n0 n1 i next made = as_value (λ G. LoadAt G of) (λ G. TakesPlace G of) (λ G i k h. h) (λ G i k h. h) n0 n1 i next made

pub place_effect : (of : Option ValueType) (n0 n1 : List Node) (i next : ℕ) → Made (λ G. DiscardedPlace G (is_struct_value of) of) n0 n1 i next →
    MadeFor (λ G. TakesPlace G of) n0 n1 i (purpose.Effect next)
place_effect of n0 n1 i next made =
    as_effect (λ G. DiscardedPlace G (is_struct_value of) of) (λ G. TakesPlace G of) (λ G i k h. h) (λ G i k h. h) n0 n1 i next made

pub place_truth : (of : Option ValueType) (n0 n1 n2 : List Node) (f i yes_at no_at : ℕ) → f ≡ length n0 → n1 ≡ n0 ++ node.Fork yes_at no_at ∷ [] →
    Made (λ G. LoadAt G of) n1 n2 i f → MadeFor (λ G. TakesPlace G of) n0 n2 i (purpose.Truth yes_at no_at)
place_truth of n0 n1 n2 f i yes_at no_at at is made =
    as_truth (λ G. LoadAt G of then ForkTo G) (λ G. TakesPlace G of) (λ G i w h. h) (λ G i w h. h) n0 n2 i yes_at no_at
    (tests_made (λ G. LoadAt G of) n0 n1 n2 f i yes_at no_at at is made)

-- a test of a pointer, with the load of null that is the trap
pub pointed_made : (n0 n1 n2 n3 : List Node) (trap fork i k : ℕ) → trap ≡ length n0 → n1 ≡ n0 ++ node.Load want.Pointer k ∷ [] →
    fork ≡ length n1 → n2 ≡ n1 ++ node.Fork k trap ∷ [] → i ≡ length n2 → n3 ≡ n2 ++ node.Dup fork ∷ [] → Made (λ G. PointerPlace G) n0 n3 i k
pointed_made n0 n1 n2 n3 trap fork i k at1 is1 at2 is2 at3 is3 =
    then_made (λ G. Does G (node.Dup 0)) (λ G. Either (ForkTo G) Nothing (Does G (node.Load want.Pointer 0))) n0 n2 n3 i fork k
    (either_made (λ G. ForkTo G) (λ G. Nothing) (λ G. Does G (node.Load want.Pointer 0)) n0 n1 n1 n2 fork k trap k
    (one_made (node.Load want.Pointer 0) (node.Load want.Pointer k) n0 n1 trap k refl at1 is1) (nothing_made n1 k) (fork_made n1 n2 fork k trap at2 is2))
    (one_made (node.Dup 0) (node.Dup fork) n2 n3 i fork refl at3 is3)

pub through_value : (of : Option ValueType) (n0 n1 : List Node) (i next : ℕ) → Made (λ G. LoadThrough G of) n0 n1 i next →
    MadeFor (λ G. TakesThrough G of) n0 n1 i (purpose.Value next)
through_value of n0 n1 i next made = as_value (λ G. LoadThrough G of) (λ G. TakesThrough G of) (λ G i k h. h) (λ G i k h. h) n0 n1 i next made

pub through_effect : (of : Option ValueType) (n0 n1 n2 : List Node) (m i next : ℕ) → Made (λ G. DiscardedPlace G (is_struct_value of) of) n0 n1 m next → Made (λ G. PointerPlace G) n1 n2 i m →
    MadeFor (λ G. TakesThrough G of) n0 n2 i (purpose.Effect next)
through_effect of n0 n1 n2 m i next discarded made =
    as_effect (λ G. PointerPlace G then DiscardedPlace G (is_struct_value of) of) (λ G. TakesThrough G of) (λ G i k h. h) (λ G i k h. h) n0 n2 i next
    (then_made (λ G. PointerPlace G) (λ G. DiscardedPlace G (is_struct_value of) of) n0 n1 n2 i m next discarded made)

pub through_truth : (of : Option ValueType) (n0 n1 n2 : List Node) (f i yes_at no_at : ℕ) → f ≡ length n0 → n1 ≡ n0 ++ node.Fork yes_at no_at ∷ [] →
    Made (λ G. LoadThrough G of) n1 n2 i f → MadeFor (λ G. TakesThrough G of) n0 n2 i (purpose.Truth yes_at no_at)
through_truth of n0 n1 n2 f i yes_at no_at at is made =
    as_truth (λ G. LoadThrough G of then ForkTo G) (λ G. TakesThrough G of) (λ G i w h. h) (λ G i w h. h) n0 n2 i yes_at no_at
    (tests_made (λ G. LoadThrough G of) n0 n1 n2 f i yes_at no_at at is made)

pub ruleset takes_made = (take_value, take_effect, take_truth)

pub ruleset places_made = (place_value, place_effect, place_truth)

pub ruleset pointers_made = (pointed_made, through_value, through_effect, through_truth)

pub load_single : (of : Option ValueType) (n0 n1 : List Node) (i next : ℕ) → is_single of ≡ true → Made (λ G. LoadAt G of) n0 n1 i next → Made (λ G. LoadThrough G of) n0 n1 i next
load_single (Some (type.Number kind)) n0 n1 i next single made = made
load_single (Some (type.Pointer size)) n0 n1 i next single made = made
load_single of n0 n1 i next single made = cc

pub load_pointed : (of : Option ValueType) (n0 n1 n2 : List Node) (m i next : ℕ) → is_single of ≡ false → Made (λ G. LoadAt G of) n0 n1 m next →
    Made (λ G. PointerPlace G) n1 n2 i m → Made (λ G. LoadThrough G of) n0 n2 i next
load_pointed (Some (type.Number kind)) n0 n1 n2 m i next several load pointed = cc
load_pointed (Some (type.Pointer size)) n0 n1 n2 m i next several load pointed = cc
load_pointed of n0 n1 n2 m i next several load pointed = then_made (λ G. PointerPlace G) (λ G. LoadAt G of) n0 n1 n2 i m next load pointed

pub ruleset loads_made = (load_single, load_pointed)
