-- The nodes of a graph under other numbers.
use Rattle.std.proofs.Common.{◌≡◌, ℕ, suc, ◌+◌, ◌-◌, ◌<◌, ◌≤◌, refl, ap, sym, subst, ◌∙◌, arith, List, [], ◌∷◌, ◌++◌, length, length-append, Some, Bool, true, false, nat_eq, get_or, slice_get, option_map, rules}
use Rattle.std.proofs.lemmas.Bool.Decides.{nat_tests}
use Rattle.std.proofs.lemmas.Option.{slice_get_within, slice_get-get_or}
use Rattle.flow.specs.declared.node.Node.{Node}
use Rattle.flow.specs.declared.node.View.{View}
use Rattle.flow.specs.declared.node.View.TheVariants as view
use Rattle.flow.specs.Words.{led_to, moved_to, view as view_of}
use Rattle.lower_relation.specs.Stands.{renumbered_view}
use Rattle.lower_nodes.specs.Finished.{Finished, turned_number}
use Rattle.lower_nodes.proofs.Building.{slice_append, slice_end}

-- a node with one successor
pub one_renamed : (ren : ℕ → ℕ) (v : View) (next : ℕ) → next ∷ [] ≡ led_to v → moved_to (ren next) v ≡ renumbered_view ren v
one_renamed ren (view.Row op k) next e = cc
one_renamed ren (view.Halts op) next e = cc
one_renamed ren (view.Forks a b) next e = cc
one_renamed ren (view.Turns k) next e = cc
one_renamed ren (view.Calls f k) next e = cc
one_renamed ren view.Gives next e = cc
one_renamed ren view.Quits next e = cc
one_renamed ren (view.Marks s k) next e = cc
one_renamed ren (view.Skips by k) next e = cc
one_renamed ren (view.Tests s k) next e = cc
one_renamed ren (view.Picks w a b) next e = cc
one_renamed ren (view.Imports k) next e = cc
one_renamed ren (view.Exports k) next e = cc
one_renamed ren view.Nowhere next e = cc

-- those from a place on are there, the last one first
pub record TurnedFrom (place : ℕ) (old new : List Node) : Type 0 where
  pub count : length new + place ≡ length old
  pub each : (i : ℕ) (x : Node) → place ≤ i → slice_get old i ≡ Some x →
      option_map view_of (slice_get new (turned_number (length old - 1) i)) ≡ Some (renumbered_view (turned_number (length old - 1)) (view_of x))

pub none_turned : (old : List Node) → TurnedFrom (length old) old []
none_turned old = record { count = omega arith; each = λ i x low at. absurd (omega (arith, low, slice_get_within old i x at)) }

by_place : (old new new' : List Node) (place : ℕ) (x y : Node) → TurnedFrom (suc place) old new → slice_get old place ≡ Some x →
    view_of y ≡ renumbered_view (turned_number (length old - 1)) (view_of x) → new' ≡ new ++ y ∷ [] → (i : ℕ) (z : Node) → place ≤ i → slice_get old i ≡ Some z → (b : Bool) → nat_eq place i ≡ b →
    option_map view_of (slice_get new' (turned_number (length old - 1) i)) ≡ Some (renumbered_view (turned_number (length old - 1)) (view_of z))
by_place old new new' place x y t found same is i z low at true e =
    let here : i ≡ place = grind (arith, nat_tests) in
    let z_is : z ≡ x = search (rules, at, found, here) in
    let last : turned_number (length old - 1) i ≡ length new = omega (arith, t.count, here) in
    ap (option_map view_of) (ap (slice_get new') last ∙ ap (λ l. slice_get l (length new)) is ∙ slice_end new y) ∙ ap (λ v. Some v) (same ∙ ap (λ w. renumbered_view (turned_number (length old - 1)) (view_of w)) (sym z_is))
by_place old new new' place x y t found same is i z low at false e =
    let later : suc place ≤ i = grind (arith, nat_tests) in
    let inside : i < length old = slice_get_within old i z at in
    let early : turned_number (length old - 1) i < length new = omega (arith, t.count, later, inside) in
    ap (option_map view_of) (ap (λ l. slice_get l (turned_number (length old - 1) i)) is ∙ slice_append new (y ∷ []) (turned_number (length old - 1) i) early) ∙ t.each i z later at

-- one more node is turned
pub turned_step : (old new new' : List Node) (place : ℕ) (x y : Node) → TurnedFrom (suc place) old new → slice_get old place ≡ Some x →
    view_of y ≡ renumbered_view (turned_number (length old - 1)) (view_of x) → new' ≡ new ++ y ∷ [] → TurnedFrom place old new'
turned_step old new new' place x y t found same is = record {
  count = omega (arith, t.count, ap length is, length-append new (y ∷ []));
  each = λ i z low at. by_place old new new' place x y t found same is i z low at (nat_eq place i) refl;
}

pub all_turned : (old new : List Node) (place : ℕ) → place ≡ 0 → TurnedFrom place old new → Finished old new (turned_number (length old - 1))
all_turned old new place e t = record { each = λ i x at. t.each i x (omega (arith, e)) at }

-- the same at the place before
pub turned_before : (old new new' : List Node) (place after last : ℕ) (d y : Node) → after ≡ suc place → TurnedFrom after old new → last ≡ length old - 1 →
    view_of y ≡ renumbered_view (turned_number last) (view_of (get_or old place d)) → new' ≡ new ++ y ∷ [] → TurnedFrom place old new'
turned_before old new new' place after last d y e t same_last same is =
    turned_step old new new' place (get_or old place d) y (subst (λ p. TurnedFrom p old new) e t) (slice_get-get_or old place d (omega (arith, t.count, e)))
    (subst (λ n. view_of y ≡ renumbered_view (turned_number n) (view_of (get_or old place d))) same_last same) is
