-- Nodes that lead back lead on, once they are numbered from the last one down.
use Rattle.std.proofs.Common.{◌≡◌, ℕ, ◌-◌, ◌<◌, refl, ap, sym, subst, ◌∙◌, arith, List, [], ◌∷◌, length, map, Some, Bool, true, false, ◌&&◌, ◌||◌, nat_lt, if◌then◌else◌, IsTrue, get_or, slice_get, option_map}
use Rattle.std.proofs.lemmas.Bool.Decides.{nat_tests}
use Rattle.std.proofs.lemmas.Option.{slice_get_within, slice_get-get_or}
use Rattle.std.specs.List.{list_all}
use Rattle.base_lists.proofs.Tests.{both_true}
use Rattle.flow.specs.declared.node.Node.{Node}
use Rattle.flow.specs.declared.node.View.{View}
use Rattle.flow.specs.declared.node.View.TheVariants as view
use Rattle.flow.specs.Words.{is_again, leads_rightly, led_to, view as view_of}
use Rattle.lower_relation.specs.Stands.{renumbered_view}
use Rattle.lower_nodes.specs.Ends.{AllBelow}
use Rattle.lower_nodes.specs.Finished.{Finished, turned_number}
use Rattle.lower_nodes.specs.Made.{LeadBack, LeadsBack}
use Rattle.lower_nodes.specs.Reach.{LeadOn, bounds_of_nodes}

-- a renamed node leads to the renamed ones
renamed_leads : (ren : ℕ → ℕ) (v : View) → led_to (renumbered_view ren v) ≡ map ren (led_to v)
renamed_leads ren (view.Row op k) = refl
renamed_leads ren (view.Halts op) = refl
renamed_leads ren (view.Forks a b) = refl
renamed_leads ren (view.Turns k) = refl
renamed_leads ren (view.Calls f k) = refl
renamed_leads ren view.Gives = refl
renamed_leads ren view.Quits = refl
renamed_leads ren (view.Marks s k) = refl
renamed_leads ren (view.Skips by k) = refl
renamed_leads ren (view.Tests s k) = refl
renamed_leads ren (view.Picks w a b) = refl
renamed_leads ren (view.Imports k) = refl
renamed_leads ren (view.Exports k) = refl
renamed_leads ren view.Nowhere = refl

renamed_again : (ren : ℕ → ℕ) (v : View) → is_again (renumbered_view ren v) ≡ is_again v
renamed_again ren (view.Row op k) = refl
renamed_again ren (view.Halts op) = refl
renamed_again ren (view.Forks a b) = refl
renamed_again ren (view.Turns k) = refl
renamed_again ren (view.Calls f k) = refl
renamed_again ren view.Gives = refl
renamed_again ren view.Quits = refl
renamed_again ren (view.Marks s k) = refl
renamed_again ren (view.Skips by k) = refl
renamed_again ren (view.Tests s k) = refl
renamed_again ren (view.Picks w a b) = refl
renamed_again ren (view.Imports k) = refl
renamed_again ren (view.Exports k) = refl
renamed_again ren view.Nowhere = refl

-- what one successor of a node is tested for
abbrev leads_to : ℕ → ℕ → Bool → ℕ → Bool
leads_to count place again next = nat_lt next count && (again || nat_lt place next)

one_on : (count place i : ℕ) (again : Bool) (x : ℕ) → place ≡ turned_number (count - 1) i → i < count → x < (if again then count else i) →
    IsTrue (leads_to count place again (turned_number (count - 1) x))
one_on count place i true x e inside low = grind (arith, nat_tests)
one_on count place i false x e inside low = grind (arith, nat_tests)

all_on : (count place i : ℕ) (again : Bool) (xs : List ℕ) → place ≡ turned_number (count - 1) i → i < count → AllBelow (if again then count else i) xs →
    IsTrue (list_all (leads_to count place again) (map (turned_number (count - 1)) xs))
all_on count place i again [] e inside below = refl
all_on count place i again (x ∷ xs) e inside below =
    both_true (leads_to count place again (turned_number (count - 1) x)) (list_all (leads_to count place again) (map (turned_number (count - 1)) xs))
    (one_on count place i again x e inside below.0) (all_on count place i again xs e inside below.1)

leads_turned : (count place i : ℕ) (v : View) → place ≡ turned_number (count - 1) i → i < count → LeadsBack i count v →
    IsTrue (leads_rightly (bounds_of_nodes count) place (renumbered_view (turned_number (count - 1)) v))
unfolding leads_rightly
leads_turned count place i v e inside back =
    subst (λ l. IsTrue (list_all (leads_to count place (is_again (renumbered_view (turned_number (count - 1)) v))) l)) (sym (renamed_leads (turned_number (count - 1)) v))
    (subst (λ b. IsTrue (list_all (leads_to count place b) (map (turned_number (count - 1)) (led_to v)))) (sym (renamed_again (turned_number (count - 1)) v))
    (all_on count place i (is_again v) (led_to v) e inside back))

pub leads_on : (old new : List Node) → length new ≡ length old → Finished old new (turned_number (length old - 1)) → LeadBack 0 old → LeadOn new
leads_on old new long finished back = record {
  each = λ place n at.
      let inside : place < length new = slice_get_within new place n at in
      let low : length old - 1 - place < length old = omega (arith, inside, long) in
      let here : turned_number (length old - 1) (length old - 1 - place) ≡ place = omega (arith, inside, long) in
      let was : slice_get old (length old - 1 - place) ≡ Some (get_or old (length old - 1 - place) n) = slice_get-get_or old (length old - 1 - place) n low in
      let found : option_map view_of (Some n) ≡ Some (renumbered_view (turned_number (length old - 1)) (view_of (get_or old (length old - 1 - place) n))) =
      ap (option_map view_of) (sym at) ∙ ap (λ p. option_map view_of (slice_get new p)) (sym here)
      ∙ finished.each (length old - 1 - place) (get_or old (length old - 1 - place) n) was in
      let same : view_of n ≡ renumbered_view (turned_number (length old - 1)) (view_of (get_or old (length old - 1 - place) n)) = cc in
      subst (λ c. IsTrue (leads_rightly (bounds_of_nodes c) place (view_of n))) (sym long)
      (subst (λ v. IsTrue (leads_rightly (bounds_of_nodes (length old)) place v)) (sym same)
      (leads_turned (length old) place (length old - 1 - place) (view_of (get_or old (length old - 1 - place) n)) (sym here) low
      (back.each (length old - 1 - place) (get_or old (length old - 1 - place) n) (omega arith) was)));
}
