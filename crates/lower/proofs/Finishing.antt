-- The nodes of a graph still fit, and may stand, in the order of a program.
use Rattle.std.proofs.Common.{◌≡◌, ℕ, ◌-◌, ◌<◌, refl, ap, sym, ◌∙◌, subst, arith, List, Option, Some, None, Bool, true, false, length, get_or, slice_get, option_map}
use Rattle.std.specs.Prelude.{not, nat_lt, ◌&&◌, ◌||◌, IsTrue}
use Rattle.std.specs.List.{list_all}
use Rattle.std.proofs.lemmas.Bool.{and_from, false≢true}
use Rattle.std.proofs.lemmas.Option.{slice_get_within, slice_get-get_or}
use Rattle.flow.specs.declared.node.Node.{Node}
use Rattle.flow.specs.declared.node.View.{View}
use Rattle.flow.specs.declared.node.View.TheVariants as view
use Rattle.flow.specs.declared.scope.Bounds.{Bounds}
use Rattle.flow.specs.declared.scope.Names.{Names}
use Rattle.flow.specs.declared.site.Site.{Site}
use Rattle.flow.specs.Words.{view_at, NodesFit, is_again, leads_rightly, led_to, names_fit, node_fits, view as view_of}
use Rattle.lower_relation.specs.Stands.{renumbered_view}
use Rattle.lower_nodes.specs.Finished.{Finished, turned_number}
use Rattle.lower_nodes.specs.Reach.{LeadOn, bounds_of_nodes}
use Rattle.lower_nodes.specs.Standing.{AllStand, Allowance, StandsRightly, view_without_successors, fork_at, is_fork}
use Rattle.lower_fits.specs.Fitting.{fits_view}
use Rattle.lower_fits.proofs.FittingNodes.{view_fits}
use Rattle.lower.specs.Ready.{AllMayStand, is_condition, may_stand}

-- what the nodes of a function may be, whose whole graph this is
abbrev pub allowance_in : Names → Bounds → (ℕ → Option Site) → List Node → Allowance
allowance_in names bounds site_of graph = record {
  fits = fits_view names bounds;
  fork = refl;
  frees = λ site. not (is_condition (site_of site));
  forks_at = fork_at graph;
}

-- a function's other bounds don't matter to where its nodes lead
pub still_leads : (bounds : Bounds) (place count : ℕ) (v : View) → bounds.nodes ≡ count → IsTrue (leads_rightly (bounds_of_nodes count) place v) → leads_rightly bounds place v ≡ true
unfolding leads_rightly
still_leads bounds place count v e h =
    subst (λ (n : ℕ). list_all (λ next. nat_lt next n && (is_again v || nat_lt place next)) (led_to v) ≡ true) (sym e) h

-- what a node names doesn't depend on where it leads
pub renamed_fits : (names : Names) (bounds : Bounds) (ren : ℕ → ℕ) (v : View) → IsTrue (fits_view names bounds v) → IsTrue (fits_view names bounds (renumbered_view ren v))
renamed_fits names bounds ren (view.Row op next) f = f
renamed_fits names bounds ren other f = f

bare_fits : (names : Names) (bounds : Bounds) (v : View) → IsTrue (fits_view names bounds (view_without_successors v)) → IsTrue (fits_view names bounds v)
bare_fits names bounds (view.Row op next) f = f
bare_fits names bounds other f = f

-- a fork is one under any numbers
renamed_forks : (ren : ℕ → ℕ) (v : View) → is_fork v ≡ true → is_fork (renumbered_view ren v) ≡ true
renamed_forks ren (view.Row op next) e = e
renamed_forks ren other e = e

pub view_found : (x : Option Node) (v : View) → option_map view_of x ≡ Some v → view_at x ≡ v
view_found None v e = absurd (cc)
view_found (Some x) v e = cc

module _ (site_of : ℕ → Option Site) (old new : List Node) (ren : ℕ → ℕ) (finished : Finished old new ren) where
  still_forks : (next : ℕ) (x : Option Node) → slice_get old next ≡ x → is_fork (view_at x) ≡ true → is_fork (view_at (slice_get new (ren next))) ≡ true
  still_forks next None at e = absurd (cc)
  still_forks next (Some x) at e =
      ap is_fork (view_found (slice_get new (ren next)) (renumbered_view ren (view_of x)) (finished.each next x at)) ∙ renamed_forks ren (view_of x) e

  still_before : (condition : Bool) (next : ℕ) → (not condition || is_fork (view_at (slice_get old next))) ≡ true →
      (not condition || is_fork (view_at (slice_get new (ren next)))) ≡ true
  still_before true next e = still_forks next (slice_get old next) refl e
  still_before false next e = refl

  -- a view that may stand in the graph may stand among the nodes in their last order
  still_stands : (v : View) → may_stand site_of old v ≡ true → may_stand site_of new (renumbered_view ren v) ≡ true
  still_stands (view.Marks site next) e = still_before (is_condition (site_of site)) next e
  still_stands (view.Skips by next) e = e
  still_stands (view.Tests site next) e = e
  still_stands (view.Picks weight fast slow) e = e
  still_stands (view.Imports next) e = e
  still_stands (view.Exports next) e = e
  still_stands v e = refl

module _ (names : Names) (bounds : Bounds) (site_of : ℕ → Option Site) (old new : List Node) (finished : Finished old new (turned_number (length old - 1)))
    (long : length new ≡ length old) (all : AllStand (allowance_in names bounds site_of old) 0 old) where
  abbrev ren : ℕ → ℕ
  ren = turned_number (length old - 1)

  -- each node was one of the graph
  was : (place : ℕ) (n : Node) → slice_get new place ≡ Some n → (x : Node) × (view_of n ≡ renumbered_view ren (view_of x)) × StandsRightly (allowance_in names bounds site_of old) old (view_of x)
  was place n at =
      let inside : place < length new = slice_get_within new place n at in
      let low : length old - 1 - place < length old = omega (arith, inside, long) in
      let here : turned_number (length old - 1) (length old - 1 - place) ≡ place = omega (arith, inside, long) in
      let x : Node = get_or old (length old - 1 - place) n in
      let first : slice_get old (length old - 1 - place) ≡ Some x = slice_get-get_or old (length old - 1 - place) n low in
      let found : option_map view_of (Some n) ≡ Some (renumbered_view ren (view_of x)) =
      ap (option_map view_of) (sym at) ∙ ap (λ p. option_map view_of (slice_get new p)) (sym here) ∙ finished.each (length old - 1 - place) x first in
      let same : view_of n ≡ renumbered_view ren (view_of x) = cc in
      (x, same, all.each (length old - 1 - place) x (omega arith) first)

  -- a node of the graph may stand there
  may_here : (v : View) → StandsRightly (allowance_in names bounds site_of old) old v → may_stand site_of old v ≡ true
  may_here (view.Marks site next) h = h.visits
  may_here (view.Skips by next) h = absurd (false≢true h.fits)
  may_here (view.Tests site next) h = absurd (false≢true h.fits)
  may_here (view.Picks weight fast slow) h = absurd (false≢true h.fits)
  may_here (view.Imports next) h = absurd (false≢true h.fits)
  may_here (view.Exports next) h = absurd (false≢true h.fits)
  may_here other h = refl

  -- so each node may stand among the nodes in their last order
  pub finished_stand : AllMayStand site_of new
  finished_stand = record {
    each = λ place n at.
        let w = was place n at in
        subst (λ v. may_stand site_of new v ≡ true) (sym w.1) (still_stands site_of old new ren finished (view_of w.0) (may_here (view_of w.0) w.2));
  }

  node_is : (place : ℕ) (n : Node) → LeadOn new → bounds.nodes ≡ length new → slice_get new place ≡ Some n → IsTrue (node_fits names bounds place n)
  unfolding node_fits
  node_is place n leads count at =
      let w = was place n at in
      and_from (names_fit names bounds n) (leads_rightly bounds place (view_of n))
      (view_fits names bounds n (subst (λ v. IsTrue (fits_view names bounds v)) (sym w.1) (renamed_fits names bounds ren (view_of w.0) (bare_fits names bounds (view_of w.0) w.2.fits))))
      (still_leads bounds place (length new) (view_of n) count (leads.each place n at))

  -- and fits
  pub finished_fit : LeadOn new → bounds.nodes ≡ length new → NodesFit names bounds new
  finished_fit leads count = record { each = λ place n at. node_is place n leads count at }
