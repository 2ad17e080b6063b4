-- The nodes of a function that name what is there and may stand do what all of them do.
use Rattle.lower_relation.specs.Functions.{graph_of_nodes}
use Rattle.std.proofs.Common.{◌≡◌, ℕ, zero, suc, refl, ap, sym, ◌∙◌, subst, List, [], ◌∷◌, Option, Some, None, Bool, true, false, slice_get, option_map}
use Rattle.std.specs.Prelude.{not, ◌&&◌, ◌||◌, IsTrue, if◌then◌else◌}
use Rattle.std.proofs.lemmas.Option.{slice_get-map}
use Rattle.std.proofs.lemmas.Bool.{and_from, or_right}
use Rattle.c_syntax.specs.StatementTree.{EntryList}
use Rattle.flow.specs.declared.node.Node.{Node}
use Rattle.flow.specs.declared.node.Node.TheVariants as node
use Rattle.flow.specs.declared.node.View.{View}
use Rattle.flow.specs.declared.node.View.TheVariants as view
use Rattle.flow.specs.declared.scope.Bounds.{Bounds}
use Rattle.flow.specs.declared.scope.Names.{Names}
use Rattle.flow.specs.declared.site.Site.{Site}
use Rattle.flow.specs.Words.{view_at, view as view_of, names_fit}
use Rattle.c_meaning.specs.Words.{Facts, Signature, Sites, has_value}
use Rattle.lower_relation.specs.Paths.{Graph}
use Rattle.lower_relation.specs.Stands.{renumbered_view}
use Rattle.lower_nodes.specs.Finished.{Finished}
use Rattle.lower.specs.Bodies.{BodyNodes}
use Rattle.lower.specs.Keeps.{Apart, IsUnmarked, Keeps}
use Rattle.lower_fits.specs.Fitting.{FitsAsBody, fits_view, fitting_subgraph}
use Rattle.lower_fits.proofs.FittingNodes.{view_fits}
use Rattle.lower_fits.proofs.NodesOfStatements as fits
use Rattle.lower_nodes.specs.Standing.{is_fork}
use Rattle.lower.specs.Ready.{AllMayStand, IsFree, is_condition, may_stand}
use Rattle.lower.proofs.Finishing.{renamed_fits, view_found}
use Rattle.lower.proofs.Keeping.{body_into, comes_into, leaves_into}
use Rattle.lower.proofs.Readying.{fork_is}
use Rattle.compiler_exists.specs.Kept.{kept_node, kept_nodes, is_kept_node}

-- each node changed, by its number
abbrev changed_by : (ℕ → Node → Node) → List Node → List Node
changed_by f [] = []
changed_by f (x ∷ xs) = f 0 x ∷ changed_by (λ n y. f (suc n) y) xs

changed_at : (f : ℕ → Node → Node) (xs : List Node) (i : ℕ) → slice_get (changed_by f xs) i ≡ option_map (f i) (slice_get xs i)
changed_at f [] i = refl
changed_at f (x ∷ xs) zero = refl
changed_at f (x ∷ xs) (suc i) = changed_at (λ n y. f (suc n) y) xs i

module _ (names : Names) (bounds : Bounds) (site_of : ℕ → Option Site) (nodes : List Node) where
  abbrev kept : List Node
  kept = kept_nodes names bounds site_of nodes

  -- a fork stays one
  fork_stays : (one : Node) → is_fork (view_of one) ≡ true → is_kept_node names bounds site_of nodes one ≡ true
  fork_stays one e =
      let is = fork_is (view_of one) e in
      and_from (names_fit names bounds one) (may_stand site_of nodes (view_of one))
      (view_fits names bounds one (subst (λ v. IsTrue (fits_view names bounds v)) (sym is.2) refl))
      (subst (λ v. may_stand site_of nodes v ≡ true) (sym is.2) refl)

  fork_kept : (x : Option Node) → is_fork (view_at x) ≡ true → is_fork (view_at (option_map (kept_node names bounds site_of nodes) x)) ≡ true
  fork_kept None e = e
  fork_kept (Some one) e = rw (fork_stays one e) e

  still_forks : (next : ℕ) → is_fork (view_at (slice_get nodes next)) ≡ true → is_fork (view_at (slice_get kept next)) ≡ true
  still_forks next e =
      ap (λ x. is_fork (view_at x)) (slice_get-map (kept_node names bounds site_of nodes) nodes next) ∙ fork_kept (slice_get nodes next) e

  still_before : (condition : Bool) (next : ℕ) → (not condition || is_fork (view_at (slice_get nodes next))) ≡ true →
      (not condition || is_fork (view_at (slice_get kept next))) ≡ true
  still_before true next e = still_forks next e
  still_before false next e = refl

  -- a view that may stand among the nodes may stand among those that are kept
  still : (v : View) → may_stand site_of nodes v ≡ true → may_stand site_of kept v ≡ true
  still (view.Marks site next) e = still_before (is_condition (site_of site)) next e
  still (view.Skips by next) e = e
  still (view.Tests site next) e = e
  still (view.Picks weight fast slow) e = e
  still (view.Imports next) e = e
  still (view.Exports next) e = e
  still v e = refl

  kept_stands : (one : Node) (named stands : Bool) → may_stand site_of nodes (view_of one) ≡ stands →
      may_stand site_of kept (view_of (if named && stands then one else node.Exit)) ≡ true
  kept_stands one true true e = still (view_of one) e
  kept_stands one true false e = refl
  kept_stands one false stands e = refl

  kept_from : (x : Option Node) (one : Node) → option_map (kept_node names bounds site_of nodes) x ≡ Some one → may_stand site_of kept (view_of one) ≡ true
  kept_from None one e = absurd (cc)
  kept_from (Some was) one e =
      let is : kept_node names bounds site_of nodes was ≡ one = cc in
      subst (λ y. may_stand site_of kept (view_of y) ≡ true) is
      (kept_stands was (names_fit names bounds was) (may_stand site_of nodes (view_of was)) refl)

  -- each of those that are kept may stand among them
  pub all_may_stand : AllMayStand site_of kept
  all_may_stand = record {
    each = λ place one at. kept_from (slice_get nodes place) one (sym (slice_get-map (kept_node names bounds site_of nodes) nodes place) ∙ at);
  }

module _ (names : Names) (bounds : Bounds) (site_of : ℕ → Option Site) (old nodes : List Node) (ren : ℕ → ℕ) (finished : Finished old nodes ren) where
  -- whether what a node became is kept
  abbrev remains : Option Node → Bool
  remains None = false
  remains (Some one) = is_kept_node names bounds site_of nodes one

  abbrev kept_old : ℕ → Node → Node
  kept_old i x = if remains (slice_get nodes (ren i)) then x else node.Exit

  abbrev graph : List Node
  graph = changed_by kept_old old

  kept_view : (n x : Node) (stay : Bool) → view_of n ≡ renumbered_view ren (view_of x) →
      view_of (if stay then n else node.Exit) ≡ renumbered_view ren (view_of (if stay then x else node.Exit))
  kept_view n x true e = e
  kept_view n x false e = refl

  became : (i : ℕ) (x : Node) (n : Option Node) → slice_get nodes (ren i) ≡ n → option_map view_of n ≡ Some (renumbered_view ren (view_of x)) →
      option_map view_of (option_map (kept_node names bounds site_of nodes) n) ≡ Some (renumbered_view ren (view_of (kept_old i x)))
  became i x None here e = absurd (cc)
  became i x (Some n) here e =
      let same : view_of n ≡ renumbered_view ren (view_of x) = cc in
      ap Some (rw here (kept_view n x (is_kept_node names bounds site_of nodes n) same))

  kept_each : (i : ℕ) (x : Node) (was : Option Node) → slice_get old i ≡ was → option_map (kept_old i) was ≡ Some x →
      option_map view_of (option_map (kept_node names bounds site_of nodes) (slice_get nodes (ren i))) ≡ Some (renumbered_view ren (view_of x))
  kept_each i x None at e = absurd (cc)
  kept_each i x (Some y) at e =
      let is : kept_old i y ≡ x = cc in
      subst (λ z. option_map view_of (option_map (kept_node names bounds site_of nodes) (slice_get nodes (ren i))) ≡ Some (renumbered_view ren (view_of z))) is
      (became i y (slice_get nodes (ren i)) refl (finished.each i y at))

  kept_finished : Finished graph (kept_nodes names bounds site_of nodes) ren
  kept_finished = record {
    each = λ i x at.
        ap (option_map view_of) (slice_get-map (kept_node names bounds site_of nodes) nodes (ren i))
        ∙ kept_each i x (slice_get old i) refl (sym (changed_at kept_old old i) ∙ at);
  }

  node_stays : (v : View) (n : Option Node) → option_map view_of n ≡ Some (renumbered_view ren v) → IsTrue (fits_view names bounds v) →
      may_stand site_of nodes (renumbered_view ren v) ≡ true → remains n ≡ true
  node_stays v None e f stands = absurd (cc)
  node_stays v (Some n) e f stands =
      let same : view_of n ≡ renumbered_view ren v = cc in
      and_from (names_fit names bounds n) (may_stand site_of nodes (view_of n))
      (view_fits names bounds n (subst (λ u. IsTrue (fits_view names bounds u)) (sym same) (renamed_fits names bounds ren v f)))
      (ap (may_stand site_of nodes) same ∙ stands)

  there : (i : ℕ) (v : View) (was : Option Node) → slice_get old i ≡ was → option_map view_of was ≡ Some v → IsTrue (fits_view names bounds v) →
      may_stand site_of nodes (renumbered_view ren v) ≡ true → remains (slice_get nodes (ren i)) ≡ true
  there i v None at e f stands = absurd (cc)
  there i v (Some x) at e f stands =
      let same : view_of x ≡ v = cc in
      node_stays v (slice_get nodes (ren i)) (finished.each i x at ∙ ap (λ u. Some (renumbered_view ren u)) same) f stands

  stands_still : (i : ℕ) (v : View) (was : Option Node) → option_map view_of was ≡ Some v → remains (slice_get nodes (ren i)) ≡ true →
      option_map view_of (option_map (kept_old i) was) ≡ Some v
  stands_still i v None e holds = absurd (cc)
  stands_still i v (Some x) e holds = rw holds e

  still_stands : (i : ℕ) (v : View) → fitting_subgraph names bounds (graph_of_nodes old) i v → may_stand site_of nodes (renumbered_view ren v) ≡ true → graph_of_nodes graph i v
  still_stands i v e stands =
      ap (option_map view_of) (changed_at kept_old old i)
      ∙ stands_still i v (slice_get old i) e.0 (there i v (slice_get old i) refl e.0 e.1 stands)

  other_stands : (v : View) → IsUnmarked v → may_stand site_of nodes (renumbered_view ren v) ≡ true
  other_stands (view.Marks site next) is = absurd is
  other_stands (view.Skips by next) is = absurd is
  other_stands (view.Tests site next) is = absurd is
  other_stands (view.Picks weight fast slow) is = absurd is
  other_stands (view.Imports next) is = absurd is
  other_stands (view.Exports next) is = absurd is
  other_stands v is = refl

  fork_behind : (next when_true when_false : ℕ) (x : Option Node) → slice_get old next ≡ x → option_map view_of x ≡ Some (view.Forks when_true when_false) →
      is_fork (view_at (slice_get nodes (ren next))) ≡ true
  fork_behind next when_true when_false None at e = absurd (cc)
  fork_behind next when_true when_false (Some x) at e =
      let same : view_of x ≡ view.Forks when_true when_false = cc in
      ap is_fork (view_found (slice_get nodes (ren next)) (renumbered_view ren (view_of x)) (finished.each next x at) ∙ ap (renumbered_view ren) same)

  free_stands : (condition before : Bool) → condition ≡ false → (not condition || before) ≡ true
  free_stands true before e = absurd (cc)
  free_stands false before e = refl

  keeps : Keeps (fitting_subgraph names bounds (graph_of_nodes old)) (graph_of_nodes graph) (IsFree site_of)
  keeps = record {
    kept = λ at v is e. still_stands at v e (other_stands v is);
    visit = λ at site next free e.
        still_stands at (view.Marks site next) e (free_stands (is_condition (site_of site)) (is_fork (view_at (slice_get nodes (ren next)))) free);
    decided = λ at site next when_true when_false e f.
        still_stands at (view.Marks site next) e
        (or_right (not (is_condition (site_of site))) (is_fork (view_at (slice_get nodes (ren next)))) (fork_behind next when_true when_false (slice_get old next) refl f.0));
  }

module _ (facts : Facts) (sites : Sites) (names : Names) (bounds : Bounds) (apart : Apart (IsFree sites.site) sites) (is_main : Bool) (f : Signature) where
  -- what is kept of the nodes does the body, where it fits
  pub body_kept : (lo : ℕ) (body : EntryList) (nodes kept : List Node) → FitsAsBody facts sites names bounds f lo body →
      BodyNodes facts sites is_main f.result (Some body) nodes → kept ≡ kept_nodes names bounds sites.site nodes → BodyNodes facts sites is_main f.result (Some body) kept
  body_kept lo body nodes kept fit b is =
      let G : Graph = fitting_subgraph names bounds (graph_of_nodes b.graph) in
      let H : Graph = graph_of_nodes (graph names bounds sites.site b.graph nodes b.ren b.finished) in
      let into : Keeps G H (IsFree sites.site) = keeps names bounds sites.site b.graph nodes b.ren b.finished in
      rw is (record {
        graph = graph names bounds sites.site b.graph nodes b.ren b.finished;
        ren = b.ren;
        finished = kept_finished names bounds sites.site b.graph nodes b.ren b.finished;
        start = b.start;
        first_node = b.first_node;
        entry = b.entry;
        begins = comes_into G H (IsFree sites.site) into b.start b.entry (fits.comes_into names bounds (graph_of_nodes b.graph) b.start b.entry b.begins);
        exits = b.exits;
        runs = (body_into G H (IsFree sites.site) into facts sites apart f.result (Some body)).leads b.entry b.exits
            (fits.body_fits names bounds (graph_of_nodes b.graph) facts sites f lo body b.entry b.exits fit b.runs);
        leaves = leaves_into G H (IsFree sites.site) into is_main (has_value f.result) b.exits
            (fits.leaves_into names bounds (graph_of_nodes b.graph) is_main (has_value f.result) b.exits b.leaves);
      })
