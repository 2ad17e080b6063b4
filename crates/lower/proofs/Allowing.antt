-- The nodes of a function whose body fits: each of them fits, and may stand.
use Rattle.std.proofs.Common.{◌≡◌, ℕ, ◌-◌, refl, ap, sym, ◌∙◌, subst, arith, List, [], ◌∷◌, length, Option, Some, None, Bool, true, false, slice_get}
use Rattle.std.specs.Prelude.{not, ◌||◌, IsTrue}
use Rattle.c_syntax.specs.StatementTree.{EntryList}
use Rattle.flow.specs.declared.node.Node.{Node}
use Rattle.flow.specs.declared.node.Node.TheVariants as node
use Rattle.flow.specs.declared.node.View.{View}
use Rattle.flow.specs.declared.node.View.TheVariants as view
use Rattle.flow.specs.declared.scope.Bounds.{Bounds}
use Rattle.flow.specs.declared.scope.Names.{Names}
use Rattle.flow.specs.declared.site.Site.{Site}
use Rattle.flow.specs.Code.{view_at}
use Rattle.c_meaning.specs.declared.value_type.ValueType.{ValueType}
use Rattle.c_meaning.specs.Words.{Facts, Signature, Sites, Source}
use Rattle.lower_relation.specs.Functions.{BodyDoes, graph_of_nodes}
use Rattle.lower_relation.specs.Paths.{Exits}
use Rattle.lower_nodes.specs.Ends.{AllBelow, all_ends}
use Rattle.lower_nodes.specs.Finished.{Finished, turned_number}
use Rattle.lower_nodes.specs.Reach.{LeadOn}
use Rattle.lower_nodes.specs.Made.{IsEmittedNode, Later, MadeAlone, MadeExits}
use Rattle.lower_nodes.specs.Standing.{AllLike, AllStand, Allowed, Allowance, PartStands, fork_at, is_fork, may_visit}
use Rattle.lower_nodes.proofs.Building.{both_stand, later_self, later_trans, none_stand}
use Rattle.lower_fits.specs.Fitting.{FitsAsBody, fitting_subgraph}
use Rattle.lower_fits.proofs.FittingNodes.{free_fits}
use Rattle.lower_fits.proofs.NodesOfStatements as fits
use Rattle.lower.specs.Bodies.{AtOnce, Before, BodyBegins, LeavesPart}
use Rattle.lower.specs.Fits.{HasFitting, StandIn, bounds_with}
use Rattle.lower.specs.Keeps.{Apart, IsUnmarked, Keeps}
use Rattle.lower.specs.Ready.{IsFree, is_condition}
use Rattle.lower.proofs.Finishing.{allowance_in, finished_fit, finished_stand, renamed_fits, view_found}
use Rattle.lower.proofs.Bodying.{begins_keeps}
use Rattle.lower.proofs.Keeping.{body_into, leaves_into}

free_visit : (condition before : Bool) → condition ≡ false → IsTrue (not condition || before)
free_visit true before e = absurd (cc)
free_visit false before e = refl

fork_visit : (condition before : Bool) → before ≡ true → IsTrue (not condition || before)
fork_visit true before e = e
fork_visit false before e = refl

-- numbers that are there go on being forks where more nodes are put
all_like : (names : Names) (bounds : Bounds) (site_of : ℕ → Option Site) (now fin : List Node) → Later 0 now fin → (ks : List ℕ) → AllBelow (length now) ks →
    AllLike (allowance_in names bounds site_of fin) now ks ks
all_like names bounds site_of now fin later [] b = tt
all_like names bounds site_of now fin later (k ∷ ks) b = (
  λ e. ap (λ x. is_fork (view_at x)) (sym (later.same k (omega arith) b.0)) ∙ e,
  all_like names bounds site_of now fin later ks b.1,
)

module _ (names : Names) (bounds : Bounds) (site_of : ℕ → Option Site) (graph : List Node) where
  abbrev here : Allowance
  here = allowance_in names bounds site_of graph

  kept_visits : (v : View) → IsUnmarked v → IsTrue (may_visit here.frees here.forks_at v)
  kept_visits (view.Marks site next) is = absurd is
  kept_visits (view.Skips by next) is = absurd is
  kept_visits (view.Tests site next) is = absurd is
  kept_visits (view.Picks weight fast slow) is = absurd is
  kept_visits (view.Imports next) is = absurd is
  kept_visits (view.Exports next) is = absurd is
  kept_visits v is = refl

  -- a node of the graph that fits, and visits no condition but before its fork, is allowed
  allowed : (at : ℕ) (v : View) → fitting_subgraph names bounds (graph_of_nodes graph) at v → IsTrue (may_visit here.frees here.forks_at v) → Allowed here at v
  allowed at v h seen = record {
    fits = renamed_fits names bounds (λ _. 0) v h.1;
    visits = seen;
    turns = λ e. ap is_fork (sym (view_found (slice_get graph at) v h.0)) ∙ e;
  }

  keeps : Keeps (fitting_subgraph names bounds (graph_of_nodes graph)) (Allowed here) (IsFree site_of)
  keeps = record {
    kept = λ at v is h. allowed at v h (kept_visits v is);
    visit = λ at site next free h. allowed at (view.Marks site next) h (free_visit (is_condition (site_of site)) (fork_at graph next) free);
    decided = λ at site next when_true when_false h f.
        allowed at (view.Marks site next) h
        (fork_visit (is_condition (site_of site)) (fork_at graph next) (ap is_fork (view_found (slice_get graph next) (view.Forks when_true when_false) f.0)));
  }

module _ (facts : Facts) (sites : Sites) (apart : Apart (IsFree sites.site) sites) (names : Names) (bounds : Bounds) (is_main value : Bool) (f : Signature) (lo : ℕ) (body : EntryList)
    (n0 n1 n2 n3 : List Node) (entry start : ℕ) (x : Exits) (none : n0 ≡ []) (left : MadeAlone (LeavesPart is_main value) n0 n1 x.leaves x) (below : AllBelow (length n1) (all_ends x))
    (runs : MadeExits (λ G. BodyDoes G facts sites f.result (Some body)) n1 n2 entry x) (begins : BodyBegins n2 n3 start entry)
    (fit : FitsAsBody facts sites names bounds f lo body) where
  abbrev s : Allowance
  s = allowance_in names bounds sites.site n3

  put : Later 0 n2 n3
  put = begins_keeps n2 n3 start entry begins

  up : Later 0 n1 n3
  up = later_trans 0 0 n1 n2 n3 (omega arith) runs.keeps put

  -- the nodes at which the function is left
  left_stand : PartStands s (length n0) n1 x.leaves x.leaves
  left_stand =
      let done = left.does n3 (later_trans 0 (length n0) n1 n1 n3 (omega arith) (later_self 0 n1) up) in
      left.stands s x.leaves x tt tt (
        refl,
        leaves_into (fitting_subgraph names bounds (graph_of_nodes n3)) (Allowed s) (IsFree sites.site) (keeps names bounds sites.site n3) is_main value x
            (fits.leaves_into names bounds (graph_of_nodes n3) is_main value x done.1),
      )

  -- those of its body
  body_stands : PartStands s (length n1) n2 entry entry
  body_stands =
      let done = runs.does n3 (later_trans 0 (length n1) n2 n2 n3 (omega arith) (later_self 0 n2) put) in
      runs.stands s entry x tt (all_like names bounds sites.site n1 n3 up (all_ends x) below)
      ((body_into (fitting_subgraph names bounds (graph_of_nodes n3)) (Allowed s) (IsFree sites.site) (keeps names bounds sites.site n3) facts sites apart f.result (Some body)).leads entry x
      (fits.body_fits names bounds (graph_of_nodes n3) facts sites f lo body entry x fit done))

  -- the one at which it begins
  start_stands : BodyBegins n2 n3 start entry → AllStand s (length n2) n3
  start_stands (AtOnce e same) = subst (λ n. AllStand s (length n2) n) (sym same) (none_stand s n2)
  start_stands (Before made) =
      let came : IsEmittedNode (length n1) n2 entry = runs.leads below in
      let done = made.does n3 (later_self (length n2) n3) in
      (made.stands s start entry tt (all_like names bounds sites.site n2 n3 put (entry ∷ []) (came.inside, tt))
      ((keeps names bounds sites.site n3).kept start (view.Row (node.Pass 0) entry) tt (done, free_fits names bounds (node.Pass 0) tt))).all

  -- all of them
  pub function_stands : AllStand s 0 n3
  function_stands =
      subst (λ n. AllStand s (length n) n3) none
      (both_stand s (length n0) n2 n3 (both_stand s (length n0) n1 n2 left_stand.all runs.keeps body_stands.all) put (start_stands begins))

-- The nodes of a function in the order of a program: where its body fits, each names what is there, and may stand.
pub function_fits : (src : Source) → Apart (IsFree src.sites.site) src.sites → (names : Names) (number : ℕ) (is_main value : Bool) (f : Signature) (gives : ValueType) (body : Option EntryList)
    (n0 n1 n2 n3 nodes : List Node) (entry start : ℕ) (x : Exits) → f.result ≡ gives → n0 ≡ [] → MadeAlone (LeavesPart is_main value) n0 n1 x.leaves x →
    AllBelow (length n1) (all_ends x) → MadeExits (λ G. BodyDoes G src.facts src.sites gives body) n1 n2 entry x → BodyBegins n2 n3 start entry →
    Finished n3 nodes (turned_number (length n3 - 1)) → length nodes ≡ length n3 → LeadOn nodes → HasFitting src names number f body → StandIn src names number f nodes
function_fits src apart names number is_main value f gives None n0 n1 n2 n3 nodes entry start x same none left below runs begins finished long leads fit = absurd fit
function_fits src apart names number is_main value f gives (Some body) n0 n1 n2 n3 nodes entry start x same none left below runs begins finished long leads fit =
    let bounds : Bounds = bounds_with number f (length nodes) in
    let all : AllStand (allowance_in names bounds src.sites.site n3) 0 n3 =
    function_stands src.facts src.sites apart names bounds is_main value f fit.0 body n0 n1 n2 n3 entry start x none left below
    (subst (λ (g : ValueType). MadeExits (λ G. BodyDoes G src.facts src.sites g (Some body)) n1 n2 entry x) (sym same) runs) begins (fit.1 (length nodes)) in
    record {
      stand = finished_stand names bounds src.sites.site n3 nodes finished long all;
      fit = finished_fit names bounds src.sites.site n3 nodes finished long all leads refl;
    }
