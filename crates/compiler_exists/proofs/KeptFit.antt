-- The nodes of a function that are kept fit in a program.
use Rattle.std.proofs.Common.{◌≡◌, ℕ, refl, sym, ◌∙◌, subst, List, Option, Some, None, Bool, true, false, length, slice_get, option_map}
use Rattle.std.specs.Prelude.{◌&&◌, IsTrue, if◌then◌else◌}
use Rattle.std.proofs.lemmas.Option.{slice_get-map}
use Rattle.std.proofs.lemmas.Bool.{and_from}
use Rattle.flow.specs.declared.node.Node.{Node}
use Rattle.flow.specs.declared.node.Node.TheVariants as node
use Rattle.flow.specs.declared.scope.Bounds.{Bounds}
use Rattle.flow.specs.declared.scope.Names.{Names}
use Rattle.flow.specs.declared.site.Site.{Site}
use Rattle.flow.specs.Words.{NodesFit, leads_rightly, names_fit, node_fits, view}
use Rattle.lower_nodes.specs.Reach.{LeadOn}
use Rattle.lower_fits.proofs.FittingNodes.{free_fits}
use Rattle.lower.specs.Ready.{may_stand}
use Rattle.lower.proofs.Finishing.{still_leads}
use Rattle.compiler_exists.specs.Kept.{kept_node, kept_nodes, is_kept_node}

module _ (names : Names) (bounds : Bounds) (site_of : ℕ → Option Site) (nodes : List Node) where
  kept_names : (one : Node) (named stands : Bool) → names_fit names bounds one ≡ named →
      names_fit names bounds (if named && stands then one else node.Exit) ≡ true
  kept_names one true true e = e
  kept_names one true false e = free_fits names bounds node.Exit tt
  kept_names one false stands e = free_fits names bounds node.Exit tt

  kept_leads : (place : ℕ) (one : Node) (stay : Bool) → leads_rightly bounds place (view one) ≡ true →
      leads_rightly bounds place (view (if stay then one else node.Exit)) ≡ true
  unfolding leads_rightly
  kept_leads place one true e = e
  kept_leads place one false e = refl

  one_fits : (place : ℕ) (x : Option Node) (one : Node) → LeadOn nodes → bounds.nodes ≡ length nodes → slice_get nodes place ≡ x →
      option_map (kept_node names bounds site_of nodes) x ≡ Some one → IsTrue (node_fits names bounds place one)
  unfolding node_fits
  one_fits place None one leads long at e = absurd (cc)
  one_fits place (Some was) one leads long at e =
      let is : kept_node names bounds site_of nodes was ≡ one = cc in
      let now : Node = kept_node names bounds site_of nodes was in
      let led : leads_rightly bounds place (view was) ≡ true = still_leads bounds place (length nodes) (view was) long (leads.each place was at) in
      subst (λ y. IsTrue (node_fits names bounds place y)) is
      (and_from (names_fit names bounds now) (leads_rightly bounds place (view now))
      (kept_names was (names_fit names bounds was) (may_stand site_of nodes (view was)) refl) (kept_leads place was (is_kept_node names bounds site_of nodes was) led))

  -- nodes that lead on fit where they are kept
  pub kept_fit : LeadOn nodes → bounds.nodes ≡ length nodes → NodesFit names bounds (kept_nodes names bounds site_of nodes)
  kept_fit leads long = record {
    each = λ place one at. one_fits place (slice_get nodes place) one leads long refl
        (sym (slice_get-map (kept_node names bounds site_of nodes) nodes place) ∙ at);
  }
