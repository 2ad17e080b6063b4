use Rattle.std.proofs.Common.{◌≡◌, length, sym, ◌∙◌, ℕ, subst, arith}
use Rattle.regions.specs.Callers.{CallsAmong, Grew}
use Rattle.regions.specs.Weighty.{views_of}
use Rattle.regions.proofs.CallerLemmas.{grew_call, grew_other}
use Rattle.regions.proofs.Within.{node_at}
use Rattle.regions.proofs.callers.add_calls.Goals as goal
use Rattle.regions.proofs.callers.add_calls.Goals.{in-Calls+in_ok-add_call, in_default}

pub loop-node-preserved : goal.loop-node-preserved
loop-node-preserved c =
    let here : views_of c.args.nodes.now c.loop-node.node-index ≡ c.view_of.result = node_at c.args.nodes.now c.loop-node.node-index c.loop-node-test.true ∙ sym c.view_of.ensures in
    elim c.match-view_of.branch [
      | in-Calls+in_ok-add_call w ↦
          rw w.callers-is (grew_call c.args.callers.now.items c.loop-node.callers.items w.add_call.new.callers.items c.args.nodes.now c.loop-node.node-index c.args.caller
          w.in-Calls.function w.in-Calls.next (here ∙ w.in-Calls.is) c.loop-node.invariant w.in_ok-add_call.ensures)
      | in_default w ↦
          rw w.callers-is (grew_other c.args.callers.now.items c.loop-node.callers.items c.args.nodes.now c.loop-node.node-index c.args.caller
          (λ g next e. w.in_default.not-Calls g next (sym here ∙ e)) c.loop-node.invariant)
    ]

pub returns : goal.returns
returns c =
    let all : c.loop-node.node-index ≡ length c.args.nodes.now = omega arith in
    subst (λ (n : ℕ). Grew c.args.callers.now.items c.loop-node.callers.items (λ g f. (f ≡ c.args.caller) × CallsAmong c.args.nodes.now n g)) all c.loop-node.invariant
