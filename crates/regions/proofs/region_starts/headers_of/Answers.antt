use Rattle.std.proofs.Common.{rules, ◌≡◌, ◌<◌, ℕ, length, replicate, false, Some, ap, sym, ◌∙◌, subst, arith}
use Rattle.base_lists.proofs.Options.{none_is}
use Rattle.regions.specs.Flags.{is_in}
use Rattle.regions.specs.Headers.{begun_after}
use Rattle.regions.specs.Weighty.{views_of}
use Rattle.regions.proofs.HeaderLemmas.{Begun, begun_all, begun_entry, begun_leads, begun_more, begun_same}
use Rattle.regions.proofs.Within.{node_at}
use Rattle.regions.proofs.region_starts.headers_of.Goals as goal
use Rattle.regions.proofs.region_starts.headers_of.Goals.{in-Some, in_default}

pub loop-node-init : goal.loop-node-init
loop-node-init c =
    let e : c.in_ok-flags.flags.items ≡ replicate (length c.args.nodes.now) false = search rules in
    rw e (begun_entry (is_in c.args.weighty.now) (views_of c.args.nodes.now) (length c.args.nodes.now) c.requires.entry)

pub index_mut-requires-in-Some : goal.index_mut-requires-in-Some
index_mut-requires-in-Some c =
    let here : begun_after (is_in c.args.weighty.now) (views_of c.args.nodes.now c.loop-node.node-index) ≡ Some c.in-Some.next =
    ap (begun_after (is_in c.args.weighty.now)) (node_at c.args.nodes.now c.loop-node.node-index c.loop-node-test.true) ∙ sym c.in-Some.ensures
    in
    let within : c.in-Some.next < length c.args.nodes.now =
    c.requires.within c.loop-node.node-index c.in-Some.next (begun_leads (is_in c.args.weighty.now) (views_of c.args.nodes.now c.loop-node.node-index) c.in-Some.next here)
    in
    let inside : c.in-Some.next < length c.loop-node.flags.items = omega (arith, c.loop-node.invariant.few, within) in
    search rules

pub loop-node-preserved : goal.loop-node-preserved
loop-node-preserved c =
    let here = ap (begun_after (is_in c.args.weighty.now)) (node_at c.args.nodes.now c.loop-node.node-index c.loop-node-test.true) ∙ sym c.begun_after.ensures in
    elim c.match-begun_after.branch [
      | in-Some w ↦
          let some : begun_after (is_in c.args.weighty.now) (views_of c.args.nodes.now c.loop-node.node-index) ≡ Some w.in-Some.next = here ∙ w.in-Some.is in
          let within = c.requires.within c.loop-node.node-index w.in-Some.next
          (begun_leads (is_in c.args.weighty.now) (views_of c.args.nodes.now c.loop-node.node-index) w.in-Some.next some) in
          rw w.flags-is (begun_more (is_in c.args.weighty.now) (views_of c.args.nodes.now) (length c.args.nodes.now) c.loop-node.node-index w.in-Some.next
          c.loop-node.flags.items c.loop-node.invariant some within)
      | in_default w ↦
          rw w.flags-is (begun_same (is_in c.args.weighty.now) (views_of c.args.nodes.now) (length c.args.nodes.now) c.loop-node.node-index
          c.loop-node.flags.items c.loop-node.invariant (here ∙ none_is c.begun_after.result w.in_default.not-Some))
    ]

pub returns : goal.returns
returns c =
    let all : c.loop-node.node-index ≡ length c.args.nodes.now = omega arith in
    begun_all (is_in c.args.weighty.now) c.args.nodes.now c.loop-node.flags.items
    (subst (λ (n : ℕ). Begun (is_in c.args.weighty.now) (views_of c.args.nodes.now) (length c.args.nodes.now) n c.loop-node.flags.items) all c.loop-node.invariant)
