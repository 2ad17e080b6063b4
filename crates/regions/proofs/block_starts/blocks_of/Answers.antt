use Rattle.std.proofs.Common.{◌≡◌, ◌+◌, ℕ, length, sym, subst, arith}
use Rattle.std.specs.List.{Contains}
use Rattle.flow.specs.declared.node.View.{View}
use Rattle.flow.specs.Nodes.{led_to}
use Rattle.regions.specs.Blocks.{ends_block}
use Rattle.regions.specs.Noted.{Sets, noted_all, sets_of}
use Rattle.regions.specs.Weighty.{views_of}
use Rattle.regions.proofs.BlockLemmas.{Before, Known, Sized, known_all, known_entry, known_node}
use Rattle.regions.proofs.Within.{leads_from, node_at}
use Rattle.regions.proofs.block_starts.blocks_of.Goals as goal

pub loop-node-init : goal.loop-node-init
loop-node-init c =
    let at = views_of c.args.nodes.now in
    let n = length c.args.nodes.now in
    subst (λ (s : Sets). Known at (Before at 0) s × Sized n s) (sym c.in_ok-found.ensures) (known_entry at n c.requires.entry)

pub note_node-requires-clause-led_to : goal.note_node-requires-clause-led_to
note_node-requires-clause-led_to c = λ next h.
    let here = sym (node_at c.args.nodes.now c.loop-node.node-index c.loop-node-test.true) in
    let within = c.requires.within c.loop-node.node-index next (subst (λ (v : View). Contains (led_to v) next) here h) in
    let few = c.loop-node.invariant.1.led_to in
    omega (arith, within, few)

pub note_node-requires-clause-starts : goal.note_node-requires-clause-starts
note_node-requires-clause-starts c = λ next h.
    let here = sym (node_at c.args.nodes.now c.loop-node.node-index c.loop-node-test.true) in
    let within = c.requires.within c.loop-node.node-index next (subst (λ (v : View). Contains (led_to v) next) here h) in
    let few = c.loop-node.invariant.1.starts in
    omega (arith, within, few)

pub loop-node-preserved : goal.loop-node-preserved
loop-node-preserved c =
    let at = views_of c.args.nodes.now in
    let n = length c.args.nodes.now in
    let i = c.loop-node.node-index in
    let s = sets_of c.loop-node.found in
    let more = known_node at i n s c.loop-node.invariant.0 c.loop-node.invariant.1 (λ next h. c.requires.within i next h) in
    let read = subst (λ (v : View). Known at (Before at (i + 1)) (noted_all (ends_block v) (led_to v) s) × Sized n (noted_all (ends_block v) (led_to v) s))
    (node_at c.args.nodes.now i c.loop-node-test.true) more in
    subst (λ (t : Sets). Known at (Before at (i + 1)) t × Sized n t) (sym c.note_node.ensures) read

pub returns : goal.returns
returns c =
    let at = views_of c.args.nodes.now in
    let n = length c.args.nodes.now in
    let s = sets_of c.loop-node.found in
    let all : c.loop-node.node-index ≡ length c.args.nodes.now = omega arith in
    known_all at n s (subst (λ (k : ℕ). Known at (Before at k) s) all c.loop-node.invariant.0) c.loop-node.invariant.1 (λ place next h. leads_from c.args.nodes.now place next h)
