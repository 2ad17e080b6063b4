use Rattle.std.proofs.Common.{◌≡◌, ℕ, Bool, length, sym, ap, ◌∙◌, arith, add-one}
use Rattle.flow.specs.declared.node.View.{View}
use Rattle.regions.specs.Flags.{is_in}
use Rattle.regions.specs.Weighty.{views_of}
use Rattle.regions.proofs.Within.{node_at}
use Rattle.clone_paths.specs.Layout.{Sheet, with_node_labels, sheet_of}
use Rattle.clone_paths.specs.Made.{parts_from, sheet_at}
use Rattle.clone_paths.specs.Parts.{part_of_node}
use Rattle.clone_paths.specs.declared.parts.Part.{Part}
use Rattle.clone_paths.proofs.SheetLemmas.{labels_few}
use Rattle.clone_paths.proofs.function.lay_out.Goals as goal

pub add_labels-requires : goal.add_labels-requires
add_labels-requires c =
    let part = parts_from c.args.source.now.weighty.now c.args.source.now.nodes.now c.args.source.now.starts.now c.args.debts.now in
    let few = labels_few (is_in c.args.headers.now) part c.loop-place.place in
    let same = ap (λ (s : Sheet). length s.labels) c.loop-place.invariant in
    omega (arith, few, same, c.requires)

pub loop-place-preserved : goal.loop-place-preserved
loop-place-preserved c =
    let source = c.args.source.now in
    let place = c.loop-place.place in
    let part = parts_from c.args.source.now.weighty.now c.args.source.now.nodes.now c.args.source.now.starts.now c.args.debts.now in
    let at = node_at c.args.source.now.nodes.now c.loop-place.place c.loop-place-test.true in
    let same : c.part_of-part.result ≡ part c.loop-place.place =
    c.part_of-part.ensures ∙ ap (λ (v : View). part_of_node (is_in source.weighty.now) (is_in source.starts.now) c.at.result v) (sym at)
    ∙ ap (λ (d : ℕ). part_of_node (is_in source.weighty.now) (is_in source.starts.now) d (views_of source.nodes.now place)) c.at.ensures
    in
    let whole = c.in_ok-add_labels.ensures ∙ ap (λ (h : Bool). with_node_labels h place c.part_of-part.result (sheet_of c.loop-place.layout)) c.is_in.ensures
    ∙ ap (λ (p : Part). with_node_labels (is_in c.args.headers.now place) place p (sheet_of c.loop-place.layout)) same
    ∙ ap (λ (s : Sheet). with_node_labels (is_in c.args.headers.now place) place (part place) s) c.loop-place.invariant
    in
    rw add-one whole

pub returns : goal.returns
returns c =
    let all : c.loop-place.place ≡ length c.args.source.now.nodes.now = omega arith in
    let part = parts_from c.args.source.now.weighty.now c.args.source.now.nodes.now c.args.source.now.starts.now c.args.debts.now in
    c.loop-place.invariant ∙ ap (λ (k : ℕ). sheet_at (is_in c.args.headers.now) part k) all
