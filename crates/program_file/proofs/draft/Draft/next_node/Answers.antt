use Rattle.std.proofs.Common.{◌≡◌, ◌<◌, Some, sym, ap, rules}
use Rattle.cbi_base.specs.Text.{fields_of}
use Rattle.flow.specs.Spelling.{Head}
use Rattle.program_lines.specs.NodeLines.{node_of}
use Rattle.program_file.proofs.Taken.{node-refused, node-taken}
use Rattle.program_file.proofs.draft.Draft.next_node.Goals as goal

pub returns-then-not-node_fits-clause-only : goal.returns-then-not-node_fits-clause-only
returns-then-not-node_fits-clause-only c = λ h n f.
    let reads : Some c.in-Some-read_node.node ≡ node_of (fields_of c.args.line.now) = search rules in
    node-refused c.args.self.now c.args.line.now c.in-Some.head.now h c.in-Some-read_node.node n c.len-number.result c.len-place.result c.head.inside.locals c.head.inside.nodes
    c.len-number.ensures c.len-place.ensures (ap (λ (x : Head). x.locals) c.head.view_is) (ap (λ (x : Head). x.nodes) c.head.view_is) c.in-Some.ensures.found reads (sym c.if-not-node_fits.ensures) f

pub returns-clause-ok : goal.returns-clause-ok
returns-clause-ok c =
    let reads : Some c.in-Some-read_node.node ≡ node_of (fields_of c.args.line.now) = search rules in
    let room : c.len-place.result < c.head.inside.nodes = search rules in (
      c.in-Some.head.now,
      node-taken c.args.self.now c.args.line.now c.in-Some.head.now c.in-Some-read_node.node c.len-number.result c.len-place.result c.head.inside.locals c.head.inside.nodes
          c.len-number.ensures c.len-place.ensures (ap (λ (x : Head). x.locals) c.head.view_is) (ap (λ (x : Head). x.nodes) c.head.view_is) c.in-Some.ensures.found reads room (sym c.if-not-node_fits.ensures),
    )
