use Rattle.std.proofs.Common.{◌≡◌, ◌+◌, ◌≤◌, length, ◌∙◌, rules, arith}
use Rattle.std.proofs.lemmas.Grind.{common_steps}
use Rattle.flow.specs.Limits.{local_limit, node_limit}
use Rattle.program_lines.specs.Known.{AreNamesOf}
use Rattle.program_lines.specs.Sums.{AreNumbered, locals_in, nodes_in}
use Rattle.program_lines.proofs.KnownLemmas.{names-more}
use Rattle.program_lines.proofs.lists.Heads.push.Goals as goal

pub invariant_of-self-2 : goal.invariant_of-self-2
invariant_of-self-2 c =
    let numbered : AreNumbered (length c.push.new.self.items) = grind (arith, common_steps) in
    let locals : c.self.inside.locals + c.head.inside.locals ≡ locals_in c.push.new.self.items = grind (arith, common_steps) in
    let few_locals : c.self.inside.locals + c.head.inside.locals ≤ local_limit = grind (arith, common_steps) in
    let nodes : c.self.inside.nodes + c.head.inside.nodes ≡ nodes_in c.push.new.self.items = grind (arith, common_steps) in
    let few_nodes : c.self.inside.nodes + c.head.inside.nodes ≤ node_limit = grind (arith, common_steps) in
    let names : AreNamesOf c.push.new.self.items c.add.new.self = names-more c.self.inside.items.items c.push.new.self.items c.args.head c.self.inside.names c.add.new.self c.bytes.result.now c.in_ok-push.ensures.items (c.bytes.ensures.value ∙ search rules) c.self.invariant.1.1.1 c.in-Ok.ensures.ok in
    (numbered, ((locals, few_locals), ((nodes, few_nodes), names)))
