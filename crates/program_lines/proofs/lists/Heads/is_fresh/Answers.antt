use Rattle.program_lines.proofs.KnownLemmas.{fresh-is}
use Rattle.program_lines.proofs.lists.Heads.is_fresh.Goals as goal

pub returns : goal.returns
returns c = fresh-is _ c.self.inside.items.items c.args.self.now c.self.inside.names c.args.name.now c.self.view_is c.has.ensures c.self.invariant.1.1.1
