use Rattle.program_lines.proofs.KnownLemmas.{has-known}
use Rattle.program_lines.proofs.known.KnownNames.has.Goals as goal

pub returns : goal.returns
returns c = has-known _ c.args.name.now c.self.inside.names.keys c.args.self.now c.contains.ensures c.self.view_is
