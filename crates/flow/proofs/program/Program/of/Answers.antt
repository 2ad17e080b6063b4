use Rattle.std.proofs.Common.{rules}
use Rattle.flow.proofs.Tables.{owners_fit}
use Rattle.flow.proofs.program.Program.of.Goals as goal

pub of-requires : goal.of-requires
of-requires c = owners_fit c.args.parts c.in_ok-names.names c.requires (search rules)
