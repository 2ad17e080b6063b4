use Rattle.std.proofs.Common.{◌∙◌, ap, reverse}
use Rattle.c_types_expressions.specs.Names.{is_here}
use Rattle.c_types_expressions.proofs.names.Names.is_here.Goals as goal

pub returns : goal.returns
returns c = c.is_here.ensures (reverse c.self.inside.entries.items) c.self.invariant ∙ ap (is_here c.args.name.now) c.self.view_is
