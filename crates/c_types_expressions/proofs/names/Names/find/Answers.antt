use Rattle.std.proofs.Common.{◌∙◌, ap, reverse}
use Rattle.c_types_expressions.specs.Names.{declared_meaning}
use Rattle.c_types_expressions.proofs.names.Names.find.Goals as goal

pub returns : goal.returns
returns c = c.find.ensures (reverse c.self.inside.entries.items) c.self.invariant ∙ ap (declared_meaning c.args.name.now) c.self.view_is
