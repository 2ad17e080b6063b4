use Rattle.c_parser_declarations.specs.DeclarationParser.{the_bounds}
use Rattle.c_parser_declarations.proofs.DeclarationLoops.{Bounds}
use Rattle.c_parser_declarations.proofs.declarations.bounds.Given as goal

abbrev pub invariant-bounds : goal.invariant-bounds
invariant-bounds l = Bounds l.left l.reader l.bounds.items (the_bounds l.fn.most l.fn.reader)

abbrev pub decreases-bounds : goal.decreases-bounds
decreases-bounds l = l.left
