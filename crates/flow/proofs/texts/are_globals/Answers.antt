use Rattle.std.proofs.Common.{rules, length, arith}
use Rattle.flow.specs.Limits.{static_limit}
use Rattle.flow.proofs.Sums.{fits_word}
use Rattle.flow.proofs.texts.are_globals.Goals as goal

pub all_cells-requires : goal.all_cells-requires
all_cells-requires c = fits_word (λ g. length g.cells) c.args.globals.now static_limit (search rules) (omega arith) (omega arith)
