use Rattle.std.proofs.Common.{rules, length, arith}
use Rattle.flow.specs.Limits.{local_limit, node_limit}
use Rattle.flow.specs.declared.program.Function.{Function}
use Rattle.flow.proofs.Sums.{fits_word}
use Rattle.flow.proofs.functions.are_few.Goals as goal

pub totals-locals-requires-clause-locals : goal.totals-locals-requires-clause-locals
totals-locals-requires-clause-locals c =
    fits_word (λ (f : Function). length f.locals) c.args.functions.now local_limit (search rules) (omega arith) (omega arith)

pub totals-locals-requires-clause-nodes : goal.totals-locals-requires-clause-nodes
totals-locals-requires-clause-nodes c =
    fits_word (λ (f : Function). length f.nodes) c.args.functions.now node_limit (search rules) (omega arith) (omega arith)
