use Rattle.compiler.proofs.Doing.{kept_result, part_clones, part_names, part_ready}
use Rattle.compiler.proofs.pipeline.keep.Goals as goal

pub returns-in-Some-clause-does : goal.returns-in-Some-clause-does
returns-in-Some-clause-does c = λ tree known table does.
    rw c.in-Some.is (kept_result c.in-Some.part tree known table c.args.program c.keep_part.result does c.keep_part.ensures.table c.keep_part.ensures.nodes c.keep_part.ensures.runs c.requires.ready)

pub returns-in-Some-clause-names : goal.returns-in-Some-clause-names
returns-in-Some-clause-names c = part_names c.in-Some.part c.args.program c.keep_part.result c.keep_part.ensures.table

pub returns-in-Some-clause-may_clone : goal.returns-in-Some-clause-may_clone
returns-in-Some-clause-may_clone c = part_clones c.args.program c.keep_part.result c.keep_part.ensures.plain c.keep_part.ensures.nodes c.requires.may_clone

pub returns-in-Some-clause-ready : goal.returns-in-Some-clause-ready
returns-in-Some-clause-ready c = part_ready c.args.program c.keep_part.result c.keep_part.ensures.ready c.requires.ready
