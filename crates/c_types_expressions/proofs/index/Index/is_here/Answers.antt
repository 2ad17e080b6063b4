use Rattle.c_types_expressions.proofs.Indexes.{here_none, here_some}
use Rattle.c_types_expressions.proofs.index.Index.is_here.Goals as goal

pub returns-in-None : goal.returns-in-None
returns-in-None c = λ entries h. here_none c.args.name.now entries c.args.self.now h (cc)

pub returns-in-Some : goal.returns-in-Some
returns-in-Some c = λ entries h. here_some c.args.name.now entries c.args.self.now c.in-Some.declared h (cc)
