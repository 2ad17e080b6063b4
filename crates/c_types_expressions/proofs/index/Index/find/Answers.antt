use Rattle.c_types_expressions.proofs.Indexes.{finds_none, finds_some}
use Rattle.c_types_expressions.proofs.index.Index.find.Goals as goal

pub returns-in-None : goal.returns-in-None
returns-in-None c = λ entries h. finds_none c.args.name.now entries c.args.self.now h (cc)

pub returns-in-Some : goal.returns-in-Some
returns-in-Some c = λ entries h. finds_some c.args.name.now entries c.args.self.now c.in-Some.declared h (cc)
