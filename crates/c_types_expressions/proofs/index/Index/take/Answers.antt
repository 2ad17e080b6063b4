use Rattle.std.proofs.Common.{refl, rules}
use Rattle.c_types_expressions.proofs.Indexes.{closes, takes}
use Rattle.c_types_expressions.proofs.index.Index.take.Goals as goal

pub returns-in-Opens : goal.returns-in-Opens
returns-in-Opens c = λ entries h. closes _ entries c.args.self.now _ h c.in-Opens.is refl (search rules)

pub returns-in-Declares : goal.returns-in-Declares
returns-in-Declares c = λ entries h. takes c.bytes.result.now c.in-Declares.name _ _ entries c.args.self.now _ h c.in-Declares.is c.bytes.ensures.value c.pop.ensures refl
