use Rattle.std.proofs.Common.{refl}
use Rattle.c_types_expressions.proofs.Indexes.{declares, stays}
use Rattle.c_types_expressions.proofs.Stacks.{on_err}
use Rattle.c_types_expressions.proofs.index.Index.declare.Goals as goal

pub returns-in_err-push-clause-err : goal.returns-in_err-push-clause-err
returns-in_err-push-clause-err c = on_err c.from_residual.result (λ entries h. stays entries c.args.self.now _ h c.in_err-push.ensures.err refl)

pub returns-clause-ok : goal.returns-clause-ok
returns-clause-ok c = λ entries h. declares c.bytes.result.now c.args.name.now c.args.meaning entries c.args.self.now _ c.bytes.ensures.value h c.in_ok-push.ensures.ok refl
