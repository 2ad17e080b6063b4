use Rattle.std.proofs.Common.{◌≡◌, subst}
use Rattle.std.specs.Prelude.{IfOk}
use Rattle.flow.specs.Program.{table_of}
use Rattle.compiler.specs.Does.{DoesText}
use Rattle.compiler.specs.Planned.{planned_sites}
use Rattle.compiler.proofs.Doing.{full_result, kept_names, sampled_result, when_ready}
use Rattle.compiler.proofs.pipeline.by_plan.Goals as goal

pub returns-in-Sampled-clause-does : goal.returns-in-Sampled-clause-does
returns-in-Sampled-clause-does c = λ tree known does.
    sampled_result c.args.plan c.in-Sampled.schemes c.in-Sampled.part tree known c.in_ok-program.program c.sample.result c.in-Sampled.is
    (subst (λ part. DoesText tree known (planned_sites c.args.plan tree known) part c.in_ok-program.program) c.part_in.ensures
    (c.in_ok-program.ensures.does tree known (planned_sites c.args.plan tree known) does))
    c.sample.ensures.cloned (when_ready c.in_ok-program.program c.sample.result c.sample.ensures.samples c.in_ok-program.ensures.ready)

pub returns-in-Sampled-clause-names : goal.returns-in-Sampled-clause-names
returns-in-Sampled-clause-names c = subst (λ names. IfOk c.sample.result (λ q. (table_of q).functions ≡ names)) c.in_ok-program.ensures.names
    (kept_names c.in_ok-program.program c.sample.result c.sample.ensures.cloned)

pub returns-in-Plain : goal.returns-in-Plain
returns-in-Plain c = record {
  does = λ tree known does. full_result c.args.plan tree known c.in_ok-program.program c.in-Plain.is
      (subst (λ part. DoesText tree known (planned_sites c.args.plan tree known) part c.in_ok-program.program) c.part_in.ensures
      (c.in_ok-program.ensures.does tree known (planned_sites c.args.plan tree known) does));
  names = c.in_ok-program.ensures.names;
}
