use Rattle.std.proofs.Common.{subst}
use Rattle.compiler.specs.Refused.{RefusesText}
use Rattle.command_base.proofs.FaultLemmas.{refused-as}
use Rattle.command_base.proofs.ReadingLemmas.{looked-at}
use Rattle.command_transform.specs.Transform.{plan_of}
use Rattle.command_transform.proofs.TransformLemmas.{same-refused-text, transform-refused}
use Rattle.command_transform.proofs.command.TransformCallWork.make.Goals as goal

pub returns-clause-was_refused : goal.returns-clause-was_refused
returns-clause-was_refused g c =
    refused-as c.in-Err-file_of.fault _ _ _ _ c.in-Err-file_of.ensures.fault
    (λ refusal h. transform-refused c.refused_texts_are_not_compiled.ensures.refused c.args.self.now.words (g.S.Store.holds c.args.store.now) c.in-Ok.text refusal c.in-Ok.ensures.bytes
    (subst (RefusesText (plan_of c.args.self.now.words) refusal) c.as_slice.ensures h))

pub returns-clause-read : goal.returns-clause-read
returns-clause-read g c =
    looked-at _ c.in-Err-file_of.fault _ _ c.in-Ok.ensures.read c.in-Err-file_of.ensures.fault
    (λ refusal h. record { bytes = c.in-Ok.text; read = c.in-Ok.ensures.bytes; refused = subst (RefusesText (plan_of c.args.self.now.words) refusal) c.as_slice.ensures h })

pub returns-clause-is_refused : goal.returns-clause-is_refused
returns-clause-is_refused g c = λ refused tells.
    c.in-Err-file_of.ensures.refused
    (same-refused-text (g.S.Store.holds c.args.store.now) c.args.self.now.words c.in-Ok.text c.as_slice.result.now c.as_slice.ensures tells c.in-Ok.ensures.bytes refused)

pub returns-in-Ok-file_of-clause-is_refused : goal.returns-in-Ok-file_of-clause-is_refused
returns-in-Ok-file_of-clause-is_refused g c = λ refused tells.
    c.in-Ok-file_of.ensures.refused
    (same-refused-text (g.S.Store.holds c.args.store.now) c.args.self.now.words c.in-Ok.text c.as_slice.result.now c.as_slice.ensures tells c.in-Ok.ensures.bytes refused)
