use Rattle.std.proofs.Common.{inr, refl, subst, ◌∙◌}
use Rattle.std.proofs.lemmas.Bool.{false≢true}
use Rattle.study.specs.Studied.{StudyRefusedWith}
use Rattle.command_base.proofs.DeviceLemmas.{took-nothing}
use Rattle.command_base.proofs.FaultLemmas.{published-part}
use Rattle.command_study.specs.Study.{plan_of}
use Rattle.command_study.proofs.StudyLemmas.{is-study, left-of, same-refused-study, study-done, study-taken, study-refused}
use Rattle.command_study.proofs.command.study_text.Goals as goal

pub returns-in-Err-Refused-clause-was_refused : goal.returns-in-Err-Refused-clause-was_refused
returns-in-Err-Refused-clause-was_refused g c =
    study-refused c.refused_texts_are_not_compiled.ensures.refused c.args.words.now (g.S.Store.holds c.args.store.now) c.in-Ok.text c.as_slice.result.now c.in-Err-Refused.refusal c.as_slice.ensures c.in-Ok.ensures.bytes
    (subst (StudyRefusedWith c.as_slice.result.now (plan_of c.args.words.now)) c.in-Err-Refused.field-0-is c.in-Err-Refused.ensures.refused)

pub returns-in-Err-Refused-clause-left : goal.returns-in-Err-Refused-clause-left
returns-in-Err-Refused-clause-left g c = record {
  bytes = c.in-Ok.text;
  read = c.in-Ok.ensures.bytes;
  out = refl;
  held = c.read_file.ensures.read.held;
  boxes = rw c.in-Err-Refused.field-0-is (left-of _ _ _ _ _ _ _ _ c.as_slice.ensures c.in-Err-Refused.field-0-is c.in-Err-Refused.ensures.left);
}

pub returns-in-Err-text_of-clause-left : goal.returns-in-Err-text_of-clause-left
returns-in-Err-text_of-clause-left g c =
    inr (inr (study-taken _ _ _ _ _
    (is-study _ _ _ _ c.in-Ok.text c.as_slice.result.now _ c.in-Ok-study.studied c.in-Ok.ensures.bytes c.as_slice.ensures c.in-Ok-study.ensures.studied refl)
    (took-nothing _ _ _ refl) c.read_file.ensures.read.held))

pub returns-in-Ok-put-clause-done : goal.returns-in-Ok-put-clause-done
returns-in-Ok-put-clause-done g c =
    study-done _ _ _ _ _
    (is-study _ _ _ _ c.in-Ok.text c.as_slice.result.now _ c.in-Ok-study.studied c.in-Ok.ensures.bytes c.as_slice.ensures c.in-Ok-study.ensures.studied
    (c.as_slice-2.ensures.value ∙ c.in-Ok-text_of.ensures))
    c.in-Ok-put.ensures.whole c.read_file.ensures.read.held

pub returns-in-Ok-put-clause-refused : goal.returns-in-Ok-put-clause-refused
returns-in-Ok-put-clause-refused g c = λ refused tells.
    false≢true (c.in-Ok-study.ensures.refused_only
    (same-refused-study (g.S.Store.holds c.args.store.now) c.args.words.now c.in-Ok.text c.as_slice.result.now c.as_slice.ensures tells c.in-Ok.ensures.bytes refused))

pub returns-clause-refused : goal.returns-clause-refused
returns-clause-refused g c = λ refused tells.
    absurd (false≢true (c.in-Ok-study.ensures.refused_only
    (same-refused-study (g.S.Store.holds c.args.store.now) c.args.words.now c.in-Ok.text c.as_slice.result.now c.as_slice.ensures tells c.in-Ok.ensures.bytes refused)))

pub returns-clause-left : goal.returns-clause-left
returns-clause-left g c =
    published-part c.in-Err-put.fault _ _ _ _ _ c.in-Err-put.ensures.fault
    (study-taken _ _ _ _ _
    (is-study _ _ _ _ c.in-Ok.text c.as_slice.result.now _ c.in-Ok-study.studied c.in-Ok.ensures.bytes c.as_slice.ensures c.in-Ok-study.ensures.studied
    (c.as_slice-2.ensures.value ∙ c.in-Ok-text_of.ensures))
    c.in-Err-put.ensures.part c.read_file.ensures.read.held)
