use Rattle.std.proofs.Common.{inr, refl, ap, ◌∙◌}
use Rattle.sha2.specs.Sha256.{sha256}
use Rattle.collector.specs.Spelling.{collection_text}
use Rattle.command_base.specs.declared.done.Done.{Done}
use Rattle.command_base.specs.declared.done.Done.TheVariants.{Counted}
use Rattle.command_base.proofs.DeviceLemmas.{took-nothing}
use Rattle.command_base.proofs.FaultLemmas.{refused-as}
use Rattle.command_base.proofs.NameLemmas.{of-read-as}
use Rattle.command_runs.proofs.RunsLemmas.{fault-of-look, fault-of-runs, finished-as, first-refused, later, line-missing, names-held, never-listed, precedes-of, runs-held}
use Rattle.command_runs.proofs.Told.{all-run, left-refused, left-stopped, left-taken, runs-done, runs-taken}
use Rattle.command_runs.proofs.command.make_runs.Goals as goal

pub returns-in-Err-clause-refused : goal.returns-in-Err-clause-refused
returns-in-Err-clause-refused g c = λ refused tells. precedes-of c.in-Err.fault _ _ c.in-Err.ensures.read.fault

pub returns-in-Err-look-clause-fault : goal.returns-in-Err-look-clause-fault
returns-in-Err-look-clause-fault g c =
    fault-of-look c.in-Err-look.fault c.args.words.now (g.S.Store.holds c.args.store.now) c.in-Ok.texts _ _ c.in-Ok.ensures.texts c.in-Err-look.ensures.fault

pub returns-in-Err-look-clause-was_refused : goal.returns-in-Err-look-clause-was_refused
returns-in-Err-look-clause-was_refused g c =
    first-refused c.in-Err-look.fault c.args.words.now (g.S.Store.holds c.args.store.now) c.in-Ok.texts c.in-Ok.ensures.texts c.in-Err-look.ensures.fault

pub returns-in-Err-look-clause-refused : goal.returns-in-Err-look-clause-refused
returns-in-Err-look-clause-refused g c = λ refused tells. precedes-of c.in-Err-look.fault _ _ c.in-Err-look.ensures.fault

pub returns-in-Err-look-clause-left : goal.returns-in-Err-look-clause-left
returns-in-Err-look-clause-left g c =
    left-refused _ c.args.words.now _ _ c.in-Err-look.fault c.in-Ok.texts c.in-Ok.ensures.texts c.in-Err-look.ensures.fault
    (record { out = refl; held = c.read_texts.ensures.read.held; boxes = refl })

pub returns-in-Err-run_planned-clause-fault : goal.returns-in-Err-run_planned-clause-fault
returns-in-Err-run_planned-clause-fault g c =
    fault-of-runs c.in-Err-run_planned.fault c.args.words.now (g.S.Store.holds c.args.store.now) (g.S.Store.holds c.read_texts.new.store) c.in-Ok.texts c.in-Ok-look.looked.0 c.in-Ok-look.looked.1
    c.len-count.result _ _ _ _ (record { are_texts = c.in-Ok.ensures.texts; spell = c.in-Ok-look.ensures.found }) c.read_texts.ensures.read.held c.len-count.ensures c.read_texts.ensures.read.never_falls
    c.in-Err-run_planned.ensures.fault

pub returns-in-Err-run_planned-clause-was_refused : goal.returns-in-Err-run_planned-clause-was_refused
returns-in-Err-run_planned-clause-was_refused g c =
    refused-as c.in-Err-run_planned.fault _ _ _ _ c.in-Err-run_planned.ensures.fault
    (λ refusal h. inr (
      refusal,
      later c.args.words.now (g.S.Store.holds c.args.store.now) (g.S.Store.holds c.read_texts.new.store) c.in-Ok.texts c.in-Ok-look.looked.0 c.in-Ok-look.looked.1 c.len-count.result refusal
          (record { are_texts = c.in-Ok.ensures.texts; spell = c.in-Ok-look.ensures.found }) c.read_texts.ensures.read.held c.len-count.ensures h,
    ))

pub returns-in-Err-run_planned-clause-refused : goal.returns-in-Err-run_planned-clause-refused
returns-in-Err-run_planned-clause-refused g c = λ refused tells. precedes-of c.in-Err-run_planned.fault _ _ c.in-Err-run_planned.ensures.fault

pub returns-in-Err-run_planned-clause-left : goal.returns-in-Err-run_planned-clause-left
returns-in-Err-run_planned-clause-left g c =
    left-stopped _ c.args.words.now _ _ c.in-Ok.texts c.in-Ok-look.looked.0 c.in-Ok-look.looked.1 (g.S.Store.holds c.read_texts.new.store) c.len-count.result
    (record { are_texts = c.in-Ok.ensures.texts; spell = c.in-Ok-look.ensures.found }) c.read_texts.ensures.read.held c.len-count.ensures c.in-Err-run_planned.fault refl
    (c.run_planned.ensures.held ∙ c.read_texts.ensures.read.held) c.in-Err-run_planned.ensures.left

pub returns-in-Err-run_planned-clause-missing : goal.returns-in-Err-run_planned-clause-missing
returns-in-Err-run_planned-clause-missing g c = λ sound.
    of-read-as c.in-Err-run_planned.fault _ _ (c.in-Err-run_planned.ensures.missing (c.read_texts.ensures.read.sound sound))
    (λ name missing. line-missing c.args.words.now (g.S.Store.holds c.args.store.now) (g.S.Store.holds c.read_texts.new.store) c.in-Ok.texts c.in-Ok-look.looked.0 c.in-Ok-look.looked.1 c.len-count.result
    name (record { are_texts = c.in-Ok.ensures.texts; spell = c.in-Ok-look.ensures.found }) c.read_texts.ensures.read.held c.len-count.ensures c.in-Ok.ensures.read.was_held missing)

pub returns-in-Err-run_planned-clause-reads_stay : goal.returns-in-Err-run_planned-clause-reads_stay
returns-in-Err-run_planned-clause-reads_stay g c = λ sound are.
    c.run_planned.ensures.sound_count (c.read_texts.ensures.read.sound sound)
    (names-held c.args.words.now (g.S.Store.holds c.args.store.now) (g.S.Store.holds c.read_texts.new.store) c.in-Ok.texts c.in-Ok-look.looked.0 c.in-Ok-look.looked.1 c.len-count.result
    (record { are_texts = c.in-Ok.ensures.texts; spell = c.in-Ok-look.ensures.found }) c.read_texts.ensures.read.held c.len-count.ensures are)
    ∙ c.read_texts.ensures.read.sound_count sound are.first

pub returns-in-Err-told_of-clause-left : goal.returns-in-Err-told_of-clause-left
returns-in-Err-told_of-clause-left g c =
    let labels = c.in-Ok-run_planned.ran.labels in
    inr (inr (runs-taken _ c.args.words.now _ _ (Counted c.len-count.result labels.failed labels.succeeded labels.neither) (collection_text c.in-Ok-run_planned.ran.collection)
    (all-run _ c.args.words.now _ _ c.in-Ok.texts c.in-Ok-look.looked.0 c.in-Ok-look.looked.1 (g.S.Store.holds c.read_texts.new.store) c.len-count.result
    (record { are_texts = c.in-Ok.ensures.texts; spell = c.in-Ok-look.ensures.found }) c.read_texts.ensures.read.held c.len-count.ensures c.program_id-id.result c.in-Ok-run_planned.ran
    (c.program_id-id.ensures ∙ ap sha256 c.as_slice.ensures) c.in-Ok-run_planned.ensures.ran _ _ refl refl c.told_of.ensures.fits)
    (took-nothing _ _ _ refl) (c.run_planned.ensures.held ∙ c.read_texts.ensures.read.held)))

pub returns-in-Ok-put-clause-done : goal.returns-in-Ok-put-clause-done
returns-in-Ok-put-clause-done g c =
    runs-done _ c.args.words.now _ _ _ _
    (all-run _ c.args.words.now _ _ c.in-Ok.texts c.in-Ok-look.looked.0 c.in-Ok-look.looked.1 (g.S.Store.holds c.read_texts.new.store) c.len-count.result
    (record { are_texts = c.in-Ok.ensures.texts; spell = c.in-Ok-look.ensures.found }) c.read_texts.ensures.read.held c.len-count.ensures c.program_id-id.result c.in-Ok-run_planned.ran
    (c.program_id-id.ensures ∙ ap sha256 c.as_slice.ensures) c.in-Ok-run_planned.ensures.ran _ _ c.in-Ok-told_of.ensures.said
    (c.as_slice-2.ensures.value ∙ c.in-Ok-told_of.ensures.text) c.told_of.ensures.fits)
    c.in-Ok-put.ensures.whole (c.run_planned.ensures.held ∙ c.read_texts.ensures.read.held)

pub returns-in-Ok-put-clause-refused : goal.returns-in-Ok-put-clause-refused
returns-in-Ok-put-clause-refused g c = λ refused tells.
    never-listed c.args.words.now (g.S.Store.holds c.args.store.now) (g.S.Store.holds c.read_texts.new.store) c.in-Ok.texts c.in-Ok-look.looked.0 c.in-Ok-look.looked.1 c.len-count.result
    (record { are_texts = c.in-Ok.ensures.texts; spell = c.in-Ok-look.ensures.found }) c.read_texts.ensures.read.held c.len-count.ensures c.in-Ok-look.ensures.only tells c.in-Ok-look.ensures.refused
    c.in-Ok-run_planned.ensures.refused refused

pub returns-in-Ok-put-clause-lines_held : goal.returns-in-Ok-put-clause-lines_held
returns-in-Ok-put-clause-lines_held g c =
    runs-held c.args.words.now (g.S.Store.holds c.args.store.now) (g.S.Store.holds c.read_texts.new.store) c.in-Ok.texts c.in-Ok-look.looked.0 c.in-Ok-look.looked.1 c.len-count.result
    (record { are_texts = c.in-Ok.ensures.texts; spell = c.in-Ok-look.ensures.found }) c.read_texts.ensures.read.held c.len-count.ensures c.in-Ok-look.ensures.only c.in-Ok.ensures.read.was_held
    c.in-Ok-run_planned.ensures.was_held

pub returns-clause-refused : goal.returns-clause-refused
returns-clause-refused g c = λ refused tells.
    absurd (never-listed c.args.words.now (g.S.Store.holds c.args.store.now) (g.S.Store.holds c.read_texts.new.store) c.in-Ok.texts c.in-Ok-look.looked.0 c.in-Ok-look.looked.1 c.len-count.result
    (record { are_texts = c.in-Ok.ensures.texts; spell = c.in-Ok-look.ensures.found }) c.read_texts.ensures.read.held c.len-count.ensures c.in-Ok-look.ensures.only tells c.in-Ok-look.ensures.refused
    c.in-Ok-run_planned.ensures.refused refused)

pub returns-clause-left : goal.returns-clause-left
returns-clause-left g c =
    left-taken _ c.args.words.now _ _ c.in-Err-put.fault _ c.in-Err-put.ensures.fault
    (runs-taken _ c.args.words.now _ _ _ _
    (all-run _ c.args.words.now _ _ c.in-Ok.texts c.in-Ok-look.looked.0 c.in-Ok-look.looked.1 (g.S.Store.holds c.read_texts.new.store) c.len-count.result
    (record { are_texts = c.in-Ok.ensures.texts; spell = c.in-Ok-look.ensures.found }) c.read_texts.ensures.read.held c.len-count.ensures c.program_id-id.result c.in-Ok-run_planned.ran
    (c.program_id-id.ensures ∙ ap sha256 c.as_slice.ensures) c.in-Ok-run_planned.ensures.ran _ _ c.in-Ok-told_of.ensures.said
    (c.as_slice-2.ensures.value ∙ c.in-Ok-told_of.ensures.text) c.told_of.ensures.fits)
    c.in-Err-put.ensures.part (c.run_planned.ensures.held ∙ c.read_texts.ensures.read.held))

pub returns-clause-lines_held : goal.returns-clause-lines_held
returns-clause-lines_held g c =
    finished-as Done c.in-Err-put.fault _
    (runs-held c.args.words.now (g.S.Store.holds c.args.store.now) (g.S.Store.holds c.read_texts.new.store) c.in-Ok.texts c.in-Ok-look.looked.0 c.in-Ok-look.looked.1 c.len-count.result
    (record { are_texts = c.in-Ok.ensures.texts; spell = c.in-Ok-look.ensures.found }) c.read_texts.ensures.read.held c.len-count.ensures c.in-Ok-look.ensures.only c.in-Ok.ensures.read.was_held
    c.in-Ok-run_planned.ensures.was_held)
