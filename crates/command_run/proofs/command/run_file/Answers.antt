use Rattle.std.proofs.Common.{inl, inr, refl}
use Rattle.command_base.proofs.DeviceLemmas.{all-stay}
use Rattle.command_base.proofs.FaultLemmas.{caused-as, published-part, refused-as}
use Rattle.command_run.proofs.RunLemmas.{loaded, same-refused, never-refused, ran-whole, stopped, broke, few-counts, run-refused}
use Rattle.command_run.proofs.command.run_file.Goals as goal

pub returns-in-Err-look-clause-was_refused : goal.returns-in-Err-look-clause-was_refused
returns-in-Err-look-clause-was_refused g c =
    refused-as c.in-Err-look.fault _ _ _ _ c.in-Err-look.ensures.fault
    (λ refusal h. run-refused c.args.words.now (g.S.Store.holds c.args.store.now) c.in-Ok.files refusal c.in-Ok.ensures.files h)

pub returns-in-Err-look-clause-fault : goal.returns-in-Err-look-clause-fault
returns-in-Err-look-clause-fault g c =
    caused-as c.in-Err-look.fault _ _ _ _ c.in-Err-look.ensures.fault (λ refusal refused. record { files = _; are_files = c.in-Ok.ensures.files; refused = refused })

pub returns-in-Err-look-clause-refused : goal.returns-in-Err-look-clause-refused
returns-in-Err-look-clause-refused g c = λ refused tells.
    c.in-Err-look.ensures.refused (same-refused (g.S.Store.holds c.args.store.now) c.args.words.now c.in-Ok.files tells c.in-Ok.ensures.files refused)

pub returns-in-Err-look-clause-held : goal.returns-in-Err-look-clause-held
returns-in-Err-look-clause-held g c = all-stay _ _ _ c.read_files.ensures.read.held

pub returns-in-Err-run-clause-held : goal.returns-in-Err-run-clause-held
returns-in-Err-run-clause-held g c = all-stay _ _ _ c.read_files.ensures.read.held

pub returns-in-Err-run-clause-left : goal.returns-in-Err-run-clause-left
returns-in-Err-run-clause-left g c =
    let l = loaded _ _ c.in-Ok.files _ _ c.in-Ok.ensures.files c.in-Ok-look.ensures.found c.in-Ok-look.ensures.bank c.in-Ok-look.ensures.fits in
    inr (inl (broke _ _ _ _ _ _ _ _ _ c.as_slice-input.ensures l refl c.read_files.ensures.read.held c.in-Err-run.ensures.wanting))

pub publish-requires-clause-few : goal.publish-requires-clause-few
publish-requires-clause-few g c = few-counts _ _ _ _ _ _ _ _ _ _ c.in-Ok-look.ensures.found c.in-Ok-run.ensures.ran

pub returns-in-Ok-publish-clause-ran : goal.returns-in-Ok-publish-clause-ran
returns-in-Ok-publish-clause-ran g c =
    let l = loaded _ _ c.in-Ok.files _ _ c.in-Ok.ensures.files c.in-Ok-look.ensures.found c.in-Ok-look.ensures.bank c.in-Ok-look.ensures.fits in
    ran-whole _ _ _ _ _ _ _ _ _ _ _ c.as_slice-input.ensures c.read_files.ensures.read.held l c.in-Ok-run.ensures.ran c.in-Ok-publish.ensures.took c.in-Ok-publish.ensures.reported

pub returns-in-Ok-publish-clause-refused : goal.returns-in-Ok-publish-clause-refused
returns-in-Ok-publish-clause-refused g c = λ refused tells.
    never-refused c.in-Ok.files _ _ c.in-Ok-look.ensures.found c.in-Ok-look.ensures.bank c.in-Ok-look.ensures.fits
    (same-refused (g.S.Store.holds c.args.store.now) c.args.words.now c.in-Ok.files tells c.in-Ok.ensures.files refused)

pub returns-clause-refused : goal.returns-clause-refused
returns-clause-refused g c = λ refused tells.
    absurd (never-refused c.in-Ok.files _ _ c.in-Ok-look.ensures.found c.in-Ok-look.ensures.bank c.in-Ok-look.ensures.fits
    (same-refused (g.S.Store.holds c.args.store.now) c.args.words.now c.in-Ok.files tells c.in-Ok.ensures.files refused))

pub returns-clause-left : goal.returns-clause-left
returns-clause-left g c =
    let l = loaded _ _ c.in-Ok.files _ _ c.in-Ok.ensures.files c.in-Ok-look.ensures.found c.in-Ok-look.ensures.bank c.in-Ok-look.ensures.fits in
    published-part c.in-Err-publish.fault _ _ _ _ _ c.in-Err-publish.ensures.fault
    (stopped _ _ _ _ _ _ _ _ _ _ _ c.as_slice-input.ensures c.read_files.ensures.read.held l c.in-Ok-run.ensures.ran c.in-Err-publish.ensures.part)
