use Rattle.program_file.proofs.Taken.{err-taken}
use Rattle.program_file.proofs.draft.Draft.take_main.Goals as goal

pub returns-in-Err-clause-only : goal.returns-in-Err-clause-only
returns-in-Err-clause-only c = λ next f. err-taken c.in-Err.e f.0 _ (c.in-Err.ensures.only f.0 f.1)
