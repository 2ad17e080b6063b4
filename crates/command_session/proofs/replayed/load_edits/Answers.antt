use Rattle.std.proofs.Common.{Err, ap, refl}
use Rattle.command_session.proofs.replayed.load_edits.Goals as goal

pub returns-in-Err-BadEdits-clause-fault : goal.returns-in-Err-BadEdits-clause-fault
returns-in-Err-BadEdits-clause-fault c = record {
  line = c.in-Err-BadEdits.line;
  refusal_is = refl;
  none = λ list h. rw c.in-Err-BadEdits.field-0-is at (c.in-Err-BadEdits.ensures.only list h);
  bad = record { alloc = c.args.alloc; bad = c.in-Err-BadEdits.ensures.line c.in-Err-BadEdits.line (ap Err c.in-Err-BadEdits.field-0-is) };
}
