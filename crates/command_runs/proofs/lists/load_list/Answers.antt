use Rattle.std.proofs.Common.{Err, ap, refl}
use Rattle.command_runs.proofs.lists.load_list.Goals as goal

pub returns-in-Err-BadList-clause-fault : goal.returns-in-Err-BadList-clause-fault
returns-in-Err-BadList-clause-fault c = record {
  line = c.in-Err-BadList.line;
  refusal_is = refl;
  none = λ names h. rw c.in-Err-BadList.field-0-is at (c.in-Err-BadList.ensures.only names h);
  bad = record { alloc = c.args.alloc; bad = c.in-Err-BadList.ensures.line c.in-Err-BadList.line (ap Err c.in-Err-BadList.field-0-is) };
}
