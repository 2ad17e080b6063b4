use Rattle.std.proofs.Common.{Err, ap, refl}
use Rattle.command_inputs.proofs.collections.load_collection.Goals as goal

pub returns-in-Err-BadCollection-clause-fault : goal.returns-in-Err-BadCollection-clause-fault
returns-in-Err-BadCollection-clause-fault c = record {
  line = c.in-Err-BadCollection.line;
  told_is = refl;
  none = λ b h. rw c.in-Err-BadCollection.field-0-is at (c.in-Err-BadCollection.ensures.only b h);
  bad = record { alloc = c.args.alloc; bad = c.in-Err-BadCollection.ensures.line c.in-Err-BadCollection.line (ap Err c.in-Err-BadCollection.field-0-is) };
}
