use Rattle.session_edits.proofs.Once.{spells-once}
use Rattle.session_edits.proofs.laws.one_list.Goals as goal

pub returns : goal.returns
returns c = spells-once c.args.alloc
