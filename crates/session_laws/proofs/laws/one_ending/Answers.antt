use Rattle.session_laws.proofs.Taken.{accepts-once, none-faulty}
use Rattle.session_laws.proofs.laws.one_ending.Goals as goal

pub returns : goal.returns
returns c = record { same = λ start a b edits. accepts-once edits start a b; none_faulty = λ start at after before more edit. none-faulty before start at after more edit }
