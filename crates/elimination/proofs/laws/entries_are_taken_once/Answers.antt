use Rattle.elimination.proofs.UniqueLemmas.{taken-once}
use Rattle.elimination.proofs.laws.entries_are_taken_once.Goals as goal

pub returns : goal.returns
returns c = taken-once
