use Rattle.clone_paths.proofs.DebtLemmas.{Owed}
use Rattle.clone_paths.proofs.debts.debts_of.Given as goal

-- what is owed after the nodes before this one
abbrev pub invariant-loop-place : goal.invariant-loop-place
invariant-loop-place l = Owed l.nodes l.starts l.place l.debts.items
