use Rattle.clone_paths.proofs.ResolveLemmas.{ResolvedFrom}
use Rattle.clone_paths.proofs.function.resolve.Given as goal

abbrev pub invariant-loop-place : goal.invariant-loop-place
invariant-loop-place l = ResolvedFrom l.starts l.nodes l.initial.fast l.fast l.place
