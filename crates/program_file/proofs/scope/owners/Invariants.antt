use Rattle.std.proofs.Common.{◌≡◌, map, take}
use Rattle.program_file.proofs.scope.owners.Given as goal

-- the functions of the sites so far
abbrev pub invariant-loop-site : goal.invariant-loop-site
invariant-loop-site l = l.owners ≡ map (λ s. s.function) (take l.site-index l.sites)
