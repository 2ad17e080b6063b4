use Rattle.std.proofs.Common.{◌≡◌, map, take}
use Rattle.cbi_base.specs.Format.{conversions_of}
use Rattle.program_file.proofs.scope.conversions.Given as goal

-- the numbers of the texts so far
abbrev pub invariant-loop-text : goal.invariant-loop-text
invariant-loop-text l = l.counts ≡ map (λ t. conversions_of t.bytes) (take l.text-index l.texts)
