use Rattle.std.proofs.Common.{◌<◌, take}
use Rattle.std.specs.List.{All}
use Rattle.flow.proofs.texts.hold_bytes.Given as goal

-- the texts before this one hold bytes
abbrev pub invariant-loop-text : goal.invariant-loop-text
invariant-loop-text l = All (λ t. All (λ b. b < 256) t.bytes) (take l.text-index l.texts)
