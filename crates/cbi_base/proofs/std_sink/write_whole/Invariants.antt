use Rattle.std.proofs.Common.{◌≤◌, length, take}
use Rattle.std.specs.Io.KnownBytes.{Appends}
use Rattle.cbi_base.proofs.std_sink.write_whole.Given as goal

-- the part that is done was taken
abbrev pub invariant-loop : goal.invariant-loop
invariant-loop g l = record {
  within : l.done ≤ length l.piece;
  taken : Appends (g.W.Write.contents l.initial.to) (g.W.Write.contents l.to) (take l.done l.piece);
}
