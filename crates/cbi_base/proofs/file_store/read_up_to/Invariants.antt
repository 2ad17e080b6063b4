use Rattle.std.proofs.Common.{◌≡◌, ◌+◌, vec_len}
use Rattle.std.specs.Io.KnownBytes.{Consumes}
use Rattle.std.specs.Io.Take.{take_limit, take_remaining}
use Rattle.cbi_base.proofs.file_store.read_up_to.Given as goal

-- what was read so far stood in front, and fits with what is left of the limit
abbrev pub invariant-loop : goal.invariant-loop
invariant-loop g l = record {
  limit : vec_len l.bytes + take_limit l.source ≡ l.most;
  front : Consumes (take_remaining g.S.Read.remaining l.initial.source) (take_remaining g.S.Read.remaining l.source) l.bytes.items;
}
