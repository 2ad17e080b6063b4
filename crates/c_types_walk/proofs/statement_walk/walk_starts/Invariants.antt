use Rattle.std.proofs.Common.{◌≡◌, ◌<◌, map, drop}
use Rattle.c_syntax.specs.Words.{most_bytes, plain_start}
use Rattle.c_types_expressions.specs.Room.{HasRoomLeft}
use Rattle.c_types_walk.specs.Room.{starts_need, starts_text}
use Rattle.c_types_walk.specs.StatementWalk.{walk_starts}
use Rattle.c_types_walk.proofs.statement_walk.walk_starts.Given as goal

-- the walk through the variables that are left comes to what the whole walk comes to, and there is room for them
abbrev pub invariant-loop-start : goal.invariant-loop-start
invariant-loop-start l =
    (walk_starts l.global l.base (map plain_start (drop l.start-index l.starts)) l.walk ≡ walk_starts l.global l.base (map plain_start l.starts) l.fn.walk)
    × HasRoomLeft (starts_need (map plain_start l.starts)) (starts_need (map plain_start (drop l.start-index l.starts))) l.fn.walk l.walk
    × (starts_text (map plain_start (drop l.start-index l.starts)) < most_bytes)
