use Rattle.std.proofs.Common.{◌≡◌, ◌<◌, drop}
use Rattle.c_syntax.specs.Words.{most_bytes, plain_entries}
use Rattle.c_types_expressions.specs.Room.{HasRoomLeft}
use Rattle.c_types_walk.specs.Room.{entries_need, entries_text}
use Rattle.c_types_walk.specs.StatementWalk.{walk_entries}
use Rattle.c_types_walk.proofs.statement_walk.+walk_statement.Given as goal

-- the walk through the entries that are left comes to what the whole walk comes to, and there is room for them
abbrev pub invariant-walk_entries-loop-entry : goal.invariant-walk_entries-loop-entry
invariant-walk_entries-loop-entry l =
    (walk_entries l.gives l.looping (plain_entries (drop l.entry-index l.entries)) l.walk ≡
    walk_entries l.gives l.looping (plain_entries l.entries) l.fn.walk)
    × HasRoomLeft (entries_need (plain_entries l.entries)) (entries_need (plain_entries (drop l.entry-index l.entries))) l.fn.walk l.walk
    × (entries_text (plain_entries (drop l.entry-index l.entries)) < most_bytes)
