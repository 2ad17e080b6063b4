use Rattle.std.proofs.Common.{◌+◌, ◌≤◌, length, drop}
use Rattle.c_syntax.specs.Plain.{plain_entries}
use Rattle.lower_facts.specs.Facts.{facts_in, sites_in}
use Rattle.lower_relation.specs.Statements.{EntriesDo}
use Rattle.lower_relation.specs.Room.{entries_room}
use Rattle.lower_statements.specs.Exits.{exits_of}
use Rattle.lower_nodes.specs.Made.{MadeExits}
use Rattle.lower_statements.proofs.statements.+statements.Given as goal

-- the entries from this place on are put
abbrev pub invariant-emit_entries-loop-place : goal.invariant-emit_entries-loop-place
invariant-emit_entries-loop-place l =
    (l.place ≤ length l.entries)
    × MadeExits (λ G. EntriesDo G (facts_in l.facts) (sites_in l.facts) l.gives (plain_entries (drop l.place l.entries))) l.initial.graph l.graph l.first (exits_of l.exits)
    × (length l.graph ≤ length l.initial.graph + entries_room (sites_in l.facts) (plain_entries (drop l.place l.entries)))
