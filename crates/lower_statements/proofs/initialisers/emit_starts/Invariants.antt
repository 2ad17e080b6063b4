use Rattle.std.proofs.Common.{◌+◌, ◌≤◌, length, drop, map}
use Rattle.c_syntax.specs.Plain.{plain_start}
use Rattle.lower_facts.specs.Facts.{facts_in, sites_in}
use Rattle.lower_relation.specs.Initialisers.{VariablesStart}
use Rattle.std.specs.List.{sum_by}
use Rattle.lower_relation.specs.Room.{start_room}
use Rattle.lower_nodes.specs.Made.{Made}
use Rattle.lower_statements.proofs.initialisers.emit_starts.Given as goal

-- the variables from this place on are put
abbrev pub invariant-loop-place : goal.invariant-loop-place
invariant-loop-place l =
    (l.place ≤ length l.starts)
    × Made (λ G. VariablesStart G (facts_in l.facts) (sites_in l.facts) (map plain_start (drop l.place l.starts))) l.initial.graph l.graph l.first l.next
    × (length l.graph ≤ length l.initial.graph + sum_by (start_room (sites_in l.facts)) (map plain_start (drop l.place l.starts)))
