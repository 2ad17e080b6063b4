use Rattle.std.proofs.Common.{◌+◌, ◌≤◌, length, drop}
use Rattle.c_syntax.specs.Plain.{plain_exprs}
use Rattle.lower_facts.specs.Facts.{facts_in, sites_in}
use Rattle.lower_relation.specs.Initialisers.{ElementsSet}
use Rattle.lower_relation.specs.Room.{exprs_room}
use Rattle.lower_nodes.specs.Made.{Made}
use Rattle.lower_statements.proofs.initialisers.emit_elements.Given as goal

-- the elements from this place on are put
abbrev pub invariant-loop-place : goal.invariant-loop-place
invariant-loop-place l =
    (l.place ≤ length l.items)
    × Made (λ G. ElementsSet G (facts_in l.facts) (sites_in l.facts) l.token l.place (plain_exprs (drop l.place l.items))) l.initial.graph l.graph l.first l.next
    × (length l.graph ≤ length l.initial.graph + exprs_room (sites_in l.facts) 8 (plain_exprs (drop l.place l.items)))
