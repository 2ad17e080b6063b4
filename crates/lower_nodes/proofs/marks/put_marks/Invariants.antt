use Rattle.std.proofs.Common.{◌≤◌, ◌+◌, length, drop}
use Rattle.lower_relation.specs.Paths.{MarksAll}
use Rattle.lower_nodes.specs.Made.{Made}
use Rattle.lower_nodes.proofs.marks.put_marks.Given as goal

-- the marks from this place on are put
abbrev pub invariant-loop-place : goal.invariant-loop-place
invariant-loop-place l =
    (l.place ≤ length l.sites)
    × Made (λ G. MarksAll G (drop l.place l.sites)) l.initial.graph l.graph l.first l.next
    × (length l.graph + l.place ≤ length l.initial.graph + length l.sites)
