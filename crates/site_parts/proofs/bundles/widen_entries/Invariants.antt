use Rattle.std.proofs.Common.{◌≡◌, ◌++◌, ◌-◌, map, take, drop, length}
use Rattle.site_parts.specs.Widened.{widened_entry}
use Rattle.site_parts.proofs.bundles.widen_entries.Given as goal

-- the entries before this one are widened
abbrev pub invariant-loop-place : goal.invariant-loop-place
invariant-loop-place l = l.entries ≡ map (widened_entry l.part) (take l.place l.initial.entries) ++ drop l.place l.initial.entries

abbrev pub decreases-loop-place : goal.decreases-loop-place
decreases-loop-place l = length l.entries - l.place
