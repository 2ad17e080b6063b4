use Rattle.std.proofs.Common.{◌≡◌, ◌-◌, length}
use Rattle.c_types.specs.Answers.{known_of}
use Rattle.sites.specs.Near.{places_with_scope_left}
use Rattle.sites.proofs.noted.see_more.Given as goal

-- those of the variables seen so far
abbrev pub invariant-loop-near : goal.invariant-loop-near
invariant-loop-near l = l.near.items ≡ places_with_scope_left (known_of l.checked) l.begin l.seen

abbrev pub decreases-loop-near : goal.decreases-loop-near
decreases-loop-near l = length l.firsts - l.seen
