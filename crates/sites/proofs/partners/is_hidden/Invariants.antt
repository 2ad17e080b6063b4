use Rattle.std.proofs.Common.{◌≡◌, length}
use Rattle.c_types.specs.Answers.{known_of}
use Rattle.sites.specs.Near.{hidden_among}
use Rattle.sites.proofs.partners.is_hidden.Given as goal

-- those that are left tell as much as all
abbrev pub invariant-loop-left : goal.invariant-loop-left
invariant-loop-left l = hidden_among (known_of l.checked) l.token l.name l.left ≡ hidden_among (known_of l.checked) l.token l.name l.places

abbrev pub decreases-loop-left : goal.decreases-loop-left
decreases-loop-left l = length l.left
