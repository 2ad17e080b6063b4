use Rattle.std.proofs.Common.{◌≡◌, ◌++◌, drop}
use Rattle.lower_trees.specs.Joined.{joined_strings}
use Rattle.lower_trees.proofs.strings.joined.Given as goal

abbrev pub invariant-loop-part : goal.invariant-loop-part
invariant-loop-part l = l.bytes.items ++ joined_strings (drop l.part-index l.parts) ≡ joined_strings l.parts
