use Rattle.std.proofs.Common.{◌≡◌, ◌++◌, drop}
use Rattle.std.specs.Prelude.{map}
use Rattle.c_syntax.specs.Plain.{plain_start}
use Rattle.lower_trees.specs.Joined.{strings_of_starts}
use Rattle.lower_trees.proofs.string_walk.strings_of_starts.Given as goal

abbrev pub invariant-loop-start : goal.invariant-loop-start
invariant-loop-start l = l.strings ++ strings_of_starts (map plain_start (drop l.start-index l.starts)) ≡ l.fn.strings ++ strings_of_starts (map plain_start l.starts)
