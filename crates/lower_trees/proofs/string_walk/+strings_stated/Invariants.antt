use Rattle.std.proofs.Common.{◌≡◌, ◌++◌, drop}
use Rattle.c_syntax.specs.Plain.{plain_entries}
use Rattle.c_meaning.specs.Literals.{strings_entered}
use Rattle.lower_trees.proofs.string_walk.+strings_stated.Given as goal

abbrev pub invariant-strings_entered-loop-entry : goal.invariant-strings_entered-loop-entry
invariant-strings_entered-loop-entry l = l.strings ++ strings_entered (plain_entries (drop l.entry-index l.entries)) ≡ l.fn.strings ++ strings_entered (plain_entries l.entries)
