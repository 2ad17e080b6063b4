use Rattle.std.proofs.Common.{◌≡◌, ◌++◌, drop}
use Rattle.c_syntax.specs.Plain.{plain_entries}
use Rattle.sites.specs.Bodies.{entries_spots}
use Rattle.sites.proofs.statements.+push_statement.Given as goal

-- with what is left to be added it is what the whole list comes to
abbrev pub invariant-push_entries-loop-entry : goal.invariant-push_entries-loop-entry
invariant-push_entries-loop-entry l = l.spots ++ entries_spots (plain_entries (drop l.entry-index l.entries)) ≡
    l.fn.spots ++ entries_spots (plain_entries l.entries)
