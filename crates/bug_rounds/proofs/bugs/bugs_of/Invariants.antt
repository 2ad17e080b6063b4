use Rattle.bug_rounds.proofs.bugs.bugs_of.Given as goal

abbrev pub ghosts-bugs_by : goal.ghosts-bugs_by
ghosts-bugs_by a = record { name = a.blank.name; parts = a.blank.parts }
