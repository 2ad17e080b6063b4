use Rattle.elimination.proofs.tally_table.elimination_from.Given as goal

abbrev pub ghosts-leaders_by : goal.ghosts-leaders_by
ghosts-leaders_by a = record { name = a.blank.name; parts = a.blank.parts }
