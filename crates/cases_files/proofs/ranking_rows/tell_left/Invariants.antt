use Rattle.cases_files.proofs.ranking_rows.tell_left.Given as goal

abbrev pub ghosts-push_left_by : goal.ghosts-push_left_by
ghosts-push_left_by a = record { name = a.blank.name; parts = a.blank.parts }
