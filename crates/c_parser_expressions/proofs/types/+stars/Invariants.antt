use Rattle.c_parser_expressions.proofs.types.+stars.Given as goal

abbrev pub decreases-stars : goal.decreases-stars
decreases-stars l = l.most
