use Rattle.c_grammar.proofs.the_grammar_has_the_well_formed_trees.Goals as goal
use Rattle.c_grammar.proofs.Trees.{tree-has, tree-is}

pub returns : goal.returns
returns c = record { is = tree-is; has = tree-has }
