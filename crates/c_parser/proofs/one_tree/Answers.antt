use Rattle.c_parser.proofs.OneTree.{one-tree}
use Rattle.c_parser.proofs.one_tree.Goals as goal

pub returns : goal.returns
returns c = one-tree
