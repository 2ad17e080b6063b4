use Rattle.c_parser.proofs.Keeping.{kept-if}
use Rattle.c_parser.proofs.OneTree.{read-as, refused-if}
use Rattle.c_parser.proofs.parse.Goals as goal

pub returns-clause-read : goal.returns-clause-read
returns-clause-read c = read-as c.args.tokens.now c.tree.result c.tree.ensures

pub returns-clause-refused : goal.returns-clause-refused
returns-clause-refused c = refused-if c.args.tokens.now c.tree.result c.tree.ensures

pub returns-clause-kept : goal.returns-clause-kept
returns-clause-kept c = kept-if c.args.tokens.now c.tree.result c.as_slice-kept.ensures.bounds c.tree.ensures
