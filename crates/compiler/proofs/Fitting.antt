-- The tree of an accepted text keeps what its tokens do, and is a whole text.
use Rattle.std.proofs.Common.{ℕ, List}
use Rattle.c_syntax.specs.Words.{SourceTree, IsKeptTree}
use Rattle.c_types_expressions.specs.declared.walk.Walk.{Walk}
use Rattle.c_parser.proofs.Keeping.{kept-tree}
use Rattle.lower_fits.specs.Ready.{IsWholeText}
use Rattle.lower_fits.proofs.Whole.{kept_whole}
use Rattle.compiler.specs.Accepted.{IsAccepted}

pub tree_kept : (text : List ℕ) (tree : SourceTree) (known : Walk) → IsAccepted text tree known → IsKeptTree tree
tree_kept text tree known h = kept-tree h.tokens tree h.has_tree.has_tokens.keeps h.has_tree.is_tree

pub tree_whole : (text : List ℕ) (tree : SourceTree) (known : Walk) → IsAccepted text tree known → IsWholeText tree known
tree_whole text tree known h = kept_whole tree known (tree_kept text tree known h) h.checks
