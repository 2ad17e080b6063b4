-- A text that is compiled is accepted by the grammar.
use Rattle.std.specs.Prelude.{ℕ, List}
use Rattle.c_syntax.specs.ItemTree.{SourceTree}
use Rattle.c_grammar.proofs.Trees.{tree-has}
use Rattle.c_types_expressions.specs.declared.walk.Walk.{Walk}
use Rattle.compiler.specs.Accepted as compiled
use Rattle.executable.specs.Accepted.{IsAcceptedText}

pub by-grammar : {text : List ℕ} {tree : SourceTree} {known : Walk} → compiled.IsAccepted text tree known → IsAcceptedText text tree known
by-grammar {tree = tree} is =
    let parsed = is.has_tree.is_tree in record {
      tokens = is.tokens;
      has_tokens = is.has_tree.has_tokens;
      is_tree = tree-has is.tokens tree parsed.well_formed parsed.kinds parsed.lines;
      checks = is.checks;
    }
