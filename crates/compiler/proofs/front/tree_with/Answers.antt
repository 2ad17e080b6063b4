use Rattle.std.proofs.Common.{ap, Err}
use Rattle.compiler.proofs.front.tree_with.Goals as goal

pub returns-in-Err-Syntax-clause-refused : goal.returns-in-Err-Syntax-clause-refused
returns-in-Err-Syntax-clause-refused c = record {
  tokens = c.args.tokens.now;
  has_tokens = c.requires;
  index = c.in-Err-Syntax.index;
  item = c.in-Err-Syntax.field-0-1;
  refuses = c.in-Err-Syntax.ensures.syntax c.in-Err-Syntax.index c.in-Err-Syntax.field-0-1
      (ap (λ e. Err e) c.in-Err-Syntax.field-0-is);
  line_is = c.line_at-line.ensures;
}
