use Rattle.std.proofs.Common.{subst, sym}
use Rattle.compiler.specs.Accepted.{HasTree}
use Rattle.compiler.proofs.front.accept.Goals as goal

pub returns-in-Ok-clause-refused_only : goal.returns-in-Ok-clause-refused_only
returns-in-Ok-clause-refused_only c = λ refused. absurd (refused _ _ (record {
  tokens = c.in_ok-tokens.tokens;
  has_tree = subst (HasTree c.args.text.now c.in_ok-tokens.tokens) (sym c.in-Ok.ensures.same) c.in_ok-tree.ensures.tree;
  checks = c.in-Ok.ensures.known;
}))
