use Rattle.std.proofs.Common.{rules, sym, ◌∙◌}
use Rattle.lower_nodes.proofs.Taking.{load_pointed, load_single}
use Rattle.lower_nodes.proofs.purpose.put_load_through.Goals as goal

pub returns-clause-made : goal.returns-clause-made
returns-clause-made c = load_pointed c.args.of _ _ _ _ _ _ (search rules) c.in_ok-load.ensures.made c.in_ok-i.ensures.made

pub returns-then-is_single-clause-made : goal.returns-then-is_single-clause-made
returns-then-is_single-clause-made c = load_single c.args.of _ _ _ _ (sym c.is_single.ensures ∙ c.if-is_single.true) c.in_ok-load.ensures.made
