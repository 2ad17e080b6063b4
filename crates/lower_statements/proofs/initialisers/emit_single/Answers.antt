use Rattle.std.proofs.Common.{sym, ◌∙◌}
use Rattle.c_syntax.specs.Plain.{plain_expr}
use Rattle.lower_facts.specs.Facts.{facts_in, sites_in}
use Rattle.lower_statements.proofs.Zeroing.{by_string, by_value}
use Rattle.lower_statements.proofs.initialisers.emit_single.Goals as goal

pub returns-then-is_array-clause-made : goal.returns-then-is_array-clause-made
returns-then-is_array-clause-made c =
    by_string (facts_in c.args.facts.now) (sites_in c.args.facts.now) c.args.token _ (plain_expr c.args.x.now) _ _ _ _
    (rw c.declared_at.ensures at (sym c.is_array.ensures ∙ c.if-is_array.true)) c.in_ok-i.ensures.made

pub returns-clause-made : goal.returns-clause-made
returns-clause-made c =
    by_value (facts_in c.args.facts.now) (sites_in c.args.facts.now) c.args.token _ (plain_expr c.args.x.now) _ _ _ _
    (rw c.declared_at.ensures at (sym c.is_array.ensures ∙ c.if-is_array.false)) c.in_ok-i-2.ensures.made
