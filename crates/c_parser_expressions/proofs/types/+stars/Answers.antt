use Rattle.std.proofs.Common.{◌≡◌, ℕ, ◌-◌, sym, ◌∙◌, subst}
use Rattle.c_parser_expressions.specs.Reading.{Cursor}
use Rattle.c_parser_expressions.specs.ExpressionParser.{the_stars}
use Rattle.c_parser_expressions.proofs.Depths.{stars_more}
use Rattle.c_parser_expressions.proofs.types.+stars.Goals as goal

pub returns-clause-all : goal.returns-clause-all
returns-clause-all t c =
    let a = c.args in
    stars_more a.most c.stars.result a.reader.now c.stars.new.reader c.if-most-eq0.false (sym c.stands.ensures ∙ c.if-not-stands.false)
    (subst (λ (v : Cursor). ◌≡◌ {A = ℕ × Cursor} (the_stars (a.most - 1) v) (c.stars.result, c.stars.new.reader)) c.pass.ensures c.stars.ensures.all)
