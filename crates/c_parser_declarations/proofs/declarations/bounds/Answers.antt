use Rattle.std.proofs.Common.{◌≡◌, true, Ok, sym, ◌∙◌, subst}
use Rattle.c_syntax.specs.declared.token.Sign.TheVariants as sign_is
use Rattle.c_parser_expressions.specs.Reading.{Cursor}
use Rattle.c_parser_expressions.specs.Marks.{begins_with_sign}
use Rattle.c_parser_declarations.specs.DeclarationParser.{the_bound, the_bounds}
use Rattle.c_parser_declarations.proofs.DeclarationLoops.{bounds_more}
use Rattle.c_parser_declarations.proofs.declarations.bounds.Goals as goal

pub bounds-preserved : goal.bounds-preserved
bounds-preserved c =
    let h : begins_with_sign sign_is.LeftBracket c.bounds.reader.rest ≡ true = sym c.stands.ensures ∙ c.if-stands.true in
    let read : the_bound c.pass.new.self ≡ Ok (c.in_ok-bound.field-0, c.bound.new.reader) = c.in_ok-bound.ensures in
    bounds_more c.bounds.left c.bounds.reader c.bound.new.reader c.bounds.bounds.items c.push.new.self.items c.in_ok-bound.field-0
    (the_bounds c.args.most c.args.reader.now) c.bounds.invariant c.bounds-test.true h
    (subst (λ (v : Cursor). the_bound v ≡ Ok (c.in_ok-bound.field-0, c.bound.new.reader)) c.pass.ensures read) c.in_ok-push.ensures.items
