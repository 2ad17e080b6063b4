use Rattle.std.proofs.Common.{◌≡◌, ◌-◌, map, Ok, subst}
use Rattle.c_syntax.specs.Plain.{plain_expr}
use Rattle.c_parser_expressions.specs.Reading.{Cursor}
use Rattle.c_parser_expressions.specs.ExpressionParser.{deeper_than, assignment_by}
use Rattle.c_parser_declarations.proofs.DeclarationLoops.{braced_reads}
use Rattle.c_parser_declarations.proofs.declarations.braced.Goals as goal

pub returns : goal.returns
returns c =
    let a = c.args in
    rw (c.at-token.ensures.value, c.from_vec.ensures) (braced_reads a.depth a.reader.now c.assigned.new.reader c.items.new.reader c.end_of_list.new.reader
    (plain_expr c.in_ok-first.first) (map plain_expr c.in_ok-items.items.items) c.in_ok-comma.comma c.if-depth-eq0.false
    (subst (λ (v : Cursor). assignment_by (a.depth - 1) (deeper_than (a.depth - 1)) v ≡ Ok (plain_expr c.in_ok-first.first, c.assigned.new.reader))
    c.pass.ensures c.in_ok-first.ensures) c.in_ok-items.ensures c.in_ok-comma.ensures)
