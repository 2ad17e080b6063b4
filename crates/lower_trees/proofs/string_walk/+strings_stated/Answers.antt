use Rattle.std.proofs.Common.{◌++◌, ◌∙◌, ap, option_map}
use Rattle.c_syntax.specs.Plain.{plain_declaration, plain_entries, plain_entry, plain_expr, plain_for_start, plain_statement}
use Rattle.c_syntax.proofs.PlainStatements as plain
use Rattle.c_meaning.specs.Literals.{strings_begun, strings_declared, strings_entered, strings_if, strings_in, strings_stated}
use Rattle.lower_trees.proofs.Appending.{both_added, last_added, part_added}
use Rattle.lower_trees.proofs.string_walk.+strings_stated.Goals as goal
use Rattle.lower_trees.proofs.string_walk.+strings_stated.Goals.{strings_entered-in-Declaration+in_ok-strings_declared-in-Declaration, strings_entered-in-Statement+in_ok-strings_stated-in-Statement}

pub strings_stated-returns-in-Block : goal.strings_stated-returns-in-Block
strings_stated-returns-in-Block t c = rw (c.in-Block.is, plain.plain_block c.in-Block.token c.in-Block.entries) (rw c.as_slice.ensures.value at c.strings_entered.ensures)

pub strings_stated-returns-in-Expr : goal.strings_stated-returns-in-Expr
strings_stated-returns-in-Expr t c = rw (c.in-Expr.is, plain.plain_expr_statement c.in-Expr.token c.in-Expr.expr) c.strings_in.ensures

pub strings_stated-returns-in-None : goal.strings_stated-returns-in-None
strings_stated-returns-in-None t c =
    rw (c.in-If.is, c.in-None.is, plain.plain_if c.in-If.token c.in-If.condition c.in-If.first)
    (both_added _ _ _ (strings_in (plain_expr c.in-If.condition)) (strings_stated (plain_statement c.in-If.first.value))
    c.in_ok-strings_in-in-If.ensures (rw c.deref.ensures at c.in_ok-strings_stated-in-If.ensures))

pub strings_stated-returns-in-Some : goal.strings_stated-returns-in-Some
strings_stated-returns-in-Some t c =
    let a = strings_in (plain_expr c.in-If.condition) in
    let b = strings_stated (plain_statement c.in-If.first.value) in
    rw (c.in-If.is, c.in-Some.is, plain.plain_if_else c.in-If.token c.in-If.condition c.in-If.first c.in-Some.second)
    (last_added _ _ _ _ (a ++ b) (strings_stated (plain_statement c.in-Some.second.value))
    (both_added _ _ _ a b c.in_ok-strings_in-in-If.ensures (rw c.deref.ensures at c.in_ok-strings_stated-in-If.ensures)) (rw c.deref-in-Some.ensures at c.strings_stated-in-Some.ensures))

pub strings_stated-returns-in_ok-strings_in-in-While : goal.strings_stated-returns-in_ok-strings_in-in-While
strings_stated-returns-in_ok-strings_in-in-While t c =
    rw (c.in-While.is, plain.plain_while c.in-While.token c.in-While.condition c.in-While.body)
    (last_added _ _ _ _ (strings_in (plain_expr c.in-While.condition)) (strings_stated (plain_statement c.in-While.body.value))
    c.in_ok-strings_in-in-While.ensures (rw c.deref-in-While.ensures at c.strings_stated-in-While.ensures))

pub strings_stated-returns-in_ok-strings_stated-in-Do : goal.strings_stated-returns-in_ok-strings_stated-in-Do
strings_stated-returns-in_ok-strings_stated-in-Do t c =
    rw (c.in-Do.is, plain.plain_do c.in-Do.token c.in-Do.body c.in-Do.condition)
    (last_added _ _ _ _ (strings_stated (plain_statement c.in-Do.body.value)) (strings_in (plain_expr c.in-Do.condition))
    (rw c.deref-in-Do.ensures at c.in_ok-strings_stated-in-Do.ensures) c.strings_in-in-Do.ensures)

pub strings_stated-returns-in_ok-strings_if-in-For-2 : goal.strings_stated-returns-in_ok-strings_if-in-For-2
strings_stated-returns-in_ok-strings_if-in-For-2 t c =
    let a = strings_begun (plain_for_start c.in-For.start) in
    let b = strings_if (option_map plain_expr c.in-For.condition) in
    let d = strings_if (option_map plain_expr c.in-For.step) in
    rw (c.in-For.is, plain.plain_for c.in-For.token c.in-For.start c.in-For.condition c.in-For.step c.in-For.body)
    (last_added _ _ _ _ (a ++ b ++ d) (strings_stated (plain_statement c.in-For.body.value))
    (both_added _ _ _ (a ++ b) d (both_added _ _ _ a b c.in_ok-strings_begun-in-For.ensures c.in_ok-strings_if-in-For.ensures) c.in_ok-strings_if-in-For-2.ensures)
    (rw c.deref-in-For.ensures at c.strings_stated-in-For.ensures))

pub strings_stated-returns-in-Return : goal.strings_stated-returns-in-Return
strings_stated-returns-in-Return t c = rw (c.in-Return.is, plain.plain_return c.in-Return.token c.in-Return.value) c.strings_if-in-Return.ensures

pub strings_entered-loop-entry-preserved : goal.strings_entered-loop-entry-preserved
strings_entered-loop-entry-preserved t c =
    elim c.match-entry.branch [
      | strings_entered-in-Declaration+in_ok-strings_declared-in-Declaration w ↦
          part_added (λ xs. strings_entered (plain_entries xs)) c.args.entries.now c.loop-entry.entry-index c.entry-item.result
          (strings_declared (plain_declaration w.in-Declaration.declaration)) _ _ _
          (λ rest. ap (λ y. strings_entered (plain_entry y (plain_entries rest))) w.in-Declaration.is
          ∙ ap strings_entered (plain.plain_declared_before w.in-Declaration.declaration (plain_entries rest)))
          c.loop-entry-test.true c.entry-item.is (w.strings-is ∙ w.in_ok-strings_declared-in-Declaration.ensures) c.loop-entry.invariant
      | strings_entered-in-Statement+in_ok-strings_stated-in-Statement w ↦
          part_added (λ xs. strings_entered (plain_entries xs)) c.args.entries.now c.loop-entry.entry-index c.entry-item.result
          (strings_stated (plain_statement w.in-Statement.statement)) _ _ _
          (λ rest. ap (λ y. strings_entered (plain_entry y (plain_entries rest))) w.in-Statement.is
          ∙ ap strings_entered (plain.plain_stated_before w.in-Statement.statement (plain_entries rest)))
          c.loop-entry-test.true c.entry-item.is (w.strings-is ∙ w.in_ok-strings_stated-in-Statement.ensures) c.loop-entry.invariant
    ]
