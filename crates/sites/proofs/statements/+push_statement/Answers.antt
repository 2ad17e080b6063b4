use denote.Param.Weighed.{at_most}
use Rattle.std.proofs.Common.{[], ◌∷◌, ◌+◌, ◌++◌, ◌∙◌, ap, append_assoc, arith, drop, option_map, rules, sym}
use Rattle.std.proofs.lemmas.List.{at_drop_more}
use Rattle.std.proofs.lemmas.Result.{IfOk-equal}
use Rattle.c_syntax.specs.Plain.{plain_declaration, plain_entries, plain_entry, plain_expr, plain_for_start, plain_statement}
use Rattle.c_syntax.proofs.PlainStatements as plain
use Rattle.flow.specs.declared.site.BranchWord.TheVariants.{Do, If, While}
use Rattle.sites.specs.declared.spots.Spot.TheVariants as spot
use Rattle.sites.specs.Bodies.{declaration_spots, entries_spots, for_spots, for_start_spots, statement_spots}
use Rattle.sites.specs.Spots.{expr_spots, part_spots}
use Rattle.c_syntax.specs.declared.statement.Entry.{the_lemmas}
use Rattle.c_syntax.proofs.statement.Entry.TheLaws.{the_size}
use Rattle.sites.proofs.Parting.{do_body, each_declared, each_stated, for_body, for_start, if_first, if_second, while_body}
use Rattle.sites.proofs.statements.+push_statement.Goals as goal
use Rattle.sites.proofs.statements.+push_statement.Goals.{push_entries-in-Declaration+in_ok-push_declaration-in-Declaration, push_entries-in-Statement+in_ok-push_statement-in-Statement}

pub push_entries-push_declaration-requires : goal.push_entries-push_declaration-requires
push_entries-push_declaration-requires t c =
    each_declared c.args.entries.now c.loop-entry.entry-index c.entry-item.result c.in-Declaration.declaration c.loop-entry-test.true c.entry-item.is
    c.in-Declaration.is c.requires

pub push_entries-push_statement-requires : goal.push_entries-push_statement-requires
push_entries-push_statement-requires t c = (
  omega (
    arith,
    ap the_size c.entry-item.is,
    at_most the_size c.args.entries.now c.loop-entry.entry-index c.entry-item.result c.loop-entry-test.true,
    simp the_lemmas at (ap the_size c.in-Statement.is),
  ),
  each_stated c.args.entries.now c.loop-entry.entry-index c.entry-item.result c.in-Statement.statement c.loop-entry-test.true c.entry-item.is
      c.in-Statement.is c.requires,
)

pub push_statement-push_statement-requires : goal.push_statement-push_statement-requires
push_statement-push_statement-requires t c = (
  search (rules, the_lemmas),
  rw c.deref.ensures (if_first c.in-If.token c.in-If.condition c.in-If.first c.in-If.second (rw c.in-If.is at c.requires)),
)

pub push_statement-push_statement-requires-in-Some : goal.push_statement-push_statement-requires-in-Some
push_statement-push_statement-requires-in-Some t c = (
  search (rules, the_lemmas),
  rw c.deref-in-Some.ensures (if_second c.in-If.token c.in-If.condition c.in-If.first c.in-Some.second (rw (c.in-If.is, c.in-Some.is) at c.requires)),
)

pub push_statement-push_statement-requires-in-While : goal.push_statement-push_statement-requires-in-While
push_statement-push_statement-requires-in-While t c = (
  search (rules, the_lemmas),
  rw c.deref-in-While.ensures (while_body c.in-While.token c.in-While.condition c.in-While.body (rw c.in-While.is at c.requires)),
)

pub push_statement-push_statement-requires-in-Do : goal.push_statement-push_statement-requires-in-Do
push_statement-push_statement-requires-in-Do t c = (
  search (rules, the_lemmas),
  rw c.deref-in-Do.ensures (do_body c.in-Do.token c.in-Do.body c.in-Do.condition (rw c.in-Do.is at c.requires)),
)

pub push_statement-push_for_start-requires : goal.push_statement-push_for_start-requires
push_statement-push_for_start-requires t c =
    for_start c.in-For.token c.in-For.start c.in-For.condition c.in-For.step c.in-For.body (rw c.in-For.is at c.requires)

pub push_statement-push_statement-requires-in-For : goal.push_statement-push_statement-requires-in-For
push_statement-push_statement-requires-in-For t c = (
  search (rules, the_lemmas),
  rw c.deref-in-For.ensures (for_body c.in-For.token c.in-For.start c.in-For.condition c.in-For.step c.in-For.body (rw c.in-For.is at c.requires)),
)

pub push_statement-returns-in-Block : goal.push_statement-returns-in-Block
push_statement-returns-in-Block t c = rw (c.in-Block.is, plain.plain_block c.in-Block.token c.in-Block.entries) (rw c.as_slice.ensures.value at c.push_entries.ensures)

pub push_statement-returns-in-Expr : goal.push_statement-returns-in-Expr
push_statement-returns-in-Expr t c = rw (c.in-Expr.is, plain.plain_expr_statement c.in-Expr.token c.in-Expr.expr) c.push_expr.ensures

pub push_statement-returns-in-None : goal.push_statement-returns-in-None
push_statement-returns-in-None t c =
    let branch = spot.Branch c.in-If.token If ∷ [] in
    let condition = expr_spots (plain_expr c.in-If.condition) in
    let first = statement_spots (plain_statement c.in-If.first.value) in
    rw (c.in-If.is, c.in-None.is, plain.plain_if c.in-If.token c.in-If.condition c.in-If.first)
    ((rw c.deref.ensures at c.in_ok-push_statement-in-If.ensures)
    ∙ ap (λ l. l ++ first) (c.in_ok-push_expr-in-If.ensures ∙ ap (λ l. l ++ condition) c.in_ok-push_branch-in-If.ensures ∙ append_assoc _ branch condition)
    ∙ append_assoc _ (branch ++ condition) first)

pub push_statement-returns-in-Some : goal.push_statement-returns-in-Some
push_statement-returns-in-Some t c =
    let branch = spot.Branch c.in-If.token If ∷ [] in
    let condition = expr_spots (plain_expr c.in-If.condition) in
    let first = statement_spots (plain_statement c.in-If.first.value) in
    let second = statement_spots (plain_statement c.in-Some.second.value) in
    rw (c.in-If.is, c.in-Some.is, plain.plain_if_else c.in-If.token c.in-If.condition c.in-If.first c.in-Some.second)
    (IfOk-equal _ _ _ _ (rw c.deref-in-Some.ensures at c.push_statement-in-Some.ensures)
    (ap (λ l. l ++ second) ((rw c.deref.ensures at c.in_ok-push_statement-in-If.ensures)
    ∙ ap (λ l. l ++ first) (c.in_ok-push_expr-in-If.ensures ∙ ap (λ l. l ++ condition) c.in_ok-push_branch-in-If.ensures ∙ append_assoc _ branch condition)
    ∙ append_assoc _ (branch ++ condition) first) ∙ append_assoc _ (branch ++ condition ++ first) second))

pub push_statement-returns-in_ok-push_expr-in-While : goal.push_statement-returns-in_ok-push_expr-in-While
push_statement-returns-in_ok-push_expr-in-While t c =
    let branch = spot.Branch c.in-While.token While ∷ [] in
    let condition = expr_spots (plain_expr c.in-While.condition) in
    let body = statement_spots (plain_statement c.in-While.body.value) in
    rw (c.in-While.is, plain.plain_while c.in-While.token c.in-While.condition c.in-While.body)
    (IfOk-equal _ _ _ _ (rw c.deref-in-While.ensures at c.push_statement-in-While.ensures)
    (ap (λ l. l ++ body) (c.in_ok-push_expr-in-While.ensures ∙ ap (λ l. l ++ condition) c.in_ok-push_branch-in-While.ensures ∙ append_assoc _ branch condition)
    ∙ append_assoc _ (branch ++ condition) body))

pub push_statement-returns-in_ok-push_statement-in-Do : goal.push_statement-returns-in_ok-push_statement-in-Do
push_statement-returns-in_ok-push_statement-in-Do t c =
    let branch = spot.Branch c.in-Do.token Do ∷ [] in
    let body = statement_spots (plain_statement c.in-Do.body.value) in
    let condition = expr_spots (plain_expr c.in-Do.condition) in
    rw (c.in-Do.is, plain.plain_do c.in-Do.token c.in-Do.body c.in-Do.condition)
    (IfOk-equal _ _ _ _ c.push_expr-in-Do.ensures
    (ap (λ l. l ++ condition) ((rw c.deref-in-Do.ensures at c.in_ok-push_statement-in-Do.ensures)
    ∙ ap (λ l. l ++ body) c.in_ok-push_branch-in-Do.ensures ∙ append_assoc _ branch body) ∙ append_assoc _ (branch ++ body) condition))

pub push_statement-returns-in_ok-push_part-in-For-2 : goal.push_statement-returns-in_ok-push_part-in-For-2
push_statement-returns-in_ok-push_part-in-For-2 t c =
    let branch = for_spots c.in-For.token (option_map plain_expr c.in-For.condition) in
    let start = for_start_spots (plain_for_start c.in-For.start) in
    let condition = part_spots (option_map plain_expr c.in-For.condition) in
    let step = part_spots (option_map plain_expr c.in-For.step) in
    let body = statement_spots (plain_statement c.in-For.body.value) in
    rw (c.in-For.is, plain.plain_for c.in-For.token c.in-For.start c.in-For.condition c.in-For.step c.in-For.body)
    (IfOk-equal _ _ _ _ (rw c.deref-in-For.ensures at c.push_statement-in-For.ensures)
    (ap (λ l. l ++ body) (c.in_ok-push_part-in-For-2.ensures
    ∙ ap (λ l. l ++ step) (c.in_ok-push_part-in-For.ensures
    ∙ ap (λ l. l ++ condition) (c.in_ok-push_for_start-in-For.ensures ∙ ap (λ l. l ++ start) c.in_ok-push_for-in-For.ensures ∙ append_assoc _ branch start)
    ∙ append_assoc _ (branch ++ start) condition) ∙ append_assoc _ (branch ++ start ++ condition) step)
    ∙ append_assoc _ (branch ++ start ++ condition ++ step) body))

pub push_statement-returns-in-Return : goal.push_statement-returns-in-Return
push_statement-returns-in-Return t c = rw (c.in-Return.is, plain.plain_return c.in-Return.token c.in-Return.value) c.push_part-in-Return.ensures

pub push_entries-loop-entry-preserved : goal.push_entries-loop-entry-preserved
push_entries-loop-entry-preserved t c =
    let left = drop (c.loop-entry.entry-index + 1) c.args.entries.now in
    let rest = entries_spots (plain_entries left) in
    let step = ap (λ x. entries_spots (plain_entries (x ∷ left))) c.entry-item.is
    ∙ sym (at_drop_more (λ xs. entries_spots (plain_entries xs)) c.args.entries.now c.loop-entry.entry-index c.entry-item.result c.loop-entry-test.true) in
    elim c.match-entry.branch [
      | push_entries-in-Declaration+in_ok-push_declaration-in-Declaration w ↦
          ap (λ l. l ++ rest) (w.spots-is ∙ w.in_ok-push_declaration-in-Declaration.ensures)
          ∙ append_assoc _ (declaration_spots (plain_declaration w.in-Declaration.declaration)) rest
          ∙ ap (λ l. c.loop-entry.spots ++ l) (sym (ap (λ y. entries_spots (plain_entry y (plain_entries left))) w.in-Declaration.is
          ∙ ap entries_spots (plain.plain_declared_before w.in-Declaration.declaration (plain_entries left))) ∙ step)
          ∙ c.loop-entry.invariant
      | push_entries-in-Statement+in_ok-push_statement-in-Statement w ↦
          ap (λ l. l ++ rest) (w.spots-is ∙ w.in_ok-push_statement-in-Statement.ensures)
          ∙ append_assoc _ (statement_spots (plain_statement w.in-Statement.statement)) rest
          ∙ ap (λ l. c.loop-entry.spots ++ l) (sym (ap (λ y. entries_spots (plain_entry y (plain_entries left))) w.in-Statement.is
          ∙ ap entries_spots (plain.plain_stated_before w.in-Statement.statement (plain_entries left))) ∙ step)
          ∙ c.loop-entry.invariant
    ]
