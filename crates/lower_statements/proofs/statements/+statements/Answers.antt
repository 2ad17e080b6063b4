use denote.Param.Weighed.{at_most}
use Rattle.std.proofs.Common.{◌≡◌, ◌+◌, ◌-◌, ◌<◌, ap, drop, length, arith, option_map, subst, sym}
use Rattle.c_syntax.proofs.statement.Entry.TheLaws.{the_size}
use Rattle.c_syntax.specs.Plain.{plain_entries, plain_expr, plain_for_start, plain_second, plain_statement}
use Rattle.c_syntax.proofs.PlainStatements as plain
use Rattle.lower_relation.specs.Expressions.{Condition}
use Rattle.lower_relation.specs.Statements.{ForLoop, ForStartPath, OptionalCondition, OptionalEffect, StatementDoes, EntriesDo}
use Rattle.lower_nodes.specs.Made.{MadeExits}
use Rattle.lower_facts.specs.Facts.{facts_in, sites_in}
use Rattle.lower_statements.specs.Exits.{SecondRuns, exits_of}
use Rattle.lower_nodes.proofs.Building.{then_made}
use Rattle.lower_statements.proofs.Looping.{again_below, break_made, continue_made, declared_made, do_made, do_parts, empty_made, entries_none, entries_step, for_made, for_parts, branch_made, stated_made, while_made, while_parts}
use Rattle.lower_statements.proofs.Rooms.{entries_more, entries_rest}
use Rattle.lower_statements.proofs.statements.+statements.Goals as goal

pub emit_while-returns-clause-made : goal.emit_while-returns-clause-made
emit_while-returns-clause-made t c =
    while_made (λ G. Condition G (facts_in c.args.facts.now) (sites_in c.args.facts.now) c.args.token (plain_expr c.args.condition.now))
    (λ G. StatementDoes G (facts_in c.args.facts.now) (sites_in c.args.facts.now) c.args.gives (plain_statement c.args.body.now)) _ _ _ _ _ _ _ _ (exits_of c.args.exits)
    c.in_ok-again.ensures.number c.in_ok-again.ensures.added (rw c.within_loop.ensures at c.in_ok-inside.ensures.made) c.in_ok-head.ensures.made c.aim.ensures.aimed

pub emit_while-aim-requires : goal.emit_while-aim-requires
emit_while-aim-requires t c =
    again_below _ _ _ _ _ _ _ c.in_ok-again.ensures.number c.in_ok-again.ensures.added
    (while_parts (λ G. Condition G (facts_in c.args.facts.now) (sites_in c.args.facts.now) c.args.token (plain_expr c.args.condition.now))
    (λ G. StatementDoes G (facts_in c.args.facts.now) (sites_in c.args.facts.now) c.args.gives (plain_statement c.args.body.now)) _ _ _ _ _ _ (exits_of c.args.exits)
    (rw c.within_loop.ensures at c.in_ok-inside.ensures.made) c.in_ok-head.ensures.made)

pub emit_do-returns-clause-made : goal.emit_do-returns-clause-made
emit_do-returns-clause-made t c =
    do_made (λ G. Condition G (facts_in c.args.facts.now) (sites_in c.args.facts.now) c.args.token (plain_expr c.args.condition.now))
    (λ G. StatementDoes G (facts_in c.args.facts.now) (sites_in c.args.facts.now) c.args.gives (plain_statement c.args.body.now)) _ _ _ _ _ _ _ _ (exits_of c.args.exits)
    c.in_ok-again.ensures.number c.in_ok-again.ensures.added c.in_ok-test.ensures.made (rw c.within_loop.ensures at c.in_ok-head.ensures.made) c.aim.ensures.aimed

pub emit_do-aim-requires : goal.emit_do-aim-requires
emit_do-aim-requires t c =
    again_below _ _ _ _ _ _ _ c.in_ok-again.ensures.number c.in_ok-again.ensures.added
    (do_parts (λ G. Condition G (facts_in c.args.facts.now) (sites_in c.args.facts.now) c.args.token (plain_expr c.args.condition.now))
    (λ G. StatementDoes G (facts_in c.args.facts.now) (sites_in c.args.facts.now) c.args.gives (plain_statement c.args.body.now)) _ _ _ _ _ _ (exits_of c.args.exits)
    c.in_ok-test.ensures.made (rw c.within_loop.ensures at c.in_ok-head.ensures.made))

pub emit_for-returns-clause-made : goal.emit_for-returns-clause-made
emit_for-returns-clause-made t c =
    for_made (λ G. OptionalCondition G (facts_in c.args.facts.now) (sites_in c.args.facts.now) c.args.token (option_map plain_expr c.args.condition.now))
    (λ G. OptionalEffect G (facts_in c.args.facts.now) (sites_in c.args.facts.now) (option_map plain_expr c.args.step.now))
    (λ G. StatementDoes G (facts_in c.args.facts.now) (sites_in c.args.facts.now) c.args.gives (plain_statement c.args.body.now)) _ _ _ _ _ _ _ _ _ _ (exits_of c.args.exits)
    c.in_ok-again.ensures.number c.in_ok-again.ensures.added c.in_ok-stepped.ensures.made (rw c.within_loop.ensures at c.in_ok-inside.ensures.made) c.in_ok-head.ensures.made c.aim.ensures.aimed

pub emit_for-aim-requires : goal.emit_for-aim-requires
emit_for-aim-requires t c =
    again_below _ _ _ _ _ _ _ c.in_ok-again.ensures.number c.in_ok-again.ensures.added
    (for_parts (λ G. OptionalCondition G (facts_in c.args.facts.now) (sites_in c.args.facts.now) c.args.token (option_map plain_expr c.args.condition.now))
    (λ G. OptionalEffect G (facts_in c.args.facts.now) (sites_in c.args.facts.now) (option_map plain_expr c.args.step.now))
    (λ G. StatementDoes G (facts_in c.args.facts.now) (sites_in c.args.facts.now) c.args.gives (plain_statement c.args.body.now)) _ _ _ _ _ _ _ _ (exits_of c.args.exits)
    c.in_ok-stepped.ensures.made (rw c.within_loop.ensures at c.in_ok-inside.ensures.made) c.in_ok-head.ensures.made)

pub emit_statement-returns-in-While-clause-made : goal.emit_statement-returns-in-While-clause-made
emit_statement-returns-in-While-clause-made t c =
    rw (c.in-While.is, plain.plain_while c.in-While.token c.in-While.condition c.in-While.body) (rw c.deref-in-While.ensures at c.emit_while.ensures.made)

pub emit_statement-returns-in-Do-clause-made : goal.emit_statement-returns-in-Do-clause-made
emit_statement-returns-in-Do-clause-made t c =
    rw (c.in-Do.is, plain.plain_do c.in-Do.token c.in-Do.body c.in-Do.condition) (rw c.deref-in-Do.ensures at c.emit_do.ensures.made)

pub emit_statement-returns-in_ok-i-in-For-clause-made : goal.emit_statement-returns-in_ok-i-in-For-clause-made
emit_statement-returns-in_ok-i-in-For-clause-made t c =
    rw (c.in-For.is, plain.plain_for c.in-For.token c.in-For.start c.in-For.condition c.in-For.step c.in-For.body)
    (then_made (λ G. ForStartPath G (facts_in c.args.facts.now) (sites_in c.args.facts.now) (plain_for_start c.in-For.start))
    (λ G. ForLoop G (OptionalCondition G (facts_in c.args.facts.now) (sites_in c.args.facts.now) c.in-For.token (option_map plain_expr c.in-For.condition))
    (OptionalEffect G (facts_in c.args.facts.now) (sites_in c.args.facts.now) (option_map plain_expr c.in-For.step))
    (StatementDoes G (facts_in c.args.facts.now) (sites_in c.args.facts.now) c.args.gives (plain_statement c.in-For.body.value)))
    _ _ _ _ _ (exits_of c.args.exits) (rw c.deref-in-For.ensures at c.in_ok-head-in-For.ensures.made) c.in_ok-i-in-For.ensures.made)

pub emit_entry-returns-in_ok-i-in-Declaration-clause-made : goal.emit_entry-returns-in_ok-i-in-Declaration-clause-made
emit_entry-returns-in_ok-i-in-Declaration-clause-made t c =
    rw c.in-Declaration.is (declared_made (facts_in c.args.facts.now) (sites_in c.args.facts.now) c.args.gives c.in-Declaration.declaration _ _ _ (exits_of c.args.exits)
    c.in_ok-i-in-Declaration.ensures.made)

pub emit_entry-returns-in_ok-i-in-Statement-clause-made : goal.emit_entry-returns-in_ok-i-in-Statement-clause-made
emit_entry-returns-in_ok-i-in-Statement-clause-made t c =
    rw c.in-Statement.is (stated_made (facts_in c.args.facts.now) (sites_in c.args.facts.now) c.args.gives c.in-Statement.statement _ _ _ (exits_of c.args.exits)
    c.in_ok-i-in-Statement.ensures.made)

pub emit_statement-returns-in-Block-clause-made : goal.emit_statement-returns-in-Block-clause-made
emit_statement-returns-in-Block-clause-made t c =
    rw (c.in-Block.is, plain.plain_block c.in-Block.token c.in-Block.entries) (rw c.as_slice.ensures.value at c.emit_entries.ensures.made)

pub emit_statement-returns-in-Empty-clause-made : goal.emit_statement-returns-in-Empty-clause-made
emit_statement-returns-in-Empty-clause-made t c =
    rw (c.in-Empty.is, plain.plain_empty c.in-Empty.token) (empty_made (facts_in c.args.facts.now) (sites_in c.args.facts.now) c.args.gives c.in-Empty.token _ (exits_of c.args.exits))

pub emit_statement-returns-in-Break-clause-made : goal.emit_statement-returns-in-Break-clause-made
emit_statement-returns-in-Break-clause-made t c =
    rw (c.in-Break.is, plain.plain_break c.in-Break.token) (break_made (facts_in c.args.facts.now) (sites_in c.args.facts.now) c.args.gives c.in-Break.token _ (exits_of c.args.exits))

pub emit_statement-returns-in-Continue-clause-made : goal.emit_statement-returns-in-Continue-clause-made
emit_statement-returns-in-Continue-clause-made t c =
    rw (c.in-Continue.is, plain.plain_continue c.in-Continue.token) (continue_made (facts_in c.args.facts.now) (sites_in c.args.facts.now) c.args.gives c.in-Continue.token _ (exits_of c.args.exits))

pub emit_entries-loop-place-init : goal.emit_entries-loop-place-init
emit_entries-loop-place-init t c =
    (omega arith, entries_none (facts_in c.args.facts.now) (sites_in c.args.facts.now) c.args.gives c.args.entries.now _ (exits_of c.args.exits), omega arith)

pub emit_entries-loop-place-preserved : goal.emit_entries-loop-place-preserved
emit_entries-loop-place-preserved t c =
    let next : c.loop-place.place ≡ c.loop-place.place - 1 + 1 = omega (arith, c.loop-place-test.true) in
    let low : c.loop-place.place - 1 < length c.args.entries.now = omega (arith, c.loop-place.invariant.0, c.loop-place-test.true) in (
      omega (arith, low),
      entries_step (facts_in c.args.facts.now) (sites_in c.args.facts.now) c.args.gives c.args.entries.now c.loop-place.place (c.loop-place.place - 1) c.index-entries-place.result
          _ _ _ _ _ (exits_of c.args.exits) next low c.index-entries-place.is c.loop-place.invariant.1 (rw c.next_at.ensures at c.in_ok-first.ensures.made),
      omega (
        arith,
        c.in_ok-first.ensures.few,
        c.loop-place.invariant.2,
        entries_more (sites_in c.args.facts.now) c.args.entries.now c.loop-place.place (c.loop-place.place - 1) c.index-entries-place.result next low c.index-entries-place.is,
      ),
    )

pub emit_statement-returns-in_ok-i-in-If-clause-made : goal.emit_statement-returns-in_ok-i-in-If-clause-made
emit_statement-returns-in_ok-i-in-If-clause-made t c =
    rw c.in-If.is (branch_made (facts_in c.args.facts.now) (sites_in c.args.facts.now) c.args.gives c.in-If.token c.in-If.condition c.in-If.first c.in-If.second
    _ _ _ _ _ _ _ (exits_of c.args.exits) c.in_ok-no-in-If.ensures.made (rw c.deref.ensures at c.in_ok-yes-in-If.ensures.made) c.in_ok-i-in-If.ensures.made)

pub emit_entries-emit_entry-requires : goal.emit_entries-emit_entry-requires
emit_entries-emit_entry-requires t c =
    let next : c.loop-place.place ≡ c.loop-place.place - 1 + 1 = omega (arith, c.loop-place-test.true) in
    let low : c.loop-place.place - 1 < length c.args.entries.now = omega (arith, c.loop-place.invariant.0, c.loop-place-test.true) in
    let more = entries_more (sites_in c.args.facts.now) c.args.entries.now c.loop-place.place (c.loop-place.place - 1) c.index-entries-place.result next low c.index-entries-place.is in
    omega (
      arith,
      ap the_size c.index-entries-place.is,
      at_most the_size c.args.entries.now (c.loop-place.place - 1) c.index-entries-place.result low,
      c.loop-place.invariant.2,
      more,
      entries_rest (sites_in c.args.facts.now) c.args.entries.now (c.loop-place.place - 1),
    )

pub emit_entries-returns-clause-made : goal.emit_entries-returns-clause-made
emit_entries-returns-clause-made t c =
    let first : c.loop-place.place ≡ 0 = omega (arith, c.loop-place-test.false) in
    subst (λ m. MadeExits (λ G. EntriesDo G (facts_in c.args.facts.now) (sites_in c.args.facts.now) c.args.gives (plain_entries (drop m c.args.entries.now))) c.args.graph.now
    c.loop-place.graph c.loop-place.first (exits_of c.args.exits)) first c.loop-place.invariant.1

pub emit_statement-returns-in-Return-clause-made : goal.emit_statement-returns-in-Return-clause-made
emit_statement-returns-in-Return-clause-made t c = rw (c.in-Return.is, plain.plain_return c.in-Return.token c.in-Return.value) c.emit_return.ensures.made

pub emit_second-returns-in_ok-i-in-Some-clause-made : goal.emit_second-returns-in_ok-i-in-Some-clause-made
emit_second-returns-in_ok-i-in-Some-clause-made t c =
    subst (λ second. MadeExits (λ G. SecondRuns G (facts_in c.args.facts.now) (sites_in c.args.facts.now) c.args.gives (plain_second second)) c.args.graph.now
    c.emit_statement.new.graph c.in_ok-i-in-Some.i (exits_of c.args.exits))
    (sym c.in-Some.is)
    (subst (λ s. MadeExits (λ G. StatementDoes G (facts_in c.args.facts.now) (sites_in c.args.facts.now) c.args.gives (plain_statement s)) c.args.graph.now c.emit_statement.new.graph
    c.in_ok-i-in-Some.i (exits_of c.args.exits)) c.deref.ensures c.in_ok-i-in-Some.ensures.made)
