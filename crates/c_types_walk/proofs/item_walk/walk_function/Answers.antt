use Rattle.std.proofs.Common.{ℕ, Option, length, ◌∙◌, ap, subst}
use Rattle.c_syntax.specs.Words.{plain_entries}
use Rattle.c_types_expressions.specs.Words.{IsWalked}
use Rattle.c_types_walk.specs.ItemWalk.{known_as, walk_body}
use Rattle.c_types_walk.proofs.Functions.{declared_left, declared_walked}
use Rattle.c_types_walk.proofs.item_walk.walk_function.Goals as goal

-- a function with a body
pub returns-in-Some-clause-walked : goal.returns-in-Some-clause-walked
returns-in-Some-clause-walked c =
    let a = c.args in
    let h = a.head.now in
    rw c.in-Some.is (subst (λ (k : Option ℕ). IsWalked (walk_body h.token a.function h.name.now h.params.now (plain_entries c.in-Some.body) k a.walk.now)
    c.walk_body.result c.walk_body.new.walk) (c.known_as-known.ensures ∙ ap (λ m. known_as a.function m a.walk.now) c.find-meaning.ensures) c.walk_body.ensures.walked)

pub returns-in-Some-clause-left : goal.returns-in-Some-clause-left
returns-in-Some-clause-left c = rw c.in-Some.is c.walk_body.ensures.left

-- a function without one
pub returns-in_ok-add_function-in-None-clause-walked : goal.returns-in_ok-add_function-in-None-clause-walked
returns-in_ok-add_function-in-None-clause-walked c =
    let a = c.args in
    let h = a.head.now in
    rw c.in-None.is (declared_walked h.token a.function h.name.now c.known_as-known.result _ c.clashes-taken.result c.in_ok-gives-in-None.gives a.walk.now
    c.add_function.new.walk c.declares.new.walk c.declares.result (c.known_as-known.ensures ∙ ap (λ m. known_as a.function m a.walk.now) c.find-meaning.ensures)
    c.clashes-taken.ensures c.in_ok-gives-in-None.ensures c.in_ok-add_function-in-None.ensures.walked c.declares.ensures.walked)

pub returns-in_ok-add_function-in-None-clause-left : goal.returns-in_ok-add_function-in-None-clause-left
returns-in_ok-add_function-in-None-clause-left c =
    rw c.in-None.is (declared_left (length c.args.head.now.params.now) c.args.walk.now c.add_function.new.walk c.declares.new.walk c.declares.result
    c.in_ok-add_function-in-None.ensures.left c.declares.ensures.left)
