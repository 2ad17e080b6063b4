use Rattle.std.proofs.Common.{arith, ◌≡◌, ◌≤◌, ◌+◌, ◌-◌, ◌*◌, ◌%◌, ◌^◌, subst, sym}
use Rattle.fractions.specs.Logarithm.{IsLogarithm, log_of, logarithm_places}
use Rattle.fractions.proofs.LogarithmLemmas.{log_of-near, log_of-small, log_of-monotone, places-none, places-step, start-is}
use Rattle.fractions.proofs.logarithm.log_fixed.Goals as goal

pub loop-place-init : goal.loop-place-init
loop-place-init c =
    let exponent = c.ilog2-exponent.ensures in
    let start = start-is c.args.n c.ilog2-exponent.result c.from.result c.requires.positive c.requires.bounded
    exponent.power_le exponent.next_power_gt c.from.ensures in
    record { one_or_more = start.one_or_more; below_two = start.below_two; rest = omega (arith, start.whole) }

-- what this turn adds is the next place
added : (c : goal.After-next_place-bit) → logarithm_places c.loop-place.place c.loop-place.mantissa
    ≡ c.next_place-bit.result.0 * 2 ^ (c.loop-place.place - 1) % 2 ^ 32 + logarithm_places (c.loop-place.place - 1) c.next_place-bit.result.1
added c = places-step c.loop-place.place c.loop-place.mantissa c.next_place-bit.result.0 c.next_place-bit.result.1
    c.loop-place-test.true c.loop-place.auto.place c.next_place-bit.ensures.place c.next_place-bit.ensures.rest

pub overflow_add-log : goal.overflow_add-log
overflow_add-log c = omega (arith, added c, log_of-small c.args.n c.requires.positive c.requires.bounded)

pub loop-place-preserved : goal.loop-place-preserved
loop-place-preserved c =
    let next = c.next_place-bit.ensures in
    record { one_or_more = next.one_or_more; below_two = next.below_two; rest = omega (arith, added c) }

pub returns-clause-value : goal.returns-clause-value
returns-clause-value c = omega (arith, places-none c.loop-place.place c.loop-place.mantissa c.loop-place-test.false)

pub returns-clause-near : goal.returns-clause-near
returns-clause-near c =
    subst (λ l. IsLogarithm c.args.n l) (sym (returns-clause-value c)) (log_of-near c.args.n c.requires.positive c.requires.bounded)

pub returns-clause-monotone : goal.returns-clause-monotone
returns-clause-monotone c m low order =
    subst (λ l. log_of m ≤ l) (sym (returns-clause-value c)) (log_of-monotone m c.args.n low order c.requires.bounded)

pub returns-clause-small : goal.returns-clause-small
returns-clause-small c = omega (arith, returns-clause-value c, log_of-small c.args.n c.requires.positive c.requires.bounded)
