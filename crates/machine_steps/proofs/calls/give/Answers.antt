use Rattle.std.proofs.Common.{ap, sym, ◌∙◌, slice_get}
use Rattle.flow.specs.Words.{left_with_value, has_result, callee_of, Takes, Over}
use Rattle.machine_rows.specs.Data.{data_of}
use Rattle.machine_looks.specs.Steps.{state_of, frames_of}
use Rattle.machine_steps.proofs.CallLemmas.{gives_end}
use Rattle.machine_steps.proofs.calls.give.Goals as goal

pub returns-in_default-clause-next : goal.returns-in_default-clause-next
unfolding Rattle.flow.specs.Machine.next_of
returns-in_default-clause-next c = λ past.
    let old = c.args.state.now in
    let s = state_of past c.args.place old in
    let value = c.in_ok-value.value in
    let rest = data_of c.take_any.new.self in
    let outcome = c.end_with-outcome.result in
    ap (λ t. left_with_value (has_result (callee_of (slice_get c.args.program.now.functions old.function))) t s) c.in_ok-value.ensures.taken
    ∙ ap (λ b. left_with_value b (Takes value rest) s) (sym c.has_result.ensures ∙ c.if-not-has_result.false)
    ∙ gives_end value rest s outcome (sym c.is_undefined.ensures ∙ c.if-is_undefined.false) (ap (λ b. frames_of b old.now.operands.below) c.in_default.ensures.0)
    (c.end_with-outcome.ensures s)
    ∙ ap (λ o. Over (record { outcome = outcome; output = o; seen = past.seen; work = old.work; drawn = past.drawn })) (sym c.take_any.ensures.output)
