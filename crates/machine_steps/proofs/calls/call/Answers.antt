use Rattle.std.proofs.Common.{refl, subst, sym}
use Rattle.flow.specs.Words.{call, code_of}
use Rattle.machine_looks.specs.Steps.{state_of, IsNext}
use Rattle.machine_steps.proofs.CallLemmas.{spends, entry_nears}
use Rattle.machine_steps.proofs.calls.call.Goals as goal

pub returns-clause-next : goal.returns-clause-next
unfolding Rattle.flow.specs.Machine.next_of
returns-clause-next c = λ past.
    let code = code_of c.args.program.now past.bank in
    subst (λ n. IsNext code past n c.enter.result c.enter.new.state)
    (sym (spends c.args.state.now.turns (state_of past c.args.place c.args.state.now) (call (code.callee c.args.number) c.args.number c.args.next) c.if-state-eq0.false))
    (c.enter.ensures.next past c.args.place)

pub returns-clause-nearer : goal.returns-clause-nearer
returns-clause-nearer c = entry_nears c.args.place c.args.next c.args.state.now _ c.enter.new.state c.enter.result c.if-state-eq0.false refl refl refl c.requires c.enter.ensures.more
