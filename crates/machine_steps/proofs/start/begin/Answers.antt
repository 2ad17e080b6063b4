use Rattle.std.proofs.Common.{[], ap, subst, sym, ◌∙◌}
use Rattle.cbi_base.specs.Frames.{each_made}
use Rattle.flow.specs.Words.{function_entered, code_of, begin_with, program_objects}
use Rattle.machine_steps.specs.Begun.{first_past}
use Rattle.machine_rows.specs.Starting.{IsAllMade}
use Rattle.machine_looks.specs.Steps.{IsNext}
use Rattle.machine_steps.proofs.StartLemmas.{all_there, starts}
use Rattle.machine_steps.proofs.start.begin.Goals as goal

pub returns-clause-next : goal.returns-clause-next
returns-clause-next c = λ bank e.
    let p = c.args.program.now in
    let s = c.args.state.now in
    let code = code_of p bank in
    let objects = c.make_first.new.objects in
    let made = all_there (each_made (program_objects p) s.now.objects) objects
    (subst (λ b. IsAllMade (each_made (program_objects p) s.now.objects) b objects) c.if-not-branch.false
    (subst (λ q. IsAllMade (each_made (program_objects q) s.now.objects) c.in_ok-make_first.field-0 objects) c.program.ensures.value c.in_ok-make_first.ensures)) in
    subst (λ n. IsNext code (first_past bank) n c.enter_main.result c.enter_main.new.state)
    (ap (function_entered (code.callee p.main) p.main []) (starts p bank s objects c.requires e)
    ∙ sym (ap (begin_with code p.main s.now.input.now s.turns) (ap (each_made (program_objects p)) (sym c.requires.objects) ∙ made)))
    (c.enter_main.ensures.next (first_past bank) 0)
