use Rattle.std.proofs.Common.{subst, sym}
use Rattle.flow.specs.Spelling.{SpellsProgram}
use Rattle.command_runs.proofs.ListLemmas.{lists-once, never-refused}
use Rattle.command_runs.proofs.lists.look.Goals as goal

pub returns-in-Ok-load_plan-clause-only : goal.returns-in-Ok-load_plan-clause-only
returns-in-Ok-load_plan-clause-only c = λ parts plan spell. (
  c.in-Ok.ensures.only parts (subst (λ bytes. SpellsProgram bytes parts) (sym c.as_slice.ensures) spell.program),
  lists-once c.one_list.ensures c.args.words.now c.args.texts.now c.in-Ok-load_plan.plan plan c.in-Ok-load_plan.ensures.found spell.lists,
)

pub returns-in-Ok-load_plan-clause-refused : goal.returns-in-Ok-load_plan-clause-refused
returns-in-Ok-load_plan-clause-refused c =
    never-refused c.one_list.ensures c.args.words.now c.args.texts.now c.in-Ok.program c.in-Ok-load_plan.plan
    (record { program = subst (λ bytes. SpellsProgram bytes c.in-Ok.program) c.as_slice.ensures c.in-Ok.ensures.found; lists = c.in-Ok-load_plan.ensures.found })
