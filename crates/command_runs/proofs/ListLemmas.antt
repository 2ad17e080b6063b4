-- Texts spell one pair of lists, and none that is refused.
use Rattle.std.proofs.Common.{◌≡◌, inl, inr, ℕ, List, Option, Some, None, ap, sym, subst, refl, ◌∙◌}
use Rattle.flow.specs.declared.program.ProgramParts.{ProgramParts}
use Rattle.name_lists.specs.List.{SpellsList}
use Rattle.command_runs.specs.Line.{AreAsMany}
use Rattle.command_runs.specs.Lists.{AreBadLists, AreBadTexts, IsNoListWhere, SpellLists, SpellPlan, SpellsWhere, lines_plan}
use Rattle.command_runs.specs.declared.plan.ListedPlan.{ListedPlan}
use Rattle.command_runs.specs.declared.texts.ListTexts.{ListTexts}
use Rattle.cbi_options.specs.declared.words.RunsWords.{RunsWords}

abbrev pub OneList : Type 0
OneList = (first other : ℕ) (text : List ℕ) (a b : List (List ℕ)) → SpellsList first text a → SpellsList other text b → a ≡ b

where-once : OneList → (first : ℕ) (text : Option (List ℕ)) (a b : Option (List (List ℕ))) → SpellsWhere first text a → SpellsWhere first text b → a ≡ b
where-once once first None None None p q = refl
where-once once first None None (Some y) p q = absurd q
where-once once first None (Some x) b p q = absurd p
where-once once first (Some text) None b p q = absurd p
where-once once first (Some text) (Some x) None p q = absurd q
where-once once first (Some text) (Some x) (Some y) p q = ap Some (once first first text x y p q)

pub lists-once : OneList → (r : RunsWords) (texts : ListTexts) (a b : ListedPlan) → SpellLists r texts a → SpellLists r texts b → a ≡ b
lists-once once r texts a b p q =
    let inputs : a.inputs ≡ b.inputs = once r.first r.first texts.inputs a.inputs b.inputs p.inputs q.inputs in
    let expects : a.expects ≡ b.expects = where-once once r.first texts.expect a.expects b.expects p.expects q.expects in
    p.plan_is ∙ ap (λ x. lines_plan r x a.expects) inputs ∙ ap (lines_plan r b.inputs) expects ∙ sym q.plan_is

no-list-where : (first : ℕ) (text : Option (List ℕ)) (names : Option (List (List ℕ))) → SpellsWhere first text names → IsNoListWhere first text → ⊥
no-list-where first None names spells none = none
no-list-where first (Some text) None spells none = spells
no-list-where first (Some text) (Some names) spells none = none names spells

pub never-bad : OneList → (r : RunsWords) (texts : ListTexts) (plan : ListedPlan) → SpellLists r texts plan → AreBadLists r texts → ⊥
never-bad once r texts plan p (inl none) = none plan.inputs p.inputs
never-bad once r texts plan p (inr (inl none)) = no-list-where r.first texts.expect plan.expects p.expects none
never-bad once r texts plan p (inr (inr u)) =
    let inputs : plan.inputs ≡ u.inputs = once r.first r.first texts.inputs plan.inputs u.inputs p.inputs u.spell.inputs in
    let expects : plan.expects ≡ u.expects = where-once once r.first texts.expect plan.expects u.expects p.expects u.spell.expects in
    u.unequal (subst (λ x. AreAsMany u.inputs x) expects (subst (λ x. AreAsMany x plan.expects) inputs p.as_many))

-- texts that spell a program and lists aren't refused
pub never-refused : OneList → (r : RunsWords) (texts : ListTexts) (parts : ProgramParts) (plan : ListedPlan) → SpellPlan r texts parts plan → AreBadTexts r texts → ⊥
never-refused once r texts parts plan p (inl none) = none parts p.program
never-refused once r texts parts plan p (inr bad) = never-bad once r texts plan p.lists bad
