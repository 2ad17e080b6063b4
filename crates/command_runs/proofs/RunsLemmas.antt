-- What the lists of a call make of it: its plan, its names, what is refused, and what is left.
use Rattle.std.proofs.Common.{◌≡◌, ◌≤◌, inl, inr, ℕ, List, [], ◌∷◌, length, Option, Some, None, Err, IsSome, ap, sym, subst, refl, ◌∙◌, arith}
use Rattle.planned_runs.proofs.Going.{rose-before}
use Rattle.cbi_base.specs.declared.refusal.Refusal.{Refusal}
use Rattle.cbi_base.specs.Words.{CountHasRisen, Held}
use Rattle.flow.specs.declared.program.ProgramParts.{ProgramParts}
use Rattle.planned_runs.specs.Left.{PlanRefusedBy}
use Rattle.planned_runs.specs.Runs.{names_from}
use Rattle.command_base.specs.declared.fault.Fault.{Fault}
use Rattle.command_base.specs.declared.fault.Fault.TheVariants.{Read, Write, Refused, Memory}
use Rattle.command_base.specs.Faults.{HasCause, IfAllRead, IfRefusal, Precedes}
use Rattle.command_base.specs.Limits.{program_limit}
use Rattle.command_base.specs.Names.{AreHeld, IsFirstMissing, IsOneOf}
use Rattle.command_base.proofs.ReadLemmas.{read-once}
use Rattle.command_runs.specs.Line.{AreAsMany, IsMadeOn, RefusesLine, names_of_line}
use Rattle.command_runs.specs.Lists.{AreBadTexts, AreListTexts, AreUneven, IsBadWhere, IsLinesPlan, IsNoListWhere, RefusesFirst, SpellPlan, first_names, list_limit}
use Rattle.command_runs.specs.Once.{read-where-once}
use Rattle.command_runs.specs.Runs.{AreRefusedFirst, AreRunsHeld, GivesPlan, IsRefusedLater, IsRunsMissing, IsRunsName, ListedRefused, ListedRefusedBy, names_of_lines}
use Rattle.command_runs.specs.declared.plan.ListedPlan.{ListedPlan}
use Rattle.command_runs.specs.declared.texts.ListTexts.{ListTexts}
use Rattle.cbi_options.specs.declared.words.RunsWords.{RunsWords}

abbrev texts_with : List ℕ → List ℕ → Option (List ℕ) → ListTexts
texts_with program inputs expect = record { program = program; inputs = inputs; expect = expect }

-- texts read of one store that tells what it holds
pub texts-once : (held : Option Held) (r : RunsWords) (a b : ListTexts) → IsSome held → AreListTexts held r a → AreListTexts held r b → a ≡ b
texts-once held r a b tells p q =
    let program : a.program ≡ b.program = read-once held r.program program_limit a.program b.program tells p.program_read q.program_read in
    let inputs : a.inputs ≡ b.inputs = read-once held r.inputs list_limit a.inputs b.inputs tells p.inputs_read q.inputs_read in
    let expect : a.expect ≡ b.expect = read-where-once held r.expect list_limit a.expect b.expect tells p.expect_read q.expect_read in
    ap (λ x. texts_with x a.inputs a.expect) program ∙ ap (λ x. texts_with b.program x a.expect) inputs ∙ ap (texts_with b.program b.inputs) expect

-- the texts spell no other program and no other lists
abbrev pub SpellOnly : RunsWords → ListTexts → ProgramParts → ListedPlan → Type 0
SpellOnly r texts parts plan = (p : ProgramParts) (q : ListedPlan) → SpellPlan r texts p q → (parts ≡ p) × (plan ≡ q)

-- a store that tells nothing holds any names
none-held : (names : List (List ℕ)) → AreHeld None names
none-held [] = tt
none-held (name ∷ more) = (tt, none-held more)

-- each plan that is given is this one
given-plan : (held : Option Held) (r : RunsWords) (texts : ListTexts) (parts : ProgramParts) (plan other : ListedPlan) → IsSome held → AreListTexts held r texts → SpellOnly r texts parts plan
    → GivesPlan r held other → plan ≡ other
given-plan held r texts parts plan other tells are only g =
    (only g.parts other (subst (λ t. SpellPlan r t g.parts other) (texts-once held r g.texts texts tells g.is_plan.are_texts are) g.is_plan.spell)).1

-- the names of the lines of each plan that is given are held where those of this one are
pub lines-held : (held : Option Held) (r : RunsWords) (texts : ListTexts) (parts : ProgramParts) (plan : ListedPlan) → AreListTexts held r texts → SpellOnly r texts parts plan
    → AreHeld held (first_names r) → AreHeld held (names_of_lines plan) → AreRunsHeld r held
lines-held None r texts parts plan are only first lines = record { first = first; lines = λ other g. none-held (names_of_lines other) }
lines-held (Some h) r texts parts plan are only first lines = record {
  first = first;
  lines = λ other g. subst (λ p. AreHeld (Some h) (names_of_lines p)) (given-plan (Some h) r texts parts plan other refl are only g) lines;
}

-- a name of the lines is one of the call's
pub line-name : (r : RunsWords) (held : Option Held) (texts : ListTexts) (parts : ProgramParts) (plan : ListedPlan) (count : ℕ) (name : List ℕ) → IsLinesPlan held r texts parts plan → count ≡ length plan.inputs
    → IsOneOf (names_from (names_of_line plan) plan.first count) name → IsRunsName r held name
line-name r held texts parts plan count name is_plan counted is = inr (record {
  plan = plan;
  gives = record { texts = texts; parts = parts; is_plan = is_plan };
  is = subst (λ n. IsOneOf (names_from (names_of_line plan) plan.first n) name) counted is;
})

-- the first of them that isn't held is the first of the call's
pub line-missing : (r : RunsWords) (held now : Option Held) (texts : ListTexts) (parts : ProgramParts) (plan : ListedPlan) (count : ℕ) (name : List ℕ) → IsLinesPlan held r texts parts plan → now ≡ held
    → count ≡ length plan.inputs → AreHeld held (first_names r) → IsFirstMissing now (names_from (names_of_line plan) plan.first count) name → IsRunsMissing r held name
line-missing r held now texts parts plan count name is_plan same counted first missing = inr (record {
  first = first;
  plan = plan;
  gives = record { texts = texts; parts = parts; is_plan = is_plan };
  missing = subst (λ h. IsFirstMissing h (names_of_lines plan) name) same (subst (λ n. IsFirstMissing now (names_from (names_of_line plan) plan.first n) name) counted missing);
})

-- a run that is refused is refused of what is read
pub later : (r : RunsWords) (held now : Option Held) (texts : ListTexts) (parts : ProgramParts) (plan : ListedPlan) (count : ℕ) (refusal : Refusal) → IsLinesPlan held r texts parts plan → now ≡ held
    → count ≡ length plan.inputs → PlanRefusedBy parts (IsMadeOn plan now) plan.first count r.turns (RefusesLine plan now) refusal → IsRefusedLater r held refusal
later r held now texts parts plan count refusal is_plan same counted refused = record {
  texts = texts;
  parts = parts;
  plan = plan;
  is_plan = is_plan;
  refused = subst (λ h. PlanRefusedBy parts (IsMadeOn plan h) plan.first (length plan.inputs) r.turns (RefusesLine plan h) refusal) same
      (subst (λ n. PlanRefusedBy parts (IsMadeOn plan now) plan.first n r.turns (RefusesLine plan now) refusal) counted refused);
}

-- and what is refused later is refused by the plan
pub by-plan : (r : RunsWords) (held now : Option Held) (texts : ListTexts) (parts : ProgramParts) (plan : ListedPlan) (count : ℕ) (refusal : Refusal) → IsSome held → AreListTexts held r texts
    → SpellOnly r texts parts plan → now ≡ held → count ≡ length plan.inputs → IsRefusedLater r held refusal
    → PlanRefusedBy parts (IsMadeOn plan now) plan.first count r.turns (RefusesLine plan now) refusal
by-plan r held now texts parts plan count refusal tells are only same counted l =
    let same_texts : l.texts ≡ texts = texts-once held r l.texts texts tells l.is_plan.are_texts are in
    let spell : SpellPlan r texts l.parts l.plan = subst (λ t. SpellPlan r t l.parts l.plan) same_texts l.is_plan.spell in
    let both : (parts ≡ l.parts) × (plan ≡ l.plan) = only l.parts l.plan spell in
    let at_parts : PlanRefusedBy parts (IsMadeOn l.plan held) l.plan.first (length l.plan.inputs) r.turns (RefusesLine l.plan held) refusal =
    subst (λ (p : ProgramParts). PlanRefusedBy p (IsMadeOn l.plan held) l.plan.first (length l.plan.inputs) r.turns (RefusesLine l.plan held) refusal) (sym both.0) l.refused in
    let at_plan : PlanRefusedBy parts (IsMadeOn plan held) plan.first (length plan.inputs) r.turns (RefusesLine plan held) refusal =
    subst (λ (p : ListedPlan). PlanRefusedBy parts (IsMadeOn p held) p.first (length p.inputs) r.turns (RefusesLine p held) refusal) (sym both.1) at_parts in
    subst (λ n. PlanRefusedBy parts (IsMadeOn plan now) plan.first n r.turns (RefusesLine plan now) refusal) (sym counted)
    (subst (λ h. PlanRefusedBy parts (IsMadeOn plan h) plan.first (length plan.inputs) r.turns (RefusesLine plan h) refusal) (sym same) at_plan)

-- the bytes read were bad where any are
pub bad-same : (r : RunsWords) (held : Option Held) (texts : ListTexts) → IsSome held → AreListTexts held r texts → AreRefusedFirst r held → AreBadTexts r texts
bad-same r held texts tells are refused = subst (AreBadTexts r) (texts-once held r refused.texts texts tells refused.are_texts are) refused.bad

-- what a fault of the runs is to the call
pub fault-of-runs : (e : Fault) (r : RunsWords) (held now : Option Held) (texts : ListTexts) (parts : ProgramParts) (plan : ListedPlan) (count before then after : ℕ) (write : Type 0)
    → IsLinesPlan held r texts parts plan → now ≡ held → count ≡ length plan.inputs → before ≤ then
    → HasCause e (λ name. IsOneOf (names_from (names_of_line plan) plan.first count) name × CountHasRisen then after) ⊥
    (PlanRefusedBy parts (IsMadeOn plan now) plan.first count r.turns (RefusesLine plan now))
    → HasCause e (λ name. IsRunsName r held name × CountHasRisen before after) write (ListedRefusedBy r held)
fault-of-runs (Read name) r held now texts parts plan count before then after write is_plan same counted never h =
    (line-name r held texts parts plan count name is_plan counted h.0, rose-before before then after never h.1)
fault-of-runs Write r held now texts parts plan count before then after write is_plan same counted never h = absurd h
fault-of-runs (Refused refusal) r held now texts parts plan count before then after write is_plan same counted never h = inr (later r held now texts parts plan count refusal is_plan same counted h)
fault-of-runs Memory r held now texts parts plan count before then after write is_plan same counted never h = tt

-- a fault of the look at the first texts
pub fault-of-look : (e : Fault) (r : RunsWords) (held : Option Held) (texts : ListTexts) (read : List ℕ → Type 0) (write : Type 0) → AreListTexts held r texts → HasCause e (λ name. ⊥) ⊥ (RefusesFirst r texts)
    → HasCause e read write (ListedRefusedBy r held)
fault-of-look (Read name) r held texts read write are h = absurd h
fault-of-look Write r held texts read write are h = absurd h
fault-of-look (Refused refusal) r held texts read write are h = inl (record { texts = texts; are_texts = are; refused = h })
fault-of-look Memory r held texts read write are h = tt

-- texts that a refusal speaks of are bad
uneven-unequal : (names : List (List ℕ)) (fellows : Option (List (List ℕ))) (refusal : Refusal) → AreUneven names fellows refusal → AreAsMany names fellows → ⊥
uneven-unequal names None refusal h same = h
uneven-unequal names (Some xs) refusal (inl h) same = omega (arith, h.fewer, same)
uneven-unequal names (Some xs) refusal (inr h) same = omega (arith, h.fewer, same)

bad-where : (first : ℕ) (text : Option (List ℕ)) (refusal : Refusal) → IsBadWhere first text refusal → IsNoListWhere first text
bad-where first None refusal h = h
bad-where first (Some text) refusal h = h.none

refuses-bad : (r : RunsWords) (texts : ListTexts) (refusal : Refusal) → RefusesFirst r texts refusal → AreBadTexts r texts
refuses-bad r texts refusal (inl h) = inl h.none
refuses-bad r texts refusal (inr (p, inl h)) = inr (inl h.none)
refuses-bad r texts refusal (inr (p, inr (inl (q, h)))) = inr (inr (inl (bad-where r.first texts.expect refusal h)))
refuses-bad r texts refusal (inr (p, inr (inr h))) = inr (inr (inr (record { inputs = h.inputs; expects = h.expects; spell = h.spell; unequal = uneven-unequal h.inputs h.expects refusal h.uneven })))

pub first-refused : (e : Fault) (r : RunsWords) (held : Option Held) (texts : ListTexts) → AreListTexts held r texts → HasCause e (λ name. ⊥) ⊥ (RefusesFirst r texts) → IfRefusal e (ListedRefused r held)
first-refused (Refused refusal) r held texts are h = inl (record { texts = texts; are_texts = are; bad = refuses-bad r texts refusal h })
first-refused e r held texts are h = tt

-- a fault that no write met comes before a refusal, or is one
pub precedes-of : (e : Fault) (read : List ℕ → Type 0) (refused : Refusal → Type 0) → HasCause e read ⊥ refused → Precedes e
precedes-of Write read refused h = h
precedes-of e read refused h = tt

-- what is so when all was read is so after a fault of out
pub finished-as : (A : Type 0) (e : Fault) (P : Type 0) → P → IfAllRead {A = A} (Err e) P
finished-as A Write P h = h
finished-as A e P h = tt

module _ (r : RunsWords) (held now : Option Held) (texts : ListTexts) (parts : ProgramParts) (plan : ListedPlan) (count : ℕ) (is_plan : IsLinesPlan held r texts parts plan) (same : now ≡ held)
    (counted : count ≡ length plan.inputs) where
  -- the names of the lines are held where all of the call's are
  pub names-held : AreRunsHeld r held → AreHeld now (names_from (names_of_line plan) plan.first count)
  names-held are =
      let lines : AreHeld held (names_of_lines plan) = are.lines plan (record { texts = texts; parts = parts; is_plan = is_plan }) in
      subst (λ h. AreHeld h (names_from (names_of_line plan) plan.first count)) (sym same) (subst (λ n. AreHeld held (names_from (names_of_line plan) plan.first n)) (sym counted) lines)

  -- and all of the call's are where those of the lines are
  pub runs-held : SpellOnly r texts parts plan → AreHeld held (first_names r) → AreHeld now (names_from (names_of_line plan) plan.first count) → AreRunsHeld r held
  runs-held only first lines =
      lines-held held r texts parts plan is_plan.are_texts only first
      (subst (λ n. AreHeld held (names_from (names_of_line plan) plan.first n)) counted (subst (λ h. AreHeld h (names_from (names_of_line plan) plan.first count)) same lines))

  -- what neither a look nor the plan refuses isn't refused
  pub never-listed : SpellOnly r texts parts plan → IsSome held → (AreBadTexts r texts → ⊥)
      → ((refusal : Refusal) → PlanRefusedBy parts (IsMadeOn plan now) plan.first count r.turns (RefusesLine plan now) refusal → IsSome now → ⊥) → ListedRefused r held → ⊥
  never-listed only tells good ran (inl first) = good (bad-same r held texts tells is_plan.are_texts first)
  never-listed only tells good ran (inr (refusal, l)) =
      ran refusal (by-plan r held now texts parts plan count refusal tells is_plan.are_texts only same counted l) (subst (λ (h : Option Held). IsSome h) (sym same) tells)
