-- Whole runs.
use Rattle.std.proofs.Common.{◌≡◌, ◌⊎◌, inl, inr, ℕ, zero, suc, List, [], Option, None, Some, refl, sym, ap, ◌∙◌, subst}
use Rattle.flow.specs.Words.{PartFits, Code, EndsFrom, Ends, at_start, begin_with, run, step, BranchesFork, Ending, Next, On, Over, State}
use Rattle.cbi_base.specs.Objects.{Objects}
use Rattle.flow.proofs.Endings.{ends_over, goes, leads_one, one_end_from}
use Rattle.flow.specs.declared.choice.Part.{Part}
use Rattle.program_parts.specs.Runs.{IsFaulty, part_ending}
use Rattle.program_parts.proofs.Steps.{Matches, PlainCode, enter_kept, kept, kept_next, matched, part_code}

-- what the proof asks of the code of a program
pub record Fit (part : Part) (code : Code) : Type 0 where
  pub is : PartFits part
  pub ready : BranchesFork code.at code.site
  pub plain : PlainCode code

match_of : (part : Part) (code : Code) (s : State) → Fit part code → Matches part code (step code s) (step (part_code part code) (kept part s))
match_of part code s fit = matched part code s fit.is fit.ready fit.plain

ends_next : (code : Code) (s : State) (m : Next) (ending : Ending) → step code s ≡ m → EndsFrom code m ending → Ends code s ending
ends_next code s (Over a) ending e h = ends_over code s ending (e ∙ ap Over h)
ends_next code s (On t) ending e h = (leads_one code s t e).by ending h

ends_of : (code : Code) (steps : ℕ) (m : Next) (ending : Ending) → goes code steps m ≡ Some ending → EndsFrom code m ending
ends_of code steps (Over a) ending e = cc
ends_of code steps (On t) ending e = record { steps = steps; is = e }

-- from an ending of the whole program to one of the part's
abbrev There : Part → Code → ℕ → Ending → Type 0
There part code steps whole = (s : State) → run code steps s ≡ Some whole → IsFaulty whole ⊎ Ends (part_code part code) (kept part s) (part_ending part whole)

next_there : (part : Part) (code : Code) (steps : ℕ) (whole : Ending) → There part code steps whole → (n m : Next) → Matches part code n m →
    goes code steps n ≡ Some whole → IsFaulty whole ⊎ EndsFrom (part_code part code) m (part_ending part whole)
next_there part code steps whole rest (Over a) m h e =
    let same : a ≡ whole = cc in subst (λ (x : Ending). IsFaulty x ⊎ EndsFrom (part_code part code) m (part_ending part x)) same h
next_there part code steps whole rest (On s) m h e =
    subst (λ (x : Next). IsFaulty whole ⊎ EndsFrom (part_code part code) x (part_ending part whole)) (sym h) (rest s e)

stepped : (part : Part) (code : Code) (u : State) (whole : Ending) → IsFaulty whole ⊎ EndsFrom (part_code part code) (step (part_code part code) u) (part_ending part whole) →
    IsFaulty whole ⊎ Ends (part_code part code) u (part_ending part whole)
stepped part code u whole (inl fault) = inl fault
stepped part code u whole (inr h) = inr (ends_next (part_code part code) u (step (part_code part code) u) (part_ending part whole) refl h)

run_there : (part : Part) (code : Code) → Fit part code → (whole : Ending) (steps : ℕ) → There part code steps whole
unfolding run
run_there part code fit whole zero = λ s e. cc
run_there part code fit whole (suc steps) = λ s e.
    stepped part code (kept part s) whole
    (next_there part code steps whole (run_there part code fit whole steps) (step code s) (step (part_code part code) (kept part s)) (match_of part code s fit) e)

pub from_there : (part : Part) (code : Code) (n : Next) (whole : Ending) → Fit part code → EndsFrom code n whole → (IsFaulty whole → ⊥) →
    EndsFrom (part_code part code) (kept_next part n) (part_ending part whole)
from_there part code (Over a) whole fit e sound = ap (part_ending part) e
from_there part code (On s) whole fit e sound =
    elim (run_there part code fit whole e.steps s e.is) as (λ _. Ends (part_code part code) (kept part s) (part_ending part whole)) [
      | inl fault ↦ absurd (sound fault)
      | inr h ↦ h
    ]

-- from an ending of the part's program to one of the whole one
pub record From (part : Part) (code : Code) (n : Next) (ending : Ending) : Type 0 where
  pub whole : Ending
  pub ends : EndsFrom code n whole
  pub alike : IsFaulty whole ⊎ (ending ≡ part_ending part whole)

abbrev Back : Part → Code → ℕ → Ending → Type 0
Back part code steps ending = (s : State) → run (part_code part code) steps (kept part s) ≡ Some ending → From part code (On s) ending

over_back : (part : Part) (code : Code) (m : Next) (a ending : Ending) → IsFaulty a ⊎ EndsFrom (part_code part code) m (part_ending part a) →
    EndsFrom (part_code part code) m ending → IsFaulty a ⊎ (ending ≡ part_ending part a)
over_back part code m a ending (inl fault) e = inl fault
over_back part code m a ending (inr h) e = inr (one_end_from (part_code part code) m ending (part_ending part a) e h)

next_back : (part : Part) (code : Code) (steps : ℕ) (ending : Ending) → Back part code steps ending → (n m : Next) → Matches part code n m →
    goes (part_code part code) steps m ≡ Some ending → From part code n ending
next_back part code steps ending rest (Over a) m h e =
    record { whole = a; ends = refl; alike = over_back part code m a ending h (ends_of (part_code part code) steps m ending e) }
next_back part code steps ending rest (On s) m h e =
    rest s (subst (λ (x : Next). goes (part_code part code) steps x ≡ Some ending) h e)

run_back : (part : Part) (code : Code) → Fit part code → (ending : Ending) (steps : ℕ) → Back part code steps ending
unfolding run
run_back part code fit ending zero = λ s e. cc
run_back part code fit ending (suc steps) = λ s e.
    let f = next_back part code steps ending (run_back part code fit ending steps) (step code s) (step (part_code part code) (kept part s)) (match_of part code s fit) e in
    record { whole = f.whole; ends = ends_next code s (step code s) f.whole refl f.ends; alike = f.alike }

pub from_back : (part : Part) (code : Code) (n : Next) (ending : Ending) → Fit part code → EndsFrom (part_code part code) (kept_next part n) ending → From part code n ending
from_back part code (Over a) ending fit e = record { whole = a; ends = refl; alike = inr (sym e) }
from_back part code (On s) ending fit e = run_back part code fit ending e.steps s e.is

-- where runs begin
pub begins : (part : Part) (code : Code) (main turns : ℕ) (input : List ℕ) (made : Option Objects) →
    begin_with (part_code part code) main input turns made ≡ kept_next part (begin_with code main input turns made)
begins part code main turns input None = refl
begins part code main turns input (Some objects) = enter_kept part (code.callee main) main [] (at_start code input turns objects)
