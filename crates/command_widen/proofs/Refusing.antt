-- Which texts are refused, and by which refusal.
use Rattle.std.proofs.Common.{◌≡◌, inl, inr, ℕ, List, Option, IsSome, refl, sym, subst}
use Rattle.cbi_base.specs.Store.{Held}
use Rattle.cbi_base.specs.declared.refusal.Refusal.{Refusal}
use Rattle.cbi_base.specs.declared.refusal.Refusal.TheVariants.{BadProgram, BadCollection, Foreign, NoSite, NotPart}
use Rattle.flow.specs.declared.program.ProgramParts.{ProgramParts}
use Rattle.flow.specs.Spelling.{SpellsProgram}
use Rattle.collector.specs.declared.collection.Bundle.{Bundle}
use Rattle.collector.specs.Spelling.{SpellsBundle}
use Rattle.flow.specs.declared.choice.Part.{Part}
use Rattle.command_base.specs.Limits.{program_limit}
use Rattle.command_base.proofs.ReadLemmas.{read-once}
use Rattle.command_inputs.specs.Programs.{IsBadProgram}
use Rattle.command_inputs.specs.Collections.{file_limit}
use Rattle.command_inputs.proofs.RunsLemmas.{refuses-runs, runs-never-refused}
use Rattle.command_widen.specs.declared.texts.WidenTexts.{WidenTexts}
use Rattle.cbi_options.specs.declared.words.WidenWords.{WidenWords}
use Rattle.command_widen.specs.Widen.{AreRefusedTexts, AreWidenTexts, HasPart, RefusesTexts, SpellPart, WidenRefused}

-- the whole program's text is none, or the other one's
pub bad_whole : (part : Part) (texts : WidenTexts) (refusal : Refusal) → IsBadProgram texts.whole refusal → RefusesTexts part refusal texts
bad_whole part texts refusal h = subst (λ r. RefusesTexts part r texts) (sym h.refusal_is) (inl (h.none, h.wrong))

-- a refusal is of refused texts
pub refuses_texts : (part : Part) (refusal : Refusal) (texts : WidenTexts) → RefusesTexts part refusal texts → AreRefusedTexts part texts
refuses_texts part (BadProgram line) texts (inl h) = inl h.0
refuses_texts part (BadProgram line) texts (inr h) = inr (inl (refuses-runs (BadProgram line) texts.runs h.1))
refuses_texts part (BadCollection file line) texts h = inr (inl (refuses-runs (BadCollection file line) texts.runs h.1))
refuses_texts part NotPart texts h = inr (inr h)
refuses_texts part (Foreign ours theirs) texts h = inr (inl (refuses-runs (Foreign ours theirs) texts.runs h.1))
refuses_texts part (NoSite run site) texts h = inr (inl (refuses-runs (NoSite run site) texts.runs h.1))
refuses_texts part refusal texts h = absurd h

-- texts that spell such a program and its runs aren't refused, where each is read as one value
pub part_never_refused : (part : Part) (texts : WidenTexts) (whole parts : ProgramParts) (bundle : Bundle) → ((text : List ℕ) (p q : ProgramParts) → SpellsProgram text p → SpellsProgram text q → p ≡ q)
    → ((text : List ℕ) (a b : Bundle) → SpellsBundle text a → SpellsBundle text b → a ≡ b) → SpellPart part texts whole parts bundle → AreRefusedTexts part texts → ⊥
part_never_refused part texts whole parts bundle one_program one_bundle s (inl none) = none whole s.whole_spelled
part_never_refused part texts whole parts bundle one_program one_bundle s (inr (inl runs)) =
    runs-never-refused texts.runs parts bundle s.runs (λ (p : ProgramParts) (b : Bundle) spell. (
      one_program texts.runs.program p parts spell.program s.runs.spell.program,
      one_bundle texts.runs.collection b bundle spell.collection s.runs.spell.collection,
    )) runs
part_never_refused part texts whole parts bundle one_program one_bundle s (inr (inr not)) =
    not.other (subst (λ p. HasPart part p not.parts) (one_program texts.whole whole not.whole s.whole_spelled not.whole_spelled)
    (subst (HasPart part whole) (one_program texts.runs.program parts not.parts s.runs.spell.program not.spell.program) s.has_part))

-- the bytes of each file are read once
pub same_texts : (held : Option Held) (w : WidenWords) (a b : WidenTexts) → IsSome held → AreWidenTexts held w a → AreWidenTexts held w b → a ≡ b
same_texts held w a b tells read other =
    let whole = read-once held w.whole program_limit a.whole b.whole tells read.whole_read other.whole_read in
    let program = read-once held w.program program_limit a.runs.program b.runs.program tells read.runs_read.program_read other.runs_read.program_read in
    let collection = read-once held w.collection file_limit a.runs.collection b.runs.collection tells read.runs_read.collection_read other.runs_read.collection_read in
    subst (λ x. a ≡ record { whole = x; runs = b.runs }) whole
    (subst (λ y. a ≡ record { whole = a.whole; runs = record { program = y; collection = b.runs.collection } }) program
    (subst (λ z. a ≡ record { whole = a.whole; runs = record { program = a.runs.program; collection = z } }) collection refl))

pub same_refused : (held : Option Held) (w : WidenWords) (texts : WidenTexts) → IsSome held → AreWidenTexts held w texts → WidenRefused w held → AreRefusedTexts w.part texts
same_refused held w texts tells are refused = subst (AreRefusedTexts w.part) (same_texts held w refused.texts texts tells refused.are_texts are) refused.refused
