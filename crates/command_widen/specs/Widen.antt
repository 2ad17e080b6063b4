-- What the command `widen` does: out takes the text of a collection of the whole program, whose reports are those of a program with a part of the
-- sites.
use Rattle.std.specs.Prelude.{◌≡◌, ◌⊎◌, ℕ, List, ◌∷◌, Option}
use Rattle.sha2.specs.Sha256.{sha256}
use Rattle.cbi_base.specs.Store.{Held, IsReadOf}
use Rattle.cbi_base.specs.declared.refusal.Refusal.{Refusal}
use Rattle.cbi_base.specs.declared.refusal.Refusal.TheVariants as refusal
use Rattle.flow.specs.declared.choice.Part.{Part}
use Rattle.flow.specs.declared.program.ProgramParts.{ProgramParts}
use Rattle.flow.specs.Words.{table_of, SpellsProgram}
use Rattle.program_file.specs.WrongLine.{IsWrongAt}
use Rattle.report_file.specs.declared.draft.Version.TheVariants.{Second}
use Rattle.collector.specs.declared.collection.Bundle.{Bundle}
use Rattle.collector.specs.Spelling.{bundle_text}
use Rattle.flow.specs.declared.choice.Part.{Part}
use Rattle.program_parts.specs.Program.{part_table}
use Rattle.site_parts.specs.Widened.{widened_bundle}
use Rattle.command_base.specs.Limits.{program_limit}
use Rattle.command_inputs.specs.Programs.{IsNoProgram, IsSpelled}
use Rattle.command_inputs.specs.Runs.{AreRefusedRuns, AreRunsTexts, RefusesRuns, SpellBoth, SpellRuns, runs_names}
use Rattle.command_widen.specs.declared.texts.WidenTexts.{WidenTexts}
use Rattle.cbi_options.specs.declared.words.WidenWords.{WidenWords}

-- the names that are read, in this order
abbrev pub widen_names : WidenWords → List (List ℕ)
widen_names w = w.whole ∷ runs_names w.program w.collection

pub record AreWidenTexts (held : Option Held) (w : WidenWords) (texts : WidenTexts) : Type 0 where
  pub whole_read : IsReadOf held w.whole program_limit texts.whole
  pub runs_read : AreRunsTexts held w.program w.collection texts.runs

-- the program has exactly this part of the whole one's sites, and the same functions
abbrev pub HasPart : Part → (whole parts : ProgramParts) → Type 0
HasPart part whole parts = table_of parts ≡ part_table part (table_of whole)

-- the texts spell a program, one with this part of its sites, and a collection of that one's runs
pub record SpellPart (part : Part) (texts : WidenTexts) (whole parts : ProgramParts) (bundle : Bundle) : Type 0 where
  pub whole_spelled : SpellsProgram texts.whole whole
  pub has_part : HasPart part whole parts
  pub runs : SpellRuns texts.runs parts bundle

-- the reports as reports of the program with this text
abbrev pub widened_as : (whole : List ℕ) → Part → Bundle → Bundle
widened_as whole part bundle = widened_bundle (record { bytes = sha256 whole }) part bundle

-- the text that is due
pub record IsWidened (held : Option Held) (w : WidenWords) (text : List ℕ) : Type 0 where
  pub texts : WidenTexts
  pub whole : ProgramParts
  pub parts : ProgramParts
  pub bundle : Bundle
  pub are_texts : AreWidenTexts held w texts
  pub spell : SpellPart w.part texts whole parts bundle
  pub text_is : text ≡ bundle_text Second (widened_as texts.whole w.part bundle)

-- the texts spell two programs and a collection, and the second program hasn't this part of the first one's sites
pub record IsNotPart (part : Part) (texts : WidenTexts) : Type 0 where
  pub whole : ProgramParts
  pub parts : ProgramParts
  pub bundle : Bundle
  pub whole_spelled : SpellsProgram texts.whole whole
  pub spell : SpellBoth texts.runs parts bundle
  pub other : ¬ HasPart part whole parts

-- the second program has it
pub record IsPart (part : Part) (texts : WidenTexts) : Type 0 where
  pub whole : ProgramParts
  pub parts : ProgramParts
  pub whole_spelled : SpellsProgram texts.whole whole
  pub parts_spelled : SpellsProgram texts.runs.program parts
  pub has_part : HasPart part whole parts

-- What is wrong with the bytes read: no program spells the first, or the others are no program and collection of its runs, or the second program
-- hasn't the part.
abbrev pub AreRefusedTexts : Part → WidenTexts → Type 0
AreRefusedTexts part texts = IsNoProgram texts.whole ⊎ (AreRefusedRuns texts.runs ⊎ IsNotPart part texts)

-- Which refusal it is: that of the whole program comes first, then those of the other program and of the collection, then that of the part, and last
-- those of runs that aren't the program's.
abbrev pub RefusesTexts : Part → Refusal → WidenTexts → Type 0
RefusesTexts part (refusal.BadProgram line) texts =
    (IsNoProgram texts.whole × IsWrongAt texts.whole line) ⊎ (IsSpelled texts.whole × RefusesRuns (refusal.BadProgram line) texts.runs)
RefusesTexts part (refusal.BadCollection file line) texts = IsSpelled texts.whole × RefusesRuns (refusal.BadCollection file line) texts.runs
RefusesTexts part refusal.NotPart texts = IsNotPart part texts
RefusesTexts part (refusal.Foreign ours theirs) texts = IsPart part texts × RefusesRuns (refusal.Foreign ours theirs) texts.runs
RefusesTexts part (refusal.NoSite run site) texts = IsPart part texts × RefusesRuns (refusal.NoSite run site) texts.runs
RefusesTexts part _ texts = ⊥

-- the bytes read are refused, and by which refusal
pub record WidenRefused (w : WidenWords) (held : Option Held) : Type 0 where
  pub texts : WidenTexts
  pub are_texts : AreWidenTexts held w texts
  pub refused : AreRefusedTexts w.part texts

pub record WidenRefusedBy (w : WidenWords) (held : Option Held) (refusal : Refusal) : Type 0 where
  pub texts : WidenTexts
  pub are_texts : AreWidenTexts held w texts
  pub refused : RefusesTexts w.part refusal texts
