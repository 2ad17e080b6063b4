-- What is read of the file of a program and of that of a collection of its runs, and when it is refused.
use Rattle.std.specs.Prelude.{◌≡◌, ◌≢◌, ◌⊎◌, ℕ, Bool, List, [], ◌∷◌, Option, None, Some}
use Rattle.sha2.specs.Sha256.{sha256}
use Rattle.cbi_base.specs.Store.{Held, IsReadOf}
use Rattle.cbi_base.specs.declared.identity.ProgramId.{ProgramId}
use Rattle.cbi_base.specs.declared.refusal.Refusal.{Refusal}
use Rattle.cbi_base.specs.declared.refusal.Refusal.TheVariants.{BadProgram, BadCollection, Foreign, NoSite}
use Rattle.flow.specs.declared.program.ProgramParts.{ProgramParts}
use Rattle.flow.specs.Spelling.{SpellsProgram}
use Rattle.program_file.specs.WrongLine.{IsWrongAt}
use Rattle.report_file.specs.declared.report.Report.{Report}
use Rattle.collector.specs.declared.collection.Bundle.{Bundle}
use Rattle.collector.specs.declared.collection.Held.{Held as Collected}
use Rattle.collector.specs.Sites.{branches_of, first_bad}
use Rattle.collector.specs.Spelling.{SpellsBundle}
use Rattle.command_base.specs.Limits.{program_limit}
use Rattle.command_inputs.specs.Programs.{IsNoProgram, IsSpelled}
use Rattle.command_inputs.specs.Collections.{IsBadCollectionLine, IsNoCollection, file_limit}
use Rattle.command_inputs.specs.declared.runs.RunsTexts.{RunsTexts}

-- the names that are read, in this order
abbrev pub runs_names : (program collection : List ℕ) → List (List ℕ)
runs_names program collection = program ∷ collection ∷ []

pub record AreRunsTexts (held : Option Held) (program collection : List ℕ) (texts : RunsTexts) : Type 0 where
  pub program_read : IsReadOf held program program_limit texts.program
  pub collection_read : IsReadOf held collection file_limit texts.collection

-- the texts spell this program and this collection
pub record SpellBoth (texts : RunsTexts) (parts : ProgramParts) (bundle : Bundle) : Type 0 where
  pub program : SpellsProgram texts.program parts
  pub collection : SpellsBundle texts.collection bundle

-- the collection is of the program with this text
abbrev pub IsOfText : List ℕ → Bundle → Type 0
IsOfText program bundle = bundle.program ≡ record { bytes = sha256 program }

-- each entry of the reports is of a site that is there
abbrev pub HaveSites : List Bool → List Report → Type 0
HaveSites branches [] = Unit {0}
HaveSites branches (r ∷ more) = (first_bad branches r.entries ≡ None) × HaveSites branches more

-- the first of the reports for which that isn't so is of this run, and its first entry for which it isn't names this site
abbrev pub IsFirstBad : List Bool → List Report → (run site : ℕ) → Type 0
IsFirstBad branches [] run site = ⊥
IsFirstBad branches (r ∷ more) run site =
    ((run ≡ r.run) × (first_bad branches r.entries ≡ Some site)) ⊎ ((first_bad branches r.entries ≡ None) × IsFirstBad branches more run site)

-- the texts spell this program and this collection of its runs
pub record SpellRuns (texts : RunsTexts) (parts : ProgramParts) (bundle : Bundle) : Type 0 where
  pub spell : SpellBoth texts parts bundle
  pub of_program : IsOfText texts.program bundle
  pub sites : HaveSites (branches_of parts.sites) bundle.reports

-- the collection holds the runs that the texts spell
pub record HoldsRuns (texts : RunsTexts) (parts : ProgramParts) (c : Collected) : Type 0 where
  pub bundle : Bundle
  pub spell : SpellRuns texts parts bundle
  pub branches : c.branches ≡ branches_of parts.sites
  pub reports : c.reports ≡ bundle.reports

-- the collection is of another program, or a report of it has an entry of a site that the program hasn't
pub record AreNotRuns (texts : RunsTexts) : Type 0 where
  pub parts : ProgramParts
  pub bundle : Bundle
  pub spell : SpellBoth texts parts bundle
  pub wrong : (¬ IsOfText texts.program bundle) ⊎ (¬ HaveSites (branches_of parts.sites) bundle.reports)

-- What is wrong with the bytes read: no program spells the first, or no collection the second, or it isn't one of the program's runs.
abbrev pub AreRefusedRuns : RunsTexts → Type 0
AreRefusedRuns texts = IsNoProgram texts.program ⊎ (IsNoCollection texts.collection ⊎ AreNotRuns texts)

-- the collection is of the program with the second identity, and the program has the first one
pub record AreForeign (texts : RunsTexts) (ours theirs : ProgramId) : Type 0 where
  pub parts : ProgramParts
  pub bundle : Bundle
  pub spell : SpellBoth texts parts bundle
  pub ours_is : ours ≡ record { bytes = sha256 texts.program }
  pub theirs_is : theirs ≡ bundle.program
  pub other : theirs ≢ ours

-- the collection is of the program, and its report of this run is the first with a site that isn't there, which is this one
pub record HaveNoSite (texts : RunsTexts) (run site : ℕ) : Type 0 where
  pub parts : ProgramParts
  pub bundle : Bundle
  pub spell : SpellBoth texts parts bundle
  pub of_program : IsOfText texts.program bundle
  pub first : IsFirstBad (branches_of parts.sites) bundle.reports run site

-- Which refusal it is: that of the program comes first, then that of the collection, then that of another program, and then that of a site.
abbrev pub RefusesRuns : Refusal → RunsTexts → Type 0
RefusesRuns (BadProgram line) texts = IsNoProgram texts.program × IsWrongAt texts.program line
RefusesRuns (BadCollection file line) texts =
    IsSpelled texts.program × ((file ≡ 1) × (IsNoCollection texts.collection × IsBadCollectionLine texts.collection line))
RefusesRuns (Foreign ours theirs) texts = AreForeign texts ours theirs
RefusesRuns (NoSite run site) texts = HaveNoSite texts run site
RefusesRuns _ texts = ⊥

-- so a program and a collection of its runs are read
pub record AreRunsOf (held : Option Held) (program collection : List ℕ) (parts : ProgramParts) (c : Collected) : Type 0 where
  pub texts : RunsTexts
  pub are_texts : AreRunsTexts held program collection texts
  pub holds : HoldsRuns texts parts c

-- the bytes read are refused, and by which refusal
pub record RunsRefused (held : Option Held) (program collection : List ℕ) : Type 0 where
  pub texts : RunsTexts
  pub are_texts : AreRunsTexts held program collection texts
  pub refused : AreRefusedRuns texts

pub record RunsRefusedBy (held : Option Held) (program collection : List ℕ) (refusal : Refusal) : Type 0 where
  pub texts : RunsTexts
  pub are_texts : AreRunsTexts held program collection texts
  pub refused : RefusesRuns refusal texts
