-- What the command `collect` does: the reports that its files hold are added in their order, and out takes the text of what is held then.
use Rattle.std.specs.Prelude.{◌≡◌, ◌⊎◌, ℕ, ◌+◌, ◌-◌, Bool, true, false, List, [], ◌∷◌, length, codes, MatchBool, nat_eq, Option, Some, Err, Ok}
use Rattle.std.specs.List.{flat_map, starts_with}
use Rattle.sha2.specs.Sha256.{sha256}
use Rattle.cbi_base.specs.Words.{IsBadLine, Held, IsReadOf}
use Rattle.cbi_base.specs.declared.refusal.Refusal.{Refusal}
use Rattle.cbi_base.specs.declared.refusal.Refusal.TheVariants as refusal
use Rattle.flow.specs.declared.program.ProgramParts.{ProgramParts}
use Rattle.flow.specs.declared.site.Site.{Site}
use Rattle.flow.specs.Spelling.{SpellsProgram}
use Rattle.program_file.specs.WrongLine.{IsWrongAt}
use Rattle.report_file.specs.declared.report.Report.{Report}
use Rattle.report_file.specs.Grammar as report
use Rattle.report_file.specs.Spelling.{SpellsReport}
use Rattle.collector.specs.declared.answers.AddFault.{AddFault}
use Rattle.collector.specs.declared.answers.Merged.{Merged}
use Rattle.collector.specs.declared.collection.Bundle.{Bundle}
use Rattle.collector.specs.declared.collection.Held.{Held as Collected}
use Rattle.collector.specs.Collecting.{IsCollection}
use Rattle.collector.specs.Merging.{IsBundle, Merges}
use Rattle.collector.specs.Order.{AreAlike, map_of}
use Rattle.collector.specs.Sites.{branches_of}
use Rattle.collector.specs.Spelling.{SpellsBundle, collection_text}
use Rattle.command_base.specs.declared.done.Done.{Done}
use Rattle.command_base.specs.declared.done.Done.TheVariants.{Added}
use Rattle.command_base.specs.Limits.{program_limit}
use Rattle.command_inputs.specs.Programs.{IsNoProgram, IsSpelled}
use Rattle.command_inputs.specs.Collections.{IsBadCollectionLine, fault_of, file_limit}
use Rattle.cbi_options.specs.declared.words.CollectWords.{CollectWords}
use Rattle.command_collect.specs.declared.reports.CollectTexts.{CollectTexts}

-- the names that are read, in this order
abbrev pub collect_names : CollectWords → List (List ℕ)
collect_names c = c.program ∷ c.files

-- the bytes read of each of the names
abbrev pub AreReadOf : Option Held → List (List ℕ) → List (List ℕ) → Type 0
AreReadOf held [] [] = Unit {0}
AreReadOf held [] (text ∷ texts) = ⊥
AreReadOf held (name ∷ names) [] = ⊥
AreReadOf held (name ∷ names) (text ∷ texts) = IsReadOf held name file_limit text × AreReadOf held names texts

pub record AreCollectTexts (held : Option Held) (c : CollectWords) (texts : CollectTexts) : Type 0 where
  pub program_read : IsReadOf held c.program program_limit texts.program
  pub files_read : AreReadOf held c.files texts.files

-- a text that begins with this word is a collection's, and any other is one report's
abbrev pub is_collection : List ℕ → Bool
is_collection text = starts_with nat_eq text (codes "cbi-collection ")

pub record SpellsOne (text : List ℕ) (bundle : Bundle) : Type 0 where
  pub report : Report
  pub spells : SpellsReport text report
  pub bundle_is : bundle ≡ record { program = report.program; reports = report ∷ [] }

-- the reports that the text holds
abbrev pub SpellsFile : List ℕ → Bundle → Type 0
SpellsFile text bundle = MatchBool (is_collection text) (SpellsBundle text bundle) (SpellsOne text bundle)

abbrev pub AreSpelled : List (List ℕ) → List Bundle → Type 0
AreSpelled [] [] = Unit {0}
AreSpelled [] (bundle ∷ bundles) = ⊥
AreSpelled (text ∷ texts) [] = ⊥
AreSpelled (text ∷ texts) (bundle ∷ bundles) = SpellsFile text bundle × AreSpelled texts bundles

-- nothing is held yet
abbrev pub nothing_of : (program : List ℕ) → List Site → Collected
nothing_of program sites = record { program = record { bytes = sha256 program }; branches = branches_of sites; reports = [] }

-- each can be merged
abbrev pub AreBundles : List Bundle → Type 0
AreBundles [] = Unit {0}
AreBundles (bundle ∷ more) = IsBundle bundle × AreBundles more

-- the reports of all bundles, in their order
abbrev pub reports_in : List Bundle → List Report
reports_in bundles = flat_map (λ b. b.reports) bundles

-- The collection holds each report in the files, each under its own run: neither their order nor their repetition nor their grouping counts. It keeps
-- within the limits of collections.
pub record IsGathered (texts : CollectTexts) (c : Collected) (reports : List Report) : Type 0 where
  pub parts : ProgramParts
  pub bundles : List Bundle
  pub spells : SpellsProgram texts.program parts
  pub are_spelled : AreSpelled texts.files bundles
  pub reports_are : reports ≡ reports_in bundles
  pub alike : AreAlike reports
  pub holds : c ≡ record (nothing_of texts.program parts.sites) { reports = map_of reports }
  pub fits : IsCollection c

-- The text of that collection is due. So many runs are held, and so many reports were held already.
pub record IsCollected (held : Option Held) (c : CollectWords) (said : Done) (text : List ℕ) : Type 0 where
  pub texts : CollectTexts
  pub collection : Collected
  pub reports : List Report
  pub are_texts : AreCollectTexts held c texts
  pub gathered : IsGathered texts collection reports
  pub text_is : text ≡ collection_text collection
  pub said_is : said ≡ Added (length collection.reports) (length reports - length collection.reports)

-- the text of such a collection, whatever is said
pub record IsCollectedText (held : Option Held) (c : CollectWords) (text : List ℕ) : Type 0 where
  pub said : Done
  pub is : IsCollected held c said text

-- the bundles are added in their order, and all are taken
abbrev pub TakesAll : Collected → List Bundle → Collected → Type 0
TakesAll c [] after = after ≡ c
TakesAll c (bundle ∷ more) after = (m : Merged) × (next : Collected) × Merges c bundle (Ok m) next × TakesAll next more after

-- the bundles are added in their order, and this fault comes first
abbrev pub MeetsFault : Collected → List Bundle → AddFault → Type 0
MeetsFault c [] fault = ⊥
MeetsFault c (bundle ∷ more) fault =
    ((after : Collected) × Merges c bundle (Err fault) after)
    ⊎ ((m : Merged) × (next : Collected) × Merges c bundle (Ok m) next × MeetsFault next more fault)

-- the text holds no reports
abbrev pub IsNoFile : List ℕ → Type 0
IsNoFile text = (bundle : Bundle) → SpellsFile text bundle → ⊥

pub record IsFile (text : List ℕ) : Type 0 where
  pub bundle : Bundle
  pub spells : SpellsFile text bundle

-- one of the texts holds no reports
abbrev pub HasNoFile : List (List ℕ) → Type 0
HasNoFile [] = ⊥
HasNoFile (text ∷ more) = IsNoFile text ⊎ HasNoFile more

-- the text with this number holds no reports, and goes wrong at this line
abbrev pub RefusesFile : (number : ℕ) → List ℕ → Refusal → Type 0
RefusesFile number text (refusal.BadReport file line) =
    (is_collection text ≡ false) × ((file ≡ number) × (IsNoFile text × IsBadLine report.ReportLineFollows report.ReportEnds report.report_start text line))
RefusesFile number text (refusal.BadCollection file line) =
    (is_collection text ≡ true) × ((file ≡ number) × (IsNoFile text × IsBadCollectionLine text line))
RefusesFile number text _ = ⊥

-- the first of the texts that holds no reports is refused so; they are numbered from this one on
abbrev pub RefusesFiles : (number : ℕ) → List (List ℕ) → Refusal → Type 0
RefusesFiles number [] refusal = ⊥
RefusesFiles number (text ∷ more) refusal = RefusesFile number text refusal ⊎ (IsFile text × RefusesFiles (number + 1) more refusal)

-- the refusal tells of the fault that comes first where the bundles are added
pub record StopsWith (c : Collected) (bundles : List Bundle) (refusal : Refusal) : Type 0 where
  pub fault : AddFault
  pub tells : fault_of refusal ≡ Some fault
  pub stops : MeetsFault c bundles fault

-- so it is where they are added to a collection that holds nothing
pub record RefusesReports (texts : CollectTexts) (refusal : Refusal) : Type 0 where
  pub parts : ProgramParts
  pub bundles : List Bundle
  pub spells : SpellsProgram texts.program parts
  pub are_spelled : AreSpelled texts.files bundles
  pub stops : StopsWith (nothing_of texts.program parts.sites) bundles refusal

-- the reports are refused
pub record AreNotTaken (texts : CollectTexts) : Type 0 where
  pub refusal : Refusal
  pub refused : RefusesReports texts refusal

-- What is wrong with the bytes read: no program spells the first, or a file holds no reports, or the reports are refused.
abbrev pub AreRefusedTexts : CollectTexts → Type 0
AreRefusedTexts texts = IsNoProgram texts.program ⊎ (HasNoFile texts.files ⊎ AreNotTaken texts)

-- Which refusal it is: that of the program comes first, then that of the first file that holds no reports, and then that of the first report that isn't
-- taken.
abbrev pub RefusesTexts : Refusal → CollectTexts → Type 0
RefusesTexts (refusal.BadProgram line) texts = IsNoProgram texts.program × IsWrongAt texts.program line
RefusesTexts (refusal.BadReport file line) texts = IsSpelled texts.program × RefusesFiles 1 texts.files (refusal.BadReport file line)
RefusesTexts (refusal.BadCollection file line) texts = IsSpelled texts.program × RefusesFiles 1 texts.files (refusal.BadCollection file line)
RefusesTexts refusal texts = RefusesReports texts refusal

-- the bytes read are refused, and by which refusal
pub record CollectRefused (c : CollectWords) (held : Option Held) : Type 0 where
  pub texts : CollectTexts
  pub are_texts : AreCollectTexts held c texts
  pub refused : AreRefusedTexts texts

pub record CollectRefusedBy (c : CollectWords) (held : Option Held) (refusal : Refusal) : Type 0 where
  pub texts : CollectTexts
  pub are_texts : AreCollectTexts held c texts
  pub refused : RefusesTexts refusal texts
