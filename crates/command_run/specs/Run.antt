-- What the command `run` does: the program and the bank that its files spell, how the machine ends the run, what out takes of its output, what the
-- watchers are told, and what the report says.
use Rattle.std.specs.Prelude.{◌≡◌, ◌≤◌, ◌<◌, ◌⊎◌, ℕ, List, length, Option, Some, None}
use Rattle.sha2.specs.Sha256.{sha256}
use Rattle.cbi_base.specs.declared.observation.Observation.{Observation}
use Rattle.cbi_base.specs.Words.{Held, Replaces, MayReplace, Takes, TakesPrefix}
use Rattle.cbi_base.specs.declared.refusal.Refusal.{Refusal}
use Rattle.cbi_base.specs.declared.refusal.Refusal.TheVariants.{BadProgram, BadBank, InputTooLarge}
use Rattle.flow.specs.declared.program.ProgramParts.{ProgramParts}
use Rattle.flow.specs.declared.result.RunResult.{RunResult}
use Rattle.flow.specs.Words.{code_of, run_result, MachineEnds, run_start, Ending, SpellsProgram}
use Rattle.probes.specs.Told.{AllGrew, AllGrewByPrefix}
use Rattle.countdown_bank.specs.Bank.{BankState, AreNumbers, number_after}
use Rattle.countdown_bank.specs.BankFile.{bank_text, IsBadBankLine}
use Rattle.program_file.specs.WrongLine.{IsWrongAt}
use Rattle.machine.specs.Reached.{next_after_steps, seen_in}
use Rattle.report_file.specs.declared.report.Report.{Report}
use Rattle.report_file.specs.Label.{label_of}
use Rattle.report_file.specs.Report.{IsReport, entries_of}
use Rattle.report_file.specs.Spelling.{report_text}
use Rattle.command_base.specs.declared.fault.Fault.{Fault}
use Rattle.command_base.specs.Faults.{LeftBy}
use Rattle.command_base.specs.Outside.{IsUnmoved, Outside}
use Rattle.command_inputs.specs.Programs.{IsNoProgram, IsSpelled}
use Rattle.cbi_options.specs.declared.words.RunWords.{RunWords}
use Rattle.command_run.specs.declared.files.RunFiles.{RunFiles}
use Rattle.command_run.specs.Files.{AreFiles, input_limit}
pub use Rattle.expected.specs.Expected.{is_expected_output}

-- the bank whose text the bytes are, drawn from its first number on
pub record IsBankOf (bytes : List ℕ) (bank : BankState) : Type 0 where
  pub numbers : AreNumbers bank.numbers
  pub text : bytes ≡ bank_text bank
  pub first : bank.position ≡ 0

-- what is wrong with the bytes read: no program spells the first, the second is the text of no bank, or the input is too large
abbrev pub IsNoBank : List ℕ → Type 0
IsNoBank bytes = (bank : BankState) → IsBankOf bytes bank → ⊥

abbrev pub AreRefused : RunFiles → Type 0
AreRefused files = IsNoProgram files.program ⊎ (IsNoBank files.bank ⊎ (input_limit < length files.input))

-- the files give the machine this program, this bank and an input that fits
pub record AreLoaded (held : Option Held) (r : RunWords) (files : RunFiles) (parts : ProgramParts) (bank : BankState) : Type 0 where
  pub are_files : AreFiles held r files
  pub spells : SpellsProgram files.program parts
  pub bank_is : IsBankOf files.bank bank
  pub fits : length files.input ≤ input_limit

-- so ends the run of the program that the files spell, with their bank, on their input, within these turns
pub record RunOf (held : Option Held) (r : RunWords) (files : RunFiles) (parts : ProgramParts) (ending : Ending) : Type 0 where
  pub bank : BankState
  pub loaded : AreLoaded held r files parts bank
  pub ends : MachineEnds parts files.input (number_after bank) r.turns ending

-- the report of a run
abbrev pub report_of : RunWords → RunFiles → RunResult → Report
report_of r files ran = record {
  program = record { bytes = sha256 files.program };
  run = r.run;
  outcome = ran.outcome;
  label = label_of ran.outcome (is_expected_output files.expect ran.output);
  work = ran.work;
  entries = entries_of ran.counts;
}

-- the report can be spelled, and its text is written under the name, where one is given
abbrev pub Reports : Option (List ℕ) → (before after : Option Held) → Report → Type 0
Reports None before after report = after ≡ before
Reports (Some name) before after report = IsReport report × Replaces before after name (report_text report)

-- the write met a fault: the name holds a prefix of the text or what it held
abbrev pub ReportsPart : Option (List ℕ) → (before after : Option Held) → (text : List ℕ) → Type 0
ReportsPart None before after text = ⊥
ReportsPart (Some name) before after text = MayReplace before after name text

-- Out took a prefix of the output and no name was written, or out took the whole output and the write of the report met a fault.
abbrev pub PublishesPart : RunWords → RunFiles → RunResult → (out out_after : Option (List ℕ)) → (held held_after : Option Held) → Type 0
PublishesPart r files ran out out_after held held_after =
    (TakesPrefix out out_after ran.output × (held_after ≡ held))
    ⊎ (Takes out out_after ran.output × ReportsPart r.report held held_after (report_text (report_of r files ran)))

-- so ended the run of what the store's files spell, and its report is written
pub record IsReported (r : RunWords) (before after : Option Held) : Type 0 where
  pub files : RunFiles
  pub parts : ProgramParts
  pub ending : Ending
  pub run : RunOf before r files parts ending
  pub reported : Reports r.report before after (report_of r files (run_result parts.sites ending))

-- the report is written, out took the whole output of the run, and each watcher was told exactly what it observed
pub record Ran {B : Type 0} (told : B → List Observation) (r : RunWords) (before after : Outside B) : Type 0 where
  pub is : IsReported r before.held after.held
  pub took : Takes before.out after.out is.ending.output
  pub grew : AllGrew told is.ending.seen before.boxes after.boxes

-- the run came to its end and each watcher was told exactly what it observed, but not all was written
pub record StoppedWithin {B : Type 0} (told : B → List Observation) (r : RunWords) (before after : Outside B) : Type 0 where
  pub files : RunFiles
  pub parts : ProgramParts
  pub ending : Ending
  pub run : RunOf before.held r files parts ending
  pub grew : AllGrew told ending.seen before.boxes after.boxes
  pub part : PublishesPart r files (run_result parts.sites ending) before.out after.out before.held after.held

-- The run didn't come to its end for want of memory: nothing was written, and each watcher was told a prefix of what the machine observes in so many
-- steps; so also a prefix of what is observed in a run that ends.
pub record BrokeOff {B : Type 0} (told : B → List Observation) (r : RunWords) (before after : Outside B) : Type 0 where
  pub files : RunFiles
  pub parts : ProgramParts
  pub bank : BankState
  pub loaded : AreLoaded before.held r files parts bank
  pub out : after.out ≡ before.out
  pub held : after.held ≡ before.held
  pub steps : ℕ
  pub so_far : AllGrewByPrefix told (seen_in
      (next_after_steps (code_of parts (number_after bank)) steps (run_start parts files.input (number_after bank) r.turns)))
      before.boxes after.boxes
  pub prefix : (ending : Ending) → MachineEnds parts files.input (number_after bank) r.turns ending → AllGrewByPrefix told ending.seen before.boxes after.boxes

-- what a fault of the command leaves
abbrev pub LeftByRun : {B : Type 0} → (told : B → List Observation) → RunWords → Fault → (before after : Outside B) → Type 0
LeftByRun told r fault before after =
    LeftBy fault (IsUnmoved before after) (StoppedWithin told r before after) (λ refusal. IsUnmoved before after)
    (BrokeOff told r before after ⊎ StoppedWithin told r before after)

-- the bytes read are refused
pub record RunRefused (r : RunWords) (held : Option Held) : Type 0 where
  pub files : RunFiles
  pub are_files : AreFiles held r files
  pub refused : AreRefused files

-- a bank has this text
pub record IsBankText (bytes : List ℕ) : Type 0 where
  pub bank : BankState
  pub is : IsBankOf bytes bank

-- Which refusal it is: that of the program comes first, and that of the input last.
abbrev pub RefusesBytes : Refusal → RunFiles → Type 0
RefusesBytes (BadProgram line) files = IsNoProgram files.program × IsWrongAt files.program line
RefusesBytes (BadBank line) files = IsSpelled files.program × (IsNoBank files.bank × IsBadBankLine files.bank line)
RefusesBytes InputTooLarge files = IsSpelled files.program × (IsBankText files.bank × (input_limit < length files.input))
RefusesBytes _ files = ⊥

-- the bytes read are refused by this refusal
pub record RunRefusedBy (r : RunWords) (held : Option Held) (refusal : Refusal) : Type 0 where
  pub files : RunFiles
  pub are_files : AreFiles held r files
  pub refused : RefusesBytes refusal files
