-- What is refused of the files of a run, and what a run leaves.
use Rattle.std.proofs.Common.{◌≡◌, ◌≤◌, ◌<◌, ◌⊎◌, inl, inr, ℕ, List, [], length, Option, Some, None, IsSome, sym, subst, ◌∙◌, arith}
use Rattle.cbi_base.specs.declared.observation.Observation.{Observation}
use Rattle.cbi_base.specs.Words.{Held, Takes}
use Rattle.cbi_base.specs.declared.refusal.Refusal.{Refusal}
use Rattle.cbi_base.specs.declared.refusal.Refusal.TheVariants.{BadProgram, BadBank, InputTooLarge}
use Rattle.flow.specs.declared.program.ProgramParts.{ProgramParts}
use Rattle.flow.specs.declared.result.RunResult.{RunResult}
use Rattle.flow.specs.Words.{code_of, MachineEnds, run_start, SpellsProgram}
use Rattle.probes.specs.Told.{AllGrewByPrefix}
use Rattle.countdown_bank.specs.Bank.{BankState, number_after}
use Rattle.machine.specs.Going.{HasRun, IsWanting}
use Rattle.machine.specs.Reached.{next_after_steps, seen_in}
use Rattle.planned_runs.proofs.Adding.{length_counts}
use Rattle.command_base.specs.Limits.{program_limit}
use Rattle.command_base.specs.Outside.{Outside}
use Rattle.command_base.proofs.ReadLemmas.{read-once}
use Rattle.command_inputs.specs.Programs.{IsBadProgram, IsNoProgram}
use Rattle.cbi_options.specs.declared.words.RunWords.{RunWords}
use Rattle.command_run.specs.declared.files.RunFiles.{RunFiles}
use Rattle.command_run.specs.Files.{AreFiles, IsReadOr, bank_limit, input_limit, text_of_one}
use Rattle.command_run.specs.Run.{AreLoaded, AreRefused, RefusesBytes, BrokeOff, IsBankOf, IsNoBank, PublishesPart, Ran, Reports, RunRefused, StoppedWithin, report_of}

read-or-once : (otherwise : List ℕ) (held : Option Held) (name : Option (List ℕ)) (max : ℕ) (a b : List ℕ) → IsSome held → IsReadOr otherwise held name max a → IsReadOr otherwise held name max b → a ≡ b
read-or-once otherwise held None max a b tells p q = p ∙ sym q
read-or-once otherwise held (Some name) max a b tells p q = read-once held name max a b tells p q

-- the files' bytes are refused where any bytes read of them are
pub same-refused : (held : Option Held) (words : RunWords) (files : RunFiles) → IsSome held → AreFiles held words files → RunRefused words held → AreRefused files
same-refused held words files tells are refused =
    let program = read-once held words.program program_limit _ _ tells refused.are_files.program_read are.program_read in
    let bank = read-or-once text_of_one held words.bank bank_limit _ _ tells refused.are_files.bank_read are.bank_read in
    let input = read-or-once [] held words.input input_limit _ _ tells refused.are_files.input_read are.input_read in
    subst (λ x. IsNoProgram files.program ⊎ (IsNoBank files.bank ⊎ (input_limit < length x))) input
    (subst (λ x. IsNoProgram files.program ⊎ (IsNoBank x ⊎ (input_limit < length refused.files.input))) bank
    (subst (λ x. IsNoProgram x ⊎ (IsNoBank refused.files.bank ⊎ (input_limit < length refused.files.input))) program refused.refused))

-- bytes that spell a program and a bank, and an input that fits, aren't refused
pub never-refused : (files : RunFiles) (p : ProgramParts) (b : BankState) → SpellsProgram files.program p → IsBankOf files.bank b → length files.input ≤ input_limit → AreRefused files → ⊥
never-refused files p b spells is fits (inl none) = none p spells
never-refused files p b spells is fits (inr (inl none)) = none b is
never-refused files p b spells is fits (inr (inr large)) = omega arith

-- a run that ended, whose output was taken and whose report was written, from a store that still holds what was read
pub ran-whole : {B : Type 0} (told : B → List Observation) (r : RunWords) (before after : Outside B) (files : RunFiles) (parts : ProgramParts) (bank rest : BankState) (slice : List ℕ) (ran : RunResult) (held : Option Held) →
    slice ≡ files.input → held ≡ before.held → AreLoaded before.held r files parts bank → HasRun parts slice r.turns ran bank rest told before.boxes after.boxes →
    Takes before.out after.out ran.output → Reports r.report held after.held (report_of r files ran) → Ran told r before after
ran-whole told r before after files parts bank rest slice ran held same still l h took reported = record {
  is = record {
    files = files;
    parts = parts;
    ending = h.ending;
    run = record { bank = bank; loaded = l; ends = subst (λ i. MachineEnds parts i (number_after bank) r.turns h.ending) same h.ends };
    reported = subst (λ (x : RunResult). Reports r.report before.held after.held (report_of r files x)) h.result_is
        (subst (λ s. Reports r.report s after.held (report_of r files ran)) still reported);
  };
  took = subst (λ (x : RunResult). Takes before.out after.out x.output) h.result_is took;
  grew = h.grew;
}

-- one of which not all was written
pub stopped : {B : Type 0} (told : B → List Observation) (r : RunWords) (before after : Outside B) (files : RunFiles) (parts : ProgramParts) (bank rest : BankState) (slice : List ℕ) (ran : RunResult) (held : Option Held) →
    slice ≡ files.input → held ≡ before.held → AreLoaded before.held r files parts bank → HasRun parts slice r.turns ran bank rest told before.boxes after.boxes →
    PublishesPart r files ran before.out after.out held after.held → StoppedWithin told r before after
stopped told r before after files parts bank rest slice ran held same still l h part = record {
  files = files;
  parts = parts;
  ending = h.ending;
  run = record { bank = bank; loaded = l; ends = subst (λ i. MachineEnds parts i (number_after bank) r.turns h.ending) same h.ends };
  grew = h.grew;
  part = subst (λ (x : RunResult). PublishesPart r files x before.out after.out before.held after.held) h.result_is
      (subst (λ s. PublishesPart r files ran before.out after.out s after.held) still part);
}

-- one that didn't end
pub broke : {B : Type 0} (told : B → List Observation) (r : RunWords) (before after : Outside B) (files : RunFiles) (parts : ProgramParts) (bank rest : BankState) (slice : List ℕ) →
    slice ≡ files.input → AreLoaded before.held r files parts bank → after.out ≡ before.out → after.held ≡ before.held → IsWanting parts slice r.turns bank rest told before.boxes after.boxes → BrokeOff told r before after
broke told r before after files parts bank rest slice same l out held w = record {
  files = files;
  parts = parts;
  bank = bank;
  loaded = l;
  out = out;
  held = held;
  steps = w.steps;
  so_far = subst (λ i. AllGrewByPrefix told (seen_in (next_after_steps (code_of parts (number_after bank)) w.steps (run_start parts i (number_after bank) r.turns))) before.boxes after.boxes) same w.so_far;
  prefix = λ ending ends. w.prefix ending (subst (λ i. MachineEnds parts i (number_after bank) r.turns ending) (sym same) ends);
}

-- the summary of a run fits a report
pub few-counts : (bytes : List ℕ) (parts : ProgramParts) (input : List ℕ) (turns : ℕ) (ran : RunResult) (bank rest : BankState) {B : Type 0} (told : B → List Observation) (before now : List B) →
    SpellsProgram bytes parts → HasRun parts input turns ran bank rest told before now → length ran.counts ≤ 65536
few-counts bytes parts input turns ran bank rest told before now spells h =
    subst (λ (x : RunResult). length x.counts ≤ 65536) (sym h.result_is)
    (subst (λ n. n ≤ 65536) (sym (length_counts 0 parts.sites h.ending.seen)) spells.is_program.parts.sites.few)

-- what was read is loaded
pub loaded : (held : Option Held) (r : RunWords) (files : RunFiles) (parts : ProgramParts) (bank : BankState) → AreFiles held r files → SpellsProgram files.program parts → IsBankOf files.bank bank → length files.input ≤ input_limit → AreLoaded held r files parts bank
loaded held r files parts bank are spells is fits = record { are_files = are; spells = spells; bank_is = is; fits = fits }

-- a text that is no program is refused so
pub bad-program : (files : RunFiles) (refusal : Refusal) → IsBadProgram files.program refusal → RefusesBytes refusal files
bad-program files refusal h = subst (λ r. RefusesBytes r files) (sym h.refusal_is) (h.none, h.wrong)

-- what is wrong with the bytes that are refused
refuses-bytes : (refusal : Refusal) (files : RunFiles) → RefusesBytes refusal files → AreRefused files
refuses-bytes (BadProgram line) files h = inl h.0
refuses-bytes (BadBank line) files h = inr (inl h.1.0)
refuses-bytes InputTooLarge files h = inr (inr h.1.1)
refuses-bytes refusal files h = absurd h

pub run-refused : (words : RunWords) (held : Option Held) (files : RunFiles) (refusal : Refusal) → AreFiles held words files → RefusesBytes refusal files → RunRefused words held
run-refused words held files refusal are h = record { files = files; are_files = are; refused = refuses-bytes refusal files h }
