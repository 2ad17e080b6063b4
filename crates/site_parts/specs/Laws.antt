-- What the widened reports of the parts are to one another and to the whole, in the subject's own words.
use Rattle.std.specs.Prelude.{◌≡◌, ℕ, ◌<◌, ◌≤◌, List, length, None}
use Rattle.std.specs.List.{All}
use Rattle.flow.specs.Words.{PartFits, part_limit, counts_of, site_limit, MachineEnds, ArePlain, IsReady, Ending}
use Rattle.cbi_base.specs.declared.observation.Observation.{Observation}
use Rattle.flow.specs.declared.program.ProgramParts.{ProgramParts}
use Rattle.flow.specs.declared.site.Site.{Site}
use Rattle.report_file.specs.declared.report.Entry.{Entry}
use Rattle.report_file.specs.Report.{Among, entries_of}
use Rattle.collector.specs.Sites.{branches_of, first_bad}
use Rattle.flow.specs.declared.choice.Part.{Part}
use Rattle.program_parts.specs.Laws.{part_at}
use Rattle.program_parts.specs.Part.{part_of, part_visits}
use Rattle.program_parts.specs.Program.{part_program}
use Rattle.program_parts.specs.Runs.{IsFaulty}
use Rattle.site_parts.specs.Widened.{MayWiden, widened_entries}

-- what fits the table of a part fits the whole table, once widened
abbrev pub FitsWhenWidened : Type 0
FitsWhenWidened =
    (part : Part) (sites : List Site) (entries : List Entry) → PartFits part → first_bad (branches_of (part_of part sites)) entries ≡ None →
    first_bad (branches_of sites) (widened_entries part entries) ≡ None

-- and may be widened, where the whole table has as few sites as a table may have
abbrev pub MayWidenWhatFits : Type 0
MayWidenWhatFits =
    (part : Part) (sites : List Site) (entries : List Entry) → PartFits part → length sites ≤ site_limit →
    first_bad (branches_of (part_of part sites)) entries ≡ None → MayWiden part entries

-- the entries of the parts, widened and put side by side, are these
pub record AreSideBySide (count : ℕ) (of_part : ℕ → List Entry) (whole : List Entry) : Type 0 where
  pub each : (e : Entry) → Among e whole → (index : ℕ) × (index < count) × Among e (widened_entries (part_at count index) (of_part index))
  pub only : (e : Entry) (index : ℕ) → index < count → Among e (widened_entries (part_at count index) (of_part index)) → Among e whole

-- where each part observed its part of the visits, the counters of all parts are those of all visits
abbrev pub EntriesOfParts : Type 0
EntriesOfParts =
    (count : ℕ) (sites : List Site) (visits : List Observation) → 1 ≤ count → count ≤ part_limit →
    AreSideBySide count (λ index. entries_of (counts_of (part_of (part_at count index) sites) (part_visits (part_at count index) visits)))
    (entries_of (counts_of sites visits))

-- a farm: each machine runs the program of one part on the same input. The counters of all parts are those of the whole program's run, unless that
-- meets a fault of the program itself
abbrev pub FarmsCountTheWhole : Type 0
FarmsCountTheWhole =
    (p : ProgramParts) (count : ℕ) (input : List ℕ) (bank : ℕ → ℕ) (turns : ℕ) (whole : Ending) (of_part : ℕ → Ending)
    → All (λ f. ArePlain f.nodes) p.functions →
    IsReady p → 1 ≤ count → count ≤ part_limit → MachineEnds p input bank turns whole → (IsFaulty whole → ⊥) →
    ((index : ℕ) → index < count → MachineEnds (part_program (part_at count index) p) input bank turns (of_part index)) →
    AreSideBySide count (λ index. entries_of (counts_of (part_of (part_at count index) p.sites) (of_part index).seen))
    (entries_of (counts_of p.sites whole.seen))
