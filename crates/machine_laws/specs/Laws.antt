-- What is true of each run of the machine.
use Rattle.std.specs.Prelude.{◌≡◌, ℕ, List, Option, None, Some, slice_get}
use Rattle.std.specs.List.{All}
use Rattle.cbi_base.specs.declared.observation.Observation.{Observation}
use Rattle.cbi_base.specs.declared.observation.Seen.{Seen}
use Rattle.cbi_base.specs.declared.observation.Seen.TheVariants.{First, Second, Third, Nothing}
use Rattle.collector.specs.Sites.{branches_of, first_bad}
use Rattle.flow.specs.declared.program.ProgramParts.{ProgramParts}
use Rattle.flow.specs.declared.site.Site.{Site}
use Rattle.flow.specs.declared.site.SiteKind.{SiteKind}
use Rattle.flow.specs.declared.site.SiteKind.TheVariants.{Branch, Return, Pair}
use Rattle.flow.specs.Words.{counts_of, MachineEnds, IsProgram, Ending}
use Rattle.report_file.specs.Report.{entries_of}

-- each run ends, traps or is cut
abbrev pub EachRunEnds : Type 0
EachRunEnds =
    (p : ProgramParts) (input : List ℕ) (bank : ℕ → ℕ) (turns : ℕ) → IsProgram p → (ending : Ending) × MachineEnds p input bank turns ending

-- a condition is true or false (C99 6.8.4.1), so a branch sees the first or the second of its truths; the others see each
abbrev pub MaySee : SiteKind → Seen → Type 0
MaySee (Branch word) First = Unit {0}
MaySee (Branch word) Second = Unit {0}
MaySee (Branch word) Third = ⊥
MaySee (Branch word) Nothing = ⊥
MaySee (Return callee) seen = Unit {0}
MaySee (Pair target slot partner) seen = Unit {0}

abbrev pub SeesAt : Option Site → Seen → Type 0
SeesAt None seen = ⊥
SeesAt (Some site) seen = MaySee site.kind seen

-- each was seen at a site that is there, which may see it
abbrev pub AreSeenAt : List Site → List Observation → Type 0
AreSeenAt sites seen = All (λ (o : Observation). SeesAt (slice_get sites o.site) o.seen) seen

abbrev pub SitesSeeWhatTheyMay : Type 0
SitesSeeWhatTheyMay =
    (p : ProgramParts) (input : List ℕ) (bank : ℕ → ℕ) (turns : ℕ) (ending : Ending) → IsProgram p → MachineEnds p input bank turns ending →
    AreSeenAt p.sites ending.seen

-- the entries of a run's report are of sites that are there, and none of a branch has a third counter
abbrev pub ReportsOfRunsAreTaken : Type 0
ReportsOfRunsAreTaken =
    (p : ProgramParts) (input : List ℕ) (bank : ℕ → ℕ) (turns : ℕ) (ending : Ending) → IsProgram p → MachineEnds p input bank turns ending →
    first_bad (branches_of p.sites) (entries_of (counts_of p.sites ending.seen)) ≡ None
