-- What a report may say, and the entries of a run.
use Rattle.std.specs.Prelude.{◌≡◌, ◌⊎◌, ℕ, ◌+◌, ◌≤◌, Bool, ◌||◌, if◌then◌else◌, nat_lt, List, [], ◌∷◌, length, Option, None, Some, IsTrue}
use Rattle.std.specs.List.{filter_map, enumerate_from}
use Rattle.cbi_base.specs.Words.{LiesIn, IsId}
use Rattle.cbi_base.specs.declared.scalar.Kind.TheVariants.{Int}
use Rattle.cbi_base.specs.declared.outcome.Outcome.{Outcome}
use Rattle.cbi_base.specs.declared.outcome.Outcome.TheVariants.{Ended, Trapped, CutTurns, CutOutput}
use Rattle.cbi_base.specs.declared.outcome.Work.{Work}
use Rattle.cbi_base.specs.declared.outcome.Counts.{Counts}
use Rattle.report_file.specs.declared.report.Entry.{Entry}
use Rattle.report_file.specs.declared.report.Report.{Report}
use Rattle.report_file.specs.declared.report.RunSummary.{RunSummary}

-- the greatest counter, the greatest number of a run and the greatest number of a site
abbrev pub greatest_count : ℕ
greatest_count = 9999999999999999

abbrev pub greatest_run : ℕ
greatest_run = 4294967295

abbrev pub greatest_site : ℕ
greatest_site = 65535

pub record IsWork (w : Work) : Type 0 where
  pub fast : w.fast ≤ greatest_count
  pub slow : w.slow ≤ greatest_count
  pub tests : w.tests ≤ greatest_count

pub record AreCounts (c : Counts) : Type 0 where
  pub first : c.first ≤ greatest_count
  pub second : c.second ≤ greatest_count
  pub third : c.third ≤ greatest_count

-- one of the counters is positive
abbrev pub is_positive : Counts → Bool
is_positive c = nat_lt 0 c.first || (nat_lt 0 c.second || nat_lt 0 c.third)

pub record IsEntry (e : Entry) : Type 0 where
  pub site : e.site ≤ greatest_site
  pub counts : AreCounts e.counts
  pub positive : IsTrue (is_positive e.counts)

-- a run ends with a status that is an `int`
abbrev pub IsOutcome : Outcome → Type 0
IsOutcome (Ended status) = LiesIn Int status
IsOutcome (Trapped trap) = Unit {0}
IsOutcome CutTurns = Unit {0}
IsOutcome CutOutput = Unit {0}

pub record IsRun (run : ℕ) : Type 0 where
  pub least : 1 ≤ run
  pub most : run ≤ greatest_run

-- each entry has this site or a greater one, and a greater one than the entry before it
abbrev pub RiseFrom : ℕ → List Entry → Type 0
RiseFrom site [] = Unit {0}
RiseFrom site (e ∷ more) = (site ≤ e.site) × RiseFrom (e.site + 1) more

abbrev pub AreEntries : List Entry → Type 0
AreEntries [] = Unit {0}
AreEntries (e ∷ more) = IsEntry e × AreEntries more

-- a report that has a text
pub record IsReport (r : Report) : Type 0 where
  pub program : IsId r.program
  pub run : IsRun r.run
  pub outcome : IsOutcome r.outcome
  pub work : IsWork r.work
  pub entries : AreEntries r.entries
  pub rising : RiseFrom 0 r.entries

-- the entries of a run: the sites with a positive counter, in their order
abbrev pub entry_of : ℕ × Counts → Option Entry
entry_of site = if is_positive site.1 then Some (record { site = site.0; counts = site.1 }) else None

abbrev pub entries_of : List Counts → List Entry
entries_of counts = filter_map entry_of (enumerate_from 0 counts)

-- what a report can be made of: few enough sites, and numbers that it can have
abbrev pub AreAllCounts : List Counts → Type 0
AreAllCounts [] = Unit {0}
AreAllCounts (c ∷ more) = AreCounts c × AreAllCounts more

pub record IsSummary (s : RunSummary) : Type 0 where
  pub few : length s.counts ≤ greatest_site + 1
  pub work : IsWork s.work
  pub counts : AreAllCounts s.counts

-- the entry is one of these
abbrev pub Among : Entry → List Entry → Type 0
Among e [] = ⊥
Among e (x ∷ more) = (e ≡ x) ⊎ Among e more
