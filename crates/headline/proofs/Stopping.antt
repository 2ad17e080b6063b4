-- Where reports may be taken, bundles of them stop for want of memory alone.
use Rattle.std.specs.Prelude.{is_err}
use Rattle.std.proofs.Common.{◌≡◌, ◌≤◌, inl, inr, ℕ, ◌+◌, List, [], ◌∷◌, ◌++◌, length, Ok, Err, ap, sym, subst, ◌∙◌, refl, arith, append-nil}
use Rattle.std.proofs.lemmas.Bool.{false≢true}
use Rattle.sha2.specs.Sha256.{sha256}
use Rattle.cbi_base.specs.ProgramId.{IsId}
use Rattle.flow.specs.declared.site.Site.{Site}
use Rattle.report_file.specs.declared.report.Report.{Report}
use Rattle.collector.specs.declared.answers.Added.TheVariants.{New, Repeated}
use Rattle.collector.specs.declared.answers.AddFault.{AddFault}
use Rattle.collector.specs.declared.answers.AddFault.TheVariants as fault
use Rattle.collector.specs.declared.answers.Merged.{Merged}
use Rattle.collector.specs.declared.collection.Bundle.{Bundle}
use Rattle.collector.specs.declared.collection.Held.{Held as Collected}
use Rattle.collector.specs.Collected.{mark_limit, marks_of, report_limit}
use Rattle.collector.specs.Collecting.{AreOfCollection, IsCollection, MayTake}
use Rattle.collector.specs.Merging.{AddsAll, OfAnother, OfThis}
use Rattle.collector.specs.Order.{AreAlike, map_of}
use Rattle.command_collect.specs.Collect.{MeetsFault, nothing_of, reports_in}
use Rattle.command_inputs.specs.Runs.{HaveSites}
use Rattle.headline.proofs.HeadlineRuns.{AreOfFile}

-- a fault of some reports is one of them and others behind
stops-early : (c after : Collected) (xs ys : List Report) (a p : ℕ) (why : AddFault) → AddsAll c xs a p (Err why) after → AddsAll c (xs ++ ys) a p (Err why) after
stops-early c after [] ys a p why stops = absurd (false≢true (ap is_err (sym stops.0)))
stops-early c after (r ∷ more) ys a p why (Ok New, next, adds, rest) = (Ok New, next, adds, stops-early next after more ys (a + 1) p why rest)
stops-early c after (r ∷ more) ys a p why (Ok Repeated, next, adds, rest) = (Ok Repeated, next, adds, stops-early next after more ys a (p + 1) why rest)
stops-early c after (r ∷ more) ys a p why (Err f, next, adds, rest) = (Err f, next, adds, rest)

-- the program of a collection stays
keeps-program : (c after : Collected) (reports : List Report) (a p : ℕ) (m : Merged) → AddsAll c reports a p (Ok m) after → after.program ≡ c.program
keeps-program c after [] a p m adds = ap (λ (x : Collected). x.program) adds.1
keeps-program c after (r ∷ more) a p m (Ok New, next, adds, rest) = keeps-program next after more (a + 1) p m rest ∙ ap (λ (x : Collected). x.program) adds.4
keeps-program c after (r ∷ more) a p m (Ok Repeated, next, adds, rest) = keeps-program next after more a (p + 1) m rest ∙ ap (λ (x : Collected). x.program) adds.2
keeps-program c after (r ∷ more) a p m (Err f, next, adds, rest) = absurd (false≢true (ap is_err rest.0))

abbrev pub GroupsRefused : Type 0
GroupsRefused = (c via after : Collected) (xs ys : List Report) (first : Merged) (why : AddFault) → AddsAll c xs 0 0 (Ok first) via → AddsAll via ys 0 0 (Err why) after → AddsAll c (xs ++ ys) 0 0 (Err why) after

-- a fault of bundles of the program is one of their reports
stops-as-one : GroupsRefused → (file : List ℕ) (c : Collected) (bundles : List Bundle) (why : AddFault) → c.program ≡ record { bytes = sha256 file } → AreOfFile file bundles → MeetsFault c bundles why
    → (after : Collected) × AddsAll c (reports_in bundles) 0 0 (Err why) after
stops-as-one groups file c [] why is of stops = absurd stops
stops-as-one groups file c (b ∷ more) why is of (inl (after, OfAnother f)) = absurd (f.other (of.0 ∙ sym is))
stops-as-one groups file c (b ∷ more) why is of (inl (after, OfThis same adds)) = (after, stops-early c after b.reports (reports_in more) 0 0 why adds)
stops-as-one groups file c (b ∷ more) why is of (inr (m, next, OfAnother f, stops)) = absurd (false≢true (ap is_err f.result_is))
stops-as-one groups file c (b ∷ more) why is of (inr (m, next, OfThis same adds, stops)) =
    let via = stops-as-one groups file next more why (keeps-program c next b.reports 0 0 m adds ∙ is) of.1 stops in
    (via.0, groups c next via.0 b.reports (reports_in more) m why adds via.1)

-- a collection that holds nothing
begins-whole : (program : List ℕ) (sites : List Site) → IsId (record { bytes = sha256 program }) → IsCollection (nothing_of program sites)
begins-whole program sites id = record {
  program = id;
  rising = tt;
  reports = tt;
  ours = λ r no. absurd no;
  few = omega arith;
  few_marks = omega arith;
}

abbrev pub TakenFault : Type 0
TakenFault = (c after : Collected) (reports : List Report) (why : AddFault) → IsCollection c → MayTake c reports → AddsAll c reports 0 0 (Err why) after → why ≡ fault.Memory

-- bundles whose reports may be taken stop for want of memory alone
pub only-memory : GroupsRefused → TakenFault → (program : List ℕ) (sites : List Site) (bundles : List Bundle) (why : AddFault) → IsId (record { bytes = sha256 program })
    → AreOfFile program bundles → AreOfCollection (nothing_of program sites) (reports_in bundles) → AreAlike (reports_in bundles) → length (map_of (reports_in bundles)) ≤ report_limit
    → marks_of (map_of (reports_in bundles)) ≤ mark_limit → MeetsFault (nothing_of program sites) bundles why → why ≡ fault.Memory
only-memory groups taken program sites bundles why id of ours alike few few_marks stops =
    let reports = reports_in bundles in
    let same = sym (append-nil reports) in
    let one = stops-as-one groups program (nothing_of program sites) bundles why refl of stops in
    let may : MayTake (nothing_of program sites) reports = record {
      ours = ours;
      alike = subst AreAlike same alike;
      few = subst (λ xs. length (map_of xs) ≤ report_limit) same few;
      few_marks = subst (λ xs. marks_of (map_of xs) ≤ mark_limit) same few_marks;
    } in
    taken (nothing_of program sites) one.0 reports why (begins-whole program sites id) may one.1

-- the reports of a collection are of its sites
pub have-sites : (c : Collected) (reports : List Report) → AreOfCollection c reports → HaveSites c.branches reports
have-sites c [] ours = tt
have-sites c (r ∷ more) ours = ((ours r (inl refl)).sites, have-sites c more (λ x is. ours x (inr is)))
