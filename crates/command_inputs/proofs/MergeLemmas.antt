-- What a collection that holds nothing comes to, where a bundle that has a text is added to it: it holds the bundle's reports, or the fault tells of
-- another program or of the first site that isn't there.
use Rattle.std.specs.Prelude.{is_err}
use Rattle.std.proofs.Common.{◌≡◌, ◌≢◌, ◌≤◌, ◌<◌, inl, inr, ℕ, ◌+◌, Bool, cond, ◌==◌, List, [], ◌∷◌, ◌++◌, length, Ok, Err, Some, None, refl, ap, sym, subst, ◌∙◌, arith, append-nil, append_assoc}
use Rattle.std.proofs.lemmas.Bool.{false≢true, le-ltb}
use Rattle.collector.proofs.Taking.{err-is}
use Rattle.base_lists.proofs.Options.{none_some}
use Rattle.base_lists.proofs.Numbers.{other_number}
use Rattle.cbi_base.specs.declared.identity.ProgramId.{ProgramId}
use Rattle.report_file.specs.declared.report.Report.{Report}
use Rattle.collector.specs.declared.answers.Added.TheVariants.{New, Repeated}
use Rattle.collector.specs.declared.answers.AddFault.{AddFault}
use Rattle.collector.specs.declared.answers.AddFault.TheVariants.{Foreign, NoSite, Conflict, TooManyReports, TooManyMarks, Memory}
use Rattle.collector.specs.declared.answers.Merged.{Merged}
use Rattle.collector.specs.declared.collection.Bundle.{Bundle}
use Rattle.collector.specs.declared.collection.Held.{Held}
use Rattle.collector.specs.Collected.{Adds, mark_limit, marks_of, report_at, report_limit, with_report}
use Rattle.collector.specs.Merging.{AddsAll, AreOfBundle, Merges, OfAnother, OfThis}
use Rattle.collector.specs.Sites.{first_bad}
use Rattle.collector.specs.Spelling.{IsText, RunsFrom}
use Rattle.command_inputs.specs.Runs.{HaveSites, IsFirstBad}

abbrev pub holding : ProgramId → List Bool → List Report → Held
holding id branches reports = record { program = id; branches = branches; reports = reports }

-- each of the runs is below this one
abbrev AreBelow : ℕ → List Report → Type 0
AreBelow run [] = Unit {0}
AreBelow run (x ∷ more) = (x.run < run) × AreBelow run more

below-later : (run later : ℕ) (xs : List Report) → run ≤ later → AreBelow run xs → AreBelow later xs
below-later run later [] least below = tt
below-later run later (x ∷ more) least below = (omega (arith, least, below.0), below-later run later more least below.1)

below-last : (r : Report) (xs : List Report) → AreBelow r.run xs → AreBelow (r.run + 1) (xs ++ r ∷ [])
below-last r [] below = (omega arith, tt)
below-last r (x ∷ more) below = (omega (arith, below.0), below-last r more below.1)

not-held : (run : ℕ) (xs : List Report) → AreBelow run xs → report_at run xs ≡ None
not-held run [] below = refl
not-held run (x ∷ more) below =
    ap (λ b. cond b (Some x) (report_at run more)) (other_number run x.run (λ e. omega (arith, below.0, e))) ∙ not-held run more below.1

with-last : (r : Report) (xs : List Report) → AreBelow r.run xs → with_report r xs ≡ xs ++ r ∷ []
with-last r [] below = refl
with-last r (x ∷ more) below =
    ap (λ b. cond b (r ∷ x ∷ more) (cond (r.run == x.run) (r ∷ more) (x ∷ with_report r more))) (le-ltb r.run x.run (omega (arith, below.0)))
    ∙ ap (λ b. cond b (r ∷ more) (x ∷ with_report r more)) (other_number r.run x.run (λ e. omega (arith, below.0, e)))
    ∙ ap (λ rest. x ∷ rest) (with-last r more below.1)

length-last : (r : Report) (xs : List Report) → length (xs ++ r ∷ []) ≡ length xs + 1
length-last r [] = omega arith
length-last r (x ∷ more) = omega (arith, length-last r more)

marks-last : (r : Report) (xs : List Report) → marks_of (xs ++ r ∷ []) ≡ marks_of xs + length r.entries
marks-last r [] = omega arith
marks-last r (x ∷ more) = omega (arith, marks-last r more)

-- the reports that are left come behind those held, and there is room for them
record IsRoom (from : ℕ) (xs ys : List Report) : Type 0 where
  below : AreBelow from xs
  rising : RunsFrom from ys
  few : length xs + length ys ≤ report_limit
  few_marks : marks_of xs + marks_of ys ≤ mark_limit

below-next : (from : ℕ) (xs more : List Report) (r : Report) → IsRoom from xs (r ∷ more) → AreBelow r.run xs
below-next from xs more r h = below-later from r.run xs h.rising.0 h.below

room-next : (from : ℕ) (xs more : List Report) (r : Report) → IsRoom from xs (r ∷ more) → IsRoom (r.run + 1) (xs ++ r ∷ []) more
room-next from xs more r h = record {
  below = below-last r xs (below-next from xs more r h);
  rising = h.rising.1;
  few = omega (arith, h.few, length-last r xs);
  few_marks = omega (arith, h.few_marks, marks-last r xs);
}

held-next : (id : ProgramId) (branches : List Bool) (from : ℕ) (xs more : List Report) (r : Report) (next : Held) → IsRoom from xs (r ∷ more) → next ≡ holding id branches (with_report r xs) → next ≡ holding id branches (xs ++ r ∷ [])
held-next id branches from xs more r next h is = is ∙ ap (holding id branches) (with-last r xs (below-next from xs more r h))

-- reports that are all taken
all-taken : (id : ProgramId) (branches : List Bool) (xs ys : List Report) (from a p : ℕ) (m : Merged) (after : Held) → IsRoom from xs ys → AddsAll (holding id branches xs) ys a p (Ok m) after
    → (after ≡ holding id branches (xs ++ ys)) × HaveSites branches ys
all-taken id branches xs [] from a p m after h adds = (adds.1 ∙ ap (holding id branches) (sym (append-nil xs)), tt)
all-taken id branches xs (r ∷ more) from a p m after h (Err f, next, adds, rest) = absurd (false≢true (ap is_err rest.0))
all-taken id branches xs (r ∷ more) from a p m after h (Ok Repeated, next, adds, rest) = absurd (none_some (sym (not-held r.run xs (below-next from xs more r h)) ∙ adds.1))
all-taken id branches xs (r ∷ more) from a p m after h (Ok New, next, adds, rest) =
    let next_is = held-next id branches from xs more r next h adds.4 in
    let later = all-taken id branches (xs ++ r ∷ []) more (r.run + 1) (a + 1) p m after (room-next from xs more r h) (subst (λ c. AddsAll c more (a + 1) p (Ok m) after) next_is rest) in
    (later.0 ∙ ap (holding id branches) (append_assoc xs (r ∷ []) more), (adds.0.sites, later.1))

-- what a fault tells of the reports
abbrev TellsOf : List Bool → List Report → AddFault → Type 0
TellsOf branches reports (NoSite run site) = IsFirstBad branches reports run site
TellsOf branches reports Memory = Unit {0}
TellsOf branches reports _ = ⊥

tells-later : (branches : List Bool) (r : Report) (more : List Report) (f : AddFault) → first_bad branches r.entries ≡ None → TellsOf branches more f → TellsOf branches (r ∷ more) f
tells-later branches r more (NoSite run site) none h = inr (none, h)
tells-later branches r more Memory none h = tt
tells-later branches r more f none h = h

one-stops : (id : ProgramId) (branches : List Bool) (xs more : List Report) (r : Report) (from : ℕ) (f : AddFault) (next : Held) → IsRoom from xs (r ∷ more) → r.program ≡ id → Adds (holding id branches xs) r (Err f) next
    → TellsOf branches (r ∷ more) f
one-stops id branches xs more r from (Foreign ours theirs) next h same adds = absurd (adds.2 (adds.0 ∙ sym same ∙ sym adds.1))
one-stops id branches xs more r from (NoSite run site) next h same adds = inl (adds.1, adds.2)
one-stops id branches xs more r from (Conflict run) next h same adds =
    absurd (none_some (sym (not-held r.run xs (below-next from xs more r h)) ∙ subst (λ k. report_at k xs ≡ Some adds.2.0) adds.1 adds.2.1))
one-stops id branches xs more r from (TooManyReports run) next h same adds = absurd (omega (arith, adds.3, h.few))
one-stops id branches xs more r from (TooManyMarks run) next h same adds = absurd (omega (arith, adds.4, h.few_marks))
one-stops id branches xs more r from Memory next h same adds = tt

-- reports of the program that stop
all-stop : (bundle : Bundle) (id : ProgramId) (branches : List Bool) (xs ys : List Report) (from a p : ℕ) (f : AddFault) (after : Held) → bundle.program ≡ id → AreOfBundle bundle ys → IsRoom from xs ys
    → AddsAll (holding id branches xs) ys a p (Err f) after → TellsOf branches ys f
all-stop bundle id branches xs [] from a p f after same are h adds = absurd (false≢true (sym (ap is_err adds.0)))
all-stop bundle id branches xs (r ∷ more) from a p f after same are h (Ok Repeated, next, adds, rest) = absurd (none_some (sym (not-held r.run xs (below-next from xs more r h)) ∙ adds.1))
all-stop bundle id branches xs (r ∷ more) from a p f after same are h (Err g, next, adds, rest) =
    subst (TellsOf branches (r ∷ more)) (sym (err-is f g rest.0)) (one-stops id branches xs more r from g next h (are.0 ∙ same) adds)
all-stop bundle id branches xs (r ∷ more) from a p f after same are h (Ok New, next, adds, rest) =
    let next_is = held-next id branches from xs more r next h adds.4 in
    tells-later branches r more f adds.0.sites
    (all-stop bundle id branches (xs ++ r ∷ []) more (r.run + 1) (a + 1) p f after same are.1 (room-next from xs more r h) (subst (λ c. AddsAll c more (a + 1) p (Err f) after) next_is rest))

room-first : (bundle : Bundle) → IsText bundle → IsRoom 0 [] bundle.reports
room-first bundle is = record { below = tt; rising = is.rising; few = omega (arith, is.few); few_marks = omega (arith, is.few_marks) }

-- a bundle that is taken
pub record IsTaken (id : ProgramId) (branches : List Bool) (bundle : Bundle) (after : Held) : Type 0 where
  pub same : bundle.program ≡ id
  pub held_is : after ≡ holding id branches bundle.reports
  pub sites : HaveSites branches bundle.reports

pub merge-takes : (id : ProgramId) (branches : List Bool) (bundle : Bundle) (m : Merged) (after : Held) → IsText bundle → Merges (holding id branches []) bundle (Ok m) after → IsTaken id branches bundle after
merge-takes id branches bundle m after is (OfAnother other) = absurd (false≢true (ap is_err other.result_is))
merge-takes id branches bundle m after is (OfThis same adds) =
    let taken = all-taken id branches [] bundle.reports 0 0 0 m after (room-first bundle is) adds in
    record { same = same; held_is = taken.0; sites = taken.1 }

-- what a fault tells of a bundle
abbrev pub TellsOfBundle : ProgramId → List Bool → Bundle → AddFault → Type 0
TellsOfBundle id branches bundle (Foreign ours theirs) = (ours ≡ id) × ((theirs ≡ bundle.program) × (theirs ≢ ours))
TellsOfBundle id branches bundle (NoSite run site) = (bundle.program ≡ id) × IsFirstBad branches bundle.reports run site
TellsOfBundle id branches bundle Memory = Unit {0}
TellsOfBundle id branches bundle _ = ⊥

of-this : (id : ProgramId) (branches : List Bool) (bundle : Bundle) (f : AddFault) → bundle.program ≡ id → TellsOf branches bundle.reports f → TellsOfBundle id branches bundle f
of-this id branches bundle (Foreign ours theirs) same h = absurd h
of-this id branches bundle (NoSite run site) same h = (same, h)
of-this id branches bundle Memory same h = tt
of-this id branches bundle f same h = h

pub merge-stops : (id : ProgramId) (branches : List Bool) (bundle : Bundle) (f : AddFault) (after : Held) → IsText bundle → Merges (holding id branches []) bundle (Err f) after → TellsOfBundle id branches bundle f
merge-stops id branches bundle f after is (OfAnother other) =
    subst (TellsOfBundle id branches bundle) (sym (err-is f (Foreign id bundle.program) other.result_is)) (refl, (refl, other.other))
merge-stops id branches bundle f after is (OfThis same adds) =
    of-this id branches bundle f same (all-stop bundle id branches [] bundle.reports 0 0 0 f after same is.ours (room-first bundle is) adds)
