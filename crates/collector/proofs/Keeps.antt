-- What the entries of the map say of the reports that are held.
use Rattle.std.proofs.Common.{◌≡◌, ℕ, Bool, true, false, cond, ◌==◌, inl, inr, ⊎_elim, List, [], ◌∷◌, sym, subst, refl, arith}
use Rattle.std.specs.Prelude.{nat_lt}
use Rattle.std.specs.List.{AllByRecursion}
use Rattle.std.specs.List.Sorted.{IsStrictlySortedBy}
use Rattle.std.specs.Map.{keys_of}
use Rattle.std.specs.Ordering.{nat_cmp}
use Rattle.std.specs.declared.cmp.Ordering.TheVariants.{Less, Equal, Greater}
use Rattle.std.proofs.lemmas.Bool.{ltb-true}
use Rattle.cbi_base.specs.declared.identity.ProgramId.{ProgramId}
use Rattle.report_file.specs.declared.report.Report.{Report}
use Rattle.collector.specs.declared.collection.Bundle.{Bundle}
use Rattle.collector.specs.declared.collection.Held.{Held}
use Rattle.collector.specs.Collected.{IsOfCollection}
use Rattle.collector.specs.Collecting.{AreOfCollection, IsCollection, bundle_of}
use Rattle.collector.specs.Kept.{AreHeld}
use Rattle.collector.specs.Merging.{AreOfBundle, AreReports}
use Rattle.collector.specs.Order.{IsOneOfReports}
use Rattle.collector.specs.Spelling.{SpellsBundle, WithLabels, collection_text}
use Rattle.collector.proofs.Keeping.{reports_in}
use Rattle.collector.proofs.Ordering.{AreAbove, AreRising}

equal-no-less : Equal ≡ Less → ⊥
equal-no-less e = cc

greater-no-less : Greater ≡ Less → ⊥
greater-no-less e = cc

less-tests : (p q : Bool) → cond p Less (cond q Equal Greater) ≡ Less → p ≡ true
less-tests true q is = refl
less-tests false true is = absurd (equal-no-less is)
less-tests false false is = absurd (greater-no-less is)

keys-above : (program : ProgramId) (branches : List Bool) (key run : ℕ) (entries : List (ℕ × Report)) → key ≡ run → AreHeld program branches entries → AllByRecursion (λ k. nat_cmp key k ≡ Less) (keys_of entries) → AreAbove run (reports_in entries)
keys-above program branches key run [] same are all = tt
keys-above program branches key run (e ∷ more) same are all =
    let less = ltb-true key e.0 (less-tests (nat_lt key e.0) (key == e.0) all.0) in
    let is = are.0.run_is in
    (omega arith, keys-above program branches key run more same are.1 all.1)

pub keys-rising : (program : ProgramId) (branches : List Bool) (entries : List (ℕ × Report)) → AreHeld program branches entries → IsStrictlySortedBy nat_cmp (keys_of entries) → AreRising (reports_in entries)
unfolding IsStrictlySortedBy
keys-rising program branches [] are sorted = tt
keys-rising program branches (e ∷ more) are sorted =
    (keys-above program branches e.0 e.1.run more are.0.run_is are.1 sorted.0, keys-rising program branches more are.1 sorted.1)

pub held-reports : (program : ProgramId) (branches : List Bool) (entries : List (ℕ × Report)) → AreHeld program branches entries → AreReports (reports_in entries)
held-reports program branches [] are = tt
held-reports program branches (e ∷ more) are = (are.0.is_report, held-reports program branches more are.1)

pub held-ours : (c : Held) (entries : List (ℕ × Report)) → AreHeld c.program c.branches entries → AreOfCollection c (reports_in entries)
held-ours c [] are = λ r is. absurd is
held-ours c (e ∷ more) are = λ r is.
    ⊎_elim (λ (same : r ≡ e.1). subst (IsOfCollection c) (sym same) (record { program = are.0.program_is; sites = are.0.sites })) (λ (other : IsOneOfReports r (reports_in more)). held-ours c more are.1 r other) is

-- a collection's reports are a bundle's
are-of : (b : Bundle) (reports : List Report) → ((r : Report) → IsOneOfReports r reports → r.program ≡ b.program) → AreOfBundle b reports
are-of b [] all = tt
are-of b (r ∷ more) all = (all r (inl refl), are-of b more (λ x is. all x (inr is)))

pub written : (c : Held) → IsCollection c → SpellsBundle (collection_text c) (bundle_of c)
written c is = WithLabels (record {
  program = is.program;
  reports = is.reports;
  ours = are-of (bundle_of c) c.reports (λ r one. (is.ours r one).program);
  rising = is.rising;
  few = is.few;
  few_marks = is.few_marks;
}) refl
