-- The entries of the map under their runs, against the list of the reports.
use Rattle.std.proofs.Common.{◌≡◌, ◌+◌, ◌≤◌, ℕ, Bool, true, false, cond, ◌==◌, ◌&&◌, List, [], ◌∷◌, length, Option, None, Some, ap, sym, subst, ◌∙◌, refl, arith}
use Rattle.std.specs.Prelude.{map, nat_lt}
use Rattle.std.specs.List.{find}
use Rattle.std.specs.Ordering.{nat_cmp, is_eq, is_lt, match_ordering}
use Rattle.std.specs.declared.ops.Bound.TheVariants.{Excluded, Unbounded}
use Rattle.std.specs.BTreeMap.Range.{entries_between}
use Rattle.std.specs.declared.cmp.Ordering.TheVariants.{Less, Equal, Greater}
use Rattle.std.specs.BTreeMap.{insert_entry, is_at}
use Rattle.std.specs.Map.{lookup, remove_entry}
use Rattle.std.proofs.lemmas.Bool.{eqb-true}
use Rattle.std.proofs.lemmas.Bool.Decides.{nat_tests}
use Rattle.base_lists.proofs.Options.{none_some, some_is}
use Rattle.cbi_base.specs.declared.identity.ProgramId.{ProgramId}
use Rattle.report_file.specs.declared.report.Report.{Report}
use Rattle.report_file.specs.Report.{IsReport}
use Rattle.collector.specs.Sites.{first_bad}
use Rattle.collector.specs.Collected.{marks_of, next_after, report_at, with_report, without_report}
use Rattle.collector.specs.Kept.{AreHeld, IsHeldReport}

abbrev pub reports_in : List (ℕ × Report) → List Report
reports_in entries = map (λ e. e.1) entries

less-other : (x y : ℕ) → nat_lt x y ≡ true → (x == y) ≡ false
less-other x y h = grind (arith, nat_tests)

is_eq-tests : (p q : Bool) → (p ≡ true → q ≡ false) → is_eq (cond p Less (cond q Equal Greater)) ≡ q
is_eq-tests true q h = sym (h refl)
is_eq-tests false true h = refl
is_eq-tests false false h = refl

pub is_eq-nat_cmp : (x y : ℕ) → is_eq (nat_cmp x y) ≡ (x == y)
is_eq-nat_cmp x y = is_eq-tests (nat_lt x y) (x == y) (less-other x y)

-- the map finds the report of the run
pub lookup-report : (program : ProgramId) (branches : List Bool) (run : ℕ) (entries : List (ℕ × Report)) → AreHeld program branches entries → lookup (is_at (nat_cmp run)) entries ≡ report_at run (reports_in entries)
lookup-report program branches run [] are = refl
lookup-report program branches run (e ∷ more) are =
    ap (λ b. cond b (Some e.1) (lookup (is_at (nat_cmp run)) more)) (is_eq-nat_cmp run e.0 ∙ ap (λ k. run == k) are.0.run_is)
    ∙ ap (λ o. cond (run == e.1.run) (Some e.1) o) (lookup-report program branches run more are.1)

abbrev entries_by : Bool → Bool → ℕ → Report → ℕ × Report → List (ℕ × Report) → List (ℕ × Report) → List (ℕ × Report)
entries_by p q run r e more rest = match_ordering (cond p Less (cond q Equal Greater)) ((run, r) ∷ e ∷ more) ((e.0, r) ∷ more) (e ∷ rest)

values-tests : (p q : Bool) (run : ℕ) (r : Report) (e : ℕ × Report) (more rest : List (ℕ × Report)) → reports_in (entries_by p q run r e more rest) ≡ cond p (r ∷ e.1 ∷ reports_in more) (cond q (r ∷ reports_in more) (e.1 ∷ reports_in rest))
values-tests true q run r e more rest = refl
values-tests false true run r e more rest = refl
values-tests false false run r e more rest = refl

-- what the map has with the report is the list with it
pub values-insert : (program : ProgramId) (branches : List Bool) (r : Report) (entries : List (ℕ × Report)) → AreHeld program branches entries → reports_in (insert_entry nat_cmp entries r.run r) ≡ with_report r (reports_in entries)
values-insert program branches r [] are = refl
values-insert program branches r (e ∷ more) are =
    values-tests (nat_lt r.run e.0) (r.run == e.0) r.run r e more (insert_entry nat_cmp more r.run r)
    ∙ ap (λ rest. cond (nat_lt r.run e.0) (r ∷ e.1 ∷ reports_in more) (cond (r.run == e.0) (r ∷ reports_in more) (e.1 ∷ rest))) (values-insert program branches r more are.1)
    ∙ ap (λ k. cond (nat_lt r.run k) (r ∷ e.1 ∷ reports_in more) (cond (r.run == k) (r ∷ reports_in more) (e.1 ∷ with_report r (reports_in more)))) are.0.run_is

held-tests : (p q : Bool) (program : ProgramId) (branches : List Bool) (run : ℕ) (r : Report) (e : ℕ × Report) (more rest : List (ℕ × Report)) → (q ≡ true → run ≡ e.0) → IsHeldReport program branches run r → IsHeldReport program branches e.0 e.1 → AreHeld program branches more → AreHeld program branches rest → AreHeld program branches (entries_by p q run r e more rest)
held-tests true q program branches run r e more rest same is first are others = (is, (first, are))
held-tests false true program branches run r e more rest same is first are others =
    (record { run_is = sym (same refl) ∙ is.run_is; is_report = is.is_report; program_is = is.program_is; sites = is.sites }, are)
held-tests false false program branches run r e more rest same is first are others = (first, others)

pub held-insert : (program : ProgramId) (branches : List Bool) (r : Report) (entries : List (ℕ × Report)) → IsHeldReport program branches r.run r → AreHeld program branches entries → AreHeld program branches (insert_entry nat_cmp entries r.run r)
held-insert program branches r [] is are = (is, tt)
held-insert program branches r (e ∷ more) is are =
    held-tests (nat_lt r.run e.0) (r.run == e.0) program branches r.run r e more (insert_entry nat_cmp more r.run r) (eqb-true r.run e.0) is are.0 are.1 (held-insert program branches r more is are.1)

length-tests : (p q : Bool) (run : ℕ) (r : Report) (e : ℕ × Report) (more rest : List (ℕ × Report)) → length rest ≤ length more + 1 → length (entries_by p q run r e more rest) ≤ length (e ∷ more) + 1
length-tests true q run r e more rest h = omega arith
length-tests false true run r e more rest h = omega arith
length-tests false false run r e more rest h = omega arith

pub length-insert : (r : Report) (entries : List (ℕ × Report)) → length (insert_entry nat_cmp entries r.run r) ≤ length entries + 1
length-insert r [] = omega arith
length-insert r (e ∷ more) = length-tests (nat_lt r.run e.0) (r.run == e.0) r.run r e more (insert_entry nat_cmp more r.run r) (length-insert r more)

marks-tests : (p q : Bool) (r x : Report) (more : List Report) → cond q (Some x) (report_at r.run more) ≡ None → (report_at r.run more ≡ None → marks_of (with_report r more) ≡ marks_of more + length r.entries) → marks_of (cond p (r ∷ x ∷ more) (cond q (r ∷ more) (x ∷ with_report r more))) ≡ marks_of (x ∷ more) + length r.entries
marks-tests true q r x more none rest = omega arith
marks-tests false true r x more none rest = absurd (none_some (sym none))
marks-tests false false r x more none rest = omega (arith, rest none)

-- one report more has its entries more
pub marks-with : (r : Report) (reports : List Report) → report_at r.run reports ≡ None → marks_of (with_report r reports) ≡ marks_of reports + length r.entries
marks-with r [] none = omega arith
marks-with r (x ∷ more) none = marks-tests (nat_lt r.run x.run) (r.run == x.run) r x more none (marks-with r more)

-- the entries without that of a run
taken-tests : (b : Bool) (e : ℕ × Report) (more rest : List (ℕ × Report)) → reports_in (cond b more (e ∷ rest)) ≡ cond b (reports_in more) (e.1 ∷ reports_in rest)
taken-tests true e more rest = refl
taken-tests false e more rest = refl

pub values-remove : (program : ProgramId) (branches : List Bool) (run : ℕ) (entries : List (ℕ × Report)) → AreHeld program branches entries → reports_in (remove_entry (is_at (nat_cmp run)) entries) ≡ without_report run (reports_in entries)
values-remove program branches run [] are = refl
values-remove program branches run (e ∷ more) are =
    taken-tests (is_eq (nat_cmp run e.0)) e more (remove_entry (is_at (nat_cmp run)) more)
    ∙ ap (λ b. cond b (reports_in more) (e.1 ∷ reports_in (remove_entry (is_at (nat_cmp run)) more))) (is_eq-nat_cmp run e.0 ∙ ap (λ k. run == k) are.0.run_is)
    ∙ ap (λ rest. cond (run == e.1.run) (reports_in more) (e.1 ∷ rest)) (values-remove program branches run more are.1)

left-tests : (b : Bool) (program : ProgramId) (branches : List Bool) (e : ℕ × Report) (more rest : List (ℕ × Report)) → IsHeldReport program branches e.0 e.1 → AreHeld program branches more → AreHeld program branches rest → AreHeld program branches (cond b more (e ∷ rest))
left-tests true program branches e more rest first are others = are
left-tests false program branches e more rest first are others = (first, others)

pub held-remove : (program : ProgramId) (branches : List Bool) (run : ℕ) (entries : List (ℕ × Report)) → AreHeld program branches entries → AreHeld program branches (remove_entry (is_at (nat_cmp run)) entries)
held-remove program branches run [] are = tt
held-remove program branches run (e ∷ more) are =
    left-tests (is_eq (nat_cmp run e.0)) program branches e more (remove_entry (is_at (nat_cmp run)) more) are.0 are.1 (held-remove program branches run more are.1)

fewer-tests : (b : Bool) (e : ℕ × Report) (more rest : List (ℕ × Report)) → length rest ≤ length more → length (cond b more (e ∷ rest)) ≤ length (e ∷ more)
fewer-tests true e more rest h = omega arith
fewer-tests false e more rest h = omega arith

pub length-remove : (run : ℕ) (entries : List (ℕ × Report)) → length (remove_entry (is_at (nat_cmp run)) entries) ≤ length entries
length-remove run [] = omega arith
length-remove run (e ∷ more) = fewer-tests (is_eq (nat_cmp run e.0)) e more (remove_entry (is_at (nat_cmp run)) more) (length-remove run more)

marks-without-tests : (b : Bool) (run : ℕ) (r x : Report) (more : List Report) → cond b (Some x) (report_at run more) ≡ Some r → (report_at run more ≡ Some r → marks_of (without_report run more) + length r.entries ≡ marks_of more) → marks_of (cond b more (x ∷ without_report run more)) + length r.entries ≡ marks_of (x ∷ more)
marks-without-tests true run r x more found rest = let e = ap (λ (y : Report). length y.entries) (some_is found) in omega arith
marks-without-tests false run r x more found rest = let e = rest found in omega arith

-- without the report of a run its entries are fewer
pub marks-without : (run : ℕ) (r : Report) (reports : List Report) → report_at run reports ≡ Some r → marks_of (without_report run reports) + length r.entries ≡ marks_of reports
marks-without run r [] found = absurd (none_some found)
marks-without run r (x ∷ more) found = marks-without-tests (run == x.run) run r x more found (marks-without run r more)

-- the first report behind a run
is_lt-tests : (p q : Bool) → is_lt (cond p Less (cond q Equal Greater)) ≡ p
is_lt-tests true q = refl
is_lt-tests false true = refl
is_lt-tests false false = refl

and-true : (b : Bool) → (b && true) ≡ b
and-true true = refl
and-true false = refl

pub first_in : List (ℕ × Report) → Option Report
first_in [] = None
first_in (e ∷ more) = Some e.1

first-tests : (b : Bool) (e : ℕ × Report) (more : List (ℕ × Report)) → cond b (Some e.1) (first_in more) ≡ first_in (cond b (e ∷ more) more)
unfolding first_in
first-tests true e more = refl
first-tests false e more = refl

abbrev pub behind : ℕ → List (ℕ × Report) → List (ℕ × Report)
behind run entries = entries_between nat_cmp (Excluded run) Unbounded entries

pub next-behind : (program : ProgramId) (branches : List Bool) (run : ℕ) (entries : List (ℕ × Report)) → AreHeld program branches entries → next_after run (reports_in entries) ≡ first_in (behind run entries)
unfolding first_in
next-behind program branches run [] are = refl
next-behind program branches run (e ∷ more) are =
    let test : nat_lt run e.1.run ≡ (is_lt (nat_cmp run e.0) && true) = ap (λ k. nat_lt run k) (sym are.0.run_is) ∙ sym (is_lt-tests (nat_lt run e.0) (run == e.0)) ∙ sym (and-true (is_lt (nat_cmp run e.0))) in
    ap (λ b. cond b (Some e.1) (next_after run (reports_in more))) test
    ∙ ap (λ o. cond (is_lt (nat_cmp run e.0) && true) (Some e.1) o) (next-behind program branches run more are.1)
    ∙ first-tests (is_lt (nat_cmp run e.0) && true) e (behind run more)

pub next-none : (program : ProgramId) (branches : List Bool) (run : ℕ) (entries range : List (ℕ × Report)) → AreHeld program branches entries → range ≡ behind run entries → range ≡ [] → None ≡ next_after run (reports_in entries)
unfolding first_in
next-none program branches run entries range are is none = ap first_in (sym none ∙ is) ∙ sym (next-behind program branches run entries are)

pub next-some : (program : ProgramId) (branches : List Bool) (run key : ℕ) (r : Report) (entries range rest : List (ℕ × Report)) → AreHeld program branches entries → range ≡ behind run entries → range ≡ (key, r) ∷ rest → Some r ≡ next_after run (reports_in entries)
unfolding first_in
next-some program branches run key r entries range rest are is first = ap first_in (sym first ∙ is) ∙ sym (next-behind program branches run entries are)

-- a report that is found is one of those that are held
pub record IsFound (program : ProgramId) (branches : List Bool) (r : Report) : Type 0 where
  pub is_report : IsReport r
  pub program_is : r.program ≡ program
  pub sites : first_bad branches r.entries ≡ None

found-tests : (b : Bool) (program : ProgramId) (branches : List Bool) (e : ℕ × Report) (rest : Option Report) (r : Report) → IsHeldReport program branches e.0 e.1 → (rest ≡ Some r → IsFound program branches r) → cond b (Some e.1) rest ≡ Some r → IsFound program branches r
found-tests true program branches e rest r is others found =
    subst (IsFound program branches) (some_is found) (record { is_report = is.is_report; program_is = is.program_is; sites = is.sites })
found-tests false program branches e rest r is others found = others found

pub held-find : (program : ProgramId) (branches : List Bool) (p : Report → Bool) (entries : List (ℕ × Report)) (r : Report) → AreHeld program branches entries → find p (reports_in entries) ≡ Some r → IsFound program branches r
held-find program branches p [] r are found = absurd (none_some found)
held-find program branches p (e ∷ more) r are found =
    found-tests (p e.1) program branches e (find p (reports_in more)) r are.0 (held-find program branches p more r are.1) found
