-- A leader's own runs, looked up by their numbers.
use Rattle.std.proofs.Common.{◌≡◌, ℕ, ◌+◌, ◌-◌, ◌<◌, ◌≤◌, ◌==◌, inl, inr, Bool, true, false, ◌&&◌, ◌||◌, cond, List, [], ◌∷◌, ◌++◌, length, None, Some, refl, sym, ap, subst, ◌∙◌, append_assoc, arith}
use Rattle.std.specs.Prelude.{All, Contains, filter, map, slice_index_or}
use Rattle.std.specs.List.{find, list_any}
use Rattle.std.proofs.lemmas.Bool.{cases_lt, eq-eqb, le-ltb, lt-ltb, ne_eqb}
use Rattle.std.proofs.Math.Bool.{or-false}
use Rattle.std.proofs.lemmas.List.Elements.{All-cons, All-filter, Contains-get_or}
use Rattle.report_file.specs.declared.report.Report.{Report}
use Rattle.collector.specs.Spelling.{RunsFrom}
use Rattle.elimination_tallies.specs.Recount.{is_failing}
use Rattle.elimination_tallies.specs.Runs.{reports_after}
use Rattle.affinity.specs.Cards.{IsLeastOf}
use Rattle.suspicious_lines.proofs.Members.{first-member, member-cases, no-member}
use Rattle.bug_rounds.specs.Live.{AreRising, failing_numbers, is_own_number}
use Rattle.bug_rounds.specs.Rounds.{is_own_run}

-- whether a report has this number and is of a leader's own run
abbrev is_this : List Bool → ℕ → ℕ → Report → Bool
is_this branches leader run r = (run == r.run) && is_own_run branches leader r

other-run : (branches : List Bool) (leader run : ℕ) (r : Report) → (run ≡ r.run → ⊥) → is_this branches leader run r ≡ false
other-run branches leader run r other = ap (λ b. b && is_own_run branches leader r) (ne_eqb run r.run other)

same-run : (branches : List Bool) (leader run : ℕ) (r : Report) → run ≡ r.run → is_this branches leader run r ≡ is_own_run branches leader r
same-run branches leader run r same = ap (λ b. b && is_own_run branches leader r) (eq-eqb run r.run same)

-- those up to a run don't count, where none of them passes
any-after : (test : Report → Bool) (run from : ℕ) (reports : List Report) → RunsFrom from reports → ((x : Report) → from ≤ x.run → x.run ≤ run → test x ≡ false) → list_any test reports ≡ list_any test (reports_after run reports)
any-after test run from [] rise none = refl
any-after test run from (x ∷ more) rise none =
    let rest = any-after test run (x.run + 1) more rise.1 (λ y least most. none y (omega (arith, rise.0, least)) most) in
    elim (cases_lt run x.run) [
      | inl less ↦ ap (λ b. test x || b) rest ∙ sym (ap (λ b. list_any test (cond b (x ∷ reports_after run more) (reports_after run more))) (lt-ltb run x.run less))
      | inr most ↦ ap (λ b. b || list_any test more) (none x rise.0 most) ∙ rest ∙ sym (ap (λ b. list_any test (cond b (x ∷ reports_after run more) (reports_after run more))) (le-ltb run x.run most))
    ]

none-behind : (test : Report → Bool) (run : ℕ) (reports : List Report) → ((x : Report) → run < x.run → test x ≡ false) → list_any test (reports_after run reports) ≡ false
none-behind test run [] none = refl
none-behind test run (x ∷ more) none =
    let rest = none-behind test run more none in
    elim (cases_lt run x.run) [
      | inl less ↦ ap (λ b. list_any test (cond b (x ∷ reports_after run more) (reports_after run more))) (lt-ltb run x.run less) ∙ ap (λ b. b || list_any test (reports_after run more)) (none x less) ∙ rest
      | inr most ↦ ap (λ b. list_any test (cond b (x ∷ reports_after run more) (reports_after run more))) (le-ltb run x.run most) ∙ rest
    ]

own-behind : (branches : List Bool) (reports : List Report) (leader run : ℕ) → RunsFrom 1 reports → is_own_number branches reports leader run ≡ list_any (is_this branches leader run) (reports_after (run - 1) reports)
own-behind branches reports leader run rise =
    any-after (is_this branches leader run) (run - 1) 1 reports rise (λ x least most. other-run branches leader run x (λ same. omega (arith, least, most, same)))

pub own-missing : (branches : List Bool) (reports : List Report) (leader run : ℕ) → RunsFrom 1 reports → reports_after (run - 1) reports ≡ [] → false ≡ is_own_number branches reports leader run
own-missing branches reports leader run rise none = sym (own-behind branches reports leader run rise ∙ ap (list_any (is_this branches leader run)) none)

own-next : (branches : List Bool) (reports : List Report) (leader run : ℕ) (r : Report) → RunsFrom 1 reports → run - 1 < r.run → reports_after (run - 1) reports ≡ r ∷ reports_after r.run reports → is_own_number branches reports leader run ≡ is_this branches leader run r
own-next branches reports leader run r rise later is =
    own-behind branches reports leader run rise ∙ ap (list_any (is_this branches leader run)) is
    ∙ ap (λ b. is_this branches leader run r || b) (none-behind (is_this branches leader run) r.run reports (λ x less. other-run branches leader run x (λ same. omega (arith, later, less, same))))
    ∙ or-false (is_this branches leader run r)

pub own-here : (branches : List Bool) (reports : List Report) (leader run : ℕ) (r : Report) (own : Bool) → RunsFrom 1 reports → run - 1 < r.run → reports_after (run - 1) reports ≡ r ∷ reports_after r.run reports → r.run ≡ run → own ≡ is_own_run branches leader r
    → own ≡ is_own_number branches reports leader run
own-here branches reports leader run r own rise later is same own_is = own_is ∙ sym (own-next branches reports leader run r rise later is ∙ same-run branches leader run r (sym same))

pub own-elsewhere : (branches : List Bool) (reports : List Report) (leader run : ℕ) (r : Report) → RunsFrom 1 reports → run - 1 < r.run → reports_after (run - 1) reports ≡ r ∷ reports_after r.run reports → (r.run ≡ run → ⊥) → false ≡ is_own_number branches reports leader run
own-elsewhere branches reports leader run r rise later is other = sym (own-next branches reports leader run r rise later is ∙ other-run branches leader run r (λ same. other (sym same)))

-- the number of a report is that of its own run exactly where the report is of one
above-none : (test : Report → Bool) (from : ℕ) (reports : List Report) → RunsFrom from reports → ((x : Report) → from ≤ x.run → test x ≡ false) → list_any test reports ≡ false
above-none test from [] rise none = refl
above-none test from (x ∷ more) rise none =
    ap (λ b. b || list_any test more) (none x rise.0) ∙ above-none test (x.run + 1) more rise.1 (λ y least. none y (omega (arith, rise.0, least)))

member-from : (from : ℕ) (reports : List Report) (r : Report) → RunsFrom from reports → Contains reports r → from ≤ r.run
member-from from [] r rise has = absurd (no-member r has)
member-from from (x ∷ more) r rise has =
    elim (member-cases x r more has) [
      | inl same ↦ subst (λ (y : Report). from ≤ y.run) same rise.0
      | inr there ↦
          let later = member-from (x.run + 1) more r rise.1 there in
          omega (arith, rise.0, later)
    ]

known-in : (branches : List Bool) (leader from : ℕ) (reports : List Report) (r : Report) → RunsFrom from reports → Contains reports r → is_own_number branches reports leader r.run ≡ is_own_run branches leader r
known-in branches leader from [] r rise has = absurd (no-member r has)
known-in branches leader from (x ∷ more) r rise has =
    elim (member-cases x r more has) [
      | inl same ↦
          subst (λ (y : Report). is_own_number branches (x ∷ more) leader y.run ≡ is_own_run branches leader y) same
          (ap (λ b. b || is_own_number branches more leader x.run) (same-run branches leader x.run x refl)
          ∙ ap (λ b. is_own_run branches leader x || b) (above-none (is_this branches leader x.run) (x.run + 1) more rise.1 (λ y least. other-run branches leader x.run y (λ is. omega (arith, least, is)))) ∙ or-false (is_own_run branches leader x))
      | inr there ↦
          let later = member-from (x.run + 1) more r rise.1 there in
          ap (λ b. b || is_own_number branches more leader r.run) (other-run branches leader r.run x (λ is. omega (arith, later, is))) ∙ known-in branches leader (x.run + 1) more r rise.1 there
    ]

abbrev pub IsKnown : List Bool → List Report → Report → Type 0
IsKnown branches reports r = (leader : ℕ) → is_own_number branches reports leader r.run ≡ is_own_run branches leader r

pub all-known : (branches : List Bool) (reports : List Report) → RunsFrom 1 reports → All (IsKnown branches reports) reports
all-known branches reports rise k d less leader = known-in branches leader 1 reports (slice_index_or reports k d) rise (Contains-get_or reports k d less)

-- numbers of failing runs, one after another
first-number : (r : Report) (rest : List Report) (b : Bool) → map (λ (x : Report). x.run) (cond b (r ∷ rest) rest) ≡ cond b (r.run ∷ map (λ (x : Report). x.run) rest) (map (λ (x : Report). x.run) rest)
first-number r rest true = refl
first-number r rest false = refl

pub numbers-cons : (r : Report) (more : List Report) (b : Bool) → is_failing r.label ≡ b → failing_numbers (r ∷ more) ≡ cond b (r.run ∷ failing_numbers more) (failing_numbers more)
numbers-cons r more b is =
    first-number r (filter (λ (x : Report). is_failing x.label) more) (is_failing r.label) ∙ ap (λ c. cond c (r.run ∷ failing_numbers more) (failing_numbers more)) is

pub numbers-more : (r : Report) (rest more : List Report) (live new all : List ℕ) → rest ≡ r ∷ more → live ++ failing_numbers rest ≡ all → is_failing r.label ≡ true → new ≡ live ++ r.run ∷ [] → new ++ failing_numbers more ≡ all
numbers-more r rest more live new all cut so_far fails now =
    ap (λ (ns : List ℕ). ns ++ failing_numbers more) now ∙ append_assoc live (r.run ∷ []) (failing_numbers more)
    ∙ ap (λ (ns : List ℕ). live ++ ns) (sym (ap failing_numbers cut ∙ numbers-cons r more true fails)) ∙ so_far

pub numbers-same : (r : Report) (rest more : List Report) (live all : List ℕ) → rest ≡ r ∷ more → live ++ failing_numbers rest ≡ all → is_failing r.label ≡ false → live ++ failing_numbers more ≡ all
numbers-same r rest more live all cut so_far passes =
    ap (λ (ns : List ℕ). live ++ ns) (sym (ap failing_numbers cut ∙ numbers-cons r more false passes)) ∙ so_far

-- the first number that passes a test
pub find-here : (test : ℕ → Bool) (xs rest all : List ℕ) (x : ℕ) → xs ≡ x ∷ rest → find test xs ≡ find test all → test x ≡ true → find test all ≡ Some x
find-here test xs rest all x cut so_far passes = sym so_far ∙ ap (find test) cut ∙ ap (λ b. cond b (Some x) (find test rest)) passes

pub find-next : (test : ℕ → Bool) (xs rest all : List ℕ) (x : ℕ) → xs ≡ x ∷ rest → find test xs ≡ find test all → test x ≡ false → find test rest ≡ find test all
find-next test xs rest all x cut so_far fails = sym (ap (find test) cut ∙ ap (λ b. cond b (Some x) (find test rest)) fails) ∙ so_far

found-by : (test : ℕ → Bool) (x : ℕ) (more : List ℕ) (b : Bool) → test x ≡ b → (find test more ≡ None → list_any test more ≡ false) → cond b (Some x) (find test more) ≡ None → (test x || list_any test more) ≡ false
found-by test x more true is rest none = absurd cc
found-by test x more false is rest none = ap (λ b. b || list_any test more) is ∙ rest none

pub find-none : (test : ℕ → Bool) (xs : List ℕ) → find test xs ≡ None → list_any test xs ≡ false
find-none test [] none = refl
find-none test (x ∷ more) none = found-by test x more (test x) refl (find-none test more) none

least-by : (test : ℕ → Bool) (x n : ℕ) (more : List ℕ) (b : Bool) → AreRising (x ∷ more) → (find test more ≡ Some n → IsLeastOf (filter test more) n) → cond b (Some x) (find test more) ≡ Some n → IsLeastOf (cond b (x ∷ filter test more) (filter test more)) n
least-by test x n more true rising rest is =
    let same : x ≡ n = cc in
    subst (IsLeastOf (x ∷ filter test more)) same (first-member x (filter test more), All-cons (λ m. x ≤ m) x (filter test more) (omega arith) (All-filter test (λ m. x ≤ m) more rising.0))
least-by test x n more false rising rest is = rest is

-- where the numbers rise it is the least
pub least-found : (test : ℕ → Bool) (xs : List ℕ) (n : ℕ) → AreRising xs → find test xs ≡ Some n → IsLeastOf (filter test xs) n
least-found test [] n rising is = absurd cc
least-found test (x ∷ more) n rising is = least-by test x n more (test x) rising (least-found test more n rising.1) is

some-by : (test : ℕ → Bool) (x : ℕ) (more : List ℕ) (b : Bool) → test x ≡ b → (0 < length (filter test more) → list_any test more ≡ true) → 0 < length (cond b (x ∷ filter test more) (filter test more)) → (test x || list_any test more) ≡ true
some-by test x more true is rest some = ap (λ b. b || list_any test more) is
some-by test x more false is rest some = ap (λ b. b || list_any test more) is ∙ rest some

pub any-kept : (test : ℕ → Bool) (xs : List ℕ) → 0 < length (filter test xs) → list_any test xs ≡ true
any-kept test [] some = absurd (omega (arith, some))
any-kept test (x ∷ more) some = some-by test x more (test x) refl (any-kept test more) some
