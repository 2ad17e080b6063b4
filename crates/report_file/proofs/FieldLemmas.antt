-- What stands first in a list of fields is read as it is spelled, and what is read is spelled so.
use Rattle.std.proofs.Common.{◌≡◌, ◌≤◌, ℕ, ℤ, Bool, true, cond, ◌==◌, List, [], ◌∷◌, ◌++◌, Option, None, Some, decimal, codes, FitsSigned, ap, sym, subst, ◌∙◌, refl, arith, rules, lit≤}
use Rattle.std.specs.Fmt.{signed_decimal}
use Rattle.std.specs.Int.{w64}
use Rattle.std.specs.List.{find}
use Rattle.std.proofs.lemmas.Bool.{leb-true, le-leb, eqb-true}
use Rattle.std.proofs.lemmas.Option.{option_and_then_some}
use Rattle.base_lists.proofs.Tests.{some_choice}
use Rattle.base_lists.proofs.Options.{mapped, none_some, some_is}
use Rattle.cbi_base.proofs.NumberLemmas.{same-word, number_of-decimal, number_of-spelled, signed_of-signed, signed_of-spelled}
use Rattle.cbi_base.specs.Words.{LiesIn, lies_in, number_of}
use Rattle.cbi_base.specs.Numbers.{◌>>=◌}
use Rattle.cbi_base.specs.Trap as trap
use Rattle.cbi_base.specs.declared.scalar.Kind.TheVariants.{Int}
use Rattle.cbi_base.specs.declared.trap.Trap.{Trap}
use Rattle.cbi_base.specs.declared.trap.Trap.TheVariants.{Overflow, Divide, Shift, Undefined, WrongKind, Bounds, Dead, NullUse, ReadOnly, BadFree, Unrelated, StackOverflow, Assertion, Abort, Internal}
use Rattle.cbi_base.specs.declared.outcome.Outcome.{Outcome}
use Rattle.cbi_base.specs.declared.outcome.Outcome.TheVariants.{Ended, Trapped, CutTurns, CutOutput}
use Rattle.cbi_base.specs.declared.outcome.Work.{Work}
use Rattle.cbi_base.specs.declared.outcome.Counts.{Counts}
use Rattle.report_file.specs.declared.label.Label.{Label}
use Rattle.report_file.specs.declared.label.Label.TheVariants.{Fail, Pass, Uncounted}
use Rattle.report_file.specs.declared.report.Entry.{Entry}
use Rattle.report_file.specs.Report.{IsRun, IsOutcome, IsWork, AreCounts, IsEntry, greatest_count, greatest_run, greatest_site, is_positive}
use Rattle.report_file.specs.Spelling.{run_fields, outcome_fields, label_fields, label_word, work_fields, site_fields}
use Rattle.report_file.specs.Fields.{run_at, trap_numbered, trap_of, traps, status_of, cut_of, outcome_of, outcome_at, label_in, label_at, count_of, counts_at, work_at, work_with, entry_of_fields, value_at_end}

-- what is read, and the fields behind it
first-is : {A : Type 0} {a b : A} {x y : List (List ℕ)} → ◌≡◌ {A = Option (A × List (List ℕ))} (Some (a, x)) (Some (b, y)) → a ≡ b
first-is {A} e = ap (λ (p : A × List (List ℕ)). p.0) (some_is e)

rest-is : {A : Type 0} {a b : A} {x y : List (List ℕ)} → ◌≡◌ {A = Option (A × List (List ℕ))} (Some (a, x)) (Some (b, y)) → x ≡ y
rest-is {A} e = ap (λ (p : A × List (List ℕ)). p.1) (some_is e)

-- one thing, with no field behind it
pub alone-is : {A : Type 0} (p : A × List (List ℕ)) (a : A) → value_at_end p ≡ Some a → (p.0 ≡ a) × (p.1 ≡ [])
alone-is (b, []) a h = (some_is h, refl)
alone-is (b, field ∷ more) a h = absurd (none_some h)

pub run-taken : (run : ℕ) (rest : List (List ℕ)) → IsRun run → run_at (run_fields run ++ rest) ≡ Some (run, rest)
unfolding run_at
run-taken run rest is = rw (number_of-decimal greatest_run run is.most (omega arith), le-leb 1 run is.least) refl

pub run-spelled : (fields rest : List (List ℕ)) (run : ℕ) → run_at fields ≡ Some (run, rest) → IsRun run × (fields ≡ run_fields run ++ rest)
unfolding run_at
run-spelled [] rest run h = absurd (none_some h)
run-spelled (word ∷ []) rest run h = absurd (none_some h)
run-spelled (word ∷ number ∷ left) rest run h =
    some_choice _ _ _ (run, rest) h (λ test is. option_and_then_some _ _ (run, rest) is (λ n read is. some_choice _ _ _ (run, rest) is (λ least same.
    let spelled = number_of-spelled greatest_run number n read in
    let w = same-word word (codes "run") test in
    let e = first-is same in
    let l = rest-is same in
    (subst IsRun e (record { least = leb-true 1 n least; most = spelled.1 }), rw (w, spelled.0, e, l) refl))
    (λ _ is. absurd (none_some is)))) (λ _ is. absurd (none_some is))

-- the first that passes passes
find-passes : {A : Type 0} (p : A → Bool) (xs : List A) (x : A) → find p xs ≡ Some x → p x ≡ true
find-passes p [] x h = absurd (none_some h)
find-passes p (y ∷ ys) x h = some_choice (p y) (Some y) (find p ys) x h (λ test is. ap p (sym (some_is is)) ∙ test) (λ _ is. find-passes p ys x is)

pub trap-small : (t : Trap) → trap.trap_number t ≤ 99
trap-small Overflow = lit≤ tt
trap-small Divide = lit≤ tt
trap-small Shift = lit≤ tt
trap-small Undefined = lit≤ tt
trap-small WrongKind = lit≤ tt
trap-small Bounds = lit≤ tt
trap-small Dead = lit≤ tt
trap-small NullUse = lit≤ tt
trap-small ReadOnly = lit≤ tt
trap-small BadFree = lit≤ tt
trap-small Unrelated = lit≤ tt
trap-small StackOverflow = lit≤ tt
trap-small Assertion = lit≤ tt
trap-small Abort = lit≤ tt
trap-small Internal = lit≤ tt

trap_numbered-number : (t : Trap) → trap_numbered (trap.trap_number t) ≡ Some t
trap_numbered-number Overflow = refl
trap_numbered-number Divide = refl
trap_numbered-number Shift = refl
trap_numbered-number Undefined = refl
trap_numbered-number WrongKind = refl
trap_numbered-number Bounds = refl
trap_numbered-number Dead = refl
trap_numbered-number NullUse = refl
trap_numbered-number ReadOnly = refl
trap_numbered-number BadFree = refl
trap_numbered-number Unrelated = refl
trap_numbered-number StackOverflow = refl
trap_numbered-number Assertion = refl
trap_numbered-number Abort = refl
trap_numbered-number Internal = refl

trap_of-decimal : (t : Trap) → trap_of (decimal (trap.trap_number t)) ≡ Some t
trap_of-decimal t = ap (λ n. n >>= trap_numbered) (number_of-decimal 99 (trap.trap_number t) (trap-small t) (omega arith)) ∙ trap_numbered-number t

trap_of-spelled : (field : List ℕ) (t : Trap) → trap_of field ≡ Some t → field ≡ decimal (trap.trap_number t)
trap_of-spelled field t h =
    option_and_then_some trap_numbered (number_of 99 field) t h (λ n read is.
    (number_of-spelled 99 field n read).0 ∙ ap decimal (sym (eqb-true (trap.trap_number t) n (find-passes (λ x. trap.trap_number x == n) traps t is))))

-- an `int` has 64 bits too
pub wide : (status : ℤ) → LiesIn Int status → FitsSigned w64 status
wide status h = search rules

status_of-signed : (status : ℤ) → LiesIn Int status → status_of (signed_decimal status) ≡ Some status
status_of-signed status is = ap (λ z. z >>= λ s. cond (lies_in Int s) (Some s) None) (signed_of-signed status (wide status is)) ∙ ap (λ b. cond b (Some status) None) is

status_of-spelled : (field : List ℕ) (status : ℤ) → status_of field ≡ Some status → LiesIn Int status × (field ≡ signed_decimal status)
status_of-spelled field status h =
    option_and_then_some _ _ status h (λ z read is. some_choice (lies_in Int z) (Some z) None status is (λ test same.
    let e = some_is same in
    (subst (LiesIn Int) e test, (signed_of-spelled field z read).0 ∙ ap signed_decimal e)) (λ _ is. absurd (none_some is)))

pub outcome_of-fields : (outcome : Outcome) (rest : List (List ℕ)) → IsOutcome outcome → outcome_at (outcome_fields outcome ++ rest) ≡ Some (outcome, rest)
unfolding outcome_of
outcome_of-fields (Ended status) rest is = rw (status_of-signed status is) refl
outcome_of-fields (Trapped t) rest is = rw (trap_of-decimal t) refl
outcome_of-fields CutTurns rest is = refl
outcome_of-fields CutOutput rest is = refl

abbrev OutcomeIn : List ℕ → List ℕ → Outcome → Type 0
OutcomeIn word field outcome = IsOutcome outcome × (word ∷ field ∷ [] ≡ outcome_fields outcome)

cut_of-spelled : (word field : List ℕ) (outcome : Outcome) → word ≡ codes "cut" → cut_of field ≡ Some outcome → OutcomeIn word field outcome
cut_of-spelled word field outcome w h =
    some_choice _ _ _ outcome h (λ test is. subst (OutcomeIn word field) (some_is is) (tt, rw (w, same-word field (codes "turns") test) refl)) (λ _ h.
    some_choice _ _ _ outcome h (λ test is. subst (OutcomeIn word field) (some_is is) (tt, rw (w, same-word field (codes "output") test) refl)) (λ _ is. absurd (none_some is)))

outcome_of-spelled : (word field : List ℕ) (outcome : Outcome) → outcome_of word field ≡ Some outcome → OutcomeIn word field outcome
unfolding outcome_of
outcome_of-spelled word field outcome h =
    some_choice _ _ _ outcome h (λ test is. mapped Ended (status_of field) outcome is (λ status read same.
    let spelled = status_of-spelled field status read in
    subst (OutcomeIn word field) same (spelled.0, rw (same-word word (codes "ended") test, spelled.1) refl))) (λ _ h.
    some_choice _ _ _ outcome h (λ test is. mapped Trapped (trap_of field) outcome is (λ t read same.
    subst (OutcomeIn word field) same (tt, rw (same-word word (codes "trapped") test, trap_of-spelled field t read) refl))) (λ _ h.
    some_choice _ _ _ outcome h (λ test is. cut_of-spelled word field outcome (same-word word (codes "cut") test) is) (λ _ is. absurd (none_some is))))

pub outcome-spelled : (fields rest : List (List ℕ)) (outcome : Outcome) → outcome_at fields ≡ Some (outcome, rest) → IsOutcome outcome × (fields ≡ outcome_fields outcome ++ rest)
outcome-spelled [] rest outcome h = absurd (none_some h)
outcome-spelled (word ∷ []) rest outcome h = absurd (none_some h)
outcome-spelled (word ∷ field ∷ left) rest outcome h =
    mapped (λ o. (o, left)) (outcome_of word field) (outcome, rest) h (λ o read same.
    let spelled = outcome_of-spelled word field o read in
    let e = ap (λ (p : Outcome × List (List ℕ)). p.0) same in
    let l = ap (λ (p : Outcome × List (List ℕ)). p.1) same in
    (subst IsOutcome e spelled.0, ap (λ front. front ++ left) spelled.1 ∙ ap (λ x. outcome_fields x ++ left) e ∙ ap (λ x. outcome_fields outcome ++ x) l))

pub label_in-word : (label : Label) → label_in (label_word label) ≡ Some label
unfolding label_in
label_in-word Fail = refl
label_in-word Pass = refl
label_in-word Uncounted = refl

pub label_in-spelled : (field : List ℕ) (label : Label) → label_in field ≡ Some label → field ≡ label_word label
unfolding label_in
label_in-spelled field label h =
    some_choice _ _ _ label h (λ test is. same-word field (codes "fail") test ∙ ap label_word (some_is is)) (λ _ h.
    some_choice _ _ _ label h (λ test is. same-word field (codes "pass") test ∙ ap label_word (some_is is)) (λ _ h.
    some_choice _ _ _ label h (λ test is. same-word field (codes "none") test ∙ ap label_word (some_is is)) (λ _ is. absurd (none_some is))))

pub label-taken : (label : Label) (rest : List (List ℕ)) → label_at (label_fields label ++ rest) ≡ Some (label, rest)
label-taken label rest = rw (label_in-word label) refl

pub label-spelled : (fields rest : List (List ℕ)) (label : Label) → label_at fields ≡ Some (label, rest) → fields ≡ label_fields label ++ rest
label-spelled [] rest label h = absurd (none_some h)
label-spelled (word ∷ []) rest label h = absurd (none_some h)
label-spelled (word ∷ field ∷ left) rest label h =
    some_choice _ _ _ (label, rest) h (λ test is. mapped (λ l. (l, left)) (label_in field) (label, rest) is (λ l read same.
    let e = ap (λ (p : Label × List (List ℕ)). p.0) same in
    let r = ap (λ (p : Label × List (List ℕ)). p.1) same in
    rw (same-word word (codes "label") test, label_in-spelled field l read, e, r) refl)) (λ _ is. absurd (none_some is))

count_of-decimal : (n : ℕ) → n ≤ greatest_count → count_of (decimal n) ≡ Some n
count_of-decimal n h = number_of-decimal greatest_count n h (omega arith)

abbrev counts_fields : Counts → List (List ℕ)
counts_fields c = decimal c.first ∷ decimal c.second ∷ decimal c.third ∷ []

counts-taken : (c : Counts) (rest : List (List ℕ)) → AreCounts c → counts_at (counts_fields c ++ rest) ≡ Some (c, rest)
unfolding counts_at
counts-taken c rest are = rw (count_of-decimal c.first are.first, count_of-decimal c.second are.second, count_of-decimal c.third are.third) refl

counts-spelled : (fields rest : List (List ℕ)) (c : Counts) → counts_at fields ≡ Some (c, rest) → AreCounts c × (fields ≡ counts_fields c ++ rest)
unfolding counts_at
counts-spelled [] rest c h = absurd (none_some h)
counts-spelled (a ∷ []) rest c h = absurd (none_some h)
counts-spelled (a ∷ b ∷ []) rest c h = absurd (none_some h)
counts-spelled (a ∷ b ∷ third ∷ left) rest c h =
    option_and_then_some _ _ (c, rest) h (λ x is_x h. option_and_then_some _ _ (c, rest) h (λ y is_y h. option_and_then_some _ _ (c, rest) h (λ z is_z same.
    let first = number_of-spelled greatest_count a x is_x in
    let second = number_of-spelled greatest_count b y is_y in
    let last = number_of-spelled greatest_count third z is_z in
    let e = first-is same in
    let l = rest-is same in
    let read : Counts = record { first = x; second = y; third = z } in
    (subst AreCounts e (record { first = first.1; second = second.1; third = last.1 }), rw (first.0, second.0, last.0, l) (ap (λ k. counts_fields k ++ rest) e)))))

pub work-taken : (w : Work) (rest : List (List ℕ)) → IsWork w → work_at (work_fields w ++ rest) ≡ Some (w, rest)
work-taken w rest is =
    let c : Counts = record { first = w.fast; second = w.slow; third = w.tests } in
    rw (counts-taken c rest (record { first = is.fast; second = is.slow; third = is.tests })) refl

pub work-spelled : (fields rest : List (List ℕ)) (w : Work) → work_at fields ≡ Some (w, rest) → IsWork w × (fields ≡ work_fields w ++ rest)
work-spelled [] rest w h = absurd (none_some h)
work-spelled (word ∷ left) rest w h =
    some_choice _ _ _ (w, rest) h (λ test is. mapped _ (counts_at left) (w, rest) is (λ p read same.
    let spelled = counts-spelled left p.1 p.0 read in
    let e = ap (λ (q : Work × List (List ℕ)). q.0) same in
    let r = ap (λ (q : Work × List (List ℕ)). q.1) same in (
      subst IsWork e (record { fast = spelled.0.first; slow = spelled.0.second; tests = spelled.0.third }),
      rw (same-word word (codes "work") test, spelled.1) (ap (λ x. work_fields (work_with p.0) ++ x) r ∙ ap (λ x. work_fields x ++ rest) e),
    ))) (λ _ is. absurd (none_some is))

pub entry-taken : (e : Entry) → IsEntry e → entry_of_fields (site_fields e) ≡ Some e
unfolding entry_of_fields
entry-taken e is = rw (number_of-decimal greatest_site e.site is.site (omega arith), counts-taken e.counts [] is.counts, is.positive) refl

pub entry-spelled : (fields : List (List ℕ)) (e : Entry) → entry_of_fields fields ≡ Some e → IsEntry e × (fields ≡ site_fields e)
unfolding entry_of_fields
entry-spelled [] e h = absurd (none_some h)
entry-spelled (word ∷ []) e h = absurd (none_some h)
entry-spelled (word ∷ number ∷ left) e h =
    some_choice _ _ _ e h (λ test is. option_and_then_some _ _ e is (λ site read_site is. option_and_then_some _ _ e is (λ c read is. option_and_then_some value_at_end (counts_at left) c read (λ p taken one. some_choice (is_positive c) _ _ e is (λ positive same.
    let s = number_of-spelled greatest_site number site read_site in
    let spelled = counts-spelled left p.1 p.0 taken in
    let a = alone-is p c one in
    let are = subst AreCounts a.0 spelled.0 in
    let fields : left ≡ counts_fields c = spelled.1 ∙ ap (λ x. counts_fields p.0 ++ x) a.1 ∙ ap counts_fields a.0 in
    let x : Entry = record { site = site; counts = c } in
    let f : word ∷ number ∷ left ≡ site_fields x = ap (λ w. w ∷ number ∷ left) (same-word word (codes "site") test) ∙ ap (λ n. codes "site" ∷ n ∷ left) s.0 ∙ ap (λ fs. codes "site" ∷ decimal site ∷ fs) fields in
    subst (λ y. IsEntry y × (word ∷ number ∷ left ≡ site_fields y)) (some_is same) (record { site = s.1; counts = are; positive = positive }, f)) (λ _ is. absurd (none_some is)))))) (λ _ is. absurd (none_some is))
