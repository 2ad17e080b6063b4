-- The rows of facts, one run on.
use Rattle.std.proofs.Common.{◌≡◌, ℕ, zero, suc, ◌+◌, ◌-◌, ◌<◌, ◌≤◌, ◌^◌, Bool, true, false, cond, List, [], ◌∷◌, ◌++◌, length, get_or, map, set, Some, None, refl, sym, ap, subst, ◌∙◌, append_assoc, arith}
use Rattle.std.specs.Prelude.{filter, replicate}
use Rattle.std.proofs.lemmas.List.{append-nil, get_or-append_right, get_or-replicate, length-append, length-map, length-replicate, length-set, length_push, map-append, set_at}
use Rattle.std.proofs.lemmas.List.Elements.{filter-append}
use Rattle.std.proofs.lemmas.List.Sums.{length-filter}
use Rattle.compound_bits.specs.Facts.{Fact, no_fact}
use Rattle.collector.specs.declared.collection.Held.{Held}
use Rattle.collector.specs.Collected.{next_after}
use Rattle.collector.specs.Collecting.{IsCollection}
use Rattle.report_file.specs.declared.report.Report.{Report}
use Rattle.elimination_tallies.specs.declared.labelled.LabelledRun.{LabelledRun}
use Rattle.elimination_tallies.specs.Recount.{run_of_report, runs_of}
use Rattle.compound_counts.specs.Rows.{AreFactRows, AreRowsUpTo, IsRow, fact_in, fact_of}
use Rattle.compound_counts.specs.Runs.{counted_runs, is_counted_label, run_count}
use Rattle.compound_counts.specs.Numbers.{AreEven}
use Rattle.compound_counts.proofs.Cuts.{cut-end, cut-next, cut-start, run-room}

no-fact-at : (n k : ℕ) → get_or (replicate n no_fact) k no_fact ≡ no_fact
no-fact-at zero k = refl
no-fact-at (suc n) zero = refl
no-fact-at (suc n) (suc k) = no-fact-at n k

pub row-fresh : (facts row : List Fact) (place : ℕ) → IsRow facts row → length facts ≡ place → get_or row place no_fact ≡ no_fact
row-fresh facts row place is as_long =
    ap (λ (xs : List Fact). get_or xs place no_fact) is.is ∙ get_or-append_right facts (replicate is.more no_fact) place place no_fact as_long (omega arith) ∙ no-fact-at is.more (place - place)

row-more : (facts row : List Fact) (place more : ℕ) (f : Fact) → row ≡ facts ++ replicate more no_fact → length facts ≡ place → place < length row → IsRow (facts ++ f ∷ []) (set row place f)
row-more facts row place zero f is as_long inside = absurd (omega (arith, inside, ap length is, length-append facts [], as_long))
row-more facts row place (suc more) f is as_long inside = record {
  more = more;
  is = ap (λ (xs : List Fact). set xs place f) is ∙ set_at facts no_fact (replicate more no_fact) f place as_long ∙ sym (append_assoc facts (f ∷ []) (replicate more no_fact));
}

pub rows-none : (branches : List Bool) (predicates : List ℕ) (room count : ℕ) (rows : List (List Fact)) → count ≡ length predicates → rows ≡ replicate count (replicate room no_fact) → AreFactRows branches predicates room [] rows
rows-none branches predicates room count rows as_many is =
    let row : (c : ℕ) → c < length predicates → get_or rows c [] ≡ replicate room no_fact =
    λ c inside. ap (λ (xs : List (List Fact)). get_or xs c []) is ∙ get_or-replicate count c (replicate room no_fact) [] (omega (arith, inside, as_many)) in record {
      as_many = ap length is ∙ length-replicate count (replicate room no_fact) ∙ as_many;
      rooms = λ c inside. ap length (row c inside) ∙ length-replicate room no_fact;
      each = λ c inside. record { more = room; is = row c inside };
    }

pub rows-more : (branches : List Bool) (predicates : List ℕ) (room place : ℕ) (runs : List LabelledRun) (r : LabelledRun) (old new : List (List Fact)) → length runs ≡ place → place < room
    → AreFactRows branches predicates room runs old → length new ≡ length old
    → ((c : ℕ) → c < length old → get_or new c [] ≡ set (get_or old c []) place (fact_in branches (get_or predicates c 0) r.entries))
    → AreFactRows branches predicates room (runs ++ r ∷ []) new
rows-more branches predicates room place runs r old new as_long inside are as_many made = record {
  as_many = as_many ∙ are.as_many;
  rooms = λ c within.
      ap length (made c (omega (arith, within, are.as_many))) ∙ length-set (get_or old c []) place (fact_in branches (get_or predicates c 0) r.entries) ∙ are.rooms c within;
  each = λ c within.
      let f = fact_of branches (get_or predicates c 0) in
      let row = are.each c within in
      let more = row-more (map f runs) (get_or old c []) place row.more (f r) row.is (length-map runs f ∙ as_long) (omega (arith, inside, are.rooms c within)) in
      subst (λ (facts : List Fact). IsRow facts (get_or new c [])) (sym (map-append f runs (r ∷ [])))
      (subst (IsRow (map f runs ++ f r ∷ [])) (sym (made c (omega (arith, within, are.as_many)))) more);
}

-- ---- the reports, one on

pub rows-start : (branches : List Bool) (predicates : List ℕ) (room count : ℕ) (failing : Bool) (c : Held) (rows : List (List Fact)) → IsCollection c → count ≡ length predicates
    → rows ≡ replicate count (replicate room no_fact) → AreRowsUpTo branches predicates room failing c.reports 0 0 rows
rows-start branches predicates room count failing c rows is as_many made = record {
  before = [];
  after = c.reports;
  cut = cut-start c is;
  place_is = refl;
  rows_are = rows-none branches predicates room count rows as_many made;
}

counted-push : (failing : Bool) (before : List Report) (r : Report) (b : Bool) → is_counted_label failing r.label ≡ b
    → counted_runs failing (runs_of (before ++ r ∷ [])) ≡ counted_runs failing (runs_of before) ++ cond b (run_of_report r ∷ []) []
counted-push failing before r b is =
    let test : LabelledRun → Bool = λ (x : LabelledRun). is_counted_label failing x.label in
    ap (filter test) (map-append run_of_report before (r ∷ [])) ∙ filter-append test (runs_of before) (run_of_report r ∷ [])
    ∙ ap (λ t. counted_runs failing (runs_of before) ++ cond t (run_of_report r ∷ []) []) is

pub rows-skip : (branches : List Bool) (predicates : List ℕ) (room : ℕ) (failing : Bool) (reports : List Report) (last place : ℕ) (rows : List (List Fact)) (r : Report) → next_after last reports ≡ Some r
    → is_counted_label failing r.label ≡ false → AreRowsUpTo branches predicates room failing reports last place rows → AreRowsUpTo branches predicates room failing reports r.run place rows
rows-skip branches predicates room failing reports last place rows r is not_counted so_far =
    let next = cut-next reports last so_far.before so_far.after r so_far.cut is in
    let same : counted_runs failing (runs_of (so_far.before ++ r ∷ [])) ≡ counted_runs failing (runs_of so_far.before) = counted-push failing so_far.before r false not_counted ∙ append-nil (counted_runs failing (runs_of so_far.before)) in record {
      before = so_far.before ++ r ∷ [];
      after = next.more;
      cut = next.cut;
      place_is = so_far.place_is ∙ ap length (sym same);
      rows_are = subst (λ (runs : List LabelledRun). AreFactRows branches predicates room runs rows) (sym same) so_far.rows_are;
    }

-- a run that is counted has a place
pub place-room : (branches : List Bool) (predicates : List ℕ) (room : ℕ) (failing : Bool) (reports : List Report) (last place : ℕ) (rows : List (List Fact)) (r : Report) → next_after last reports ≡ Some r
    → is_counted_label failing r.label ≡ true → AreRowsUpTo branches predicates room failing reports last place rows → place + 1 ≤ run_count failing (runs_of reports)
place-room branches predicates room failing reports last place rows r is counted so_far =
    let next = cut-next reports last so_far.before so_far.after r so_far.cut is in
    let one : cond (is_counted_label failing r.label) 1 0 ≡ 1 = ap {B = ℕ} (λ (b : Bool). cond b 1 0) counted in
    omega (arith, run-room failing reports last so_far.before so_far.after r so_far.cut next, one, so_far.place_is, length-filter (λ (x : LabelledRun). is_counted_label failing x.label) (runs_of so_far.before))

pub rows-next : (branches : List Bool) (predicates : List ℕ) (room : ℕ) (failing : Bool) (reports : List Report) (last place : ℕ) (old new : List (List Fact)) (r : Report) → next_after last reports ≡ Some r
    → is_counted_label failing r.label ≡ true → place < room → length new ≡ length old
    → ((c : ℕ) → c < length old → get_or new c [] ≡ set (get_or old c []) place (fact_in branches (get_or predicates c 0) r.entries))
    → AreRowsUpTo branches predicates room failing reports last place old → AreRowsUpTo branches predicates room failing reports r.run (place + 1) new
rows-next branches predicates room failing reports last place old new r is counted inside as_many made so_far =
    let next = cut-next reports last so_far.before so_far.after r so_far.cut is in
    let runs = counted_runs failing (runs_of so_far.before) in
    let longer : counted_runs failing (runs_of (so_far.before ++ r ∷ [])) ≡ runs ++ run_of_report r ∷ [] = counted-push failing so_far.before r true counted in record {
      before = so_far.before ++ r ∷ [];
      after = next.more;
      cut = next.cut;
      place_is = omega (arith, so_far.place_is, ap length longer, length_push runs (run_of_report r));
      rows_are = subst (λ (xs : List LabelledRun). AreFactRows branches predicates room xs new) (sym longer)
          (rows-more branches predicates room place runs (run_of_report r) old new (sym so_far.place_is) inside so_far.rows_are as_many made);
    }

pub rows-end : (branches : List Bool) (predicates : List ℕ) (room : ℕ) (failing : Bool) (reports : List Report) (last place : ℕ) (rows : List (List Fact)) → next_after last reports ≡ None
    → AreRowsUpTo branches predicates room failing reports last place rows → AreFactRows branches predicates room (counted_runs failing (runs_of reports)) rows
rows-end branches predicates room failing reports last place rows is so_far =
    let all : reports ≡ so_far.before = so_far.cut.whole ∙ ap (λ xs. so_far.before ++ xs) (cut-end reports last so_far.before so_far.after so_far.cut is) ∙ append-nil so_far.before in
    subst (λ (xs : List Report). AreFactRows branches predicates room (counted_runs failing (runs_of xs)) rows) (sym all) so_far.rows_are

-- all rows have one length
pub rows-even : (branches : List Bool) (predicates : List ℕ) (room : ℕ) (runs : List LabelledRun) (rows : List (List Fact)) → room < 2 ^ 32 → AreFactRows branches predicates room runs rows → AreEven rows
rows-even branches predicates room runs rows few are = record {
  same = λ i j one other. are.rooms i (omega (arith, one, are.as_many)) ∙ sym (are.rooms j (omega (arith, other, are.as_many)));
  few = λ i one. omega (arith, are.rooms i (omega (arith, one, are.as_many)), few);
}
