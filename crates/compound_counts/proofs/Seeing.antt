-- What the entries of a run leave in the rows at its place.
use Rattle.std.proofs.Common.{◌≡◌, ℕ, ◌+◌, ◌<◌, inl, inr, Bool, true, false, ◌&&◌, ◌||◌, List, [], ◌∷◌, ◌++◌, length, get_or, set, take, refl, sym, ap, ◌∙◌, arith}
use Rattle.std.specs.Prelude.{◌==◌, IsTrue}
use Rattle.std.specs.List.{list_any}
use Rattle.std.proofs.lemmas.Bool.{cases_eq, eq-eqb, ne_eqb, or_right}
use Rattle.std.proofs.lemmas.List.{get_or-set_other, get_or-set_same, length-set, set-get_or, set-set, take_more}
use Rattle.std.proofs.lemmas.List.Folds.{list_any-append}
use Rattle.elimination_tallies.proofs.PredicateLemmas.{shows-not}
use Rattle.compound_bits.proofs.Words.{fact-is}
use Rattle.base_lists.proofs.Tests.{or_false, or_true}
use Rattle.compound_bits.specs.Facts.{Fact, no_fact, fact_seen}
use Rattle.report_file.specs.declared.report.Entry.{Entry}
use Rattle.report_file.specs.Report.{is_positive}
use Rattle.elimination_tallies.specs.Predicates.{is_of, is_observed_in_entry, is_true_in_entry}
use Rattle.compound_counts.specs.Rows.{fact_in}
use Rattle.compound_counts.specs.Seeing.{seen_if, seen_row}

or-twice : (a b : Bool) → (a || b) || b ≡ a || b
or-twice true b = refl
or-twice false true = refl
or-twice false false = refl

-- ---- one entry, watcher by watcher

seen-again : (watched truth : Bool) (f : Fact) → fact_seen truth (seen_if watched truth f) ≡ fact_seen truth f
seen-again true truth f = fact-is ((f.truth || truth) || truth) (f.truth || truth) true true (or-twice f.truth truth) refl
seen-again false truth f = refl

pub row-none : (place : ℕ) (truth : Bool) (row : List Fact) → row ≡ seen_row place false truth row
row-none place truth row = sym (set-get_or row place no_fact)

row-again : (place : ℕ) (watched truth : Bool) (row : List Fact) → place < length row
    → set (seen_row place watched truth row) place (fact_seen truth (get_or (seen_row place watched truth row) place no_fact)) ≡ seen_row place true truth row
row-again place watched truth row inside =
    let f = get_or row place no_fact in
    ap (λ (g : Fact). set (seen_row place watched truth row) place (fact_seen truth g)) (get_or-set_same row place (seen_if watched truth f) no_fact inside)
    ∙ set-set row place (seen_if watched truth f) (fact_seen truth (seen_if watched truth f))
    ∙ ap (set row place) (seen-again watched truth f)

-- the rows after the first watchers of an entry
abbrev pub AreSeenBy : (rows new : List (List Fact)) → (place : ℕ) → (watchers : List ℕ) → (ℕ → Bool) → Type 0
AreSeenBy rows new place watchers truth = (c : ℕ) → c < length rows → get_or new c [] ≡ seen_row place (list_any (λ w. w == c) watchers) (truth c) (get_or rows c [])

pub seen-none : (rows : List (List Fact)) (place : ℕ) (watchers : List ℕ) (truth : ℕ → Bool) → AreSeenBy rows rows place (take 0 watchers) truth
seen-none rows place watchers truth c inside = row-none place (truth c) (get_or rows c [])

pub seen-next : (rows mid new : List (List Fact)) (place i w : ℕ) (watchers : List ℕ) (truth : ℕ → Bool) → i < length watchers → get_or watchers i 0 ≡ w → w < length rows → length mid ≡ length rows
    → ((c : ℕ) → c < length rows → place < length (get_or rows c []))
    → new ≡ set mid w (set (get_or mid w []) place (fact_seen (truth w) (get_or (get_or mid w []) place no_fact)))
    → AreSeenBy rows mid place (take i watchers) truth → AreSeenBy rows new place (take (i + 1) watchers) truth
seen-next rows mid new place i w watchers truth less at within as_many room made so_far c inside =
    let longer : list_any (λ x. x == c) (take (i + 1) watchers) ≡ list_any (λ x. x == c) (take i watchers) || (w == c) =
    ap (list_any (λ x. x == c)) (take_more watchers i 0 less) ∙ list_any-append (λ x. x == c) (take i watchers) (get_or watchers i 0 ∷ [])
    ∙ ap (λ b. list_any (λ x. x == c) (take i watchers) || b) (or_false (get_or watchers i 0 == c) ∙ ap (λ x. x == c) at) in
    elim (cases_eq c w) [
      | inl same ↦
          let any : list_any (λ x. x == c) (take (i + 1) watchers) ≡ true = longer ∙ or_right (list_any (λ x. x == c) (take i watchers)) (w == c) (eq-eqb w c (sym same)) in
          let row : get_or mid w [] ≡ seen_row place (list_any (λ x. x == w) (take i watchers)) (truth w) (get_or rows w []) = so_far w within in
          ap (λ k. get_or new k []) same ∙ ap (λ (xs : List (List Fact)). get_or xs w []) made
          ∙ get_or-set_same mid w (set (get_or mid w []) place (fact_seen (truth w) (get_or (get_or mid w []) place no_fact))) [] (omega (arith, within, as_many))
          ∙ ap (λ (r : List Fact). set r place (fact_seen (truth w) (get_or r place no_fact))) row
          ∙ row-again place (list_any (λ x. x == w) (take i watchers)) (truth w) (get_or rows w []) (room w within)
          ∙ ap (λ k. seen_row place true (truth k) (get_or rows k [])) (sym same)
          ∙ ap (λ b. seen_row place b (truth c) (get_or rows c [])) (sym any)
      | inr other ↦
          let any : list_any (λ x. x == c) (take (i + 1) watchers) ≡ list_any (λ x. x == c) (take i watchers) =
          longer ∙ ap (λ b. list_any (λ x. x == c) (take i watchers) || b) (ne_eqb w c (λ e. other (sym e))) ∙ or_false (list_any (λ x. x == c) (take i watchers)) in
          ap (λ (xs : List (List Fact)). get_or xs c []) made
          ∙ get_or-set_other mid w c (set (get_or mid w []) place (fact_seen (truth w) (get_or (get_or mid w []) place no_fact))) [] other
          ∙ so_far c inside ∙ ap (λ b. seen_row place b (truth c) (get_or rows c [])) (sym any)
    ]

-- each row stays as long as it was
pub seen-room : (rows mid : List (List Fact)) (place : ℕ) (watchers : List ℕ) (truth : ℕ → Bool) → AreSeenBy rows mid place watchers truth → ((c : ℕ) → c < length rows → place < length (get_or rows c []))
    → (c : ℕ) → c < length rows → place < length (get_or mid c [])
seen-room rows mid place watchers truth so_far room c inside =
    let row = get_or rows c [] in
    omega (arith, ap length (so_far c inside), length-set row place (seen_if (list_any (λ w. w == c) watchers) (truth c) (get_or row place no_fact)), room c inside)

-- ---- a run, entry by entry

of-entry : (branches : List Bool) (p : ℕ) (e : Entry) (f : Fact) (own : Bool) → is_of branches e.site p ≡ own → IsTrue (is_positive e.counts)
    → seen_if own (is_true_in_entry branches p e) f ≡ record { truth = f.truth || is_true_in_entry branches p e; known = f.known || is_observed_in_entry branches p e }
unfolding is_observed_in_entry
of-entry branches p e f true is positive =
    fact-is (f.truth || is_true_in_entry branches p e) (f.truth || is_true_in_entry branches p e) true (f.known || is_observed_in_entry branches p e) refl
    (sym (ap (λ b. f.known || (b && is_positive e.counts)) is ∙ ap (λ b. f.known || b) positive ∙ or_true f.known))
of-entry branches p e f false is positive =
    fact-is f.truth (f.truth || is_true_in_entry branches p e) f.known (f.known || is_observed_in_entry branches p e)
    (sym (ap (λ b. f.truth || b) (shows-not branches p e is) ∙ or_false f.truth))
    (sym (ap (λ b. f.known || (b && is_positive e.counts)) is ∙ or_false f.known))

any-more : (test : Entry → Bool) (xs ys : List Entry) (e : Entry) → ys ≡ xs ++ e ∷ [] → list_any test ys ≡ list_any test xs || test e
any-more test xs ys e is = ap (list_any test) is ∙ list_any-append test xs (e ∷ []) ∙ ap (λ b. list_any test xs || b) (or_false (test e))

fact-more : (branches : List Bool) (p i : ℕ) (entries : List Entry) (e : Entry) → i < length entries → get_or entries i e ≡ e
    → fact_in branches p (take (i + 1) entries) ≡ record { truth = (fact_in branches p (take i entries)).truth || is_true_in_entry branches p e; known = (fact_in branches p (take i entries)).known || is_observed_in_entry branches p e }
fact-more branches p i entries e less at =
    let longer : take (i + 1) entries ≡ take i entries ++ e ∷ [] = take_more entries i e less ∙ ap (λ (x : Entry). take i entries ++ x ∷ []) at in
    fact-is (list_any (is_true_in_entry branches p) (take (i + 1) entries)) (list_any (is_true_in_entry branches p) (take i entries) || is_true_in_entry branches p e)
    (list_any (is_observed_in_entry branches p) (take (i + 1) entries)) (list_any (is_observed_in_entry branches p) (take i entries) || is_observed_in_entry branches p e)
    (any-more (is_true_in_entry branches p) (take i entries) (take (i + 1) entries) e longer) (any-more (is_observed_in_entry branches p) (take i entries) (take (i + 1) entries) e longer)

-- the rows after the first entries of a run
abbrev pub AreSeenIn : (branches : List Bool) → (predicates : List ℕ) → (rows new : List (List Fact)) → (place : ℕ) → (entries : List Entry) → Type 0
AreSeenIn branches predicates rows new place entries = (c : ℕ) → c < length rows → get_or new c [] ≡ set (get_or rows c []) place (fact_in branches (get_or predicates c 0) entries)

pub run-room : (branches : List Bool) (predicates : List ℕ) (rows mid : List (List Fact)) (place : ℕ) (entries : List Entry) → AreSeenIn branches predicates rows mid place entries → ((c : ℕ) → c < length rows → place < length (get_or rows c []))
    → (c : ℕ) → c < length rows → place < length (get_or mid c [])
run-room branches predicates rows mid place entries so_far room c inside =
    omega (arith, ap length (so_far c inside), length-set (get_or rows c []) place (fact_in branches (get_or predicates c 0) entries), room c inside)

pub run-next : (branches : List Bool) (predicates : List ℕ) (rows mid new : List (List Fact)) (place i : ℕ) (entries : List Entry) (e : Entry) (own : ℕ → Bool)
    → i < length entries → get_or entries i e ≡ e → IsTrue (is_positive e.counts) → length mid ≡ length rows
    → ((c : ℕ) → c < length rows → place < length (get_or rows c []))
    → ((c : ℕ) → c < length rows → own c ≡ is_of branches e.site (get_or predicates c 0))
    → ((c : ℕ) → c < length mid → get_or new c [] ≡ seen_row place (own c) (is_true_in_entry branches (get_or predicates c 0) e) (get_or mid c []))
    → AreSeenIn branches predicates rows mid place (take i entries) → AreSeenIn branches predicates rows new place (take (i + 1) entries)
run-next branches predicates rows mid new place i entries e own less at positive as_many room owned made so_far c inside =
    let p = get_or predicates c 0 in
    let row = get_or rows c [] in
    let f = fact_in branches p (take i entries) in
    made c (omega (arith, inside, as_many)) ∙ ap (seen_row place (own c) (is_true_in_entry branches p e)) (so_far c inside)
    ∙ ap (λ (g : Fact). set (set row place f) place (seen_if (own c) (is_true_in_entry branches p e) g)) (get_or-set_same row place f no_fact (room c inside))
    ∙ set-set row place f (seen_if (own c) (is_true_in_entry branches p e) f)
    ∙ ap (set row place) (of-entry branches p e f (own c) (sym (owned c inside)) positive ∙ sym (fact-more branches p i entries e less at))
