-- The entries of a run can be spelled.
use Rattle.std.proofs.Common.{◌≡◌, ◌+◌, ◌≤◌, ℕ, zero, suc, Bool, true, false, cond, IsTrue, inl, inr, ⊎_elim, List, [], ◌∷◌, length, slice_get, Some, None, ap, sym, subst, ◌∙◌, refl, arith, add-zero, zero-add}
use Rattle.std.specs.List.{filter_map, enumerate_from, cons_option}
use Rattle.cbi_base.specs.declared.outcome.Counts.{Counts}
use Rattle.report_file.specs.declared.report.Entry.{Entry}
use Rattle.report_file.specs.Report.{AreAllCounts, AreCounts, AreEntries, RiseFrom, Among, entries_of, entry_of, greatest_site, is_positive}

-- sites that rise from a number rise from a smaller one
RiseFrom-less : (low site : ℕ) (entries : List Entry) → low ≤ site → RiseFrom site entries → RiseFrom low entries
RiseFrom-less low site [] h rise = tt
RiseFrom-less low site (e ∷ more) h rise = (omega (arith, rise.0), rise.1)

abbrev from : ℕ → List Counts → List Entry
from site counts = filter_map entry_of (enumerate_from site counts)

-- the first site's entry, where it has one
abbrev first : Bool → ℕ → Counts → List Entry → List Entry
first positive site c more = cons_option (cond positive (Some (record { site = site; counts = c })) None) more

rise-first : (positive : Bool) (site : ℕ) (c : Counts) (more : List Entry) → RiseFrom (site + 1) more → RiseFrom site (first positive site c more)
rise-first true site c more rise = (omega arith, rise)
rise-first false site c more rise = RiseFrom-less site (site + 1) more (omega arith) rise

pub entries-rise : (site : ℕ) (counts : List Counts) → RiseFrom site (from site counts)
entries-rise site [] = tt
entries-rise site (c ∷ more) = rise-first (is_positive c) site c (from (site + 1) more) (entries-rise (site + 1) more)

are-first : (positive : Bool) (site : ℕ) (c : Counts) (more : List Entry) → positive ≡ is_positive c → site ≤ greatest_site → AreCounts c → AreEntries more → AreEntries (first positive site c more)
are-first true site c more is small good are = (record { site = small; counts = good; positive = sym is }, are)
are-first false site c more is small good are = are

entries-are-from : (site : ℕ) (counts : List Counts) → site + length counts ≤ greatest_site + 1 → AreAllCounts counts → AreEntries (from site counts)
entries-are-from site [] few good = tt
entries-are-from site (c ∷ more) few good = are-first (is_positive c) site c (from (site + 1) more) refl (omega arith) good.0 (entries-are-from (site + 1) more (omega arith) good.1)

pub entries-are : (counts : List Counts) → length counts ≤ greatest_site + 1 → AreAllCounts counts → AreEntries (entries_of counts)
entries-are counts few good = entries-are-from 0 counts (omega arith) good

-- an entry among those of sites from a number on is that of a site behind it
record IsSiteFrom (site : ℕ) (counts : List Counts) (e : Entry) : Type 0 where
  place : ℕ
  is_site : e.site ≡ site + place
  counts_are : slice_get counts place ≡ Some e.counts
  positive : IsTrue (is_positive e.counts)

later-site : (site : ℕ) (c : Counts) (more : List Counts) (e : Entry) → IsSiteFrom (site + 1) more e → IsSiteFrom site (c ∷ more) e
later-site site c more e is = record { place = suc is.place; is_site = omega (arith, is.is_site); counts_are = is.counts_are; positive = is.positive }

among-first : (positive : Bool) (site : ℕ) (c : Counts) (more : List Counts) (e : Entry) → positive ≡ is_positive c → ((x : Entry) → Among x (from (site + 1) more) → IsSiteFrom (site + 1) more x) → Among e (first positive site c (from (site + 1) more)) → IsSiteFrom site (c ∷ more) e
among-first false site c more e is others among = later-site site c more e (others e among)
among-first true site c more e is others among =
    ⊎_elim (λ (same : e ≡ record { site = site; counts = c }).
    record {
      place = zero;
      is_site = ap (λ (x : Entry). x.site) same ∙ sym (add-zero site);
      counts_are = ap (λ (x : Entry). Some x.counts) (sym same);
      positive = subst (λ (x : Entry). IsTrue (is_positive x.counts)) (sym same) (sym is);
    }) (λ (other : Among e (from (site + 1) more)). later-site site c more e (others e other)) among

among-site : (site : ℕ) (counts : List Counts) (e : Entry) → Among e (from site counts) → IsSiteFrom site counts e
among-site site [] e among = absurd among
among-site site (c ∷ more) e among = among-first (is_positive c) site c more e refl (among-site (site + 1) more) among

pub among-counts : (counts : List Counts) (e : Entry) → Among e (entries_of counts) → (slice_get counts e.site ≡ Some e.counts) × IsTrue (is_positive e.counts)
among-counts counts e among =
    let is = among-site 0 counts e among in
    (ap (slice_get counts) (is.is_site ∙ zero-add is.place) ∙ is.counts_are, is.positive)

among-later : (positive : Bool) (site : ℕ) (c : Counts) (more : List Entry) (e : Entry) → Among e more → Among e (first positive site c more)
among-later true site c more e among = inr among
among-later false site c more e among = among

among-here : (positive : Bool) (site : ℕ) (c : Counts) (more : List Entry) → positive ≡ true → Among (record { site = site; counts = c }) (first positive site c more)
among-here true site c more is = inl refl
among-here false site c more is = absurd cc

among-from : (site : ℕ) (counts : List Counts) (place : ℕ) (c : Counts) → slice_get counts place ≡ Some c → IsTrue (is_positive c) → Among (record { site = site + place; counts = c }) (from site counts)
among-from site [] place c is positive = absurd cc
among-from site (x ∷ more) zero c is positive =
    let same : x ≡ c = cc in
    subst (λ k. Among (record { site = k; counts = c }) (from site (x ∷ more))) (sym (add-zero site)) (subst (λ y. Among (record { site = site; counts = y }) (from site (x ∷ more))) same (among-here (is_positive x) site x (from (site + 1) more) (subst (λ y. IsTrue (is_positive y)) (sym same) positive)))
among-from site (x ∷ more) (suc place) c is positive =
    let next : (site + 1) + place ≡ site + suc place = omega arith in
    among-later (is_positive x) site x (from (site + 1) more) (record { site = site + suc place; counts = c }) (subst (λ k. Among (record { site = k; counts = c }) (from (site + 1) more)) next (among-from (site + 1) more place c is positive))

pub among-all : (counts : List Counts) (site : ℕ) (c : Counts) → slice_get counts site ≡ Some c → IsTrue (is_positive c) → Among (record { site = site; counts = c }) (entries_of counts)
among-all counts site c is positive = subst (λ k. Among (record { site = k; counts = c }) (entries_of counts)) (zero-add site) (among-from 0 counts site c is positive)
