-- The entries of a run's report are of sites that are there, and none of a branch has a third counter.
use Rattle.std.proofs.Common.{◌≡◌, ℕ, suc, ◌+◌, ◌==◌, Bool, true, false, ◌&&◌, cond, if◌then◌else◌, IsTrue, List, [], ◌∷◌, None, Some, slice_get, refl, ap, sym, subst, ◌∙◌, add-one, add-zero, zero-add, arith}
use Rattle.std.specs.Option.{option_map}
use Rattle.std.specs.List.{cons_option, count_by, enumerate_from, filter_map}
use Rattle.std.proofs.lemmas.Bool.Decides.{nat_tests}
use Rattle.std.proofs.lemmas.List.Elements.{All-head, All-tail}
use Rattle.std.proofs.lemmas.List.Sums.{sum_by-cons}
use Rattle.std.proofs.lemmas.Option.{slice_get-map}
use Rattle.cbi_base.specs.declared.observation.Observation.{Observation}
use Rattle.cbi_base.specs.declared.observation.Seen.{Seen}
use Rattle.cbi_base.specs.declared.observation.Seen.TheVariants.{First, Second, Third, Nothing}
use Rattle.collector.specs.Sites.{branches_of, first_bad, has_site, is_branch, is_branch_kind, takes_third}
use Rattle.flow.specs.declared.program.ProgramParts.{ProgramParts}
use Rattle.flow.specs.declared.site.Site.{Site}
use Rattle.flow.specs.declared.site.SiteKind.{SiteKind}
use Rattle.flow.specs.declared.site.SiteKind.TheVariants.{Branch, Return, Pair}
use Rattle.flow.specs.Words.{counts_at, counts_from, counts_of, is_third, MachineEnds, IsProgram, Ending}
use Rattle.report_file.specs.declared.report.Entry.{Entry}
use Rattle.report_file.specs.Report.{entries_of, entry_of, is_positive}
use Rattle.machine_laws.specs.Laws.{AreSeenAt, MaySee, SeesAt}
use Rattle.machine_laws.proofs.Observing.{sees_what_it_may}

never_both : (a b : Bool) → (IsTrue a → IsTrue b → ⊥) → (a && b) ≡ false
never_both true true never = absurd (never refl refl)
never_both true false never = refl
never_both false b never = refl

-- no branch sees the third
kind_third : (kind : SiteKind) (seen : Seen) → is_branch_kind kind ≡ true → IsTrue (is_third seen) → MaySee kind seen → ⊥
kind_third (Branch word) Third branch third may = may
kind_third (Branch word) Nothing branch third may = may
kind_third (Branch word) First branch third may = cc
kind_third (Branch word) Second branch third may = cc
kind_third (Return callee) seen branch third may = cc
kind_third (Pair target slot partner) seen branch third may = cc

one_third : (sites : List Site) (number : ℕ) (s : Site) (o : Observation) → slice_get sites number ≡ Some s → is_branch s ≡ true → SeesAt (slice_get sites o.site) o.seen →
    (o.site == number && is_third o.seen) ≡ false
one_third sites number s o here branch sees =
    never_both (o.site == number) (is_third o.seen) (λ same third.
    let at : o.site ≡ number = grind (arith, nat_tests) in
    kind_third s.kind o.seen branch third (subst (λ found. SeesAt found o.seen) (ap (slice_get sites) at ∙ here) sees))

no_third : (sites : List Site) (number : ℕ) (s : Site) (seen : List Observation) → slice_get sites number ≡ Some s → is_branch s ≡ true → AreSeenAt sites seen →
    (counts_at seen number).third ≡ 0
no_third sites number s [] here branch are = refl
no_third sites number s (o ∷ more) here branch are =
    let first = All-head (λ (x : Observation). SeesAt (slice_get sites x.site) x.seen) o more are in
    let rest = All-tail (λ (x : Observation). SeesAt (slice_get sites x.site) x.seen) o more are in
    let test : Observation → Bool = λ x. x.site == number && is_third x.seen in
    sum_by-cons (λ x. cond (test x) 1 0) o more ∙ ap (λ b. cond b 1 0 + count_by test more) (one_third sites number s o here branch first)
    ∙ zero-add (count_by test more) ∙ no_third sites number s more here branch rest

third_fits : (branch : Bool) (third : ℕ) → (branch ≡ true → third ≡ 0) → takes_third (Some branch) third ≡ true
third_fits true third none = let e : third ≡ 0 = none refl in grind (arith, nat_tests)
third_fits false third none = refl

-- the counters of a site are taken as an entry of it
site_fits : (sites : List Site) (number : ℕ) (s : Site) (seen : List Observation) → slice_get sites number ≡ Some s → AreSeenAt sites seen →
    has_site (branches_of sites) (record { site = number; counts = counts_at seen number }) ≡ true
site_fits sites number s seen here are =
    ap (λ found. takes_third found (counts_at seen number).third) (slice_get-map is_branch sites number ∙ ap (λ found. option_map is_branch found) here)
    ∙ third_fits (is_branch s) (counts_at seen number).third (λ branch. no_third sites number s seen here branch are)

-- one more entry, where it is listed
entry_fits : (branches : List Bool) (listed : Bool) (e : Entry) (more : List Entry) → has_site branches e ≡ true → first_bad branches more ≡ None →
    first_bad branches (cons_option (if listed then Some e else None) more) ≡ None
entry_fits branches true e more has rest = ap (λ b. if b then first_bad branches more else Some e.site) has ∙ rest
entry_fits branches false e more has rest = rest

-- the sites from a number on
rest_fits : (sites : List Site) (seen : List Observation) → AreSeenAt sites seen → (number : ℕ) (rest : List Site) → ((k : ℕ) → slice_get rest k ≡ slice_get sites (number + k)) →
    first_bad (branches_of sites) (filter_map entry_of (enumerate_from number (counts_from number rest seen))) ≡ None
rest_fits sites seen are number [] same = refl
rest_fits sites seen are number (s ∷ rest) same =
    let here : slice_get sites number ≡ Some s = ap (slice_get sites) (sym (add-zero number)) ∙ sym (same 0) in
    let counts = counts_at seen number in
    let behind = rest_fits sites seen are (suc number) rest (λ k. same (suc k) ∙ ap (slice_get sites) (omega arith)) in
    entry_fits (branches_of sites) (is_positive counts) (record { site = number; counts = counts })
    (filter_map entry_of (enumerate_from (number + 1) (counts_from (suc number) rest seen))) (site_fits sites number s seen here are)
    (subst (λ n. first_bad (branches_of sites) (filter_map entry_of (enumerate_from n (counts_from (suc number) rest seen))) ≡ None) (sym (add-one number)) behind)

pub report_is_taken : (p : ProgramParts) (input : List ℕ) (bank : ℕ → ℕ) (turns : ℕ) (ending : Ending) → IsProgram p → MachineEnds p input bank turns ending →
    first_bad (branches_of p.sites) (entries_of (counts_of p.sites ending.seen)) ≡ None
report_is_taken p input bank turns ending is ends =
    rest_fits p.sites ending.seen (sees_what_it_may p input bank turns ending is ends) 0 p.sites (λ k. ap (slice_get p.sites) (sym (zero-add k)))
