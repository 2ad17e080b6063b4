-- The predicates of the kinds of sites alone are those of the site table.
use Rattle.std.proofs.Common.{◌≡◌, ℕ, ◌+◌, ◌<◌, true, false, ◌&&◌, inl, inr, List, [], ◌∷◌, length, get_or, take, refl, sym, ap, subst, ◌∙◌, arith}
use Rattle.std.proofs.lemmas.Bool.{cases_eq, eq-eqb, false_from_ne_true, ne_eqb}
use Rattle.std.proofs.lemmas.List.{get_or-map, length-map, take-map}
use Rattle.std.proofs.lemmas.List.Sums.{sum_by-cons}
use Rattle.std.proofs.lemmas.Option.{get_or_from_slice_get, slice_get_within}
use Rattle.collector.specs.Sites.{branches_of, is_branch, is_branch_kind}
use Rattle.flow.specs.declared.site.Site.{Site}
use Rattle.flow.specs.declared.site.SiteKind.{SiteKind}
use Rattle.flow.specs.declared.site.SiteKind.TheVariants.{Branch, Return, Pair}
use Rattle.flow.specs.Predicates.{IsPredicate, predicate_count, predicates_of}
use Rattle.report_file.specs.declared.report.Entry.{Entry}
use Rattle.report_file.specs.Report.{is_positive}
use Rattle.elimination.specs.Laws.{PredicateIs}
use Rattle.elimination_tallies.specs.Predicates.{first_predicate, is_of, makes_true, predicates_in, width_of}
use Rattle.elimination_tallies.proofs.PredicateLemmas.{first-next, observes-not, observes-own, of-from, of-once, shows-not, shows-own}

width-is : (kind : SiteKind) → width_of (is_branch_kind kind) ≡ predicates_of kind
width-is (Branch word) = refl
width-is (Return callee) = refl
width-is (Pair target slot partner) = refl

pub count-is : (sites : List Site) → predicates_in (branches_of sites) ≡ predicate_count sites
count-is [] = refl
count-is (s ∷ more) =
    sum_by-cons width_of (is_branch s) (branches_of more) ∙ omega (arith, width-is s.kind, count-is more) ∙ sym (sum_by-cons (λ (t : Site). predicates_of t.kind) s more)

first-is : (sites : List Site) (place : ℕ) → first_predicate (branches_of sites) place ≡ predicate_count (take place sites)
first-is sites place = ap predicates_in (take-map is_branch place sites) ∙ count-is (take place sites)

pub predicate-is : (sites : List Site) (predicate place number : ℕ) (site : Site) → IsPredicate sites predicate place site number → PredicateIs sites predicate place site number
predicate-is sites predicate place number site p =
    let bs = branches_of sites in
    let inside : place < length bs = omega (arith, slice_get_within sites place site p.stands, length-map sites is_branch) in
    let kind : get_or bs place false ≡ is_branch site = get_or-map is_branch sites place site false (slice_get_within sites place site p.stands) ∙ ap is_branch (get_or_from_slice_get sites place site site p.stands) in
    let first : predicate ≡ first_predicate bs place + number = omega (arith, p.is, first-is sites place) in
    let own : number < width_of (get_or bs place false) = omega (arith, p.own, width-is site.kind, ap width_of kind) in
    let ours : is_of bs place predicate ≡ true = of-from bs place predicate (omega (arith, first)) (omega (arith, first, own, first-next bs place inside)) in
    let others : (e : Entry) → (e.site ≡ place → ⊥) → is_of bs e.site predicate ≡ false = λ e other. false_from_ne_true (is_of bs e.site predicate) (λ has. other (of-once bs e.site place predicate has ours)) in record {
      observed = λ e. elim (cases_eq e.site place) [
        | inl same ↦
            observes-own bs predicate number e (omega (arith, inside, same)) (first ∙ ap (λ n. first_predicate bs n + number) (sym same)) (subst (λ (n : ℕ). number < width_of (get_or bs n false)) (sym same) own)
            ∙ sym (ap (λ b. b && is_positive e.counts) (eq-eqb e.site place same))
        | inr other ↦ observes-not bs predicate e (others e other) ∙ sym (ap (λ b. b && is_positive e.counts) (ne_eqb e.site place other))
      ];
      shown = λ e. elim (cases_eq e.site place) [
        | inl same ↦
            shows-own bs predicate number e (omega (arith, inside, same)) (first ∙ ap (λ n. first_predicate bs n + number) (sym same)) (subst (λ (n : ℕ). number < width_of (get_or bs n false)) (sym same) own)
            ∙ ap (λ b. makes_true b number e.counts) (ap (λ n. get_or bs n false) same ∙ kind)
            ∙ sym (ap (λ b. b && makes_true (is_branch site) number e.counts) (eq-eqb e.site place same))
        | inr other ↦ shows-not bs predicate e (others e other) ∙ sym (ap (λ b. b && makes_true (is_branch site) number e.counts) (ne_eqb e.site place other))
      ];
    }
