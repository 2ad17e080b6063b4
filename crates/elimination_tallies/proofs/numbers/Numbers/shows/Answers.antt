use Rattle.std.proofs.Common.{◌≡◌, ◌≤◌, ◌-◌, Bool, List, false, length, get_or, sym, ap, ◌∙◌, arith}
use Rattle.elimination_tallies.specs.Predicates.{first_predicate, makes_true, is_true_in_entry, width_of}
use Rattle.elimination_tallies.specs.Tallies.{Tallies}
use Rattle.elimination_tallies.proofs.PredicateLemmas.{of-not-past, of-not-before, of-not-behind, shows-not, shows-own, first-next}
use Rattle.elimination_tallies.proofs.numbers.Numbers.shows.Goals as goal

pub returns-then-site-len : goal.returns-then-site-len
returns-then-site-len c =
    let past : length c.self.inside.branches ≤ c.args.entry.now.site = omega arith in
    sym (shows-not c.self.inside.branches c.args.predicate c.args.entry.now (of-not-past c.self.inside.branches c.args.entry.now.site c.args.predicate past)) ∙ ap (λ (t : Tallies). is_true_in_entry t.branches c.args.predicate c.args.entry.now) c.self.view_is

pub returns-then-predicate-start : goal.returns-then-predicate-start
returns-then-predicate-start c =
    let start : c.index-start.result.now ≡ first_predicate c.self.inside.branches c.args.entry.now.site = c.index-start.ensures ∙ c.self.invariant.starts_are.each c.args.entry.now.site c.index-start.result.now (omega arith) in
    sym (shows-not c.self.inside.branches c.args.predicate c.args.entry.now (of-not-before c.self.inside.branches c.args.entry.now.site c.args.predicate (omega arith))) ∙ ap (λ (t : Tallies). is_true_in_entry t.branches c.args.predicate c.args.entry.now) c.self.view_is

pub returns-then-number-width_of : goal.returns-then-number-width_of
returns-then-number-width_of c =
    let start : c.index-start.result.now ≡ first_predicate c.self.inside.branches c.args.entry.now.site = c.index-start.ensures ∙ c.self.invariant.starts_are.each c.args.entry.now.site c.index-start.result.now (omega arith) in
    let next = first-next c.self.inside.branches c.args.entry.now.site (omega arith) in
    let width : c.width_of.result ≡ width_of (get_or c.self.inside.branches c.args.entry.now.site false) = c.width_of.ensures.value ∙ ap (λ (bs : List Bool). width_of (get_or bs c.args.entry.now.site false)) c.as_slice.ensures in
    sym (shows-not c.self.inside.branches c.args.predicate c.args.entry.now (of-not-behind c.self.inside.branches c.args.entry.now.site c.args.predicate (omega (arith, start, next, width)))) ∙ ap (λ (t : Tallies). is_true_in_entry t.branches c.args.predicate c.args.entry.now) c.self.view_is

pub returns : goal.returns
returns c =
    let start : c.index-start.result.now ≡ first_predicate c.self.inside.branches c.args.entry.now.site = c.index-start.ensures ∙ c.self.invariant.starts_are.each c.args.entry.now.site c.index-start.result.now (omega arith) in
    let width : c.width_of.result ≡ width_of (get_or c.self.inside.branches c.args.entry.now.site false) = c.width_of.ensures.value ∙ ap (λ (bs : List Bool). width_of (get_or bs c.args.entry.now.site false)) c.as_slice.ensures in
    let made : c.makes_true.result ≡ makes_true (get_or c.self.inside.branches c.args.entry.now.site false) (c.args.predicate - c.index-start.result.now) c.args.entry.now.counts =
    c.makes_true.ensures ∙ ap (λ (bs : List Bool). makes_true (get_or bs c.args.entry.now.site false) (c.args.predicate - c.index-start.result.now) c.args.entry.now.counts) c.as_slice.ensures in
    made
    ∙ sym (shows-own c.self.inside.branches c.args.predicate (c.args.predicate - c.index-start.result.now) c.args.entry.now (omega arith) (omega (arith, start)) (omega (arith, width)))
    ∙ ap (λ (t : Tallies). is_true_in_entry t.branches c.args.predicate c.args.entry.now) c.self.view_is
