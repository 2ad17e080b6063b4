use Rattle.std.proofs.Common.{◌≡◌, ◌+◌, ◌<◌, Bool, List, length, arith, sym, ap, subst, ◌∙◌}
use Rattle.std.proofs.lemmas.List.{with_items_is}
use Rattle.fractions.specs.declared.tally.Tally.{Tally}
use Rattle.elimination_tallies.specs.Predicates.{first_predicate}
use Rattle.elimination_tallies.specs.Tallies.{ChangedBy, Tallies}
use Rattle.elimination_tallies.proofs.PredicateLemmas.{first-next, first-within}
use Rattle.elimination_tallies.proofs.EntryChanges.{allowed-there, made-there}
use Rattle.elimination_tallies.proofs.numbers.Numbers.change.Goals as goal

pub change_site-requires-clause-within : goal.change_site-requires-clause-within
change_site-requires-clause-within c =
    let site : c.args.entry.now.site < length c.self.inside.branches = omega (arith, c.requires.site, ap (λ (t : Tallies). length t.branches) c.self.view_is) in
    let start : c.index.result.now ≡ first_predicate c.self.inside.branches c.args.entry.now.site = c.index.ensures ∙ c.self.invariant.starts_are.each c.args.entry.now.site c.index.result.now (omega arith) in
    rw c.as_slice.ensures (omega (arith, start, first-next c.self.inside.branches c.args.entry.now.site site, first-within c.self.inside.branches (c.args.entry.now.site + 1), c.self.invariant.as_many, ap length c.as_mut_slice.ensures.value))

pub change_site-requires-clause-allows : goal.change_site-requires-clause-allows
change_site-requires-clause-allows c =
    let site : c.args.entry.now.site < length c.self.inside.branches = omega (arith, c.requires.site, ap (λ (t : Tallies). length t.branches) c.self.view_is) in
    let start : c.index.result.now ≡ first_predicate c.self.inside.branches c.args.entry.now.site = c.index.ensures ∙ c.self.invariant.starts_are.each c.args.entry.now.site c.index.result.now (omega arith) in
    allowed-there c.args.self.now c.as_slice.result.now c.as_mut_slice.result.now c.index.result.now c.args.change c.args.entry.now (c.as_slice.ensures ∙ ap (λ (t : Tallies). t.branches) c.self.view_is) (c.as_mut_slice.ensures.value ∙ ap (λ (t : Tallies). t.tallies) c.self.view_is)
    (start ∙ ap (λ (t : Tallies). first_predicate t.branches c.args.entry.now.site) c.self.view_is) c.requires.site c.requires.positive c.requires.allows

pub returns : goal.returns
returns c =
    let site : c.args.entry.now.site < length c.self.inside.branches = omega (arith, c.requires.site, ap (λ (t : Tallies). length t.branches) c.self.view_is) in
    let start : c.index.result.now ≡ first_predicate c.self.inside.branches c.args.entry.now.site = c.index.ensures ∙ c.self.invariant.starts_are.each c.args.entry.now.site c.index.result.now (omega arith) in
    let new = c.change_site.new.tallies in
    let len : length new ≡ length c.as_mut_slice.result.now = omega arith in
    let made = made-there c.args.self.now c.as_slice.result.now c.as_mut_slice.result.now new c.index.result.now c.args.change c.args.entry.now (c.as_slice.ensures ∙ ap (λ (t : Tallies). t.branches) c.self.view_is) (c.as_mut_slice.ensures.value ∙ ap (λ (t : Tallies). t.tallies) c.self.view_is)
    (start ∙ ap (λ (t : Tallies). first_predicate t.branches c.args.entry.now.site) c.self.view_is) c.requires.site c.requires.positive len c.change_site.ensures.inside c.change_site.ensures.before c.change_site.ensures.behind in
    let branches : c.args.self.now.branches ≡ c.self.inside.branches = sym (ap (λ (t : Tallies). t.branches) c.self.view_is) in
    let items = with_items_is c.self.inside.tallies new (omega (arith, len, c.as_mut_slice.ensures.len)) in
    subst (λ (n : Tallies). ChangedBy c.args.change c.args.entry.now c.args.self.now n)
    (ap (λ (bs : List Bool). record { branches = bs; tallies = new }) branches ∙ ap (λ (ts : List Tally). record { branches = c.self.inside.branches; tallies = ts }) (sym items)) made
