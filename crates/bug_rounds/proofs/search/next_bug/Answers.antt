use Rattle.std.proofs.Common.{◌≡◌, ℕ, ◌∙◌, Bool, List, ◌∷◌, true, Some, arith, refl, subst, sym}
use Rattle.std.specs.Prelude.{Contains}
use Rattle.std.specs.List.{find, list_any}
use Rattle.collector.specs.Sites.{branches_of}
use Rattle.association.specs.declared.suspect.Suspect.{Suspect}
use Rattle.elimination_tallies.specs.Tallies.{AreRecounts, Tallies}
use Rattle.suspicious_lines.specs.Listing.{AreListed}
use Rattle.suspicious_lines.specs.Suspects.{suspects_of}
use Rattle.bug_rounds.specs.Live.{is_own_number}
use Rattle.bug_rounds.proofs.Searching.{bug-found, leader-listed, leader-own, listed-first, listed-none, next-count, next-runs, next-suspects, no-places, some-places}
use Rattle.bug_rounds.proofs.search.next_bug.Goals as goal

pub suspects_by-requires : goal.suspects_by-requires
suspects_by-requires c =
    let e = c.args.search.now.eliminator in
    next-count c.args.table.now c.args.collection.now.reports c.args.search.now c.numbers-numbers.result.now c.requires.search (subst (λ (t : Tallies). AreRecounts e.branches e.runs t) (sym c.numbers-numbers.ensures) c.tallies.ensures)

pub listed-requires : goal.listed-requires
listed-requires c =
    let e = c.args.search.now.eliminator in
    let recounts : AreRecounts e.branches e.runs c.numbers-numbers.result.now = subst (λ (t : Tallies). AreRecounts e.branches e.runs t) (sym c.numbers-numbers.ensures) c.tallies.ensures in
    next-runs c.args.table.now c.args.collection.now.reports c.args.search.now c.failing_left-failing.result c.in_ok-suspects.suspects.items c.requires.search c.failing_left-failing.ensures
    (next-suspects c.args.table.now c.args.collection.now.reports c.args.search.now c.numbers-numbers.result.now c.in_ok-suspects.suspects.items c.requires.search recounts c.in_ok-suspects.ensures)

pub returns-then-is_empty-clause-none : goal.returns-then-is_empty-clause-none
returns-then-is_empty-clause-none c =
    let e = c.args.search.now.eliminator in
    let recounts : AreRecounts e.branches e.runs c.numbers-numbers.result.now = subst (λ (t : Tallies). AreRecounts e.branches e.runs t) (sym c.numbers-numbers.ensures) c.tallies.ensures in
    let suspects = next-suspects c.args.table.now c.args.collection.now.reports c.args.search.now c.numbers-numbers.result.now c.in_ok-suspects.suspects.items c.requires.search recounts c.in_ok-suspects.ensures in
    sym suspects
    ∙ listed-none c.failing_left-failing.result c.args.search.now.successful 3 c.from.result c.in_ok-suspects.suspects.items c.in_ok-places.places.items (omega (arith, c.from.ensures, c.requires.also)) (no-places c.in_ok-places.places (sym c.if-is_empty.ensures))
    c.in_ok-places.ensures

pub first_own-first-requires-clause-some : goal.first_own-first-requires-clause-some
first_own-first-requires-clause-some c =
    let table = c.args.table.now in
    let s = c.args.search.now in
    let e = s.eliminator in
    let reports = c.args.collection.now.reports in
    let leader = c.remove-leader.result in
    let suspects = c.in_ok-suspects.suspects.items in
    let rest = c.remove-leader.new.self.items in
    let recounts : AreRecounts e.branches e.runs c.numbers-numbers.result.now = subst (λ (t : Tallies). AreRecounts e.branches e.runs t) (sym c.numbers-numbers.ensures) c.tallies.ensures in
    let rows = leader-listed c.failing_left-failing.result s.successful c.from.result suspects c.in_ok-places.places.items rest leader (some-places c.in_ok-places.places (sym c.if-is_empty.ensures)) c.remove-leader.ensures.value c.remove-leader.ensures.items c.in_ok-places.ensures in
    let has : Contains (suspects_of table e.runs) leader =
    subst (λ (xs : List Suspect). Contains xs leader) (next-suspects table reports s c.numbers-numbers.result.now suspects c.requires.search recounts c.in_ok-suspects.ensures) (listed-first c.failing_left-failing.result s.successful 3 c.from.result suspects rest leader rows) in
    subst (λ (bs : List Bool). list_any (is_own_number bs reports leader.predicate) c.as_slice.result.now ≡ true) (sym c.requires.table)
    (subst (λ (ns : List ℕ). list_any (is_own_number (branches_of table.sites) reports leader.predicate) ns ≡ true) (sym c.as_slice.ensures.value) (leader-own table reports e.runs s.live.items leader c.requires.search.live has))

pub returns-clause-some : goal.returns-clause-some
returns-clause-some c =
    let table = c.args.table.now in
    let s = c.args.search.now in
    let e = s.eliminator in
    let reports = c.args.collection.now.reports in
    let leader = c.remove-leader.result in
    let first = c.first_own-first.result in
    let failing = c.failing_left-failing.result in
    let suspects = c.in_ok-suspects.suspects.items in
    let rest = c.remove-leader.new.self.items in
    let recounts : AreRecounts e.branches e.runs c.numbers-numbers.result.now = subst (λ (t : Tallies). AreRecounts e.branches e.runs t) (sym c.numbers-numbers.ensures) c.tallies.ensures in
    let rows : AreListed failing s.successful 3 c.from.result suspects (leader ∷ rest) =
    leader-listed failing s.successful c.from.result suspects c.in_ok-places.places.items rest leader (some-places c.in_ok-places.places (sym c.if-is_empty.ensures)) c.remove-leader.ensures.value c.remove-leader.ensures.items c.in_ok-places.ensures in
    let at : AreListed failing s.successful 3 c.args.also suspects (leader ∷ rest) = subst (λ (n : ℕ). AreListed failing s.successful 3 n suspects (leader ∷ rest)) c.from.ensures rows in
    let made : AreListed failing s.successful 3 c.args.also suspects (leader ∷ c.from_vec.result) = subst (λ (xs : List Suspect). AreListed failing s.successful 3 c.args.also suspects (leader ∷ xs)) (sym c.from_vec.ensures) at in
    let found : find (is_own_number (branches_of table.sites) reports leader.predicate) s.live.items ≡ Some first =
    subst (λ (ns : List ℕ). find (is_own_number (branches_of table.sites) reports leader.predicate) ns ≡ Some first) c.as_slice.ensures.value
    (subst (λ (bs : List Bool). find (is_own_number bs reports leader.predicate) c.as_slice.result.now ≡ Some first) c.requires.table c.first_own-first.ensures) in
    bug-found table c.args.also reports s (record { leader = leader; first = first; others = c.from_vec.result; failing = failing }) failing suspects c.requires.search c.failing_left-failing.ensures
    (next-suspects table reports s c.numbers-numbers.result.now suspects c.requires.search recounts c.in_ok-suspects.ensures) made refl found
