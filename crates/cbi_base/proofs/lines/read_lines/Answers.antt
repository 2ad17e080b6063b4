use Rattle.std.proofs.Common.{◌≡◌, ◌≢◌, ℕ, List, ◌++◌, ◌∷◌, [], length, ap, sym, ◌∙◌, refl, rules, arith, length-append}
use Rattle.std.proofs.lemmas.Bool.{false≢true}
use Rattle.cbi_base.specs.Lines.{Stops}
use Rattle.cbi_base.proofs.LineLemmas.{good-more, bad-stops, bad-begins, bad-next, bad-here, bad-left, stops-within, stops-at, stops-behind, reads-whole, reads-next, reads-here, reads-left}
use Rattle.cbi_base.proofs.lines.read_lines.Goals as goal

pub loop-rest-init : goal.loop-rest-init
loop-rest-init g c = record {
  good = [];
  front = record { text_is = refl; are_lines = tt; leads = refl };
  number = refl;
  room = omega arith;
  only = λ to reads. reads;
  bad_only = λ line bad. bad-begins g.R.LineReader.follows g.R.LineReader.ends _ _ line bad;
}

pub loop-rest-preserved : goal.loop-rest-preserved
loop-rest-preserved g c =
    let i = c.loop-rest.invariant in
    let parts = c.in-Some.ensures in record {
      good = i.good ++ c.in-Some.line.now ∷ [];
      front = good-more g.R.LineReader.follows _ _ _ _ _ c.in-Some.line.now c.in-Some.after.now i.good i.front parts.0 parts.1 c.in-Ok.ensures.ok;
      number = omega (arith, i.number, length-append {A = List ℕ} i.good (c.in-Some.line.now ∷ []));
      room = omega (arith, i.room, ap length parts.0, length-append {A = ℕ} c.in-Some.line.now (10 ∷ c.in-Some.after.now));
      only = λ to reads. reads-next g.R.LineReader.follows g.R.LineReader.ends _ _ to _ c.in-Some.line.now c.in-Some.after.now parts.0 parts.1 c.in-Ok.ensures.only (i.only to reads);
      bad_only = λ line bad. bad-next g.R.LineReader.follows g.R.LineReader.ends _ _ _ c.in-Some.line.now c.in-Some.after.now _ line parts.0 parts.1 c.in-Ok.ensures.ok c.in-Ok.ensures.only (i.bad_only line bad);
    }

pub returns-in_default-clause-bad : goal.returns-in_default-clause-bad
returns-in_default-clause-bad g c =
    let i = c.loop-rest.invariant in
    let stops : Stops g.R.LineReader.follows g.R.LineReader.ends c.loop-rest.reader c.loop-rest.rest.now =
    let some : c.loop-rest.rest.now ≢ [] = search rules in
    stops-within g.R.LineReader.follows g.R.LineReader.ends c.loop-rest.reader c.loop-rest.rest.now c.in_default.ensures some in
    rw (c.bad_after.ensures, i.number) (bad-stops g.R.LineReader.follows g.R.LineReader.ends _ _ _ _ i.good i.front stops)

pub returns-in_default-clause-only : goal.returns-in_default-clause-only
returns-in_default-clause-only g c = λ to reads.
    let stops : Stops g.R.LineReader.follows g.R.LineReader.ends c.loop-rest.reader c.loop-rest.rest.now =
    let some : c.loop-rest.rest.now ≢ [] = search rules in
    stops-within g.R.LineReader.follows g.R.LineReader.ends c.loop-rest.reader c.loop-rest.rest.now c.in_default.ensures some in
    rw c.bad_after.ensures (reads-here g.R.LineReader.follows g.R.LineReader.ends _ to _ stops (c.loop-rest.invariant.only to reads))

pub returns-in_default-clause-bad_only : goal.returns-in_default-clause-bad_only
returns-in_default-clause-bad_only g c = λ line bad.
    let stops : Stops g.R.LineReader.follows g.R.LineReader.ends c.loop-rest.reader c.loop-rest.rest.now =
    let some : c.loop-rest.rest.now ≢ [] = search rules in
    stops-within g.R.LineReader.follows g.R.LineReader.ends c.loop-rest.reader c.loop-rest.rest.now c.in_default.ensures some in
    rw c.bad_after.ensures (bad-here g.R.LineReader.follows g.R.LineReader.ends _ _ _ line stops (c.loop-rest.invariant.bad_only line bad))

pub returns-in-Err-Bad-clause-bad : goal.returns-in-Err-Bad-clause-bad
returns-in-Err-Bad-clause-bad g c =
    let i = c.loop-rest.invariant in
    let stops : Stops g.R.LineReader.follows g.R.LineReader.ends c.loop-rest.reader c.loop-rest.rest.now =
    let parts = c.in-Some.ensures in
    stops-at g.R.LineReader.follows g.R.LineReader.ends c.loop-rest.reader c.loop-rest.rest.now c.in-Some.line.now c.in-Some.after.now parts.0 parts.1 (λ next goes. rw c.in-Err-Bad.field-0-is at (c.in-Err-Bad.ensures.only next goes)) in
    rw (c.bad_after-in-Err-Bad.ensures, i.number) (bad-stops g.R.LineReader.follows g.R.LineReader.ends _ _ _ _ i.good i.front stops)

pub returns-in-Err-Bad-clause-only : goal.returns-in-Err-Bad-clause-only
returns-in-Err-Bad-clause-only g c = λ to reads.
    let stops : Stops g.R.LineReader.follows g.R.LineReader.ends c.loop-rest.reader c.loop-rest.rest.now =
    let parts = c.in-Some.ensures in
    stops-at g.R.LineReader.follows g.R.LineReader.ends c.loop-rest.reader c.loop-rest.rest.now c.in-Some.line.now c.in-Some.after.now parts.0 parts.1 (λ next goes. rw c.in-Err-Bad.field-0-is at (c.in-Err-Bad.ensures.only next goes)) in
    rw c.bad_after-in-Err-Bad.ensures (reads-here g.R.LineReader.follows g.R.LineReader.ends _ to _ stops (c.loop-rest.invariant.only to reads))

pub returns-in-Err-Bad-clause-bad_only : goal.returns-in-Err-Bad-clause-bad_only
returns-in-Err-Bad-clause-bad_only g c = λ line bad.
    let stops : Stops g.R.LineReader.follows g.R.LineReader.ends c.loop-rest.reader c.loop-rest.rest.now =
    let parts = c.in-Some.ensures in
    stops-at g.R.LineReader.follows g.R.LineReader.ends c.loop-rest.reader c.loop-rest.rest.now c.in-Some.line.now c.in-Some.after.now parts.0 parts.1 (λ next goes. rw c.in-Err-Bad.field-0-is at (c.in-Err-Bad.ensures.only next goes)) in
    rw c.bad_after-in-Err-Bad.ensures (bad-here g.R.LineReader.follows g.R.LineReader.ends _ _ _ line stops (c.loop-rest.invariant.bad_only line bad))

pub returns-then-not-may_end-clause-bad : goal.returns-then-not-may_end-clause-bad
returns-then-not-may_end-clause-bad g c =
    let i = c.loop-rest.invariant in
    let stops : Stops g.R.LineReader.follows g.R.LineReader.ends c.loop-rest.reader c.loop-rest.rest.now =
    let none : length c.loop-rest.rest.now ≡ 0 = search rules in
    stops-behind g.R.LineReader.follows g.R.LineReader.ends c.loop-rest.reader c.loop-rest.rest.now none (λ over. false≢true (sym c.if-not-may_end.true ∙ c.may_end.ensures.1 over)) in
    rw (c.bad_after-then-not-may_end.ensures, i.number) (bad-stops g.R.LineReader.follows g.R.LineReader.ends _ _ _ _ i.good i.front stops)

pub returns-then-not-may_end-clause-only : goal.returns-then-not-may_end-clause-only
returns-then-not-may_end-clause-only g c = λ to reads.
    let stops : Stops g.R.LineReader.follows g.R.LineReader.ends c.loop-rest.reader c.loop-rest.rest.now =
    let none : length c.loop-rest.rest.now ≡ 0 = search rules in
    stops-behind g.R.LineReader.follows g.R.LineReader.ends c.loop-rest.reader c.loop-rest.rest.now none (λ over. false≢true (sym c.if-not-may_end.true ∙ c.may_end.ensures.1 over)) in
    rw c.bad_after-then-not-may_end.ensures (reads-here g.R.LineReader.follows g.R.LineReader.ends _ to _ stops (c.loop-rest.invariant.only to reads))

pub returns-then-not-may_end-clause-bad_only : goal.returns-then-not-may_end-clause-bad_only
returns-then-not-may_end-clause-bad_only g c = λ line bad.
    let stops : Stops g.R.LineReader.follows g.R.LineReader.ends c.loop-rest.reader c.loop-rest.rest.now =
    let none : length c.loop-rest.rest.now ≡ 0 = search rules in
    stops-behind g.R.LineReader.follows g.R.LineReader.ends c.loop-rest.reader c.loop-rest.rest.now none (λ over. false≢true (sym c.if-not-may_end.true ∙ c.may_end.ensures.1 over)) in
    rw c.bad_after-then-not-may_end.ensures (bad-here g.R.LineReader.follows g.R.LineReader.ends _ _ _ line stops (c.loop-rest.invariant.bad_only line bad))

pub returns-clause-ok : goal.returns-clause-ok
returns-clause-ok g c =
    let i = c.loop-rest.invariant in
    let none : length c.loop-rest.rest.now ≡ 0 = search rules in
    reads-whole g.R.LineReader.follows g.R.LineReader.ends _ _ _ _ i.good i.front none (search rules)

pub returns-clause-only : goal.returns-clause-only
returns-clause-only g c = λ to reads.
    let none : length c.loop-rest.rest.now ≡ 0 = search rules in
    reads-left g.R.LineReader.follows g.R.LineReader.ends _ to _ none (c.loop-rest.invariant.only to reads)

pub returns-clause-bad_only : goal.returns-clause-bad_only
returns-clause-bad_only g c = λ line bad.
    let none : length c.loop-rest.rest.now ≡ 0 = search rules in
    bad-left g.R.LineReader.follows g.R.LineReader.ends _ _ _ line none (search rules) (c.loop-rest.invariant.bad_only line bad)
