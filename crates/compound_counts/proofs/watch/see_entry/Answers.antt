use Rattle.std.proofs.Common.{◌≡◌, ℕ, ◌<◌, Bool, List, [], get_or, length, set, ap, refl, ◌∙◌, arith}
use Rattle.std.proofs.lemmas.List.{get_or_default, length-set, take_all}
use Rattle.std.specs.Prelude.{◌==◌}
use Rattle.std.specs.List.{list_any}
use Rattle.compound_bits.specs.Facts.{Fact, no_fact, fact_seen}
use Rattle.elimination_tallies.specs.Predicates.{is_true_in_entry}
use Rattle.compound_counts.specs.Seeing.{seen_row}
use Rattle.compound_counts.proofs.Seeing.{seen-next, seen-none, seen-room}
use Rattle.compound_counts.proofs.watch.see_entry.Goals as goal

pub bounds-rows-watcher : goal.bounds-rows-watcher
bounds-rows-watcher c = omega (arith, c.requires.watchers c.loop-watcher.watcher-index 0 c.loop-watcher-test.true, c.requires.as_many, c.loop-watcher.invariant.as_many)

pub loop-watcher-init : goal.loop-watcher-init
loop-watcher-init c = record {
  as_many = refl;
  seen = seen-none c.args.rows.now c.args.place c.args.watchers.now (λ k. is_true_in_entry c.args.tallies.now.branches (get_or c.args.predicates.now k 0) c.args.entry.now);
}

pub see-requires : goal.see-requires
see-requires c =
    let w = get_or c.args.watchers.now c.loop-watcher.watcher-index 0 in
    let mid = c.loop-watcher.rows in
    let within : w < length c.args.rows.now = omega (arith, c.requires.watchers c.loop-watcher.watcher-index 0 c.loop-watcher-test.true, c.requires.as_many) in
    let row : get_or mid w c.index-rows-watcher.result ≡ get_or mid w [] = get_or_default mid w c.index-rows-watcher.result [] (omega (arith, within, c.loop-watcher.invariant.as_many)) in
    omega (arith, ap length row, seen-room c.args.rows.now mid c.args.place _ (λ k. is_true_in_entry c.args.tallies.now.branches (get_or c.args.predicates.now k 0) c.args.entry.now) c.loop-watcher.invariant.seen c.requires.room w within)

pub loop-watcher-preserved : goal.loop-watcher-preserved
loop-watcher-preserved c =
    let i = c.loop-watcher.watcher-index in
    let w = get_or c.args.watchers.now i 0 in
    let mid = c.loop-watcher.rows in
    let place = c.args.place in
    let truth : ℕ → Bool = λ (k : ℕ). is_true_in_entry c.args.tallies.now.branches (get_or c.args.predicates.now k 0) c.args.entry.now in
    let within : w < length c.args.rows.now = omega (arith, c.requires.watchers i 0 c.loop-watcher-test.true, c.requires.as_many) in
    let row : get_or mid w c.index-rows-watcher.result ≡ get_or mid w [] = get_or_default mid w c.index-rows-watcher.result [] (omega (arith, within, c.loop-watcher.invariant.as_many)) in
    let made : c.see.new.self ≡ set (get_or mid w []) place (fact_seen (truth w) (get_or (get_or mid w []) place no_fact)) =
    c.see.ensures ∙ ap (λ (r : List Fact). set r place (fact_seen c.shows-shown.result (get_or r place no_fact))) row
    ∙ ap (λ (b : Bool). set (get_or mid w []) place (fact_seen b (get_or (get_or mid w []) place no_fact))) c.shows-shown.ensures in record {
      as_many = length-set mid w c.see.new.self ∙ c.loop-watcher.invariant.as_many;
      seen = seen-next c.args.rows.now mid (set mid w c.see.new.self) place i w c.args.watchers.now truth c.loop-watcher-test.true refl within c.loop-watcher.invariant.as_many c.requires.room (ap (set mid w) made) c.loop-watcher.invariant.seen;
    }

pub returns-clause-seen : goal.returns-clause-seen
returns-clause-seen c k inside =
    c.loop-watcher.invariant.seen k inside
    ∙ ap (λ (ws : List ℕ). seen_row c.args.place (list_any (λ w. w == k) ws) (is_true_in_entry c.args.tallies.now.branches (get_or c.args.predicates.now k 0) c.args.entry.now) (get_or c.args.rows.now k []))
    (take_all c.loop-watcher.watcher-index c.args.watchers.now c.loop-watcher-test.false)
