use Rattle.std.proofs.Common.{◌+◌, ◌-◌, arith}
use Rattle.elimination_tallies.proofs.RunLemmas.{collection-rises}
use Rattle.bug_rounds.proofs.Searching.{found-full, found-last, search-is, search-more, search-start}
use Rattle.bug_rounds.proofs.search.rounds.Goals as goal

pub loop-round-init : goal.loop-round-init
loop-round-init g c = search-start c.args.table.now c.args.also c.args.most c.args.collection.now.reports (c.args.most - 0) c.args.search (omega arith) c.requires.search

pub round-requires-clause-search : goal.round-requires-clause-search
round-requires-clause-search g c =
    search-is c.args.table.now c.args.also c.args.most c.args.collection.now.reports (c.args.most - c.loop-round._round) c.loop-round.search c.loop-round.invariant (collection-rises c.args.collection.now c.keeps.ensures) c.keeps.ensures.few

pub loop-round-preserved : goal.loop-round-preserved
loop-round-preserved g c =
    search-more c.args.table.now c.args.also c.args.most c.args.collection.now.reports (c.args.most - c.loop-round._round) (c.args.most - (c.loop-round._round + 1)) c.loop-round.search c.round.new.search (omega (arith, c.loop-round-test.true)) c.loop-round.invariant
    (collection-rises c.args.collection.now c.keeps.ensures) c.keeps.ensures.few (c.in_ok-more.ensures.done c.if-not-more.false)

pub returns-then-not-more : goal.returns-then-not-more
returns-then-not-more g c =
    let last = c.in_ok-more.ensures.last c.if-not-more.true in
    found-last c.args.table.now c.args.also c.args.most c.args.collection.now.reports (c.args.most - c.loop-round._round) c.loop-round.search c.round.new.search c.found_by.result last.0 last.1 c.loop-round.invariant c.found_by.ensures.bugs c.found_by.ensures.rest

pub returns : goal.returns
returns g c =
    found-full c.args.table.now c.args.also c.args.most c.args.collection.now.reports (c.args.most - c.loop-round._round) c.loop-round.search c.found_by-2.result (omega (arith, c.loop-round-test.false)) c.loop-round.invariant c.found_by-2.ensures.bugs c.found_by-2.ensures.rest
