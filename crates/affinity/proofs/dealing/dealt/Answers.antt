use Rattle.std.proofs.Common.{◌+◌, arith, take}
use Rattle.std.proofs.lemmas.List.{length-take-le, take_more}
use Rattle.affinity.proofs.CardLemmas.{dealt-more}
use Rattle.affinity.proofs.dealing.dealt.Goals as goal

pub loop-row-preserved : goal.loop-row-preserved
loop-row-preserved c =
    let i = c.loop-row.row-index in
    let rows = c.args.rows.now in (
      dealt-more c.args.table.now c.args.collection.now.reports (take i rows) (take (i + 1) rows) _ c.loop-row.place c.loop-row.out.items c.push_dealt.new.out.items (take_more rows i _ c.loop-row-test.true) (omega (arith, c.loop-row.invariant.1, length-take-le i rows (omega (arith, c.loop-row-test.true)))) c.loop-row.invariant.0 c.in_ok-push_dealt.ensures,
      omega (arith, c.loop-row.invariant.1),
    )

pub push_dealt-requires-clause-listed : goal.push_dealt-requires-clause-listed
push_dealt-requires-clause-listed c = c.requires.listed c.loop-row.row-index (record { predicate = 0; tally = record { a = 0; b = 0; c = 0; d = 0 }; failing = 0 }) c.loop-row-test.true
