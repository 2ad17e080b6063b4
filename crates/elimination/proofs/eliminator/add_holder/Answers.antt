use Rattle.std.proofs.Common.{◌<◌, arith, ap, get_or, length, set}
use Rattle.std.proofs.lemmas.List.{get_or_default}
use Rattle.std.proofs.lemmas.Option.{slice_get-get_or}
use Rattle.report_file.specs.declared.report.Entry.{Entry}
use Rattle.elimination.proofs.HolderLemmas.{held-more, held-none}
use Rattle.elimination.proofs.eliminator.add_holder.Goals as goal

pub loop-entry-init : goal.loop-entry-init
loop-entry-init c = held-none c.args.place c.args.holders.now

pub loop-entry-preserved : goal.loop-entry-preserved
loop-entry-preserved c =
    let d : Entry = record { site = 0; counts = record { first = 0; second = 0; third = 0 } } in
    let j = c.loop-entry.entry-index in
    let e = get_or c.args.entries.now j d in
    let mid = c.loop-entry.holders in
    let inside : e.site < length mid = omega (arith, c.requires j d c.loop-entry-test.true, c.loop-entry.invariant.as_many) in
    held-more c.args.place j c.args.entries.now e c.args.holders.now mid _ (get_or mid e.site c.index-holders-entry.result) c.loop-entry-test.true (get_or_default c.args.entries.now j d e c.loop-entry-test.true) (slice_get-get_or mid e.site c.index-holders-entry.result inside)
    (ap (set mid e.site) c.in_ok-push.ensures.ok) c.loop-entry.invariant
