use Rattle.std.proofs.Common.{◌+◌, List, sym, subst, ap, arith}
use Rattle.report_file.specs.declared.report.Entry.{Entry}
use Rattle.report_file.specs.declared.report.Report.{Report}
use Rattle.session.specs.Session.{AreKept}
use Rattle.elimination_tallies.specs.Tallies.{AllowsEntries, ChangedByAll, counted_as}
use Rattle.elimination_tallies.specs.declared.numbers.Change.TheVariants.{PutIn}
use Rattle.elimination_tallies.specs.declared.numbers.Counted.{Counted}
use Rattle.session.proofs.Changes.{few-fail, fails-split, kept-put, put-allowed}
use Rattle.session.proofs.Runs.{without-absent}
use Rattle.session.proofs.kept.put_in.Goals as goal

pub returns-in_default : goal.returns-in_default
returns-in_default c =
    subst (λ (rs : List Report). AreKept c.args.collection.now.branches rs c.args.kept.now) (without-absent c.args.run c.args.collection.now.reports (sym c.in_default.ensures.value)) c.requires

pub change_all-requires-clause-allows : goal.change_all-requires-clause-allows
change_all-requires-clause-allows c =
    let r = c.in-Some.report.now in
    let numbers = c.args.kept.now.numbers in
    let allowed = put-allowed c.args.collection.now c.args.run r numbers c.keeps.ensures (sym c.in-Some.ensures.value) c.requires.recounts in
    subst (λ (k : Counted). AllowsEntries (PutIn k) c.as_slice-entries.result.now numbers) (sym c.counted_as-counted.ensures)
    (subst (λ (es : List Entry). AllowsEntries (PutIn (counted_as r.label)) es numbers) (sym c.as_slice-entries.ensures) allowed)

pub overflow_add-kept : goal.overflow_add-kept
overflow_add-kept c =
    let parts = fails-split c.args.collection.now c.args.run c.in-Some.report.now c.keeps.ensures (sym c.in-Some.ensures.value) in
    omega (arith, parts, few-fail c.args.collection.now c.keeps.ensures, c.requires.failing, c.fails.ensures)

pub returns : goal.returns
returns c =
    let r = c.in-Some.report.now in
    let old = c.args.kept.now in
    let numbers = c.change_all.new.self in
    let made = subst (λ (k : Counted). ChangedByAll (PutIn k) r.entries old.numbers numbers) c.counted_as-counted.ensures
    (subst (λ (es : List Entry). ChangedByAll (PutIn c.counted_as-counted.result) es old.numbers numbers) c.as_slice-entries.ensures c.change_all.ensures) in
    kept-put c.args.collection.now c.args.run r old _ c.keeps.ensures (sym c.in-Some.ensures.value) c.requires made (ap (λ n. old.failing + n) c.fails.ensures)
