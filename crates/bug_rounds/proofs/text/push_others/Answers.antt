use Rattle.std.proofs.Common.{◌+◌, take}
use Rattle.std.proofs.lemmas.List.{take_more}
use Rattle.bug_rounds.proofs.BugTexts.{also-more}
use Rattle.bug_rounds.proofs.text.push_others.Goals as goal

pub loop-suspect-preserved : goal.loop-suspect-preserved
loop-suspect-preserved c =
    let i = c.loop-suspect.suspect-index in
    let others = c.args.others.now in
    also-more c.args.table.now c.args.totals.failing c.args.totals.successful (take i others) (take (i + 1) others) _ c.args.out.now.items c.loop-suspect.out.items c.push_also.new.out.items (take_more others i _ c.loop-suspect-test.true) c.loop-suspect.invariant c.in_ok-push_also.ensures
