use Rattle.std.proofs.Common.{◌≤◌, length, arith}
use Rattle.bug_rounds.proofs.Showing.{found-shown, found-told}
use Rattle.bug_rounds.proofs.bugs.bugs_of.Goals as goal

pub bugs_text-requires : goal.bugs_text-requires
bugs_text-requires c =
    let reports = c.args.collection.now.reports in
    let few : length reports ≤ 100000 = omega (arith, c.reports_held-held.ensures.value, c.reports_held-held.ensures.most) in
    found-shown c.args.table.now reports c.args.most c.args.also c.in_ok-found.found c.totals_of-totals.result.successful c.sites-sites.ensures.is_table few c.in_ok-found.ensures c.totals_of-totals.ensures.successful

pub returns : goal.returns
returns c =
    found-told c.args.table.now c.args.collection.now.reports c.args.most c.args.also c.in_ok-found.found c.totals_of-totals.result c.in_ok-text.text.items c.in_ok-found.ensures c.totals_of-totals.ensures.failing c.totals_of-totals.ensures.successful c.in_ok-text.ensures
