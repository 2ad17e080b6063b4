use Rattle.std.proofs.Common.{sym, arith}
use Rattle.elimination_tallies.proofs.RunLemmas.{are-entries, collection-rises, next-is, next-later, none-after}
use Rattle.elimination_tallies.proofs.runs.report_after.Goals as goal

pub returns-in-None : goal.returns-in-None
returns-in-None c = record { value = none-after c.args.run c.args.collection.now.reports (sym c.in-None.ensures.value); later = tt; small = tt; entries = tt }

pub returns-in-Some : goal.returns-in-Some
returns-in-Some c = record {
  value = next-is c.args.run 1 c.args.collection.now.reports c.in-Some.report.now (collection-rises c.args.collection.now c.keeps.ensures) (sym c.in-Some.ensures.value);
  later = next-later c.args.run c.args.collection.now.reports c.in-Some.report.now (sym c.in-Some.ensures.value);
  small = omega (arith, c.in-Some.ensures.is_report.run.most);
  entries = are-entries c.args.collection.now c.in-Some.report.now c.in-Some.ensures.is_report c.in-Some.ensures.ours;
}
