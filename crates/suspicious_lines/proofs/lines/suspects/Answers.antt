use Rattle.std.proofs.Common.{◌∙◌, ap}
use Rattle.elimination.proofs.TableLemmas.{count-is}
use Rattle.elimination_tallies.specs.Predicates.{predicates_in}
use Rattle.elimination_tallies.specs.Recount.{runs_of}
use Rattle.suspicious_lines.proofs.Bounds.{suspects-kept}
use Rattle.suspicious_lines.proofs.lines.suspects.Goals as goal

pub suspects_by-requires : goal.suspects_by-requires
suspects_by-requires c = ap predicates_in c.in_ok-numbers.ensures.branches_are ∙ count-is c.args.table.now.sites

pub returns : goal.returns
returns c = c.in_ok-suspects.ensures ∙ suspects-kept c.args.table.now (runs_of c.args.collection.now.reports) c.in_ok-numbers.numbers c.in_ok-numbers.ensures
