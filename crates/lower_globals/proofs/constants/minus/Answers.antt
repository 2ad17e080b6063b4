use Rattle.std.proofs.Common.{rules}
use Rattle.lower_facts.specs.Facts.{facts_in}
use Rattle.lower_globals.proofs.ConstantLaws.{minus_is}
use Rattle.lower_globals.proofs.constants.minus.Goals as goal

pub returns : goal.returns
returns c =
    minus_is (facts_in c.args.facts.now) c.args.of c.args.token c.args.operand.now c.in-Constant.inner c.in-Constant.kind c.in-Constant.value _ _
    c.conversion_of-first.result c.conversion_of.result c.negative.result
    c.in-Constant.is c.type_at-own.ensures c.type_at.ensures c.conversion_of-first.ensures c.conversion_of.ensures (search (rules, c.negative.ensures))
