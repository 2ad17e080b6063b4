use Rattle.std.proofs.Common.{arith}
use Rattle.c_syntax.specs.Plain.{plain_exprs}
use Rattle.lower_facts.specs.Facts.{facts_in}
use Rattle.lower_operators.proofs.Acting.{call_acted, function_acted, others_fewer, unknown_acted}
use Rattle.lower_operators.proofs.library.put_acts.Goals as goal

pub returns-in_ok-i-in-Library-clause-made : goal.returns-in_ok-i-in-Library-clause-made
returns-in_ok-i-in-Library-clause-made c =
    rw (c.in-Library.is) (call_acted (facts_in c.args.facts.now)
    (plain_exprs c.args.arguments.now) c.in-Library.function _ _ _ _ _ _ _ c.number_of_first-number.ensures
    c.others.ensures c.count-values.ensures c.in_ok-i-in-Library.ensures.made)

pub returns-in_ok-i-in-Function-clause-made : goal.returns-in_ok-i-in-Function-clause-made
returns-in_ok-i-in-Function-clause-made c =
    rw c.in-Function.is (function_acted (facts_in c.args.facts.now) (plain_exprs c.args.arguments.now) c.in-Function.number _ _ _ _ c.in_ok-i-in-Function.ensures.number
    c.in_ok-i-in-Function.ensures.added)

pub returns-in-Unknown-clause-made : goal.returns-in-Unknown-clause-made
returns-in-Unknown-clause-made c = rw c.in-Unknown.is (unknown_acted (facts_in c.args.facts.now) (plain_exprs c.args.arguments.now) _ _)

pub put_library-requires-clause-few : goal.put_library-requires-clause-few
put_library-requires-clause-few c =
    let values = rw c.others.ensures at c.count-values.ensures in
    omega (arith, values, others_fewer c.args.arguments.now)
