use Rattle.lower_operators.proofs.Acting.{library_acted, printf_acted}
use Rattle.lower_operators.proofs.library.put_library.Goals as goal

pub returns-in_ok-i-in-Some-clause-made : goal.returns-in_ok-i-in-Some-clause-made
returns-in_ok-i-in-Some-clause-made c =
    library_acted c.args.function c.args.number c.args.count c.in-Some.node _ _ _ c.args.next c.in-Some.ensures
    c.in_ok-i-in-Some.ensures.number c.in_ok-i-in-Some.ensures.added

pub returns-in_ok-i-in-None-clause-made : goal.returns-in_ok-i-in-None-clause-made
returns-in_ok-i-in-None-clause-made c = printf_acted c.args.function c.args.number c.args.count _ _ _ c.args.next c.in-None.ensures c.in_ok-i-in-None.ensures.made
