use Rattle.std.proofs.Common.{◌≡◌, ◌∙◌, ap, sym, true, false}
use Rattle.c_meaning.specs.Words.{as_used, is_other_pointer}
use Rattle.lower_nodes.proofs.arms.put_arm.Goals as goal

pub returns-then-is_other_pointer-clause-made : goal.returns-then-is_other_pointer-clause-made
returns-then-is_other_pointer-clause-made c =
    let is : is_other_pointer (as_used c.args.have) c.args.want ≡ true = ap (λ x. is_other_pointer x c.args.want) (sym c.as_used.ensures) ∙ sym c.is_other_pointer.ensures ∙ c.if-is_other_pointer.true in
    rw is c.in_ok-i.ensures.made

pub returns-clause-made : goal.returns-clause-made
returns-clause-made c =
    let is : is_other_pointer (as_used c.args.have) c.args.want ≡ false = ap (λ x. is_other_pointer x c.args.want) (sym c.as_used.ensures) ∙ sym c.is_other_pointer.ensures ∙ c.if-is_other_pointer.false in
    rw is c.in_ok-i-2.ensures.made
