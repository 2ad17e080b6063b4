use Rattle.std.proofs.Common.{◌++◌, ap, ◌∙◌, codes, decimal}
use Rattle.cbi_base.specs.Refusal.{details_of, refusal_name, refusal_number}
use Rattle.cbi_base.proofs.RefusalLemmas.{begins-before-three, joined}
use Rattle.cbi_base.proofs.refusal.Refusal.push_parts.Goals as goal

pub returns-clause-ok : goal.returns-clause-ok
returns-clause-ok c =
    joined _ c.args.out.now.items (codes "cbi: refusal ") (decimal (refusal_number c.args.self.now)) (codes " ") (refusal_name c.args.self.now) (details_of c.args.self.now) (codes "\n") _ _ _ _ _
    (c.in_ok-push_number.ensures.ok ∙ ap (λ n. c.args.out.now.items ++ (codes "cbi: refusal " ++ decimal n)) (c.from.ensures ∙ c.number.ensures))
    c.in_ok-push_text.ensures.ok
    (c.in_ok-push_text-2.ensures.ok ∙ ap (λ name. c.push_text.new.out.items ++ name) c.name.ensures)
    c.in_ok-push_details.ensures.ok
    c.push_text-3.ensures.ok

pub returns-in_err-push_details-clause-err : goal.returns-in_err-push_details-clause-err
returns-in_err-push_details-clause-err c =
    begins-before-three _ c.args.out.now.items _ _ _ _ _ _ _ c.in_ok-push_number.ensures.ok c.in_ok-push_text.ensures.ok c.in_ok-push_text-2.ensures.ok c.in_err-push_details.ensures.err
