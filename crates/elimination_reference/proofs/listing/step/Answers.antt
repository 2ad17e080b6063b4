use Rattle.std.proofs.Common.{sym, ◌∙◌, rules}
use Rattle.std.proofs.lemmas.Fn.{filter_same}
use Rattle.elimination_reference.proofs.PlainLemmas.{discards}
use Rattle.elimination_reference.proofs.listing.step.Goals as goal

pub returns-in-All : goal.returns-in-All
returns-in-All c =
    filter_same _ _ _ (λ x b f' k. search rules) _ _ c.retain.ensures.filtered
    ∙ sym (discards c.args.branches.now c.args.policy c.args.leader c.args.runs.now.items (search rules))
