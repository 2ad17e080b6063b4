use Rattle.std.proofs.Common.{ap, ◌∙◌}
use Rattle.fractions.specs.Fraction.{fraction_cmp}
use Rattle.association.specs.Strength.{share_of}
use Rattle.association.proofs.Shares.{shares-compare}
use Rattle.association.proofs.contingency.compare_strengths.Goals as goal

pub returns : goal.returns
returns c =
    c.cmp.ensures ∙ ap (λ x. fraction_cmp x c.share-right.result) c.share-left.ensures.value ∙ ap (fraction_cmp (share_of c.args.left)) c.share-right.ensures.value
    ∙ shares-compare c.args.left c.args.right c.requires.left c.requires.right c.requires.one_list
