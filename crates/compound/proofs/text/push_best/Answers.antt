use Rattle.std.proofs.Common.{decimal, ap, ◌∙◌}
use Rattle.std.specs.Prelude.{codes}
use Rattle.fractions.specs.Fraction.{millionths_of}
use Rattle.fractions.specs.Tally.{importance_of}
use Rattle.compound.proofs.TextLemmas.{line-ended, number-after, seven-fields}
use Rattle.compound.proofs.text.push_best.Goals as goal

pub returns : goal.returns
returns c =
    let out = c.args.out.now.items in
    let t = c.args.chosen.tally in
    let share = millionths_of (importance_of t c.args.chosen.failing) in
    let one = number-after out (codes "best") _ _ _ c.args.chosen.left c.in_ok-extend_from_slice.ensures.items c.in_ok-push_number.ensures c.from.ensures in
    let two = number-after out _ _ _ _ c.args.chosen.right one c.in_ok-push_number-2.ensures c.from-2.ensures in
    let three = number-after out _ _ _ _ t.a two c.in_ok-push_number-3.ensures c.from-3.ensures in
    let four = number-after out _ _ _ _ t.b three c.in_ok-push_number-4.ensures c.from-4.ensures in
    let five = number-after out _ _ _ _ t.c four c.in_ok-push_number-5.ensures c.from-5.ensures in
    let six = number-after out _ _ _ _ t.d five c.in_ok-push_number-6.ensures c.from-6.ensures in
    let seven = number-after out _ _ _ _ share six c.in_ok-push_number-7.ensures (c.millionths-share.ensures ∙ ap millionths_of c.importance.ensures.value) in
    line-ended out _ _ _ _ seven c.in_ok-push.ensures.items
    (seven-fields (codes "best") (decimal c.args.chosen.left) (decimal c.args.chosen.right) (decimal t.a) (decimal t.b) (decimal t.c) (decimal t.d) (decimal share))
