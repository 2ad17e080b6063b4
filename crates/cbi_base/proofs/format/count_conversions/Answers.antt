use Rattle.std.proofs.Common.{sym, ◌∙◌, arith}
use Rattle.cbi_base.proofs.FormatLemmas.{Counted-all, Counted-bad, Counted-conversion, Counted-end, Counted-percent, cut-at, shorter}
use Rattle.cbi_base.proofs.format.count_conversions.Goals as goal

pub returns-in_err-letter : goal.returns-in_err-letter
returns-in_err-letter c =
    c.from_residual.ensures ∙ sym (Counted-end _ _ _ _ _ c.loop-after.invariant.counted c.in-Some.ensures c.in_err-letter.ensures.cases)

pub returns-then-letter-ne37 : goal.returns-then-letter-ne37
returns-then-letter-ne37 c =
    let cut = cut-at _ _ _ _ _ c.in-Some.ensures c.in_ok-letter.ensures.cases.0 in
    sym (Counted-bad _ _ _ _ _ c.loop-after.invariant.counted cut (sym c.if-is_conversion.ensures) c.if-letter-ne37.true)

pub loop-after-preserved-then-is_conversion : goal.loop-after-preserved-then-is_conversion
loop-after-preserved-then-is_conversion c =
    let cut = cut-at _ _ _ _ _ c.in-Some.ensures c.in_ok-letter.ensures.cases.0 in record {
      counted = Counted-conversion _ _ _ _ _ c.loop-after.invariant.counted cut (sym c.if-is_conversion.ensures);
      room = omega (arith, c.loop-after.invariant.room, shorter _ _ _ cut);
    }

pub loop-after-preserved : goal.loop-after-preserved
loop-after-preserved c =
    let cut = cut-at _ _ _ _ _ c.in-Some.ensures c.in_ok-letter.ensures.cases.0 in record {
      counted = Counted-percent _ _ _ _ _ c.loop-after.invariant.counted cut c.if-letter-ne37.false;
      room = omega (arith, c.loop-after.invariant.room, shorter _ _ _ cut);
    }

pub returns : goal.returns
returns c = sym (Counted-all _ _ _ c.loop-after.invariant.counted c.in_default.ensures)
