use Rattle.std.proofs.Common.{◌+◌, [], ◌∷◌, ◌++◌, ◌∙◌, ap, arith, subst, sym, take}
use Rattle.std.specs.Prelude.{All}
use Rattle.std.proofs.lemmas.List.{length-take-le, take_all, take_more}
use Rattle.bug_rounds.specs.declared.bug.Bug.{Bug}
use Rattle.bug_rounds.specs.Text.{IsBugShown}
use Rattle.bug_rounds.proofs.BugTexts.{bug-text-end, bug-text-more}
use Rattle.bug_rounds.proofs.text.bugs_text.Goals as goal

pub loop-bug-preserved : goal.loop-bug-preserved
loop-bug-preserved c =
    let i = c.loop-bug.bug-index in
    let bugs = c.as_slice-bug-items.result.now in (
      bug-text-more c.args.table.now c.args.totals.failing c.args.totals.successful (take i bugs) (take (i + 1) bugs) c.bug-item.result c.loop-bug.number c.loop-bug.out.items c.push_bug.new.out.items (take_more bugs i c.bug-item.result c.loop-bug-test.true ∙ ap (λ (b : Bug). take i bugs ++ b ∷ []) (sym c.bug-item.is))
          (omega (arith, c.loop-bug.invariant.1, length-take-le i bugs (omega (arith, c.loop-bug-test.true)))) c.loop-bug.invariant.0 c.in_ok-push_bug.ensures,
      omega (arith, c.loop-bug.invariant.1),
    )

pub returns : goal.returns
returns c =
    let i = c.loop-bug.bug-index in
    let bugs = c.as_slice-bug-items.result.now in
    bug-text-end c.args.table.now c.args.totals.failing c.args.totals.successful c.args.found.now.rest (take i bugs) c.args.found.now.bugs c.loop-bug.out.items c.push_end.new.out.items (take_all i bugs c.loop-bug-test.false ∙ c.as_slice-bug-items.ensures) c.loop-bug.invariant.0 c.in_ok-push_end.ensures

pub push_bug-requires : goal.push_bug-requires
push_bug-requires c =
    let Shown : Bug → Type 0 = IsBugShown c.args.table.now c.args.totals.successful in
    subst Shown (sym c.bug-item.is) (subst (All Shown) (sym c.as_slice-bug-items.ensures) c.requires c.loop-bug.bug-index c.bug-item.result c.loop-bug-test.true)
