use Rattle.std.proofs.Common.{ℕ, ◌+◌, Bool, ◌∙◌, ap, drop, sym}
use Rattle.std.specs.List.{find}
use Rattle.std.proofs.lemmas.Bool.{false≢true}
use Rattle.std.proofs.lemmas.List.{drop_all, drop_more}
use Rattle.bug_rounds.specs.Live.{is_own_number}
use Rattle.bug_rounds.proofs.Owned.{find-here, find-next, find-none}
use Rattle.bug_rounds.proofs.live.first_own.Goals as goal

pub returns-then-is_own_number : goal.returns-then-is_own_number
returns-then-is_own_number c =
    let test : ℕ → Bool = is_own_number c.args.collection.now.branches c.args.collection.now.reports c.args.leader in
    let i = c.loop-run.run-index in
    let live = c.args.live.now in
    find-here test (drop i live) (drop (i + 1) live) live _ (drop_more live i _ c.loop-run-test.true) c.loop-run.invariant (sym c.if-is_own_number.ensures)

pub loop-run-preserved : goal.loop-run-preserved
loop-run-preserved c =
    let test : ℕ → Bool = is_own_number c.args.collection.now.branches c.args.collection.now.reports c.args.leader in
    let i = c.loop-run.run-index in
    let live = c.args.live.now in
    find-next test (drop i live) (drop (i + 1) live) live _ (drop_more live i _ c.loop-run-test.true) c.loop-run.invariant (sym c.if-is_own_number.ensures)

pub returns : goal.returns
returns c =
    let test : ℕ → Bool = is_own_number c.args.collection.now.branches c.args.collection.now.reports c.args.leader in
    let live = c.args.live.now in
    absurd (false≢true (sym (find-none test live (sym c.loop-run.invariant ∙ ap (find test) (drop_all c.loop-run.run-index live c.loop-run-test.false))) ∙ c.requires.some))
