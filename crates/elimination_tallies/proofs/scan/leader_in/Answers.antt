use Rattle.std.proofs.Common.{◌≡◌, ℕ, ◌≤◌, refl, sym, subst}
use Rattle.std.proofs.lemmas.Option.{get_or_from_slice_get}
use Rattle.fractions.specs.declared.tally.Tally.{Tally}
use Rattle.fractions.specs.Fraction.{IsFraction}
use Rattle.fractions.specs.Tally.{IsTally, Passes}
use Rattle.elimination_tallies.specs.Scanning.{IsCandidate, tally_at}
use Rattle.elimination_tallies.specs.Surpassing.{CannotLead}
use Rattle.elimination_tallies.proofs.ScanLemmas.{fractions-more}
use Rattle.elimination_tallies.proofs.ScanState.{behind-best, best-tally, looked-at, passed-over}
use Rattle.elimination_tallies.proofs.SurpassedLemmas.{is-fraction, scanned-at}
use Rattle.elimination_tallies.proofs.scan.leader_in.Goals as goal

pub loop-predicate-preserved : goal.loop-predicate-preserved
loop-predicate-preserved c =
    let numbers = tally_at c.args.numbers.now.tallies in
    let k = c.loop-predicate.predicate in
    let is : numbers k ≡ c.tally-tally.result = get_or_from_slice_get c.args.numbers.now.tallies k c.tally-tally.result (record { a = 0; b = 0; c = 0; d = 0 }) c.tally-tally.ensures in
    let here : IsCandidate k (numbers k) c.args.failing c.in-Some.next = subst (λ (t : Tally). IsCandidate k t c.args.failing c.in-Some.next) (sym is) c.in-Some.ensures.some in (
      looked-at c.loop-predicate.best numbers k c.args.failing c.in-Some.next c.better.result c.loop-predicate.invariant.1 c.loop-predicate.invariant.0 here c.better.ensures,
      fractions-more numbers k c.args.failing c.loop-predicate.invariant.1 (λ _. subst IsFraction here.importance_is here.fraction),
    )

pub loop-predicate-preserved-in_default : goal.loop-predicate-preserved-in_default
loop-predicate-preserved-in_default c =
    let numbers = tally_at c.args.numbers.now.tallies in
    let k = c.loop-predicate.predicate in
    let is : numbers k ≡ c.tally-tally.result = get_or_from_slice_get c.args.numbers.now.tallies k c.tally-tally.result (record { a = 0; b = 0; c = 0; d = 0 }) c.tally-tally.ensures in
    let not_here : Passes (numbers k) → ⊥ = λ passes. c.in_default.ensures.none (subst Passes is passes) in
    (passed-over c.loop-predicate.best numbers k c.args.failing c.loop-predicate.invariant.0 not_here, fractions-more numbers k c.args.failing c.loop-predicate.invariant.1 (λ passes. absurd (not_here passes)))

pub stays_behind-requires-clause-best : goal.stays_behind-requires-clause-best
stays_behind-requires-clause-best c =
    let tallies = c.args.numbers.now.tallies in
    best-tally c.loop-predicate.best (tally_at tallies) c.loop-predicate.predicate c.args.failing (λ q. scanned-at tallies c.args.failing q c.requires.tallies) c.loop-predicate.invariant.0

pub loop-predicate-preserved-then-stays_behind : goal.loop-predicate-preserved-then-stays_behind
loop-predicate-preserved-then-stays_behind c =
    let tallies = c.args.numbers.now.tallies in
    let numbers = tally_at tallies in
    let k = c.loop-predicate.predicate in
    let is : numbers k ≡ c.tally-tally.result = get_or_from_slice_get tallies k c.tally-tally.result (record { a = 0; b = 0; c = 0; d = 0 }) c.tally-tally.ensures in
    let behind = subst (λ (t : Tally). CannotLead t c.loop-predicate.best) (sym is) (c.if-stays_behind.ensures refl) in
    let known : (q : ℕ) → IsTally (numbers q) × ((numbers q).c ≤ c.args.failing) = λ q. scanned-at tallies c.args.failing q c.requires.tallies in (
      behind-best c.loop-predicate.best numbers k c.args.failing known c.requires.failing c.loop-predicate.invariant.0 behind,
      fractions-more numbers k c.args.failing c.loop-predicate.invariant.1 (is-fraction (numbers k) c.args.failing (known k).0 (known k).1 c.requires.failing),
    )
