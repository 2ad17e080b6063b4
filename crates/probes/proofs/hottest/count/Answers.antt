use Rattle.std.proofs.Common.{◌≡◌, ◌+◌, ◌^◌, ◌<◌, ◌≤◌, [], ◌∷◌, ◌++◌, length, get_or, set, sym, subst, arith}
use Rattle.std.proofs.lemmas.List.{get_or_read}
use Rattle.std.proofs.lemmas.Result.{err_from_is_err_and}
use Rattle.probes.specs.Hottest.{AreCounted}
use Rattle.probes.proofs.Listed.{AreCounted-longer, AreCounted-push, AreCounted-carry}
use Rattle.probes.proofs.hottest.count.Goals as goal

pub returns-in_err-lengthen-clause-memory : goal.returns-in_err-lengthen-clause-memory
returns-in_err-lengthen-clause-memory c =
    let old = c.args.counts.now in
    let new = c.lengthen.new.counts in
    let p = err_from_is_err_and c.from_residual.result c.from_residual.ensures.1 in
    let grown : length old.items ≤ length new.items = omega (arith, c.in_err-lengthen.ensures.grown, old.ok.0, new.ok.0) in
    rw p.1 (λ sites before.
    let few : length new.items ≤ 2 ^ 32 = omega (arith, c.in_err-lengthen.ensures.few (omega (arith, before.few, old.ok.0)), new.ok.0) in
    AreCounted-longer old.items new.items c.args.carried.now.items sites c.in_err-lengthen.ensures.same grown few before)

pub returns-in_err-push-clause-memory : goal.returns-in_err-push-clause-memory
returns-in_err-push-clause-memory c =
    let old = c.args.counts.now in
    let new = c.lengthen.new.counts in
    let p = err_from_is_err_and c.from_residual-in_err-push.result c.from_residual-in_err-push.ensures.1 in
    let grown : length old.items ≤ length new.items = omega (arith, c.in_ok-lengthen.ensures.grown, old.ok.0, new.ok.0) in
    rw p.1 (λ sites before.
    let few : length new.items ≤ 2 ^ 32 = omega (arith, c.in_ok-lengthen.ensures.few (omega (arith, before.few, old.ok.0)), new.ok.0) in
    subst (λ carried. AreCounted new.items carried sites) (sym c.in_err-push.ensures.items)
    (AreCounted-longer old.items new.items c.args.carried.now.items sites c.in_ok-lengthen.ensures.same grown few before))

pub returns-then-index-clause-ok : goal.returns-then-index-clause-ok
returns-then-index-clause-ok c =
    let old = c.args.counts.now in
    let new = c.lengthen.new.counts in
    let site = c.args.site in
    let inside : site < length new.items = omega (arith, c.in_ok-lengthen.ensures.there, new.ok.0) in
    let grown : length old.items ≤ length new.items = omega (arith, c.in_ok-lengthen.ensures.grown, old.ok.0, new.ok.0) in
    let full : get_or new.items site 0 + 1 ≡ 2 ^ 64 = omega (arith, get_or_read new.items site c.index.result.now inside c.index.ensures 0, c.if-index.true) in
    λ sites before.
    let few : length new.items ≤ 2 ^ 32 = omega (arith, c.in_ok-lengthen.ensures.few (omega (arith, before.few, old.ok.0)), new.ok.0) in
    subst (λ carried. AreCounted (set new.items site 0) carried (sites ++ site ∷ [])) (sym c.in_ok-push.ensures.items)
    (AreCounted-carry old.items new.items c.args.carried.now.items sites c.in_ok-lengthen.ensures.same grown few before site inside full)

pub returns-clause-ok : goal.returns-clause-ok
returns-clause-ok c =
    let old = c.args.counts.now in
    let new = c.lengthen.new.counts in
    let carried = c.args.carried.now.items in
    let site = c.args.site in
    let inside : site < length new.items = omega (arith, c.in_ok-lengthen.ensures.there, new.ok.0) in
    let grown : length old.items ≤ length new.items = omega (arith, c.in_ok-lengthen.ensures.grown, old.ok.0, new.ok.0) in
    let count = get_or_read new.items site c.index_mut-2.result.now inside c.index_mut-2.ensures.value 0 in
    λ sites before.
    let few : length new.items ≤ 2 ^ 32 = omega (arith, c.in_ok-lengthen.ensures.few (omega (arith, before.few, old.ok.0)), new.ok.0) in
    subst (λ n. AreCounted (set new.items site (n + 1)) carried (sites ++ site ∷ [])) (sym count)
    (AreCounted-push old.items new.items carried sites c.in_ok-lengthen.ensures.same grown few before site inside)
