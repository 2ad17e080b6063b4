use Rattle.std.proofs.Common.{◌≡◌, ◌+◌, ◌-◌, ◌<◌, ℕ, length, set, sym, ap, ◌∙◌, subst, arith}
use Rattle.base_lists.proofs.Options.{none_is}
use Rattle.regions.specs.Flags.{is_in}
use Rattle.regions.proofs.Within.{node_at}
use Rattle.clone_paths.specs.Made.{next_visited}
use Rattle.clone_paths.proofs.ResolveLemmas.{ResolvedFrom, resolved_all, resolved_more, resolved_none, resolved_same}
use Rattle.clone_paths.proofs.function.resolve.Goals as goal

pub loop-place-init : goal.loop-place-init
loop-place-init c = resolved_none c.args.starts.now c.args.nodes.now c.args.fast.now c.requires.few

pub loop-place-preserved-in-Some : goal.loop-place-preserved-in-Some
loop-place-preserved-in-Some c =
    let i : ℕ = c.loop-place.place - 1 in
    let inside : i < length c.args.nodes.now = omega arith in
    let same : c.loop-place.place ≡ i + 1 = omega arith in
    let before = subst (λ (k : ℕ). ResolvedFrom c.args.starts.now c.args.nodes.now c.args.fast.now c.loop-place.fast k) same c.loop-place.invariant in
    let here = ap (next_visited (is_in c.args.starts.now)) (node_at c.args.nodes.now i inside) ∙ sym c.next_visited.ensures in
    subst (λ (v : ℕ). ResolvedFrom c.args.starts.now c.args.nodes.now c.args.fast.now (set c.loop-place.fast i v) i) (sym c.at.ensures)
    (resolved_more c.args.starts.now c.args.nodes.now c.args.fast.now c.loop-place.fast i c.in-Some.next c.requires.order before inside (here ∙ c.in-Some.is))

pub loop-place-preserved : goal.loop-place-preserved
loop-place-preserved c =
    let i : ℕ = c.loop-place.place - 1 in
    let inside : i < length c.args.nodes.now = omega arith in
    let same : c.loop-place.place ≡ i + 1 = omega arith in
    let before = subst (λ (k : ℕ). ResolvedFrom c.args.starts.now c.args.nodes.now c.args.fast.now c.loop-place.fast k) same c.loop-place.invariant in
    let here = ap (next_visited (is_in c.args.starts.now)) (node_at c.args.nodes.now i inside) ∙ sym c.next_visited.ensures in
    resolved_same c.args.starts.now c.args.nodes.now c.args.fast.now c.loop-place.fast i before (here ∙ none_is c.next_visited.result c.in_default.not-Some)

pub returns : goal.returns
returns c =
    let all : c.loop-place.place ≡ 0 = omega arith in
    resolved_all c.args.starts.now c.args.nodes.now c.args.fast.now c.loop-place.fast c.requires.few
    (subst (λ (k : ℕ). ResolvedFrom c.args.starts.now c.args.nodes.now c.args.fast.now c.loop-place.fast k) all c.loop-place.invariant)
