use Rattle.std.proofs.Common.{◌≡◌, ℕ, ◌+◌, ◌-◌, ◌<◌, ◌≤◌, List, length, set, get_or, sym, ap, ◌∙◌, subst, arith, rules}
use Rattle.std.specs.List.{Contains}
use Rattle.flow.specs.declared.node.View.{View}
use Rattle.flow.specs.Words.{node_limit, view}
use Rattle.regions.specs.Flags.{is_in}
use Rattle.regions.specs.Weighty.{views_of}
use Rattle.regions.proofs.Within.{no_node, node_at}
use Rattle.weights.specs.Paths.{next_nodes}
use Rattle.weights.specs.Weight.{greatest_weight, weight_from}
use Rattle.weights.proofs.WeightLemmas.{Weighed, ahead_small, weighed_all, weighed_more, weighed_none}
use Rattle.weights.proofs.table.weights_of.Goals as goal

pub loop-place-init : goal.loop-place-init
loop-place-init c =
    let few : length c.in_ok-weights.weights.items ≡ length c.args.nodes.now = search rules in
    weighed_none (is_in c.args.weighty.now) c.args.nodes.now c.in_ok-weights.weights.items few

pub weight_of-requires-clause-within : goal.weight_of-requires-clause-within
weight_of-requires-clause-within c = λ next h.
    let i : ℕ = c.loop-place.place - 1 in
    let inside : i < length c.args.nodes.now = omega arith in
    let lead = subst (λ (v : View). Contains (next_nodes (is_in c.args.weighty.now) v) next) (sym (node_at c.args.nodes.now i inside)) h in
    let within = c.requires.forward.within i next lead in
    let few : length c.loop-place.weights.items ≡ length c.args.nodes.now = c.loop-place.invariant.few in
    rw c.deref.ensures.value (omega (arith, within, few))

pub weight_of-requires-clause-small : goal.weight_of-requires-clause-small
weight_of-requires-clause-small c =
    let i : ℕ = c.loop-place.place - 1 in
    let inside : i < length c.args.nodes.now = omega arith in
    let same : c.loop-place.place ≡ i + 1 = omega arith in
    let w = is_in c.args.weighty.now in
    let weighed = subst (λ (k : ℕ). Weighed w c.args.nodes.now k c.loop-place.weights.items) same c.loop-place.invariant in
    let ahead = ahead_small w c.args.nodes.now i c.loop-place.weights.items c.requires.forward weighed inside in
    let most : List ℕ → View → ℕ = λ xs v. greatest_weight (λ x. get_or xs x 0) (next_nodes w v) in
    let e = ap (λ (v : View). most c.loop-place.weights.items v) (node_at c.args.nodes.now i inside) in
    let f = ap (λ (xs : List ℕ). most xs (view (get_or c.args.nodes.now i no_node))) c.deref.ensures.value in
    let small : most c.deref.result.now (view (get_or c.args.nodes.now i no_node)) ≤ node_limit = omega (arith, ahead, e, f, c.requires.few) in
    small

pub loop-place-preserved : goal.loop-place-preserved
loop-place-preserved c =
    let i : ℕ = c.loop-place.place - 1 in
    let inside : i < length c.args.nodes.now = omega arith in
    let same : c.loop-place.place ≡ i + 1 = omega arith in
    let w = is_in c.args.weighty.now in
    let items = c.loop-place.weights.items in
    let weighed = subst (λ (k : ℕ). Weighed w c.args.nodes.now k c.loop-place.weights.items) same c.loop-place.invariant in
    let more = weighed_more w c.args.nodes.now i items c.requires.forward weighed inside in
    let weight : List ℕ → View → ℕ = λ xs v. weight_from w (λ x. get_or xs x 0) v in
    let e = ap (λ (v : View). weight c.loop-place.weights.items v) (node_at c.args.nodes.now i inside) in
    let f = ap (λ (xs : List ℕ). weight xs (view (get_or c.args.nodes.now i no_node))) c.deref.ensures.value in
    let new : weight items (views_of c.args.nodes.now i) ≡ c.weight_of.result = e ∙ sym f ∙ sym c.weight_of.ensures in
    subst (λ (v : ℕ). Weighed w c.args.nodes.now i (set items i v)) new more

pub returns : goal.returns
returns c =
    let all : c.loop-place.place ≡ 0 = omega arith in
    weighed_all (is_in c.args.weighty.now) c.args.nodes.now c.loop-place.weights.items
    (subst (λ (k : ℕ). Weighed (is_in c.args.weighty.now) c.args.nodes.now k c.loop-place.weights.items) all c.loop-place.invariant)
