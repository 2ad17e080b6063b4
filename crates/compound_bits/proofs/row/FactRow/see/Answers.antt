use Rattle.std.proofs.Common.{◌≡◌, ℕ, ◌<◌, Bool, true, false, List, length, ap, refl, sym, ◌∙◌, arith}
use Rattle.std.specs.Prelude.{get_or, set}
use Rattle.std.proofs.lemmas.List.{with_items_is}
use Rattle.compound_bits.specs.Bits.{facts_of, with_bit, with_bit_if}
use Rattle.compound_bits.specs.Facts.{Fact, no_fact, fact_seen}
use Rattle.compound_bits.proofs.Rows.{length-facts, seen-facts}
use Rattle.compound_bits.proofs.row.FactRow.see.Goals as goal

pub set-requires : goal.set-requires
set-requires c =
    omega (arith, ap length c.as_mut_slice.ensures.value, ap length c.self.view_is, length-facts c.self.inside.truth.items c.self.inside.known.items c.self.invariant, c.self.invariant)

pub set-requires-then-truth : goal.set-requires-then-truth
set-requires-then-truth c =
    omega (arith, ap length c.as_mut_slice-then-truth.ensures.value, ap length c.self.view_is, length-facts c.self.inside.truth.items c.self.inside.known.items c.self.invariant)

-- the view of the words with the new bits
seen-view : (wanted truth : Bool) (place : ℕ) (ts ks ts' ks' : List ℕ) (facts : List Fact) → length ts ≡ length ks → place < length facts → facts_of ts ks ≡ facts
    → truth ≡ wanted → ts' ≡ with_bit_if wanted place ts → ks' ≡ with_bit place ks → facts_of ts' ks' ≡ set facts place (fact_seen truth (get_or facts place no_fact))
seen-view wanted truth place ts ks ts' ks' facts same h view is t k =
    ap (λ xs. facts_of xs ks') t ∙ ap (facts_of (with_bit_if wanted place ts)) k
    ∙ seen-facts wanted place ts ks same (omega (arith, ap length view, length-facts ts ks same, h))
    ∙ ap (λ fs. set fs place (fact_seen wanted (get_or fs place no_fact))) view
    ∙ ap (λ b. set facts place (fact_seen b (get_or facts place no_fact))) (sym is)

pub returns-then-truth : goal.returns-then-truth
returns-then-truth c =
    let v = c.self.inside in
    seen-view true c.args.truth c.args.place v.truth.items v.known.items _ _ c.args.self.now c.self.invariant c.requires c.self.view_is c.if-truth.true
    (with_items_is v.truth c.set-then-truth.new.words (omega (arith, c.set-then-truth.auto.words, c.as_mut_slice-then-truth.ensures.len)) ∙ c.set-then-truth.ensures ∙ ap (with_bit c.args.place) c.as_mut_slice-then-truth.ensures.value)
    (with_items_is v.known c.set.new.words (omega (arith, c.set.auto.words, c.as_mut_slice.ensures.len)) ∙ c.set.ensures ∙ ap (with_bit c.args.place) c.as_mut_slice.ensures.value)

pub returns-else-truth : goal.returns-else-truth
returns-else-truth c =
    let v = c.self.inside in
    seen-view false c.args.truth c.args.place v.truth.items v.known.items v.truth.items _ c.args.self.now c.self.invariant c.requires c.self.view_is c.if-truth.false refl
    (with_items_is v.known c.set.new.words (omega (arith, c.set.auto.words, c.as_mut_slice.ensures.len)) ∙ c.set.ensures ∙ ap (with_bit c.args.place) c.as_mut_slice.ensures.value)
