use Rattle.std.proofs.Common.{◌≡◌, ◌++◌, [], ◌∷◌, ℕ, suc, true, false, drop, Some, None, sym, rules}
use Rattle.c_lexer_pieces.specs.Bytes.{begins_with_byte}
use Rattle.c_lexer_pieces.specs.Reading.{text_at, text_within, element_at}
use Rattle.c_lexer_pieces.proofs.Lengths.{element-less}
use Rattle.c_lexer_pieces.proofs.Unrolled.{with_front, Unrolled, unrolled-turn, unrolled-end}
use Rattle.c_lexer_pieces.proofs.Turns.{text-turn, text-stuck, text-end}
use Rattle.c_lexer_pieces.proofs.escapes.text_at.Goals as goal

pub loop-rest-smaller : goal.loop-rest-smaller
loop-rest-smaller c =
    let e : Some (c.in-Some.value, c.in-Some.after.now) ≡ element_at 34 c.loop-rest.rest.now = c.in-Some.ensures in
    element-less 34 c.loop-rest.rest.now _ (sym e)

pub loop-rest-preserved : goal.loop-rest-preserved
loop-rest-preserved c =
    let e : Some (c.in-Some.value, c.in-Some.after.now) ≡ element_at 34 c.loop-rest.rest.now = c.in-Some.ensures in
    let goes_on : begins_with_byte 34 c.loop-rest.rest.now ≡ false = search rules in
    let pushed : c.push.new.self.items ≡ c.loop-rest.values.items ++ c.in-Some.value ∷ [] = search rules in
    let u : Unrolled text_within (with_front (c.loop-rest.values.items ++ c.in-Some.value ∷ [])) c.args.bytes.now c.in-Some.after.now =
    unrolled-turn text_within (with_front c.loop-rest.values.items) _ c.args.bytes.now c.loop-rest.rest.now c.in-Some.after.now c.loop-rest.invariant (element-less 34 _ _ (sym e)) (λ n. text-turn n _ _ _ goes_on e) in
    rw pushed u

pub returns-in_default : goal.returns-in_default
unfolding text_at
returns-in_default c =
    let goes_on : begins_with_byte 34 c.loop-rest.rest.now ≡ false = search rules in
    let e : None ≡ element_at 34 c.loop-rest.rest.now = search rules in
    sym (unrolled-end text_within (with_front c.loop-rest.values.items) c.args.bytes.now c.loop-rest.rest.now _ c.loop-rest.invariant (λ n. text-stuck n _ _ goes_on e))

pub returns : goal.returns
unfolding text_at
returns c =
    let ends : begins_with_byte 34 c.loop-rest.rest.now ≡ true = search rules in
    let over : (n : ℕ) → with_front c.loop-rest.values.items (text_within (suc n) c.loop-rest.rest.now) ≡ Some (c.loop-rest.values.items, drop 1 c.loop-rest.rest.now) = λ n. text-end n c.loop-rest.values.items c.loop-rest.rest.now ends in
    let read = unrolled-end text_within (with_front c.loop-rest.values.items) c.args.bytes.now c.loop-rest.rest.now _ c.loop-rest.invariant over in
    rw c.split_at.ensures.back (sym read)
