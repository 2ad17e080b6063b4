use Rattle.std.proofs.Common.{◌≡◌, ◌<◌, length, Some, None, sym, rules}
use Rattle.c_lexer_pieces.specs.Reading.{is_directive_end, trails_within, trailing_at}
use Rattle.c_lexer_pieces.proofs.Lengths.{trailing-less}
use Rattle.c_lexer_pieces.proofs.Unrolled.{unrolled-turn, unrolled-end}
use Rattle.c_lexer_pieces.proofs.Turns.{trails-turn, trails-stuck, trails-end}
use Rattle.c_lexer_pieces.proofs.directives.trails.Goals as goal

pub loop-rest-smaller : goal.loop-rest-smaller
loop-rest-smaller c =
    let nonempty : 0 < length c.loop-rest.rest.now = search rules in
    let e : Some c.in-Some.after.now ≡ trailing_at c.loop-rest.rest.now = c.in-Some.ensures in
    trailing-less c.loop-rest.rest.now c.in-Some.after.now nonempty (sym e)

pub loop-rest-preserved : goal.loop-rest-preserved
loop-rest-preserved c =
    let nonempty : 0 < length c.loop-rest.rest.now = search rules in
    let e : Some c.in-Some.after.now ≡ trailing_at c.loop-rest.rest.now = c.in-Some.ensures in
    unrolled-turn trails_within (λ b. b) (λ b. b) c.args.bytes.now c.loop-rest.rest.now c.in-Some.after.now c.loop-rest.invariant (trailing-less _ _ nonempty (sym e)) (λ n. trails-turn n _ _ nonempty e)

pub returns-in-None : goal.returns-in-None
unfolding is_directive_end
returns-in-None c =
    let nonempty : 0 < length c.loop-rest.rest.now = search rules in
    let e : None ≡ trailing_at c.loop-rest.rest.now = c.in-None.ensures in
    sym (unrolled-end trails_within (λ b. b) c.args.bytes.now c.loop-rest.rest.now _ c.loop-rest.invariant (λ n. trails-stuck n _ nonempty e))

pub returns : goal.returns
unfolding is_directive_end
returns c =
    let none : length c.loop-rest.rest.now ≡ 0 = search rules in
    sym (unrolled-end trails_within (λ b. b) c.args.bytes.now c.loop-rest.rest.now _ c.loop-rest.invariant (λ n. trails-end n _ none))
