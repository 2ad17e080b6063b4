-- Numbers that digits stand for.
use Rattle.std.proofs.Common.{◌≡◌, ◌≤◌, ◌<◌, ◌+◌, ◌*◌, ◌^◌, ℕ, List, [], ◌∷◌, None, arith}
use Rattle.std.proofs.Math.Nat.{le-mul_of_pos_right}
use Rattle.std.proofs.lemmas.Bool.Decides.{nat_tests}
use Rattle.c_lexer_pieces.specs.Bytes.{digit_value}
use Rattle.c_lexer_pieces.specs.Reading.{small_value}
use Rattle.c_lexer_pieces.specs.Values.{value_from, value_of}

-- more digits make no smaller number
pub value_from-le : (base v : ℕ) (digits : List ℕ) → 0 < base → v ≤ value_from base v digits
value_from-le base v [] h = omega arith
value_from-le base v (d ∷ ds) h =
    let grown : v ≤ v * base = le-mul_of_pos_right v h in
    omega (arith, value_from-le base (v * base + digit_value d) ds h)

too_great : (base n : ℕ) (digits : List ℕ) → 2 ^ 32 ≤ n → n ≡ value_of base digits → small_value base digits ≡ None
too_great base n digits h e = grind (arith, nat_tests)

-- where some of the digits stand for too much, all of them do
pub small_value-none : (base v : ℕ) (digits left : List ℕ) → 0 < base → 2 ^ 32 ≤ v → value_from base v left ≡ value_of base digits → small_value base digits ≡ None
small_value-none base v digits left h great e =
    let le = value_from-le base v left h in
    too_great base (value_from base v left) digits (omega arith) e
