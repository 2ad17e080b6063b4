-- The bits of what the operations on bits give.
use Rattle.std.proofs.Common.{◌≡◌, ℕ, ◌+◌, ◌-◌, ◌^◌, ◌%◌, ◌<◌, min, max, arith, ℤ, pos, ◌-ℤ◌}
use Rattle.std.proofs.lemmas.Int.{ints}
use Rattle.std.proofs.lemmas.Nat.{and_le_l, or_of_32, xor_of_32}
use Rattle.std.proofs.lemmas.Nat.Bits.{bit_at_and, bit_at_or, bit_at_xor, bit_at_not}
use Rattle.std.specs.Prelude.{bit_and, bit_or, bit_xor, IsTrue}
use Rattle.std.specs.Int.{w32}
use Rattle.cbi_base.specs.declared.scalar.Kind.{Kind}
use Rattle.cbi_base.specs.declared.scalar.Kind.TheVariants.{Char, Int, Unsigned}
use Rattle.cbi_base.specs.Words.{least_of, wrapped_value, bits_of, bitwise_value, complement, is_promoted}
use Rattle.c_values.specs.Laws.{bit_of}
use Rattle.c_values.proofs.Ranges.{int_rem_euclid-parts}

bits_below : (value : ℤ) → bits_of value < 2 ^ 32
bits_below value = let rest = int_rem_euclid-parts value (2 ^ 32) (omega arith) in omega (arith, ints)

-- a number made of 32 bits has these bits
bits_of-wrapped : (kind : Kind) (n : ℕ) → IsTrue (is_promoted kind) → n < 2 ^ 32 → bits_of (wrapped_value kind (pos n)) ≡ n
bits_of-wrapped Char n h k = cc
bits_of-wrapped Int n h k =
    let inner = int_rem_euclid-parts (pos n -ℤ least_of Int) (2 ^ 32) (omega arith) in
    let outer = int_rem_euclid-parts (wrapped_value Int (pos n)) (2 ^ 32) (omega arith) in
    omega (arith, ints)
bits_of-wrapped Unsigned n h k =
    let inner = int_rem_euclid-parts (pos n -ℤ least_of Unsigned) (2 ^ 32) (omega arith) in
    let outer = int_rem_euclid-parts (wrapped_value Unsigned (pos n)) (2 ^ 32) (omega arith) in
    omega (arith, ints)

pub bit_of_and : (kind : Kind) → IsTrue (is_promoted kind) → (left right : ℤ) (i : ℕ) →
    bit_of (bitwise_value bit_and kind left right) i ≡ min (bit_of left i) (bit_of right i)
bit_of_and kind h left right i =
    rw (bits_of-wrapped kind (bit_and (bits_of left) (bits_of right)) h (omega (arith, and_le_l (bits_of left) (bits_of right), bits_below left))) (bit_at_and (bits_of left) (bits_of right) i)

pub bit_of_or : (kind : Kind) → IsTrue (is_promoted kind) → (left right : ℤ) (i : ℕ) →
    bit_of (bitwise_value bit_or kind left right) i ≡ max (bit_of left i) (bit_of right i)
bit_of_or kind h left right i =
    rw (bits_of-wrapped kind (bit_or (bits_of left) (bits_of right)) h (or_of_32 (bits_of left) (bits_of right) (bits_below left) (bits_below right))) (bit_at_or (bits_of left) (bits_of right) i)

pub bit_of_xor : (kind : Kind) → IsTrue (is_promoted kind) → (left right : ℤ) (i : ℕ) →
    bit_of (bitwise_value bit_xor kind left right) i ≡ (bit_of left i + bit_of right i) % 2
bit_of_xor kind h left right i =
    rw (bits_of-wrapped kind (bit_xor (bits_of left) (bits_of right)) h (xor_of_32 (bits_of left) (bits_of right) (bits_below left) (bits_below right))) (bit_at_xor (bits_of left) (bits_of right) i)

pub bit_of_complement : (kind : Kind) → IsTrue (is_promoted kind) → (value : ℤ) (i : ℕ) → i < 32 →
    bit_of (complement kind value) i ≡ 1 - bit_of value i
bit_of_complement kind h value i k =
    rw (bits_of-wrapped kind (2 ^ 32 - 1 - bits_of value) h (omega arith)) (bit_at_not w32 (bits_of value) i (bits_below value) k)
