use Rattle.std.proofs.Common.{ℕ, zero, suc, ◌+◌, ◌-◌, ◌*◌, ◌^◌, ◌<◌, ◌≤◌, arith}
use Rattle.std.proofs.Math.Nat.{mul-le-mul, mul-le-mul_left, pow-le-pow_left}

-- what keeps the products of a tally far below 2^128
pub cube-le : (x : ℕ) → x ≤ 100000 → x ^ 3 ≤ 10 ^ 15
cube-le x small = pow-le-pow_left small 3

pub variance-le : (x y cube : ℕ) → x ≤ 100000 → y ≤ 100000 → cube ≤ 10 ^ 15 → x * y * cube ≤ 10 ^ 25
variance-le x y cube one two three = mul-le-mul (mul-le-mul one two) three

pub square-le : (x : ℕ) → x ≤ 10 ^ 10 → x ^ 2 ≤ 10 ^ 20
square-le x small = pow-le-pow_left small 2

pub weighted-le : (x y z : ℕ) → x ≤ 10 ^ 20 → y ≤ 100000 → z ≤ 100000 → x * y * z ≤ 10 ^ 30
weighted-le x y z one two three = mul-le-mul (mul-le-mul one two) three

-- a predicate that passes was true in a failing run
pub positive-part : (a b c d : ℕ) → b * c < a * d → 1 ≤ a
positive-part zero b c d less = absurd (omega (arith, less))
positive-part (suc a) b c d less = omega arith

-- Increase is at most 1
pub surplus-le : (a b c d : ℕ) → a * d - b * c ≤ (a + b) * (c + d)
surplus-le a b c d = omega arith

-- the harmonic mean of two fractions of at most 1 is at most 1
pub harmonic-le : (n d l k : ℕ) → l ≤ k → n ≤ d → 2 * n * l ≤ n * k + l * d
harmonic-le n d l k logs parts = omega (arith, mul-le-mul_left n logs, mul-le-mul_left l parts)

pub ruleset bounds = (cube-le, variance-le, square-le, weighted-le)
