use Rattle.std.proofs.Common.{ℕ, ◌*◌, ◌<◌, ◌≤◌, arith}
use Rattle.std.proofs.Math.Nat.{mul-le-mul_right, le_of_mul-le-mul_right}

-- cross products are transitive where the middle bottom is positive
pub cross-trans : (t b u c v d : ℕ) → 0 < c → t * c ≤ u * b → u * d ≤ v * c → t * d ≤ v * b
cross-trans t b u c v d positive first second =
    le_of_mul-le-mul_right {k = c} (omega (arith, mul-le-mul_right d first, mul-le-mul_right b second)) positive
