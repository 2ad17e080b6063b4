-- Sums of few numbers that are not great.
use Rattle.std.proofs.Common.{ℕ, ◌*◌, ◌^◌, ◌<◌, ◌≤◌, List, length, arith}
use Rattle.std.proofs.Math.Nat.{mul-le-mul_left}
use Rattle.std.specs.List.{All, sum_by}
use Rattle.std.proofs.lemmas.List.Sums.{sum_by-le}

-- at most 2^20 numbers of at most 2^24 each
pub fits_word : {X : Type 0} (f : X → ℕ) (xs : List X) (m : ℕ) → All (λ x. f x ≤ m) xs → length xs ≤ 1048576 → m ≤ 16777216 → sum_by f xs < 2 ^ 64
fits_word f xs m each few small =
    let e = sum_by-le f m xs each in
    let g : length xs * m ≤ length xs * 16777216 = mul-le-mul_left (length xs) small in
    omega arith
