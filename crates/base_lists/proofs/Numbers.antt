-- Numbers, and what tests say of them.
use Rattle.std.proofs.Common.{arith, false, max, nat_eq, nat_le, nat_lt, suc, true, ℕ, ◌<◌, ◌==◌, ◌∙◌, ◌≡◌, ◌≢◌, ◌≤◌}
use Rattle.std.proofs.lemmas.Bool.Decides.{nat_tests}
use Rattle.std.proofs.lemmas.Nat.{mul-le}
use Rattle.std.specs.Cmp.{unsigned_tied}
use Rattle.std.specs.Ordering.{eq_by_cmp, nat_cmp}
use Rattle.std.specs.Prelude.{◌*◌}

-- what tests as less is less
pub is_less : (m n : ℕ) → nat_lt m n ≡ true → m < n
is_less m n h = grind (arith, nat_tests, h)

-- and the other way
pub less_is : (a b : ℕ) → a < b → nat_lt a b ≡ true
less_is a b l = grind (arith, nat_tests)

-- what isn't less is at least as great
pub not_less : (m n : ℕ) → nat_lt m n ≡ false → n ≤ m
not_less m n h = grind (arith, nat_tests)

-- what tests as at most as great is so
pub is_most : (m n : ℕ) → nat_le m n ≡ true → m ≤ n
is_most m n h = grind (arith, nat_tests, h)

-- what is at most as great tests so
pub most_is : (m n : ℕ) → m ≤ n → nat_le m n ≡ true
most_is m n h = grind (arith, nat_tests, h)

-- what is greater tests so
pub more_is : (m n : ℕ) → n < m → nat_le m n ≡ false
more_is m n h = grind (arith, nat_tests, h)

-- numbers that test equal are one
pub same_number : (m n : ℕ) → (m == n) ≡ true → m ≡ n
same_number m n h = grind (arith, nat_tests, h)

-- the same, by another test
pub equal_number : (q n : ℕ) → nat_eq q n ≡ true → q ≡ n
equal_number q n h = grind (arith, nat_tests)

-- a number tests equal to itself
pub number_itself : (n : ℕ) → (n == n) ≡ true
number_itself n = grind (arith, nat_tests)

-- and to what is the same
pub number_is : (n m : ℕ) → n ≡ m → (n == m) ≡ true
number_is n m h = grind (arith, nat_tests, h)

-- other numbers test otherwise
pub other_number : (m n : ℕ) → m ≢ n → (m == n) ≡ false
other_number m n h = grind (arith, nat_tests)

-- what tests otherwise is another number
pub not_number : (a b : ℕ) → (a == b) ≡ false → a ≡ b → ⊥
not_number a b test e = grind (arith, nat_tests)

-- a smaller number tests otherwise
pub less_apart : (n m : ℕ) → n < m → (n == m) ≡ false
less_apart n m h = grind (arith, nat_tests)

-- so does a greater one
pub more_apart : (q k : ℕ) → k < q → (q == k) ≡ false
more_apart q k h = grind (arith, nat_tests)

-- what isn't 0 doesn't test as 0
pub not_zero : (d : ℕ) → (d ≡ 0 → ⊥) → (d == 0) ≡ false
not_zero d h = grind arith

-- one more than a number isn't 0
pub suc_not_zero : (n : ℕ) → (suc n == 0) ≡ true → ⊥
suc_not_zero n h =
    let none : suc n ≡ 0 = grind (arith, nat_tests, h) in
    omega (arith, none)

-- nor does it test so
pub suc_zero_test : (n : ℕ) → (suc n == 0) ≡ false
suc_zero_test n = not_zero (suc n) (λ h. omega arith)

-- a key tests equal to itself
pub key_itself : (n : ℕ) → eq_by_cmp nat_cmp n n ≡ true
key_itself n = unsigned_tied n n ∙ grind (arith, nat_tests)

-- and otherwise to another key
pub key_apart : (j k : ℕ) → (j ≡ k → ⊥) → eq_by_cmp nat_cmp j k ≡ false
key_apart j k other = unsigned_tied j k ∙ grind (arith, nat_tests)

-- a product of numbers from 1 on is from 1 on
pub product_some : (n c : ℕ) → 1 ≤ n → 1 ≤ c → 1 ≤ n * c
product_some n c h k = mul-le 1 1 n c h k

-- the greater of two is at most as great as what neither exceeds
pub max_most : (m n l : ℕ) → m ≤ l → n ≤ l → max m n ≤ l
max_most m n l h k = grind (arith, nat_tests, h, k)
