use Rattle.std.proofs.Common.{le_trans, ◌≡◌, ℕ, zero, suc, ◌+◌, ◌*◌, ◌/◌, ◌^◌, ◌<◌, ◌≤◌, ◌⊎◌, inl, inr, cond, refl, ap, sym, subst, ◌∙◌, arith}
use Rattle.std.proofs.Math.Nat.{one-mul, one-le-pow, pow-zero, pow-suc, mul-le-mul, mul-le-mul_left, mul-le-mul_right, le_of_mul-le-mul_right, lt_of_mul-lt-mul_right, div-mul-le_self, lt-div-mul-add}
use Rattle.std.proofs.lemmas.Nat.{pow-add, mul-pow, pow_pos, mul-lt, le-div, div_below}
use Rattle.std.proofs.lemmas.Bool.{cases_lt, lt-leb, le-leb}
use Rattle.fractions.specs.Logarithm.{square_of, first_place, rest_of, logarithm_places}

-- one step of the repeated squaring
pub data Step (m : ℕ) : ℕ → ℕ → Type 0 where
  clear : square_of m < 2 ^ 63 → Step m 0 (square_of m)
  set : 2 ^ 63 ≤ square_of m → Step m 1 (square_of m / 2)

pub step : (m : ℕ) → Step m (first_place m) (rest_of m)
step m = elim (cases_lt (square_of m) (2 ^ 63)) [
  | inl below ↦ subst (λ b. Step m (cond b 1 0) (cond b (square_of m / 2) (square_of m))) (sym (lt-leb (2 ^ 63) (square_of m) below)) (clear below)
  | inr above ↦ subst (λ b. Step m (cond b 1 0) (cond b (square_of m / 2) (square_of m))) (sym (le-leb (2 ^ 63) (square_of m) above)) (set above)
]

pub places-suc : (count m : ℕ) → logarithm_places (suc count) m ≡ first_place m * 2 ^ count + logarithm_places count (rest_of m)
unfolding logarithm_places
places-suc count m = refl

-- the squaring keeps a mantissa in its range
square-range : (m : ℕ) → 2 ^ 62 ≤ m → m < 2 ^ 63 → (2 ^ 62 ≤ square_of m) × (square_of m < 2 ^ 64)
square-range m one_or_more below_two = (
  le-div (2 ^ 62) (m * m) (2 ^ 62) (omega arith) (mul-le-mul one_or_more one_or_more),
  div_below (m * m) (2 ^ 62) (2 ^ 64) (omega arith) (mul-lt m m (2 ^ 63) (2 ^ 63) below_two below_two),
)

half-range : (s : ℕ) → 2 ^ 63 ≤ s → s < 2 ^ 64 → (2 ^ 62 ≤ s / 2) × (s / 2 < 2 ^ 63)
half-range s least most = (omega arith, omega arith)

pub Step-range : {m place rest : ℕ} → Step m place rest → 2 ^ 62 ≤ m → m < 2 ^ 63 → (2 ^ 62 ≤ rest) × (rest < 2 ^ 63)
Step-range {m} (clear below) one_or_more below_two = ((square-range m one_or_more below_two).0, below)
Step-range {m} (set above) one_or_more below_two = half-range (square_of m) above (square-range m one_or_more below_two).1

pub Step-place : {m place rest : ℕ} → Step m place rest → place ≤ 1
Step-place (clear _) = omega arith
Step-place (set _) = omega arith

-- all places together are worth less than one place before them
pub places-below : (count m : ℕ) → logarithm_places count m < 2 ^ count
unfolding logarithm_places
places-below zero m = omega (arith, pow-zero 2)
places-below (suc count) m =
    room (first_place m) (2 ^ count) (logarithm_places count (rest_of m)) (2 ^ suc count) (Step-place (step m)) (places-below count (rest_of m)) (pow-suc 2 count)
  where
    room : (place power rest next : ℕ) → place ≤ 1 → rest < power → next ≡ power * 2 → place * power + rest < next
    room place power rest next small below twice = omega (arith, mul-le-mul_right power small)

square-monotone : (m n : ℕ) → m ≤ n → square_of m ≤ square_of n
square-monotone m n order = le-div (square_of m) (n * n) (2 ^ 62) (omega arith) (le_trans (div-mul-le_self (m * m) (2 ^ 62)) (mul-le-mul order order))

half-monotone : (s t : ℕ) → s ≤ t → s / 2 ≤ t / 2
half-monotone s t order = omega arith

-- of two mantissas the greater one has the greater place, or the same place and a rest that isn't less
Step-monotone : {m n place rest place' rest' : ℕ} → Step m place rest → Step n place' rest' → square_of m ≤ square_of n → ((place ≡ place') × (rest ≤ rest')) ⊎ (place < place')
Step-monotone (clear _) (clear _) order = inl (refl, order)
Step-monotone (clear _) (set _) order = inr (omega arith)
Step-monotone {m} {n} (set above) (clear below) order = absurd (between (square_of m) (square_of n) above below order)
  where
    between : (s t : ℕ) → 2 ^ 63 ≤ s → t < 2 ^ 63 → s ≤ t → ⊥
    between s t above below order = omega arith
Step-monotone {m} {n} (set _) (set _) order = inl (refl, half-monotone (square_of m) (square_of n) order)

-- so the first place that differs decides
pub places-monotone : (count m n : ℕ) → m ≤ n → logarithm_places count m ≤ logarithm_places count n
unfolding logarithm_places
places-monotone zero m n order = omega arith
places-monotone (suc count) m n order = elim (Step-monotone (step m) (step n) (square-monotone m n order)) [
  | inl same ↦ alike (first_place m) (first_place n) (2 ^ count) (logarithm_places count (rest_of m)) (logarithm_places count (rest_of n)) same.0 (places-monotone count (rest_of m) (rest_of n) same.1)
  | inr less ↦ decided (first_place m) (first_place n) (2 ^ count) (logarithm_places count (rest_of m)) (logarithm_places count (rest_of n)) less (places-below count (rest_of m))
]
  where
    alike : (place place' power rest rest' : ℕ) → place ≡ place' → rest ≤ rest' → place * power + rest ≤ place' * power + rest'
    alike place place' power rest rest' same order = omega (arith, ap (λ p. p * power) same)

    decided : (place place' power rest rest' : ℕ) → place < place' → rest < power → place * power + rest ≤ place' * power + rest'
    decided place place' power rest rest' less below = omega (arith, mul-le-mul_right power less)

-- ---- the places against the power: with s = m * m / u, a bound of m * p against x * u gives one of s * p * p against x * x * u

below-square : (m s x p u : ℕ) → 0 < u → s * u ≤ m * m → m * p ≤ x * u → s * (p * p) ≤ x * x * u
below-square m s x p u positive root bound =
    le_of_mul-le-mul_right {k = u} (omega (arith, mul-le-mul bound bound, mul-le-mul_right (p * p) root)) positive

above-square : (m s x p u error : ℕ) → m < 2 * u → m * m < s * u + u → 1 ≤ error → error ≤ u → x * u < (m + error) * p → x * x * u < (s + 1 + 5 * error) * (p * p)
above-square m s x p u error range root some small bound =
    let bounds : x * u * (x * u) < (m + error) * p * ((m + error) * p) = mul-lt (x * u) (x * u) _ _ bound bound in
    let whole : (m + error) * (m + error) ≤ (s + 1 + 5 * error) * u = omega (arith, mul-le-mul_right error range, mul-le-mul_right error small) in
    lt_of_mul-lt-mul_right u (omega (arith, bounds, mul-le-mul_right (p * p) whole))

Step-square : {m place rest : ℕ} → Step m place rest → (rest * 2 ^ place ≤ square_of m) × (square_of m < (rest + 1) * 2 ^ place)
Step-square {m} (clear _) = (omega (arith, pow-zero 2), omega (arith, pow-zero 2))
Step-square {m} (set _) = halves (square_of m)
  where
    halves : (s : ℕ) → (s / 2 * 2 ≤ s) × (s < (s / 2 + 1) * 2)
    halves s = (omega arith, omega arith)

-- 2 ^ (2 * l + place) by its factors
power-step : (l place : ℕ) → 2 ^ (l + l + place) ≡ 2 ^ l * 2 ^ l * 2 ^ place
power-step l place = pow-add 2 (l + l) place ∙ ap (λ p. p * 2 ^ place) (pow-add 2 l l)

exponent-step : (l place count rest : ℕ) → (l + l + place) * 2 ^ count + rest ≡ l * 2 ^ suc count + (place * 2 ^ count + rest)
exponent-step l place count rest = omega (arith, ap (λ p. l * p) (pow-suc 2 count))

square-power : (x count : ℕ) → (x * x) ^ (2 ^ count) ≡ x ^ (2 ^ suc count)
square-power x count =
    let twice : 2 ^ count + 2 ^ count ≡ 2 ^ suc count = omega (arith, pow-suc 2 count) in
    mul-pow x x (2 ^ count) ∙ sym (pow-add x (2 ^ count) (2 ^ count)) ∙ ap (λ k. x ^ k) twice

lower-step : (m s place rest x l : ℕ) → s * 2 ^ 62 ≤ m * m → rest * 2 ^ place ≤ s → m * 2 ^ l ≤ x * 2 ^ 62 → rest * 2 ^ (l + l + place) ≤ x * x * 2 ^ 62
lower-step m s place rest x l root half bound =
    omega (arith, ap (λ p. rest * p) (power-step l place), mul-le-mul_right (2 ^ l * 2 ^ l) half, below-square m s x (2 ^ l) (2 ^ 62) (omega arith) root bound)

pow-one : (x : ℕ) → x ^ 1 ≡ x
pow-one x = pow-suc x 0 ∙ ap (λ p. p * x) (pow-zero x) ∙ one-mul x

pub places-lower : (count l m x : ℕ) → 2 ^ 62 ≤ m → m < 2 ^ 63 → m * 2 ^ l ≤ x * 2 ^ 62 → 2 ^ (l * 2 ^ count + logarithm_places count m) ≤ x ^ (2 ^ count)
unfolding logarithm_places
places-lower zero l m x one_or_more below_two bound =
    let last : l * 2 ^ 0 + 0 ≡ l = omega (arith, pow-zero 2) in
    rw (last, pow-one x) (le_of_mul-le-mul_right {k = 2 ^ 62} (omega (arith, bound, mul-le-mul_right (2 ^ l) one_or_more)) (omega arith))
places-lower (suc count) l m x one_or_more below_two bound =
    let this = step m in
    let range = Step-range this one_or_more below_two in
    let next = lower-step m (square_of m) (first_place m) (rest_of m) x l (div-mul-le_self (m * m) (2 ^ 62)) (Step-square this).0 bound in
    let rest = places-lower count (l + l + first_place m) (rest_of m) (x * x) range.0 range.1 next in
    subst (λ e. 2 ^ e ≤ x ^ (2 ^ suc count)) (exponent-step l (first_place m) count (logarithm_places count (rest_of m)))
    (subst (λ p. 2 ^ ((l + l + first_place m) * 2 ^ count + logarithm_places count (rest_of m)) ≤ p) (square-power x count) rest)

-- what one step adds to the error of the mantissa
upper-step : (m place rest x l error : ℕ) → 2 ^ 62 ≤ m → m < 2 ^ 63 → Step m place rest → 1 ≤ error → error ≤ 2 ^ 62
    → x * 2 ^ 62 < (m + error) * 2 ^ l → x * x * 2 ^ 62 < (rest + 8 * error) * 2 ^ (l + l + place)
upper-step m place rest x l error one_or_more below_two this some small bound =
    let above = above-square m (square_of m) x (2 ^ l) (2 ^ 62) error (omega arith) (lt-div-mul-add {a = m * m} {b = 2 ^ 62} (omega arith)) some small bound in
    joined (square_of m) rest error (2 ^ place) (2 ^ l * 2 ^ l) (2 ^ (l + l + place)) (x * x * 2 ^ 62) some (pow_pos place) (Step-square this).1 (power-step l place) above
  where
    joined : (s rest error p q power y : ℕ) → 1 ≤ error → 0 < p → s < (rest + 1) * p → power ≡ q * p → y < (s + 1 + 5 * error) * q → y < (rest + 8 * error) * power
    joined s rest error p q power y some positive half split above =
        let errors : 5 * error ≤ 5 * error * p = omega (arith, mul-le-mul_left (5 * error) positive) in
        let all : s + 1 + 5 * error ≤ (rest + 8 * error) * p = omega (arith, errors, mul-le-mul_right p some) in
        omega (arith, above, mul-le-mul_right q all, ap (λ e. (rest + 8 * error) * e) split)

last-step : (m x l error : ℕ) → m < 2 ^ 63 → error ≤ 2 ^ 62 → x * 2 ^ 62 < (m + error) * 2 ^ l → x < 2 ^ (l + 2)
last-step m x l error below_two small bound =
    let whole : m + error ≤ 4 * 2 ^ 62 = omega arith in
    lt_of_mul-lt-mul_right (2 ^ 62) (omega (arith, bound, pow-add 2 l 2, mul-le-mul_right (2 ^ l) whole))

pub places-upper : (count l m x error : ℕ) → 2 ^ 62 ≤ m → m < 2 ^ 63 → 1 ≤ error → error * 8 ^ count ≤ 2 ^ 62
    → x * 2 ^ 62 < (m + error) * 2 ^ l → x ^ (2 ^ count) < 2 ^ (l * 2 ^ count + logarithm_places count m + 2)
unfolding logarithm_places
places-upper zero l m x error one_or_more below_two some small bound =
    let last : l ≡ l * 2 ^ 0 + 0 = omega (arith, pow-zero 2) in
    subst (λ e. x ^ 1 < 2 ^ (e + 2)) last (subst (λ y. y < 2 ^ (l + 2)) (sym (pow-one x)) (last-step m x l error below_two (omega (arith, small, pow-zero 8)) bound))
places-upper (suc count) l m x error one_or_more below_two some small bound =
    let this = step m in
    let range = Step-range this one_or_more below_two in
    let room = spent error (8 ^ count) (8 ^ suc count) (pow-suc 8 count) (pow_pos' count) small in
    let next = upper-step m (first_place m) (rest_of m) x l error one_or_more below_two this some room.0 bound in
    let rest = places-upper count (l + l + first_place m) (rest_of m) (x * x) (8 * error) range.0 range.1 (omega arith) room.1 next in
    subst (λ e. x ^ (2 ^ suc count) < 2 ^ (e + 2)) (exponent-step l (first_place m) count (logarithm_places count (rest_of m)))
    (subst (λ p. p < 2 ^ ((l + l + first_place m) * 2 ^ count + logarithm_places count (rest_of m) + 2)) (square-power x count) rest)
  where
    pow_pos' : (k : ℕ) → 1 ≤ 8 ^ k
    pow_pos' k = one-le-pow k 8 (omega arith)

    spent : (error power next : ℕ) → next ≡ power * 8 → 1 ≤ power → error * next ≤ 2 ^ 62 → (error ≤ 2 ^ 62) × (8 * error * power ≤ 2 ^ 62)
    spent error power next split positive small =
        let product : error * next ≡ error * (power * 8) = ap (λ p. error * p) split in
        (omega (arith, small, product, mul-le-mul_left error positive), omega (arith, small, product))
