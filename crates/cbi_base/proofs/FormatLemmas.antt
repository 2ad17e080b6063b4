-- The conversions of a format, counted from one `%` to the next.
use Rattle.std.proofs.Common.{◌≡◌, ◌≢◌, ℕ, ◌+◌, ◌<◌, true, false, List, [], ◌∷◌, ◌++◌, length, Option, None, Some, refl, ap, ◌∙◌, length-append, arith}
use Rattle.std.specs.Option.{option_map}
use Rattle.std.proofs.lemmas.Bool.{ne_eqb}
use Rattle.cbi_base.specs.Text.{Lacks}
use Rattle.cbi_base.specs.Format.{conversions_of, is_conversion, is_percent, one_conversion_more}

-- what lacks `%` has no conversion
pub conversions_of-lacks : (bytes : List ℕ) → Lacks is_percent bytes → conversions_of bytes ≡ Some 0
conversions_of-lacks [] lacks = refl
conversions_of-lacks (b ∷ []) lacks = rw lacks.0 refl
conversions_of-lacks (b ∷ c ∷ rest) lacks = rw lacks.0 (conversions_of-lacks (c ∷ rest) lacks.1)

-- nor has it in front of a `%`
conversions_of-front : (front after : List ℕ) → Lacks is_percent front → conversions_of (front ++ 37 ∷ after) ≡ conversions_of (37 ∷ after)
conversions_of-front [] after lacks = refl
conversions_of-front (b ∷ []) after lacks = rw lacks.0 refl
conversions_of-front (b ∷ c ∷ rest) after lacks = rw lacks.0 (conversions_of-front (c ∷ rest) after lacks.1)

-- the counts so far and of what is left make the count of the whole
pub record Counted (format : List ℕ) (count : ℕ) (rest : List ℕ) : Type 0 where
  pub whole : conversions_of format ≡ option_map (λ n. count + n) (conversions_of rest)

-- what is left begins, after some bytes, with `%` and this letter
pub record CutAt (rest : List ℕ) (letter : ℕ) (next : List ℕ) : Type 0 where
  pub front : List ℕ
  pub rest_is : rest ≡ front ++ 37 ∷ letter ∷ next
  pub lacks : Lacks is_percent front

pub cut-at : (rest front after next : List ℕ) (letter : ℕ) → (rest ≡ front ++ 37 ∷ after) × Lacks is_percent front → after ≡ letter ∷ next → CutAt rest letter next
cut-at rest front after next letter h is = record { front = front; rest_is = h.0 ∙ ap (λ t. front ++ 37 ∷ t) is; lacks = h.1 }

pub shorter : (rest next : List ℕ) (letter : ℕ) → CutAt rest letter next → length next + 1 < length rest
shorter rest next letter h = omega (arith, ap length h.rest_is, length-append h.front (37 ∷ letter ∷ next))

at-cut : (rest next : List ℕ) (letter : ℕ) → CutAt rest letter next → conversions_of rest ≡ conversions_of (37 ∷ letter ∷ next)
at-cut rest next letter h = ap conversions_of h.rest_is ∙ conversions_of-front h.front (letter ∷ next) h.lacks

add-one-more : (o : Option ℕ) (count : ℕ) → option_map (λ n. count + n) (one_conversion_more o) ≡ option_map (λ n. count + 1 + n) o
add-one-more None count = refl
add-one-more (Some n) count = let same : count + (n + 1) ≡ count + 1 + n = omega arith in ap Some same

pub Counted-conversion : (format rest next : List ℕ) (count letter : ℕ) → Counted format count rest → CutAt rest letter next → is_conversion letter ≡ true → Counted format (count + 1) next
Counted-conversion format rest next count letter counted cut is =
    let step : conversions_of (37 ∷ letter ∷ next) ≡ one_conversion_more (conversions_of next) = rw is refl in
    record { whole = counted.whole ∙ ap (option_map (λ n. count + n)) (at-cut rest next letter cut ∙ step) ∙ add-one-more (conversions_of next) count }

pub Counted-percent : (format rest next : List ℕ) (count letter : ℕ) → Counted format count rest → CutAt rest letter next → letter ≡ 37 → Counted format count next
Counted-percent format rest next count letter counted cut is =
    let step : conversions_of (37 ∷ letter ∷ next) ≡ conversions_of next = rw is refl in
    record { whole = counted.whole ∙ ap (option_map (λ n. count + n)) (at-cut rest next letter cut ∙ step) }

pub Counted-bad : (format rest next : List ℕ) (count letter : ℕ) → Counted format count rest → CutAt rest letter next → is_conversion letter ≡ false → letter ≢ 37 → conversions_of format ≡ None
Counted-bad format rest next count letter counted cut not_letter other =
    let not_percent : is_percent letter ≡ false = ne_eqb letter 37 other in
    let step : conversions_of (37 ∷ letter ∷ next) ≡ None = rw (not_letter, not_percent) refl in
    counted.whole ∙ ap (option_map (λ n. count + n)) (at-cut rest next letter cut ∙ step)

pub Counted-end : (format rest front after : List ℕ) (count : ℕ) → Counted format count rest → (rest ≡ front ++ 37 ∷ after) × Lacks is_percent front → length after ≡ 0 → conversions_of format ≡ None
Counted-end format rest front [] count counted h none =
    counted.whole ∙ ap (option_map (λ n. count + n)) (ap conversions_of h.0 ∙ conversions_of-front front [] h.1)
Counted-end format rest front (b ∷ bs) count counted h none = absurd (omega arith)

pub Counted-all : (format rest : List ℕ) (count : ℕ) → Counted format count rest → Lacks is_percent rest → conversions_of format ≡ Some count
Counted-all format rest count counted lacks =
    let same : count + 0 ≡ count = omega arith in
    counted.whole ∙ ap (option_map (λ n. count + n)) (conversions_of-lacks rest lacks) ∙ ap Some same
