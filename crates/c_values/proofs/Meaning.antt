-- The arithmetic's definitions, read in the standard's words.
use Rattle.std.proofs.Common.{◌≡◌, ◌↔◌, ℕ, zero, suc, ◌*◌, ◌/◌, ◌^◌, ◌<◌, ◌≤◌, ◌≤ℤ◌, refl, sym, ap, subst, arith, ℤ, pos, negsuc, neg_ℤ, ◌+ℤ◌, ◌*ℤ◌, Bool, true, false, cond, ◌&&◌, Result, Ok, Err}
use Rattle.std.proofs.lemmas.Int.{ints, quot-rem, rem_below}
use Rattle.std.proofs.lemmas.Nat.{pow_pos}
use Rattle.std.proofs.Math.Nat.{mod-le, div-le_self, div-mul-le_self, mul-le-mul_left}
use Rattle.std.specs.Prelude.{int_le, int_div, int_rem, unsigned_abs, IsTrue}
use Rattle.std.specs.Int.{int_div_euclid}
use Rattle.cbi_base.specs.declared.scalar.Kind.{Kind}
use Rattle.cbi_base.specs.declared.scalar.Kind.TheVariants.{Char, Int, Unsigned}
use Rattle.cbi_base.specs.declared.trap.Trap.{Trap}
use Rattle.cbi_base.specs.declared.trap.Trap.TheVariants.{Overflow, Divide, Shift}
use Rattle.cbi_base.specs.Words.{lies_in, wrapped_value, LiesIn, fitted_value, is_zero, quotient, remainder, is_count, two_to, left_shift, right_shift}
use Rattle.c_values.specs.Laws.{IsModulo, IsDivision, IsLeastByMinusOne, IsRoundedDown}
use Rattle.c_values.proofs.Ranges.{LiesIn-ends, ends-LiesIn}
use Rattle.c_values.proofs.Modulo.{wrapped-IsModulo, wrapped-inside}

-- what a test lets through, and what it stops
let_through : (b : Bool) (t : Trap) (exact value : ℤ) → cond b (Ok exact) (Err t) ≡ Ok value → IsTrue b × (value ≡ exact)
let_through true t exact value e = (refl, cc)
let_through false t exact value e = cc

stopped : (b : Bool) (t : Trap) (exact : ℤ) → cond b (Ok exact) (Err t) ≡ Err t → b ≡ false
stopped true t exact e = cc
stopped false t exact e = refl

-- ---- results in a kind

IsModulo-same : (kind : Kind) (exact value : ℤ) → LiesIn kind exact × (value ≡ exact) → IsModulo kind exact value
IsModulo-same kind exact value (h, e) =
    let P : ℤ → Type 0 = λ v. LiesIn kind v in record { inside = subst P (sym e) h; multiple = (pos 0, omega (arith, ints)) }

IsModulo-moved : (kind : Kind) (exact a b : ℤ) → a ≡ b → IsModulo kind exact a → IsModulo kind exact b
IsModulo-moved kind exact a b e h = let P : ℤ → Type 0 = λ v. IsModulo kind exact v in subst P e h

pub fitted-IsModulo : (kind : Kind) (exact value : ℤ) → fitted_value kind exact ≡ Ok value → IsModulo kind exact value
fitted-IsModulo Char exact value e = IsModulo-same Char exact value (let_through (lies_in Char exact) Overflow exact value e)
fitted-IsModulo Int exact value e = IsModulo-same Int exact value (let_through (lies_in Int exact) Overflow exact value e)
fitted-IsModulo Unsigned exact value e =
    IsModulo-moved Unsigned exact (wrapped_value Unsigned exact) value (cc) (wrapped-IsModulo Unsigned exact)

pub fitted-exact : (exact value : ℤ) → fitted_value Int exact ≡ Ok value → value ≡ exact
fitted-exact exact value e = (let_through (lies_in Int exact) Overflow exact value e).1

outside : (b : Bool) → (IsTrue b → ⊥) → b ≡ false
outside true h = absurd (h refl)
outside false h = refl

pub fitted-Overflow : (exact : ℤ) → (fitted_value Int exact ≡ Err Overflow) ↔ ¬ (LiesIn Int exact)
fitted-Overflow exact =
    let out : fitted_value Int exact ≡ Err Overflow → ¬ (LiesIn Int exact) = λ e h. let f = stopped (lies_in Int exact) Overflow exact e in cc in
    let back : ¬ (LiesIn Int exact) → fitted_value Int exact ≡ Err Overflow = λ h. let f = outside (lies_in Int exact) h in rw f refl in
    (out, back)

-- ---- division

fitted-inside : (kind : Kind) (exact : ℤ) → LiesIn kind exact → fitted_value kind exact ≡ Ok exact
fitted-inside Char exact h = rw h refl
fitted-inside Int exact h = rw h refl
fitted-inside Unsigned exact h = ap Ok (wrapped-inside Unsigned exact h)

record IsRest (kind : Kind) (left right rest : ℤ) : Type 0 where
  apart : is_zero right ≡ false
  inside : LiesIn kind (int_div left right)
  is : rest ≡ int_rem left right

rest_of : (kind : Kind) (left right rest : ℤ) (zero held : Bool) → is_zero right ≡ zero →
    lies_in kind (int_div left right) ≡ held →
    cond zero (Err Divide) (cond held (Ok (int_rem left right)) (Err Overflow)) ≡ Ok rest → IsRest kind left right rest
rest_of kind left right rest true held z l e = cc
rest_of kind left right rest false true z l e = record { apart = z; inside = l; is = cc }
rest_of kind left right rest false false z l e = cc

rest_sign : (left right : ℤ) → (pos 0 ≤ℤ left → pos 0 ≤ℤ int_rem left right) × (left ≤ℤ pos 0 → int_rem left right ≤ℤ pos 0)
rest_sign (pos a) right = (λ h. omega (arith, ints), λ h. omega (arith, ints, mod-le a (unsigned_abs right)))
rest_sign (negsuc a) right = (λ h. omega (arith, ints), λ h. omega (arith, ints))

divisor_size : (d : ℤ) → is_zero d ≡ false → 0 < unsigned_abs d
divisor_size (pos n) e = grind (arith, ints)
divisor_size (negsuc n) e = omega arith

quotient_value : (kind : Kind) (left right value : ℤ) → is_zero right ≡ false → LiesIn kind (int_div left right) →
    quotient kind left right ≡ Ok value → value ≡ int_div left right
quotient_value kind left right value z l e = let f = fitted-inside kind (int_div left right) l in let g = rw z at e in cc

pub division : (kind : Kind) (left right value rest : ℤ) → quotient kind left right ≡ Ok value →
    remainder kind left right ≡ Ok rest → IsDivision left right value rest
division kind left right value rest q r =
    let of = rest_of kind left right rest (is_zero right) (lies_in kind (int_div left right)) refl refl r in
    let whole = quotient_value kind left right value of.apart of.inside q in
    let size = rem_below left right (divisor_size right of.apart) in
    let signs = rest_sign left right in
    let left_is = of.is in
    rw (whole, left_is) (record { whole = quot-rem left right; smaller = size; not_below = signs.0; not_above = signs.1 })

-- ---- the one quotient that no `int` holds

two_below : (m : ℕ) → 2 ≤ suc (suc m)
two_below m = omega arith

halved : (n m : ℕ) → n / suc (suc m) * 2 ≤ n
halved n m = omega (arith, div-mul-le_self n (suc (suc m)), mul-le-mul_left (n / suc (suc m)) (two_below m))

-- the negative of a quotient, and a quotient, of a number of the kind
below_least : (n d : ℕ) → n ≤ 2147483648 → LiesIn Int (neg_ℤ (pos (n / d)))
below_least n d h =
    let small = div-le_self n d in ends-LiesIn Int (neg_ℤ (pos (n / d))) (omega (arith, ints)) (omega (arith, ints))

above_greatest : (n : ℕ) → n ≤ 2147483647 → LiesIn Int (pos n)
above_greatest n h = ends-LiesIn Int (pos n) (omega (arith, ints)) (omega (arith, ints))

quotient_outside : (left right : ℤ) → LiesIn Int left → lies_in Int (int_div left right) ≡ false → IsLeastByMinusOne left right
quotient_outside (pos a) (pos d) h e =
    let ends = LiesIn-ends Int (pos a) h in let within = above_greatest (a / d) (omega (arith, ints, div-le_self a d)) in cc
quotient_outside (pos a) (negsuc d) h e =
    let ends = LiesIn-ends Int (pos a) h in let within = below_least a (suc d) (omega (arith, ints)) in cc
quotient_outside (negsuc a) (pos d) h e =
    let ends = LiesIn-ends Int (negsuc a) h in let within = below_least (suc a) d (omega (arith, ints)) in cc
quotient_outside (negsuc a) (negsuc zero) h e =
    let ends = LiesIn-ends Int (negsuc a) h in
    let least : ¬ (a < 2147483647) =
    λ less. (let within = above_greatest (suc a / suc zero) (omega (arith, div-le_self (suc a) (suc zero), less)) in cc) in
    (ap negsuc (omega (arith, ints)), refl)
quotient_outside (negsuc a) (negsuc (suc d)) h e =
    let ends = LiesIn-ends Int (negsuc a) h in let within = above_greatest (suc a / suc (suc d)) (omega (arith, ints, halved (suc a) d)) in cc

overflow_of : (zero held : Bool) (exact : ℤ) → cond zero (Err Divide) (cond held (Ok exact) (Err Overflow)) ≡ Err Overflow →
    held ≡ false
overflow_of true held exact e = cc
overflow_of false true exact e = cc
overflow_of false false exact e = refl

pub quotient-Overflow : (left right : ℤ) → LiesIn Int left →
    (quotient Int left right ≡ Err Overflow) ↔ IsLeastByMinusOne left right
quotient-Overflow left right h =
    let out : quotient Int left right ≡ Err Overflow → IsLeastByMinusOne left right =
    λ e. quotient_outside left right h (overflow_of (is_zero right) (lies_in Int (int_div left right)) (int_div left right) e) in
    let back : IsLeastByMinusOne left right → quotient Int left right ≡ Err Overflow = λ (l, r). rw (l, r) refl in
    (out, back)

pub remainder-Overflow : (left right : ℤ) → LiesIn Int left →
    (remainder Int left right ≡ Err Overflow) ↔ IsLeastByMinusOne left right
remainder-Overflow left right h =
    let out : remainder Int left right ≡ Err Overflow → IsLeastByMinusOne left right =
    λ e. quotient_outside left right h (overflow_of (is_zero right) (lies_in Int (int_div left right)) (int_rem left right) e) in
    let back : IsLeastByMinusOne left right → remainder Int left right ≡ Err Overflow = λ (l, r). rw (l, r) refl in
    (out, back)

zero_from : (d : ℤ) → is_zero d ≡ true → d ≡ pos 0
zero_from (pos zero) e = refl
zero_from (pos (suc n)) e = grind (arith, ints)
zero_from (negsuc n) e = grind (arith, ints)

divided : (zero : Bool) (value : Result ℤ Trap) → ¬ (value ≡ Err Divide) → cond zero (Err Divide) value ≡ Err Divide → zero ≡ true
divided true value h e = refl
divided false value h e = absurd (h e)

held_or_not : (held : Bool) (exact : ℤ) → ¬ (cond held (Ok exact) (Err Overflow) ≡ Err Divide)
held_or_not true exact e = cc
held_or_not false exact e = cc

fitted_or_not : (kind : Kind) (exact : ℤ) → ¬ (fitted_value kind exact ≡ Err Divide)
fitted_or_not Char exact = held_or_not (lies_in Char exact) exact
fitted_or_not Int exact = held_or_not (lies_in Int exact) exact
fitted_or_not Unsigned exact = λ e. cc

pub quotient-Divide : (kind : Kind) (left right : ℤ) → (quotient kind left right ≡ Err Divide) ↔ (right ≡ pos 0)
quotient-Divide kind left right =
    let out : quotient kind left right ≡ Err Divide → right ≡ pos 0 =
    λ e. zero_from right (divided (is_zero right) (fitted_value kind (int_div left right)) (fitted_or_not kind (int_div left right)) e) in
    let back : right ≡ pos 0 → quotient kind left right ≡ Err Divide = λ r. rw r refl in
    (out, back)

pub remainder-Divide : (kind : Kind) (left right : ℤ) → (remainder kind left right ≡ Err Divide) ↔ (right ≡ pos 0)
remainder-Divide kind left right =
    let held = lies_in kind (int_div left right) in
    let out : remainder kind left right ≡ Err Divide → right ≡ pos 0 =
    λ e. zero_from right (divided (is_zero right) (cond held (Ok (int_rem left right)) (Err Overflow)) (held_or_not held (int_rem left right)) e) in
    let back : right ≡ pos 0 → remainder kind left right ≡ Err Divide = λ r. rw r refl in
    (out, back)

-- ---- shifts

later : (a b c : Bool) → IsTrue (a && (b && c)) → IsTrue c
later a b c h = grind arith

signed_shift : (kind : Kind) (left count value : ℤ) →
    cond (is_count count && (int_le (pos 0) left && lies_in kind (left *ℤ two_to count))) (Ok (left *ℤ two_to count)) (Err Shift) ≡ Ok value → LiesIn kind (left *ℤ two_to count) × (value ≡ left *ℤ two_to count)
signed_shift kind left count value e =
    let tests = is_count count && (int_le (pos 0) left && lies_in kind (left *ℤ two_to count)) in
    let through = let_through tests Shift (left *ℤ two_to count) value e in
    (later (is_count count) (int_le (pos 0) left) (lies_in kind (left *ℤ two_to count)) through.0, through.1)

pub left_shift-IsModulo : (kind : Kind) (left count value : ℤ) → left_shift kind left count ≡ Ok value →
    IsModulo kind (left *ℤ two_to count) value
left_shift-IsModulo Char left count value e =
    IsModulo-same Char (left *ℤ two_to count) value (signed_shift Char left count value e)
left_shift-IsModulo Int left count value e = IsModulo-same Int (left *ℤ two_to count) value (signed_shift Int left count value e)
left_shift-IsModulo Unsigned left count value e =
    let exact = left *ℤ two_to count in
    let is = (let_through (is_count count) Shift (wrapped_value Unsigned exact) value e).1 in
    IsModulo-moved Unsigned exact (wrapped_value Unsigned exact) value (sym is) (wrapped-IsModulo Unsigned exact)

pub left_shift-exact : (left count value : ℤ) → left_shift Int left count ≡ Ok value → value ≡ left *ℤ two_to count
left_shift-exact left count value e = (signed_shift Int left count value e).1

neg-product : (n k : ℕ) → neg_ℤ (pos n) *ℤ pos k ≡ neg_ℤ (pos (n * k))
neg-product zero k = omega (arith, ints)
neg-product (suc n) k = omega (arith, ints)

rounded : (left : ℤ) (k : ℕ) → 0 < k → IsRoundedDown left (pos k) (int_div_euclid left (pos k))
rounded (pos a) k h = record { reached = omega (arith, ints); greatest = omega (arith, ints) }
rounded (negsuc a) k h =
    let next : negsuc (a / k) +ℤ pos 1 ≡ neg_ℤ (pos (a / k)) = omega (arith, ints) in
    record { reached = omega (arith, ints); greatest = rw (next, neg-product (a / k) k) (omega (arith, ints, div-mul-le_self a k)) }

pub right_shift-IsRoundedDown : (left count value : ℤ) → right_shift left count ≡ Ok value →
    IsRoundedDown left (two_to count) value
right_shift-IsRoundedDown left count value e =
    let P : ℤ → Type 0 = λ v. IsRoundedDown left (two_to count) v in
    let is = (let_through (is_count count) Shift (int_div_euclid left (two_to count)) value e).1 in
    subst P (sym is) (rounded left (2 ^ unsigned_abs count) (pow_pos (unsigned_abs count)))
