-- Two pointers.
use Rattle.std.proofs.Common.{◌≡◌, ℕ, ◌≤◌, ℤ, pos, ◌-ℤ◌, ◌≤ℤ◌, Bool, true, false, ◌&&◌, Option, None, Some, Result, Ok, Err, refl, ap, sym, ◌∙◌}
use Rattle.std.specs.Prelude.{◌==◌, if◌then◌else◌}
use Rattle.std.specs.FinMap.{get}
use Rattle.cbi_base.specs.declared.operators.Order.{Order}
use Rattle.cbi_base.specs.declared.operators.Order.TheVariants.{Eq, Ne}
use Rattle.cbi_base.specs.declared.scalar.Scalar.{Scalar}
use Rattle.cbi_base.specs.declared.scalar.Scalar.TheVariants.{Number, Place, Null, Undefined}
use Rattle.cbi_base.specs.declared.trap.Trap.{Trap}
use Rattle.cbi_base.specs.declared.trap.Trap.TheVariants as trap
use Rattle.cbi_base.specs.Objects.{Object, Objects, ◌>>=◌, live_or, of_pointers, within_one, in_order, pointer_comparison, pointer_difference, elements_between}

abbrev pub checked : Scalar → Scalar → Result (Unit {0}) Trap
checked left right = of_pointers left right (Ok tt)

abbrev pub offsets : Scalar → Scalar → Objects → Result (ℕ × ℕ) Trap
offsets left right o = within_one left right o (λ i j. Ok (i, j))

abbrev pair_if : Bool → ℕ → ℕ → Result (ℕ × ℕ) Trap
pair_if same i j = if same then Ok (i, j) else Err trap.Unrelated

-- what is asked of two pointers stands before what is done with them
pub of_two : {A : Type 0} (left right : Scalar) (answer : Result A Trap) → checked left right ≡ Ok (tt {0}) → of_pointers left right answer ≡ answer
of_two Undefined right answer two = absurd cc
of_two (Number k v) Undefined answer two = absurd cc
of_two (Place n i) Undefined answer two = absurd cc
of_two Null Undefined answer two = absurd cc
of_two (Number k v) (Number l w) answer two = absurd cc
of_two (Number k v) (Place m j) answer two = absurd cc
of_two (Number k v) Null answer two = absurd cc
of_two (Place n i) (Number l w) answer two = absurd cc
of_two Null (Number l w) answer two = absurd cc
of_two (Place n i) (Place m j) answer two = refl
of_two (Place n i) Null answer two = refl
of_two Null (Place m j) answer two = refl
of_two Null Null answer two = refl

chosen : {A : Type 0} (same : Bool) (i j : ℕ) (f : ℕ → ℕ → Result A Trap) →
    (if same then f i j else Err trap.Unrelated) ≡ (pair_if same i j >>= λ p. f p.0 p.1)
chosen true i j f = refl
chosen false i j f = refl

both_live : {A : Type 0} (first second : Option Object) (same : Bool) (i j : ℕ) (f : ℕ → ℕ → Result A Trap) →
    (live_or first >>= λ _. live_or second >>= λ _. if same then f i j else Err trap.Unrelated)
    ≡ ((live_or first >>= λ _. live_or second >>= λ _. pair_if same i j) >>= λ p. f p.0 p.1)
both_live None second same i j f = refl
both_live (Some a) None same i j f = refl
both_live (Some a) (Some b) same i j f = chosen same i j f

-- two places in one object are found before their offsets are used
pub by_offsets : {A : Type 0} (left right : Scalar) (o : Objects) (f : ℕ → ℕ → Result A Trap) →
    within_one left right o f ≡ (offsets left right o >>= λ p. f p.0 p.1)
by_offsets (Place n i) (Place m j) o f = both_live (get o.live n) (get o.live m) (n == m) i j f
by_offsets left right o f = refl

ordered : (order : Order) (left right : Scalar) (o : Objects) → (order ≡ Eq → ⊥) → (order ≡ Ne → ⊥) →
    pointer_comparison order left right o ≡ of_pointers left right (within_one left right o (λ i j. Ok (in_order order i j)))
unfolding pointer_comparison
ordered Eq left right o eq ne = absurd (eq refl)
ordered Ne left right o eq ne = absurd (ne refl)
ordered order left right o eq ne = refl

pub compared_by : (order : Order) (left right : Scalar) (o : Objects) (r : Result (ℕ × ℕ) Trap) → (order ≡ Eq → ⊥) → (order ≡ Ne → ⊥) →
    checked left right ≡ Ok (tt {0}) →
    r ≡ offsets left right o → pointer_comparison order left right o ≡ (r >>= λ p. Ok (in_order order p.0 p.1))
compared_by order left right o r eq ne two is =
    ordered order left right o eq ne
    ∙ of_two left right (within_one left right o (λ i j. Ok (in_order order i j))) two
    ∙ by_offsets left right o (λ i j. Ok (in_order order i j))
    ∙ ap (λ x. x >>= λ p. Ok (in_order order p.0 p.1)) (sym is)

pub difference_by : (left right : Scalar) (size : ℕ) (o : Objects) (r : Result (ℕ × ℕ) Trap) → checked left right ≡ Ok (tt {0}) →
    r ≡ offsets left right o → pointer_difference left right size o ≡ (r >>= λ p. elements_between size (pos p.0 -ℤ pos p.1))
unfolding pointer_difference
difference_by left right size o r two is =
    of_two left right (within_one left right o (λ i j. elements_between size (pos i -ℤ pos j))) two
    ∙ by_offsets left right o (λ i j. elements_between size (pos i -ℤ pos j))
    ∙ ap (λ x. x >>= λ p. elements_between size (pos p.0 -ℤ pos p.1)) (sym is)
