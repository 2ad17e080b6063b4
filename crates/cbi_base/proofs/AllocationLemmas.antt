-- What `malloc` gives, by its cases.
use Rattle.std.proofs.Common.{◌≡◌, ◌⊎◌, inl, inr, ℕ, ◌+◌, ◌<◌, ◌≤◌, Bool, true, false, cond, ◌&&◌, ◌==◌, nat_le, nat_lt, Some, None, refl, arith, ap, ◌∙◌}
use Rattle.std.proofs.lemmas.Bool.Decides.{nat_tests}
use Rattle.std.proofs.lemmas.List.{length-replicate}
use Rattle.base_lists.proofs.Numbers.{not_zero}
use Rattle.cbi_base.specs.declared.scalar.Scalar.{Scalar}
use Rattle.cbi_base.specs.declared.scalar.Scalar.TheVariants.{Null, Place, Undefined}
use Rattle.cbi_base.specs.Objects.{Objects, GivesNull, object_allocated, has_room, live_cells, new_undefined, place_or_null, cell_limit, object_limit}

room-none : (live cells made limit most : ℕ) → ((limit < live + cells) ⊎ (most ≤ made)) → (nat_le (live + cells) limit && nat_lt made most) ≡ false
room-none live cells made limit most h = grind (arith, nat_tests)

room-some : (live cells made limit most : ℕ) → live + cells ≤ limit → made < most → (nat_le (live + cells) limit && nat_lt made most) ≡ true
room-some live cells made limit most low few = grind (arith, nat_tests)

-- the answer by the two tests
by-tests : ℕ → Objects → Bool → Bool → Scalar × Objects
by-tests cells o none room = cond none (Null, o) (place_or_null o.made o (cond room (Some (new_undefined cells o)) None))

is-by-tests : (cells : ℕ) (o : Objects) → object_allocated cells o ≡ by-tests cells o (cells == 0) (has_room cells o)
unfolding object_allocated by-tests
is-by-tests cells o = rw (length-replicate cells Undefined) refl

null-by-tests : (cells : ℕ) (o : Objects) (none room : Bool) → ((none ≡ true) ⊎ (room ≡ false)) → by-tests cells o none room ≡ (Null, o)
unfolding by-tests
null-by-tests cells o true room h = refl
null-by-tests cells o false true (inl h) = cc
null-by-tests cells o false true (inr h) = cc
null-by-tests cells o false false h = refl

null-test : (cells : ℕ) (o : Objects) → GivesNull cells o → ((cells == 0) ≡ true) ⊎ (has_room cells o ≡ false)
null-test cells o (inl none) = inl (ap (λ n. n == 0) none)
null-test cells o (inr full) = inr (room-none (live_cells o) cells o.made cell_limit object_limit full)

pub allocated-null : (cells : ℕ) (o : Objects) → GivesNull cells o → object_allocated cells o ≡ (Null, o)
allocated-null cells o h = is-by-tests cells o ∙ null-by-tests cells o (cells == 0) (has_room cells o) (null-test cells o h)

room-test : (cells : ℕ) (o : Objects) → (GivesNull cells o → ⊥) → has_room cells o ≡ true
room-test cells o h =
    room-some (live_cells o) cells o.made cell_limit object_limit (below (live_cells o + cells) cell_limit (λ full. h (inr (inl full)))) (above o.made object_limit (λ most. h (inr (inr most))))
  where
    below : (a b : ℕ) → (b < a → ⊥) → a ≤ b
    below a b h = grind arith

    above : (a b : ℕ) → (b ≤ a → ⊥) → a < b
    above a b h = grind arith

pub allocated-new : (cells : ℕ) (o : Objects) → (GivesNull cells o → ⊥) → object_allocated cells o ≡ (Place o.made 0, new_undefined cells o)
unfolding by-tests
allocated-new cells o h =
    let none = not_zero cells (λ is. h (inl is)) in
    is-by-tests cells o ∙ ap (λ b. by-tests cells o b (has_room cells o)) none ∙ ap (λ b. by-tests cells o false b) (room-test cells o h)
