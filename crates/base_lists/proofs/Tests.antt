-- Tests: what `&&`, `||`, `not` and a choice come to.
use Rattle.std.proofs.Common.{Bool, IsTrue, None, Option, Some, arith, cond, false, inl, inr, not, refl, subst, sym, true, ◌&&◌, ◌||◌, ◌≡◌, ◌≤◌, ◌⊎◌}
use Rattle.std.proofs.lemmas.Bool.{false≢true}

-- both are true, so the first is
pub and_first : (a b : Bool) → (a && b) ≡ true → a ≡ true
and_first true b h = refl
and_first false b h = h

-- and so is the second
pub and_second : (a b : Bool) → (a && b) ≡ true → b ≡ true
and_second true b h = h
and_second false b h = cc

-- beside what is true
pub left_false : (a : Bool) → (a && true) ≡ false → a ≡ false
left_false true h = h
left_false false h = refl

-- nothing is true together with what is false
pub and_false : (b : Bool) → (b && false) ≡ false
and_false true = refl
and_false false = refl

-- three are true, so each is
pub three_and : (a b c : Bool) → (a && b && c) ≡ true → (a ≡ true) × (b ≡ true) × (c ≡ true)
three_and true true c h = (refl, refl, h)
three_and true false c h = absurd (false≢true h)
three_and false b c h = absurd (false≢true h)

-- neither is true, so the first isn't
pub or_first_false : (a b : Bool) → (a || b) ≡ false → a ≡ false
or_first_false true b h = h
or_first_false false b h = refl

-- nor is the second
pub or_second_false : (a b : Bool) → (a || b) ≡ false → b ≡ false
or_second_false true b h = cc
or_second_false false b h = h

-- or else what is false
pub or_false : (b : Bool) → b || false ≡ b
or_false true = refl
or_false false = refl

-- or else what is true
pub or_true : (b : Bool) → b || true ≡ true
or_true true = refl
or_true false = refl

-- one of three is true
pub three_or : (a b c : Bool) → (a || b || c) ≡ true → (a ≡ true) ⊎ ((b ≡ true) ⊎ (c ≡ true))
three_or true b c h = inl refl
three_or false true c h = inr (inl refl)
three_or false false c h = inr (inr h)

-- none of three is true, so each isn't
pub three_or_false : (a b c : Bool) → (a || b || c) ≡ false → (a ≡ false) × (b ≡ false) × (c ≡ false)
three_or_false true b c h = absurd (false≢true (sym h))
three_or_false false true c h = absurd (false≢true (sym h))
three_or_false false false c h = (refl, refl, h)

-- nothing is true and false
pub not_itself : (b : Bool) → not b ≡ true → b ≡ true → ⊥
not_itself true h e = false≢true h
not_itself false h e = false≢true e

-- two tests that follow from each other are one
pub same_tests : (a b : Bool) → (a ≡ true → b ≡ true) → (b ≡ true → a ≡ true) → a ≡ b
same_tests true b f g = sym (f refl)
same_tests false true f g = g refl
same_tests false false f g = refl

-- the same, of tests as propositions: both are true, so the first is
pub true_first : (a b : Bool) → IsTrue (a && b) → IsTrue a
true_first a b h = grind arith

-- and so is the second
pub true_second : (a b : Bool) → IsTrue (a && b) → IsTrue b
true_second a b h = grind arith

-- each of the two is
pub true_both : (a b : Bool) → IsTrue (a && b) → IsTrue a × IsTrue b
true_both a b p = grind arith

-- where each is true, both are
pub both_true : (a b : Bool) → IsTrue a → IsTrue b → IsTrue (a && b)
both_true a b p q = grind arith

-- what is not chosen, or else nothing
pub no_choice : {A : Type 0} (b : Bool) (x : A) (o : Option A) → b ≡ false → o ≡ None → cond b (Some x) o ≡ None
no_choice true x o is none = cc
no_choice false x o is none = none

-- how a choice came about
pub cond_cases_of : {A : Type 0} (b : Bool) (x y z : A) → cond b x y ≡ z → ((b ≡ true) × (x ≡ z)) ⊎ ((b ≡ false) × (y ≡ z))
cond_cases_of true x y z h = inl (refl, h)
cond_cases_of false x y z h = inr (refl, h)

-- how a choice came to something
pub some_choice : {A P : Type 0} (b : Bool) (x y : Option A) (z : A) → cond b x y ≡ Some z → (b ≡ true → x ≡ Some z → P) → (b ≡ false → y ≡ Some z → P) → P
some_choice true x y z h then otherwise = then refl h
some_choice false x y z h then otherwise = otherwise refl h

-- a test that follows from another counts at least as much
pub test_rises : (a b : Bool) → (a ≡ true → b ≡ true) → cond a 1 0 ≤ cond b 1 0
test_rises true b h = subst (λ (x : Bool). 1 ≤ cond x 1 0) (sym (h refl)) (omega arith)
test_rises false b h = omega arith
