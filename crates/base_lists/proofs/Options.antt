-- Things that may be missing.
use Rattle.std.proofs.Common.{None, Option, Some, ap, false, is_some, refl, sym, ℕ, ◌∙◌, ◌≡◌}
use Rattle.std.proofs.lemmas.Bool.{false≢true}
use Rattle.std.proofs.lemmas.Option.{same_Some}
use Rattle.std.specs.Option.{option_map}

-- what is wrapped alike is alike
pub some_is : {A : Type 0} {x y : A} → Some x ≡ Some y → x ≡ y
some_is e = cc

-- what is there is one thing
pub one_some : {A : Type 0} (o : Option A) (x y : A) → o ≡ Some x → o ≡ Some y → x ≡ y
one_some o x y h k = same_Some x y (sym h ∙ k)

-- what is missing isn't something
pub none_some : {A : Type 0} {x : A} → None ≡ Some x → ⊥
none_some e = false≢true (ap is_some e)

-- nothing is missing and there
pub none_is_some : {A B : Type 0} (o : Option A) (x : A) → o ≡ None → o ≡ Some x → B
none_is_some o x n s = absurd (cc)

-- what doesn't test as there isn't
pub not_some : {A : Type 0} (o : Option A) → is_some o ≡ false → o ≡ None
not_some None h = refl
not_some (Some x) h = cc

-- what is none of all numbers isn't there
pub none_is : (o : Option ℕ) → ((x : ℕ) → o ≡ Some x → ⊥) → o ≡ None
none_is None h = refl
none_is (Some x) h = absurd (h x refl)

-- what is nothing is missing
pub answers_none : {A : Type 0} (o : Option A) → ((x : A) → o ≡ Some x → ⊥) → None ≡ o
answers_none None never = refl
answers_none (Some x) never = absurd (never x refl)

-- how a mapped thing came about
pub mapped : {A B P : Type 0} (f : A → B) (o : Option A) (y : B) → option_map f o ≡ Some y → ((x : A) → o ≡ Some x → f x ≡ y → P) → P
mapped f None y h k = absurd cc
mapped f (Some x) y h k = k x refl cc
