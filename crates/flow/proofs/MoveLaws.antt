-- A pointer that is moved and moved back.
use Rattle.std.proofs.Common.{◌≡◌, ℕ, ◌≤◌, Bool, true, false, ◌&&◌, cond, nat_le, Option, Some, None, Ok, Err, length, ℤ, pos, negsuc, neg_ℤ, ◌+ℤ◌, refl, ap, ◌∙◌, arith}
use Rattle.std.specs.FinMap.{get}
use Rattle.std.proofs.lemmas.Bool.Decides.{nat_tests}
use Rattle.std.proofs.lemmas.Int.{ints}
use Rattle.cbi_base.specs.declared.scalar.Scalar.{Scalar}
use Rattle.cbi_base.specs.declared.scalar.Scalar.TheVariants.{Place}
use Rattle.cbi_base.specs.declared.trap.Trap.TheVariants as trap
use Rattle.cbi_base.specs.Objects.{Object, Objects, live_or, ◌>>=◌, moved_pointer, moved_in}

-- what a move answers lies within the object
in_object : (number n most : ℕ) (there : Scalar) (t : Bool) → (nat_le 0 n && nat_le n most) ≡ t → cond t (Ok (Place number n)) (Err trap.Bounds) ≡ Ok there →
    (n ≤ most) × (there ≡ Place number n)
in_object number n most there true e h = (grind (arith, nat_tests), cc)
in_object number n most there false e h = cc

reached : (number : ℕ) (to : ℤ) (object : Object) (there : Scalar) → moved_in number to object ≡ Ok there →
    (n : ℕ) × (to ≡ pos n) × (n ≤ length object.cells) × (there ≡ Place number n)
reached number (pos n) object there e =
    let h = in_object number n (length object.cells) there (nat_le 0 n && nat_le n (length object.cells)) refl e in (n, refl, h.0, h.1)
reached number (negsuc n) object there e = cc

-- a place within the object is reached
reaches : (number n : ℕ) (object : Object) → n ≤ length object.cells → moved_in number (pos n) object ≡ Ok (Place number n)
reaches number n object l =
    let t : (nat_le 0 n && nat_le n (length object.cells)) ≡ true = grind (arith, nat_tests) in
    ap (λ (b : Bool). cond b (Ok (Place number n)) (Err trap.Bounds)) t

-- by whether the object lives
back_in : (number offset : ℕ) (cells : ℤ) (found : Option Object) (there : Scalar) →
    (live_or found >>= λ object. moved_in number (pos offset +ℤ pos 0) object) ≡ Ok (Place number offset) →
    (live_or found >>= λ object. moved_in number (pos offset +ℤ cells) object) ≡ Ok there →
    (n : ℕ) × (there ≡ Place number n) × ((live_or found >>= λ object. moved_in number (pos n +ℤ neg_ℤ cells) object) ≡ Ok (Place number offset))
back_in number offset cells None there here h = cc
back_in number offset cells (Some object) there here h =
    let a = reached number (pos offset +ℤ pos 0) object (Place number offset) here in
    let b = reached number (pos offset +ℤ cells) object there h in
    let within : offset ≤ length object.cells = omega (arith, ints, a.1, a.2) in
    let back : pos b.0 +ℤ neg_ℤ cells ≡ pos offset = omega (arith, ints, b.1) in
    (b.0, b.3, ap (λ (z : ℤ). moved_in number z object) back ∙ reaches number offset object within)

pub back : (pointer there : Scalar) (cells : ℤ) (o : Objects) → moved_pointer pointer (pos 0) o ≡ Ok pointer → moved_pointer pointer cells o ≡ Ok there →
    moved_pointer there (neg_ℤ cells) o ≡ Ok pointer
unfolding moved_pointer
back (Place number offset) there cells o here h =
    let b = back_in number offset cells (get o.live number) there here h in
    ap (λ (p : Scalar). moved_pointer p (neg_ℤ cells) o) b.1 ∙ b.2
back pointer there cells o here h = cc
