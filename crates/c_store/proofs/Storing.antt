-- A store at a place is a store in the map of live objects.
use Rattle.std.proofs.Common.{◌≡◌, ℕ, Bool, true, false, nat_lt, length, Option, Some, None, Result, Ok, Err, refl}
use Rattle.std.specs.Ordering.{nat_cmp}
use Rattle.std.specs.FinMap.{FinMap, get}
use Rattle.cbi_base.specs.declared.scalar.Scalar.{Scalar}
use Rattle.cbi_base.specs.declared.scalar.Scalar.TheVariants.{Place, Undefined}
use Rattle.cbi_base.specs.declared.trap.Trap.{Trap}
use Rattle.cbi_base.specs.Objects.{Object, Objects, ◌>>=◌, live_or, set_in, value_stored, is_text}
use Rattle.c_store.specs.Written.{stored_in, state_or_trap}

-- the same objects with another map of those that live
abbrev pub with_live : Objects → Result (FinMap nat_cmp Object) Trap → Result Objects Trap
with_live o (Ok m) = Ok (record o { live = m })
with_live o (Err t) = Err t

in_object : (number offset : ℕ) (value : Scalar) (o : Objects) (object : Object) (b t : Bool) → nat_lt offset (length object.cells) ≡ b →
    is_text object.class ≡ t →
    set_in number offset value o object ≡ with_live o (stored_in number offset value (Some object) o.live)
in_object number offset value o object false t within text = rw within refl
in_object number offset value o object true false within text = rw (within, text) refl
in_object number offset value o object true true within text = rw (within, text) refl

by_object : (number offset : ℕ) (value : Scalar) (o : Objects) (found : Option Object) →
    (live_or found >>= set_in number offset value o) ≡ with_live o (stored_in number offset value found o.live)
by_object number offset value o None = refl
by_object number offset value o (Some object) = in_object number offset value o object (nat_lt offset (length object.cells)) (is_text object.class) refl refl

pub stored_place : (number offset : ℕ) (value : Scalar) (o : Objects) → (value ≡ Undefined → ⊥) →
    value_stored (Place number offset) value o ≡ with_live o (stored_in number offset value (get o.live number) o.live)
unfolding value_stored
stored_place number offset Undefined o defined = absurd (defined refl)
stored_place number offset value o defined = by_object number offset value o (get o.live number)

pub lifted : {A : Type 0} (o : Objects) (r : Result A Trap) (m : FinMap nat_cmp Object) → with_live o (state_or_trap r m) ≡ state_or_trap r (record o { live = m })
lifted o (Ok done) m = refl
lifted o (Err t) m = refl
