-- What making an object answers.
use Rattle.std.specs.Prelude.{◌≡◌, ℕ, zero, suc, ◌-◌, List, [], ◌∷◌, replicate, Option, None, Some}
use Rattle.std.specs.FinMap.{remove}
use Rattle.cbi_base.specs.declared.scalar.Scalar.{Scalar}
use Rattle.cbi_base.specs.declared.scalar.Scalar.TheVariants.{Undefined}
use Rattle.cbi_base.specs.Objects.{Objects}
use Rattle.c_store.specs.declared.objects.Made.{Made}
use Rattle.c_store.specs.declared.objects.Made.TheVariants as made

-- Where there is room the object, or the first one of several, has the next number. Where there is none, all is as before.
abbrev pub IsMade : Option Objects → Objects → Objects → Made → Type 0
IsMade (Some next) old new (made.Object number) = (number ≡ old.made) × (new ≡ next)
IsMade None old new made.Full = new ≡ old
IsMade room old new answer = ⊥

abbrev pub IsObject : Made → Type 0
IsObject (made.Object number) = Unit {0}
IsObject made.Full = ⊥

-- the cells of a variable at the start, with the first of the arguments where there is one
abbrev pub cells_at_start : List Scalar → ℕ → List Scalar
cells_at_start [] size = replicate size Undefined
cells_at_start (argument ∷ arguments) size = argument ∷ replicate (size - 1) Undefined

-- without the object that was made last
abbrev pub last_object_undone : Objects → Objects
last_object_undone o = record { made = o.made - 1; live = remove o.live (o.made - 1) }

abbrev pub all_undone : ℕ → Objects → Objects
all_undone zero o = o
all_undone (suc count) o = all_undone count (last_object_undone o)
