-- Objects of a function's variables, made and killed one after another.
use Rattle.std.proofs.Common.{◌≡◌, ℕ, zero, suc, ◌+◌, List, [], ◌∷◌, drop, Option, Some, None, refl, ap, sym, ◌∙◌}
use Rattle.std.specs.Option.{option_and_then}
use Rattle.cbi_base.specs.declared.scalar.Class.TheVariants.{Local}
use Rattle.cbi_base.specs.declared.scalar.Scalar.{Scalar}
use Rattle.cbi_base.specs.Words.{Objects, made_with, object_killed, first_cells, all_made, all_killed}
use Rattle.c_store.specs.declared.objects.Made.TheVariants as made
use Rattle.c_store.specs.Made.{IsMade, cells_at_start}
use Rattle.c_store.proofs.Sums.{remove-remove}

pub first_cells-cons : (arguments : List Scalar) (size : ℕ) (sizes : List ℕ) →
    first_cells arguments (size ∷ sizes) ≡ cells_at_start arguments size ∷ first_cells (drop 1 arguments) sizes
first_cells-cons [] size sizes = refl
first_cells-cons (a ∷ arguments) size sizes = refl

on_made : (cells : List (List Scalar)) (room : Option Objects) (o p : Objects) (n : ℕ) → IsMade room o p (made.Object n) →
    option_and_then (all_made cells) room ≡ all_made cells p
on_made cells None o p n never = absurd never
on_made cells (Some next) o p n is = ap (all_made cells) (sym is.1)

-- after one more object, the rest is to be made
pub one_made : (arguments : List Scalar) (size : ℕ) (sizes : List ℕ) (o p : Objects) (n : ℕ) →
    IsMade (made_with Local (cells_at_start arguments size) o) o p (made.Object n) →
    all_made (first_cells arguments (size ∷ sizes)) o ≡ all_made (first_cells (drop 1 arguments) sizes) p
one_made arguments size sizes o p n is =
    ap (λ cells. all_made cells o) (first_cells-cons arguments size sizes)
    ∙ on_made (first_cells (drop 1 arguments) sizes) (made_with Local (cells_at_start arguments size) o) o p n is

on_full : (cells : List (List Scalar)) (room : Option Objects) (o p : Objects) → IsMade room o p made.Full → option_and_then (all_made cells) room ≡ None
on_full cells None o p is = refl
on_full cells (Some next) o p never = absurd never

pub none_made : (arguments : List Scalar) (size : ℕ) (sizes : List ℕ) (o p : Objects) →
    IsMade (made_with Local (cells_at_start arguments size) o) o p made.Full →
    all_made (first_cells arguments (size ∷ sizes)) o ≡ None
none_made arguments size sizes o p is =
    ap (λ cells. all_made cells o) (first_cells-cons arguments size sizes)
    ∙ on_full (first_cells (drop 1 arguments) sizes) (made_with Local (cells_at_start arguments size) o) o p is

killed_swap : (o : Objects) (j k : ℕ) → object_killed k (object_killed j o) ≡ object_killed j (object_killed k o)
killed_swap o j k = ap (λ l. let p : Objects = record { made = o.made; live = l } in p) (remove-remove o.live j k)

killed_within : (first count k : ℕ) (o : Objects) → object_killed k (all_killed first count o) ≡ all_killed first count (object_killed k o)
killed_within first zero k o = refl
killed_within first (suc count) k o = killed_swap (all_killed first count o) (first + count) k ∙ ap (object_killed (first + count)) (killed_within first count k o)

-- the last one may be killed first
pub all_killed-last : (first count : ℕ) (o : Objects) → all_killed first (suc count) o ≡ all_killed first count (object_killed (first + count) o)
all_killed-last first count o = killed_within first count (first + count) o
