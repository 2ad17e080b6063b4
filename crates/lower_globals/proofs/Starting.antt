-- Constants with which globals begin, one by one.
use Rattle.std.proofs.Common.{◌≡◌, ℕ, zero, suc, ◌<◌, List, [], ◌∷◌, length, get_or, sym, ap, ◌∙◌, subst, arith}
use Rattle.std.specs.Prelude.{map}
use Rattle.std.specs.List.{All}
use Rattle.std.proofs.Math.ListN.{get_or-map}
use Rattle.std.proofs.lemmas.List.{length-map}
use Rattle.c_syntax.specs.declared.expr.Expr.{Expr}
use Rattle.c_syntax.specs.Plain.{plain_expr, plain_exprs}
use Rattle.lower_globals.specs.Starts.{AreStarts, IsStart}

-- the constant at an index
pub start_at : (items : List Expr) (i : ℕ) (x : Expr) → AreStarts (plain_exprs items) → i < length items → x ≡ get_or items i x → IsStart (plain_expr x)
start_at [] i x all inside is = absurd (omega (arith, inside))
start_at (y ∷ items) zero x all inside is = subst (λ v. IsStart (plain_expr v)) (sym is) all.0
start_at (y ∷ items) (suc i) x all inside is = start_at items i x all.1 (omega (arith, inside)) is

-- what holds of all that a list is seen as holds of what the item at an index is seen as
pub seen_at : {A B : Type 0} (P : B → Type 0) (f : A → B) (xs : List A) (i : ℕ) (x : A) → All P (map f xs) → i < length xs → x ≡ get_or xs i x → P (f x)
seen_at P f xs i x all inside is = subst P (get_or-map f xs i x ∙ sym (ap f is)) (all i (f x) (omega (arith, inside, length-map xs f)))
