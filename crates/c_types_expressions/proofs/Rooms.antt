-- An expression declares nothing, and leaves all the room that there was.
use Rattle.std.proofs.Common.{◌≡◌, ℕ, List, [], length, Result, Ok, Err, OnOk, refl, ◌∙◌, ap, subst, arith}
use Rattle.c_syntax.specs.ExprTree as e
use Rattle.c_syntax.specs.ExprTree.{ExprTree, ExprList}
use Rattle.c_types_rules.specs.declared.operand.Operand.{Operand}
use Rattle.c_types_expressions.specs.declared.walk.Stop.{Stop}
use Rattle.c_types_expressions.specs.declared.walk.Walk.{Walk}
use Rattle.c_types_expressions.specs.ExprWalk.{walk_expr, walk_exprs, walk_whole}
use Rattle.c_types_expressions.specs.Room.{HasRoomLeft, things_in}
use Rattle.c_types_expressions.specs.Walked.{Walked, IsWalked}
use Rattle.c_types_expressions.proofs.Kept.{IsKeptByExpressions, Keeps, by_notes}

-- how many things were declared, and how many of them are variables, globals and locals
abbrev pub Numbers : Type 0
Numbers = ℕ × ℕ × ℕ × ℕ

abbrev pub numbers_of : Walk → Numbers
numbers_of w = (things_in w, length w.variables, w.globals, w.locals)

-- the numbers stay, and so does the room
pub left_same : (w v : Walk) → numbers_of v ≡ numbers_of w → HasRoomLeft 0 0 w v
left_same w v h =
    let things : things_in v ≡ things_in w = ap (λ (q : Numbers). q.0) h in
    let variables : length v.variables ≡ length w.variables = ap (λ (q : Numbers). q.1) h in
    let globals : v.globals ≡ w.globals = ap (λ (q : Numbers). q.2) h in
    let locals : v.locals ≡ w.locals = ap (λ (q : Numbers). q.3) h in
    record { few = omega arith; globals = omega arith; locals = omega arith }

-- the numbers are the same
abbrev pub SameNumbers : Walk → Walk → Type 0
SameNumbers w v = numbers_of v ≡ numbers_of w

numbers_kept : IsKeptByExpressions SameNumbers
numbers_kept = by_notes SameNumbers (record {
  here = λ w. refl;
  next = λ w u v a b. b ∙ a;
  typed = λ token t w. refl;
  used = λ token index w. refl;
  called = λ token index w. refl;
  selected = λ token offset w. refl;
})

left_by : {A : Type 0} (r : Walked A) (x : Result A Stop) (w v : Walk) → Keeps SameNumbers w r → IsWalked r x v → OnOk x (HasRoomLeft 0 0 w v)
left_by r (Ok x) w v h is = left_same w v (subst (λ q. Keeps SameNumbers w q) is h)
left_by r (Err stop) w v h is = tt

pub expr_left : (x : ExprTree) (r : Result Operand Stop) (w v : Walk) → IsWalked (walk_expr x w) r v → OnOk r (HasRoomLeft 0 0 w v)
expr_left x r w v is = left_by (walk_expr x w) r w v (numbers_kept.expr x w) is

pub exprs_left : (xs : ExprList) (r : Result (List Operand) Stop) (w v : Walk) → IsWalked (walk_exprs xs [] w) r v → OnOk r (HasRoomLeft 0 0 w v)
exprs_left xs r w v is = left_by (walk_exprs xs [] w) r w v (numbers_kept.exprs xs [] w) is

-- a call that is the whole expression of a statement
pub call_left : (token : ℕ) (name : List ℕ) (arguments : ExprList) (r : Result Operand Stop) (w v : Walk)
    → IsWalked (walk_whole (e.Call token name arguments) w) r v → OnOk r (HasRoomLeft 0 0 w v)
call_left token name arguments r w v is =
    left_by (walk_whole (e.Call token name arguments) w) r w v (numbers_kept.whole (e.Call token name arguments) w) is
