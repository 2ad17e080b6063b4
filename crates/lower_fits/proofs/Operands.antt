-- The pointers among the operands of an accepted text can be moved.
use Rattle.std.proofs.Common.{◌≡◌, ◌≤◌, ap, Some, None, true}
use Rattle.std.specs.Prelude.{Option, option_map}
use Rattle.std.proofs.lemmas.Option.{same_Some}
use Rattle.c_syntax.specs.Words.{ExprTree, SourceTree}
use Rattle.c_types_rules.specs.declared.operand.Operand.{Operand}
use Rattle.c_types_rules.specs.TypeTree as t
use Rattle.c_types_rules.specs.Words.{TypeTree, value_type, is_complete}
use Rattle.c_types_expressions.specs.declared.walk.Walk.{Walk}
use Rattle.c_types.specs.Answers.{type_at}
use Rattle.c_meaning.specs.Words.{is_null_constant, element_cells, token_of}
use Rattle.c_types_laws.specs.Fits.{is_lvalue, operand}
use Rattle.c_meaning_sound.specs.Accepted.{IsAcceptedTree}
use Rattle.lower_fits.proofs.NotesOfItems.{noted_moves}

-- an operand has the type that was noted at the expression's own token
operand_is : (x : ExprTree) (a : Operand) (o : Option TypeTree)
    → option_map (λ of. record { ctype = of; place = is_lvalue x; null = is_null_constant x }) o ≡ Some a → o ≡ Some a.ctype
operand_is x a None h = cc
operand_is x a (Some of) h =
    let same = same_Some (record { ctype = of; place = is_lvalue x; null = is_null_constant x }) a h in
    ap (λ (y : Operand). Some y.ctype) same

-- a value that is a pointer to an object can be moved
pub operand_moves : (tree : SourceTree) (z : Walk) → IsAcceptedTree tree z → (x : ExprTree) (a : Operand) (to : TypeTree) → operand z x ≡ Some a
    → value_type a ≡ t.Pointer to → is_complete z.structs to ≡ true → 1 ≤ element_cells z.structs to
operand_moves tree z a x y to h leads complete =
    noted_moves tree z a (token_of x) y.ctype to (operand_is x y (type_at z (token_of x)) h) leads complete
