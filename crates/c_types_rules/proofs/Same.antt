-- The test of types is equality.
use Rattle.std.proofs.Common.{◌≡◌, true, true≢false, nat_eq, refl, sym, ap, ap₂}
use Rattle.std.proofs.lemmas.Bool.{and_parts, eqb-true, eq-eqb, and_from}
use Rattle.c_types_rules.specs.TypeTree.{TypeTree, Void, Char, Int, Unsigned, Pointer, Array, Struct, same_type}

pub equal : (a b : TypeTree) → same_type a b ≡ true → a ≡ b
equal Void Void is = refl
equal Char Char is = refl
equal Int Int is = refl
equal Unsigned Unsigned is = refl
equal (Pointer a) (Pointer b) is = ap Pointer (equal a b is)
equal (Array a m) (Array b n) is =
    let parts = and_parts (nat_eq m n) (same_type a b) is in
    ap₂ Array (equal a b parts.1) (eqb-true m n parts.0)
equal (Struct k) (Struct l) is = ap Struct (eqb-true k l is)
equal a b is = absurd (true≢false (sym is))

pub same_self : (t : TypeTree) → same_type t t ≡ true
same_self (Pointer to) = same_self to
same_self (Array element n) = and_from (nat_eq n n) (same_type element element) (eq-eqb n n refl) (same_self element)
same_self (Struct tag) = eq-eqb tag tag refl
same_self t = refl
