-- An expression is one operand at most.
use Rattle.std.proofs.Common.{◌≡◌, ℕ, refl, ap, ap₂, subst, sym, ◌∙◌, List, [], ◌∷◌, Some, None, Ok, Bool, true, false}
use Rattle.std.specs.Prelude.{Option, Result}
use Rattle.base_lists.proofs.Options.{one_some}
use Rattle.cbi_base.specs.declared.operators.Binary.{Binary}
use Rattle.c_syntax.specs.declared.parts.Base.{Base}
use Rattle.c_syntax.specs.declared.parts.Base.TheVariants as base
use Rattle.c_syntax.specs.declared.expr.PrefixOperator.{PrefixOperator}
use Rattle.c_syntax.specs.declared.expr.PrefixOperator.TheVariants as prefix
use Rattle.c_syntax.specs.ExprTree as e
use Rattle.c_syntax.specs.ExprTree.{ExprTree, ExprList, LinkList, PostfixList}
use Rattle.c_types_rules.specs.declared.fault.FaultKind.{FaultKind}
use Rattle.c_types_rules.specs.declared.layout.Member.{Member}
use Rattle.c_types_rules.specs.declared.layout.StructType.{StructType}
use Rattle.c_types_rules.specs.declared.library.Library.{Library}
use Rattle.c_types_rules.specs.declared.library.Library.TheVariants as library
use Rattle.c_types_rules.specs.declared.operand.Operand.{Operand}
use Rattle.c_types_rules.specs.TypeTree as t
use Rattle.c_types_rules.specs.Words.{TypeTree, parenthesized_operand, place_of, value_of, value_type, OperandOrFault, typed_conditional, typed_subscript, member_of}
use Rattle.c_types_expressions.specs.ExprWalk.{binary_of, typed_chain_operation, compound_of, with_stars}
use Rattle.c_types_laws.specs.Operands.{Assigns, Chooses, Indexes, Joins, Prefixes, Selects, SelectsBehind}
use Rattle.c_types_faults.specs.Known.{Entity, Object, Function, Standard, Known}
use Rattle.c_types_faults.specs.Types.{IsBase}
use Rattle.c_types_faults.specs.Calls.{Calls, CallsStandard}
use Rattle.c_types_faults.specs.Operands.{AsPlace, AsPrefixed, AsValue, Sequence}
use Rattle.c_types_faults.specs.Exprs.{AreOperands, IsOperand, LinksGive, PostfixGives}
use Rattle.c_types_faults.proofs.Fitting.{chained_back, chosen_back, indexed_back}

abbrev made : TypeTree → Bool → Bool → Operand
made t p n = record { ctype = t; place = p; null = n }

abbrev IsOk : OperandOrFault → Operand → Type 0
IsOk r x = r ≡ Ok x

-- operands of one type, of which the rest is said
pub same_operand : (a b : Operand) (p : Bool) → a.ctype ≡ b.ctype → a.place ≡ p → a.null ≡ false → b.place ≡ p → b.null ≡ false → a ≡ b
same_operand a b p e f g h k =
    ap (λ u. made u a.place a.null) e ∙ ap (λ q. made b.ctype q a.null) (f ∙ sym h) ∙ ap (λ q. made b.ctype b.place q) (g ∙ sym k)

one_value : (r : OperandOrFault) (a b : TypeTree) → r ≡ Ok (value_of a) → r ≡ Ok (value_of b) → a ≡ b
one_value r a b h k = ap (λ (x : Operand). x.ctype) (same (value_of a) (value_of b) (sym h ∙ k))
  where
    same : (x y : Operand) → IsOk (Ok x) y → x ≡ y
    same x y h = cc

pub one_place : (r : OperandOrFault) (a b : TypeTree) → r ≡ Ok (place_of a) → r ≡ Ok (place_of b) → a ≡ b
one_place r a b h k = ap (λ (x : Operand). x.ctype) (same (place_of a) (place_of b) (sym h ∙ k))
  where
    same : (x y : Operand) → IsOk (Ok x) y → x ≡ y
    same x y h = cc

pub values_same : (P : TypeTree → Type 0) (r : OperandOrFault) (a b : Operand) → ((t : TypeTree) → P t → r ≡ Ok (value_of t)) → AsValue P a → AsValue P b → a ≡ b
values_same P r a b f h k = same_operand a b false (one_value r a.ctype b.ctype (f a.ctype h.0) (f b.ctype k.0)) h.1 h.2 k.1 k.2

assigns_one : (ss : List StructType) (o : Option Binary) (x y : Operand) (t : TypeTree) → Assigns ss o x y t → t ≡ value_type x
assigns_one ss None x y t h = h.2
assigns_one ss (Some o) x y t h = h.2

sequence_one : (before : TypeTree) (xs : List Operand) (a b : TypeTree) → Sequence before xs a → Sequence before xs b → a ≡ b
sequence_one before [] a b h k = h ∙ sym k
sequence_one before (x ∷ xs) a b h k = sequence_one (value_type x) xs a b h.1 k.1

standard_one : (f : Library) (xs : List Operand) (a b : TypeTree) → CallsStandard f xs a → CallsStandard f xs b → a ≡ b
standard_one library.Printf xs a b h k = absurd h
standard_one f xs a b h k = h.1 ∙ sym k.1

calls_one : (x : Option Entity) (xs : List Operand) (a b : TypeTree) → Calls x xs a → Calls x xs b → a ≡ b
calls_one None xs a b h k = absurd h
calls_one (Some (Object of)) xs a b h k = absurd h
calls_one (Some (Function f)) xs a b h k = h.1 ∙ sym k.1
calls_one (Some (Standard f)) xs a b h k = standard_one f xs a b h k

to_one : (a b : TypeTree) → t.Pointer a ≡ t.Pointer b → a ≡ b
to_one a b h = cc

prefix_one : (ss : List StructType) (o : PrefixOperator) (x : Operand) (a b : TypeTree) → Prefixes ss o x a → Prefixes ss o x b → a ≡ b
prefix_one ss prefix.Increment x a b h k = h.2 ∙ sym k.2
prefix_one ss prefix.Decrement x a b h k = h.2 ∙ sym k.2
prefix_one ss prefix.Indirection x a b h k = to_one a b (sym h.0 ∙ k.0)
prefix_one ss o x a b h k = h.1 ∙ sym k.1

abbrev IsMember : Result Member FaultKind → Member → Type 0
IsMember r m = r ≡ Ok m

one_member : (r : Result Member FaultKind) (m n : Member) → r ≡ Ok m → r ≡ Ok n → m ≡ n
one_member r m n h k = same m n (sym h ∙ k)
  where
    same : (x y : Member) → IsMember (Ok x) y → x ≡ y
    same x y h = cc

pub selects_one : (ss : List StructType) (name : List ℕ) (of a b : TypeTree) → Selects ss name of a → Selects ss name of b → a ≡ b
selects_one ss name of a b h k = h.1.1 ∙ ap (λ (m : Member). m.ctype) (one_member (member_of ss name of) h.0 k.0 h.1.0 k.1.0) ∙ sym k.1.1

pub behind_one : (ss : List StructType) (name : List ℕ) (of a b : TypeTree) → SelectsBehind ss name of a → SelectsBehind ss name of b → a ≡ b
behind_one ss name (t.Pointer to) a b h k = selects_one ss name to a b h k
behind_one ss name of a b h k = absurd h

object_one : (a b : TypeTree) → Object a ≡ Object b → a ≡ b
object_one a b h = cc

module _ (k : Known) where
  pub one_base : (b : Base) (x y : TypeTree) → IsBase k b x → IsBase k b y → x ≡ y
  one_base (base.Struct token tag) x y h g = h.1.1 ∙ ap t.Struct (one_some (k.tags tag) h.0 g.0 h.1.0 g.1.0) ∙ sym g.1.1
  one_base b x y h g = h ∙ sym g

  mutual
    pub one_operand : (x : ExprTree) (a b : Operand) → IsOperand k x a → IsOperand k x b → a ≡ b
    one_operand (e.Comma token operands) a b (xs, h) (ys, g) =
        let g' : AsValue (Sequence t.Void xs) b = subst (λ zs. AsValue (Sequence t.Void zs) b) (sym (one_list operands xs ys h.0 g.0)) g.1 in
        same_operand a b false (sequence_one t.Void xs a.ctype b.ctype h.1.0 g'.0) h.1.1 h.1.2 g'.1 g'.2
    one_operand (e.Assign token s target value) a b (x, (y, h)) (x2, (y2, g)) =
        same_operand a b false (assigns_one k.structs (compound_of s) x y a.ctype h.2.0 ∙ ap value_type (one_operand target x x2 h.0 g.0)
        ∙ sym (assigns_one k.structs (compound_of s) x2 y2 b.ctype g.2.0)) h.2.1 h.2.2 g.2.1 g.2.2
    one_operand (e.Conditional token condition first second) a b (c, (x, (y, h))) (c2, (x2, (y2, g))) =
        values_same (Chooses c x y) (typed_conditional c x y) a b (chosen_back c x y) h.3
        (subst (λ z. AsValue (Chooses z x y) b) (sym (one_operand condition c c2 h.0 g.0))
        (subst (λ z. AsValue (Chooses c2 z y) b) (sym (one_operand first x x2 h.1 g.1))
        (subst (λ z. AsValue (Chooses c2 x2 z) b) (sym (one_operand second y y2 h.2 g.2)) g.3)))
    one_operand (e.Chain level first links) a b (x, h) (y, g) =
        one_links links x a b h.1 (subst (λ z. LinksGive k z links b) (sym (one_operand first x y h.0 g.0)) g.1)
    one_operand (e.Cast token b stars operand) x y (of, (z, h)) (of2, (z2, g)) =
        same_operand x y false (h.2.0.1 ∙ ap (with_stars stars) (one_base b of of2 h.0 g.0) ∙ sym g.2.0.1) h.2.1 h.2.2 g.2.1 g.2.2
    one_operand (e.Prefix token o operand) a b (x, h) (y, g) =
        let g' : AsPrefixed k.structs o x b = subst (λ z. AsPrefixed k.structs o z b) (sym (one_operand operand x y h.0 g.0)) g.1 in
        same_operand a b _ (prefix_one k.structs o x a.ctype b.ctype h.1.0 g'.0) h.1.1 h.1.2 g'.1 g'.2
    one_operand (e.SizeOfType token b stars) x y (of, h) (of2, g) = same_operand x y false (h.1.0.1 ∙ sym g.1.0.1) h.1.1 h.1.2 g.1.1 g.1.2
    one_operand (e.Postfix primary operators) a b (x, h) (y, g) =
        one_postfix operators x a b h.1 (subst (λ z. PostfixGives k z operators b) (sym (one_operand primary x y h.0 g.0)) g.1)
    one_operand (e.Name token name) a b (of, h) (of2, g) =
        h.1 ∙ ap place_of (object_one of of2 (one_some (k.ordinary name) (Object of) (Object of2) h.0 g.0)) ∙ sym g.1
    one_operand (e.Call token name arguments) a b (xs, h) (ys, g) =
        let g' : AsValue (Calls (k.ordinary name) xs) b = subst (λ zs. AsValue (Calls (k.ordinary name) zs) b) (sym (one_list arguments xs ys h.0 g.0)) g.1 in
        same_operand a b false (calls_one (k.ordinary name) xs a.ctype b.ctype h.1.0 g'.0) h.1.1 h.1.2 g'.1 g'.2
    one_operand (e.Paren token inner) a b (x, h) (y, g) = h.1 ∙ ap parenthesized_operand (one_operand inner x y h.0 g.0) ∙ sym g.1
    one_operand x a b h g = h ∙ sym g

    pub one_list : (xs : ExprList) (us vs : List Operand) → AreOperands k xs us → AreOperands k xs vs → us ≡ vs
    one_list e.no_exprs [] [] h g = refl
    one_list e.no_exprs [] (b ∷ vs) h g = absurd g
    one_list e.no_exprs (a ∷ us) vs h g = absurd h
    one_list (e.more_exprs x rest) [] vs h g = absurd h
    one_list (e.more_exprs x rest) (a ∷ us) [] h g = absurd g
    one_list (e.more_exprs x rest) (a ∷ us) (b ∷ vs) h g = ap₂ (λ z zs. z ∷ zs) (one_operand x a b h.0 g.0) (one_list rest us vs h.1 g.1)

    pub one_links : (links : LinkList) (left a b : Operand) → LinksGive k left links a → LinksGive k left links b → a ≡ b
    one_links e.no_links left a b h g = h ∙ sym g
    one_links (e.more_links token s operand rest) left a b (y, (m, h)) (y2, (m2, g)) =
        let is : m ≡ m2 = values_same (Joins k.structs (binary_of s) left y) (typed_chain_operation k.structs (binary_of s) left y) m m2
        (chained_back k.structs (binary_of s) left y) h.1
        (subst (λ z. AsValue (Joins k.structs (binary_of s) left z) m2) (sym (one_operand operand y y2 h.0 g.0)) g.1) in
        one_links rest m a b h.2 (subst (λ z. LinksGive k z rest b) (sym is) g.2)

    pub one_postfix : (operators : PostfixList) (left a b : Operand) → PostfixGives k left operators a → PostfixGives k left operators b → a ≡ b
    one_postfix e.no_postfix left a b h g = h ∙ sym g
    one_postfix (e.index token x rest) left a b (y, (m, h)) (y2, (m2, g)) =
        let g' : AsPlace (Indexes k.structs left y) m2 = subst (λ z. AsPlace (Indexes k.structs left z) m2) (sym (one_operand x y y2 h.0 g.0)) g.1 in
        let is : m ≡ m2 = same_operand m m2 true (one_place (typed_subscript k.structs left y) m.ctype m2.ctype (indexed_back k.structs left y m.ctype h.1.0)
        (indexed_back k.structs left y m2.ctype g'.0)) h.1.1 h.1.2 g'.1 g'.2 in
        one_postfix rest m a b h.2 (subst (λ z. PostfixGives k z rest b) (sym is) g.2)
    one_postfix (e.member token name rest) left a b (m, h) (m2, g) =
        let is : m ≡ m2 = same_operand m m2 left.place (selects_one k.structs name left.ctype m.ctype m2.ctype h.0.0 g.0.0) h.0.1 h.0.2 g.0.1 g.0.2 in
        one_postfix rest m a b h.1 (subst (λ z. PostfixGives k z rest b) (sym is) g.1)
    one_postfix (e.arrow token name rest) left a b (m, h) (m2, g) =
        let is : m ≡ m2 = same_operand m m2 true (behind_one k.structs name (value_type left) m.ctype m2.ctype h.0.0 g.0.0) h.0.1 h.0.2 g.0.1 g.0.2 in
        one_postfix rest m a b h.1 (subst (λ z. PostfixGives k z rest b) (sym is) g.1)
    one_postfix (e.increment token rest) left a b (m, h) (m2, g) =
        let is : m ≡ m2 = same_operand m m2 false (h.0.0.2 ∙ sym g.0.0.2) h.0.1 h.0.2 g.0.1 g.0.2 in
        one_postfix rest m a b h.1 (subst (λ z. PostfixGives k z rest b) (sym is) g.1)
    one_postfix (e.decrement token rest) left a b (m, h) (m2, g) =
        let is : m ≡ m2 = same_operand m m2 false (h.0.0.2 ∙ sym g.0.0.2) h.0.1 h.0.2 g.0.1 g.0.2 in
        one_postfix rest m a b h.1 (subst (λ z. PostfixGives k z rest b) (sym is) g.1)
