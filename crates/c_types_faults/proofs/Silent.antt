-- An expression that is an operand breaks no rule.
use Rattle.std.proofs.Common.{inl, inr, ◌≡◌, ℕ, refl, subst, sym, ◌∙◌, List, [], ◌∷◌, Some, None, Ok, true, false}
use Rattle.base_lists.proofs.Options.{none_is_some}
use Rattle.std.proofs.lemmas.Bool.{false≢true}
use Rattle.std.specs.Prelude.{Option}
use Rattle.cbi_base.specs.declared.operators.Binary.{Binary}
use Rattle.c_syntax.specs.declared.parts.Base.{Base}
use Rattle.c_syntax.specs.declared.parts.Base.TheVariants as base
use Rattle.c_syntax.specs.declared.expr.PrefixOperator.{PrefixOperator}
use Rattle.c_syntax.specs.declared.expr.PrefixOperator.TheVariants as prefix
use Rattle.c_syntax.specs.ExprTree as e
use Rattle.c_syntax.specs.ExprTree.{ExprTree, ExprList, LinkList, PostfixList}
use Rattle.c_types_rules.specs.declared.fault.FaultKind.{FaultKind}
use Rattle.c_types_rules.specs.declared.layout.Member.{Member}
use Rattle.c_types_rules.specs.declared.layout.StructType.{StructType}
use Rattle.c_types_rules.specs.declared.operand.Operand.{Operand}
use Rattle.c_types_rules.specs.TypeTree as t
use Rattle.c_types_rules.specs.Words.{TypeTree, is_struct, value_type, typed_subscript, member_of, is_complete}
use Rattle.c_types_expressions.specs.ExprWalk.{binary_of, typed_chain_operation, compound_of, with_stars}
use Rattle.c_types_laws.specs.Operands.{Assigns, Casts, Chooses, Indexes, Joins, Prefixes, Selects, SelectsBehind, Steps}
use Rattle.c_types_faults.specs.Known.{Entity, Object, Function, Standard, Known}
use Rattle.c_types_faults.specs.Types.{BaseBreaks, IsBase}
use Rattle.c_types_faults.specs.Calls.{Calls}
use Rattle.c_types_faults.specs.Operands.{AsPlace, AsValue, Sequence}
use Rattle.c_types_faults.specs.Exprs.{AreOperands, IsOperand, LinksGive, PostfixGives}
use Rattle.c_types_faults.specs.ExprRules.{ArrowBreaks, AssignBreaks, CallBreaks, HasStruct, MemberBreaks, NameBreaks, PrefixBreaks, StepBreaks}
use Rattle.c_types_faults.specs.ExprBreaks.{Breaks, LinksBreak, ListBreaks, PostfixBreaks}
use Rattle.c_types_faults.proofs.Fitting.{chained_back, indexed_back}
use Rattle.c_types_faults.proofs.Single.{one_base, one_list, one_operand, one_place, same_operand, selects_one, behind_one, values_same}

sequence_silent : (before : TypeTree) (xs : List Operand) (of : TypeTree) → Sequence before xs of → HasStruct xs → ⊥
sequence_silent before [] of h b = b
sequence_silent before (x ∷ xs) of h (inl b) = false≢true (sym h.0 ∙ b)
sequence_silent before (x ∷ xs) of h (inr b) = sequence_silent (value_type x) xs of h.1 b

assign_silent : (ss : List StructType) (o : Option Binary) (x y : Operand) (of : TypeTree) (j : FaultKind) → Assigns ss o x y of → AssignBreaks ss o x y j → ⊥
assign_silent ss None x y of j h (inl b, least) = b.1 h.1
assign_silent ss None x y of j h (inr b, least) = b.1 h.0
assign_silent ss (Some o) x y of j h (inl b, least) = b.1 h.1
assign_silent ss (Some o) x y of j h (inr b, least) = b.1 h.0

pub step_silent : (ss : List StructType) (x : Operand) (of : TypeTree) (j : FaultKind) → Steps ss x of → StepBreaks ss x j → ⊥
step_silent ss x of j h (inl b, least) = b.1 h.1
step_silent ss x of j h (inr b, least) = b.1 h.0

prefix_silent : (ss : List StructType) (o : PrefixOperator) (x : Operand) (of : TypeTree) (j : FaultKind) → Prefixes ss o x of → PrefixBreaks ss o x j → ⊥
prefix_silent ss prefix.Increment x of j h b = step_silent ss x of j h b
prefix_silent ss prefix.Decrement x of j h b = step_silent ss x of j h b
prefix_silent ss prefix.Address x of j h b = b.1 h.0
prefix_silent ss o x of j h b = b.1 of h

selects_struct : (ss : List StructType) (name : List ℕ) (of u : TypeTree) → Selects ss name of u → is_struct of ≡ true
selects_struct ss name (t.Struct tag) u h = refl
selects_struct ss name t.Void u h = absurd (no_member h.0 h.1.0)
  where
    no_member : (m : Member) → member_of ss name t.Void ≡ Ok m → ⊥
    no_member m h = absurd (cc)
selects_struct ss name t.Char u h = absurd (no_member h.0 h.1.0)
  where
    no_member : (m : Member) → member_of ss name t.Char ≡ Ok m → ⊥
    no_member m h = absurd (cc)
selects_struct ss name t.Int u h = absurd (no_member h.0 h.1.0)
  where
    no_member : (m : Member) → member_of ss name t.Int ≡ Ok m → ⊥
    no_member m h = absurd (cc)
selects_struct ss name t.Unsigned u h = absurd (no_member h.0 h.1.0)
  where
    no_member : (m : Member) → member_of ss name t.Unsigned ≡ Ok m → ⊥
    no_member m h = absurd (cc)
selects_struct ss name (t.Pointer to) u h = absurd (no_member h.0 h.1.0)
  where
    no_member : (m : Member) → member_of ss name (t.Pointer to) ≡ Ok m → ⊥
    no_member m h = absurd (cc)
selects_struct ss name (t.Array element size) u h = absurd (no_member h.0 h.1.0)
  where
    no_member : (m : Member) → member_of ss name (t.Array element size) ≡ Ok m → ⊥
    no_member m h = absurd (cc)

pub member_silent : (ss : List StructType) (name : List ℕ) (of u : TypeTree) (j : FaultKind) → Selects ss name of u → MemberBreaks ss name of j → ⊥
member_silent ss name of u j h (inl b) = b.1 (selects_struct ss name of u h)
member_silent ss name of u j h (inr b) = b.2 u h

pub arrow_silent : (ss : List StructType) (name : List ℕ) (of u : TypeTree) (j : FaultKind) → SelectsBehind ss name of u → ArrowBreaks ss name of j → ⊥
arrow_silent ss name (t.Pointer to) u j h b = member_silent ss name to u j h b
arrow_silent ss name of u j h b = h

pub call_silent : (x : Option Entity) (xs : List Operand) (of : TypeTree) (j : FaultKind) → Calls x xs of → CallBreaks x xs j → ⊥
call_silent None xs of j h b = h
call_silent (Some (Object u)) xs of j h b = h
call_silent (Some (Function f)) xs of j h b = b.1 of h
call_silent (Some (Standard f)) xs of j h b = b.1 of h

module _ (k : Known) where
  pub base_silent : (b : Base) (of : TypeTree) (j : FaultKind) (at : ℕ) → IsBase k b of → BaseBreaks k b j at → ⊥
  base_silent (base.Struct token tag) of j at h b = none_is_some (k.tags tag) h.0 b.2 h.1.0
  base_silent other of j at h b = b

  mutual
    pub expr_silent : (x : ExprTree) (d : Operand) (j : FaultKind) (at : ℕ) → IsOperand k x d → Breaks k x j at → ⊥
    expr_silent (e.Comma token operands) d j at (xs, h) (inl b) = list_silent operands xs j at h.0 b
    expr_silent (e.Comma token operands) d j at (xs, h) (inr (ys, b)) =
        sequence_silent t.Void xs d.ctype h.1.0 (subst HasStruct (one_list k operands ys xs b.0 h.0) b.1.2)
    expr_silent (e.Assign token s target value) d j at (x, (y, h)) (inl b) = expr_silent target x j at h.0 b
    expr_silent (e.Assign token s target value) d j at (x, (y, h)) (inr (x2, (g, inl b))) = expr_silent value y j at h.1 b
    expr_silent (e.Assign token s target value) d j at (x, (y, h)) (inr (x2, (g, inr (y2, b)))) =
        assign_silent k.structs (compound_of s) x y d.ctype j h.2.0
        (subst (λ z. AssignBreaks k.structs (compound_of s) z y j) (one_operand k target x2 x g h.0)
        (subst (λ z. AssignBreaks k.structs (compound_of s) x2 z j) (one_operand k value y2 y b.0 h.1) b.1.1))
    expr_silent (e.Conditional token condition first second) d j at (c, (x, (y, h))) (inl b) = expr_silent condition c j at h.0 b
    expr_silent (e.Conditional token condition first second) d j at (c, (x, (y, h))) (inr (c2, (g, inl b))) = expr_silent first x j at h.1 b
    expr_silent (e.Conditional token condition first second) d j at (c, (x, (y, h))) (inr (c2, (g, inr (x2, (f, inl b))))) = expr_silent second y j at h.2 b
    expr_silent (e.Conditional token condition first second) d j at (c, (x, (y, h))) (inr (c2, (g, inr (x2, (f, inr (y2, b)))))) =
        b.1.1.1 d.ctype
        (subst (λ z. Chooses z x2 y2 d.ctype) (one_operand k condition c c2 h.0 g)
        (subst (λ z. Chooses c z y2 d.ctype) (one_operand k first x x2 h.1 f)
        (subst (λ z. Chooses c x z d.ctype) (one_operand k second y y2 h.2 b.0) h.3.0)))
    expr_silent (e.Chain level first links) d j at (x, h) (inl b) = expr_silent first x j at h.0 b
    expr_silent (e.Chain level first links) d j at (x, h) (inr (y, b)) =
        links_silent links x d j at h.1 (subst (λ z. LinksBreak k z links j at) (one_operand k first y x b.0 h.0) b.1)
    expr_silent (e.Cast token b stars operand) d j at (of, (x, h)) (inl c) = base_silent b of j at h.0 c
    expr_silent (e.Cast token b stars operand) d j at (of, (x, h)) (inr (of2, (g, inl c))) = expr_silent operand x j at h.1 c
    expr_silent (e.Cast token b stars operand) d j at (of, (x, h)) (inr (of2, (g, inr (x2, c)))) =
        c.1.1.1 d.ctype
        (subst (λ z. Casts (with_stars stars z) x2 d.ctype) (one_base k b of of2 h.0 g)
        (subst (λ z. Casts (with_stars stars of) z d.ctype) (one_operand k operand x x2 h.1 c.0) h.2.0))
    expr_silent (e.Prefix token o operand) d j at (x, h) (inl b) = expr_silent operand x j at h.0 b
    expr_silent (e.Prefix token o operand) d j at (x, h) (inr (y, b)) =
        prefix_silent k.structs o x d.ctype j h.1.0 (subst (λ z. PrefixBreaks k.structs o z j) (one_operand k operand y x b.0 h.0) b.1.1)
    expr_silent (e.SizeOfType token b stars) d j at (of, h) (inl c) = base_silent b of j at h.0 c
    expr_silent (e.SizeOfType token b stars) d j at (of, h) (inr (of2, c)) =
        c.1.2 (subst (λ z. is_complete k.structs (with_stars stars z) ≡ true) (one_base k b of of2 h.0 c.0) h.1.0.0)
    expr_silent (e.Postfix primary operators) d j at (x, h) (inl b) = expr_silent primary x j at h.0 b
    expr_silent (e.Postfix primary operators) d j at (x, h) (inr (y, b)) =
        postfix_silent operators x d j at h.1 (subst (λ z. PostfixBreaks k z operators j at) (one_operand k primary y x b.0 h.0) b.1)
    expr_silent (e.Name token name) d j at (of, h) b = subst (λ o. NameBreaks o j) h.0 b.1
    expr_silent (e.Call token name arguments) d j at (xs, h) (inl b) = list_silent arguments xs j at h.0 b
    expr_silent (e.Call token name arguments) d j at (xs, h) (inr (ys, b)) =
        call_silent (k.ordinary name) xs d.ctype j h.1.0 (subst (λ z. CallBreaks (k.ordinary name) z j) (one_list k arguments ys xs b.0 h.0) b.1.1)
    expr_silent (e.Paren token inner) d j at (x, h) b = expr_silent inner x j at h.0 b
    expr_silent x d j at h b = b

    pub list_silent : (xs : ExprList) (ds : List Operand) (j : FaultKind) (at : ℕ) → AreOperands k xs ds → ListBreaks k xs j at → ⊥
    list_silent e.no_exprs ds j at h b = b
    list_silent (e.more_exprs x rest) [] j at h b = h
    list_silent (e.more_exprs x rest) (d ∷ ds) j at h (inl b) = expr_silent x d j at h.0 b
    list_silent (e.more_exprs x rest) (d ∷ ds) j at h (inr (y, b)) = list_silent rest ds j at h.1 b.1

    pub links_silent : (links : LinkList) (left d : Operand) (j : FaultKind) (at : ℕ) → LinksGive k left links d → LinksBreak k left links j at → ⊥
    links_silent e.no_links left d j at h b = b
    links_silent (e.more_links token s operand rest) left d j at (y, (m, h)) (inl b) = expr_silent operand y j at h.0 b
    links_silent (e.more_links token s operand rest) left d j at (y, (m, h)) (inr (y2, (g, inl b))) =
        b.1.1 m.ctype (subst (λ z. Joins k.structs (binary_of s) left z m.ctype) (one_operand k operand y y2 h.0 g) h.1.0)
    links_silent (e.more_links token s operand rest) left d j at (y, (m, h)) (inr (y2, (g, inr (m2, b)))) =
        let is : m2 ≡ m = values_same (Joins k.structs (binary_of s) left y2) (typed_chain_operation k.structs (binary_of s) left y2) m2 m
        (chained_back k.structs (binary_of s) left y2) b.0
        (subst (λ z. AsValue (Joins k.structs (binary_of s) left z) m) (one_operand k operand y y2 h.0 g) h.1) in
        links_silent rest m d j at h.2 (subst (λ z. LinksBreak k z rest j at) is b.1)

    pub postfix_silent : (operators : PostfixList) (left d : Operand) (j : FaultKind) (at : ℕ) → PostfixGives k left operators d
        → PostfixBreaks k left operators j at → ⊥
    postfix_silent e.no_postfix left d j at h b = b
    postfix_silent (e.index token x rest) left d j at (y, (m, h)) (inl b) = expr_silent x y j at h.0 b
    postfix_silent (e.index token x rest) left d j at (y, (m, h)) (inr (y2, (g, inl b))) =
        b.1.1 m.ctype (subst (λ z. Indexes k.structs left z m.ctype) (one_operand k x y y2 h.0 g) h.1.0)
    postfix_silent (e.index token x rest) left d j at (y, (m, h)) (inr (y2, (g, inr (m2, b)))) =
        let h' : AsPlace (Indexes k.structs left y2) m = subst (λ z. AsPlace (Indexes k.structs left z) m) (one_operand k x y y2 h.0 g) h.1 in
        let is : m2 ≡ m = same_operand m2 m true (one_place (typed_subscript k.structs left y2) m2.ctype m.ctype (indexed_back k.structs left y2 m2.ctype b.0.0)
        (indexed_back k.structs left y2 m.ctype h'.0)) b.0.1 b.0.2 h'.1 h'.2 in
        postfix_silent rest m d j at h.2 (subst (λ z. PostfixBreaks k z rest j at) is b.1)
    postfix_silent (e.member token name rest) left d j at (m, h) (inl b) = member_silent k.structs name left.ctype m.ctype j h.0.0 b.1
    postfix_silent (e.member token name rest) left d j at (m, h) (inr (m2, b)) =
        let is : m2 ≡ m = same_operand m2 m left.place (selects_one k.structs name left.ctype m2.ctype m.ctype b.0.0 h.0.0) b.0.1 b.0.2 h.0.1 h.0.2 in
        postfix_silent rest m d j at h.1 (subst (λ z. PostfixBreaks k z rest j at) is b.1)
    postfix_silent (e.arrow token name rest) left d j at (m, h) (inl b) = arrow_silent k.structs name (value_type left) m.ctype j h.0.0 b.1
    postfix_silent (e.arrow token name rest) left d j at (m, h) (inr (m2, b)) =
        let is : m2 ≡ m = same_operand m2 m true (behind_one k.structs name (value_type left) m2.ctype m.ctype b.0.0 h.0.0) b.0.1 b.0.2 h.0.1 h.0.2 in
        postfix_silent rest m d j at h.1 (subst (λ z. PostfixBreaks k z rest j at) is b.1)
    postfix_silent (e.increment token rest) left d j at (m, h) (inl b) = step_silent k.structs left m.ctype j h.0.0 b.1
    postfix_silent (e.increment token rest) left d j at (m, h) (inr (m2, b)) =
        let is : m2 ≡ m = same_operand m2 m false (b.0.0.2 ∙ sym h.0.0.2) b.0.1 b.0.2 h.0.1 h.0.2 in
        postfix_silent rest m d j at h.1 (subst (λ z. PostfixBreaks k z rest j at) is b.1)
    postfix_silent (e.decrement token rest) left d j at (m, h) (inl b) = step_silent k.structs left m.ctype j h.0.0 b.1
    postfix_silent (e.decrement token rest) left d j at (m, h) (inr (m2, b)) =
        let is : m2 ≡ m = same_operand m2 m false (b.0.0.2 ∙ sym h.0.0.2) b.0.1 b.0.2 h.0.1 h.0.2 in
        postfix_silent rest m d j at h.1 (subst (λ z. PostfixBreaks k z rest j at) is b.1)
