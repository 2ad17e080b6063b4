-- Of the rules that an expression breaks one is the first.
use Rattle.std.proofs.Common.{◌⊎◌, inl, inr, ◌≡◌, ℕ, sym, ◌∙◌, List, Some, None, true, false}
use Rattle.std.specs.Prelude.{Option}
use Rattle.cbi_base.specs.declared.operators.Binary.{Binary}
use Rattle.c_syntax.specs.declared.parts.Base.{Base}
use Rattle.c_syntax.specs.declared.parts.Base.TheVariants as base
use Rattle.c_syntax.specs.declared.expr.PrefixOperator.{PrefixOperator}
use Rattle.c_syntax.specs.declared.expr.PrefixOperator.TheVariants as prefix
use Rattle.c_syntax.specs.ExprTree as e
use Rattle.c_syntax.specs.ExprTree.{ExprTree, ExprList, LinkList, PostfixList}
use Rattle.c_types_rules.specs.declared.fault.FaultKind.{FaultKind}
use Rattle.c_types_rules.specs.declared.fault.FaultKind.TheVariants as fault
use Rattle.c_types_rules.specs.declared.layout.StructType.{StructType}
use Rattle.c_types_rules.specs.declared.operand.Operand.{Operand}
use Rattle.c_types_rules.specs.TypeTree as t
use Rattle.c_types_rules.specs.Words.{TypeTree, value_type, typed_subscript, is_complete}
use Rattle.c_types_expressions.specs.ExprWalk.{binary_of, typed_chain_operation, compound_of, with_stars}
use Rattle.c_types_laws.specs.Operands.{Casts, Chooses, Indexes, Joins, Selects, SelectsBehind, Steps}
use Rattle.c_types_faults.specs.Known.{Entity, Object, Function, Standard, Known}
use Rattle.c_types_faults.specs.Types.{BaseBreaks, IsBase}
use Rattle.c_types_faults.specs.Operands.{AsPlace, AsSelected, AsValue}
use Rattle.c_types_faults.specs.Exprs.{AreOperands, IsOperand}
use Rattle.c_types_faults.specs.ExprRules.{ArrowBreaks, AssignBreaks, CallBreaks, Counts, HasStruct, MemberBreaks, Misfits, NameBreaks, PrefixBreaks, StepBreaks}
use Rattle.c_types_faults.specs.ExprRules.{Stores, Unmodifiable}
use Rattle.c_types_faults.specs.ExprBreaks.{Breaks, LinksBreak, ListBreaks, PostfixBreaks}
use Rattle.c_types_faults.proofs.First.{OneKind, Single, Then, at_single, none_single, kind_single, then_single}
use Rattle.c_types_faults.proofs.Fitting.{chained_back, indexed_back}
use Rattle.c_types_faults.proofs.Least.{least_one}
use Rattle.c_types_faults.proofs.Silent.{arrow_silent, base_silent, expr_silent, list_silent, member_silent, step_silent}
use Rattle.c_types_faults.proofs.Single.{behind_one, one_base, one_list, one_operand, one_place, same_operand, selects_one, values_same}

-- the rule that operands break under an operator is of one kind

assign_kind : (ss : List StructType) (o : Option Binary) (x y : Operand) → OneKind (AssignBreaks ss o x y)
assign_kind ss o x y i j h g = least_one (λ k. ((k ≡ fault.Operands) × (Stores ss o x y → ⊥)) ⊎ Unmodifiable x k) i j h g

step_kind : (ss : List StructType) (x : Operand) → OneKind (StepBreaks ss x)
step_kind ss x i j h g = least_one (λ k. ((k ≡ fault.Operands) × (Counts ss x → ⊥)) ⊎ Unmodifiable x k) i j h g

prefix_kind : (ss : List StructType) (o : PrefixOperator) (x : Operand) → OneKind (PrefixBreaks ss o x)
prefix_kind ss prefix.Increment x i j h g = step_kind ss x i j h g
prefix_kind ss prefix.Decrement x i j h g = step_kind ss x i j h g
prefix_kind ss o x i j h g = h.0 ∙ sym g.0

misfit_kind : (P : TypeTree → Type 0) → OneKind (Misfits P)
misfit_kind P i j h g = h.0 ∙ sym g.0

member_kind : (ss : List StructType) (name : List ℕ) (of : TypeTree) → OneKind (MemberBreaks ss name of)
member_kind ss name of i j (inl h) (inl g) = h.0 ∙ sym g.0
member_kind ss name of i j (inl h) (inr g) = absurd (h.1 g.1)
member_kind ss name of i j (inr h) (inl g) = absurd (g.1 h.1)
member_kind ss name of i j (inr h) (inr g) = h.0 ∙ sym g.0

arrow_kind : (ss : List StructType) (name : List ℕ) (of : TypeTree) → OneKind (ArrowBreaks ss name of)
arrow_kind ss name (t.Pointer to) i j h g = member_kind ss name to i j h g
arrow_kind ss name of i j h g = h ∙ sym g

name_kind : (x : Option Entity) → OneKind (NameBreaks x)
name_kind (Some (Object of)) i j h g = absurd h
name_kind x i j h g = h ∙ sym g

pub call_kind : (x : Option Entity) (xs : List Operand) → OneKind (CallBreaks x xs)
call_kind None xs i j h g = h ∙ sym g
call_kind (Some (Object of)) xs i j h g = h ∙ sym g
call_kind (Some (Function f)) xs i j h g = h.0 ∙ sym g.0
call_kind (Some (Standard f)) xs i j h g = h.0 ∙ sym g.0

module _ (k : Known) where
  pub base_single : (b : Base) → Single (BaseBreaks k b)
  base_single (base.Struct token tag) i j a c h g = (h.0 ∙ sym g.0, h.1 ∙ sym g.1)
  base_single b i j a c h g = absurd h

  stepped_single : (token : ℕ) (rest : PostfixList) (left : Operand) → ((m : Operand) → Single (PostfixBreaks k m rest))
      → Single (Then (AsValue (Steps k.structs left)) (λ j at. (at ≡ token) × StepBreaks k.structs left j) (λ m. PostfixBreaks k m rest))
  stepped_single token rest left f = then_single (AsValue (Steps k.structs left)) (λ j at. (at ≡ token) × StepBreaks k.structs left j)
      (λ m. PostfixBreaks k m rest)
      (λ m n g h. same_operand m n false (g.0.2 ∙ sym h.0.2) g.1 g.2 h.1 h.2)
      (λ m j at g h. step_silent k.structs left m.ctype j g.0 h.1)
      (at_single (StepBreaks k.structs left) token (step_kind k.structs left))
      (λ m g. f m)

  mutual
    pub expr_single : (x : ExprTree) → Single (Breaks k x)
    expr_single (e.Comma token operands) = then_single (AreOperands k operands) (ListBreaks k operands)
        (λ xs j at. (at ≡ token) × (j ≡ fault.Operands) × HasStruct xs) (one_list k operands) (list_silent k operands) (list_single operands)
        (λ xs h. kind_single (HasStruct xs) token fault.Operands)
    expr_single (e.Assign token s target value) = then_single (IsOperand k target) (Breaks k target)
        (λ x. Then (IsOperand k value) (Breaks k value) (λ y j at. (at ≡ token) × AssignBreaks k.structs (compound_of s) x y j))
        (one_operand k target) (expr_silent k target) (expr_single target) (λ x h.
        then_single (IsOperand k value) (Breaks k value) (λ y j at. (at ≡ token) × AssignBreaks k.structs (compound_of s) x y j)
        (one_operand k value) (expr_silent k value) (expr_single value) (λ y g.
        at_single (AssignBreaks k.structs (compound_of s) x y) token (assign_kind k.structs (compound_of s) x y)))
    expr_single (e.Conditional token condition first second) = then_single (IsOperand k condition) (Breaks k condition)
        (λ c. Then (IsOperand k first) (Breaks k first)
        (λ x. Then (IsOperand k second) (Breaks k second) (λ y j at. (at ≡ token) × Misfits (Chooses c x y) j)))
        (one_operand k condition) (expr_silent k condition) (expr_single condition) (λ c h.
        then_single (IsOperand k first) (Breaks k first)
        (λ x. Then (IsOperand k second) (Breaks k second) (λ y j at. (at ≡ token) × Misfits (Chooses c x y) j))
        (one_operand k first) (expr_silent k first) (expr_single first) (λ x g.
        then_single (IsOperand k second) (Breaks k second) (λ y j at. (at ≡ token) × Misfits (Chooses c x y) j)
        (one_operand k second) (expr_silent k second) (expr_single second) (λ y f.
        at_single (Misfits (Chooses c x y)) token (misfit_kind (Chooses c x y)))))
    expr_single (e.Chain level first links) = then_single (IsOperand k first) (Breaks k first) (λ x. LinksBreak k x links)
        (one_operand k first) (expr_silent k first) (expr_single first) (λ x h. links_single links x)
    expr_single (e.Cast token b stars operand) = then_single (IsBase k b) (BaseBreaks k b)
        (λ of. Then (IsOperand k operand) (Breaks k operand) (λ x j at. (at ≡ token) × Misfits (Casts (with_stars stars of) x) j))
        (one_base k b) (base_silent k b) (base_single b) (λ of h.
        then_single (IsOperand k operand) (Breaks k operand) (λ x j at. (at ≡ token) × Misfits (Casts (with_stars stars of) x) j)
        (one_operand k operand) (expr_silent k operand) (expr_single operand) (λ x g.
        at_single (Misfits (Casts (with_stars stars of) x)) token (misfit_kind (Casts (with_stars stars of) x))))
    expr_single (e.Prefix token o operand) = then_single (IsOperand k operand) (Breaks k operand)
        (λ x j at. (at ≡ token) × PrefixBreaks k.structs o x j) (one_operand k operand) (expr_silent k operand) (expr_single operand) (λ x h.
        at_single (PrefixBreaks k.structs o x) token (prefix_kind k.structs o x))
    expr_single (e.SizeOfType token b stars) = then_single (IsBase k b) (BaseBreaks k b)
        (λ of j at. (at ≡ token) × (j ≡ fault.Operands) × (is_complete k.structs (with_stars stars of) ≡ true → ⊥))
        (one_base k b) (base_silent k b) (base_single b) (λ of h.
        kind_single (is_complete k.structs (with_stars stars of) ≡ true → ⊥) token fault.Operands)
    expr_single (e.Postfix primary operators) = then_single (IsOperand k primary) (Breaks k primary) (λ x. PostfixBreaks k x operators)
        (one_operand k primary) (expr_silent k primary) (expr_single primary) (λ x h. postfix_single operators x)
    expr_single (e.Name token name) = at_single (NameBreaks (k.ordinary name)) token (name_kind (k.ordinary name))
    expr_single (e.Call token name arguments) = then_single (AreOperands k arguments) (ListBreaks k arguments)
        (λ xs j at. (at ≡ token) × CallBreaks (k.ordinary name) xs j) (one_list k arguments) (list_silent k arguments) (list_single arguments) (λ xs h.
        at_single (CallBreaks (k.ordinary name) xs) token (call_kind (k.ordinary name) xs))
    expr_single (e.Paren token inner) = expr_single inner
    expr_single x = none_single

    pub list_single : (xs : ExprList) → Single (ListBreaks k xs)
    list_single e.no_exprs = none_single
    list_single (e.more_exprs x rest) = then_single (IsOperand k x) (Breaks k x) (λ y. ListBreaks k rest)
        (one_operand k x) (expr_silent k x) (expr_single x) (λ y h. list_single rest)

    links_single : (links : LinkList) (left : Operand) → Single (LinksBreak k left links)
    links_single e.no_links left = none_single
    links_single (e.more_links token s operand rest) left =
        let own : Operand → FaultKind → ℕ → Type 0 = λ y j at. (at ≡ token) × Misfits (Joins k.structs (binary_of s) left y) j in
        let after : Operand → Operand → Type 0 = λ y m. AsValue (Joins k.structs (binary_of s) left y) m in
        then_single (IsOperand k operand) (Breaks k operand) (λ y. Then (after y) (own y) (λ m. LinksBreak k m rest))
        (one_operand k operand) (expr_silent k operand) (expr_single operand) (λ y h.
        then_single (after y) (own y) (λ m. LinksBreak k m rest)
        (λ m n g f. values_same (Joins k.structs (binary_of s) left y) (typed_chain_operation k.structs (binary_of s) left y) m n
        (chained_back k.structs (binary_of s) left y) g f)
        (λ m j at g f. f.1.1 m.ctype g.0)
        (at_single (Misfits (Joins k.structs (binary_of s) left y)) token (misfit_kind (Joins k.structs (binary_of s) left y)))
        (λ m g. links_single rest m))

    postfix_single : (operators : PostfixList) (left : Operand) → Single (PostfixBreaks k left operators)
    postfix_single e.no_postfix left = none_single
    postfix_single (e.index token x rest) left =
        let own : Operand → FaultKind → ℕ → Type 0 = λ y j at. (at ≡ token) × Misfits (Indexes k.structs left y) j in
        let after : Operand → Operand → Type 0 = λ y m. AsPlace (Indexes k.structs left y) m in
        then_single (IsOperand k x) (Breaks k x) (λ y. Then (after y) (own y) (λ m. PostfixBreaks k m rest))
        (one_operand k x) (expr_silent k x) (expr_single x) (λ y h.
        then_single (after y) (own y) (λ m. PostfixBreaks k m rest)
        (λ m n g f. same_operand m n true (one_place (typed_subscript k.structs left y) m.ctype n.ctype (indexed_back k.structs left y m.ctype g.0)
        (indexed_back k.structs left y n.ctype f.0)) g.1 g.2 f.1 f.2)
        (λ m j at g f. f.1.1 m.ctype g.0)
        (at_single (Misfits (Indexes k.structs left y)) token (misfit_kind (Indexes k.structs left y)))
        (λ m g. postfix_single rest m))
    postfix_single (e.member token name rest) left = then_single (AsSelected left.place (Selects k.structs name left.ctype))
        (λ j at. (at ≡ token) × MemberBreaks k.structs name left.ctype j) (λ m. PostfixBreaks k m rest)
        (λ m n g f. same_operand m n left.place (selects_one k.structs name left.ctype m.ctype n.ctype g.0 f.0) g.1 g.2 f.1 f.2)
        (λ m j at g f. member_silent k.structs name left.ctype m.ctype j g.0 f.1)
        (at_single (MemberBreaks k.structs name left.ctype) token (member_kind k.structs name left.ctype))
        (λ m g. postfix_single rest m)
    postfix_single (e.arrow token name rest) left = then_single (AsSelected true (SelectsBehind k.structs name (value_type left)))
        (λ j at. (at ≡ token) × ArrowBreaks k.structs name (value_type left) j) (λ m. PostfixBreaks k m rest)
        (λ m n g f. same_operand m n true (behind_one k.structs name (value_type left) m.ctype n.ctype g.0 f.0) g.1 g.2 f.1 f.2)
        (λ m j at g f. arrow_silent k.structs name (value_type left) m.ctype j g.0 f.1)
        (at_single (ArrowBreaks k.structs name (value_type left)) token (arrow_kind k.structs name (value_type left)))
        (λ m g. postfix_single rest m)
    postfix_single (e.increment token rest) left = stepped_single token rest left (λ m. postfix_single rest m)
    postfix_single (e.decrement token rest) left = stepped_single token rest left (λ m. postfix_single rest m)
