-- Initialisers, whose parts are put from the last one to the first.
use Rattle.std.proofs.Common.{◌≡◌, ℕ, suc, ◌+◌, ◌<◌, refl, ap, sym, ◌∙◌, subst, arith, List, [], ◌∷◌, ◌++◌, length, drop, get_or, map, Option, Some}
use Rattle.std.proofs.lemmas.List.{drop_all, drop_more}
use Rattle.c_syntax.specs.declared.expr.Expr.{Expr}
use Rattle.c_syntax.specs.declared.statement.Start.{Start}
use Rattle.c_syntax.specs.Words.{ExprTree, StartTree, plain_expr, plain_exprs, plain_start}
use Rattle.flow.specs.declared.node.Node.{Node}
use Rattle.flow.specs.declared.node.Node.TheVariants as node
use Rattle.flow.specs.declared.site.Slot.{Slot}
use Rattle.c_meaning.specs.declared.value_type.ValueType.{ValueType}
use Rattle.c_meaning.specs.Words.{is_null_as, Facts, Sites, equals_token, type_of}
use Rattle.lower_relation.specs.Expressions.{emitted_expression}
use Rattle.lower_relation.specs.Initialisers.{VariablesStart, Clears, ElementSet, ElementsSet, Initialised, OnLocal, ScalarSet, VariableStarts}
use Rattle.lower_relation.specs.Operators.{Assigned, Member, Variable}
use Rattle.lower_relation.specs.Paths.{Graph, Path, ◌then◌, Does}
use Rattle.lower_relation.specs.Values.{DroppedValue, WantedValue}
use Rattle.lower_nodes.specs.Made.{Made}
use Rattle.lower_nodes.proofs.Building.{nothing_made, one_made, then_made}
use Rattle.lower_nodes.proofs.Lists.{list_step}

-- the value as one of this type
abbrev Wanted : Graph → Facts → Sites → ExprTree → Option ValueType → Path ℕ
Wanted G facts sites x want = WantedValue G (is_null_as want x) (type_of facts x) want (emitted_expression G facts sites x)

-- a scalar: its place, its value, the store with its marks, and the drop of what the store leaves
pub scalar_made : (facts : Facts) (sites : Sites) (token equals : ℕ) (x : ExprTree) (want : Option ValueType) (slot : Option Slot) (n0 n1 n2 n3 n4 : List Node) (drop a w i k : ℕ) →
    equals ≡ equals_token token → want ≡ facts.declared_at token → slot ≡ facts.slot_at token → drop ≡ length n0 → n1 ≡ n0 ++ node.Drop k ∷ [] →
    Made (λ G. Assigned G facts sites equals) n1 n2 a drop → Made (λ G. WantedValue G (is_null_as want x) (type_of facts x) want (emitted_expression G facts sites x)) n2 n3 w a →
    Made (λ G. Variable G slot) n3 n4 i w → Made (λ G. ScalarSet G facts sites token x) n0 n4 i k
scalar_made facts sites token equals x want slot n0 n1 n2 n3 n4 drop a w i k e f g at is assigned wanted found =
    let dropped : Made (λ G. Does G (node.Drop 0)) n0 n1 drop k = one_made (node.Drop 0) (node.Drop k) n0 n1 drop k refl at is in
    let stored : Made (λ G. DroppedValue G (Assigned G facts sites (equals_token token))) n0 n2 a k =
    then_made (λ G. Assigned G facts sites (equals_token token)) (λ G. Does G (node.Drop 0)) n0 n1 n2 a drop k dropped
    (subst (λ q. Made (λ G. Assigned G facts sites q) n1 n2 a drop) e assigned) in
    let value : Made (λ G. Wanted G facts sites x (facts.declared_at token) then DroppedValue G (Assigned G facts sites (equals_token token))) n0 n3 w k =
    then_made (λ G. Wanted G facts sites x (facts.declared_at token)) (λ G. DroppedValue G (Assigned G facts sites (equals_token token))) n0 n2 n3 w a k stored
    (subst (λ q. Made (λ G. Wanted G facts sites x q) n2 n3 w a) f wanted) in
    then_made (λ G. Variable G (facts.slot_at token)) (λ G. Wanted G facts sites x (facts.declared_at token) then DroppedValue G (Assigned G facts sites (equals_token token)))
    n0 n3 n4 i w k value (subst (λ q. Made (λ G. Variable G q) n3 n4 i w) g found)

-- an element: its place, its value, the store, and the drop
pub element_made : (facts : Facts) (sites : Sites) (token index : ℕ) (x : ExprTree) (want : Option ValueType) (slot : Option Slot) (n0 n1 n2 n3 n4 n5 : List Node) (drop a w m i k : ℕ) →
    want ≡ facts.element_at token → slot ≡ facts.slot_at token → drop ≡ length n0 → n1 ≡ n0 ++ node.Drop k ∷ [] → a ≡ length n1 → n2 ≡ n1 ++ node.Store drop ∷ [] →
    Made (λ G. WantedValue G (is_null_as want x) (type_of facts x) want (emitted_expression G facts sites x)) n2 n3 w a → Made (λ G. Member G (Some index)) n3 n4 m w →
    Made (λ G. Variable G slot) n4 n5 i m → Made (λ G. ElementSet G facts sites token index x) n0 n5 i k
element_made facts sites token index x want slot n0 n1 n2 n3 n4 n5 drop a w m i k f g at is at2 is2 wanted member found =
    let dropped : Made (λ G. Does G (node.Drop 0)) n0 n1 drop k = one_made (node.Drop 0) (node.Drop k) n0 n1 drop k refl at is in
    let stored : Made (λ G. DroppedValue G (Does G (node.Store 0))) n0 n2 a k =
    then_made (λ G. Does G (node.Store 0)) (λ G. Does G (node.Drop 0)) n0 n1 n2 a drop k dropped (one_made (node.Store 0) (node.Store drop) n1 n2 a drop refl at2 is2) in
    let value : Made (λ G. Wanted G facts sites x (facts.element_at token) then DroppedValue G (Does G (node.Store 0))) n0 n3 w k =
    then_made (λ G. Wanted G facts sites x (facts.element_at token)) (λ G. DroppedValue G (Does G (node.Store 0))) n0 n2 n3 w a k stored
    (subst (λ q. Made (λ G. Wanted G facts sites x q) n2 n3 w a) f wanted) in
    let inner : Made (λ G. Member G (Some index) then Wanted G facts sites x (facts.element_at token) then DroppedValue G (Does G (node.Store 0))) n0 n4 m k =
    then_made (λ G. Member G (Some index)) (λ G. Wanted G facts sites x (facts.element_at token) then DroppedValue G (Does G (node.Store 0))) n0 n3 n4 m w k value member in
    then_made (λ G. Variable G (facts.slot_at token)) (λ G. Member G (Some index) then Wanted G facts sites x (facts.element_at token) then DroppedValue G (Does G (node.Store 0)))
    n0 n4 n5 i m k inner (subst (λ q. Made (λ G. Variable G q) n4 n5 i m) g found)

-- one more declared variable before those that were put
pub starts_step : (facts : Facts) (sites : Sites) (starts : List Start) (m j : ℕ) (d : Start) (n0 n1 n2 : List Node) (entry i k : ℕ) → m ≡ j + 1 → j < length starts →
    d ≡ get_or starts j d → Made (λ G. VariablesStart G facts sites (map plain_start (drop m starts))) n0 n1 entry k →
    Made (λ G. VariableStarts G facts sites (plain_start d)) n1 n2 i entry →
    Made (λ G. VariablesStart G facts sites (map plain_start (drop j starts))) n0 n2 i k
starts_step facts sites starts m j d n0 n1 n2 entry i k e low is rest made =
    list_step (λ l G. VariablesStart G facts sites (map plain_start l)) (λ G. VariableStarts G facts sites (plain_start (get_or starts j d))) starts m j d n0 n1 n2 entry i k e low
    (λ G i k h. h) (λ G i k h. h) rest (subst (λ s. Made (λ G. VariableStarts G facts sites (plain_start s)) n1 n2 i entry) is made)

-- one more element before those that were put
pub elements_step : (facts : Facts) (sites : Sites) (token : ℕ) (items : List Expr) (m j index : ℕ) (d : Expr) (n0 n1 n2 : List Node) (entry i k : ℕ) → m ≡ j + 1 →
    j < length items → index ≡ j → d ≡ get_or items j d →
    Made (λ G. ElementsSet G facts sites token m (plain_exprs (drop m items))) n0 n1 entry k →
    Made (λ G. ElementSet G facts sites token index (plain_expr d)) n1 n2 i entry →
    Made (λ G. ElementsSet G facts sites token j (plain_exprs (drop j items))) n0 n2 i k
elements_step facts sites token items m j index d n0 n1 n2 entry i k e low at is rest made =
    let next : m ≡ suc j = omega (arith, e) in
    let more : drop j items ≡ d ∷ drop m items =
    drop_more items j d low ∙ ap (λ x. x ∷ drop (j + 1) items) (sym is) ∙ ap (λ q. d ∷ drop q items) (sym e) in
    subst (λ l. Made (λ G. ElementsSet G facts sites token j (plain_exprs l)) n0 n2 i k) (sym more)
    (then_made (λ G. ElementSet G facts sites token j (plain_expr d)) (λ G. ElementsSet G facts sites token (suc j) (plain_exprs (drop m items))) n0 n1 n2 i entry k
    (subst (λ q. Made (λ G. ElementsSet G facts sites token q (plain_exprs (drop m items))) n0 n1 entry k) next rest)
    (subst (λ q. Made (λ G. ElementSet G facts sites token q (plain_expr d)) n1 n2 i entry) at made))

-- a variable is undefined, and then initialised
pub start_made : (facts : Facts) (sites : Sites) (x : StartTree) (slot : Option Slot) (n0 n1 n2 : List Node) (m i k : ℕ) → slot ≡ facts.slot_at x.declarator.name_token →
    Made (λ G. Initialised G facts sites x.declarator.name_token x.initial) n0 n1 m k → Made (λ G. OnLocal G slot (Clears G)) n1 n2 i m →
    Made (λ G. VariableStarts G facts sites x) n0 n2 i k
start_made facts sites x slot n0 n1 n2 m i k e initialised cleared =
    then_made (λ G. OnLocal G (facts.slot_at x.declarator.name_token) (Clears G)) (λ G. Initialised G facts sites x.declarator.name_token x.initial) n0 n1 n2 i m k initialised
    (subst (λ q. Made (λ G. OnLocal G q (Clears G)) n1 n2 i m) e cleared)

-- none is put yet
pub elements_none : (facts : Facts) (sites : Sites) (token m : ℕ) (items : List Expr) (n : List Node) (k : ℕ) →
    Made (λ G. ElementsSet G facts sites token m (plain_exprs (drop (length items) items))) n n k k
elements_none facts sites token m items n k =
    subst (λ l. Made (λ G. ElementsSet G facts sites token m (plain_exprs l)) n n k k) (sym (drop_all (length items) items (omega arith))) (nothing_made n k)

pub starts_none : (facts : Facts) (sites : Sites) (starts : List Start) (n : List Node) (k : ℕ) →
    Made (λ G. VariablesStart G facts sites (map plain_start (drop (length starts) starts))) n n k k
starts_none facts sites starts n k =
    subst (λ l. Made (λ G. VariablesStart G facts sites (map plain_start l)) n n k k) (sym (drop_all (length starts) starts (omega arith))) (nothing_made n k)
