-- Places, and expressions that are none.
use Rattle.std.proofs.Common.{◌≡◌, ℕ, ap, subst, sym, refl, arith, Bool, true, false, List, [], ◌∷◌, length, get_or, Option, Some, None}
use Rattle.c_syntax.specs.ExprTree as e
use Rattle.c_syntax.specs.Words.{ExprTree, PostfixList, plain_expr, plain_exprs}
use Rattle.c_syntax.specs.declared.expr.Expr.{Expr}
use Rattle.c_syntax.specs.declared.expr.PrefixOperator.{PrefixOperator}
use Rattle.c_syntax.specs.declared.expr.PrefixOperator.TheVariants as prefix
use Rattle.flow.specs.declared.node.Node.{Node}
use Rattle.c_types_rules.specs.declared.library.Library.{Library}
use Rattle.c_types_rules.specs.declared.library.Library.TheVariants as library
use Rattle.c_meaning.specs.declared.value_type.Called.{Called}
use Rattle.c_meaning.specs.declared.value_type.Called.TheVariants as called
use Rattle.c_meaning.specs.declared.value_type.ValueType.{ValueType}
use Rattle.c_meaning.specs.declared.value_type.ValueType.TheVariants as type
use Rattle.c_meaning.specs.Words.{Facts, Signature, Sites, called_as, ends_as_place, has_value, is_place, token_of, type_of}
use Rattle.lower_relation.specs.Calls.{ArgumentPath, ArgumentsPath, CallDoes, CallFunction, CallLibrary, WithResult}
use Rattle.lower_relation.specs.Expressions.{CommaDoes, emitted_expression}
use Rattle.lower_relation.specs.Operators.{Cast, PointerPlace, Postfixed, Prefixed, SizeValue}
use Rattle.lower_relation.specs.Paths.{Graph, Path, Emitted, Stuck}
use Rattle.lower_nodes.specs.Made.{GraphPath, Made, MadeAlone}
use Rattle.lower_nodes.specs.Parts.{place_part, value_part}
use Rattle.lower_operators.specs.Spots.{is_nowhere, spots_part}
use Rattle.lower_nodes.specs.Standing.{Allowed}
use Rattle.lower_nodes.proofs.Building.{◌and_then◌, both_ways, is_stuck, surely_made}

-- no place is found
abbrev nowhere : Graph → Path ℕ
nowhere G = Stuck G

module _ (G : Graph) where
  size_nowhere : (cells : Option ℕ) → (SizeValue G cells).place ≡ nowhere G
  size_nowhere None = refl
  size_nowhere (Some cells) = refl

  cast_nowhere : (is_null : Bool) (want : Option ValueType) (m : Emitted) → (Cast G is_null want m).place ≡ nowhere G
  cast_nowhere is_null None m = refl
  cast_nowhere is_null (Some type.Void) m = refl
  cast_nowhere is_null (Some (type.Number kind)) m = refl
  cast_nowhere is_null (Some (type.Pointer size)) m = refl
  cast_nowhere is_null (Some (type.Array size)) m = refl
  cast_nowhere is_null (Some type.Struct) m = refl

  module _ (facts : Facts) (sites : Sites) where
    result_nowhere : (token : ℕ) (given : Bool) (R : Path ℕ) → (WithResult G facts sites token given R).place ≡ nowhere G
    result_nowhere token true R = refl
    result_nowhere token false R = refl

    function_nowhere : (token number : ℕ) (f : Option Signature) (n : ℕ) (arguments : ArgumentsPath) → (CallFunction G facts sites token number f n arguments).place ≡ nowhere G
    function_nowhere token number None n arguments = refl
    function_nowhere token number (Some f) n arguments = result_nowhere token (has_value f.result) _

    library_nowhere : (token : ℕ) (function : Library) (n : ℕ) (argument : ArgumentPath) (print : Path ℕ) →
        (CallLibrary G facts sites token function n argument print).place ≡ nowhere G
    library_nowhere token library.Getchar n argument print = refl
    library_nowhere token library.Putchar n argument print = refl
    library_nowhere token library.Puts n argument print = refl
    library_nowhere token library.Malloc n argument print = refl
    library_nowhere token library.Free n argument print = refl
    library_nowhere token library.Exit n argument print = refl
    library_nowhere token library.Abort n argument print = refl
    library_nowhere token library.Assert n argument print = refl
    library_nowhere token library.Printf n argument print = refl

    call_nowhere : (token : ℕ) (what : Called) (n : ℕ) (arguments : ArgumentsPath) (argument : ArgumentPath) (print : Path ℕ) →
        (CallDoes G facts sites token what n arguments argument print).place ≡ nowhere G
    call_nowhere token (called.Function number) n arguments argument print = function_nowhere token number (facts.signature number) n arguments
    call_nowhere token (called.Library function) n arguments argument print = library_nowhere token function n argument print
    call_nowhere token called.Unknown n arguments argument print = refl

    prefixed_nowhere : (token : ℕ) (operator : PrefixOperator) (of : Option ValueType) (cells : Option ℕ) (m : Emitted) →
        (operator ≡ prefix.Indirection → ⊥) → (Prefixed G facts sites token operator of cells m).place ≡ nowhere G
    prefixed_nowhere token prefix.Indirection of cells m other = absurd (other refl)
    prefixed_nowhere token prefix.SizeOf of cells m other = size_nowhere cells
    prefixed_nowhere token operator of cells m other = refl

    -- an expression that is a value by its form
    form_nowhere : (x : ExprTree) → is_nowhere x ≡ true → place_part facts sites x G ≡ nowhere G
    form_nowhere (e.Comma token operands) is = cc
    form_nowhere (e.Prefix token operator operand) is = cc
    form_nowhere (e.Postfix primary operators) is = cc
    form_nowhere (e.Name token name) is = cc
    form_nowhere (e.Paren token inner) is = cc
    form_nowhere (e.Cast token base stars operand) is = cast_nowhere _ (facts.type_at token) _
    form_nowhere (e.SizeOfType token base stars) is = size_nowhere (facts.named_cells base stars)
    form_nowhere (e.Call token name arguments) is = call_nowhere token (called_as (facts.function_at token) name) _ _ _ _
    form_nowhere x is = refl

    lone_comma : (xs : List Expr) (d : Expr) → length xs ≡ 1 → d ≡ get_or xs 0 d → place_part facts sites (plain_expr d) G ≡ (CommaDoes G facts sites (plain_exprs xs)).place
    lone_comma [] d e at = absurd (omega (arith, e))
    lone_comma (x ∷ []) d e at = ap (λ q. place_part facts sites (plain_expr q) G) at
    lone_comma (x ∷ y ∷ xs) d e at = absurd (omega (arith, e))

    comma_nowhere : (xs : List Expr) → (length xs ≡ 1 → ⊥) → (CommaDoes G facts sites (plain_exprs xs)).place ≡ nowhere G
    comma_nowhere [] other = refl
    comma_nowhere (x ∷ []) other = absurd (other refl)
    comma_nowhere (x ∷ y ∷ xs) other = refl

module _ (facts : Facts) (sites : Sites) where
  pub nowhere_made : (x : ExprTree) (n0 n1 : List Node) (i k : ℕ) → is_nowhere x ≡ true → MadeAlone {K = ℕ} (λ G. Stuck G) n0 n1 i k → Made (place_part facts sites x) n0 n1 i k
  nowhere_made x n0 n1 i k is made = is_stuck (place_part facts sites x) (λ G. form_nowhere G facts sites x is) n0 n1 i k made

  -- the place that a pointer's value is
  pub through_place : (token : ℕ) (operand : ExprTree) (n0 n1 n2 : List Node) (pointed i k : ℕ) → Made (λ G. PointerPlace G) n0 n1 pointed k →
      Made (value_part facts sites operand) n1 n2 i pointed → Made (place_part facts sites (e.Prefix token prefix.Indirection operand)) n0 n2 i k
  through_place token operand n0 n1 n2 pointed i k tested made = made and_then tested

  pub prefix_nowhere : (token : ℕ) (operator : PrefixOperator) (operand : ExprTree) (n0 n1 : List Node) (i k : ℕ) → (operator ≡ prefix.Indirection → ⊥) →
      MadeAlone {K = ℕ} (λ G. Stuck G) n0 n1 i k → Made (place_part facts sites (e.Prefix token operator operand)) n0 n1 i k
  prefix_nowhere token operator operand n0 n1 i k other made =
      is_stuck (place_part facts sites (e.Prefix token operator operand))
      (λ G. prefixed_nowhere G facts sites token operator (type_of facts operand) (facts.cells_at (token_of operand)) (emitted_expression G facts sites operand) other) n0 n1 i k made

  -- one operand alone is what it is
  pub lone_place : (token : ℕ) (xs : List Expr) (d : Expr) (n0 n1 : List Node) (i k : ℕ) → length xs ≡ 1 → d ≡ get_or xs 0 d → Made (place_part facts sites (plain_expr d)) n0 n1 i k →
      Made (place_part facts sites (e.Comma token (plain_exprs xs))) n0 n1 i k
  lone_place token xs d n0 n1 i k one at made =
      both_ways (place_part facts sites (plain_expr d)) (place_part facts sites (e.Comma token (plain_exprs xs))) k
      (λ G i k h. subst (λ (P : Path ℕ). P i k) (lone_comma G facts sites xs d one at) h)
      (λ s i k h. subst (λ (P : Path ℕ). P i k) (sym (lone_comma (Allowed s) facts sites xs d one at)) h) n0 n1 i made

  pub comma_nowhere_made : (token : ℕ) (xs : List Expr) (n0 n1 : List Node) (i k : ℕ) → (length xs ≡ 1 → ⊥) → MadeAlone {K = ℕ} (λ G. Stuck G) n0 n1 i k →
      Made (place_part facts sites (e.Comma token (plain_exprs xs))) n0 n1 i k
  comma_nowhere_made token xs n0 n1 i k other made =
      is_stuck (place_part facts sites (e.Comma token (plain_exprs xs))) (λ G. comma_nowhere G facts sites xs other) n0 n1 i k made

  module _ (primary : ExprTree) (operators : PostfixList) where
    abbrev pub postfixed_place : Bool → GraphPath ℕ
    postfixed_place ends G =
        (Postfixed G ends (type_of facts (e.Postfix primary operators)) (spots_part facts sites true primary operators G) (spots_part facts sites false primary operators G)).place

    -- postfix operators that lead to a place
    pub behind_place : (n0 n1 : List Node) (i k : ℕ) → ends_as_place (is_place primary) operators ≡ true → Made (spots_part facts sites true primary operators) n0 n1 i k →
        Made (place_part facts sites (e.Postfix primary operators)) n0 n1 i k
    behind_place n0 n1 i k ends made = subst (λ b. Made (postfixed_place b) n0 n1 i k) (sym ends) made

    pub behind_nowhere : (n0 n1 : List Node) (i k : ℕ) → ends_as_place (is_place primary) operators ≡ false → MadeAlone {K = ℕ} (λ G. Stuck G) n0 n1 i k →
        Made (place_part facts sites (e.Postfix primary operators)) n0 n1 i k
    behind_nowhere n0 n1 i k ends made = subst (λ b. Made (postfixed_place b) n0 n1 i k) (sym ends) (surely_made (postfixed_place false) n0 n1 i k made)
