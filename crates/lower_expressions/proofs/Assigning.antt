-- Assignments, and the operators of commas.
use Rattle.std.proofs.Common.{◌≡◌, inl, inr, ℕ, zero, suc, ◌+◌, ◌-◌, ◌<◌, ◌≤◌, ◌∙◌, ap, subst, sym, arith, List, [], ◌∷◌, length, drop, get_or}
use Rattle.std.proofs.lemmas.List.{length-drop}
use Rattle.cbi_base.specs.declared.operators.Binary.{Binary}
use Rattle.c_syntax.specs.ExprTree as e
use Rattle.c_syntax.specs.Words.{ExprTree, ExprList, plain_expr, plain_exprs}
use Rattle.c_syntax.specs.declared.expr.Expr.{Expr}
use Rattle.c_syntax.specs.declared.token.Sign.{Sign}
use Rattle.flow.specs.declared.node.Node.{Node}
use Rattle.c_meaning.specs.Words.{is_null_as, Facts, Sites, operation, Assignment, By, Plain, assignment_of_sign, type_of}
use Rattle.lower_relation.specs.Expressions.{CommaDoes, emitted_expression}
use Rattle.lower_relation.specs.Operators.{Assign, Assigned, CompoundAssigned, Comma}
use Rattle.lower_relation.specs.Paths.{Graph, ◌then◌, Emitted, Stuck}
use Rattle.lower_relation.specs.Values.{EmittedValue, WantedValue}
use Rattle.lower_nodes.specs.Made.{GraphPath, Made, MadeAlone, MadeFor}
use Rattle.lower_nodes.specs.Parts.{effect_part, place_part, purpose_part, value_part}
use Rattle.lower_nodes.specs.Purposes.{PurposeTakes, Serves, condition_ways}
use Rattle.lower_nodes.specs.Standing.{Allowed, Allowance}
use Rattle.lower_expressions.specs.Weights.{exprs_weight, weight}
use Rattle.lower_nodes.specs.declared.purpose.Purpose.{Purpose}
use Rattle.lower_nodes.specs.declared.purpose.Purpose.TheVariants as purpose
use Rattle.lower_nodes.proofs.Building.{surely_made, ◌and_then◌, both_ways}
use Rattle.lower_nodes.proofs.Lists.{list_step}
use Rattle.lower_nodes.proofs.Serving.{valued_made}
use Rattle.lower_nodes.proofs.Wanting.{effect_of}
use Rattle.lower_expressions.proofs.Forking.{last_forks}
use Rattle.lower_operators.proofs.Acting.{counted}

alone : (xs : List Expr) (j : ℕ) (d : Expr) → length xs ≡ j + 1 → d ≡ get_or xs j d → drop j xs ≡ d ∷ []
alone [] j d e at = absurd (omega (arith, e))
alone (x ∷ []) zero d e at = ap (λ z. z ∷ []) (sym at)
alone (x ∷ y ∷ xs) zero d e at = absurd (omega (arith, e))
alone (x ∷ xs) (suc j) d e at = alone xs j d (omega (arith, e)) at

module _ (facts : Facts) (sites : Sites) where
  module _ (token : ℕ) (sign : Sign) (target value : ExprTree) (p : Purpose) where
    abbrev assigns : Assignment → GraphPath ℕ
    assigns a G =
        Assign G facts sites token a (is_null_as (type_of facts target) value) (type_of facts target) (type_of facts value)
        (emitted_expression G facts sites target) (emitted_expression G facts sites value)

    assign_made : (n0 n1 n2 : List Node) (after i : ℕ) → MadeFor (λ G. PurposeTakes G) n0 n1 after p → Made (assigns (assignment_of_sign sign)) n1 n2 i after →
        MadeFor (purpose_part facts sites (e.Assign token sign target value)) n0 n2 i p
    assign_made n0 n1 n2 after i taken made =
        both_ways (λ G. Serves (EmittedValue G (assigns (assignment_of_sign sign) G))) (purpose_part facts sites (e.Assign token sign target value)) p (λ G i p h. h) (λ s i p h. h) n0 n2 i
        (valued_made (assigns (assignment_of_sign sign)) p n0 n1 n2 i after taken made)

    pub assign_plain : (n0 n1 n2 n3 n4 : List Node) (after stored found i : ℕ) → Plain ≡ assignment_of_sign sign → MadeFor (λ G. PurposeTakes G) n0 n1 after p →
        Made (λ G. Assigned G facts sites token) n1 n2 stored after →
        Made (λ G. WantedValue G (is_null_as (type_of facts target) value) (type_of facts value) (type_of facts target) (emitted_expression G facts sites value)) n2 n3 found stored →
        Made (place_part facts sites target) n3 n4 i found → MadeFor (purpose_part facts sites (e.Assign token sign target value)) n0 n4 i p
    assign_plain n0 n1 n2 n3 n4 after stored found i is taken assigned wanted placed =
        assign_made n0 n1 n4 after i taken (subst (λ a. Made (assigns a) n1 n4 i after) is (placed and_then wanted and_then assigned))

    pub assign_by : (o : Binary) (n0 n1 n2 n3 n4 : List Node) (after changed found i : ℕ) → By o ≡ assignment_of_sign sign → MadeFor (λ G. PurposeTakes G) n0 n1 after p →
        Made (λ G. CompoundAssigned G facts sites token (type_of facts target) (operation o (type_of facts target) (type_of facts value))) n1 n2 changed after →
        Made (value_part facts sites value) n2 n3 found changed → Made (place_part facts sites target) n3 n4 i found →
        MadeFor (purpose_part facts sites (e.Assign token sign target value)) n0 n4 i p
    assign_by o n0 n1 n2 n3 n4 after changed found i is taken change made placed =
        assign_made n0 n1 n4 after i taken (subst (λ a. Made (assigns a) n1 n4 i after) is (placed and_then made and_then change))

  -- one operand after another
  comma_serves : (G : Graph) (n : ℕ) (m rest : Emitted) (p : Purpose) (i : ℕ) → (m.effect then Serves rest) i p → Serves (Comma G (suc n) m rest) i p
  comma_serves G n m rest (purpose.Value next) i h = h
  comma_serves G n m rest (purpose.Effect next) i h = h
  comma_serves G n m rest (purpose.Truth yes_at no_at) i h = inr h

  -- and so in a graph of nodes that may be
  serves_comma : (s : Allowance) (n : ℕ) (m : Emitted) (rest : ExprList) (p : Purpose) (i : ℕ) → Serves (Comma (Allowed s) (suc n) m (CommaDoes (Allowed s) facts sites rest)) i p →
      (m.effect then Serves (CommaDoes (Allowed s) facts sites rest)) i p
  serves_comma s n m rest (purpose.Value next) i h = h
  serves_comma s n m rest (purpose.Effect next) i h = h
  serves_comma s n m rest (purpose.Truth yes_at no_at) i h =
      elim h [ inl t ↦ (t.1.0, t.1.1, last_forks s facts sites rest t.1.0 t.0 (condition_ways yes_at no_at) t.1.2) | inr t ↦ t ]

  abbrev lasts : List Expr → GraphPath Purpose
  lasts xs G = Serves (CommaDoes G facts sites (plain_exprs xs))

  comma_into : (G : Graph) (x : Expr) (xs : List Expr) (n : ℕ) (p : Purpose) (i : ℕ) → length xs ≡ suc n →
      (effect_part facts sites (plain_expr x) G then lasts xs G) i p → lasts (x ∷ xs) G i p
  comma_into G x xs n p i e h =
      subst (λ c. Serves (Comma G c (emitted_expression G facts sites (plain_expr x)) (CommaDoes G facts sites (plain_exprs xs))) i p) (sym (counted xs ∙ e))
      (comma_serves G n (emitted_expression G facts sites (plain_expr x)) (CommaDoes G facts sites (plain_exprs xs)) p i h)

  comma_out : (s : Allowance) (x : Expr) (xs : List Expr) (n : ℕ) (p : Purpose) (i : ℕ) → length xs ≡ suc n →
      lasts (x ∷ xs) (Allowed s) i p → (effect_part facts sites (plain_expr x) (Allowed s) then lasts xs (Allowed s)) i p
  comma_out s x xs n p i e h =
      serves_comma s n (emitted_expression (Allowed s) facts sites (plain_expr x)) (plain_exprs xs) p i
      (subst (λ c. Serves (Comma (Allowed s) c (emitted_expression (Allowed s) facts sites (plain_expr x)) (CommaDoes (Allowed s) facts sites (plain_exprs xs))) i p) (counted xs ∙ e) h)

  -- one more operand before the last ones
  pub comma_step : (p : Purpose) (operands : List Expr) (m j : ℕ) (d : Expr) (n0 n1 n2 : List Node) (entry i : ℕ) → m ≡ j + 1 → m < length operands →
      d ≡ get_or operands j d → MadeFor (λ G. Serves (CommaDoes G facts sites (plain_exprs (drop m operands)))) n0 n1 entry p →
      MadeFor (purpose_part facts sites (plain_expr d)) n1 n2 i (purpose.Effect entry) →
      MadeFor (λ G. Serves (CommaDoes G facts sites (plain_exprs (drop j operands)))) n0 n2 i p
  comma_step p operands m j d n0 n1 n2 entry i e low at rest made =
      let more : length (drop (j + 1) operands) ≡ suc (length operands - (j + 1) - 1) = omega (arith, e, low, length-drop (j + 1) operands) in
      list_step lasts (effect_part facts sites (plain_expr (get_or operands j d))) operands m j d n0 n1 n2 entry i p e (omega (arith, e, low))
      (λ G i p h. comma_into G (get_or operands j d) (drop (j + 1) operands) (length operands - (j + 1) - 1) p i more h)
      (λ s i p h. comma_out s (get_or operands j d) (drop (j + 1) operands) (length operands - (j + 1) - 1) p i more h) rest
      (subst (λ q. Made (effect_part facts sites (plain_expr q)) n1 n2 i entry) at
      (effect_of (purpose_part facts sites (plain_expr d)) (effect_part facts sites (plain_expr d)) (λ G i k h. h) (λ s i k h. h) n1 n2 i entry made))

  -- the last operand alone
  pub last_made : (p : Purpose) (operands : List Expr) (j : ℕ) (d : Expr) (n0 n1 : List Node) (i : ℕ) → length operands ≡ j + 1 → d ≡ get_or operands j d →
      MadeFor (purpose_part facts sites (plain_expr d)) n0 n1 i p → MadeFor (λ G. Serves (CommaDoes G facts sites (plain_exprs (drop j operands)))) n0 n1 i p
  last_made p operands j d n0 n1 i e at made =
      subst (λ l. MadeFor (λ G. Serves (CommaDoes G facts sites (plain_exprs l))) n0 n1 i p) (sym (alone operands j d e at)) made

  pub none_made : (p : Purpose) (operands : List Expr) (n0 n1 n2 : List Node) (after i : ℕ) → length operands ≡ 0 → MadeFor (λ G. PurposeTakes G) n0 n1 after p →
      MadeAlone (λ G. Stuck G) n1 n2 i after → MadeFor (λ G. Serves (CommaDoes G facts sites (plain_exprs operands))) n0 n2 i p
  none_made p [] n0 n1 n2 after i e taken made = valued_made (λ G. Stuck G) p n0 n1 n2 i after taken (surely_made (λ G. Stuck G) n1 n2 i after made)
  none_made p (x ∷ xs) n0 n1 n2 after i e taken made = absurd (omega (arith, e))

  -- all operands are put
  pub lasts_whole : (p : Purpose) (operands : List Expr) (m : ℕ) (n0 n1 : List Node) (i : ℕ) → m ≡ 0 →
      MadeFor (λ G. Serves (CommaDoes G facts sites (plain_exprs (drop m operands)))) n0 n1 i p → MadeFor (λ G. Serves (CommaDoes G facts sites (plain_exprs operands))) n0 n1 i p
  lasts_whole p operands m n0 n1 i e made = subst (λ q. MadeFor (λ G. Serves (CommaDoes G facts sites (plain_exprs (drop q operands)))) n0 n1 i p) e made

-- what is left to emit of each
pub operand_weighs : (xs : List Expr) (j : ℕ) (d : Expr) → j < length xs → d ≡ get_or xs j d → 8 + weight (plain_expr d) ≤ exprs_weight (plain_exprs xs)
operand_weighs [] j d low at = absurd (omega (arith, low))
operand_weighs (x ∷ xs) zero d low at = rw at (omega arith)
operand_weighs (x ∷ xs) (suc j) d low at = omega (arith, operand_weighs xs j d (omega (arith, low)) at)
