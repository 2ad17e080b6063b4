-- Chains: operators of one level.
use Rattle.std.proofs.Common.{◌≡◌, refl, ℕ, zero, suc, ◌+◌, ◌<◌, ◌≤◌, ◌∙◌, ap, subst, sym, arith, List, [], ◌∷◌, length, take, drop, get_or, Option, true, false}
use Rattle.std.proofs.lemmas.List.{drop_all, drop_more}
use Rattle.cbi_base.specs.declared.operators.Binary.{Binary}
use Rattle.c_syntax.specs.ExprTree as e
use Rattle.c_syntax.specs.Words.{ExprTree, LinkList, plain_expr, plain_links}
use Rattle.c_syntax.specs.declared.expr.Link.{Link}
use Rattle.c_syntax.specs.declared.token.Sign.{Sign}
use Rattle.c_types_expressions.specs.ExprWalk.{binary_of}
use Rattle.c_syntax.proofs.PlainExprs.{plain_link_before}
use Rattle.flow.specs.declared.node.Node.{Node}
use Rattle.c_meaning.specs.declared.value_type.ValueType.{ValueType}
use Rattle.c_meaning.specs.Words.{Facts, Sites, operation, Joint, Both, Computes, is_null_beside, joint_of_sign, operand_type, type_of}
use Rattle.c_meaning.specs.Trees as tree
use Rattle.lower_relation.specs.Expressions.{LinksDo, emitted_expression}
use Rattle.lower_relation.specs.Operators.{TruthAsInt, Linked, Operates}
use Rattle.lower_relation.specs.Paths.{◌then◌}
use Rattle.lower_relation.specs.Values.{NullOr, EmittedValue}
use Rattle.lower_operators.specs.Linking.{Shortcut, link_part, side_ends, shortcut_sides, type_before}
use Rattle.lower_nodes.specs.Ends.{Any, one_end}
use Rattle.lower_nodes.specs.Made.{GraphPath, Made, MadeFor, MadeTo}
use Rattle.lower_nodes.specs.Parts.{purpose_part, value_part}
use Rattle.lower_nodes.specs.Purposes.{PurposeTakes, Serves}
use Rattle.lower_expressions.specs.Weights.{links_weight, weight}
use Rattle.lower_nodes.specs.declared.purpose.Purpose.{Purpose}
use Rattle.lower_nodes.specs.declared.purpose.Purpose.TheVariants as purpose
use Rattle.lower_operators.proofs.Linked.{type_after}
use Rattle.lower_nodes.proofs.Building.{◌and_then◌, Joined, both_ways, joined_made, nothing_made, then_made}
use Rattle.lower_nodes.proofs.Serving.{valued_made}
use Rattle.lower_nodes.proofs.Wanting.{same_effect, same_value}

abbrev rest_of : Link → LinkList → LinkList
rest_of x rest = e.more_links x.token x.sign (plain_expr x.operand) rest

pub plain_cons : (x : Link) (xs : List Link) → plain_links (x ∷ xs) ≡ rest_of x (plain_links xs)
plain_cons x xs = plain_link_before x (plain_links xs)

-- the operators from this one on
pub links_split : (links : List Link) (j : ℕ) (d : Link) → j < length links → d ≡ get_or links j d → plain_links (drop j links) ≡ rest_of d (plain_links (drop (j + 1) links))
links_split links j d low at = ap plain_links (drop_more links j d low ∙ ap (λ z. z ∷ drop (j + 1) links) (sym at)) ∙ plain_cons d (drop (j + 1) links)

-- what is left to emit of each
pub link_weighs : (links : List Link) (j : ℕ) (d : Link) → j < length links → d ≡ get_or links j d → 8 + weight (plain_expr d.operand) ≤ links_weight (plain_links links)
link_weighs [] j d low at = absurd (omega (arith, low))
link_weighs (x ∷ xs) zero d low at = rw (at, plain_cons x xs) (omega arith)
link_weighs (x ∷ xs) (suc j) d low at = rw (plain_cons x xs) (omega (arith, link_weighs xs j d (omega (arith, low)) at))

-- of those before a place there is less
pub front_weighs : (links : List Link) (j : ℕ) → links_weight (plain_links (take j links)) ≤ links_weight (plain_links links)
front_weighs links zero = omega arith
front_weighs [] (suc j) = omega arith
front_weighs (x ∷ xs) (suc j) = rw (plain_cons x xs, plain_cons x (take j xs)) (omega (arith, front_weighs xs j))

module _ (facts : Facts) (sites : Sites) where
  -- none is put yet
  pub links_none : (left : Option ValueType) (m : ℕ) (links : List Link) (n : List Node) (k : ℕ) →
      Made (λ G. LinksDo G facts sites (type_before facts left links m) (plain_links (drop (length links) links))) n n k k
  links_none left m links n k =
      subst (λ l. Made (λ G. LinksDo G facts sites (type_before facts left links m) (plain_links l)) n n k k) (sym (drop_all (length links) links (omega arith))) (nothing_made n k)

  -- one more operator before those that were put
  pub links_step : (left : Option ValueType) (links : List Link) (m j : ℕ) (d : Link) (n0 n1 n2 : List Node) (entry i k : ℕ) → m ≡ j + 1 → j < length links →
      d ≡ get_or links j d → Made (λ G. LinksDo G facts sites (type_before facts left links m) (plain_links (drop m links))) n0 n1 entry k →
      Made (link_part facts sites (type_before facts left links j) d.token d.sign (plain_expr d.operand)) n1 n2 i entry →
      Made (λ G. LinksDo G facts sites (type_before facts left links j) (plain_links (drop j links))) n0 n2 i k
  links_step left links m j d n0 n1 n2 entry i k e low at rest made =
      let later : Made (λ G. LinksDo G facts sites (facts.type_at d.token) (plain_links (drop (j + 1) links))) n0 n1 entry k =
      subst (λ t. Made (λ G. LinksDo G facts sites t (plain_links (drop (j + 1) links))) n0 n1 entry k) (type_after facts sites left links j d low at)
      (subst (λ q. Made (λ G. LinksDo G facts sites (type_before facts left links q) (plain_links (drop q links))) n0 n1 entry k) e rest)
      in subst (λ l. Made (λ G. LinksDo G facts sites (type_before facts left links j) l) n0 n2 i k) (sym (links_split links j d low at))
      (then_made (link_part facts sites (type_before facts left links j) d.token d.sign (plain_expr d.operand))
      (λ G. LinksDo G facts sites (facts.type_at d.token) (plain_links (drop (j + 1) links))) n0 n1 n2 i entry k later made)

  module _ (token : ℕ) (left right : Option ValueType) (R : GraphPath ℕ) where
    -- `&&` and `||`
    pub both_made : (n0 n1 n2 n3 : List Node) (flagged right_at i k : ℕ) → Made (λ G. TruthAsInt G) n0 n1 flagged k → Made R n1 n2 right_at flagged →
        MadeTo side_ends Any (λ G. Shortcut G facts sites true token) n2 n3 i (shortcut_sides right_at k) → Made (λ G. Linked G facts sites Both token left right (R G)) n0 n3 i k
    both_made n0 n1 n2 n3 flagged right_at i k flags made cut =
        both_ways (Joined (λ G. Shortcut G facts sites true token) (λ G. R G then TruthAsInt G) shortcut_sides (λ t. t)) (λ G. Linked G facts sites Both token left right (R G)) k
        (λ G i k h. (h.1.0, h.1.1, h.1.2, subst (λ j. (R G then TruthAsInt G) j k) (sym h.1.3) h.2, h.1.4)) (λ s i k h. (h.0, (h.0, h.1, h.2, refl, h.4), h.3)) n0 n3 i
        (joined_made {h = one_end} (λ G. Shortcut G facts sites true token) (λ G. R G then TruthAsInt G) shortcut_sides (λ t. t) n0 n2 n3 i right_at k (λ n b. b) (λ n b m. (m, b))
        (λ s n u b. b) (λ s n u q b m. (m, b)) (made and_then flags) cut)

    pub either_links : (n0 n1 n2 n3 : List Node) (flagged right_at i k : ℕ) → Made (λ G. TruthAsInt G) n0 n1 flagged k → Made R n1 n2 right_at flagged →
        MadeTo side_ends Any (λ G. Shortcut G facts sites false token) n2 n3 i (shortcut_sides right_at k) → Made (λ G. Linked G facts sites tree.Either token left right (R G)) n0 n3 i k
    either_links n0 n1 n2 n3 flagged right_at i k flags made cut =
        both_ways (Joined (λ G. Shortcut G facts sites false token) (λ G. R G then TruthAsInt G) shortcut_sides (λ t. t)) (λ G. Linked G facts sites tree.Either token left right (R G)) k
        (λ G i k h. (h.1.0, h.1.1, h.1.2, h.1.3, subst (λ j. (R G then TruthAsInt G) j k) (sym h.1.4) h.2)) (λ s i k h. (h.1, (h.0, h.1, h.2, h.3, refl), h.4)) n0 n3 i
        (joined_made {h = one_end} (λ G. Shortcut G facts sites false token) (λ G. R G then TruthAsInt G) shortcut_sides (λ t. t) n0 n2 n3 i right_at k (λ n b. b) (λ n b m. (m, b))
        (λ s n u b. b) (λ s n u q b m. (m, b)) (made and_then flags) cut)

    pub computes_made : (o : Binary) (n0 n1 n2 : List Node) (done i k : ℕ) → Made (λ G. Operates G (operation o left right)) n0 n1 done k → Made R n1 n2 i done →
        Made (λ G. Linked G facts sites (Computes o) token left right (R G)) n0 n2 i k
    computes_made o n0 n1 n2 done i k operated made = made and_then operated

  pub linked_by : (j : Joint) (left : Option ValueType) (token : ℕ) (sign : Sign) (operand : ExprTree) (n0 n1 : List Node) (i k : ℕ) → j ≡ joint_of_sign sign →
      Made (λ G. Linked G facts sites j token left (operand_type (is_null_beside (binary_of sign) left operand) (type_of facts operand))
      (NullOr G (is_null_beside (binary_of sign) left operand) (emitted_expression G facts sites operand))) n0 n1 i k →
      Made (link_part facts sites left token sign operand) n0 n1 i k
  linked_by j left token sign operand n0 n1 i k e made =
      subst (λ j. Made (λ G. Linked G facts sites j token left (operand_type (is_null_beside (binary_of sign) left operand) (type_of facts operand))
      (NullOr G (is_null_beside (binary_of sign) left operand) (emitted_expression G facts sites operand))) n0 n1 i k) e made

  -- the operators of one level, by their value
  pub chain_made : (first : ExprTree) (links : LinkList) (p : Purpose) (n0 n1 n2 : List Node) (after i : ℕ) → ((yes_at no_at : ℕ) → p ≡ purpose.Truth yes_at no_at → ⊥) →
      MadeFor (λ G. PurposeTakes G) n0 n1 after p → Made (value_part facts sites (e.Chain 0 first links)) n1 n2 i after → MadeFor (purpose_part facts sites (e.Chain 0 first links)) n0 n2 i p
  chain_made first links (purpose.Value next) n0 n1 n2 after i other taken made =
      same_value (λ G. Serves (EmittedValue G (value_part facts sites (e.Chain 0 first links) G))) (purpose_part facts sites (e.Chain 0 first links)) (λ G i k h. h) (λ s i k h. h) n0 n2 i next
      (valued_made (value_part facts sites (e.Chain 0 first links)) (purpose.Value next) n0 n1 n2 i after taken made)
  chain_made first links (purpose.Effect next) n0 n1 n2 after i other taken made =
      same_effect (λ G. Serves (EmittedValue G (value_part facts sites (e.Chain 0 first links) G))) (purpose_part facts sites (e.Chain 0 first links)) (λ G i k h. h) (λ s i k h. h) n0 n2 i next
      (valued_made (value_part facts sites (e.Chain 0 first links)) (purpose.Effect next) n0 n1 n2 i after taken made)
  chain_made first links (purpose.Truth yes_at no_at) n0 n1 n2 after i other taken made = absurd (other yes_at no_at refl)
