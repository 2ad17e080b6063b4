-- What postfix operators lead to.
use Rattle.std.proofs.Common.{◌≡◌, ℕ, subst, sym, List, Bool, true, false}
use Rattle.c_syntax.specs.ExprTree as e
use Rattle.c_syntax.specs.ExprTree.{ExprTree, PostfixList}
use Rattle.flow.specs.declared.node.Node.{Node}
use Rattle.c_meaning.specs.Words.{Facts, Sites, ends_as_place, is_place, type_of}
use Rattle.lower_relation.specs.Operators.{Postfixed}
use Rattle.lower_relation.specs.Paths.{Graph, Path}
use Rattle.lower_relation.specs.Values.{EmittedValue}
use Rattle.lower_nodes.specs.Made.{GraphPath, Made, MadeFor}
use Rattle.lower_nodes.specs.Parts.{purpose_part}
use Rattle.lower_nodes.specs.Purposes.{PurposeTakes, Serves, TakesPlace}
use Rattle.lower_operators.specs.Spots.{spots_part}
use Rattle.lower_operators.specs.Voids.{is_value_taken}
use Rattle.lower_nodes.specs.declared.purpose.Purpose.{Purpose}
use Rattle.lower_nodes.specs.declared.purpose.Purpose.TheVariants as purpose
use Rattle.lower_nodes.proofs.Serving.{placed_made, valued_made}
use Rattle.lower_nodes.proofs.Wanting.{same_effect, same_truth, same_value}

module _ (facts : Facts) (sites : Sites) (primary : ExprTree) (operators : PostfixList) where
  abbrev pub spots : Bool → GraphPath ℕ
  spots taken = spots_part facts sites taken primary operators

  abbrev pub postfixed : Bool → Graph → Path Purpose
  postfixed ends G = Serves (Postfixed G ends (type_of facts (e.Postfix primary operators)) (spots true G) (spots false G))

  -- they lead to a place
  pub postfix_place : (p : Purpose) (n0 n1 n2 : List Node) (after i : ℕ) → ends_as_place (is_place primary) operators ≡ true →
      MadeFor (λ G. TakesPlace G (type_of facts (e.Postfix primary operators))) n0 n1 after p → Made (spots true) n1 n2 i after →
      MadeFor (purpose_part facts sites (e.Postfix primary operators)) n0 n2 i p
  postfix_place p n0 n1 n2 after i ends taken made =
      subst (λ b. MadeFor (postfixed b) n0 n2 i p) (sym ends)
      (placed_made (type_of facts (e.Postfix primary operators)) (spots true) p n0 n1 n2 i after taken made)

  value_serves : (p : Purpose) (n0 n1 : List Node) (i : ℕ) → MadeFor (λ G. Serves (EmittedValue G (spots (is_value_taken p) G))) n0 n1 i p → MadeFor (postfixed false) n0 n1 i p
  value_serves (purpose.Value next) n0 n1 i made = same_value (λ G. Serves (EmittedValue G (spots true G))) (postfixed false) (λ G i k h. h) (λ s i k h. h) n0 n1 i next made
  value_serves (purpose.Effect next) n0 n1 i made = same_effect (λ G. Serves (EmittedValue G (spots false G))) (postfixed false) (λ G i k h. h) (λ s i k h. h) n0 n1 i next made
  value_serves (purpose.Truth yes_at no_at) n0 n1 i made =
      same_truth (λ G. Serves (EmittedValue G (spots true G))) (postfixed false) (λ G i w h. h) (λ s i w h. h) n0 n1 i yes_at no_at made

  -- or to a value
  pub postfix_value : (p : Purpose) (n0 n1 n2 : List Node) (after i : ℕ) → ends_as_place (is_place primary) operators ≡ false →
      MadeFor (λ G. PurposeTakes G) n0 n1 after p → Made (spots (is_value_taken p)) n1 n2 i after → MadeFor (purpose_part facts sites (e.Postfix primary operators)) n0 n2 i p
  postfix_value p n0 n1 n2 after i ends taken made =
      subst (λ b. MadeFor (postfixed b) n0 n2 i p) (sym ends)
      (value_serves p n0 n2 i (valued_made (spots (is_value_taken p)) p n0 n1 n2 i after taken made))
