-- A condition with the site of its statement.
use Rattle.std.proofs.Common.{◌≡◌, ℕ, sym, ◌∙◌, subst, List, [], ◌∷◌, ◌++◌, length, Option, Some, None}
use Rattle.c_syntax.specs.ExprTree.{ExprTree}
use Rattle.flow.specs.declared.node.Node.{Node}
use Rattle.flow.specs.declared.node.Node.TheVariants as node
use Rattle.c_meaning.specs.Facts.{Facts, Sites}
use Rattle.lower_relation.specs.Expressions.{Condition, emitted_expression}
use Rattle.lower_relation.specs.Operators.{DecidesAt}
use Rattle.lower_relation.specs.Paths.{◌then◌, ForkTo, MarksAll, Ways}
use Rattle.lower_nodes.specs.Made.{Made, MadeFor, MadeWays}
use Rattle.lower_nodes.specs.Parts.{purpose_part, value_part}
use Rattle.lower_nodes.specs.Purposes.{condition_ways}
use Rattle.lower_nodes.specs.declared.purpose.Purpose.TheVariants as purpose
use Rattle.lower_nodes.proofs.Building.{then_made}
use Rattle.lower_nodes.proofs.Taking.{fork_made}
use Rattle.lower_nodes.proofs.Visiting.{mark_made}
use Rattle.lower_nodes.proofs.Wanting.{truth_of}

module _ (facts : Facts) (sites : Sites) (token : ℕ) (x : ExprTree) (site : Option ℕ) (found : site ≡ sites.branch_at token) where
  decides : (o : Option ℕ) (n0 n1 : List Node) (i : ℕ) (k : Ways) → o ≡ site →
      MadeWays (λ G. DecidesAt G facts sites o (emitted_expression G facts sites x).value (emitted_expression G facts sites x).truth) n0 n1 i k →
      MadeWays (λ G. Condition G facts sites token x) n0 n1 i k
  decides o n0 n1 i k e made =
      subst (λ o. MadeWays (λ G. DecidesAt G facts sites o (emitted_expression G facts sites x).value (emitted_expression G facts sites x).truth) n0 n1 i k) (e ∙ found) made

  -- without a site its truth does
  pub unsited_made : (n0 n1 : List Node) (i yes_at no_at : ℕ) → site ≡ None → MadeFor (purpose_part facts sites x) n0 n1 i (purpose.Truth yes_at no_at) →
      MadeWays (λ G. Condition G facts sites token x) n0 n1 i (condition_ways yes_at no_at)
  unsited_made n0 n1 i yes_at no_at none made =
      decides None n0 n1 i (condition_ways yes_at no_at) (sym none)
      (truth_of (purpose_part facts sites x) (λ G. DecidesAt G facts sites None (emitted_expression G facts sites x).value (emitted_expression G facts sites x).truth)
      (λ G i w h. h) (λ p i w h. h) n0 n1 i yes_at no_at made)

  -- with a site its value is before the mark, and the fork behind it
  pub sited_made : (number : ℕ) (n0 n1 n2 n3 : List Node) (fork mark i yes_at no_at : ℕ) → site ≡ Some number →
      fork ≡ length n0 → n1 ≡ n0 ++ node.Fork yes_at no_at ∷ [] → mark ≡ length n1 → n2 ≡ n1 ++ node.Mark number fork ∷ [] → Made (value_part facts sites x) n2 n3 i mark →
      MadeWays (λ G. Condition G facts sites token x) n0 n3 i (condition_ways yes_at no_at)
  sited_made number n0 n1 n2 n3 fork mark i yes_at no_at is at1 is1 at2 is2 value =
      decides (Some number) n0 n3 i (condition_ways yes_at no_at) (sym is)
      (then_made (value_part facts sites x) (λ G. MarksAll G (number ∷ []) then ForkTo G) n0 n2 n3 i mark (condition_ways yes_at no_at)
      (then_made (λ G. MarksAll G (number ∷ [])) (λ G. ForkTo G) n0 n1 n2 mark fork (condition_ways yes_at no_at)
      (fork_made n0 n1 fork yes_at no_at at1 is1)
      (mark_made number n1 n2 mark fork at2 is2)) value)

pub ruleset conditions_made = (unsited_made, sited_made)
