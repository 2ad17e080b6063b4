-- What `&&` and `||` do with their left values, and what stands before an operator of a chain.
use Rattle.std.proofs.Common.{◌≡◌, ℕ, zero, suc, ◌+◌, ◌<◌, ◌∙◌, ap, refl, sym, subst, arith, List, [], ◌∷◌, ◌++◌, length, get_or, Option, true, false, rules}
use Rattle.std.specs.Prelude.{pos}
use Rattle.cbi_base.specs.declared.scalar.Kind.TheVariants.{Int}
use Rattle.c_syntax.specs.declared.expr.Link.{Link}
use Rattle.flow.specs.declared.node.Node.{Node}
use Rattle.flow.specs.declared.node.Node.TheVariants as node
use Rattle.c_meaning.specs.declared.value_type.ValueType.{ValueType}
use Rattle.c_meaning.specs.Facts.{Facts, Sites}
use Rattle.lower_relation.specs.Operators.{VisitedFork}
use Rattle.lower_relation.specs.Paths.{Does}
use Rattle.lower_operators.specs.Linking.{WholeValue, Shortcut, ToRight, side_ends, shortcut_sides, type_before}
use Rattle.lower_nodes.specs.Ends.{Any}
use Rattle.lower_nodes.specs.Made.{MadeTo, MadeWays}
use Rattle.lower_nodes.specs.Purposes.{condition_ways}
use Rattle.lower_nodes.specs.Standing.{Like}
use Rattle.lower_nodes.proofs.Building.{carried, either_made, later_self, row, stays_put, stood_put}

-- one way of a condition goes on at what was put before
right_stays : (n : List Node) (right next : ℕ) → MadeTo side_ends Any (λ G. ToRight) n n right (shortcut_sides right next)
right_stays n right next = record {
  does = λ fin l. refl;
  keeps = later_self 0 n;
  leads = λ below. stays_put n right (below.0, tt);
  stands = λ s j l same like h. stood_put s n right j (subst (λ q. Like s n right q) (sym h) like.0);
}

-- the other one says what the whole is
says_made : (n : ℕ) (n0 n1 : List Node) (right i k : ℕ) → i ≡ length n0 → n1 ≡ n0 ++ node.Push Int (pos n) k ∷ [] → MadeTo side_ends Any (λ G. WholeValue G n) n0 n1 i (shortcut_sides right k)
says_made n n0 n1 right i k at is =
    carried (λ G. Does G (node.Push Int (pos n) 0)) (λ G. WholeValue G n) k (shortcut_sides right k) (λ G i h. h) (λ m b. b.1) (λ s m j l same like h. (l.next, tt, like.1, h)) n0 n1 i
    (row (node.Push Int (pos n) 0) _ at is (search rules))

-- what `&&` and `||` do with their left values
pub shortcut_both : (facts : Facts) (sites : Sites) (token right : ℕ) (n0 n1 n2 : List Node) (zero_at i k : ℕ) → zero_at ≡ length n0 →
    n1 ≡ n0 ++ node.Push Int (pos 0) k ∷ [] → MadeWays (λ G. VisitedFork G facts sites token) n1 n2 i (condition_ways right zero_at) →
    MadeTo side_ends Any (λ G. Shortcut G facts sites true token) n0 n2 i (shortcut_sides right k)
shortcut_both facts sites token right n0 n1 n2 zero_at i k at new decided =
    either_made (λ G. VisitedFork G facts sites token) (λ G. ToRight) (λ G. WholeValue G 0) n0 n1 n1 n2 i right zero_at (shortcut_sides right k)
    (says_made 0 n0 n1 right zero_at k at new) (right_stays n1 right k) decided

pub shortcut_either : (facts : Facts) (sites : Sites) (token right : ℕ) (n0 n1 n2 : List Node) (one_at i k : ℕ) → one_at ≡ length n0 →
    n1 ≡ n0 ++ node.Push Int (pos 1) k ∷ [] → MadeWays (λ G. VisitedFork G facts sites token) n1 n2 i (condition_ways one_at right) →
    MadeTo side_ends Any (λ G. Shortcut G facts sites false token) n0 n2 i (shortcut_sides right k)
shortcut_either facts sites token right n0 n1 n2 one_at i k at new decided =
    either_made (λ G. VisitedFork G facts sites token) (λ G. WholeValue G 1) (λ G. ToRight) n0 n0 n1 n2 i one_at right (shortcut_sides right k)
    (right_stays n0 right k) (says_made 1 n0 n1 right one_at k at new) decided

module _ (facts : Facts) (sites : Sites) where
  type_next : (left : Option ValueType) (links : List Link) (j : ℕ) (d : Link) → j < length links → d ≡ get_or links j d →
      type_before facts left links (suc j) ≡ facts.type_at d.token
  type_next left [] j d low at = absurd (omega (arith, low))
  type_next left (x ∷ xs) zero d low at = rw at refl
  type_next left (x ∷ xs) (suc j) d low at = type_next (facts.type_at x.token) xs j d (omega (arith, low)) at

  pub type_after : (left : Option ValueType) (links : List Link) (j : ℕ) (d : Link) → j < length links → d ≡ get_or links j d →
      type_before facts left links (j + 1) ≡ facts.type_at d.token
  type_after left links j d low at =
      let more : j + 1 ≡ suc j = omega arith in
      ap (type_before facts left links) more ∙ type_next left links j d low at
