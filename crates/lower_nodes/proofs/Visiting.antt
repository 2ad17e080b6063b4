-- The marks of sites.
use Rattle.std.proofs.Common.{◌≡◌, ℕ, ◌+◌, ◌<◌, refl, subst, List, [], ◌∷◌, ◌++◌, length, drop, get_or, Option}
use Rattle.flow.specs.declared.node.Node.{Node}
use Rattle.flow.specs.declared.node.Node.TheVariants as node
use Rattle.flow.specs.declared.node.View.TheVariants as view
use Rattle.c_meaning.specs.Words.{Facts, Sites, site_list}
use Rattle.lower_relation.specs.Operators.{Assigned, VisitedFork}
use Rattle.lower_relation.specs.Paths.{Does, ForkTo, MarksAll, Nothing}
use Rattle.lower_nodes.specs.Made.{Made, MadeWays}
use Rattle.lower_nodes.specs.Purposes.{condition_ways}
use Rattle.lower_nodes.proofs.Building.{nothing_made, one_made, then_made, view_made, visit_resembles}
use Rattle.lower_nodes.proofs.Lists.{list_step}
use Rattle.lower_nodes.proofs.Taking.{fork_made}

one_mark : (site : ℕ) (n0 n1 : List Node) (i k : ℕ) → i ≡ length n0 → n1 ≡ n0 ++ node.Mark site k ∷ [] → Made (λ G. λ i k. G i (view.Marks site k)) n0 n1 i k
one_mark site n0 n1 i k at is =
    view_made (λ k. view.Marks site k) (node.Mark site k) n0 n1 i k refl at is (λ all b. b) (λ s l same like. visit_resembles s n0 site k l like.0)

-- one more mark before those that were put
pub marks_step : (sites : List ℕ) (m j : ℕ) (n0 n1 n2 : List Node) (entry i k : ℕ) → m ≡ j + 1 → j < length sites →
    Made (λ G. MarksAll G (drop m sites)) n0 n1 entry k → i ≡ length n1 → n2 ≡ n1 ++ node.Mark (get_or sites j 0) entry ∷ [] →
    Made (λ G. MarksAll G (drop j sites)) n0 n2 i k
marks_step sites m j n0 n1 n2 entry i k e low rest at is =
    list_step (λ l G. MarksAll G l) (λ G. λ i k. G i (view.Marks (get_or sites j 0) k)) sites m j 0 n0 n1 n2 entry i k e low (λ G i k h. h) (λ G i k h. h) rest
    (one_mark (get_or sites j 0) n1 n2 i entry at is)

-- the mark of the one site
pub mark_made : (site : ℕ) (n0 n1 : List Node) (i k : ℕ) → i ≡ length n0 → n1 ≡ n0 ++ node.Mark site k ∷ [] → Made (λ G. MarksAll G (site ∷ [])) n0 n1 i k
mark_made site n0 n1 i k at is =
    then_made (λ G. λ i k. G i (view.Marks site k)) (λ G. Nothing) n0 n0 n1 i k k (nothing_made n0 k) (one_mark site n0 n1 i k at is)

-- the fork of a condition, with the mark before it
pub decided_made : (facts : Facts) (sites : Sites) (token : ℕ) (site : Option ℕ) (n0 n1 n2 : List Node) (f i yes_at no_at : ℕ) → site ≡ sites.branch_at token →
    f ≡ length n0 → n1 ≡ n0 ++ node.Fork yes_at no_at ∷ [] → Made (λ G. MarksAll G (site_list site)) n1 n2 i f →
    MadeWays (λ G. VisitedFork G facts sites token) n0 n2 i (condition_ways yes_at no_at)
decided_made facts sites token site n0 n1 n2 f i yes_at no_at e at is marks =
    then_made (λ G. MarksAll G (site_list (sites.branch_at token))) (λ G. ForkTo G) n0 n1 n2 i f (condition_ways yes_at no_at)
    (fork_made n0 n1 f yes_at no_at at is)
    (subst (λ s. Made (λ G. MarksAll G (site_list s)) n1 n2 i f) e marks)

-- a store, with the marks behind it
pub assigned_made : (facts : Facts) (sites : Sites) (token : ℕ) (pairs : List ℕ) (n0 n1 n2 : List Node) (m i k : ℕ) → pairs ≡ sites.pairs_at token →
    Made (λ G. MarksAll G pairs) n0 n1 m k → i ≡ length n1 → n2 ≡ n1 ++ node.Store m ∷ [] →
    Made (λ G. Assigned G facts sites token) n0 n2 i k
assigned_made facts sites token pairs n0 n1 n2 m i k e marks at is =
    then_made (λ G. Does G (node.Store 0)) (λ G. MarksAll G (sites.pairs_at token)) n0 n1 n2 i m k
    (subst (λ s. Made (λ G. MarksAll G s) n0 n1 m k) e marks) (one_made (node.Store 0) (node.Store m) n1 n2 i m refl at is)

-- what the marks of a condition or a store are found from
pub ruleset marks_made = (nothing_made, mark_made, decided_made, assigned_made)
