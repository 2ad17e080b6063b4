-- The nodes to which a program's nodes lead are nodes of the function, and its functions have nodes.
use Rattle.std.proofs.Common.{◌≡◌, ℕ, zero, suc, ◌<◌, Bool, ◌&&◌, ◌||◌, nat_lt, List, [], ◌∷◌, length, Option, Some, None, IsTrue, slice_get, slice_index_or, get_or, refl, ap, subst, arith}
use Rattle.std.specs.Prelude.{pos}
use Rattle.std.specs.List.{list_all, Contains}
use Rattle.std.proofs.lemmas.Bool.Decides.{nat_tests}
use Rattle.std.proofs.lemmas.Option.{slice_get-get_or, slice_get_within}
use Rattle.base_lists.proofs.Tests.{true_first, true_second}
use Rattle.cbi_base.specs.declared.scalar.Kind.TheVariants.{Char}
use Rattle.flow.specs.declared.node.Node.{Node}
use Rattle.flow.specs.declared.node.Node.TheVariants.{Push}
use Rattle.flow.specs.declared.node.View.{View}
use Rattle.flow.specs.declared.program.Function.{Function}
use Rattle.flow.specs.declared.program.ProgramParts.{ProgramParts}
use Rattle.flow.specs.declared.scope.Bounds.{Bounds}
use Rattle.flow.specs.declared.scope.Names.{Names}
use Rattle.flow.specs.Words.{view_at, led_to, leads_rightly, names_fit, node_fits, is_again, bounds_of, names_of, IsFunction, IsProgram, view}
use Rattle.regions.specs.Blocks.{NodeLeadsTo}
use Rattle.regions.specs.Weighty.{views_of}

-- what a test says of each element, it says of one
each_passes : (p : ℕ → Bool) (xs : List ℕ) (x k : ℕ) → IsTrue (list_all p xs) → k < length xs → slice_index_or xs k x ≡ x → IsTrue (p x)
each_passes p [] x k all l e = absurd (omega arith)
each_passes p (y ∷ ys) x zero all l e = subst (λ z. IsTrue (p z)) e (true_first (p y) (list_all p ys) all)
each_passes p (y ∷ ys) x (suc k) all l e = each_passes p ys x k (true_second (p y) (list_all p ys) all) (omega arith) e

below : (next nodes : ℕ) (other : Bool) → IsTrue (nat_lt next nodes && other) → next < nodes
below next nodes other h = grind (arith, nat_tests)

within_view : (bounds : Bounds) (place next : ℕ) (v : View) → IsTrue (leads_rightly bounds place v) → Contains (led_to v) next → next < bounds.nodes
unfolding leads_rightly
within_view bounds place next v h c =
    below next bounds.nodes (is_again v || nat_lt place next)
    (each_passes (λ n. nat_lt n bounds.nodes && (is_again v || nat_lt place n)) (led_to v) next c.0 h c.1 c.2)

fits_leads : (names : Names) (bounds : Bounds) (place : ℕ) (n : Node) → IsTrue (node_fits names bounds place n) → IsTrue (leads_rightly bounds place (view n))
unfolding node_fits
fits_leads names bounds place n h = true_second (names_fit names bounds n) (leads_rightly bounds place (view n)) h

at_place : (names : Names) (number place next : ℕ) (f : Function) (found : Option Node) → IsFunction names number f → slice_get f.nodes place ≡ found →
    Contains (led_to (view_at found)) next → next < length f.nodes
at_place names number place next f None is e c = absurd (omega (arith, c.1))
at_place names number place next f (Some n) is e c =
    within_view (bounds_of number f) place next (view n) (fits_leads names (bounds_of number f) place n (is.nodes.each place n e)) c

pub leads_within : (p : ProgramParts) (number : ℕ) (f : Function) → IsProgram p → slice_get p.functions number ≡ Some f → (place next : ℕ) →
    NodeLeadsTo (views_of f.nodes) place next → next < length f.nodes
leads_within p number f is e place next c =
    at_place (names_of p) number place next f (slice_get f.nodes place) (is.functions.each number f e) refl c

pub has_entry : (p : ProgramParts) (number : ℕ) (f : Function) → IsProgram p → slice_get p.functions number ≡ Some f → 0 < length f.nodes
has_entry p number f is e = (is.functions.each number f e).entry

-- what a read past a list of nodes is taken to give
abbrev pub no_node : Node
no_node = Push Char (pos 0) 0

-- the node that a loop reads
pub node_at : (nodes : List Node) (i : ℕ) → i < length nodes → views_of nodes i ≡ view (get_or nodes i no_node)
node_at nodes i l = ap view_at (slice_get-get_or nodes i no_node l)

from_place : (nodes : List Node) (place next : ℕ) (found : Option Node) → slice_get nodes place ≡ found → Contains (led_to (view_at found)) next → place < length nodes
from_place nodes place next None e c = absurd (omega (arith, c.1))
from_place nodes place next (Some n) e c = slice_get_within nodes place n e

-- only a node leads to another
pub leads_from : (nodes : List Node) (place next : ℕ) → NodeLeadsTo (views_of nodes) place next → place < length nodes
leads_from nodes place next c = from_place nodes place next (slice_get nodes place) refl c
