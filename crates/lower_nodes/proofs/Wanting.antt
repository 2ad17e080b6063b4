-- Parts that go on where a value is wanted, by what it is wanted for.
use Rattle.std.proofs.Common.{ℕ, List, [], ◌∷◌}
use Rattle.flow.specs.declared.node.Node.{Node}
use Rattle.lower_relation.specs.Paths.{Graph, Ways}
use Rattle.lower_nodes.specs.Ends.{Any, WantedAlike, purpose_ends, two_ends}
use Rattle.lower_nodes.specs.Made.{GraphPath, Made, MadeFor, MadeWays}
use Rattle.lower_nodes.specs.Purposes.{condition_ways}
use Rattle.lower_nodes.specs.Standing.{AllLike, Allowed, Allowance}
use Rattle.lower_nodes.specs.declared.purpose.Purpose.{Purpose}
use Rattle.lower_nodes.specs.declared.purpose.Purpose.TheVariants as purpose
use Rattle.lower_nodes.proofs.Building.{carried}

value_back : (R : GraphPath ℕ) (S : GraphPath Purpose) → ((p : Allowance) (i k : ℕ) → S (Allowed p) i (purpose.Value k) → R (Allowed p) i k) → (p : Allowance) (n : List Node) (j next : ℕ) (m : Purpose) →
    WantedAlike (purpose.Value next) m → AllLike p n (next ∷ []) (purpose_ends m) → S (Allowed p) j m →
    (q : ℕ) × Any next q × AllLike p n (next ∷ []) (q ∷ []) × R (Allowed p) j q
value_back R S out p n j next (purpose.Value to) same like h = (to, tt, like, out p j to h)
value_back R S out p n j next (purpose.Effect to) same like h = absurd same
value_back R S out p n j next (purpose.Truth yes_at no_at) same like h = absurd same

effect_back : (R : GraphPath ℕ) (S : GraphPath Purpose) → ((p : Allowance) (i k : ℕ) → S (Allowed p) i (purpose.Effect k) → R (Allowed p) i k) → (p : Allowance) (n : List Node) (j next : ℕ) (m : Purpose) →
    WantedAlike (purpose.Effect next) m → AllLike p n (next ∷ []) (purpose_ends m) → S (Allowed p) j m →
    (q : ℕ) × Any next q × AllLike p n (next ∷ []) (q ∷ []) × R (Allowed p) j q
effect_back R S out p n j next (purpose.Value to) same like h = absurd same
effect_back R S out p n j next (purpose.Effect to) same like h = (to, tt, like, out p j to h)
effect_back R S out p n j next (purpose.Truth yes_at no_at) same like h = absurd same

truth_back : (R : GraphPath Ways) (S : GraphPath Purpose) → ((p : Allowance) (i : ℕ) (w : Ways) → S (Allowed p) i (purpose.Truth w.yes_to w.no_to) → R (Allowed p) i w) → (p : Allowance) (n : List Node)
    (j : ℕ) (w : Ways) (m : Purpose) → WantedAlike (purpose.Truth w.yes_to w.no_to) m → AllLike p n (two_ends w) (purpose_ends m) → S (Allowed p) j m →
    (q : Ways) × Any w q × AllLike p n (two_ends w) (two_ends q) × R (Allowed p) j q
truth_back R S out p n j w (purpose.Value to) same like h = absurd same
truth_back R S out p n j w (purpose.Effect to) same like h = absurd same
truth_back R S out p n j w (purpose.Truth yes_at no_at) same like h = (condition_ways yes_at no_at, tt, like, out p j (condition_ways yes_at no_at) h)

-- a part that goes on at one node, or at one of two, as what a value is wanted for
pub as_value : (R : GraphPath ℕ) (S : GraphPath Purpose) → ((G : Graph) (i k : ℕ) → R G i k → S G i (purpose.Value k)) →
    ((p : Allowance) (i k : ℕ) → S (Allowed p) i (purpose.Value k) → R (Allowed p) i k) →
    (n0 n1 : List Node) (i next : ℕ) → Made R n0 n1 i next → MadeFor S n0 n1 i (purpose.Value next)
as_value R S into out n0 n1 i next made =
    carried R S next (purpose.Value next) (λ G i h. into G i next h) (λ n b. b) (λ p n j m same like h. value_back R S out p n j next m same like h) n0 n1 i made

pub as_effect : (R : GraphPath ℕ) (S : GraphPath Purpose) → ((G : Graph) (i k : ℕ) → R G i k → S G i (purpose.Effect k)) →
    ((p : Allowance) (i k : ℕ) → S (Allowed p) i (purpose.Effect k) → R (Allowed p) i k) →
    (n0 n1 : List Node) (i next : ℕ) → Made R n0 n1 i next → MadeFor S n0 n1 i (purpose.Effect next)
as_effect R S into out n0 n1 i next made =
    carried R S next (purpose.Effect next) (λ G i h. into G i next h) (λ n b. b) (λ p n j m same like h. effect_back R S out p n j next m same like h) n0 n1 i made

pub as_truth : (R : GraphPath Ways) (S : GraphPath Purpose) → ((G : Graph) (i : ℕ) (w : Ways) → R G i w → S G i (purpose.Truth w.yes_to w.no_to)) →
    ((p : Allowance) (i : ℕ) (w : Ways) → S (Allowed p) i (purpose.Truth w.yes_to w.no_to) → R (Allowed p) i w) →
    (n0 n1 : List Node) (i yes_at no_at : ℕ) → MadeWays R n0 n1 i (condition_ways yes_at no_at) → MadeFor S n0 n1 i (purpose.Truth yes_at no_at)
as_truth R S into out n0 n1 i yes_at no_at made =
    carried R S (condition_ways yes_at no_at) (purpose.Truth yes_at no_at) (λ G i h. into G i (condition_ways yes_at no_at) h) (λ n b. b)
    (λ p n j m same like h. truth_back R S out p n j (condition_ways yes_at no_at) m same like h) n0 n1 i made

-- and the other way round
pub value_of : (S : GraphPath Purpose) (R : GraphPath ℕ) → ((G : Graph) (i k : ℕ) → S G i (purpose.Value k) → R G i k) →
    ((p : Allowance) (i k : ℕ) → R (Allowed p) i k → S (Allowed p) i (purpose.Value k)) →
    (n0 n1 : List Node) (i next : ℕ) → MadeFor S n0 n1 i (purpose.Value next) → Made R n0 n1 i next
value_of S R into out n0 n1 i next made =
    carried S R (purpose.Value next) next (λ G i h. into G i next h) (λ n b. b) (λ p n j m same like h. (purpose.Value m, tt, like, out p j m h)) n0 n1 i made

pub effect_of : (S : GraphPath Purpose) (R : GraphPath ℕ) → ((G : Graph) (i k : ℕ) → S G i (purpose.Effect k) → R G i k) →
    ((p : Allowance) (i k : ℕ) → R (Allowed p) i k → S (Allowed p) i (purpose.Effect k)) →
    (n0 n1 : List Node) (i next : ℕ) → MadeFor S n0 n1 i (purpose.Effect next) → Made R n0 n1 i next
effect_of S R into out n0 n1 i next made =
    carried S R (purpose.Effect next) next (λ G i h. into G i next h) (λ n b. b) (λ p n j m same like h. (purpose.Effect m, tt, like, out p j m h)) n0 n1 i made

pub truth_of : (S : GraphPath Purpose) (R : GraphPath Ways) → ((G : Graph) (i : ℕ) (w : Ways) → S G i (purpose.Truth w.yes_to w.no_to) → R G i w) →
    ((p : Allowance) (i : ℕ) (w : Ways) → R (Allowed p) i w → S (Allowed p) i (purpose.Truth w.yes_to w.no_to)) →
    (n0 n1 : List Node) (i yes_at no_at : ℕ) → MadeFor S n0 n1 i (purpose.Truth yes_at no_at) → MadeWays R n0 n1 i (condition_ways yes_at no_at)
truth_of S R into out n0 n1 i yes_at no_at made =
    carried S R (purpose.Truth yes_at no_at) (condition_ways yes_at no_at) (λ G i h. into G i (condition_ways yes_at no_at) h) (λ n b. b)
    (λ p n j m same like h. (purpose.Truth m.yes_to m.no_to, tt, like, out p j m h)) n0 n1 i made

-- one part in place of another that is the same for this purpose
pub same_value : (S T : GraphPath Purpose) → ((G : Graph) (i k : ℕ) → S G i (purpose.Value k) → T G i (purpose.Value k)) →
    ((p : Allowance) (i k : ℕ) → T (Allowed p) i (purpose.Value k) → S (Allowed p) i (purpose.Value k)) →
    (n0 n1 : List Node) (i next : ℕ) → MadeFor S n0 n1 i (purpose.Value next) → MadeFor T n0 n1 i (purpose.Value next)
same_value S T into out n0 n1 i next made =
    as_value (λ G i k. S G i (purpose.Value k)) T into out n0 n1 i next (value_of S (λ G i k. S G i (purpose.Value k)) (λ G i k h. h) (λ p i k h. h) n0 n1 i next made)

pub same_effect : (S T : GraphPath Purpose) → ((G : Graph) (i k : ℕ) → S G i (purpose.Effect k) → T G i (purpose.Effect k)) →
    ((p : Allowance) (i k : ℕ) → T (Allowed p) i (purpose.Effect k) → S (Allowed p) i (purpose.Effect k)) →
    (n0 n1 : List Node) (i next : ℕ) → MadeFor S n0 n1 i (purpose.Effect next) → MadeFor T n0 n1 i (purpose.Effect next)
same_effect S T into out n0 n1 i next made =
    as_effect (λ G i k. S G i (purpose.Effect k)) T into out n0 n1 i next (effect_of S (λ G i k. S G i (purpose.Effect k)) (λ G i k h. h) (λ p i k h. h) n0 n1 i next made)

pub same_truth : (S T : GraphPath Purpose) → ((G : Graph) (i : ℕ) (w : Ways) → S G i (purpose.Truth w.yes_to w.no_to) → T G i (purpose.Truth w.yes_to w.no_to)) →
    ((p : Allowance) (i : ℕ) (w : Ways) → T (Allowed p) i (purpose.Truth w.yes_to w.no_to) → S (Allowed p) i (purpose.Truth w.yes_to w.no_to)) →
    (n0 n1 : List Node) (i yes_at no_at : ℕ) → MadeFor S n0 n1 i (purpose.Truth yes_at no_at) → MadeFor T n0 n1 i (purpose.Truth yes_at no_at)
same_truth S T into out n0 n1 i yes_at no_at made =
    as_truth (λ G i (w : Ways). S G i (purpose.Truth w.yes_to w.no_to)) T into out n0 n1 i yes_at no_at
    (truth_of S (λ G i (w : Ways). S G i (purpose.Truth w.yes_to w.no_to)) (λ G i w h. h) (λ p i w h. h) n0 n1 i yes_at no_at made)
