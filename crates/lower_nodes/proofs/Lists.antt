-- Lists, whose items are put from the last one to the first.
use Rattle.std.proofs.Common.{◌≡◌, ℕ, ◌+◌, ◌<◌, sym, subst, List, ◌∷◌, length, drop, get_or}
use Rattle.std.proofs.lemmas.List.{drop_more}
use Rattle.flow.specs.declared.node.Node.{Node}
use Rattle.lower_relation.specs.Paths.{Graph, ◌then◌}
use Rattle.lower_nodes.specs.Made.{GraphPath, Made, MadeTo}
use Rattle.lower_nodes.specs.Standing.{Allowed, Allowance}
use Rattle.lower_nodes.proofs.Building.{both_ways, then_made}

-- one more item is put before those that were put
pub list_step : {X K : Type 0} → {ends : K → List ℕ} → {SameForm : K → K → Type 0} → (part : List X → GraphPath K) (one : GraphPath ℕ) (xs : List X) (m j : ℕ) (d : X) (n0 n1 n2 : List Node)
    (entry i : ℕ) (k : K) → m ≡ j + 1 → j < length xs →
    ((G : Graph) (i : ℕ) (k : K) → (one G then part (drop (j + 1) xs) G) i k → part (get_or xs j d ∷ drop (j + 1) xs) G i k) →
    ((p : Allowance) (i : ℕ) (k : K) → part (get_or xs j d ∷ drop (j + 1) xs) (Allowed p) i k → (one (Allowed p) then part (drop (j + 1) xs) (Allowed p)) i k) →
    MadeTo ends SameForm (part (drop m xs)) n0 n1 entry k → Made one n1 n2 i entry → MadeTo ends SameForm (part (drop j xs)) n0 n2 i k
list_step {ends = ends} {SameForm = SameForm} part one xs m j d n0 n1 n2 entry i k e low into out rest made =
    subst (λ l. MadeTo ends SameForm (part l) n0 n2 i k) (sym (drop_more xs j d low))
    (both_ways (λ G. one G then part (drop (j + 1) xs) G) (part (get_or xs j d ∷ drop (j + 1) xs)) k into out n0 n2 i
    (then_made one (part (drop (j + 1) xs)) n0 n1 n2 i entry k (subst (λ q. MadeTo ends SameForm (part (drop q xs)) n0 n1 entry k) e rest) made))
