-- What the nodes of a function may be, and what it is for a node to stand rightly among others: it may be one of the function's, and where it visits
-- the site of a condition, it stands before a fork.
use Rattle.std.specs.Prelude.{◌≡◌, ℕ, ◌≤◌, Bool, true, false, ◌||◌, IsTrue, List, [], ◌∷◌, Some, slice_get}
use Rattle.flow.specs.declared.node.Node.{Node}
use Rattle.flow.specs.declared.node.View.{View}
use Rattle.flow.specs.declared.node.View.TheVariants.{Forks, Marks}
use Rattle.flow.specs.Words.{view_at, view}
use Rattle.lower_relation.specs.Stands.{renumbered_view}

abbrev pub is_fork : View → Bool
is_fork (Forks when_true when_false) = true
is_fork other = false

-- whether the node with this number is a fork
abbrev pub fork_at : List Node → ℕ → Bool
fork_at nodes n = is_fork (view_at (slice_get nodes n))

-- a view without the numbers of its successors
abbrev pub view_without_successors : View → View
view_without_successors v = renumbered_view (λ _. 0) v

-- What the nodes of a function may be, wherever they lead, and which sites are those of no condition. In a graph of such nodes forks alone stand at
-- some numbers, so that a visit may stand before them.
pub record Allowance : Type 0 where
  pub fits : View → Bool
  pub fork : IsTrue (fits (Forks 0 0))
  pub frees : ℕ → Bool
  pub forks_at : ℕ → Bool

-- a visit is one of a site of no condition, or stands before a fork
abbrev pub may_visit : (ℕ → Bool) → (ℕ → Bool) → View → Bool
may_visit frees forks_at (Marks site next) = frees site || forks_at next
may_visit frees forks_at other = true

-- a graph of all nodes that may be
pub record Allowed (s : Allowance) (at : ℕ) (v : View) : Type 0 where
  pub fits : IsTrue (s.fits (view_without_successors v))
  pub visits : IsTrue (may_visit s.frees s.forks_at v)
  pub turns : s.forks_at at ≡ true → is_fork v ≡ true

-- a node with this view stands rightly among these
pub record StandsRightly (s : Allowance) (nodes : List Node) (v : View) : Type 0 where
  pub fits : IsTrue (s.fits (view_without_successors v))
  pub visits : IsTrue (may_visit s.frees (fork_at nodes) v)

-- all from one on do
pub record AllStand (s : Allowance) (low : ℕ) (nodes : List Node) : Type 0 where
  pub each : (i : ℕ) (x : Node) → low ≤ i → slice_get nodes i ≡ Some x → StandsRightly s nodes (view x)

-- where a fork alone may stand at one number, the node with the other number is a fork
abbrev pub Like : Allowance → List Node → ℕ → ℕ → Type 0
Like s nodes i j = s.forks_at j ≡ true → fork_at nodes i ≡ true

abbrev pub AllLike : Allowance → List Node → List ℕ → List ℕ → Type 0
AllLike s nodes [] [] = Unit {0}
AllLike s nodes (i ∷ is) (j ∷ js) = Like s nodes i j × AllLike s nodes is js
AllLike s nodes is js = ⊥

-- the nodes from one on stand rightly, and the node that came out is like the one at this number
pub record PartStands (s : Allowance) (low : ℕ) (nodes : List Node) (i j : ℕ) : Type 0 where
  pub all : AllStand s low nodes
  pub like : Like s nodes i j
