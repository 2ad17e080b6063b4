-- What it is for a graph to do a part of a text: from a node on it does the part, and goes on at a node. The graph is a relation between numbers
-- and views of nodes, so that it may be one that still grows, or one with other numbers.
use Rattle.std.specs.Prelude.{◌≡◌, ◌⊎◌, ℕ, pos, Bool, true, false, List, [], ◌∷◌}
use Rattle.cbi_base.specs.declared.scalar.Kind.TheVariants.{Char}
use Rattle.flow.specs.declared.node.Node.{Node}
use Rattle.flow.specs.declared.node.Node.TheVariants as node
use Rattle.flow.specs.declared.node.View.{View}
use Rattle.flow.specs.declared.node.View.TheVariants as view

-- which node has which view
abbrev pub Graph : Type 1
Graph = ℕ → View → Type 0

-- from a node on, to where control goes on
abbrev pub Path : Type 0 → Type 1
Path K = ℕ → K → Type 0

-- one path, and then another one
infixr 8 ◌then◌
abbrev pub ◌then◌ : {K : Type 0} → Path ℕ → Path K → Path K
(P then Q) i k = (m : ℕ) × P i m × Q m k

-- the two ways of a condition
pub record Ways : Type 0 where
  pub yes_to : ℕ
  pub no_to : ℕ

-- where a statement goes on: after it, at a `break`, a `continue`, a `return` with a value and one without
pub record Exits : Type 0 where
  pub next : ℕ
  pub breaks : ℕ
  pub continues : ℕ
  pub gives : ℕ
  pub leaves : ℕ

-- the paths of an expression: its value, the place that it finds, what it does where nothing takes its value, and the ways that its truth goes
pub record Emitted : Type 1 where
  pub value : Path ℕ
  pub place : Path ℕ
  pub effect : Path ℕ
  pub truth : Path Ways

-- no node at all
abbrev pub Nothing : Path ℕ
Nothing i k = i ≡ k

-- one of two paths, as the ways of the first one say
abbrev pub Either : {K : Type 0} → Path Ways → Path K → Path K → Path K
Either D R S i k = (yes_at no_at : ℕ) × D i (record { yes_to = yes_at; no_to = no_at }) × R yes_at k × S no_at k

-- one of two paths, whichever
abbrev pub OneOf : {K : Type 0} → Path K → Path K → Path K
OneOf R S i k = R i k ⊎ S i k

-- what is true, and what is false
abbrev pub AlwaysTrue : Path Ways
AlwaysTrue i k = i ≡ k.yes_to

abbrev pub AlwaysFalse : Path Ways
AlwaysFalse i k = i ≡ k.no_to

-- a condition the other way round
abbrev pub SwappedWays : Path Ways → Path Ways
SwappedWays D i k = D i (record { yes_to = k.no_to; no_to = k.yes_to })

module _ (G : Graph) where
  -- a row's node
  abbrev pub Does : Node → Path ℕ
  Does op i k = G i (view.Row op k)

  -- a node that ends the run
  abbrev pub HaltsAt : {K : Type 0} → Node → Path K
  HaltsAt op i k = G i (view.Halts op)

  -- what no run comes to: no status is a `char`
  abbrev pub Stuck : {K : Type 0} → Path K
  Stuck i k = (m : ℕ) × Does (node.Push Char (pos 0) 0) i m × HaltsAt {K = ℕ} node.Exit m 0

  -- the visits of these sites, one after another
  abbrev pub MarksAll : List ℕ → Path ℕ
  MarksAll [] = Nothing
  MarksAll (site ∷ sites) = (λ i k. G i (view.Marks site k)) then MarksAll sites

  -- control goes on where a value's truth says
  abbrev pub ForkTo : Path Ways
  ForkTo i k = G i (view.Forks k.yes_to k.no_to)

  -- control goes on where the truth of the value says
  abbrev pub ValueTruth : Path ℕ → Path Ways
  ValueTruth R = R then ForkTo

  -- the path, where this is known to hold
  abbrev pub PathOrStuck : {K : Type 0} → Bool → Path K → Path K
  PathOrStuck true R = R
  PathOrStuck false R = Stuck
