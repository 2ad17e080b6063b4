-- Nodes of programs that may be sampled, and name what is there.
use Rattle.std.specs.Prelude.{◌≡◌, ℕ, Bool, true, false, not, ◌||◌, List, Option, Some, None, slice_get}
use Rattle.flow.specs.declared.node.Node.{Node}
use Rattle.flow.specs.declared.node.View.{View}
use Rattle.flow.specs.declared.node.View.TheVariants.{Marks, Skips, Tests, Picks, Imports, Exports}
use Rattle.flow.specs.declared.site.Site.{Site}
use Rattle.flow.specs.Words.{view_at, view}
use Rattle.c_meaning.specs.Texts.{is_branch}
use Rattle.lower_nodes.specs.Standing.{is_fork}

-- the site of a condition
abbrev pub is_condition : Option Site → Bool
is_condition None = false
is_condition (Some s) = is_branch s.kind

-- the number of no condition's site
abbrev pub IsFree : (ℕ → Option Site) → ℕ → Type 0
IsFree site_of number = is_condition (site_of number) ≡ false

-- a node among these that doesn't belong to sampling and, where it visits the site of a condition, stands before the fork on it
abbrev pub may_stand : (ℕ → Option Site) → List Node → View → Bool
may_stand site_of nodes (Marks site next) = not (is_condition (site_of site)) || is_fork (view_at (slice_get nodes next))
may_stand site_of nodes (Skips by next) = false
may_stand site_of nodes (Tests site next) = false
may_stand site_of nodes (Picks weight fast slow) = false
may_stand site_of nodes (Imports next) = false
may_stand site_of nodes (Exports next) = false
may_stand site_of nodes other = true

-- each node may stand among the others
pub record AllMayStand (site_of : ℕ → Option Site) (nodes : List Node) : Type 0 where
  pub each : (place : ℕ) (node : Node) → slice_get nodes place ≡ Some node → may_stand site_of nodes (view node) ≡ true
