-- Nodes of which those are kept that name what is there and may stand.
use Rattle.std.specs.Prelude.{ℕ, Bool, ◌&&◌, if◌then◌else◌, List, map, Option}
use Rattle.flow.specs.declared.node.Node.{Node}
use Rattle.flow.specs.declared.node.Node.TheVariants.{Exit}
use Rattle.flow.specs.declared.scope.Bounds.{Bounds}
use Rattle.flow.specs.declared.scope.Names.{Names}
use Rattle.flow.specs.declared.site.Site.{Site}
use Rattle.flow.specs.Words.{names_fit, view}
use Rattle.lower.specs.Ready.{may_stand}

-- a node among these that names what is there, and may stand there
abbrev pub is_kept_node : Names → Bounds → (ℕ → Option Site) → List Node → Node → Bool
is_kept_node names bounds site_of nodes node = names_fit names bounds node && may_stand site_of nodes (view node)

-- the node, or one that ends the run where it doesn't stay among these: no way through a body leads there
abbrev pub kept_node : Names → Bounds → (ℕ → Option Site) → List Node → Node → Node
kept_node names bounds site_of nodes node = if is_kept_node names bounds site_of nodes node then node else Exit

abbrev pub kept_nodes : Names → Bounds → (ℕ → Option Site) → List Node → List Node
kept_nodes names bounds site_of nodes = map (kept_node names bounds site_of nodes) nodes
