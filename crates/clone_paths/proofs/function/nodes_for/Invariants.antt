use Rattle.std.proofs.Common.{take}
use Rattle.regions.specs.Rows.{EachFits}
use Rattle.clone_paths.specs.Layout.{sheet_of}
use Rattle.clone_paths.specs.Made.{IsMade}
use Rattle.clone_paths.specs.Sources.{source_tables}
use Rattle.clone_paths.proofs.function.nodes_for.Given as goal

-- the labels before this one have their nodes
abbrev pub invariant-loop-place : goal.invariant-loop-place
invariant-loop-place l = EachFits (IsMade (source_tables l.source (sheet_of l.layout))) (take l.place l.layout.labels.items) l.nodes.items
