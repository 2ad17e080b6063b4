use Rattle.std.proofs.Common.{◌≡◌}
use Rattle.regions.specs.Flags.{is_in}
use Rattle.clone_paths.specs.Layout.{sheet_of}
use Rattle.clone_paths.specs.Made.{parts_from, sheet_at}
use Rattle.clone_paths.proofs.function.lay_out.Given as goal

-- the labels of the nodes before this one
abbrev pub invariant-loop-place : goal.invariant-loop-place
invariant-loop-place l = sheet_of l.layout ≡ sheet_at (is_in l.headers) (parts_from l.source.weighty.now l.source.nodes.now l.source.starts.now l.debts) l.place
