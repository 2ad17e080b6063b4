use Rattle.std.proofs.Common.{◌≡◌, ◌-◌, ◌≤◌}
use Rattle.program_lines.specs.Rows.{sizes_of}
use Rattle.program_lines.proofs.CellLoops.{with_front}
use Rattle.program_lines.proofs.rows.sizes.Given as goal

-- so many sizes were read
abbrev pub invariant-loop-place : goal.invariant-loop-place
invariant-loop-place l = record {
  so_far : sizes_of l.count l.fn.fields ≡ with_front l.sizes (sizes_of (l.count - l._place) l.fields);
  within : l._place ≤ l.count;
}
