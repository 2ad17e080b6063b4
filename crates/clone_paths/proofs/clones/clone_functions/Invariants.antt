use Rattle.std.proofs.Common.{◌*◌, ◌≤◌, length, take}
use Rattle.std.specs.List.{sum_by}
use Rattle.regions.specs.Flags.{is_in}
use Rattle.regions.specs.Rows.{EachFits}
use Rattle.flow.specs.declared.program.Function.{Function}
use Rattle.clone_paths.specs.Cloned.{FunctionCloned, StillFits}
use Rattle.clone_paths.proofs.clones.clone_functions.Given as goal

-- the functions before this one are cloned, with few nodes
abbrev pub invariant-loop-number : goal.invariant-loop-number
invariant-loop-number l = record {
  cloned : EachFits (FunctionCloned (is_in l.weighty)) (take l.number l.functions) l.clones.items;
  fits : EachFits StillFits (take l.number l.functions) l.clones.items;
  small : sum_by (λ (f : Function). length f.nodes) l.clones.items ≤ 8 * sum_by (λ (f : Function). length f.nodes) (take l.number l.functions);
}
