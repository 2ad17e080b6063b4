use Rattle.std.proofs.Common.{◌≡◌, ◌++◌, map, take}
use Rattle.cbi_base.specs.Text.{line_of_fields, text_of}
use Rattle.affinity.specs.Text.{near_fields}
use Rattle.affinity.proofs.text.push_all_near.Given as goal

abbrev pub invariant-loop-one : goal.invariant-loop-one
invariant-loop-one l = l.out.items ≡ l.initial.out.items ++ text_of (map line_of_fields (map (near_fields l.table) (take l.one-index l.near)))
