use Rattle.std.proofs.Common.{◌≡◌, drop}
use Rattle.c_types_rules.specs.Plain.{plain_type}
use Rattle.c_types_rules.specs.Selecting.{typed_comma}
use Rattle.c_types_rules.specs.TypeTree.{Void}
use Rattle.c_types_rules.proofs.selecting.sequenced.Given as goal

abbrev pub invariant-loop-x : goal.invariant-loop-x
invariant-loop-x l = typed_comma (plain_type l.last) (drop l.x-index l.operands) ≡ typed_comma Void l.operands
