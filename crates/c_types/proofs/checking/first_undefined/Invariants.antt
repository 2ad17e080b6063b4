use Rattle.std.proofs.Common.{◌≡◌, drop}
use Rattle.c_types.specs.Fault.{first_undefined}
use Rattle.c_types.proofs.checking.first_undefined.Given as goal

abbrev pub invariant-loop-call : goal.invariant-loop-call
invariant-loop-call l = record {
  counted : l.token ≡ l.call-index;
  same : first_undefined l.token (drop l.call-index l.calls) l.defined_as ≡ first_undefined 0 l.calls l.defined_as;
}
