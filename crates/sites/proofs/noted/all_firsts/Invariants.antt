use Rattle.std.proofs.Common.{◌≡◌, ◌≤◌, length, drop}
use Rattle.std.specs.Prelude.{reverse}
use Rattle.sites.specs.Near.{all_firsts, first_from}
use Rattle.sites.proofs.noted.all_firsts.Given as goal

-- what was found tells of the variables from this place on
abbrev pub invariant-loop-place : goal.invariant-loop-place
invariant-loop-place l = record {
  within : l.place ≤ length l.variables;
  firsts : reverse l.firsts.items ≡ all_firsts (drop l.place l.variables);
  first : l.first ≡ first_from (drop l.place l.variables);
}
