use Rattle.std.proofs.Common.{◌≡◌, ◌≤◌, ℕ, List, length, drop}
use Rattle.std.specs.Prelude.{reverse}
use Rattle.sites.specs.Noted.{first_in}
use Rattle.sites.specs.Visible.{all_again, declared_again}
use Rattle.sites.proofs.noted.all_again.Given as goal

-- what was found and what is kept tell of the variables from this place on
abbrev pub invariant-loop-place : goal.invariant-loop-place
invariant-loop-place l = record {
  within : l.place ≤ length l.variables;
  again : reverse l.again.items ≡ all_again (drop l.place l.variables);
  firsts : (name : List ℕ) → first_in l.firsts.entries name ≡ declared_again name (drop l.place l.variables);
}
