-- Nodes for each path of an expression.
use Rattle.std.specs.Prelude.{ℕ}
use Rattle.lower_relation.specs.Paths.{Emitted, Graph}
use Rattle.compiler_exists.specs.Built.{Builds}
use Rattle.lower_nodes.specs.Ends.{one_end, two_ends}

-- for its value, the place that it finds, what it does where nothing takes its value, and the ways that its truth goes
pub record BuildsAll (m : Graph → Emitted) (room : ℕ) : Type 0 where
  pub value : Builds one_end (λ G. (m G).value) room
  pub place : Builds one_end (λ G. (m G).place) room
  pub effect : Builds one_end (λ G. (m G).effect) room
  pub truth : Builds two_ends (λ G. (m G).truth) room
