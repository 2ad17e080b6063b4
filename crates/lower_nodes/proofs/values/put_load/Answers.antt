use Rattle.std.proofs.Common.{rules}
use Rattle.lower_relation.specs.Values.{LoadAt}
use Rattle.lower_nodes.proofs.Building.{is_stuck}
use Rattle.lower_nodes.proofs.values.put_load.Goals.{in_default-via-in-Some+in_default, in_default-via-in_default}
use Rattle.lower_nodes.proofs.values.put_load.Goals as goal

pub returns-in_ok-i-in_default-clause-made : goal.returns-in_ok-i-in_default-clause-made
returns-in_ok-i-in_default-clause-made c =
    is_stuck (λ G. LoadAt G c.args.of) (λ G. elim c.in_default.branch [ in_default-via-in-Some+in_default w ↦ search rules | in_default-via-in_default w ↦ search rules ]) _ _ _ _
    c.in_ok-i-in_default.ensures.made
