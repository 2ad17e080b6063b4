use Rattle.std.proofs.Common.{◌≡◌, ◌++◌, length, map}
use Rattle.c_types_rules.specs.Plain.{plain_type}
use Rattle.c_types.specs.Answers.{known_of}
use Rattle.sites.specs.Near.{TellEach, partners_among}
use Rattle.sites.specs.SitesAt.{pair_on}
use Rattle.sites.specs.Visible.{slot_of, variable_partners}
use Rattle.sites.proofs.partners.add_variable_pairs.Given as goal

-- with those at the places that are left it is all of them
abbrev pub invariant-loop-left : goal.invariant-loop-left
invariant-loop-left l = record {
  is : l.sites ++ map (pair_on l.stand l.target.entry.now.name (slot_of l.target.entry.now.variable))
      (partners_among (known_of l.ground.checked.now) l.stand.token l.target.place (plain_type l.target.ctype.now) l.left)
      ≡ l.fn.sites ++ map (pair_on l.stand l.target.entry.now.name (slot_of l.target.entry.now.variable))
      (variable_partners (known_of l.ground.checked.now) l.stand.token l.target.place (plain_type l.target.ctype.now) 0
      (known_of l.ground.checked.now).variables);
  told : TellEach (known_of l.ground.checked.now) l.stand.token l.left;
}

abbrev pub decreases-loop-left : goal.decreases-loop-left
decreases-loop-left l = length l.left
