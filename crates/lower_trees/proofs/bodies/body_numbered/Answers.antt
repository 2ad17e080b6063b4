use Rattle.std.proofs.Common.{sym, ◌∙◌}
use Rattle.std.specs.Prelude.{map}
use Rattle.c_syntax.specs.Plain.{plain_item}
use Rattle.lower_trees.proofs.Bodied.{no_body, the_body}
use Rattle.lower_trees.proofs.bodies.body_numbered.Goals as goal

pub returns-in-None : goal.returns-in-None
returns-in-None c = no_body (map plain_item c.args.items.now) c.args.places.now c.args.number c.requires (sym c.in-None.ensures)

pub returns-in-Some : goal.returns-in-Some
returns-in-Some c =
    c.body_at.ensures ∙ the_body (map plain_item c.args.items.now) c.args.places.now c.args.number c.in-Some.place c.requires (sym c.in-Some.ensures)
