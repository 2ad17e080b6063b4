use Rattle.std.proofs.Common.{refl}
use Rattle.lower_facts.specs.Facts.{source_in}
use Rattle.lower.specs.Fits.{StandIn, names_in}
use Rattle.lower.proofs.functions.emit_function.Goals as goal

pub returns : goal.returns
returns c =
    let fits : StandIn (source_in c.args.facts.now) (names_in c.args.facts.now) c.args.number c.args.signature.now c.in_ok-nodes.nodes.items =
    (rw (c.body-body.ensures, c.gives.ensures) at c.in_ok-nodes.ensures.stand) (names_in c.args.facts.now) c.args.number c.args.signature.now refl c.requires.fits in
    record {
      body = rw (c.body-body.ensures, c.main.ensures, c.gives.ensures) at c.in_ok-nodes.ensures.body;
      stand = fits.stand;
      entry = c.in_ok-nodes.ensures.some;
      fit = fits.fit;
      few = rw c.body-body.ensures at c.in_ok-nodes.ensures.few;
    }

pub body_nodes-requires : goal.body_nodes-requires
body_nodes-requires c = rw c.body-body.ensures (record { room = c.requires.room })
