use Rattle.lower_fits.proofs.Bodies.{body_stands}
use Rattle.lower_fits.proofs.nodes.the_bodies_of_a_text_stand_among_its_tokens.Goals as goal

pub returns : goal.returns
returns c = λ text number body shaped constants e. body_stands text number body shaped constants e
