use Rattle.c_lexer.proofs.OneCutting.{one-ending}
use Rattle.c_lexer.proofs.one_cutting.Goals as goal

pub returns : goal.returns
returns c = λ text a b x y. one-ending text a b x y
