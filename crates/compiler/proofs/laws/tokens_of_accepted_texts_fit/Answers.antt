use Rattle.compiler.proofs.Fitting.{tree_kept}
use Rattle.compiler.proofs.laws.tokens_of_accepted_texts_fit.Goals as goal

pub returns : goal.returns
returns c = λ text tree known h. tree_kept text tree known h
