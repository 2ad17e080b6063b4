use Rattle.compiler.proofs.Rejecting.{refuses_text}
use Rattle.compiler.proofs.laws.refused_texts_are_not_accepted.Goals as goal

pub returns : goal.returns
returns c = λ refusal text h. refuses_text refusal text h
