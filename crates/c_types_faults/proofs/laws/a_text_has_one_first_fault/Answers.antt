use Rattle.c_types_faults.proofs.FirstTexts.{text_single, text_told}
use Rattle.c_types_faults.proofs.laws.a_text_has_one_first_fault.Goals as goal

pub returns-clause-single : goal.returns-clause-single
returns-clause-single c = λ t i j a b s. text_single t s i j a b

pub returns-clause-told : goal.returns-clause-told
returns-clause-told c = text_told
