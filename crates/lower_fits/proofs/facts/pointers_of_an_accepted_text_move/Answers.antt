use Rattle.std.proofs.Common.{refl}
use Rattle.c_types_rules.specs.TypeTree.{Array, Pointer}
use Rattle.lower_fits.proofs.NotesOfItems.{noted_moves}
use Rattle.lower_fits.proofs.Operands.{operand_moves}
use Rattle.lower_fits.proofs.facts.pointers_of_an_accepted_text_move.Goals as goal

pub returns-clause-pointers : goal.returns-clause-pointers
returns-clause-pointers c = λ tree walk token to a h complete. noted_moves tree walk a token (Pointer to) to h refl complete

pub returns-clause-arrays : goal.returns-clause-arrays
returns-clause-arrays c = λ tree walk token size to a h complete. noted_moves tree walk a token (Array to size) to h refl complete

pub returns-clause-operands : goal.returns-clause-operands
returns-clause-operands c = λ tree walk x operand to a h leads complete. operand_moves tree walk a x operand to h leads complete
