use Rattle.std.proofs.Common.{subst}
use Rattle.compiler.specs.Compiled.{IsCompiled}
use Rattle.countdown_bank.specs.Bank.{number_after}
use Rattle.command_transform.specs.Transform.{plan_of}
use Rattle.headline.proofs.Chaining.{bank-positive, runs-as-meant}
use Rattle.headline.proofs.laws.written_programs_run_as_the_text_means.Goals as goal

pub returns : goal.returns
returns c = λ words text file bank_text input bank turns p ending is spells bank_is ends.
    runs-as-meant c.one_ending.ensures input (number_after bank) turns c.one_accepted_text.ensures.tree c.one_accepted_text.ensures.known text (plan_of words) p ending
    (subst (IsCompiled text (plan_of words)) (c.one_program.ensures file is.program p is.spells spells) is.compiled)
    (bank-positive bank bank_is.numbers) ends
