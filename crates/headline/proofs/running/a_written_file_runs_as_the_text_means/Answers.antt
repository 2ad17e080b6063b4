use Rattle.command_transform.specs.Transform.{plan_of}
use Rattle.headline.proofs.AsMeant.{does-as-meant, reports-as-meant}
use Rattle.headline.proofs.running.a_written_file_runs_as_the_text_means.Goals as goal

pub returns-clause-ran : goal.returns-clause-ran
returns-clause-ran g c = λ words text file tree known told r before after is accepted ran same.
    does-as-meant c.one_ending.ensures c.one_program.ensures c.one_accepted_text.ensures.tree c.one_accepted_text.ensures.known text file (plan_of words) is.program is.compiled is.spells
    tree known accepted told r before after ran same

pub returns-clause-reported : goal.returns-clause-reported
returns-clause-reported g c = λ words text file tree known r before after is accepted ran same.
    reports-as-meant c.one_ending.ensures c.one_program.ensures c.one_accepted_text.ensures.tree c.one_accepted_text.ensures.known text file (plan_of words) is.program is.compiled is.spells
    tree known accepted r before after ran same
