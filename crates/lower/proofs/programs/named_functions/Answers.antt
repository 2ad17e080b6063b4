use Rattle.std.proofs.Common.{arith, ◌∙◌}
use Rattle.lower.proofs.Assembling.{few_functions, fitting_facts, names_as_many}
use Rattle.lower.proofs.programs.named_functions.Goals as goal

pub functions_of-requires-clause-few : goal.functions_of-requires-clause-few
functions_of-requires-clause-few c =
    omega (
      arith,
      names_as_many c.args.facts.now c.args.table.now _ c.requires.ready c.functions.ensures,
      few_functions c.args.facts.now c.args.table.now c.requires.ready,
    )

pub functions_of-requires-clause-fitting : goal.functions_of-requires-clause-fitting
functions_of-requires-clause-fitting c =
    fitting_facts c.args.facts.now c.args.table.now _ c.requires.sites c.requires.ready c.requires.few
    (names_as_many c.args.facts.now c.args.table.now _ c.requires.ready c.functions.ensures)

pub functions_of-requires-clause-as_many : goal.functions_of-requires-clause-as_many
functions_of-requires-clause-as_many c = names_as_many c.args.facts.now c.args.table.now _ c.requires.ready c.functions.ensures

pub returns-clause-names : goal.returns-clause-names
returns-clause-names c = c.in_ok-functions.ensures.names ∙ c.functions.ensures
