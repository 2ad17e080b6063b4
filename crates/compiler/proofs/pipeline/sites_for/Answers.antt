use Rattle.std.proofs.Common.{◌∙◌}
use Rattle.std.proofs.lemmas.Bool.{false≢true}
use Rattle.c_types.specs.Answers.{known_of, tree_of}
use Rattle.compiler.proofs.Planning.{few_sites, many_sites, planned_table}
use Rattle.compiler.proofs.pipeline.sites_for.Goals as goal

pub returns-in-Ok-clause-sites : goal.returns-in-Ok-clause-sites
returns-in-Ok-clause-sites c =
    c.in-Ok.ensures.table
    ∙ planned_table c.schemes_choose_sites.ensures.none c.args.plan (tree_of c.args.checked.now) (known_of c.args.checked.now) c.schemes_of.result c.schemes_of.ensures

pub returns-in-Ok-clause-fits : goal.returns-in-Ok-clause-fits
returns-in-Ok-clause-fits c = few_sites _ _
    (planned_table c.schemes_choose_sites.ensures.none c.args.plan (tree_of c.args.checked.now) (known_of c.args.checked.now) c.schemes_of.result c.schemes_of.ensures)
    (λ more. false≢true (c.in-Ok.ensures.refused more))

pub returns-in-Err-TooManySites-clause-refused : goal.returns-in-Err-TooManySites-clause-refused
returns-in-Err-TooManySites-clause-refused c = many_sites _ _
    (planned_table c.schemes_choose_sites.ensures.none c.args.plan (tree_of c.args.checked.now) (known_of c.args.checked.now) c.schemes_of.result c.schemes_of.ensures)
    (c.in-Err-TooManySites.ensures.too_many c.in-Err-TooManySites.field-0-is)
