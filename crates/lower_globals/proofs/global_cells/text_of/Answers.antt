use Rattle.std.proofs.Common.{sym, ap, ◌∙◌}
use Rattle.std.specs.Prelude.{slice_get}
use Rattle.std.specs.Option.{option_and_then}
use Rattle.c_syntax.specs.Plain.{plain_expr}
use Rattle.c_syntax.proofs.PlainExprs.{plain_strings}
use Rattle.c_meaning.specs.Meaning.{text_of_string}
use Rattle.lower_facts.specs.Facts.{facts_in}
use Rattle.lower_globals.proofs.global_cells.text_of.Goals as goal

pub returns-in-Some : goal.returns-in-Some
returns-in-Some c =
    c.text_numbered.ensures
    ∙ ap (λ l. slice_get l c.in-Some.number) c.texts.ensures
    ∙ ap (option_and_then (slice_get (facts_in c.args.facts.now).statics.texts)) c.in-Some.ensures
    ∙ sym (ap (text_of_string (facts_in c.args.facts.now)) (ap plain_expr c.in-Strings.is ∙ plain_strings c.in-Strings.token c.in-Strings.parts))
