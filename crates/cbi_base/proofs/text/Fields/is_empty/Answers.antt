use Rattle.std.proofs.Common.{sym, ap, ◌∙◌}
use Rattle.std.proofs.lemmas.Bool.{false≢true}
use Rattle.cbi_base.proofs.TextLemmas.{fields_of-some}
use Rattle.cbi_base.specs.Fields.{fields_left}
use Rattle.cbi_base.proofs.text.Fields.is_empty.Goals as goal

pub returns-in-Some : goal.returns-in-Some
returns-in-Some c =
    (λ h. absurd (false≢true h), λ none. absurd (fields_of-some c.in-Some.field-0.now (sym (ap fields_left c.in-Some.is) ∙ c.self.view_is ∙ none)))
