use Rattle.std.proofs.Common.{refl, sym, ap, ◌∙◌}
use Rattle.cbi_base.proofs.TextLemmas.{split-lacks, split-at}
use Rattle.cbi_base.specs.Text.{is_space, fields_of}
use Rattle.cbi_base.specs.Fields.{fields_left}
use Rattle.cbi_base.proofs.text.Fields.next.Goals as goal

pub returns-in-None : goal.returns-in-None
returns-in-None c =
    sym c.self.view_is ∙ ap fields_left c.in_ok-bytes.was ∙ split-lacks is_space _ c.in-None.ensures

pub returns-in-Some : goal.returns-in-Some
returns-in-Some c =
    sym c.self.view_is ∙ ap fields_left c.in_ok-bytes.was ∙ ap fields_of c.in-Some.ensures.0 ∙ split-at is_space _ 32 _ c.in-Some.ensures.1 refl
