use Rattle.std.proofs.Common.{[], ◌∷◌, decimal}
use Rattle.std.specs.Prelude.{codes}
use Rattle.flow.specs.Predicates.{predicate_text}
use Rattle.suspicious_lines.specs.Text.{place_fields, strength_field}
use Rattle.suspicious_lines.proofs.LineTexts.{line-joined}
use Rattle.suspicious_lines.proofs.text.push_line.Goals as goal

pub returns : goal.returns
returns c =
    let s = c.args.suspect.now in
    let t = c.args.totals in
    line-joined (codes "line") (decimal c.args.number ∷ decimal s.predicate ∷ place_fields c.args.table.now s) (decimal s.tally.a)
    (decimal s.tally.b ∷ decimal s.tally.c ∷ decimal s.tally.d ∷ strength_field t.failing t.successful s ∷ predicate_text c.args.table.now.sites s.predicate ∷ []) c.args.out.now.items c.push_front.new.out.items c.push_back.new.out.items
    c.in_ok-push_front.ensures c.in_ok-push_back.ensures
