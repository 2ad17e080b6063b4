use Rattle.std.proofs.Common.{◌≡◌, ◌≤◌, ◌∙◌, ℕ, length, arith, ap, subst}
use Rattle.std.proofs.lemmas.List.{length-map}
use Rattle.elimination_tallies.specs.Recount.{run_of_report, runs_of}
use Rattle.suspicious_lines.specs.Places.{place_count}
use Rattle.suspicious_lines.specs.Text.{AreLinesOf, suspicious_text}
use Rattle.suspicious_lines.proofs.Telling.{AreKept, kept-runs, kept-shown, kept-told}
use Rattle.suspicious_lines.proofs.lines.lines_of.Goals as goal

pub listed-requires : goal.listed-requires
listed-requires c =
    let runs = runs_of c.args.collection.now.reports in
    kept-runs c.args.table.now runs c.totals_of-totals.result c.in_ok-suspects.suspects.items (omega (arith, length-map c.args.collection.now.reports run_of_report, c.reports_held-held.ensures.value, c.reports_held-held.ensures.most))
    (record { failing = c.totals_of-totals.ensures.failing; successful = c.totals_of-totals.ensures.successful; suspects_are = c.in_ok-suspects.ensures })

pub suspicious_text-requires : goal.suspicious_text-requires
suspicious_text-requires c =
    let runs = runs_of c.args.collection.now.reports in
    let kept : AreKept c.args.table.now runs c.totals_of-totals.result c.in_ok-suspects.suspects.items = record { failing = c.totals_of-totals.ensures.failing; successful = c.totals_of-totals.ensures.successful; suspects_are = c.in_ok-suspects.ensures } in
    let few : length runs ≤ 100000 = omega (arith, length-map c.args.collection.now.reports run_of_report, c.reports_held-held.ensures.value, c.reports_held-held.ensures.most) in
    rw c.as_slice-2.ensures.value (kept-shown c.args.table.now runs c.totals_of-totals.result c.in_ok-suspects.suspects.items c.in_ok-rows.rows.items c.args.apart c.from.result c.sites-sites.ensures.is_table few kept c.in_ok-rows.ensures)

pub returns : goal.returns
returns c =
    let table = c.args.table.now in
    let t = c.totals_of-totals.result in
    let places = c.in_ok-places.places in
    let runs = runs_of c.args.collection.now.reports in
    let kept : AreKept table runs t c.in_ok-suspects.suspects.items = record { failing = c.totals_of-totals.ensures.failing; successful = c.totals_of-totals.ensures.successful; suspects_are = c.in_ok-suspects.ensures } in
    let counted : places ≡ place_count c.in_ok-suspects.suspects.items = c.in_ok-places.ensures ∙ ap place_count c.as_slice.ensures.value in
    let text : c.in_ok-text.text.items ≡ suspicious_text table t.failing t.successful places c.in_ok-rows.rows.items = c.in_ok-text.ensures ∙ ap (suspicious_text table t.failing t.successful places) c.as_slice-2.ensures.value in
    subst (λ (n : ℕ). AreLinesOf table runs n c.args.apart c.in_ok-text.text.items) c.from.ensures
    (kept-told table runs t c.in_ok-suspects.suspects.items c.in_ok-rows.rows.items c.args.apart c.from.result places c.in_ok-text.text.items kept counted c.in_ok-rows.ensures text)
