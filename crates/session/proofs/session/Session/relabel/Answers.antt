use Rattle.std.proofs.Common.{◌≡◌, List, sym, subst, ◌∙◌, ap}
use Rattle.report_file.specs.declared.report.Report.{Report}
use Rattle.collector.specs.Collected.{without_report}
use Rattle.collector.specs.declared.collection.Held.{Held}
use Rattle.session.specs.Session.{AreKept}
use Rattle.session.proofs.Runs.{without-relabelled}
use Rattle.session.proofs.session.Session.relabel.Goals as goal

pub put_in-requires : goal.put_in-requires
put_in-requires c =
    let run = c.args.run in
    let old = c.self.inside.collection in
    let new = c.relabel-found.new.self in
    let same : without_report run new.reports ≡ without_report run old.reports = ap (λ (h : Held). without_report run h.reports) c.relabel-found.ensures.after ∙ without-relabelled run c.args.label old.reports in
    subst (λ (rs : List Report). AreKept new.branches rs c.take_out.new.kept) (sym same)
    (subst (λ (h : Held). AreKept h.branches (without_report run old.reports) c.take_out.new.kept) (sym c.relabel-found.ensures.after) c.take_out.ensures)
