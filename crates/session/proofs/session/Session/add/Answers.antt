use Rattle.std.proofs.Common.{◌≡◌, Ok, List, sym, subst, ◌∙◌, ap}
use Rattle.report_file.specs.declared.report.Report.{Report}
use Rattle.collector.specs.Collected.{Adds, without_report}
use Rattle.collector.specs.declared.answers.Added.{Added}
use Rattle.collector.specs.declared.answers.Added.TheVariants.{New}
use Rattle.collector.specs.declared.collection.Held.{Held}
use Rattle.session.specs.Session.{AreKept}
use Rattle.session.proofs.Runs.{without-with}
use Rattle.session.proofs.session.Session.add.Goals as goal

pub put_in-requires : goal.put_in-requires
put_in-requires c =
    let r = c.args.report in
    let old = c.self.inside.collection in
    let new = c.add.new.self in
    let adds : Adds old r (Ok New) new = subst (λ (what : Added). Adds old r (Ok what) new) c.in-Ok-New.field-0-is c.in-Ok-New.ensures.adds in
    let same : without_report r.run new.reports ≡ old.reports = ap (λ (h : Held). without_report r.run h.reports) adds.4 ∙ without-with r old.reports adds.1 in
    subst (λ (rs : List Report). AreKept new.branches rs c.self.inside.kept) (sym same)
    (subst (λ (h : Held). AreKept h.branches old.reports c.self.inside.kept) (sym adds.4) c.self.invariant)
