use Rattle.std.proofs.Common.{◌≡◌, ◌+◌, ℕ, None, length, ap, sym, subst, ◌∙◌, refl, rules, arith}
use Rattle.std.specs.Ordering.{nat_cmp}
use Rattle.std.specs.BTreeMap.{insert_entry}
use Rattle.std.proofs.lemmas.List.{length-map}
use Rattle.report_file.specs.declared.report.Report.{Report}
use Rattle.collector.specs.declared.collection.Held.{Held}
use Rattle.collector.specs.Collected.{IsOfCollection, marks_of, report_at, with_report}
use Rattle.collector.specs.Kept.{AreHeld}
use Rattle.collector.specs.Sites.{first_bad}
use Rattle.collector.proofs.Keeping.{held-insert, length-insert, marks-with, reports_in, values-insert}
use Rattle.collector.proofs.collection.Collection.put.Goals as goal

pub invariant_of-self-2 : goal.invariant_of-self-2
invariant_of-self-2 c =
    let r = c.args.report in
    let old = c.self.inside in
    let entries = old.reports.entries in
    let kept = c.self.invariant in
    let reports : reports_in entries ≡ c.args.self.now.reports = search rules in
    let program : old.program ≡ c.args.self.now.program = search rules in
    let branches : old.branches ≡ c.args.self.now.branches = search rules in
    let inserted : c.insert.new.self.entries ≡ insert_entry nat_cmp entries r.run r = c.in_ok-insert.ensures.entries in
    let number : length (reports_in entries) ≡ length entries = length-map entries (λ (e : ℕ × Report). e.1) in
    let room = ap length reports in
    let absent : report_at r.run (reports_in entries) ≡ None = ap (report_at r.run) reports ∙ c.requires.absent in
    let marks : marks_of (reports_in c.insert.new.self.entries) ≡ marks_of (reports_in entries) + length r.entries =
    ap (λ es. marks_of (reports_in es)) inserted ∙ ap marks_of (values-insert old.program old.branches r entries kept.are_held) ∙ marks-with r (reports_in entries) absent in
    let before = ap marks_of reports in
    let ours : IsOfCollection (record { program = old.program; branches = old.branches; reports = reports_in entries }) r = record { program = c.requires.ours.program ∙ sym program; sites = ap (λ bs. first_bad bs r.entries) branches ∙ c.requires.ours.sites } in record {
      are_held = subst (AreHeld old.program old.branches) (sym inserted) (held-insert old.program old.branches r entries (record { run_is = refl; is_report = c.requires.is_report; program_is = ours.program; sites = ours.sites }) kept.are_held);
      few = omega (arith, ap length inserted, length-insert r entries, c.requires.room);
      marks_are = omega (arith, kept.marks_are, c.len-more.ensures, marks);
      few_marks = omega (arith, kept.marks_are, c.len-more.ensures, before, c.requires.fits);
    }

pub returns-clause-ok : goal.returns-clause-ok
returns-clause-ok c =
    let r = c.args.report in
    let old = c.self.inside in
    let entries = old.reports.entries in
    let reports : reports_in entries ≡ c.args.self.now.reports = search rules in
    let inserted : c.insert.new.self.entries ≡ insert_entry nat_cmp entries r.run r = c.in_ok-insert.ensures.entries in
    let whole : reports_in c.insert.new.self.entries ≡ with_report r c.args.self.now.reports =
    ap reports_in inserted ∙ values-insert old.program old.branches r entries c.self.invariant.are_held ∙ ap (with_report r) reports in
    let program : old.program ≡ c.args.self.now.program = search rules in
    let branches : old.branches ≡ c.args.self.now.branches = search rules in
    ap (λ rs. let h : Held = record { program = old.program; branches = old.branches; reports = rs } in h) whole
    ∙ ap (λ p. let h : Held = record { program = p; branches = old.branches; reports = with_report r c.args.self.now.reports } in h) program
    ∙ ap (λ bs. let h : Held = record { program = c.args.self.now.program; branches = bs; reports = with_report r c.args.self.now.reports } in h) branches
