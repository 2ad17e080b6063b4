use Rattle.std.proofs.Common.{◌≡◌, ◌≤◌, ◌∷◌, ◌++◌, [], ap, sym, subst, ◌∙◌}
use Rattle.report_file.specs.Report.{AreEntries, RiseFrom}
use Rattle.report_file.proofs.Whole.{AreEntries-more, RiseFrom-more, end_of, end_of-more}
use Rattle.collector.specs.RunText.{SiteStands, sites_text}
use Rattle.collector.proofs.RunTexts.{entries-longest, sites-more}
use Rattle.collector.proofs.run_text.site_lines.Goals as goal

pub loop-entry-preserved : goal.loop-entry-preserved
loop-entry-preserved c =
    let i = c.loop-entry.invariant in
    let s = c.in-Some.ensures in
    let es = c.loop-entry.entries in
    let e = c.in-Some.entry in
    let pushed : c.push.new.self ≡ es ++ e ∷ [] = c.in_ok-push.ensures.ok in record {
      are = subst AreEntries (sym pushed) (AreEntries-more es e i.are s.is_next.is_entry);
      rising = subst (RiseFrom 0) (sym pushed) (RiseFrom-more 0 es e i.rising (subst (λ n. n ≤ e.site) i.site s.is_next.rises));
      site = sym (end_of-more 0 es e) ∙ ap (end_of 0) (sym pushed);
      text = sites-more c.args.bytes.now es c.loop-entry.rest.now c.in-Some.after.now e i.text s.text_is ∙ ap (λ xs. sites_text xs ++ c.in-Some.after.now) (sym pushed);
    }

pub returns-clause-longest : goal.returns-clause-longest
returns-clause-longest c = λ entries stand.
    let i = c.loop-entry.invariant in
    entries-longest 0 c.loop-entry.entries entries c.loop-entry.rest.now stand.rest i.are stand.are_entries stand.rising (sym i.text ∙ stand.text_is)
    (λ e more s. c.in_default.ensures e more (subst (λ n. SiteStands c.loop-entry.rest.now n e more) (sym i.site) s))
