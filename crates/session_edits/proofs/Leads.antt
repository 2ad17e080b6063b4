-- The lines of edits lead from the start to an end.
use Rattle.std.proofs.Common.{◌≡◌, ◌+◌, ◌≤◌, ℕ, inl, inr, List, [], ◌∷◌, ◌++◌, length, Option, None, Some, codes, ap, sym, subst, ◌∙◌, refl, append_assoc, arith}
use Rattle.std.specs.Prelude.{map}
use Rattle.std.specs.List.{AllByRecursion, flat_map}
use Rattle.std.proofs.lemmas.List.{append-nil, map-append}
use Rattle.std.specs.Global.{Global}
use Rattle.cbi_base.specs.Words.{LeadsTo, ReadsLines, line_of_fields}
use Rattle.cbi_base.specs.declared.identity.ProgramId.{ProgramId}
use Rattle.cbi_base.proofs.FieldLemmas.{IsField-decimal}
use Rattle.report_file.specs.declared.draft.Version.TheVariants.{Second}
use Rattle.report_file.specs.declared.report.Entry.{Entry}
use Rattle.report_file.specs.declared.report.Report.{Report}
use Rattle.report_file.specs.Report.{AreEntries, IsReport, RiseFrom}
use Rattle.report_file.specs.RunLine.{IsRunLine, line_of, run_line_fields}
use Rattle.report_file.specs.Spelling.{site_fields}
use Rattle.report_file.proofs.LineLemmas.{IsRow, row-label, row-site}
use Rattle.report_file.proofs.RunLines.{run-row, second-not-first}
use Rattle.report_file.proofs.Whole.{end_of, rows-lines}
use Rattle.session_edits.specs.declared.draft.Draft.{Draft}
use Rattle.session_edits.specs.declared.draft.Due.TheVariants as due
use Rattle.session_edits.specs.declared.draft.Reading.{Reading}
use Rattle.session_edits.specs.declared.edit.Edit.{Edit}
use Rattle.session_edits.specs.declared.edit.Edit.TheVariants.{Add, Remove, Relabel, Rank}
use Rattle.session_edits.specs.Grammar.{AddFollows, EditLineFollows, EditsEnd, Goes, current_addition, draft_before_edits, report_of_run_line, report_closed, edits_start}
use Rattle.session_edits.specs.Spelling.{AreEdits, IsEdit, SpellsEdits, byte_limit, edit_rows, edits_rows, rank_limit, ranks_in}
use Rattle.session_edits.proofs.Room.{lead-on}

leads-append : (xs ys : List (List ℕ)) (a b c : Draft) → LeadsTo Goes a xs b → LeadsTo Goes b ys c → LeadsTo Goes a (xs ++ ys) c
leads-append [] ys a b c first second = subst (λ d. LeadsTo Goes d ys c) (sym first) second
leads-append (x ∷ xs) ys a b c first second = (first.0, first.1, leads-append xs ys first.0 b c first.2 second)

-- a draft among the edits
abbrev at : Global → ProgramId → List Edit → Option Report → ℕ → ℕ → Draft
at alloc program edits current site ranks = record { alloc = alloc; due = due.Edits; program = program; edits = edits; current = current; site = site; ranks = ranks }

abbrev with_entries : Report → List Entry → Report
with_entries r entries = record r { entries = entries }

sites-lead : (alloc : Global) (program : ProgramId) (edits : List Edit) (r : Report) (ranks : ℕ) (done more : List Entry) (site : ℕ) → AreEntries more → RiseFrom site more → LeadsTo Goes (at alloc program edits (Some (with_entries r done)) site ranks) (map line_of_fields (map site_fields more)) (at alloc program edits (Some (with_entries r (done ++ more))) (end_of site more) ranks)
sites-lead alloc program edits r ranks done [] site are rise = ap (λ es. at alloc program edits (Some (with_entries r es)) site ranks) (sym (append-nil done))
sites-lead alloc program edits r ranks done (e ∷ more) site are rise =
    let rest = sites-lead alloc program edits r ranks (done ++ e ∷ []) more (e.site + 1) are.1 rise.1 in (
      at alloc program edits (Some (with_entries r (done ++ e ∷ []))) (e.site + 1) ranks,
      inr (inl (record { report = with_entries r done; value = e; is_current = refl; is_next = record { is_entry = are.0; rises = rise.0 }; line_is = refl; after_is = refl })),
      subst (λ es. LeadsTo Goes (at alloc program edits (Some (with_entries r (done ++ e ∷ []))) (e.site + 1) ranks) (map line_of_fields (map site_fields more)) (at alloc program edits (Some (with_entries r es)) (end_of (e.site + 1) more) ranks)) (append_assoc done (e ∷ []) more) rest,
    )

-- where the lines of edits lead: all of them are there
record Arrives (alloc : Global) (program : ProgramId) (from : Draft) (lines : List (List ℕ)) (all : List Edit) (ranks : ℕ) : Type 0 where
  edits : List Edit
  current : Option Report
  site : ℕ
  leads : LeadsTo Goes from lines (at alloc program edits current site ranks)
  whole_is : edits ++ current_addition current ≡ all

is-run-line : (r : Report) → IsReport r → IsRunLine Second (line_of r)
is-run-line r is = record { run = is.run; outcome = is.outcome; work = is.work; label = λ e. absurd (second-not-first e) }

edit-leads : (alloc : Global) (program : ProgramId) (edits : List Edit) (current : Option Report) (site ranks : ℕ) (e : Edit) → IsEdit program e → ranks + ranks_in (e ∷ []) ≤ rank_limit → Arrives alloc program (at alloc program edits current site ranks) (map line_of_fields (edit_rows e)) ((edits ++ current_addition current) ++ e ∷ []) (ranks + ranks_in (e ∷ []))
edit-leads alloc program edits current site ranks (Add r) is few =
    let whole = edits ++ current_addition current in
    let x = line_of r in
    let read = with_entries (report_of_run_line program x) r.entries in
    let same : read ≡ r = ap (λ p. record r { program = p }) (sym is.1) in
    let first = at alloc program whole (Some (report_of_run_line program x)) 0 ranks in
    let line : AddFollows (at alloc program edits current site ranks) (line_of_fields (codes "add" ∷ run_line_fields Second x)) first = record { value = x; is_line = is-run-line r is.0; line_is = refl; after_is = refl } in
    let sites = sites-lead alloc program whole (report_of_run_line program x) ranks [] r.entries 0 is.0.entries is.0.rising in record {
      edits = whole;
      current = Some read;
      site = end_of 0 r.entries;
      leads = (first, inl line, subst (λ n. LeadsTo Goes first (map line_of_fields (map site_fields r.entries)) (at alloc program whole (Some read) (end_of 0 r.entries) n)) (omega arith) sites);
      whole_is = ap (λ y. whole ++ Add y ∷ []) same;
    }
edit-leads alloc program edits current site ranks (Remove run) is few =
    let whole = edits ++ current_addition current in record {
      edits = whole ++ Remove run ∷ [];
      current = None;
      site = site;
      leads = (at alloc program (whole ++ Remove run ∷ []) None site ranks, inr (inr (inl (record { value = Remove run; is_change = is; line_is = refl; after_is = refl }))), ap (λ n. at alloc program (whole ++ Remove run ∷ []) None site n) (omega arith));
      whole_is = append-nil (whole ++ Remove run ∷ []);
    }
edit-leads alloc program edits current site ranks (Relabel run label) is few =
    let whole = edits ++ current_addition current in record {
      edits = whole ++ Relabel run label ∷ [];
      current = None;
      site = site;
      leads = (at alloc program (whole ++ Relabel run label ∷ []) None site ranks, inr (inr (inl (record { value = Relabel run label; is_change = is; line_is = refl; after_is = refl }))), ap (λ n. at alloc program (whole ++ Relabel run label ∷ []) None site n) (omega arith));
      whole_is = append-nil (whole ++ Relabel run label ∷ []);
    }
edit-leads alloc program edits current site ranks Rank is few =
    let whole = edits ++ current_addition current in record {
      edits = whole ++ Rank ∷ [];
      current = None;
      site = site;
      leads = (at alloc program (whole ++ Rank ∷ []) None site (ranks + 1), inr (inr (inr (inl (record { room = omega arith; line_is = refl; after_is = refl })))), refl);
      whole_is = append-nil (whole ++ Rank ∷ []);
    }

ranks-first : (e : Edit) (more : List Edit) → ranks_in (e ∷ more) ≡ ranks_in (e ∷ []) + ranks_in more
ranks-first (Add r) more = omega arith
ranks-first (Remove run) more = omega arith
ranks-first (Relabel run label) more = omega arith
ranks-first Rank more = omega arith

edits-lead : (alloc : Global) (program : ProgramId) (edits : List Edit) (current : Option Report) (site ranks : ℕ) (more : List Edit) → AreEdits program more → ranks + ranks_in more ≤ rank_limit → Arrives alloc program (at alloc program edits current site ranks) (map line_of_fields (flat_map edit_rows more)) ((edits ++ current_addition current) ++ more) (ranks + ranks_in more)
edits-lead alloc program edits current site ranks [] are few = record {
  edits = edits;
  current = current;
  site = site;
  leads = ap (λ n. at alloc program edits current site n) (omega arith);
  whole_is = sym (append-nil (edits ++ current_addition current));
}
edits-lead alloc program edits current site ranks (e ∷ more) are few =
    let whole = edits ++ current_addition current in
    let from = at alloc program edits current site ranks in
    let count = ranks-first e more in
    let one = edit-leads alloc program edits current site ranks e are.0 (omega (arith, count)) in
    let via = at alloc program one.edits one.current one.site (ranks + ranks_in (e ∷ [])) in
    let rest = edits-lead alloc program one.edits one.current one.site (ranks + ranks_in (e ∷ [])) more are.1 (omega (arith, count)) in
    let sum : (ranks + ranks_in (e ∷ [])) + ranks_in more ≡ ranks + ranks_in (e ∷ more) = omega (arith, count) in
    let to : ℕ → Draft = λ n. at alloc program rest.edits rest.current rest.site n in
    let behind = leads-append (map line_of_fields (edit_rows e)) (map line_of_fields (flat_map edit_rows more)) from via (to ((ranks + ranks_in (e ∷ [])) + ranks_in more)) one.leads rest.leads in record {
      edits = rest.edits;
      current = rest.current;
      site = rest.site;
      leads = subst (λ n. LeadsTo Goes from (map line_of_fields (flat_map edit_rows (e ∷ more))) (to n)) sum (subst (λ lines. LeadsTo Goes from lines (to ((ranks + ranks_in (e ∷ [])) + ranks_in more))) (sym (map-append line_of_fields (edit_rows e) (flat_map edit_rows more))) behind);
      whole_is = rest.whole_is ∙ ap (λ xs. xs ++ more) one.whole_is ∙ append_assoc whole (e ∷ []) more;
    }

site-lines : (entries : List Entry) → AreEntries entries → AllByRecursion IsRow (map site_fields entries)
site-lines [] are = tt
site-lines (e ∷ more) are = (row-site e are.0, site-lines more are.1)

edit-lines : (program : ProgramId) (e : Edit) → IsEdit program e → AllByRecursion IsRow (edit_rows e)
edit-lines program (Add r) is = ((refl, run-row Second (line_of r) (is-run-line r is.0)), site-lines r.entries is.0.entries)
edit-lines program (Remove run) is = ((refl, (IsField-decimal run (omega (arith, is.most)), tt)), tt)
edit-lines program (Relabel run label) is = ((refl, (IsField-decimal run (omega (arith, is.most)), ((row-label label).1.0, tt))), tt)
edit-lines program Rank is = ((refl, tt), tt)

rows-append : (xs ys : List (List (List ℕ))) → AllByRecursion IsRow xs → AllByRecursion IsRow ys → AllByRecursion IsRow (xs ++ ys)
rows-append [] ys all more = more
rows-append (x ∷ xs) ys all more = (all.0, rows-append xs ys all.1 more)

edits-lines : (program : ProgramId) (edits : List Edit) → AreEdits program edits → AllByRecursion IsRow (flat_map edit_rows edits)
edits-lines program [] are = tt
edits-lines program (e ∷ more) are = rows-append (edit_rows e) (flat_map edit_rows more) (edit-lines program e are.0) (edits-lines program more are.1)

-- what is spelled so is read
pub record IsRead (alloc : Global) (program : ProgramId) (text : List ℕ) (edits : List Edit) : Type 0 where
  pub to : Reading
  pub reads : ReadsLines EditLineFollows EditsEnd (edits_start alloc program) text to
  pub edits_are : to.draft.edits ≡ edits

pub spelled-reads : (alloc : Global) (program : ProgramId) (text : List ℕ) (edits : List Edit) → SpellsEdits program text edits → IsRead alloc program text edits
spelled-reads alloc program text edits spells =
    let s1 = at alloc program [] None 0 0 in
    let all = edits-lead alloc program [] None 0 0 edits spells.are_edits (omega (arith, spells.few_ranks)) in
    let s2 = at alloc program all.edits all.current all.site (0 + ranks_in edits) in
    let to : Draft = record (report_closed s2) { due = due.Nothing } in
    let end_row : List (List ℕ) = codes "end" ∷ [] in
    let rows = flat_map edit_rows edits in
    let last : LeadsTo Goes s2 (map line_of_fields (end_row ∷ [])) to = (to, inr (inr (inr (inr (record { line_is = refl; after_is = refl })))), refl) in
    let body : LeadsTo Goes s1 (map line_of_fields (rows ++ end_row ∷ [])) to = subst (λ lines. LeadsTo Goes s1 lines to) (sym (map-append line_of_fields rows (end_row ∷ []))) (leads-append (map line_of_fields rows) (map line_of_fields (end_row ∷ [])) s1 s2 to all.leads last) in
    let lines = map line_of_fields (edits_rows edits) in
    let goes : LeadsTo Goes (draft_before_edits alloc program) lines to = (s1, record { line_is = refl; after_is = refl }, body) in
    let on = lead-on lines byte_limit (draft_before_edits alloc program) to goes (subst (λ t. length t ≤ byte_limit) spells.text_is spells.few_bytes) in record {
      to = record { room = on.left; draft = to };
      reads = record {
        lines = lines;
        text_is = spells.text_is;
        are_lines = rows-lines (edits_rows edits) ((refl, (refl, tt)), rows-append rows (end_row ∷ []) (edits-lines program edits spells.are_edits) ((refl, tt), tt));
        leads = on.leads;
        over = refl;
      };
      edits_are = all.whole_is;
    }
