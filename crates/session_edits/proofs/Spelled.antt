-- Lines that lead from the start to an end are those of the edits that were read.
use Rattle.std.proofs.Common.{◌≡◌, ◌+◌, ◌<◌, ◌≤◌, ℕ, List, [], ◌∷◌, ◌++◌, length, Option, None, Some, codes, ap, sym, subst, ◌∙◌, refl, append_assoc, arith}
use Rattle.std.specs.Prelude.{map}
use Rattle.std.specs.List.{flat_map}
use Rattle.std.proofs.lemmas.List.{append-nil, map-append}
use Rattle.std.proofs.lemmas.Grind.{flat_map-append}
use Rattle.std.specs.Global.{Global}
use Rattle.cbi_base.specs.Words.{LeadsTo, ReadsLines, IsId, line_of_fields, text_of}
use Rattle.cbi_base.specs.declared.identity.ProgramId.{ProgramId}
use Rattle.report_file.specs.declared.draft.Version.TheVariants.{Second}
use Rattle.report_file.specs.declared.report.Entry.{Entry}
use Rattle.report_file.specs.declared.report.Report.{Report}
use Rattle.report_file.specs.declared.run_line.RunLine.{RunLine}
use Rattle.report_file.specs.Grammar.{IsNextEntry}
use Rattle.report_file.specs.RunLine.{IsRunLine}
use Rattle.report_file.specs.Spelling.{site_fields}
use Rattle.report_file.proofs.Whole.{AreEntries-more, RiseFrom-more, end_of, end_of-more, row-more}
use Rattle.session_edits.specs.declared.draft.Draft.{Draft}
use Rattle.session_edits.specs.declared.draft.Due.{Due}
use Rattle.session_edits.specs.declared.draft.Due.TheVariants as due
use Rattle.session_edits.specs.declared.draft.Reading.{Reading}
use Rattle.session_edits.specs.declared.edit.Edit.{Edit}
use Rattle.session_edits.specs.declared.edit.Edit.TheVariants.{Add, Remove, Relabel, Rank}
use Rattle.session_edits.specs.Grammar.{EditLineComes, EditLineFollows, EditsEnd, Goes, current_addition, draft_before_edits, report_of_run_line, report_closed, edits_start, edits_so_far}
use Rattle.session_edits.specs.Spelling.{AreEdits, IsChange, IsEdit, SpellsEdits, add_fields, edit_fields, edit_rows, edits_rows, rank_limit, ranks_in, site_rows}
use Rattle.session_edits.proofs.Choices.{by-kind}
use Rattle.session_edits.proofs.Room.{lead-within}

abbrev CurrentFits : ProgramId → ℕ → Option Report → Type 0
CurrentFits program site None = Unit {0}
CurrentFits program site (Some r) = IsEdit program (Add r) × (site ≡ end_of 0 r.entries)

-- what holds of the parts that were read
record Kept (program : ProgramId) (edits : List Edit) (current : Option Report) (site ranks : ℕ) : Type 0 where
  is_id : IsId program
  are : AreEdits program edits
  fits : CurrentFits program site current
  ranks_are : ranks ≡ ranks_in edits
  few : ranks ≤ rank_limit

AreEdits-more : (program : ProgramId) (edits : List Edit) (e : Edit) → AreEdits program edits → IsEdit program e → AreEdits program (edits ++ e ∷ [])
AreEdits-more program [] e are is = (is, tt)
AreEdits-more program (x ∷ xs) e are is = (are.0, AreEdits-more program xs e are.1 is)

pub ranks-more : (xs ys : List Edit) → ranks_in (xs ++ ys) ≡ ranks_in xs + ranks_in ys
ranks-more [] ys = omega arith
ranks-more (Add r ∷ xs) ys = ranks-more xs ys
ranks-more (Remove run ∷ xs) ys = ranks-more xs ys
ranks-more (Relabel run label ∷ xs) ys = ranks-more xs ys
ranks-more (Rank ∷ xs) ys = omega (arith, ranks-more xs ys)

-- the report that goes on is whole
closed-kept : (program : ProgramId) (edits : List Edit) (current : Option Report) (site ranks : ℕ) → Kept program edits current site ranks → Kept program (edits ++ current_addition current) None site ranks
closed-kept program edits None site ranks k = subst (λ xs. Kept program xs None site ranks) (sym (append-nil edits)) k
closed-kept program edits (Some r) site ranks k = record {
  is_id = k.is_id;
  are = AreEdits-more program edits (Add r) k.are k.fits.0;
  fits = tt;
  ranks_are = omega (arith, k.ranks_are, ranks-more edits (Add r ∷ []));
  few = k.few;
}

add-kept : (program : ProgramId) (edits : List Edit) (ranks : ℕ) (site : ℕ) (x : RunLine) → Kept program edits None site ranks → IsRunLine Second x → Kept program edits (Some (report_of_run_line program x)) 0 ranks
add-kept program edits ranks site x k is = record {
  is_id = k.is_id;
  are = k.are;
  fits = ((record { program = k.is_id; run = is.run; outcome = is.outcome; work = is.work; entries = tt; rising = tt }, refl), refl);
  ranks_are = k.ranks_are;
  few = k.few;
}

abbrev with_entry : Report → Entry → Report
with_entry r e = record r { entries = r.entries ++ e ∷ [] }

site-fits : (program : ProgramId) (r : Report) (site : ℕ) (e : Entry) → site ≡ end_of 0 r.entries → IsEdit program (Add r) → IsNextEntry site e → IsEdit program (Add (with_entry r e))
site-fits program r site e is_site fits next =
    let is = fits.0 in (
      record {
        program = is.program;
        run = is.run;
        outcome = is.outcome;
        work = is.work;
        entries = AreEntries-more r.entries e is.entries next.is_entry;
        rising = RiseFrom-more 0 r.entries e is.rising (subst (λ s. s ≤ e.site) is_site next.rises);
      },
      fits.1,
    )

site-kept : (program : ProgramId) (edits : List Edit) (r : Report) (site ranks : ℕ) (e : Entry) → Kept program edits (Some r) site ranks → IsNextEntry site e → Kept program edits (Some (with_entry r e)) (e.site + 1) ranks
site-kept program edits r site ranks e k next = record {
  is_id = k.is_id;
  are = k.are;
  fits = (site-fits program r site e k.fits.1 k.fits.0 next, sym (end_of-more 0 r.entries e));
  ranks_are = k.ranks_are;
  few = k.few;
}

change-ranks : (e : Edit) → IsChange e → ranks_in (e ∷ []) ≡ 0
change-ranks (Add r) is = absurd is
change-ranks (Remove run) is = refl
change-ranks (Relabel run label) is = refl
change-ranks Rank is = absurd is

change-edit : (program : ProgramId) (e : Edit) → IsChange e → IsEdit program e
change-edit program (Add r) is = absurd is
change-edit program (Remove run) is = is
change-edit program (Relabel run label) is = is
change-edit program Rank is = absurd is

change-kept : (program : ProgramId) (edits : List Edit) (site ranks : ℕ) (e : Edit) → Kept program edits None site ranks → IsChange e → Kept program (edits ++ e ∷ []) None site ranks
change-kept program edits site ranks e k is = record {
  is_id = k.is_id;
  are = AreEdits-more program edits e k.are (change-edit program e is);
  fits = tt;
  ranks_are = omega (arith, k.ranks_are, ranks-more edits (e ∷ []), change-ranks e is);
  few = k.few;
}

rank-kept : (program : ProgramId) (edits : List Edit) (site ranks : ℕ) → Kept program edits None site ranks → ranks < rank_limit → Kept program (edits ++ Rank ∷ []) None site (ranks + 1)
rank-kept program edits site ranks k room = record {
  is_id = k.is_id;
  are = AreEdits-more program edits Rank k.are tt;
  fits = tt;
  ranks_are = omega (arith, k.ranks_are, ranks-more edits (Rank ∷ []));
  few = omega arith;
}

abbrev title_rows : List (List (List ℕ)) → List (List (List ℕ))
title_rows rows = (codes "cbi-edits" ∷ codes "1" ∷ []) ∷ rows

-- the rows with one row more
add-rows : (program : ProgramId) (edits : List Edit) (x : RunLine) → flat_map edit_rows (edits ++ Add (report_of_run_line program x) ∷ []) ≡ flat_map edit_rows edits ++ add_fields x ∷ []
add-rows program edits x = flat_map-append edit_rows edits (Add (report_of_run_line program x) ∷ [])

more-rows : (r : Report) (e : Entry) → flat_map edit_rows (Add (with_entry r e) ∷ []) ≡ flat_map edit_rows (Add r ∷ []) ++ site_fields e ∷ []
more-rows r e =
    append-nil (edit_rows (Add (with_entry r e))) ∙ ap (λ sites. edit_fields (Add r) ∷ sites) (map-append site_fields r.entries (e ∷ [])) ∙ ap (λ rows. rows ++ site_fields e ∷ []) (sym (append-nil (edit_rows (Add r))))

site-more : (edits : List Edit) (r : Report) (e : Entry) → flat_map edit_rows (edits ++ Add (with_entry r e) ∷ []) ≡ flat_map edit_rows (edits ++ Add r ∷ []) ++ site_fields e ∷ []
site-more edits r e =
    flat_map-append edit_rows edits (Add (with_entry r e) ∷ []) ∙ ap (λ rows. flat_map edit_rows edits ++ rows) (more-rows r e)
    ∙ sym (append_assoc (flat_map edit_rows edits) (flat_map edit_rows (Add r ∷ [])) (site_fields e ∷ []))
    ∙ ap (λ rows. rows ++ site_fields e ∷ []) (sym (flat_map-append edit_rows edits (Add r ∷ [])))

change-sites : (e : Edit) → IsChange e → site_rows e ≡ []
change-sites (Add r) is = absurd is
change-sites (Remove run) is = refl
change-sites (Relabel run label) is = refl
change-sites Rank is = absurd is

alone-rows : (edits : List Edit) (e : Edit) → site_rows e ≡ [] → flat_map edit_rows ((edits ++ e ∷ []) ++ []) ≡ flat_map edit_rows edits ++ edit_fields e ∷ []
alone-rows edits e none =
    ap (flat_map edit_rows) (append-nil (edits ++ e ∷ [])) ∙ flat_map-append edit_rows edits (e ∷ []) ∙ ap (λ rows. flat_map edit_rows edits ++ edit_fields e ∷ (rows ++ [])) none

abbrev rows_at : Due → Draft → List (List (List ℕ))
rows_at due.Title d = []
rows_at due.Edits d = title_rows (flat_map edit_rows (edits_so_far d))
rows_at due.Nothing d = edits_rows d.edits

-- nothing was read
record IsBlank (d : Draft) : Type 0 where
  is_id : IsId d.program
  edits : d.edits ≡ []
  current : d.current ≡ None
  ranks : d.ranks ≡ 0

abbrev SoFar : Due → Draft → Type 0
SoFar due.Title d = IsBlank d
SoFar due.Edits d = Kept d.program d.edits d.current d.site d.ranks
SoFar due.Nothing d = Kept d.program d.edits None d.site d.ranks

record Holds (program : ProgramId) (due : Due) (d : Draft) (lines : List (List ℕ)) : Type 0 where
  program_is : d.program ≡ program
  lines_are : lines ≡ map line_of_fields (rows_at due d)
  so_far : SoFar due d

closed-so : (d : Draft) → Kept d.program d.edits d.current d.site d.ranks → Kept d.program (edits_so_far d) None d.site d.ranks
closed-so d k = closed-kept d.program d.edits d.current d.site d.ranks k

blank-kept : (program : ProgramId) (edits : List Edit) (current : Option Report) (site ranks : ℕ) → IsId program → edits ≡ [] → current ≡ None → ranks ≡ 0 → Kept program edits current site ranks
blank-kept program edits current site ranks id none no_current zero =
    let first : Kept program [] None site 0 = record { is_id = id; are = tt; fits = tt; ranks_are = refl; few = omega arith } in
    subst (λ xs. Kept program xs current site ranks) (sym none) (subst (λ c. Kept program [] c site ranks) (sym no_current) (subst (λ n. Kept program [] None site n) (sym zero) first))

title-step : (program : ProgramId) (d : Draft) (lines : List (List ℕ)) (line : List ℕ) → Holds program due.Title d lines → line ≡ codes "cbi-edits 1" → Holds program due.Edits (record d { due = due.Edits }) (lines ++ line ∷ [])
title-step program d lines line h line_is =
    let blank = h.so_far in record {
      program_is = h.program_is;
      lines_are = row-more lines line [] (codes "cbi-edits" ∷ codes "1" ∷ []) h.lines_are line_is
          ∙ ap (λ xs. map line_of_fields (title_rows (flat_map edit_rows xs))) (sym (ap (λ xs. xs ++ current_addition d.current) blank.edits ∙ ap current_addition blank.current));
      so_far = blank-kept d.program d.edits d.current d.site d.ranks blank.is_id blank.edits blank.current blank.ranks;
    }

add-step : (program : ProgramId) (d : Draft) (lines : List (List ℕ)) (line : List ℕ) (x : RunLine) → Holds program due.Edits d lines → IsRunLine Second x → line ≡ line_of_fields (add_fields x) → Holds program due.Edits (record d { edits = edits_so_far d; current = Some (report_of_run_line d.program x); site = 0 }) (lines ++ line ∷ [])
add-step program d lines line x h is line_is = record {
  program_is = h.program_is;
  lines_are = row-more lines line (rows_at due.Edits d) (add_fields x) h.lines_are line_is ∙ ap (λ rows. map line_of_fields (title_rows rows)) (sym (add-rows d.program (edits_so_far d) x));
  so_far = add-kept d.program (edits_so_far d) d.ranks d.site x (closed-so d h.so_far) is;
}

site-step : (program : ProgramId) (d : Draft) (lines : List (List ℕ)) (line : List ℕ) (r : Report) (e : Entry) → Holds program due.Edits d lines → d.current ≡ Some r → IsNextEntry d.site e → line ≡ line_of_fields (site_fields e) → Holds program due.Edits (record d { current = Some (with_entry r e); site = e.site + 1 }) (lines ++ line ∷ [])
site-step program d lines line r e h is next line_is = record {
  program_is = h.program_is;
  lines_are = row-more lines line (rows_at due.Edits d) (site_fields e) h.lines_are line_is
      ∙ ap (λ rows. map line_of_fields (title_rows rows)) (ap (λ c. flat_map edit_rows (d.edits ++ current_addition c) ++ site_fields e ∷ []) is ∙ sym (site-more d.edits r e));
  so_far = site-kept d.program d.edits r d.site d.ranks e (subst (λ c. Kept d.program d.edits c d.site d.ranks) is h.so_far) next;
}

change-step : (program : ProgramId) (d : Draft) (lines : List (List ℕ)) (line : List ℕ) (e : Edit) → Holds program due.Edits d lines → IsChange e → line ≡ line_of_fields (edit_fields e) → Holds program due.Edits (record (report_closed d) { edits = edits_so_far d ++ e ∷ [] }) (lines ++ line ∷ [])
change-step program d lines line e h is line_is = record {
  program_is = h.program_is;
  lines_are = row-more lines line (rows_at due.Edits d) (edit_fields e) h.lines_are line_is ∙ ap (λ rows. map line_of_fields (title_rows rows)) (sym (alone-rows (edits_so_far d) e (change-sites e is)));
  so_far = change-kept d.program (edits_so_far d) d.site d.ranks e (closed-so d h.so_far) is;
}

rank-step : (program : ProgramId) (d : Draft) (lines : List (List ℕ)) (line : List ℕ) → Holds program due.Edits d lines → d.ranks < rank_limit → line ≡ codes "rank" → Holds program due.Edits (record (report_closed d) { edits = edits_so_far d ++ Rank ∷ []; ranks = d.ranks + 1 }) (lines ++ line ∷ [])
rank-step program d lines line h room line_is = record {
  program_is = h.program_is;
  lines_are = row-more lines line (rows_at due.Edits d) (edit_fields Rank) h.lines_are line_is ∙ ap (λ rows. map line_of_fields (title_rows rows)) (sym (alone-rows (edits_so_far d) Rank refl));
  so_far = rank-kept d.program (edits_so_far d) d.site d.ranks (closed-so d h.so_far) room;
}

end-step : (program : ProgramId) (d : Draft) (lines : List (List ℕ)) (line : List ℕ) → Holds program due.Edits d lines → line ≡ codes "end" → Holds program due.Nothing (record (report_closed d) { due = due.Nothing }) (lines ++ line ∷ [])
end-step program d lines line h line_is = record {
  program_is = h.program_is;
  lines_are = row-more lines line (rows_at due.Edits d) (codes "end" ∷ []) h.lines_are line_is;
  so_far = closed-so d h.so_far;
}

abbrev HoldsMore : ProgramId → List (List ℕ) → List ℕ → Due → Draft → Type 0
HoldsMore program lines line due after = Holds program due after (lines ++ line ∷ [])

-- a state after which the same is due
so-after : (program : ProgramId) (lines : List (List ℕ)) (line : List ℕ) (want : Due) (made after : Draft) → made.due ≡ want → after ≡ made → HoldsMore program lines line want made → HoldsMore program lines line after.due after
so-after program lines line want made after is same h =
    subst (λ a. HoldsMore program lines line a.due a) (sym same) (subst (λ x. HoldsMore program lines line x made) (sym is) h)

-- what was read holds of one more line
step : (program : ProgramId) (now : Due) (d : Draft) → d.due ≡ now → (lines : List (List ℕ)) (line : List ℕ) (after : Draft) → Holds program now d lines → EditLineComes now d line after → HoldsMore program lines line after.due after
step program due.Title d is lines line after h s =
    so-after program lines line due.Edits (record d { due = due.Edits }) after refl s.after_is (title-step program d lines line h s.line_is)
step program due.Edits d is lines line after h s =
    by-kind d line after
    (λ f. so-after program lines line due.Edits (record d { edits = edits_so_far d; current = Some (report_of_run_line d.program f.value); site = 0 }) after is f.after_is (add-step program d lines line f.value h f.is_line f.line_is))
    (λ f. so-after program lines line due.Edits (record d { current = Some (with_entry f.report f.value); site = f.value.site + 1 }) after is f.after_is (site-step program d lines line f.report f.value h f.is_current f.is_next f.line_is))
    (λ f. so-after program lines line due.Edits (record (report_closed d) { edits = edits_so_far d ++ f.value ∷ [] }) after is f.after_is (change-step program d lines line f.value h f.is_change f.line_is))
    (λ f. so-after program lines line due.Edits (record (report_closed d) { edits = edits_so_far d ++ Rank ∷ []; ranks = d.ranks + 1 }) after is f.after_is (rank-step program d lines line h f.room f.line_is))
    (λ f. so-after program lines line due.Nothing (record (report_closed d) { due = due.Nothing }) after refl f.after_is (end-step program d lines line h f.line_is)) s
step program due.Nothing d is lines line after h s = absurd s

leads-holds : (program : ProgramId) (lines done : List (List ℕ)) (from to : Draft) → LeadsTo Goes from lines to → Holds program from.due from done → Holds program to.due to (done ++ lines)
leads-holds program [] done from to leads h = subst (λ d. Holds program d.due d (done ++ [])) leads (subst (Holds program from.due from) (sym (append-nil done)) h)
leads-holds program (line ∷ more) done from to leads h =
    subst (Holds program to.due to) (append_assoc done (line ∷ []) more) (leads-holds program more (done ++ line ∷ []) leads.0 to leads.2 (step program from.due from refl done line leads.0 h leads.1))

-- what is read is spelled so
pub reads-spelled : (program : ProgramId) (text : List ℕ) (alloc : Global) (from to : Reading) → IsId program → from ≡ edits_start alloc program → ReadsLines EditLineFollows EditsEnd from text to → SpellsEdits program text to.draft.edits
reads-spelled program text alloc from to is_id is reads =
    let d = to.draft in
    let first : Holds program due.Title (draft_before_edits alloc program) [] = record { program_is = refl; lines_are = refl; so_far = record { is_id = is_id; edits = refl; current = refl; ranks = refl } } in
    let within = lead-within reads.lines (edits_start alloc program) to (subst (λ r. LeadsTo EditLineFollows r reads.lines to) is reads.leads) in
    let h = leads-holds program reads.lines [] (draft_before_edits alloc program) d within.leads first in
    let over : Holds program due.Nothing d reads.lines = subst (λ x. Holds program x d reads.lines) reads.over h in record {
      are_edits = subst (λ p. AreEdits p d.edits) over.program_is over.so_far.are;
      few_ranks = omega (arith, over.so_far.ranks_are, over.so_far.few);
      text_is = reads.text_is ∙ ap text_of over.lines_are;
      few_bytes = subst (λ t. length t ≤ 1073741824) (sym reads.text_is) within.fits;
    }
