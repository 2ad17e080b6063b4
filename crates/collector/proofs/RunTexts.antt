-- What the lines of a run in a text are read as.
use Rattle.std.proofs.Common.{◌≡◌, ◌+◌, ◌-◌, ◌<◌, ◌≤◌, ℕ, List, [], ◌∷◌, ◌++◌, length, drop, Option, None, Some, ap, sym, subst, ◌∙◌, refl, append_assoc, length-append, length-drop, arith}
use Rattle.std.specs.Prelude.{map}
use Rattle.std.proofs.lemmas.List.{append-nil, map-append}
use Rattle.std.proofs.lemmas.Grind.{common_steps, flat_map-append}
use Rattle.base_lists.proofs.Options.{none_some, some_is}
use Rattle.cbi_base.specs.Words.{IsId, Lacks, line_with_newline, fields_of, is_newline, line_of_fields, text_of}
use Rattle.cbi_base.specs.declared.identity.ProgramId.{ProgramId}
use Rattle.cbi_base.proofs.LineLemmas.{same-line}
use Rattle.report_file.specs.declared.draft.Version.TheVariants as version
use Rattle.report_file.specs.declared.report.Entry.{Entry}
use Rattle.report_file.specs.declared.report.Report.{Report}
use Rattle.report_file.specs.declared.run_line.RunLine.{RunLine}
use Rattle.report_file.specs.Fields.{entry_of_fields}
use Rattle.report_file.specs.Reading.{Reads}
use Rattle.report_file.specs.Report.{AreEntries, IsEntry, RiseFrom}
use Rattle.report_file.specs.RunLine.{IsRunLine, line_of, run_line_fields, second_of}
use Rattle.report_file.specs.Spelling.{site_fields}
use Rattle.report_file.proofs.LineLemmas.{entry-reads, row-site}
use Rattle.report_file.proofs.Once.{once}
use Rattle.report_file.proofs.RunLines.{run-row, second-reads, second-not-first}
use Rattle.report_file.proofs.Whole.{end_of, rows-lines}
use Rattle.collector.specs.declared.run_text.RunText.{RunText}
use Rattle.collector.specs.RunText.{IsRunAt, ReportStands, RunStands, SiteStands, SitesStand, lines_text, sites_text}
use Rattle.collector.proofs.Leads.{is-run-line}

abbrev run_spelled : RunLine → List ℕ
run_spelled x = line_of_fields (run_line_fields version.Second x)

run-lacks : (x : RunLine) → IsRunLine version.Second x → Lacks is_newline (run_spelled x)
run-lacks x is = (rows-lines (run_line_fields version.Second x ∷ []) (run-row version.Second x is, tt)).0

site-lacks : (e : Entry) → IsEntry e → Lacks is_newline (line_of_fields (site_fields e))
site-lacks e is = (rows-lines (site_fields e ∷ []) (row-site e is, tt)).0

-- bytes that are cut at their first newline, and begin with a line
cut-line : (bytes line rest want more : List ℕ) → bytes ≡ line ++ 10 ∷ rest → Lacks is_newline line → Lacks is_newline want → bytes ≡ line_with_newline want ++ more → (line ≡ want) × (rest ≡ more)
cut-line bytes line rest want more is lacks lacks_want goes =
    same-line line want rest more lacks lacks_want (sym is ∙ goes ∙ append_assoc want (10 ∷ []) more)

pub no-run : (bytes line rest : List ℕ) (answer : Option RunLine) → bytes ≡ line ++ 10 ∷ rest → Lacks is_newline line → Reads (run_line_fields version.Second) (IsRunLine version.Second) line answer → answer ≡ None → (x : RunLine) (more : List ℕ) → RunStands bytes x more → ⊥
no-run bytes line rest answer is lacks reads none x more stands =
    let cut = cut-line bytes line rest (run_spelled x) more is lacks (run-lacks x stands.is_line) stands.text_is in
    none_some (sym none ∙ reads.only x stands.is_line cut.0)

pub no-site : (bytes line rest : List ℕ) (site : ℕ) (answer : Option Entry) → bytes ≡ line ++ 10 ∷ rest → Lacks is_newline line → Reads site_fields IsEntry line answer → answer ≡ None → (e : Entry) (more : List ℕ) → SiteStands bytes site e more → ⊥
no-site bytes line rest site answer is lacks reads none e more stands =
    let cut = cut-line bytes line rest (line_of_fields (site_fields e)) more is lacks (site-lacks e stands.is_next.is_entry) stands.text_is in
    none_some (sym none ∙ reads.only e stands.is_next.is_entry cut.0)

pub no-later-site : (bytes line rest : List ℕ) (site : ℕ) (answer : Option Entry) (found : Entry) → bytes ≡ line ++ 10 ∷ rest → Lacks is_newline line → Reads site_fields IsEntry line answer → answer ≡ Some found → found.site < site → (e : Entry) (more : List ℕ) → SiteStands bytes site e more → ⊥
no-later-site bytes line rest site answer found is lacks reads some less e more stands =
    let cut = cut-line bytes line rest (line_of_fields (site_fields e)) more is lacks (site-lacks e stands.is_next.is_entry) stands.text_is in
    let same : found ≡ e = some_is (sym some ∙ reads.only e stands.is_next.is_entry cut.0) in
    let number = ap (λ (x : Entry). x.site) same in
    omega (arith, stands.is_next.rises)

-- a line at the front of bytes is the line of one site, or of one run
site-next : (x y : Entry) (a b : List ℕ) → IsEntry x → IsEntry y → line_with_newline (line_of_fields (site_fields x)) ++ a ≡ line_with_newline (line_of_fields (site_fields y)) ++ b → (x ≡ y) × (a ≡ b)
site-next x y a b is_x is_y is =
    let line = line_of_fields (site_fields x) in
    let cut = cut-line (line_with_newline line ++ a) line a (line_of_fields (site_fields y)) b (append_assoc line (10 ∷ []) a) (site-lacks x is_x) (site-lacks y is_y) is in
    (once site_fields IsEntry line (entry_of_fields (fields_of line)) (entry-reads line (entry_of_fields (fields_of line)) refl) x y is_x is_y refl cut.0, cut.1)

run-once : (bytes : List ℕ) (x y : RunLine) (a b : List ℕ) → RunStands bytes x a → RunStands bytes y b → (x ≡ y) × (a ≡ b)
run-once bytes x y a b s t =
    let line = run_spelled x in
    let spell = run_line_fields version.Second in
    let cut = cut-line bytes line a (run_spelled y) b (s.text_is ∙ append_assoc line (10 ∷ []) a) (run-lacks x s.is_line) (run-lacks y t.is_line) t.text_is in
    (once spell (IsRunLine version.Second) line (second_of (fields_of line)) (second-reads line (second_of (fields_of line)) refl) x y s.is_line t.is_line refl cut.0, cut.1)

-- where no site's line goes on behind these, no list of them is longer
pub entries-longest : (site : ℕ) (xs ys : List Entry) (a b : List ℕ) → AreEntries xs → AreEntries ys → RiseFrom site ys → sites_text xs ++ a ≡ sites_text ys ++ b → ((e : Entry) (more : List ℕ) → SiteStands a (end_of site xs) e more → ⊥) → length ys ≤ length xs
entries-longest site [] [] a b are_x are_y rise is stops = omega arith
entries-longest site (x ∷ xs) [] a b are_x are_y rise is stops = omega arith
entries-longest site [] (y ∷ ys) a b are_x are_y rise is stops =
    absurd (stops y (sites_text ys ++ b) (record { is_next = record { is_entry = are_y.0; rises = rise.0 }; text_is = is ∙ append_assoc (line_with_newline (line_of_fields (site_fields y))) (sites_text ys) b }))
entries-longest site (x ∷ xs) (y ∷ ys) a b are_x are_y rise is stops =
    let one = site-next x y (sites_text xs ++ a) (sites_text ys ++ b) are_x.0 are_y.0 (sym (append_assoc (line_with_newline (line_of_fields (site_fields x))) (sites_text xs) a) ∙ is ∙ append_assoc (line_with_newline (line_of_fields (site_fields y))) (sites_text ys) b) in
    let rising : RiseFrom (x.site + 1) ys = subst (λ (z : Entry). RiseFrom (z.site + 1) ys) (sym one.0) rise.1 in
    let rest = entries-longest (x.site + 1) xs ys a b are_x.1 are_y.1 rising one.1 stops in
    omega (arith, rest)

-- lists of one length are one list
entries-same : (xs ys : List Entry) (a b : List ℕ) → AreEntries xs → AreEntries ys → sites_text xs ++ a ≡ sites_text ys ++ b → length xs ≡ length ys → xs ≡ ys
entries-same [] [] a b are_x are_y is long = refl
entries-same (x ∷ xs) [] a b are_x are_y is long = absurd (omega arith)
entries-same [] (y ∷ ys) a b are_x are_y is long = absurd (omega arith)
entries-same (x ∷ xs) (y ∷ ys) a b are_x are_y is long =
    let one = site-next x y (sites_text xs ++ a) (sites_text ys ++ b) are_x.0 are_y.0 (sym (append_assoc (line_with_newline (line_of_fields (site_fields x))) (sites_text xs) a) ∙ is ∙ append_assoc (line_with_newline (line_of_fields (site_fields y))) (sites_text ys) b) in
    let rest = entries-same xs ys a b are_x.1 are_y.1 one.1 (omega arith) in
    ap (λ e. e ∷ xs) one.0 ∙ ap (λ es. y ∷ es) rest

-- one line more
pub sites-more : (bytes : List ℕ) (es : List Entry) (rest after : List ℕ) (e : Entry) → bytes ≡ sites_text es ++ rest → rest ≡ line_with_newline (line_of_fields (site_fields e)) ++ after → bytes ≡ sites_text (es ++ e ∷ []) ++ after
sites-more bytes es rest after e is goes =
    let line = line_with_newline (line_of_fields (site_fields e)) in
    let rows : map line_of_fields (map site_fields (es ++ e ∷ [])) ≡ map line_of_fields (map site_fields es) ++ line_of_fields (site_fields e) ∷ [] = ap (λ rows. map line_of_fields rows) (map-append site_fields es (e ∷ [])) ∙ map-append line_of_fields (map site_fields es) (site_fields e ∷ []) in
    let text : sites_text (es ++ e ∷ []) ≡ sites_text es ++ line = ap text_of rows ∙ flat_map-append line_with_newline (map line_of_fields (map site_fields es)) (line_of_fields (site_fields e) ∷ []) ∙ ap (λ l. sites_text es ++ l) (append-nil line) in
    is ∙ ap (λ r. sites_text es ++ r) goes ∙ sym (append_assoc (sites_text es) line after) ∙ ap (λ t. t ++ after) (sym text)

pub shorter : (rest line after : List ℕ) → rest ≡ line_with_newline line ++ after → length after < length rest
shorter rest line after is =
    let whole = ap (λ (l : List ℕ). length l) is in
    omega (arith, length-append (line_with_newline line) after, length-append line (10 ∷ []))

-- the lines of a report begin with its run's line
pub stands-run : (program : ProgramId) (bytes : List ℕ) (from : ℕ) (text : RunText) → ReportStands program bytes from text → RunStands (drop from bytes) (line_of text.report) (sites_text text.report.entries ++ drop text.end bytes)
stands-run program bytes from text s = record {
  is_line = is-run-line version.Second text.report s.is_report (λ e. absurd (second-not-first e));
  text_is = s.text_is ∙ append_assoc (line_with_newline (run_spelled (line_of text.report))) (sites_text text.report.entries) (drop text.end bytes);
}

-- no longer list of sites stands behind the run's line
pub run-longest : (program : ProgramId) (bytes : List ℕ) (from : ℕ) (x : RunLine) (rest : List ℕ) (entries : List Entry) → RunStands (drop from bytes) x rest → ((es : List Entry) → SitesStand rest es → length es ≤ length entries) → (other : RunText) → ReportStands program bytes from other → length other.report.entries ≤ length entries
run-longest program bytes from x rest entries run most other s =
    let same = run-once (drop from bytes) x (line_of other.report) rest (sites_text other.report.entries ++ drop other.end bytes) run (stands-run program bytes from other s) in
    most other.report.entries (record { are_entries = s.is_report.entries; rising = s.is_report.rising; rest = drop other.end bytes; text_is = same.1 })

same-report : (a b : Report) → a.program ≡ b.program → line_of a ≡ line_of b → a.entries ≡ b.entries → a ≡ b
same-report a b is_program is_line are =
    ap (λ (p : ProgramId). record a { program = p }) is_program
    ∙ ap (λ (l : RunLine). let r : Report = record { program = b.program; run = l.run; outcome = l.outcome; label = l.label; work = l.work; entries = a.entries } in r) is_line
    ∙ ap (λ (es : List Entry). record b { entries = es }) are

same-text : (a b : RunText) → a.report ≡ b.report → a.end ≡ b.end → a ≡ b
same-text a b is_report is_end =
    ap (λ (r : Report). record a { report = r }) is_report ∙ ap (λ (e : ℕ). record b { end = e }) is_end

-- at a place stands one run
pub run-at-once : (program : ProgramId) (bytes : List ℕ) (from : ℕ) (a b : RunText) → IsRunAt program bytes from a → IsRunAt program bytes from b → a ≡ b
run-at-once program bytes from a b is_a is_b =
    let s = is_a.stands in
    let t = is_b.stands in
    let same = run-once (drop from bytes) (line_of a.report) (line_of b.report) (sites_text a.report.entries ++ drop a.end bytes) (sites_text b.report.entries ++ drop b.end bytes) (stands-run program bytes from a s) (stands-run program bytes from b t) in
    let long : length a.report.entries ≡ length b.report.entries = omega (arith, is_a.longest b t, is_b.longest a s) in
    let are = entries-same a.report.entries b.report.entries (drop a.end bytes) (drop b.end bytes) s.is_report.entries t.is_report.entries same.1 long in
    let report = same-report a.report b.report (s.program_is ∙ sym t.program_is) same.0 are in
    same-text a b report (s.end_is ∙ ap (λ (r : Report). from + length (lines_text r)) report ∙ sym t.end_is)

-- the place behind what stands at another one
pub record IsBehind (bytes : List ℕ) (from : ℕ) (front rest : List ℕ) : Type 0 where
  pub fits : length rest ≤ length bytes
  pub place : length bytes - length rest ≡ from + length front
  pub left : drop (length bytes - length rest) bytes ≡ rest

drop-sum : (m n : ℕ) (bytes : List ℕ) → drop (m + n) bytes ≡ drop n (drop m bytes)
drop-sum m n bytes = grind (arith, common_steps)

drop-front : (front rest : List ℕ) → drop (length front) (front ++ rest) ≡ rest
drop-front [] rest = refl
drop-front (x ∷ front) rest = drop-front front rest

pub behind : (bytes : List ℕ) (from : ℕ) (front rest : List ℕ) → from ≤ length bytes → drop from bytes ≡ front ++ rest → IsBehind bytes from front rest
behind bytes from front rest h is =
    let whole : length (drop from bytes) ≡ length front + length rest = ap (λ (l : List ℕ). length l) is ∙ length-append front rest in
    let place : length bytes - length rest ≡ from + length front = omega (arith, length-drop from bytes) in record {
      fits = omega (arith, length-drop from bytes);
      place = place;
      left = ap (λ n. drop n bytes) place ∙ drop-sum from (length front) bytes ∙ ap (drop (length front)) is ∙ drop-front front rest;
    }

-- a run's line with the longest list of its sites' lines behind it
pub made-run : (program : ProgramId) (bytes : List ℕ) (from : ℕ) (x : RunLine) (rest left : List ℕ) (entries : List Entry) → IsId program → from ≤ length bytes → RunStands (drop from bytes) x rest → AreEntries entries → RiseFrom 0 entries → rest ≡ sites_text entries ++ left → ((es : List Entry) → SitesStand rest es → length es ≤ length entries) → IsRunAt program bytes from (let text : RunText = record { report = record { program = program; run = x.run; outcome = x.outcome; label = x.label; work = x.work; entries = entries }; end = length bytes - length left } in text)
made-run program bytes from x rest left entries is_id h run are rising goes most =
    let r : Report = record { program = program; run = x.run; outcome = x.outcome; label = x.label; work = x.work; entries = entries } in
    let is : drop from bytes ≡ lines_text r ++ left = run.text_is ∙ ap (λ l. line_with_newline (run_spelled x) ++ l) goes ∙ sym (append_assoc (line_with_newline (run_spelled x)) (sites_text entries) left) in
    let b = behind bytes from (lines_text r) left h is in record {
      stands = record {
        is_report = record { program = is_id; run = run.is_line.run; outcome = run.is_line.outcome; work = run.is_line.work; entries = are; rising = rising };
        program_is = refl;
        text_is = is ∙ ap (λ l. lines_text r ++ l) (sym b.left);
        end_is = b.place;
      };
      longest = run-longest program bytes from x rest entries run most;
    }
