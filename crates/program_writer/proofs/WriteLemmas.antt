-- What the writers of a program append, piece by piece.
use Rattle.std.proofs.Common.{◌≡◌, ◌≤◌, ◌<◌, ◌+◌, ◌-◌, ℕ, Bool, true, false, cond, List, [], ◌∷◌, ◌++◌, length, get_or, take, drop, map, codes, ap, sym, subst, ◌∙◌, refl, arith, append_assoc}
use Rattle.std.specs.List.{flat_map}
use Rattle.std.proofs.Math.Seq.{take-length}
use Rattle.std.proofs.lemmas.Grind.{flat_map-append}
use Rattle.std.proofs.lemmas.List.{append-nil, map-append}
use Rattle.cbi_base.specs.Text.{line_with_newline, line_of_fields}
use Rattle.flow.specs.declared.program.Cell.{Cell}
use Rattle.flow.specs.declared.program.ProgramParts.{ProgramParts}
use Rattle.flow.specs.Spelling.{Run, body_rows, cell_runs, word_and_number, end_row, program_rows, program_text, run_word, same_cell, site_fields, whole_list, with_cell}
use Rattle.program_writer.specs.Written.{back_rows, fields_behind, front_rows, rows_text}
use Rattle.program_lines.proofs.CellReads.{same_cell-is, same_cell-refl}

-- the fields behind the first one
pub spaced-first : (field : List ℕ) (fields : List (List ℕ)) → line_of_fields (field ∷ fields) ≡ field ++ fields_behind fields
spaced-first field [] = sym (append-nil field)
spaced-first field (next ∷ fields) = ap (λ line. field ++ 32 ∷ line) (spaced-first next fields)

-- rows below other rows
pub rows_text-append : (a b : List (List (List ℕ))) → rows_text (a ++ b) ≡ rows_text a ++ rows_text b
rows_text-append a b = ap (flat_map line_with_newline) (map-append line_of_fields a b) ∙ flat_map-append line_with_newline (map line_of_fields a) (map line_of_fields b)

-- the run at hand in front of the runs that are to come
abbrev pub with_run : ℕ → Cell → List Run → List Run
with_run n c [] = record { count = n; cell = c } ∷ []
with_run n c (run ∷ runs) = cond (same_cell c run.cell) (record { count = run.count + n; cell = run.cell } ∷ runs) (record { count = n; cell = c } ∷ run ∷ runs)

pub with_run-one : (c : Cell) (runs : List Run) → with_run 1 c runs ≡ with_cell c runs
with_run-one c [] = refl
with_run-one c (run ∷ runs) = refl

-- one more of the same
with_run-same : (n : ℕ) (c : Cell) (runs : List Run) → with_run n c (with_cell c runs) ≡ with_run (n + 1) c runs
with_run-same n c [] = let more : 1 + n ≡ n + 1 = omega arith in rw (same_cell-refl c) (ap (λ m. record { count = m; cell = c } ∷ []) more)
with_run-same n c (run ∷ runs) = by (same_cell c run.cell) refl
  where
    by :
        (b : Bool) → same_cell c run.cell ≡ b →
        with_run n c (cond b (record run { count = run.count + 1 } ∷ runs) (record { count = 1; cell = c } ∷ run ∷ runs)) ≡ cond b (record { count = run.count + (n + 1); cell = run.cell } ∷ runs) (record { count = n + 1; cell = c } ∷ run ∷ runs)
    by true h = let more : run.count + 1 + n ≡ run.count + (n + 1) = omega arith in rw h (ap (λ m. record { count = m; cell = run.cell } ∷ runs) more)
    by false h = let more : 1 + n ≡ n + 1 = omega arith in rw (same_cell-refl c) (ap (λ m. record { count = m; cell = c } ∷ run ∷ runs) more)

-- another one
with_run-other :
    (n : ℕ) (c d : Cell) (runs : List Run) → same_cell c d ≡ false →
    with_run n c (with_cell d runs) ≡ record { count = n; cell = c } ∷ with_cell d runs
with_run-other n c d [] h = rw h refl
with_run-other n c d (run ∷ runs) h = by (same_cell d run.cell) refl
  where
    by :
        (b : Bool) → same_cell d run.cell ≡ b →
        with_run n c (cond b (record run { count = run.count + 1 } ∷ runs) (record { count = 1; cell = d } ∷ run ∷ runs)) ≡ record { count = n; cell = c } ∷ cond b (record run { count = run.count + 1 } ∷ runs) (record { count = 1; cell = d } ∷ run ∷ runs)
    by true e = let other : same_cell c run.cell ≡ false = subst (λ x. same_cell c x ≡ false) (same_cell-is d run.cell e) h in rw other refl
    by false e = rw h refl

abbrev pub run_texts : List Run → List ℕ
run_texts runs = fields_behind (map run_word runs)

-- the cells behind the first one
abbrev pub after_first : List Cell → List Cell
after_first cells = take (length cells - 1) (drop 1 cells)

cells-parted : (cells : List Cell) (d : Cell) → 0 < length cells → cells ≡ get_or cells 0 d ∷ after_first cells
cells-parted [] d some = absurd (omega (arith, some))
cells-parted (c ∷ cells) d some =
    let less : length (c ∷ cells) - 1 ≡ length cells = omega arith in
    sym (ap (λ n. c ∷ take n cells) less ∙ ap (λ rest. c ∷ rest) (take-length cells))

-- room for one more of the same, and for another one
pub room-grows : (n most : ℕ) (rest : List Cell) (d : Cell) → 0 < length rest → n + length rest ≤ most → n + 1 + length (after_first rest) ≤ most
room-grows n most rest d some room = omega (arith, room, ap length (cells-parted rest d some))

pub room-ends : (n most : ℕ) (rest : List Cell) (d : Cell) → 0 < length rest → n + length rest ≤ most → 1 + length (after_first rest) ≤ most
room-ends n most rest d some room = omega (arith, room, ap length (cells-parted rest d some))

pub run-grows :
    (out all : List ℕ) (n : ℕ) (c d : Cell) (rest : List Cell) → 0 < length rest → same_cell c (get_or rest 0 d) ≡ true →
    out ++ run_texts (with_run n c (cell_runs rest)) ≡ all → out ++ run_texts (with_run (n + 1) c (cell_runs (after_first rest))) ≡ all
run-grows out all n c d rest some same kept =
    let runs = cell_runs (after_first rest) in
    let front = subst (λ cells. out ++ run_texts (with_run n c (cell_runs cells)) ≡ all) (cells-parted rest d some) kept in
    let joined = subst (λ x. out ++ run_texts (with_run n c (with_cell x runs)) ≡ all) (sym (same_cell-is c (get_or rest 0 d) same)) front in
    ap (λ x. out ++ run_texts x) (sym (with_run-same n c runs)) ∙ joined

pub run-ends :
    (out all new : List ℕ) (n : ℕ) (c d : Cell) (rest : List Cell) → 0 < length rest → same_cell c (get_or rest 0 d) ≡ false →
    new ≡ out ++ 32 ∷ run_word (record { count = n; cell = c }) → out ++ run_texts (with_run n c (cell_runs rest)) ≡ all →
    new ++ run_texts (with_run 1 (get_or rest 0 d) (cell_runs (after_first rest))) ≡ all
run-ends out all new n c d rest some other is_new kept =
    let x = get_or rest 0 d in
    let runs = cell_runs (after_first rest) in
    let word = run_word (record { count = n; cell = c }) in
    let front = subst (λ cells. out ++ run_texts (with_run n c (cell_runs cells)) ≡ all) (cells-parted rest d some) kept in
    ap (λ text. text ++ run_texts (with_run 1 x runs)) is_new
    ∙ ap (λ r. (out ++ 32 ∷ word) ++ run_texts r) (with_run-one x runs)
    ∙ append_assoc out (32 ∷ word) (run_texts (with_cell x runs))
    ∙ ap (λ r. out ++ run_texts r) (sym (with_run-other n c x runs other))
    ∙ front

-- a line of a word and the fields behind it
pub line-joined :
    (word : List ℕ) (fields : List (List ℕ)) (out a b c : List ℕ) → a ≡ out ++ word → b ≡ a ++ fields_behind fields → c ≡ b ++ 10 ∷ [] →
    c ≡ out ++ line_with_newline (line_of_fields (word ∷ fields))
line-joined word fields out a b c is_a is_b is_c =
    let more = fields_behind fields in
    let whole : c ≡ ((out ++ word) ++ more) ++ 10 ∷ [] = cc in
    whole ∙ ap (λ text. text ++ 10 ∷ []) (append_assoc out word more) ∙ append_assoc out (word ++ more) (10 ∷ []) ∙ ap (λ line. out ++ (line ++ 10 ∷ [])) (sym (spaced-first word fields))

site-parted :
    (out name f l t more : List ℕ) →
    ((((out ++ codes "site ") ++ name) ++ 32 ∷ (f ++ 32 ∷ (l ++ 32 ∷ t))) ++ more) ++ 10 ∷ [] ≡ out ++ line_with_newline (codes "site" ++ 32 ∷ (name ++ 32 ∷ (f ++ 32 ∷ (l ++ 32 ∷ (t ++ more)))))
site-parted out name f l t more = simp (append_assoc)

pub site-joined :
    (name f l t : List ℕ) (fields : List (List ℕ)) (out a b c d e : List ℕ) → a ≡ out ++ codes "site " → b ≡ a ++ name →
    c ≡ b ++ 32 ∷ (f ++ 32 ∷ (l ++ 32 ∷ t)) → d ≡ c ++ fields_behind fields → e ≡ d ++ 10 ∷ [] →
    e ≡ out ++ line_with_newline (line_of_fields (codes "site" ∷ name ∷ f ∷ l ∷ t ∷ fields))
site-joined name f l t fields out a b c d e is_a is_b is_c is_d is_e =
    let more = fields_behind fields in
    let whole : e ≡ ((((out ++ codes "site ") ++ name) ++ 32 ∷ (f ++ 32 ∷ (l ++ 32 ∷ t))) ++ more) ++ 10 ∷ [] = cc in
    whole ∙ site-parted out name f l t more ∙ ap (λ x. out ++ line_with_newline (codes "site" ++ 32 ∷ (name ++ 32 ∷ (f ++ 32 ∷ (l ++ 32 ∷ x))))) (sym (spaced-first t fields))

four-joined : (out a b c d : List ℕ) → (((out ++ a) ++ b) ++ c) ++ d ≡ out ++ (((a ++ b) ++ c) ++ d)
four-joined out a b c d = simp (append_assoc)

-- a line, and three lists of lines
pub front-joined :
    (title : List (List ℕ)) (t g h : List (List (List ℕ))) (out a b c d : List ℕ) → a ≡ out ++ line_with_newline (line_of_fields title) →
    b ≡ a ++ rows_text t → c ≡ b ++ rows_text g → d ≡ c ++ rows_text h → d ≡ out ++ rows_text (((title ∷ t) ++ g) ++ h)
front-joined title t g h out a b c d is_a is_b is_c is_d =
    let line = line_with_newline (line_of_fields title) in
    let whole : d ≡ (((out ++ line) ++ rows_text t) ++ rows_text g) ++ rows_text h = cc in
    let parts = rows_text-append ((title ∷ t) ++ g) h ∙ ap (λ x. x ++ rows_text h) (rows_text-append (title ∷ t) g) in
    whole ∙ four-joined out line (rows_text t) (rows_text g) (rows_text h) ∙ ap (λ x. out ++ x) (sym parts)

rows-parted : (front m s f e : List (List (List ℕ))) → (((front ++ m) ++ s) ++ f) ++ e ≡ front ++ (((m ++ s) ++ f) ++ e)
rows-parted front m s f e = simp (append_assoc)

-- the front and the back are the whole
pub whole-joined :
    (p : ProgramParts) (none a b : List ℕ) → none ≡ [] → a ≡ none ++ rows_text (front_rows p) → b ≡ a ++ rows_text (back_rows p) →
    b ≡ program_text p
whole-joined p none a b is_none is_a is_b =
    let parted : program_rows p ≡ front_rows p ++ back_rows p =
    rows-parted (front_rows p) (word_and_number (codes "main") p.main ∷ []) (whole_list (codes "sites") site_fields p.sites) (flat_map body_rows p.functions) (end_row ∷ []) in
    is_b ∙ ap (λ x. x ++ rows_text (back_rows p)) (is_a ∙ ap (λ x. x ++ rows_text (front_rows p)) is_none)
    ∙ sym (ap rows_text parted ∙ rows_text-append (front_rows p) (back_rows p))
