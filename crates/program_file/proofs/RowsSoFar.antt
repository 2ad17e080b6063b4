-- The lines that were read so far are the rows of what was read.
use Rattle.std.proofs.Common.{◌≡◌, ◌+◌, ◌==◌, ℕ, Bool, true, false, cond, List, [], ◌∷◌, ◌++◌, length, map, codes, ap, sym, ◌∙◌, refl, append_assoc, length-append}
use Rattle.std.specs.List.{flat_map}
use Rattle.std.proofs.lemmas.Bool.{eqb-true}
use Rattle.std.proofs.lemmas.List.{append-nil, map-append}
use Rattle.std.proofs.lemmas.List.Splits.{join_with_byte-slice_split}
use Rattle.cbi_base.specs.Words.{fields_of, line_of_fields, LeadsTo}
use Rattle.flow.specs.declared.node.Node.{Node}
use Rattle.flow.specs.declared.program.Function.{Function}
use Rattle.flow.specs.Spelling.{Head, head_fields, text_fields, global_fields, site_fields, node_fields, locals_fields, body_rows, word_and_number, list_rows, whole_list, end_row}
use Rattle.program_file.specs.declared.draft.Due.{Due}
use Rattle.program_file.specs.declared.draft.Due.TheVariants as due
use Rattle.program_file.specs.declared.draft.Draft.{Draft}
use Rattle.program_file.specs.Draft.{ProgramLineComes, ProgramLineFollows, with_text_count, with_text, with_global_count, with_global, with_head, with_function, function_with}
use Rattle.program_lines.proofs.RowReads.{count_of-spelled, text_of_row-spelled, head_of_row-spelled, locals_of_row-spelled}
use Rattle.program_lines.proofs.CellReads.{global_of_row-spelled}
use Rattle.program_lines.proofs.SiteReads.{site_of_row-spelled}
use Rattle.program_lines.proofs.NodeReads.{node_of-spelled}

abbrev pub Rows : Type 0
Rows = List (List (List ℕ))

abbrev pub front_texts : Draft → Rows
front_texts d = word_and_number (codes "cbi-program") 1 ∷ whole_list (codes "texts") text_fields d.texts

abbrev pub front_globals : Draft → Rows
front_globals d = front_texts d ++ whole_list (codes "globals") global_fields d.globals

abbrev pub front_heads : Draft → Rows
front_heads d = front_globals d ++ whole_list (codes "functions") head_fields d.heads

abbrev pub front_main : Draft → Rows
front_main d = front_heads d ++ (word_and_number (codes "main") d.main ∷ [])

abbrev pub front_sites : Draft → Rows
front_sites d = front_main d ++ whole_list (codes "sites") site_fields d.sites

abbrev pub front_bodies : Draft → Rows
front_bodies d = front_sites d ++ flat_map body_rows d.functions

abbrev pub rows_so_far : Due → Draft → Rows
rows_so_far due.Title d = []
rows_so_far due.Texts d = word_and_number (codes "cbi-program") 1 ∷ []
rows_so_far due.Text d = word_and_number (codes "cbi-program") 1 ∷ list_rows (codes "texts") text_fields d.count d.texts
rows_so_far due.Globals d = front_texts d
rows_so_far due.Global d = front_texts d ++ list_rows (codes "globals") global_fields d.count d.globals
rows_so_far due.Functions d = front_globals d
rows_so_far due.Head d = front_globals d ++ list_rows (codes "functions") head_fields d.count d.heads
rows_so_far due.Main d = front_heads d
rows_so_far due.Sites d = front_main d
rows_so_far due.Site d = front_main d ++ list_rows (codes "sites") site_fields d.count d.sites
rows_so_far due.Locals d = front_bodies d
rows_so_far due.Node d = front_bodies d ++ (locals_fields d.locals ∷ map node_fields d.nodes)
rows_so_far due.End d = front_bodies d
rows_so_far due.Nothing d = front_bodies d ++ (end_row ∷ [])

-- a line that is these fields
pub line-is : (line : List ℕ) (row : List (List ℕ)) → fields_of line ≡ row → line ≡ line_of_fields row
line-is line row is = sym (join_with_byte-slice_split 32 line) ∙ ap line_of_fields is

-- one more row of a list
list-more : {A : Type 0} (word : List ℕ) (fields : A → List (List ℕ)) (count : ℕ) (items : List A) (item : A) → list_rows word fields count (items ++ item ∷ []) ≡ list_rows word fields count items ++ fields item ∷ []
list-more word fields count items item = ap (λ rows. word_and_number word count ∷ rows) (map-append fields items (item ∷ []))

front-more : {A : Type 0} (front : Rows) (word : List ℕ) (fields : A → List (List ℕ)) (count : ℕ) (items : List A) (item : A) → front ++ list_rows word fields count (items ++ item ∷ []) ≡ (front ++ list_rows word fields count items) ++ fields item ∷ []
front-more front word fields count items item =
    ap (λ rows. front ++ rows) (list-more word fields count items item) ∙ sym (append_assoc front (list_rows word fields count items) (fields item ∷ []))

-- the last row of a list
front-last : {A : Type 0} (front : Rows) (word : List ℕ) (fields : A → List (List ℕ)) (count : ℕ) (items : List A) (item : A) → length items + 1 ≡ count → front ++ whole_list word fields (items ++ item ∷ []) ≡ (front ++ list_rows word fields count items) ++ fields item ∷ []
front-last front word fields count items item full =
    ap (λ n. front ++ list_rows word fields n (items ++ item ∷ [])) (length-append items (item ∷ []) ∙ full) ∙ front-more front word fields count items item

-- what follows a row, whichever is due
by-test : (b : Bool) (item past : Due) (rows : Due → Rows) (want : Rows) → (b ≡ true → rows past ≡ want) → (b ≡ false → rows item ≡ want) → rows (cond b past item) ≡ want
by-test true item past rows want whole more = whole refl
by-test false item past rows want whole more = more refl

-- the row of a line, and the rows after it
pub record RowTaken (next : Due) (d : Draft) (line : List ℕ) (after : Draft) : Type 0 where
  pub row : List (List ℕ)
  pub line_is : line ≡ line_of_fields row
  pub rows_are : rows_so_far after.due after ≡ rows_so_far next d ++ row ∷ []

same-count : (count : ℕ) → (0 == count) ≡ true → count ≡ 0
same-count count h = sym (eqb-true 0 count h)

chosen-rows : (b : Bool) (x y : Draft) (want : Rows) → (b ≡ true → rows_so_far x.due x ≡ want) → (b ≡ false → rows_so_far y.due y ≡ want) → rows_so_far (cond b x y).due (cond b x y) ≡ want
chosen-rows true x y want whole more = whole refl
chosen-rows false x y want whole more = more refl

flat_map-last : {A B : Type 0} (f : A → List B) (xs : List A) (x : A) → flat_map f (xs ++ x ∷ []) ≡ flat_map f xs ++ f x
flat_map-last f [] x = append-nil (f x)
flat_map-last f (y ∷ ys) x = ap (λ t. f y ++ t) (flat_map-last f ys x) ∙ sym (append_assoc (f y) (flat_map f ys) (f x))

-- a node more
node-more : (front : Rows) (sizes : List ℕ) (nodes : List Node) (n : Node) → front ++ (locals_fields sizes ∷ map node_fields (nodes ++ n ∷ [])) ≡ (front ++ (locals_fields sizes ∷ map node_fields nodes)) ++ node_fields n ∷ []
node-more front sizes nodes n =
    ap (λ rows. front ++ (locals_fields sizes ∷ rows)) (map-append node_fields nodes (n ∷ [])) ∙ sym (append_assoc front (locals_fields sizes ∷ map node_fields nodes) (node_fields n ∷ []))

-- the last node of a function
function-last : (front : Rows) (functions : List Function) (h : Head) (sizes : List ℕ) (nodes : List Node) (n : Node) →
    front ++ flat_map body_rows (functions ++ function_with h sizes (nodes ++ n ∷ []) ∷ []) ≡ ((front ++ flat_map body_rows functions) ++ (locals_fields sizes ∷ map node_fields nodes)) ++ node_fields n ∷ []
function-last front functions h sizes nodes n =
    ap (λ rows. front ++ rows) (flat_map-last body_rows functions (function_with h sizes (nodes ++ n ∷ [])))
    ∙ sym (append_assoc front (flat_map body_rows functions) (body_rows (function_with h sizes (nodes ++ n ∷ []))))
    ∙ node-more (front ++ flat_map body_rows functions) sizes nodes n

row-taken : (next : Due) (d : Draft) (line : List ℕ) (after made : Draft) (row : List (List ℕ)) → after ≡ made → fields_of line ≡ row → rows_so_far made.due made ≡ rows_so_far next d ++ row ∷ [] → RowTaken next d line after
row-taken next d line after made row is reads rows = record {
  row = row;
  line_is = line-is line row reads;
  rows_are = ap (λ (e : Draft). rows_so_far e.due e) is ∙ rows;
}

pub comes-row : (next : Due) (d : Draft) (line : List ℕ) (after : Draft) → ProgramLineComes next d line after → RowTaken next d line after
comes-row due.Title d line after f = record { row = word_and_number (codes "cbi-program") 1; line_is = f.0; rows_are = ap (λ (e : Draft). rows_so_far e.due e) f.1 }
comes-row due.Texts d line after f =
    row-taken due.Texts d line after _ (word_and_number (codes "texts") f.0) f.2 (count_of-spelled _ (fields_of line) f.0 f.1.reads)
    (by-test (0 == f.0) due.Text due.Globals (λ u. rows_so_far u (with_text_count d f.0)) _ (λ none. ap (λ n. word_and_number (codes "cbi-program") 1 ∷ word_and_number (codes "texts") n ∷ []) (sym (same-count f.0 none))) (λ _. refl))
comes-row due.Text d line after f =
    let t = f.0 in
    row-taken due.Text d line after _ (text_fields t) f.2 (text_of_row-spelled (fields_of line) t.bytes f.1.reads)
    (by-test (length d.texts + 1 == d.count) due.Text due.Globals (λ u. rows_so_far u (with_text d t)) _
    (λ full. front-last (word_and_number (codes "cbi-program") 1 ∷ []) (codes "texts") text_fields d.count d.texts t (eqb-true _ _ full))
    (λ _. front-more (word_and_number (codes "cbi-program") 1 ∷ []) (codes "texts") text_fields d.count d.texts t))
comes-row due.Globals d line after f =
    row-taken due.Globals d line after _ (word_and_number (codes "globals") f.0) f.2 (count_of-spelled _ (fields_of line) f.0 f.1.reads)
    (by-test (0 == f.0) due.Global due.Functions (λ u. rows_so_far u (with_global_count d f.0)) _ (λ none. ap (λ n. front_texts d ++ word_and_number (codes "globals") n ∷ []) (sym (same-count f.0 none))) (λ _. refl))
comes-row due.Global d line after f =
    let g = f.0 in
    row-taken due.Global d line after _ (global_fields g) f.2 (global_of_row-spelled _ (fields_of line) g.cells f.1.reads).0
    (by-test (length d.globals + 1 == d.count) due.Global due.Functions (λ u. rows_so_far u (with_global d g)) _
    (λ full. front-last (front_texts d) (codes "globals") global_fields d.count d.globals g (eqb-true _ _ full))
    (λ _. front-more (front_texts d) (codes "globals") global_fields d.count d.globals g))
comes-row due.Functions d line after f =
    row-taken due.Functions d line after _ (word_and_number (codes "functions") f.0) f.2 (count_of-spelled _ (fields_of line) f.0 f.1.counts.reads) refl
comes-row due.Head d line after f =
    let h = f.0 in
    row-taken due.Head d line after _ (head_fields h) f.2 (head_of_row-spelled (fields_of line) h f.1.reads)
    (by-test (length d.heads + 1 == d.count) due.Head due.Main (λ u. rows_so_far u (with_head d h)) _
    (λ full. front-last (front_globals d) (codes "functions") head_fields d.count d.heads h (eqb-true _ _ full))
    (λ _. front-more (front_globals d) (codes "functions") head_fields d.count d.heads h))
comes-row due.Main d line after f =
    row-taken due.Main d line after _ (word_and_number (codes "main") f.0) f.2 (count_of-spelled _ (fields_of line) f.0 f.1.reads) refl
comes-row due.Sites d line after f =
    row-taken due.Sites d line after _ (word_and_number (codes "sites") f.0) f.2 (count_of-spelled _ (fields_of line) f.0 f.1.reads)
    (chosen-rows (0 == f.0) _ _ _
    (λ none. append-nil (front_main d ++ word_and_number (codes "sites") 0 ∷ []) ∙ ap (λ n. front_main d ++ word_and_number (codes "sites") n ∷ []) (sym (same-count f.0 none)))
    (λ _. refl))
comes-row due.Site d line after f =
    let s = f.0 in
    row-taken due.Site d line after _ (site_fields s) f.2 (site_of_row-spelled (fields_of line) s f.1.reads)
    (chosen-rows (length (d.sites ++ s ∷ []) == d.count) _ _ _
    (λ full. append-nil (front_main d ++ whole_list (codes "sites") site_fields (d.sites ++ s ∷ [])) ∙ front-last (front_main d) (codes "sites") site_fields d.count d.sites s (sym (length-append d.sites (s ∷ [])) ∙ eqb-true _ _ full))
    (λ _. front-more (front_main d) (codes "sites") site_fields d.count d.sites s))
comes-row due.Locals d line after f =
    row-taken due.Locals d line after _ (locals_fields f.0) f.2 (locals_of_row-spelled f.1.head.locals (fields_of line) f.0 f.1.reads).0 refl
comes-row due.Node d line after f =
    let h = f.0.0 in
    let n = f.0.1 in
    row-taken due.Node d line after _ (node_fields n) f.2 (node_of-spelled (fields_of line) n f.1.reads)
    (chosen-rows (length (d.nodes ++ n ∷ []) == h.nodes) _ _ _
    (λ full. by-test (length d.functions + 1 == length d.heads) due.Locals due.End (λ u. rows_so_far u (with_function d (function_with h d.locals (d.nodes ++ n ∷ [])))) _
    (λ _. function-last (front_sites d) d.functions h d.locals d.nodes n) (λ _. function-last (front_sites d) d.functions h d.locals d.nodes n))
    (λ _. node-more (front_bodies d) d.locals d.nodes n))
comes-row due.End d line after f = record { row = end_row; line_is = f.0; rows_are = ap (λ (e : Draft). rows_so_far e.due e) f.1 }
comes-row due.Nothing d line after f = absurd f

-- the lines that lead from one state to another are rows
pub record RowsTaken (from : Draft) (lines : List (List ℕ)) (to : Draft) : Type 0 where
  pub rows : Rows
  pub lines_are : lines ≡ map line_of_fields rows
  pub rows_are : rows_so_far to.due to ≡ rows_so_far from.due from ++ rows

pub leads-rows : (from to : Draft) (lines : List (List ℕ)) → LeadsTo ProgramLineFollows from lines to → RowsTaken from lines to
leads-rows from to [] leads = record {
  rows = [];
  lines_are = refl;
  rows_are = ap (λ (e : Draft). rows_so_far e.due e) (sym leads) ∙ sym (append-nil (rows_so_far from.due from));
}
leads-rows from to (line ∷ lines) leads =
    let first = comes-row from.due from line leads.0 leads.1 in
    let rest = leads-rows leads.0 to lines leads.2 in record {
      rows = first.row ∷ rest.rows;
      lines_are = ap (λ l. l ∷ lines) first.line_is ∙ ap (λ ls. line_of_fields first.row ∷ ls) rest.lines_are;
      rows_are = rest.rows_are ∙ ap (λ rs. rs ++ rest.rows) first.rows_are ∙ append_assoc (rows_so_far from.due from) (first.row ∷ []) rest.rows;
    }
