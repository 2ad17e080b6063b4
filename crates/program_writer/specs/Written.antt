-- How the text of a program is put together: rows one below another, and fields one behind another.
use Rattle.std.specs.Prelude.{ℕ, List, [], ◌∷◌, ◌++◌, codes, map}
use Rattle.std.specs.List.{flat_map}
use Rattle.cbi_base.specs.Text.{line_of_fields, text_of}
use Rattle.flow.specs.declared.program.ProgramParts.{ProgramParts}
use Rattle.flow.specs.Spelling.{body_rows, word_and_number, end_row, global_fields, head_fields, head_of, site_fields, text_fields, whole_list}

-- the lines with the fields of these rows
abbrev pub rows_text : List (List (List ℕ)) → List ℕ
rows_text rows = text_of (map line_of_fields rows)

-- fields behind another one, with a space before each
abbrev pub fields_behind : List (List ℕ) → List ℕ
fields_behind fields = flat_map (λ field. 32 ∷ field) fields

-- the lines up to those of the functions' heads
abbrev pub front_rows : ProgramParts → List (List (List ℕ))
front_rows p =
    (word_and_number (codes "cbi-program") 1 ∷ whole_list (codes "texts") text_fields p.texts) ++ whole_list (codes "globals") global_fields p.globals
    ++ whole_list (codes "functions") head_fields (map head_of p.functions)

-- the lines behind those
abbrev pub back_rows : ProgramParts → List (List (List ℕ))
back_rows p = (word_and_number (codes "main") p.main ∷ []) ++ whole_list (codes "sites") site_fields p.sites ++ flat_map body_rows p.functions ++ (end_row ∷ [])
