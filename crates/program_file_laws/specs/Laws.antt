-- What comes as a line of a program file, in the words of the spelling: nothing but a line that spells the item which it adds, and each line that spells
-- a program's item in its turn. How a line is read need not be known for it.
use Rattle.std.specs.Prelude.{◌≡◌, ℕ, List, map, codes}
use Rattle.std.specs.declared.alloc.Global.{Global as Heap}
use Rattle.cbi_base.specs.Words.{LeadsTo, line_of_fields}
use Rattle.flow.specs.declared.program.ProgramParts.{ProgramParts}
use Rattle.flow.specs.Words.{IsProgram, word_and_number, end_row, global_fields, head_fields, locals_fields, node_fields, program_rows, site_fields}
use Rattle.flow.specs.Words.{text_fields}
use Rattle.program_file.specs.declared.draft.Due.{Due}
use Rattle.program_file.specs.declared.draft.Due.TheVariants as due
use Rattle.program_file.specs.declared.draft.Draft.{Draft}
use Rattle.program_file.specs.Draft.{IsRow, IsWhole, ProgramLineFollows, empty_draft, parts_in, with_function_count, with_global, with_global_count, with_head}
use Rattle.program_file.specs.Draft.{with_locals, with_main, with_placed, with_site, with_site_count, with_text, with_text_count}

-- the line spells an item, and what was read is as before with this item
abbrev pub Adds : {A : Type 0} → (A → List (List ℕ)) → (A → Draft) → List ℕ → Draft → Type 0
Adds {A} fields made line after = (item : A) × (line ≡ line_of_fields (fields item)) × (after ≡ made item)

-- by what is due
abbrev pub IsSpelled : Due → Draft → List ℕ → Draft → Type 0
IsSpelled due.Title d line after = IsRow (word_and_number (codes "cbi-program") 1) due.Texts d line after
IsSpelled due.Texts d line after = Adds (word_and_number (codes "texts")) (with_text_count d) line after
IsSpelled due.Text d line after = Adds text_fields (with_text d) line after
IsSpelled due.Globals d line after = Adds (word_and_number (codes "globals")) (with_global_count d) line after
IsSpelled due.Global d line after = Adds global_fields (with_global d) line after
IsSpelled due.Functions d line after = Adds (word_and_number (codes "functions")) (with_function_count d) line after
IsSpelled due.Head d line after = Adds head_fields (with_head d) line after
IsSpelled due.Main d line after = Adds (word_and_number (codes "main")) (with_main d) line after
IsSpelled due.Sites d line after = Adds (word_and_number (codes "sites")) (with_site_count d) line after
IsSpelled due.Site d line after = Adds site_fields (with_site d) line after
IsSpelled due.Locals d line after = Adds locals_fields (with_locals d) line after
IsSpelled due.Node d line after = Adds (λ placed. node_fields placed.1) (with_placed d) line after
IsSpelled due.End d line after = IsRow end_row due.Nothing d line after
IsSpelled due.Nothing d line after = ⊥

abbrev pub LinesAreSpelled : Type 0
LinesAreSpelled = (d : Draft) (line : List ℕ) (after : Draft) → ProgramLineFollows d line after → IsSpelled d.due d line after

-- the lines that spell the parts of a program, one after another, lead to a draft that is whole and has these parts
pub record ComeToTheProgram (alloc : Heap) (p : ProgramParts) : Type 0 where
  pub after : Draft
  pub come : LeadsTo ProgramLineFollows (empty_draft alloc) (map line_of_fields (program_rows p)) after
  pub is_whole : IsWhole after
  pub has : parts_in after ≡ p

abbrev pub SpelledLinesCome : Type 0
SpelledLinesCome = (alloc : Heap) (p : ProgramParts) → IsProgram p → ComeToTheProgram alloc p
