-- The readers of lines read nothing but spellings.
use Rattle.std.proofs.Common.{◌≡◌, ℕ, List, refl, ◌∙◌}
use Rattle.std.specs.Prelude.{◌-◌, codes}
use Rattle.program_file.proofs.RowsSoFar.{line-is}
use Rattle.cbi_base.specs.Text.{fields_of}
use Rattle.flow.specs.Words.{static_limit, word_and_number, global_fields, locals_fields, node_fields, site_fields, text_fields, head_fields}
use Rattle.program_lines.proofs.CellReads.{global_of_row-spelled}
use Rattle.program_lines.proofs.NodeReads.{node_of-spelled}
use Rattle.program_lines.proofs.RowReads.{count_of-spelled, head_of_row-spelled, locals_of_row-spelled, text_of_row-spelled}
use Rattle.program_lines.proofs.SiteReads.{site_of_row-spelled}
use Rattle.program_lines.specs.Sums.{cells_in}
use Rattle.program_file.proofs.Whole.{whole-leads}
use Rattle.program_file.specs.declared.draft.Due.{Due}
use Rattle.program_file.specs.declared.draft.Due.TheVariants as due
use Rattle.program_file.specs.declared.draft.Draft.{Draft}
use Rattle.program_file.specs.Draft.{ProgramLineComes}
use Rattle.program_file_laws.specs.Laws.{IsSpelled, LinesAreSpelled, SpelledLinesCome}

spelled : (u : Due) (d : Draft) (line : List ℕ) (after : Draft) → ProgramLineComes u d line after → IsSpelled u d line after
spelled due.Texts d line after h = (h.0, line-is line (word_and_number (codes "texts") h.0) (count_of-spelled (codes "texts") (fields_of line) h.0 h.1.reads), h.2)
spelled due.Text d line after h = (h.0, line-is line (text_fields h.0) (text_of_row-spelled (fields_of line) h.0.bytes h.1.reads), h.2)
spelled due.Globals d line after h = (h.0, line-is line (word_and_number (codes "globals") h.0) (count_of-spelled (codes "globals") (fields_of line) h.0 h.1.reads), h.2)
spelled due.Global d line after h = (h.0, line-is line (global_fields h.0) (global_of_row-spelled (static_limit - cells_in d.globals) (fields_of line) h.0.cells h.1.reads).0, h.2)
spelled due.Functions d line after h = (h.0, line-is line (word_and_number (codes "functions") h.0) (count_of-spelled (codes "functions") (fields_of line) h.0 h.1.counts.reads), h.2)
spelled due.Head d line after h = (h.0, line-is line (head_fields h.0) (head_of_row-spelled (fields_of line) h.0 h.1.reads), h.2)
spelled due.Main d line after h = (h.0, line-is line (word_and_number (codes "main") h.0) (count_of-spelled (codes "main") (fields_of line) h.0 h.1.reads), h.2)
spelled due.Sites d line after h = (h.0, line-is line (word_and_number (codes "sites") h.0) (count_of-spelled (codes "sites") (fields_of line) h.0 h.1.reads), h.2)
spelled due.Site d line after h = (h.0, line-is line (site_fields h.0) (site_of_row-spelled (fields_of line) h.0 h.1.reads), h.2)
spelled due.Locals d line after h = (h.0, line-is line (locals_fields h.0) (locals_of_row-spelled h.1.head.locals (fields_of line) h.0 h.1.reads).0, h.2)
spelled due.Node d line after h = (h.0, line-is line (node_fields h.0.1) (node_of-spelled (fields_of line) h.0.1 h.1.reads), h.2)
spelled u d line after h = h

pub lines_are_spelled : LinesAreSpelled
lines_are_spelled d line after h = spelled d.due d line after h

pub lines_come : SpelledLinesCome
lines_come alloc p is = record { after = _; come = whole-leads alloc p is; is_whole = refl; has = refl }
