-- What the fields of the line of a removal or a relabelling are read as, by a plain body.
use Rattle.std.specs.Prelude.{ℕ, nat_le, if◌then◌else◌, List, [], ◌∷◌, Option, None, Some, codes}
use Rattle.cbi_base.specs.Numbers.{greatest_u32, is_word, number_of, ◌>>=◌}
use Rattle.report_file.specs.Fields.{value_at_end, label_in}
use Rattle.session_edits.specs.declared.edit.Edit.{Edit}
use Rattle.session_edits.specs.declared.edit.Edit.TheVariants.{Remove, Relabel}

-- the number of a run
unfoldable pub run_in : List ℕ → Option ℕ
run_in field = number_of greatest_u32 field >>= λ run. if nat_le 1 run then Some run else None

-- another label for the run, in the field behind its number
abbrev pub relabel_in : ℕ → List (List ℕ) → Option Edit
relabel_in run [] = None
relabel_in run (field ∷ rest) = label_in field >>= λ label. value_at_end (Relabel run label, rest)

abbrev pub change_in : List (List ℕ) → Option Edit
change_in [] = None
change_in (word ∷ []) = None
change_in (word ∷ number ∷ rest) =
    run_in number >>= λ run.
    if is_word word (codes "remove") then value_at_end (Remove run, rest)
    else (if is_word word (codes "relabel") then relabel_in run rest else None)
