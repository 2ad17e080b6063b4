-- What the line of a global is read as: its cells, by runs `COUNT:VALUE`, of which neighbours have different values.
use Rattle.std.specs.Prelude.{ℕ, ◌==◌, ◌-◌, Bool, true, not, ◌&&◌, nat_le, if◌then◌else◌, List, [], ◌∷◌, ◌++◌, replicate, Option, None, Some, codes}
use Rattle.std.specs.Option.{option_map}
use Rattle.cbi_base.specs.Numbers.{is_word, ◌>>=◌, number_of, signed_of, greatest_u32}
use Rattle.cbi_base.specs.declared.scalar.Kind.{Kind}
use Rattle.cbi_base.specs.declared.scalar.Kind.TheVariants.{Char, Int, Unsigned}
use Rattle.flow.specs.declared.program.Cell.{Cell}
use Rattle.flow.specs.declared.program.Cell.TheVariants.{Number, Null, Text}
use Rattle.flow.specs.Spelling.{Run, same_cell}

abbrev pub is_colon : ℕ → Bool
is_colon b = b == 58

-- what stands before and after the first colon
abbrev pub cut_at_colon : List ℕ → Option (List ℕ × List ℕ)
cut_at_colon [] = None
cut_at_colon (b ∷ bytes) = if is_colon b then Some ([], bytes) else option_map (λ parts. (b ∷ parts.0, parts.1)) (cut_at_colon bytes)

-- the kind with this letter
abbrev pub kind_of_letter : ℕ → Option Kind
kind_of_letter letter = if letter == 99 then Some Char else (if letter == 105 then Some Int else (if letter == 117 then Some Unsigned else None))

-- what a cell holds
unfoldable pub cell_of : List ℕ → Option Cell
cell_of [] = None
cell_of (letter ∷ rest) =
    if letter == 115 then option_map Text (number_of greatest_u32 rest) else
    (if is_word (letter ∷ rest) (codes "p") then Some Null else
    (kind_of_letter letter >>= λ kind. option_map (Number kind) (signed_of rest)))

unfoldable pub run_of : List ℕ → Option Run
run_of field =
    cut_at_colon field >>= λ parts. number_of greatest_u32 parts.0 >>= λ count. option_map (λ c. record { count = count; cell = c }) (cell_of parts.1)

abbrev pub is_different_cell : Option Cell → Cell → Bool
is_different_cell None c = true
is_different_cell (Some last) c = not (same_cell last c)

-- the run may come after this cell, where there is room for so many cells
abbrev pub may_come : ℕ → Option Cell → Run → Bool
may_come room last run = (nat_le 1 run.count && nat_le run.count room) && is_different_cell last run.cell

abbrev pub cells_of : ℕ → Option Cell → List (List ℕ) → Option (List Cell)
cells_of room last [] = Some []
cells_of room last (field ∷ fields) =
    run_of field >>= λ run.
    if may_come room last run
    then option_map (λ cells. replicate run.count run.cell ++ cells) (cells_of (room - run.count) (Some run.cell) fields)
    else None

-- the line of a global, where there is room for so many cells
abbrev pub global_of_row : ℕ → List (List ℕ) → Option (List Cell)
global_of_row room [] = None
global_of_row room (word ∷ fields) = if is_word word (codes "global") then cells_of room None fields else None
