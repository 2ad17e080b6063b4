-- The lines of globals: reading undoes spelling, and what is read is spelled so.
use Rattle.std.proofs.Common.{◌≡◌, ◌≤◌, ◌<◌, ◌+◌, ◌-◌, ◌^◌, ◌==◌, ℕ, zero, suc, ℤ, Bool, true, false, not, ◌&&◌, nat_le, cond, List, [], ◌∷◌, ◌++◌, replicate, length, map, Option, None, Some, decimal, codes, FitsSigned, ap, sym, subst, ◌∙◌, refl, rules, arith, append_assoc, length-append, add-one}
use Rattle.std.specs.Fmt.{signed_decimal}
use Rattle.std.specs.Int.{w64}
use Rattle.std.specs.Ordering.{int_eq}
use Rattle.std.specs.List.{AllByRecursion, list_all}
use Rattle.std.proofs.lemmas.Bool.{eqb-true, eq-eqb, leb-true, le-leb, and_parts}
use Rattle.std.proofs.lemmas.Bool.Decides.{nat_tests}
use Rattle.std.proofs.lemmas.List.{length-replicate}
use Rattle.std.proofs.lemmas.Option.{option_and_then_some}
use Rattle.base_lists.proofs.Tests.{some_choice}
use Rattle.base_lists.proofs.Options.{mapped, some_is}
use Rattle.cbi_base.specs.Words.{is_word, number_of, greatest_u32, IsField, is_field_byte}
use Rattle.cbi_base.specs.declared.scalar.Kind.{Kind}
use Rattle.cbi_base.specs.declared.scalar.Kind.TheVariants.{Char, Int, Unsigned}
use Rattle.cbi_base.proofs.FieldLemmas.{IsField-decimal, IsField-signed, decimal-all}
use Rattle.cbi_base.proofs.NumberLemmas.{same-word, number_of-spelled, signed_of-spelled, signed_of-signed, small-read}
use Rattle.flow.specs.declared.program.Cell.{Cell}
use Rattle.flow.specs.declared.program.Cell.TheVariants.{Number, Null, Text}
use Rattle.flow.specs.Spelling.{Run, kind_word, cell_word, same_kind, same_cell, with_cell, cell_runs, run_word}
use Rattle.program_lines.specs.CellRuns.{is_colon, cut_at_colon, kind_of_letter, cell_of, run_of, is_different_cell, may_come, cells_of, global_of_row}

-- the values of cells, compared
int_eq-refl : (z : ℤ) → int_eq z z ≡ true
int_eq-refl z = search rules

same_kind-refl : (kind : Kind) → same_kind kind kind ≡ true
same_kind-refl Char = refl
same_kind-refl Int = refl
same_kind-refl Unsigned = refl

pub same_cell-refl : (c : Cell) → same_cell c c ≡ true
same_cell-refl (Number kind value) = rw (same_kind-refl kind, int_eq-refl value) refl
same_cell-refl Null = refl
same_cell-refl (Text index) = eq-eqb index index refl

same_kind-is : (kind other : Kind) → same_kind kind other ≡ true → kind ≡ other
same_kind-is Char Char h = refl
same_kind-is Int Int h = refl
same_kind-is Unsigned Unsigned h = refl
same_kind-is kind other h = cc

int_eq-is : (y z : ℤ) → int_eq y z ≡ true → y ≡ z
int_eq-is y z h = search rules

pub same_cell-is : (c d : Cell) → same_cell c d ≡ true → c ≡ d
same_cell-is (Number kind value) (Number other number) h =
    let parts = and_parts (same_kind kind other) (int_eq value number) h in
    ap (λ k. Number k value) (same_kind-is kind other parts.0) ∙ ap (Number other) (int_eq-is value number parts.1)
same_cell-is Null Null h = refl
same_cell-is (Text index) (Text place) h = ap Text (eqb-true index place h)
same_cell-is c d h = cc

-- a decimal has no colon
is_digit : ℕ → Bool
is_digit b = nat_le 48 b && nat_le b 57

no-colon : ℕ → Bool
no-colon b = not (is_colon b)

decimal-no-colon : (n : ℕ) → n < 2 ^ 64 → list_all no-colon (decimal n) ≡ true
unfolding no-colon
decimal-no-colon n h = decimal-all no-colon (λ d small. grind (arith, nat_tests)) n h

cut-after : (front rest : List ℕ) → list_all no-colon front ≡ true → cut_at_colon (front ++ 58 ∷ rest) ≡ Some (front, rest)
unfolding no-colon
cut-after [] rest h = refl
cut-after (b ∷ bs) rest h =
    let parts = and_parts (not (is_colon b)) (list_all no-colon bs) h in
    let no : is_colon b ≡ false = opposite (is_colon b) parts.0 in
    rw (no, cut-after bs rest parts.1) refl
  where
    opposite : (a : Bool) → not a ≡ true → a ≡ false
    opposite true h = cc
    opposite false h = refl

cut-is : (field : List ℕ) (parts : List ℕ × List ℕ) → cut_at_colon field ≡ Some parts → field ≡ parts.0 ++ codes ":" ++ parts.1
cut-is [] parts h = absurd cc
cut-is (b ∷ bs) parts h =
    some_choice (is_colon b) _ _ parts h (λ test is.
    let colon : b ≡ 58 = eqb-true b 58 test in
    ap (λ x. x ∷ bs) colon ∙ ap (λ (p : List ℕ × List ℕ). p.0 ++ codes ":" ++ p.1) (some_is is)) (λ _ h.
    mapped _ (cut_at_colon bs) parts h (λ more is same.
    ap (λ t. b ∷ t) (cut-is bs more is) ∙ ap (λ (p : List ℕ × List ℕ). p.0 ++ codes ":" ++ p.1) same))

-- the number in a cell has the size that its field has
unfoldable pub IsSmallCell : Cell → Type 0
IsSmallCell (Number kind value) = FitsSigned w64 value
IsSmallCell Null = Unit {0}
IsSmallCell (Text index) = index ≤ greatest_u32

lettered-is : (letter : ℕ) (kind : Kind) → kind_of_letter letter ≡ Some kind → letter ∷ [] ≡ kind_word kind
lettered-is letter kind h =
    some_choice (letter == 99) _ _ kind h (λ test is. ap (λ b. b ∷ []) (eqb-true letter 99 test) ∙ ap kind_word (some_is is)) (λ _ h.
    some_choice (letter == 105) _ _ kind h (λ test is. ap (λ b. b ∷ []) (eqb-true letter 105 test) ∙ ap kind_word (some_is is)) (λ _ h.
    some_choice (letter == 117) _ _ kind h (λ test is. ap (λ b. b ∷ []) (eqb-true letter 117 test) ∙ ap kind_word (some_is is)) (λ _ none. absurd cc)))

cell_of-spelled : (field : List ℕ) (c : Cell) → cell_of field ≡ Some c → field ≡ cell_word c
unfolding cell_of
cell_of-spelled [] c h = absurd cc
cell_of-spelled (letter ∷ rest) c h =
    some_choice (letter == 115) _ _ c h (λ test h. mapped Text _ c h (λ index is same.
    ap (λ b. b ∷ rest) (eqb-true letter 115 test) ∙ ap (λ ds. 115 ∷ ds) (number_of-spelled greatest_u32 rest index is).0 ∙ ap cell_word same)) (λ _ h.
    some_choice (is_word (letter ∷ rest) (codes "p")) _ _ c h (λ test is. same-word (letter ∷ rest) _ test ∙ ap cell_word (some_is is)) (λ _ h.
    option_and_then_some _ (kind_of_letter letter) c h (λ kind is_kind h. mapped (Number kind) _ c h (λ value is same.
    ap (λ l. l ++ rest) (lettered-is letter kind is_kind) ∙ ap (λ ds. kind_word kind ++ ds) (signed_of-spelled rest value is).0 ∙ ap cell_word same))))

cell_of-word : (c : Cell) → IsSmallCell c → cell_of (cell_word c) ≡ Some c
unfolding cell_of IsSmallCell
cell_of-word (Number Char value) h = rw (signed_of-signed value h) refl
cell_of-word (Number Int value) h = rw (signed_of-signed value h) refl
cell_of-word (Number Unsigned value) h = rw (signed_of-signed value h) refl
cell_of-word Null h = refl
cell_of-word (Text index) h = rw (small-read index h) refl

run_of-spelled : (field : List ℕ) (run : Run) → run_of field ≡ Some run → field ≡ run_word run
unfolding run_of
run_of-spelled field run h =
    option_and_then_some _ (cut_at_colon field) run h (λ parts is_parts h. option_and_then_some _ (number_of greatest_u32 parts.0) run h (λ count is_count h. mapped _ (cell_of parts.1) run h (λ c is_c same.
    cut-is field parts is_parts ∙ ap (λ t. t ++ codes ":" ++ parts.1) (number_of-spelled greatest_u32 parts.0 count is_count).0
    ∙ ap (λ t. decimal count ++ codes ":" ++ t) (cell_of-spelled parts.1 c is_c) ∙ ap run_word same)))

run_of-word : (run : Run) → run.count ≤ greatest_u32 → IsSmallCell run.cell → run_of (run_word run) ≡ Some run
unfolding run_of
run_of-word run few small =
    let cut : cut_at_colon (run_word run) ≡ Some (decimal run.count, cell_word run.cell) = ap cut_at_colon (append_assoc (decimal run.count) (codes ":") (cell_word run.cell)) ∙ cut-after (decimal run.count) (cell_word run.cell) (decimal-no-colon run.count (omega arith)) in
    rw (cut, small-read run.count few, cell_of-word run.cell small) refl

-- the first run has another cell than this one
unfoldable pub first-differs : Option Cell → List Run → Bool
first-differs last [] = true
first-differs last (run ∷ runs) = is_different_cell last run.cell

-- equal cells in front of runs that begin otherwise are one run
runs-replicate : (count : ℕ) (c : Cell) (cells : List Cell) → first-differs (Some c) (cell_runs cells) ≡ true → cell_runs (replicate (suc count) c ++ cells) ≡ record { count = suc count; cell = c } ∷ cell_runs cells
unfolding first-differs
runs-replicate zero c cells h = in-front (cell_runs cells) h
  where
    other : (a : Bool) → not a ≡ true → a ≡ false
    other true h = cc
    other false h = refl

    turned : (d : Cell) → not (same_cell c d) ≡ true → same_cell c d ≡ false
    turned d h = other (same_cell c d) h

    in-front : (runs : List Run) → first-differs (Some c) runs ≡ true → with_cell c runs ≡ record { count = 1; cell = c } ∷ runs
    in-front [] h = refl
    in-front (run ∷ runs) h = rw (turned run.cell h) refl
runs-replicate (suc count) c cells h =
    ap (with_cell c) (runs-replicate count c cells h) ∙ rw (same_cell-refl c) (ap (λ n. record { count = n; cell = c } ∷ cell_runs cells) (add-one (suc count)))

-- what is read of runs is spelled by runs
pub cells_of-spelled : (room : ℕ) (last : Option Cell) (fields : List (List ℕ)) (cells : List Cell) → cells_of room last fields ≡ Some cells
    → (fields ≡ map run_word (cell_runs cells)) × (first-differs last (cell_runs cells) ≡ true) × (length cells ≤ room)
unfolding first-differs
cells_of-spelled room last [] cells h =
    subst (λ cs. ([] ≡ map run_word (cell_runs cs)) × (first-differs last (cell_runs cs) ≡ true) × (length cs ≤ room)) (some_is h) (refl, refl, omega arith)
cells_of-spelled room last (field ∷ fields) cells h =
    option_and_then_some _ (run_of field) cells h (λ run is_run h.
    some_choice (may_come room last run) _ _ cells h (λ test h.
    mapped _ (cells_of (room - run.count) (Some run.cell) fields) cells h (λ rest is_rest same.
    let parts = and_parts (nat_le 1 run.count && nat_le run.count room) (is_different_cell last run.cell) test in
    let counts = and_parts (nat_le 1 run.count) (nat_le run.count room) parts.0 in
    let more = cells_of-spelled (room - run.count) (Some run.cell) fields rest is_rest in
    let runs = whole run.count run.cell rest (leb-true 1 run.count counts.0) more.1 in
    subst (λ cs. (field ∷ fields ≡ map run_word (cell_runs cs)) × (first-differs last (cell_runs cs) ≡ true) × (length cs ≤ room)) same (
      ap (λ f. f ∷ fields) (run_of-spelled field run is_run) ∙ ap (λ fs. run_word run ∷ fs) more.0 ∙ ap (map run_word) (sym runs),
      ap (first-differs last) runs ∙ parts.1,
      omega (arith, length-append {A = Cell} (replicate run.count run.cell) rest, length-replicate run.count run.cell, more.2, leb-true run.count room counts.1),
    ))) (λ _ none. absurd cc))
  where
    whole : (count : ℕ) (c : Cell) (rest : List Cell) → 1 ≤ count → first-differs (Some c) (cell_runs rest) ≡ true → cell_runs (replicate count c ++ rest) ≡ record { count = count; cell = c } ∷ cell_runs rest
    whole zero c rest some h = absurd (omega arith)
    whole (suc n) c rest some h = runs-replicate n c rest h

pub global_of_row-spelled : (room : ℕ) (fields : List (List ℕ)) (cells : List Cell) → global_of_row room fields ≡ Some cells → (fields ≡ codes "global" ∷ map run_word (cell_runs cells)) × (length cells ≤ room)
global_of_row-spelled room [] cells h = absurd cc
global_of_row-spelled room (word ∷ fields) cells h =
    some_choice (is_word word (codes "global")) _ _ cells h (λ test is.
    let more = cells_of-spelled room None fields cells is in
    (ap (λ w. w ∷ fields) (same-word word _ test) ∙ ap (λ fs. codes "global" ∷ fs) more.0, more.2)) (λ _ none. absurd cc)

-- the runs of cells, read: each has a cell at least, neighbours differ, and all of them are the cells
unfoldable pub AreRuns : ℕ → Option Cell → List Run → Type 0
AreRuns room last [] = Unit {0}
AreRuns room last (run ∷ runs) = (may_come room last run ≡ true) × (IsSmallCell run.cell × (run.count ≤ greatest_u32)) × AreRuns (room - run.count) (Some run.cell) runs

cells_in_runs : List Run → List Cell
cells_in_runs [] = []
cells_in_runs (run ∷ runs) = replicate run.count run.cell ++ cells_in_runs runs

cells_of-runs : (room : ℕ) (last : Option Cell) (runs : List Run) → AreRuns room last runs → cells_of room last (map run_word runs) ≡ Some (cells_in_runs runs)
unfolding AreRuns cells_in_runs
cells_of-runs room last [] h = refl
cells_of-runs room last (run ∷ runs) h =
    rw (run_of-word run h.1.1 h.1.0, h.0, cells_of-runs (room - run.count) (Some run.cell) runs h.2) refl

runs-are : (c : Cell) (runs : List Run) → cells_in_runs (with_cell c runs) ≡ c ∷ cells_in_runs runs
unfolding cells_in_runs
runs-are c [] = refl
runs-are c (run ∷ runs) = by (same_cell c run.cell) refl
  where
    by : (b : Bool) → same_cell c run.cell ≡ b → cells_in_runs (cond b (record run { count = run.count + 1 } ∷ runs) (record { count = 1; cell = c } ∷ run ∷ runs)) ≡ c ∷ cells_in_runs (run ∷ runs)
    by true h = ap (λ n. replicate n run.cell ++ cells_in_runs runs) (add-one run.count) ∙ ap (λ d. d ∷ replicate run.count run.cell ++ cells_in_runs runs) (sym (same_cell-is c run.cell h))
    by false h = refl

all-runs : (cells : List Cell) → cells_in_runs (cell_runs cells) ≡ cells
unfolding cells_in_runs
all-runs [] = refl
all-runs (c ∷ cells) = runs-are c (cell_runs cells) ∙ ap (λ cs. c ∷ cs) (all-runs cells)

more-room : (room more : ℕ) (last : Option Cell) (runs : List Run) → room ≤ more → AreRuns room last runs → AreRuns more last runs
unfolding AreRuns
more-room room more last [] h are = tt
more-room room more last (run ∷ runs) h are =
    let parts = and_parts (nat_le 1 run.count && nat_le run.count room) (is_different_cell last run.cell) are.0 in
    let counts = and_parts (nat_le 1 run.count) (nat_le run.count room) parts.0 in
    let fits : nat_le run.count more ≡ true = le-leb run.count more (omega (arith, leb-true run.count room counts.1)) in
    (rw (counts.0, fits, parts.1) refl, are.1, more-room (room - run.count) (more - run.count) (Some run.cell) runs (omega arith) are.2)

any-last : (room : ℕ) (last : Option Cell) (runs : List Run) → first-differs last runs ≡ true → AreRuns room None runs → AreRuns room last runs
unfolding AreRuns first-differs
any-last room last [] h are = tt
any-last room last (run ∷ runs) h are =
    let parts = and_parts (nat_le 1 run.count && nat_le run.count room) true are.0 in
    (rw (parts.0, h) refl, are.1, are.2)

with-are : (c : Cell) (room : ℕ) (runs : List Run) → IsSmallCell c → suc room ≤ greatest_u32 → AreRuns room None runs → AreRuns (suc room) None (with_cell c runs)
unfolding AreRuns first-differs
with-are c room [] small few are = (rw (le-leb 1 (suc room) (omega arith)) refl, (small, omega arith), tt)
with-are c room (run ∷ runs) small few are = by (same_cell c run.cell) refl
  where
    by : (b : Bool) → same_cell c run.cell ≡ b → AreRuns (suc room) None (cond b (record run { count = run.count + 1 } ∷ runs) (record { count = 1; cell = c } ∷ run ∷ runs))
    by true h =
        let parts = and_parts (nat_le 1 run.count && nat_le run.count room) true are.0 in
        let counts = and_parts (nat_le 1 run.count) (nat_le run.count room) parts.0 in
        let low : nat_le 1 (run.count + 1) ≡ true = le-leb 1 (run.count + 1) (omega arith) in
        let high : nat_le (run.count + 1) (suc room) ≡ true = le-leb (run.count + 1) (suc room) (omega (arith, leb-true run.count room counts.1)) in
        (rw (low, high) refl, (are.1.0, omega (arith, leb-true run.count room counts.1)), subst (λ r. AreRuns r (Some run.cell) runs) (omega arith) are.2)
    by false h =
        let one : nat_le 1 (suc room) ≡ true = le-leb 1 (suc room) (omega arith) in
        let next : AreRuns room (Some c) (run ∷ runs) = any-last room (Some c) (run ∷ runs) (ap not h) are in
        (rw one refl, (small, omega arith), subst (λ r. AreRuns r (Some c) (run ∷ runs)) (omega arith) next)

runs-good : (cells : List Cell) → AllByRecursion IsSmallCell cells → length cells ≤ greatest_u32 → AreRuns (length cells) None (cell_runs cells)
unfolding AreRuns
runs-good [] all few = tt
runs-good (c ∷ cells) all few = with-are c (length cells) (cell_runs cells) all.0 few (runs-good cells all.1 (omega arith))

pub global_of_row-fields : (room : ℕ) (cells : List Cell) → AllByRecursion IsSmallCell cells → length cells ≤ room → room ≤ greatest_u32 → global_of_row room (codes "global" ∷ map run_word (cell_runs cells)) ≡ Some cells
global_of_row-fields room cells all fits few =
    cells_of-runs room None (cell_runs cells) (more-room (length cells) room None (cell_runs cells) fits (runs-good cells all (omega arith))) ∙ ap Some (all-runs cells)

-- the words of runs have neither space nor newline
is_field-append : (a b : List ℕ) → IsField a → IsField b → IsField (a ++ b)
is_field-append [] b ha hb = hb
is_field-append (x ∷ xs) b ha hb =
    let parts = and_parts (is_field_byte x) (list_all is_field_byte xs) ha in
    let rest : list_all is_field_byte (xs ++ b) ≡ true = is_field-append xs b parts.1 hb in
    rw (parts.0, rest) refl

is_field-cell : (c : Cell) → IsSmallCell c → IsField (cell_word c)
unfolding IsSmallCell
is_field-cell (Number Char value) h = is_field-append (codes "c") (signed_decimal value) refl (IsField-signed value h)
is_field-cell (Number Int value) h = is_field-append (codes "i") (signed_decimal value) refl (IsField-signed value h)
is_field-cell (Number Unsigned value) h = is_field-append (codes "u") (signed_decimal value) refl (IsField-signed value h)
is_field-cell Null h = refl
is_field-cell (Text index) h = is_field-append (codes "s") (decimal index) refl (IsField-decimal index (omega (arith, h)))

is_field-runs : (room : ℕ) (last : Option Cell) (runs : List Run) → AreRuns room last runs → AllByRecursion IsField (map run_word runs)
unfolding AreRuns
is_field-runs room last [] h = tt
is_field-runs room last (run ∷ runs) h = (
  is_field-append (decimal run.count ++ codes ":") (cell_word run.cell) (is_field-append (decimal run.count) (codes ":") (IsField-decimal run.count (omega (arith, h.1.1))) refl) (is_field-cell run.cell h.1.0),
  is_field-runs (room - run.count) (Some run.cell) runs h.2,
)

pub are_fields-global : (cells : List Cell) → AllByRecursion IsSmallCell cells → length cells ≤ greatest_u32 → AllByRecursion IsField (codes "global" ∷ map run_word (cell_runs cells))
are_fields-global cells all few = (refl, is_field-runs (length cells) None (cell_runs cells) (runs-good cells all few))
