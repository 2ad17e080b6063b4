-- Reading a program file, line by line: the lines so far are the rows of what was read, and what was read keeps the conditions on programs.
use Rattle.std.proofs.Common.{◌≡◌, ℕ, List, codes, ap, sym, ◌∙◌}
use Rattle.base_lists.proofs.Options.{some_is}
use Rattle.cbi_base.specs.Text.{fields_of}
use Rattle.flow.specs.Spelling.{Head, word_and_number, end_row}
use Rattle.program_lines.specs.Rows.{locals_of_row}
use Rattle.program_file.specs.declared.draft.Due.{Due}
use Rattle.program_file.specs.declared.draft.Due.TheVariants as due
use Rattle.program_file.specs.declared.draft.Draft.{Draft}
use Rattle.program_file.specs.Draft.{TakesItem, IsRow, IsCount, IsDue, ProgramLineComes, ProgramLineFollows}

-- a line that may come leads to one state
takes-once : {A : Type 0} (IsItem : A → Type 0) (made : A → Draft) → ((x y : A) → IsItem x → IsItem y → x ≡ y) → (a b : Draft) → TakesItem IsItem made a → TakesItem IsItem made b → a ≡ b
takes-once IsItem made one a b p q = p.2 ∙ ap made (one p.0 q.0 p.1 q.1) ∙ sym q.2

row-once : (row : List (List ℕ)) (next : Due) (d : Draft) (line : List ℕ) (a b : Draft) → IsRow row next d line a → IsRow row next d line b → a ≡ b
row-once row next d line a b p q = p.1 ∙ sym q.1

count-once : (word : List ℕ) (most : ℕ) (line : List ℕ) (x y : ℕ) → IsCount word most line x → IsCount word most line y → x ≡ y
count-once word most line x y p q = some_is (sym p.reads ∙ q.reads)

pub due-once : (d : Draft) (g h : Head) → IsDue d g → IsDue d h → g ≡ h
due-once d g h p q = some_is (sym p ∙ q)

comes-once : (next : Due) (d : Draft) (line : List ℕ) (a b : Draft) → ProgramLineComes next d line a → ProgramLineComes next d line b → a ≡ b
comes-once due.Title d line a b p q = row-once (word_and_number (codes "cbi-program") 1) due.Texts d line a b p q
comes-once due.Text d line a b p q = takes-once _ _ (λ x y s t. ap (λ bs. record { bytes = bs }) (some_is (sym s.reads ∙ t.reads))) a b p q
comes-once due.Global d line a b p q = takes-once _ _ (λ x y s t. ap (λ cs. record { cells = cs }) (some_is (sym s.reads ∙ t.reads))) a b p q
comes-once due.Functions d line a b p q = takes-once _ _ (λ x y s t. count-once _ _ line x y s.counts t.counts) a b p q
comes-once due.Head d line a b p q = takes-once _ _ (λ x y s t. some_is (sym s.reads ∙ t.reads)) a b p q
comes-once due.Main d line a b p q = takes-once _ _ (λ x y s t. some_is (sym s.reads ∙ t.reads)) a b p q
comes-once due.Site d line a b p q = takes-once _ _ (λ x y s t. some_is (sym s.reads ∙ t.reads)) a b p q
comes-once due.Locals d line a b p q =
    takes-once _ _ (λ x y s t. some_is (sym s.reads ∙ ap (λ (h : Head). locals_of_row h.locals (fields_of line)) (due-once d s.head t.head s.is_due t.is_due) ∙ t.reads)) a b p q
comes-once due.Node d line a b p q =
    takes-once _ _ (λ x y s t. let h = due-once d x.0 y.0 s.is_due t.is_due in let n : x.1 ≡ y.1 = some_is (sym s.reads ∙ t.reads) in ap (λ g. (g, x.1)) h ∙ ap (λ m. (y.0, m)) n) a b p q
comes-once due.End d line a b p q = row-once end_row due.Nothing d line a b p q
comes-once due.Nothing d line a b p q = absurd p
comes-once next d line a b p q = takes-once _ _ (count-once _ _ line) a b p q

pub follows-once : (d : Draft) (line : List ℕ) (a b : Draft) → ProgramLineFollows d line a → ProgramLineFollows d line b → a ≡ b
follows-once d line a b p q = comes-once d.due d line a b p q
