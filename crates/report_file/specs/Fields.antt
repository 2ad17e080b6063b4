-- What the fields of a report's lines are read as, each by a plain body: what stands first, and the fields behind it.
use Rattle.std.specs.Prelude.{ℕ, ◌==◌, if◌then◌else◌, nat_le, ℤ, List, [], ◌∷◌, Option, None, Some, codes}
use Rattle.std.specs.Option.{option_map}
use Rattle.std.specs.List.{find}
use Rattle.cbi_base.specs.Words.{lies_in, is_word, number_of, signed_of}
use Rattle.cbi_base.specs.Numbers.{◌>>=◌}
use Rattle.cbi_base.specs.Trap as trap
use Rattle.cbi_base.specs.declared.scalar.Kind.TheVariants.{Int}
use Rattle.cbi_base.specs.declared.trap.Trap.{Trap}
use Rattle.cbi_base.specs.declared.trap.Trap.TheVariants.{Overflow, Divide, Shift, Undefined, WrongKind, Bounds, Dead, NullUse, ReadOnly, BadFree}
use Rattle.cbi_base.specs.declared.trap.Trap.TheVariants.{Unrelated, StackOverflow, Assertion, Abort, Internal}
use Rattle.cbi_base.specs.declared.outcome.Outcome.{Outcome}
use Rattle.cbi_base.specs.declared.outcome.Outcome.TheVariants.{Ended, Trapped, CutTurns, CutOutput}
use Rattle.cbi_base.specs.declared.outcome.Work.{Work}
use Rattle.cbi_base.specs.declared.outcome.Counts.{Counts}
use Rattle.report_file.specs.declared.label.Label.{Label}
use Rattle.report_file.specs.declared.label.Label.TheVariants.{Fail, Pass, Uncounted}
use Rattle.report_file.specs.declared.report.Entry.{Entry}
use Rattle.report_file.specs.Report.{greatest_count, greatest_run, greatest_site, is_positive}

-- the one thing in a line, with no field behind it
abbrev pub value_at_end : {A : Type 0} → A × List (List ℕ) → Option A
value_at_end (a, []) = Some a
value_at_end (a, field ∷ more) = None

abbrev pub count_of : List ℕ → Option ℕ
count_of field = number_of greatest_count field

unfoldable pub run_at : List (List ℕ) → Option (ℕ × List (List ℕ))
run_at [] = None
run_at (word ∷ []) = None
run_at (word ∷ number ∷ rest) =
    if is_word word (codes "run")
    then (number_of greatest_run number >>= λ run. if nat_le 1 run then Some (run, rest) else None)
    else None

-- the traps, and the one with this number
abbrev pub traps : List Trap
traps = Overflow ∷ Divide ∷ Shift ∷ Undefined ∷ WrongKind ∷ Bounds ∷ Dead ∷ NullUse ∷ ReadOnly ∷ BadFree ∷ Unrelated ∷ StackOverflow ∷ Assertion
    ∷ Abort ∷ Internal ∷ []

abbrev pub trap_numbered : ℕ → Option Trap
trap_numbered number = find (λ t. trap.trap_number t == number) traps

abbrev pub trap_of : List ℕ → Option Trap
trap_of field = number_of 99 field >>= trap_numbered

-- an `int`
abbrev pub status_of : List ℕ → Option ℤ
status_of field = signed_of field >>= λ status. if lies_in Int status then Some status else None

abbrev pub cut_of : List ℕ → Option Outcome
cut_of field = if is_word field (codes "turns") then Some CutTurns else (if is_word field (codes "output") then Some CutOutput else None)

unfoldable pub outcome_of : List ℕ → List ℕ → Option Outcome
outcome_of word field =
    if is_word word (codes "ended") then option_map Ended (status_of field)
    else (if is_word word (codes "trapped") then option_map Trapped (trap_of field)
    else (if is_word word (codes "cut") then cut_of field else None))

abbrev pub outcome_at : List (List ℕ) → Option (Outcome × List (List ℕ))
outcome_at [] = None
outcome_at (word ∷ []) = None
outcome_at (word ∷ field ∷ rest) = option_map (λ outcome. (outcome, rest)) (outcome_of word field)

unfoldable pub label_in : List ℕ → Option Label
label_in field =
    if is_word field (codes "fail") then Some Fail
    else (if is_word field (codes "pass") then Some Pass
    else (if is_word field (codes "none") then Some Uncounted else None))

abbrev pub label_at : List (List ℕ) → Option (Label × List (List ℕ))
label_at [] = None
label_at (word ∷ []) = None
label_at (word ∷ field ∷ rest) = if is_word word (codes "label") then option_map (λ label. (label, rest)) (label_in field) else None

-- three counters
unfoldable pub counts_at : List (List ℕ) → Option (Counts × List (List ℕ))
counts_at [] = None
counts_at (a ∷ []) = None
counts_at (a ∷ b ∷ []) = None
counts_at (a ∷ b ∷ c ∷ rest) = do
  first ← count_of a
  second ← count_of b
  third ← count_of c
  Some (record { first = first; second = second; third = third }, rest)

abbrev pub work_with : Counts → Work
work_with c = record { fast = c.first; slow = c.second; tests = c.third }

abbrev pub work_at : List (List ℕ) → Option (Work × List (List ℕ))
work_at [] = None
work_at (word ∷ rest) =
    if is_word word (codes "work") then option_map (λ (c, left). (work_with c, left)) (counts_at rest) else None

-- the entry whose line has these fields
unfoldable pub entry_of_fields : List (List ℕ) → Option Entry
entry_of_fields [] = None
entry_of_fields (word ∷ []) = None
entry_of_fields (word ∷ number ∷ rest) =
    if is_word word (codes "site") then (do
      site ← number_of greatest_site number
      counts ← counts_at rest >>= value_at_end
      if is_positive counts then Some (record { site = site; counts = counts }) else None)
    else None

-- the outcome whose line has these fields, and the text of the identity
abbrev pub outcome_in : List (List ℕ) → Option Outcome
outcome_in [] = None
outcome_in (word ∷ rest) = if is_word word (codes "outcome") then outcome_at rest >>= value_at_end else None

abbrev pub program_field : List (List ℕ) → Option (List ℕ)
program_field [] = None
program_field (word ∷ []) = None
program_field (word ∷ text ∷ []) = if is_word word (codes "program") then Some text else None
program_field (word ∷ text ∷ field ∷ more) = None
