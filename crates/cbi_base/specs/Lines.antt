-- A grammar of lines is two relations on states of reading: `follows state line after` says that the line may come next in a state, and which state is
-- after it; `ends state` says that the text may end there. So a state holds what the lines so far call for.
use Rattle.std.specs.Prelude.{◌≡◌, ℕ, ◌+◌, min, List, [], ◌∷◌, ◌++◌, length}
use Rattle.cbi_base.specs.Text.{Lacks, AreLines, is_newline, line_with_newline, text_of}

-- a line that may come next in a state leads to one state
abbrev pub LeadsOnce : {D : Type 0} → (D → List ℕ → D → Type 0) → Type 0
LeadsOnce {D} follows = (from : D) (line : List ℕ) (a b : D) → follows from line a → follows from line b → a ≡ b

-- the lines may come one after another, and lead from one state to another
abbrev pub LeadsTo : {D : Type 0} → (D → List ℕ → D → Type 0) → D → List (List ℕ) → D → Type 0
LeadsTo follows from [] to = from ≡ to
LeadsTo {D} follows from (line ∷ lines) to = (after : D) × follows from line after × LeadsTo follows after lines to

-- the text is lines that lead from one state to another, where it may end
pub record ReadsLines {D : Type 0} (follows : D → List ℕ → D → Type 0) (ends : D → Type 0) (from : D) (text : List ℕ) (to : D) : Type 0 where
  pub lines : List (List ℕ)
  pub text_is : text ≡ text_of lines
  pub are_lines : AreLines lines
  pub leads : LeadsTo follows from lines to
  pub over : ends to

-- the text begins with these whole lines, and they are good: they may come one after another
pub record IsGoodPrefix {D : Type 0} (follows : D → List ℕ → D → Type 0) (from : D) (text : List ℕ) (good : List (List ℕ)) (rest : List ℕ) (to : D)
    : Type 0 where
  pub text_is : text ≡ text_of good ++ rest
  pub are_lines : AreLines good
  pub leads : LeadsTo follows from good to

-- in this state the rest of a text neither goes on with a line that may come nor is an end
pub record Stops {D : Type 0} (follows : D → List ℕ → D → Type 0) (ends : D → Type 0) (state : D) (rest : List ℕ) : Type 0 where
  pub no_line : (line more : List ℕ) (after : D) → Lacks is_newline line → rest ≡ line_with_newline line ++ more → follows state line after → ⊥
  pub no_end : rest ≡ [] → ends state → ⊥

-- the greatest line that an answer can have
abbrev pub last_line : ℕ
last_line = 4294967295

-- the line after so many, counted from 1, or the greatest that an answer can have
abbrev pub line_after : ℕ → ℕ
line_after lines = min (lines + 1) last_line

-- the line at which the text goes wrong: the one after its longest good prefix, at which reading stops
pub record IsBadLine {D : Type 0} (follows : D → List ℕ → D → Type 0) (ends : D → Type 0) (from : D) (text : List ℕ) (line : ℕ) : Type 0 where
  pub good : List (List ℕ)
  pub rest : List ℕ
  pub state : D
  pub prefix : IsGoodPrefix follows from text good rest state
  pub stops : Stops follows ends state rest
  pub number : line ≡ line_after (length good)
