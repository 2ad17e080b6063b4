-- What a reading of lines answers: the facts of what it takes and refuses, of which want of memory is free.
use Rattle.std.specs.Prelude.{◌≡◌, ℕ, Result, Ok, Err}
use Rattle.cbi_base.specs.Lines.{line_after}
use Rattle.cbi_base.specs.declared.lines.LineError.{LineError}
use Rattle.cbi_base.specs.declared.lines.LineError.TheVariants.{Bad, Memory}
use Rattle.cbi_base.specs.declared.lines.TextError.{TextError}
use Rattle.cbi_base.specs.declared.lines.TextError.TheVariants as text

-- a line that may come is taken, with this fact, unless memory runs out
abbrev pub TakenWith : {A : Type 0} → Result A LineError → Type 0 → Type 0
TakenWith (Ok _) P = P
TakenWith (Err Bad) P = ⊥
TakenWith (Err Memory) P = Unit {0}

-- a text that can be read is read, with this fact, unless memory runs out
abbrev pub ReadWith : {A : Type 0} → Result A TextError → Type 0 → Type 0
ReadWith (Ok _) P = P
ReadWith (Err (text.Bad line)) P = ⊥
ReadWith (Err text.Memory) P = Unit {0}

-- a fact of the bad line of a text
abbrev pub IfBadAt : {A : Type 0} → Result A TextError → (ℕ → Type 0) → Type 0
IfBadAt (Ok _) P = Unit {0}
IfBadAt (Err (text.Bad line)) P = P line
IfBadAt (Err text.Memory) P = Unit {0}

-- the text is refused at this line, unless memory runs out
abbrev pub RefusedAt : {A : Type 0} → Result A TextError → ℕ → Type 0
RefusedAt (Ok _) line = ⊥
RefusedAt (Err (text.Bad bad)) line = bad ≡ line
RefusedAt (Err text.Memory) line = Unit {0}

-- the error at the line after so many
abbrev pub bad_after : ℕ → TextError
bad_after lines = text.Bad (line_after lines)
