-- What reading edits answers, of which want of memory is free.
use Rattle.std.specs.Prelude.{◌≡◌, ℕ, List, Result, Ok, Err}
use Rattle.session_edits.specs.declared.edit.Edit.{Edit}
use Rattle.session_edits.specs.declared.reading.EditsError.{EditsError}
use Rattle.session_edits.specs.declared.reading.EditsError.TheVariants.{BadEdits, Memory}

-- the answer is these edits, unless memory ran out
abbrev pub EditsReadAs : Result (List Edit) EditsError → List Edit → Type 0
EditsReadAs (Ok edits) want = edits ≡ want
EditsReadAs (Err (BadEdits line)) want = ⊥
EditsReadAs (Err Memory) want = Unit {0}

-- the bytes are refused at this line, unless memory ran out
abbrev pub EditsRefusedAt : Result (List Edit) EditsError → ℕ → Type 0
EditsRefusedAt (Ok edits) line = ⊥
EditsRefusedAt (Err (BadEdits bad)) line = bad ≡ line
EditsRefusedAt (Err Memory) line = Unit {0}
