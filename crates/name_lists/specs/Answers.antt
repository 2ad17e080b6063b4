-- What reading a list answers, of which want of memory is free.
use Rattle.std.specs.Prelude.{◌≡◌, ℕ, List, Result, Ok, Err}
use Rattle.name_lists.specs.declared.reading.ListError.{ListError}
use Rattle.name_lists.specs.declared.reading.ListError.TheVariants.{BadList, Memory}

-- the answer is these names, unless memory ran out
abbrev pub ListReadAs : Result (List (List ℕ)) ListError → List (List ℕ) → Type 0
ListReadAs (Ok names) want = names ≡ want
ListReadAs (Err (BadList line)) want = ⊥
ListReadAs (Err Memory) want = Unit {0}

-- the text is refused at this line, unless memory ran out
abbrev pub ListRefusedAt : Result (List (List ℕ)) ListError → ℕ → Type 0
ListRefusedAt (Ok names) line = ⊥
ListRefusedAt (Err (BadList bad)) line = bad ≡ line
ListRefusedAt (Err Memory) line = Unit {0}
