-- The strings of a text: the number of each leads to its own bytes.
use Rattle.std.proofs.Common.{◌≡◌, ℕ, ◌≤◌, refl, Some, None, length}
use Rattle.std.specs.Prelude.{Option, IsSome, slice_get}
use Rattle.std.specs.Option.{option_and_then}
use Rattle.c_syntax.specs.ItemTree.{SourceTree}
use Rattle.flow.specs.declared.program.Text.{Text}
use Rattle.c_meaning.specs.Literals.{Literal, string_literals, number_from, texts_of}

-- the text at the string's token has its bytes, and is no longer than an object
abbrev pub Spelled : SourceTree → Literal → Type 0
Spelled tree s = (option_and_then (slice_get (texts_of (string_literals tree))) (number_from 0 s.token (string_literals tree)) ≡ Some (record { bytes = s.bytes }))
    × (length s.bytes ≤ 1048575)

pub numbered : (o : Option ℕ) (f : ℕ → Option Text) (x : Text) → option_and_then f o ≡ Some x → IsSome o
numbered None f x h = cc
numbered (Some n) f x h = refl
