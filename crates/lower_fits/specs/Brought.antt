-- What a program takes of a text.
use Rattle.std.specs.Prelude.{ℕ, length, ◌≡◌, [], Option, Some, None, true}
use Rattle.c_types_expressions.specs.declared.walk.Definition.{Definition}
use Rattle.c_meaning.specs.Words.{Facts, Signature, has_value}

-- The function that a run enters gives a value, and has no parameters.
abbrev pub IsMainSignature : Option Signature → Type 0
IsMainSignature None = ⊥
IsMainSignature (Some f) = (f.params ≡ []) × (has_value f.result ≡ true)

-- The function with this number has a signature, with as many locals as its definition counts.
pub record IsSigned (facts : Facts) (number : ℕ) (d : Definition) : Type 0 where
  pub own : Signature
  pub is : facts.signature number ≡ Some own
  pub counts : length own.locals ≡ d.count
