-- Reading a line as a value, both ways: what is read is spelled so, and what is spelled so is read.
use Rattle.std.specs.Prelude.{◌≡◌, ℕ, List, Option, Some, IfSome}
use Rattle.cbi_base.specs.Text.{line_of_fields}

pub record Reads {A : Type 0} (spell : A → List (List ℕ)) (Good : A → Type 0) (line : List ℕ) (answer : Option A) : Type 0 where
  pub found : IfSome answer (λ x. Good x × (line ≡ line_of_fields (spell x)))
  pub only : (x : A) → Good x → line ≡ line_of_fields (spell x) → answer ≡ Some x
