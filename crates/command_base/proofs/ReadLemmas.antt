-- A store that tells what it holds has one answer to each read.
use Rattle.std.proofs.Common.{◌≡◌, ℕ, List, Option, Some, None, IsSome, ◌∙◌}
use Rattle.std.proofs.lemmas.Bool.{false≢true}
use Rattle.base_lists.proofs.Options.{one_some}
use Rattle.cbi_base.specs.Store.{Held, IsReadOf, read_of}

pub read-once : (held : Option Held) (name : List ℕ) (max : ℕ) (a b : List ℕ) → IsSome held → IsReadOf held name max a → IsReadOf held name max b → a ≡ b
read-once None name max a b tells p q = absurd (false≢true tells)
read-once (Some h) name max a b tells p q = one_some (read_of h name max) a b p q
