-- The list of suspicious lines: the best suspect, then the best of those that stand apart from it, and so on. A line that is listed stands for those near it.
use Rattle.std.specs.Prelude.{◌≡◌, ℕ, zero, suc, ◌+◌, ◌==◌, Bool, not, ◌&&◌, nat_le, List, [], ◌∷◌, filter, All, Contains}
use Rattle.association.specs.declared.suspect.Suspect.{Suspect}
use Rattle.association.specs.Order.{IsBetter}

-- in one function, at most so many lines apart
abbrev pub are_near : ℕ → Suspect → Suspect → Bool
are_near apart s t = (s.function == t.function) && (nat_le s.line (t.line + apart) && nat_le t.line (s.line + apart))

-- those that aren't near this one
abbrev pub apart_from : ℕ → Suspect → List Suspect → List Suspect
apart_from apart s suspects = filter (λ (t : Suspect). not (are_near apart s t)) suspects

-- the best of these, where so many runs fail and so many are successful
pub record IsBest (failing successful : ℕ) (suspects : List Suspect) (s : Suspect) : Type 0 where
  pub is_one : Contains suspects s
  pub best : All (λ (t : Suspect). IsBetter failing successful t s → ⊥) suspects

-- at most so many of these, the best first, each apart from all before it
abbrev pub AreListed : ℕ → ℕ → ℕ → ℕ → List Suspect → List Suspect → Type 0
AreListed failing successful apart zero suspects rows = rows ≡ []
AreListed failing successful apart (suc most) suspects [] = suspects ≡ []
AreListed failing successful apart (suc most) suspects (s ∷ more) =
    IsBest failing successful suspects s × AreListed failing successful apart most (apart_from apart s suspects) more
