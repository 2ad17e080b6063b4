-- What is noted of the variables while the bodies are gone through, where pairs are wanted.
use Rattle.std.specs.Prelude.{◌≡◌, ℕ, ◌≤◌, true, if◌then◌else◌, List, Vec, Option, Some}
use Rattle.std.specs.Global.{Global}
use Rattle.std.specs.Map.{lookup}
use Rattle.std.specs.Str.{bytes_eq}
use Rattle.c_types_expressions.specs.Indexed.{is_key}
use Rattle.c_types_expressions.specs.declared.walk.Walk.{Walk}
use Rattle.sites.specs.declared.noted.Noted.{Noted}
use Rattle.flow.specs.declared.choice.Schemes.{Schemes}
use Rattle.sites.specs.Near.{AreEnough, all_firsts, places_with_scope_left}
use Rattle.sites.specs.Visible.{all_again, least_token}

-- It is noted of each variable where a later one takes its name again, and where it or a later one begins; and which of those seen last at
-- some token that isn't behind this one.
pub record IsNotedTo (w : Walk) (at : ℕ) (n : Noted) : Type 0 where
  pub again : n.again ≡ all_again w.variables
  pub firsts : n.firsts ≡ all_firsts w.variables
  pub since : ℕ
  pub before : since ≤ at
  pub near : n.near.items ≡ places_with_scope_left w since n.seen

-- It is enough for the pairs at the token.
pub record IsEnough (w : Walk) (n : Noted) (token : ℕ) : Type 0 where
  pub again : n.again ≡ all_again w.variables
  pub near : AreEnough w n.near.items token

-- so, where pairs are wanted
pub record IsNotedFor (schemes : Schemes) (w : Walk) (at : ℕ) (n : Noted) : Type 0 where
  pub wanted : schemes.pairs ≡ true → IsNotedTo w at n

abbrev pub IsEnoughFor : Schemes → Walk → Noted → ℕ → Type 0
IsEnoughFor schemes w n token = schemes.pairs ≡ true → IsEnough w n token

-- the token that is kept of a name
abbrev pub first_in : List (Vec ℕ Global × ℕ) → List ℕ → Option ℕ
first_in firsts name = lookup (is_key name) firsts

-- of the name the token is kept as well, and of others what was
abbrev pub IsNoted : List ℕ → ℕ → List (Vec ℕ Global × ℕ) → List (Vec ℕ Global × ℕ) → Type 0
IsNoted name from old new =
    (other : List ℕ) → first_in new other ≡ (if bytes_eq name other then Some (least_token from (first_in old other)) else first_in old other)
