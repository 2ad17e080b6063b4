-- The steps of a scan: whether a pair is passed over, and which of two is better.
use Rattle.std.specs.Prelude.{◌≡◌, Bool, false, Option, None, Some, MatchOption, if◌then◌else◌}
use Rattle.fractions.specs.declared.fraction.Fraction.{Fraction}
use Rattle.fractions.specs.Tally.{Passes}
use Rattle.compound.specs.declared.chosen.Chosen.{Chosen}
use Rattle.compound.specs.declared.scanning.Best.{Best}
use Rattle.compound.specs.Listing.{IsRating, is_less}

abbrev pub is_passed_over : Option Best → Fraction → Bool
is_passed_over None bound = false
is_passed_over (Some b) bound = is_less bound b.importance

abbrev pub better_pair : Option Best → Option Best → Option Best
better_pair best None = best
better_pair None (Some next) = Some next
better_pair (Some b) (Some next) = if is_less b.importance next.importance then Some next else Some b

-- a passing pair with its importance
pub record IsWeight (chosen : Chosen) (b : Best) : Type 0 where
  pub chosen_is : b.chosen ≡ chosen
  pub rating : IsRating chosen.tally chosen.failing b.importance

-- none exactly where it doesn't pass
abbrev pub IsWeighed : Chosen → Option Best → Type 0
IsWeighed chosen weight = MatchOption weight (Passes chosen.tally → ⊥) (IsWeight chosen)
