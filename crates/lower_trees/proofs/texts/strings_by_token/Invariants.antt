use Rattle.std.proofs.Common.{◌≡◌, ◌≤◌, ℕ, drop}
use Rattle.c_meaning.specs.Literals.{number_from}
use Rattle.lower_trees.specs.Places.{all_at, first_or}
use Rattle.lower_trees.proofs.texts.strings_by_token.Given as goal

abbrev pub invariant-loop-string : goal.invariant-loop-string
invariant-loop-string l =
    (l.number ≤ l.string-index)
    × ((token : ℕ) → first_or (all_at l.lists.items token) (number_from l.number token (drop l.string-index l.strings)) ≡ number_from 0 token l.strings)
