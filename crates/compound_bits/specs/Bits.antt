-- A list of facts in two lists of words: 64 places to a word, the lowest bit first; one word says which are true, and the other which are known.
use Rattle.std.specs.Prelude.{ℕ, ◌/◌, ◌%◌, ◌^◌, ◌==◌, Bool, List, [], ◌∷◌, ◌++◌, map, bit_or, slice_index, slice_set, if◌then◌else◌}
use Rattle.std.specs.Int.{bit_at}
use Rattle.std.specs.List.{range_with_len}
use Rattle.compound_bits.specs.Facts.{Fact}

abbrev pub is_bit_set : ℕ → ℕ → Bool
is_bit_set word i = bit_at word i == 1

-- the fact at a place of two words
abbrev pub fact_at : ℕ → ℕ → ℕ → Fact
fact_at truth known i = record { truth = is_bit_set truth i; known = is_bit_set known i }

unfoldable pub word_facts : ℕ → ℕ → List Fact
word_facts truth known = map (fact_at truth known) (range_with_len 0 64)

unfoldable pub facts_of : List ℕ → List ℕ → List Fact
facts_of [] known = []
facts_of (t ∷ truth) [] = []
facts_of (t ∷ truth) (k ∷ known) = word_facts t k ++ facts_of truth known

-- the words with one more bit
abbrev pub with_bit : ℕ → List ℕ → List ℕ
with_bit place words = slice_set words (place / 64) (bit_or (slice_index words (place / 64)) (2 ^ (place % 64)))

-- the words with one more bit, or as they are
abbrev pub with_bit_if : Bool → ℕ → List ℕ → List ℕ
with_bit_if wanted place words = if wanted then with_bit place words else words
