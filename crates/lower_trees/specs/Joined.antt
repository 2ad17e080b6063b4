-- Strings, one after another.
use Rattle.std.specs.Prelude.{ℕ, List}
use Rattle.std.specs.List.{flat_map}
use Rattle.c_syntax.specs.Words.{ItemTree, StartTree}
use Rattle.c_meaning.specs.Literals.{Literal, strings_initial, strings_of_item}

-- the bytes of adjacent strings (C99 5.1.1.2p1)
abbrev pub joined_strings : List (List ℕ) → List ℕ
joined_strings parts = flat_map (λ bytes. bytes) parts

-- the strings of several declared variables
abbrev pub strings_of_starts : List StartTree → List Literal
strings_of_starts starts = flat_map (λ x. strings_initial x.initial) starts

-- the strings of several items
abbrev pub strings_of_items : List ItemTree → List Literal
strings_of_items items = flat_map strings_of_item items
