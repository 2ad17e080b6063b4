-- Whether the output of a run is as it should be.
use Rattle.std.specs.Prelude.{ℕ, Bool, true, ◌&&◌, nat_le, List, length, Option, Some, None}
use Rattle.cbi_base.specs.Numbers.{is_word}

-- the most bytes of a file that an output can equal
abbrev pub expect_limit : ℕ
expect_limit = 16777216

-- The output is as it should be: it equals the bytes of the file that it is to equal, where one is given. One that is too large equals none.
abbrev pub is_expected_output : Option (List ℕ) → List ℕ → Bool
is_expected_output None output = true
is_expected_output (Some bytes) output = nat_le (length bytes) expect_limit && is_word bytes output
