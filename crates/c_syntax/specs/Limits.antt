-- The limits of a text and of its tokens.
use Rattle.std.specs.Prelude.{ℕ}

-- how many bytes a text has at most
abbrev pub most_bytes : ℕ
most_bytes = 1048576

-- how many tokens a text has at most
abbrev pub most_tokens : ℕ
most_tokens = 100000

-- the last line of a text of newlines alone
abbrev pub greatest_line : ℕ
greatest_line = 1048577
