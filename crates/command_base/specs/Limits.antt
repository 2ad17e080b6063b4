-- The most bytes that are read of a file.
use Rattle.std.specs.Prelude.{ℕ}

-- of a program file, and of a C text
abbrev pub program_limit : ℕ
program_limit = 1073741824

abbrev pub text_limit : ℕ
text_limit = 1048576
