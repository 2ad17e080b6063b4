-- The line of a token past the last is that of the last.
use Rattle.std.proofs.Common.{◌≡◌, ℕ, ◌-◌, ap, arith, List, length}
use Rattle.std.specs.Prelude.{min, slice_index_or}
use Rattle.std.proofs.lemmas.List.{length-map}
use Rattle.c_syntax.specs.declared.token.Token.{Token}
use Rattle.c_syntax.specs.Tokens.{line_at, lines_of}

least : (i n m : ℕ) → m ≡ n → min (min i n) (m - 1) ≡ min i (m - 1)
least i n m same = omega (arith, same)

pub same_line : (ts : List Token) (i : ℕ) → line_at (lines_of ts) (min i (length ts)) ≡ line_at (lines_of ts) i
same_line ts i = ap (λ k. slice_index_or (lines_of ts) k 1) (least i (length ts) (length (lines_of ts)) (length-map ts (λ t. t.line)))
