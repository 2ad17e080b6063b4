use Rattle.std.proofs.Common.{◌≡◌, ◌+◌, ◌≤◌, ℕ, List, length}
use Rattle.cbi_base.specs.Lines.{IsGoodPrefix, IsBadLine, ReadsLines}
use Rattle.cbi_base.proofs.LineLemmas.{IsBadBehind}
use Rattle.cbi_base.proofs.lines.read_lines.Given as goal

-- these whole lines were taken; a reading of the whole text goes on from here, and its bad line is behind them
abbrev pub invariant-loop-rest : goal.invariant-loop-rest
invariant-loop-rest g l =
    let follows = g.R.LineReader.follows in
    let ends = g.R.LineReader.ends in record {
      good : List (List ℕ);
      front : IsGoodPrefix follows l.fn.reader l.bytes good l.rest l.reader;
      number : l.lines ≡ length good;
      room : l.lines + length l.rest ≤ length l.bytes;
      only : (to : g.row.R.Denot) → ReadsLines follows ends l.fn.reader l.bytes to → ReadsLines follows ends l.reader l.rest to;
      bad_only : (line : ℕ) → IsBadLine follows ends l.fn.reader l.bytes line → IsBadBehind follows ends l.reader l.rest l.lines line;
    }

abbrev pub decreases-loop-rest : goal.decreases-loop-rest
decreases-loop-rest g l = length l.rest
