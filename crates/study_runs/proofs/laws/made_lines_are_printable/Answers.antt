use Rattle.std.proofs.Common.{◌+◌, ◌%◌, arith, refl}
use Rattle.study_runs.specs.MadeRun.{bytes_from}
use Rattle.study_runs.proofs.Lines.{bytes_length, bytes_printable}
use Rattle.study_runs.proofs.laws.made_lines_are_printable.Goals as goal

pub returns : goal.returns
returns c = λ words.
    let length_is = bytes_length (λ k. words (k + 1)) (words 0 % 64) in
    (bytes_from (λ k. words (k + 1)) (words 0 % 64), refl, omega (arith, length_is), bytes_printable (λ k. words (k + 1)) (words 0 % 64))
