use Rattle.std.proofs.Common.{◌≡◌, [], ◌∷◌, None, false, ap, subst, sym, ◌∙◌}
use Rattle.cbi_base.specs.Words.{string_on, bytes_printed, is_zero, low_byte}
use Rattle.machine_rows.specs.Printed.{IsPrinted}
use Rattle.machine_rows.proofs.MoveLemmas.{number_is}
use Rattle.machine_rows.proofs.StringLemmas.{cell_goes}
use Rattle.machine_rows.proofs.printing.put_cell.Goals as goal

pub returns-in_ok-put-in-Number-Char-default : goal.returns-in_ok-put-in-Number-Char-default
returns-in_ok-put-in-Number-Char-default c = λ cells o end rest.
    let v = c.in-Number-Char-default.value in
    let same = number_is c.in-Number-Char-default.kind v c.in-Number-Char-default.ensures.in_range in
    let other : is_zero v ≡ false = ap is_zero (sym same) ∙ sym c.is_zero.ensures ∙ c.if-is_zero.false in
    let put : IsPrinted (bytes_printed (low_byte v ∷ [])) c.args.output.now None c.put.new.self =
    subst (λ b. IsPrinted (bytes_printed (b ∷ [])) c.args.output.now None c.put.new.self) (c.char_byte.ensures ∙ ap low_byte same) c.in_ok-put-in-Number-Char-default.ensures
    in
    subst (λ w. IsPrinted (string_on (w ∷ cells)) c.args.output.now o end) c.in-Number-Char-default.ensures.value
    (cell_goes c.in-Number-Char-default.kind v cells c.args.output.now c.put.new.self end o c.in-Number-Char-default.kind-is other put rest)
