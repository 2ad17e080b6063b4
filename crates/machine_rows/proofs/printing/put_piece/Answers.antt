use Rattle.std.proofs.Common.{◌∷◌, ◌-◌, length, take, drop, IsTrue, subst, sym}
use Rattle.cbi_base.specs.Printing.{Conversion, printed_format, take_values}
use Rattle.machine_rows.specs.Strings.{Continues, piece_of}
use Rattle.machine_rows.proofs.StringLemmas.{tail_is, piece_goes}
use Rattle.machine_rows.proofs.printing.put_piece.Goals as goal

pub returns-in_ok-put_value-in-Conversion-clause-ok : goal.returns-in_ok-put_value-in-Conversion-clause-ok
returns-in_ok-put_value-in-Conversion-clause-ok c = λ pieces.
    let values = c.args.values.now in
    let left = take (length values - 1) (drop 1 values) in
    subst (λ p. IsTrue (take_values (piece_of p ∷ pieces) values) → IsTrue (take_values pieces left) × Continues (printed_format pieces left c.args.objects.now) (printed_format (piece_of p ∷ pieces) values c.args.objects.now) c.args.output.now c.put_value.new.output) (sym c.in-Conversion.is)
    (subst (λ l. IsTrue (take_values (Conversion c.in-Conversion.letter ∷ pieces) l) → IsTrue (take_values pieces left) × Continues (printed_format pieces left c.args.objects.now) (printed_format (Conversion c.in-Conversion.letter ∷ pieces) l c.args.objects.now) c.args.output.now c.put_value.new.output)
    (sym (tail_is values c.value-item.result c.in-len1-up.len_at_least c.value-item.is))
    (piece_goes c.in-Conversion.letter c.value-item.result left c.args.objects.now c.args.output.now c.put_value.new.output pieces c.in_ok-put_value-in-Conversion.ensures))
