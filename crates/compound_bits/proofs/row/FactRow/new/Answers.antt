use Rattle.std.proofs.Common.{ℕ, List, ap, ◌∙◌}
use Rattle.compound_bits.specs.Bits.{facts_of}
use Rattle.compound_bits.proofs.Rows.{facts-none}
use Rattle.compound_bits.proofs.row.FactRow.new.Goals as goal

pub returns : goal.returns
returns c = let t = c.in_ok-zeros.ensures in let k = c.in_ok-zeros-2.ensures in
    ap (λ (ts : List ℕ). facts_of ts c.in_ok-zeros-2.field-0.items) t ∙ ap (facts_of _) k ∙ facts-none c.args.words
