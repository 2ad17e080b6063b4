use Rattle.std.proofs.Common.{sym, arith}
use Rattle.compound_bits.specs.Bits.{facts_of}
use Rattle.compound_bits.proofs.Rows.{decided-end, decided-few, decided-step, holding-end, holding-few, holding-step, length-facts}
use Rattle.compound_bits.proofs.row.count_words.Goals as goal

pub overflow_add-holding : goal.overflow_add-holding
overflow_add-holding c =
    let lt = c.args.left_truth.now in
    let lk = c.args.left_known.now in
    let rt = c.args.right_truth.now in
    let rk = c.args.right_known.now in
    let w = c.loop-word.word in
    let step = holding-step lt lk rt rk w c.requires.left c.requires.truth c.requires.right (omega arith) (c.type_inv.left_truth w).fits in
    record { fits = omega (arith, step, holding-few (facts_of lt lk) (facts_of rt rk), length-facts lt lk (sym c.requires.left)) }

pub overflow_add-decided : goal.overflow_add-decided
overflow_add-decided c =
    let lt = c.args.left_truth.now in
    let lk = c.args.left_known.now in
    let rt = c.args.right_truth.now in
    let rk = c.args.right_known.now in
    let w = c.loop-word.word in
    let step = decided-step lt lk rt rk w c.requires.left c.requires.truth c.requires.right (omega arith) (c.type_inv.left_truth w).fits (c.type_inv.left_known w).fits (c.type_inv.right_truth w).fits (c.type_inv.right_known w).fits in
    record { fits = omega (arith, step, decided-few (facts_of lt lk) (facts_of rt rk), length-facts lt lk (sym c.requires.left)) }

pub loop-word-preserved : goal.loop-word-preserved
loop-word-preserved c =
    let lt = c.args.left_truth.now in
    let lk = c.args.left_known.now in
    let rt = c.args.right_truth.now in
    let rk = c.args.right_known.now in
    let w = c.loop-word.word in
    let holding = holding-step lt lk rt rk w c.requires.left c.requires.truth c.requires.right (omega arith) (c.type_inv.left_truth w).fits in
    let decided = decided-step lt lk rt rk w c.requires.left c.requires.truth c.requires.right (omega arith) (c.type_inv.left_truth w).fits (c.type_inv.left_known w).fits (c.type_inv.right_truth w).fits (c.type_inv.right_known w).fits in
    record { holding = omega (arith, holding); decided = omega (arith, decided) }

pub returns-clause-holding : goal.returns-clause-holding
returns-clause-holding c = omega (arith, holding-end c.args.left_truth.now c.args.left_known.now c.args.right_truth.now c.args.right_known.now c.loop-word.word (omega arith))

pub returns-clause-decided : goal.returns-clause-decided
returns-clause-decided c = omega (arith, decided-end c.args.left_truth.now c.args.left_known.now c.args.right_truth.now c.args.right_known.now c.loop-word.word (omega arith))
