use Rattle.std.proofs.Common.{◌≡◌, ◌+◌, ◌-◌, suc, ℕ, ap, sym, ◌∙◌, arith}
use Rattle.program_lines.specs.Rows.{sizes_of}
use Rattle.program_lines.proofs.CellLoops.{with_front, sizes-next}
use Rattle.program_lines.proofs.rows.sizes.Goals as goal

pub loop-place-preserved : goal.loop-place-preserved
loop-place-preserved c =
    let left : ℕ = c.args.count - (c.loop-place._place + 1) in
    let more : c.args.count - c.loop-place._place ≡ suc left = omega arith in
    let is = c.loop-place.invariant.so_far ∙ ap (λ k. with_front c.loop-place.sizes (sizes_of k c.loop-place.fields)) more ∙ ap (λ fs. with_front c.loop-place.sizes (sizes_of (suc left) fs)) c.in-Some.ensures in
    let read = sizes-next left c.loop-place.sizes c.in-Some.field.now c.next.new.self (sizes_of c.args.count c.args.fields.now) c.in-Some-read_number.size is c.in-Some-read_number.ensures in
    let pushed = c.in_ok-push.ensures.ok in record {
      so_far = read ∙ ap (λ s. with_front s (sizes_of left c.next.new.self)) (sym pushed);
      within = omega arith;
    }
