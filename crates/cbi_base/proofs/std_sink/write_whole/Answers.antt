use Rattle.std.proofs.Common.{rules, arith, ◌≡◌, ◌-◌, length, take, drop, take_all, length-drop}
use Rattle.std.proofs.Math.Seq.{take-add}
use Rattle.std.proofs.KnownBytes.{Appends-trans, Appends-kept}
use Rattle.cbi_base.proofs.std_sink.write_whole.Goals as goal
use Rattle.cbi_base.proofs.std_sink.write_whole.Goals.{in-Ok, in-Err}

pub loop-preserved : goal.loop-preserved
loop-preserved g c =
    let piece = c.args.piece.now in
    let rest : take (length piece - c.loop.done) (drop c.loop.done piece) ≡ drop c.loop.done piece = take_all _ _ (omega (arith, length-drop c.loop.done piece)) in
    record {
      within = search rules;
      taken = elim c.match-write.branch [
        | in-Ok w ↦ rw (w.done-is, take-add) (Appends-trans _ _ _ _ _ c.loop.invariant.taken (rw rest at w.in-Ok.ensures.bytes))
        | in-Err w ↦ rw w.done-is (Appends-kept _ _ _ _ c.loop.invariant.taken w.in-Err.ensures.bytes)
      ];
    }
