use Rattle.std.proofs.Common.{true, false, map, length, subst}
use Rattle.cbi_base.specs.Frames.{each_made}
use Rattle.flow.specs.Statics.{object_of_global, text_object}
use Rattle.machine_rows.specs.Starting.{IsAllMade}
use Rattle.machine_rows.proofs.FirstLemmas.{first_none, first_some}
use Rattle.machine_rows.proofs.first.make_first.Goals as goal

pub returns-then-not-branch : goal.returns-then-not-branch
returns-then-not-branch c =
    let p = c.args.program.now in
    first_none (map (object_of_global (length p.globals)) p.globals) (map text_object p.texts) c.args.objects.now c.make_globals.new.objects
    (subst (λ gs. IsAllMade (each_made (map (object_of_global (length gs)) gs) c.args.objects.now) false c.make_globals.new.objects) c.globals.ensures.value
    (subst (λ b. IsAllMade (each_made (map (object_of_global (length c.globals.result.now)) c.globals.result.now) c.args.objects.now) b c.make_globals.new.objects) c.if-not-branch.true c.in_ok-make_globals.ensures))

pub returns : goal.returns
returns c =
    let p = c.args.program.now in
    first_some (map (object_of_global (length p.globals)) p.globals) (map text_object p.texts) c.args.objects.now c.make_globals.new.objects c.make_texts.new.objects c.in_ok-made.made
    (subst (λ gs. IsAllMade (each_made (map (object_of_global (length gs)) gs) c.args.objects.now) true c.make_globals.new.objects) c.globals.ensures.value
    (subst (λ b. IsAllMade (each_made (map (object_of_global (length c.globals.result.now)) c.globals.result.now) c.args.objects.now) b c.make_globals.new.objects) c.if-not-branch.false c.in_ok-make_globals.ensures))
    (subst (λ ts. IsAllMade (each_made (map text_object ts) c.make_globals.new.objects) c.in_ok-made.made c.make_texts.new.objects) c.texts.ensures.value c.in_ok-made.ensures)
