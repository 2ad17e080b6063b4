use Rattle.std.proofs.Common.{◌≡◌, ℕ, zero, suc, ◌+◌, ◌-◌, ◌<◌, ap, sym, ◌∙◌, arith}
use Rattle.cbi_base.specs.Words.{Objects, object_killed, all_killed}
use Rattle.c_store.proofs.FrameLemmas.{all_killed-last}
use Rattle.c_store.proofs.objects.Objects.kill_locals.Goals as goal

one_less : (first left : ℕ) (o p whole : Objects) → 0 < left → all_killed first left o ≡ whole → p ≡ object_killed (first + (left - 1)) o →
    all_killed first (left - 1) p ≡ whole
one_less first zero o p whole some is one = absurd (omega arith)
one_less first (suc left) o p whole some is one =
    let less : suc left - 1 ≡ left = omega arith in
    ap (λ n. all_killed first n p) less
    ∙ ap (all_killed first left) (one ∙ ap (λ n. object_killed (first + n) o) less)
    ∙ sym (all_killed-last first left o)
    ∙ is

pub loop-left-preserved : goal.loop-left-preserved
loop-left-preserved c =
    one_less c.args.first c.loop-left.left c.loop-left.self c.kill_behind.new.self _ (omega arith) c.loop-left.invariant c.kill_behind.ensures
