use Rattle.std.proofs.Common.{sym, ◌∙◌}
use Rattle.c_meaning.specs.Initialisers.{want_of}
use Rattle.lower_relation.specs.Initialisers.{Zeroes}
use Rattle.lower_statements.proofs.Zeroing.{off_local, on_local}
use Rattle.lower_statements.proofs.initialisers.put_zeroed.Goals as goal

pub returns-in_default-clause-made : goal.returns-in_default-clause-made
returns-in_default-clause-made c =
    off_local (λ G. Zeroes G (want_of c.args.element)) c.args.slot _ _ _ _ (sym c.in_default.is ∙ c.local_of.ensures) c.in_ok-stuck.ensures.made

pub returns-clause-made : goal.returns-clause-made
returns-clause-made c =
    on_local (λ G. Zeroes G (want_of c.args.element)) c.args.slot c.in-Some.index _ _ _ _ (sym c.in-Some.is ∙ c.local_of.ensures)
    (rw c.want_of.ensures at c.in_ok-i.ensures.made)
