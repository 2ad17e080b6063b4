use Rattle.std.proofs.Common.{sym, ◌∙◌}
use Rattle.std.proofs.lemmas.Bool.{false≢true}
use Rattle.lower_statements.specs.Exits.{exits_of}
use Rattle.lower.proofs.Bodying.{left_made, zero_made}
use Rattle.lower.proofs.functions.put_end.Goals as goal
use Rattle.lower.proofs.functions.put_end.Goals.{else-is_main-via-then-is_main+else-value, else-is_main-via-else-is_main}

pub returns-then-value-clause-made : goal.returns-then-value-clause-made
returns-then-value-clause-made c =
    zero_made c.args.is_main c.args.value _ _ _ (exits_of c.args.exits) c.if-is_main.true c.if-value.true c.in_ok-zero.ensures.number c.in_ok-zero.ensures.added

pub returns-clause-made : goal.returns-clause-made
returns-clause-made c =
    left_made c.args.is_main c.args.value _ (exits_of c.args.exits) (elim c.else-is_main.branch [
      | else-is_main-via-then-is_main+else-value w ↦ (λ e f. false≢true (sym w.if-value.false ∙ f))
      | else-is_main-via-else-is_main w ↦ (λ e f. false≢true (sym w.if-is_main.false ∙ e))
    ])
