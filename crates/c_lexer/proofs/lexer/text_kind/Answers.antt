use Rattle.std.proofs.Common.{◌<◌, ◌∙◌, arith, subst, sym}
use Rattle.std.specs.Prelude.{All}
use Rattle.std.proofs.lemmas.List.Elements.{All-from_get_or}
use Rattle.c_lexer.proofs.lexer.text_kind.Goals as goal

pub returns-clause-fits : goal.returns-clause-fits
returns-clause-fits c =
    let all : All (λ b. b < 256) c.args.values.now = All-from_get_or (λ b. b < 256) c.args.values.now 0 (λ i within. omega (arith, c.type_inv.values i)) in
    (tt, tt, tt, subst (All (λ b. b < 256)) (sym (c.from_vec-bytes.ensures ∙ c.in_ok-from_slice.ensures.items)) all)
