use Rattle.std.proofs.Common.{◌≡◌, ◌++◌, ◌∷◌, [], true, drop, rules, sym, ap, ◌∙◌}
use Rattle.std.specs.Prelude.{filter, slice_get}
use Rattle.c_types.specs.Answers.{known_of}
use Rattle.sites.specs.Near.{first_from, has_scope_left}
use Rattle.sites.specs.Visible.{is_clear}
use Rattle.sites.proofs.Looking.{firsts_at, lasting_more}
use Rattle.sites.proofs.noted.see_more.Goals as goal

pub loop-near-preserved : goal.loop-near-preserved
loop-near-preserved c =
    let w = known_of c.args.checked.now in
    let seen = c.loop-near.seen in
    c.in_ok-add_lasting.ensures ∙ ap (λ l. l ++ filter (has_scope_left w c.args.begin) (seen ∷ [])) c.loop-near.invariant ∙ sym (lasting_more w c.args.begin seen)

pub returns-clause-clear : goal.returns-clause-clear
returns-clause-clear c =
    let w = known_of c.args.checked.now in
    let seen = c.loop-near.seen in
    let first : c.first_at.result ≡ first_from (drop seen w.variables) =
    c.first_at.ensures ∙ ap (λ l. slice_get l seen) c.requires.firsts ∙ firsts_at w.variables seen in
    let clear : c.is_clear.result ≡ true = search rules in
    sym (ap (is_clear c.args.last) first) ∙ sym c.is_clear.ensures ∙ clear
