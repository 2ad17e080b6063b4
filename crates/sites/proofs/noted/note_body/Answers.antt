use Rattle.std.proofs.Common.{ℕ, List, drop, sym, subst, ap, ◌∙◌}
use Rattle.std.specs.Prelude.{filter}
use Rattle.std.proofs.lemmas.Bool.{not-false as wanted}
use Rattle.base_lists.proofs.Tests.{not_itself}
use Rattle.c_types.specs.Answers.{known_of}
use Rattle.sites.specs.Near.{AreEnough, first_from, has_scope_left}
use Rattle.sites.specs.Noted.{IsEnoughFor}
use Rattle.sites.specs.Standing.{IsFrom, IsUpTo}
use Rattle.sites.proofs.Looking.{all_told, clear_sooner, lasting_later}
use Rattle.sites.proofs.Standing.{every, weaker}
use Rattle.sites.proofs.noted.note_body.Goals as goal

pub returns-then-not-schemes-clause-enough : goal.returns-then-not-schemes-clause-enough
returns-then-not-schemes-clause-enough c =
    every (IsEnoughFor c.args.schemes (known_of c.args.checked.now) c.args.noted.now) c.args.spots.now
    (λ t pairs. absurd (not_itself c.args.schemes.pairs c.if-not-schemes.true pairs))

pub see_more-requires-clause-near : goal.see_more-requires-clause-near
see_more-requires-clause-near c =
    let w = known_of c.args.checked.now in
    let n = c.requires.noted.wanted (wanted c.args.schemes.pairs c.if-not-schemes.false) in
    c.keep_lasting.ensures ∙ ap (filter (has_scope_left w c.args.begin)) n.near ∙ lasting_later w n.since c.args.begin c.args.noted.now.seen n.before

pub returns-clause-enough : goal.returns-clause-enough
returns-clause-enough c =
    let w = known_of c.args.checked.now in
    let n = c.requires.noted.wanted (wanted c.args.schemes.pairs c.if-not-schemes.false) in
    let seen = c.in_ok-noted.field-0 in
    let last = c.latest-last.result in
    weaker (IsFrom c.args.begin) (IsUpTo last) (IsEnoughFor c.args.schemes w _) c.args.spots.now
    (λ t from upto pairs. record {
      again = n.again;
      near = subst (λ (l : List ℕ). AreEnough w l t) (sym c.in_ok-noted.ensures.near)
          (all_told w c.args.begin t from seen (clear_sooner t last (first_from (drop seen w.variables)) upto c.in_ok-noted.ensures.clear));
    })
    c.requires.within.each c.latest-last.ensures
