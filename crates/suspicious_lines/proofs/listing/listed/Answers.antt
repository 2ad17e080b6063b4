use Rattle.std.proofs.Common.{◌≡◌, ◌+◌, ◌-◌, ◌∙◌, List, arith, ap, subst, suc, sym}
use Rattle.std.specs.Prelude.{All, not}
use Rattle.std.proofs.lemmas.List.Elements.{All-filter}
use Rattle.association.specs.declared.suspect.Suspect.{Suspect}
use Rattle.association.specs.Order.{IsOfRuns}
use Rattle.suspicious_lines.specs.Listing.{IsBest, apart_from, are_near}
use Rattle.suspicious_lines.proofs.ListLemmas.{listing-full, listing-more, listing-none}
use Rattle.suspicious_lines.proofs.listing.listed.Goals as goal

pub loop-place-preserved : goal.loop-place-preserved
loop-place-preserved c =
    let f = c.args.totals.failing in
    let s = c.args.totals.successful in
    let apart = c.args.apart in
    let old = c.loop-place.suspects.items in
    let next = c.in-Some.next in
    let count : c.args.most - c.loop-place._place ≡ suc (c.args.most - (c.loop-place._place + 1)) = omega (arith, c.loop-place-test.true) in
    let best : IsBest f s old next = subst (λ (xs : List Suspect). IsBest f s xs next) c.as_slice.ensures.value c.in-Some.ensures.some in
    let after : c.in_ok-left.left.items ≡ apart_from apart next old = c.in_ok-left.ensures ∙ ap (apart_from apart next) c.as_slice-in-loop-place.ensures.value in record {
      listing = listing-more f s apart c.args.most c.args.suspects.items (c.args.most - c.loop-place._place) (c.args.most - (c.loop-place._place + 1)) old c.in_ok-left.left.items c.loop-place.rows.items c.push.new.self.items next count c.loop-place.invariant.listing best after
          c.in_ok-push.ensures.items;
      runs = subst (All (IsOfRuns f s)) (sym after) (All-filter (λ (t : Suspect). not (are_near apart next t)) (IsOfRuns f s) old c.loop-place.invariant.runs);
    }

pub returns-in_default : goal.returns-in_default
returns-in_default c =
    listing-none c.args.totals.failing c.args.totals.successful c.args.apart c.args.most c.args.suspects.items (c.args.most - c.loop-place._place) c.loop-place.suspects.items c.loop-place.rows.items (sym c.as_slice.ensures.value ∙ c.in_default.ensures.none) c.loop-place.invariant.listing

pub returns : goal.returns
returns c =
    listing-full c.args.totals.failing c.args.totals.successful c.args.apart c.args.most c.args.suspects.items (c.args.most - c.loop-place._place) c.loop-place.suspects.items c.loop-place.rows.items (omega (arith, c.loop-place-test.false)) c.loop-place.invariant.listing
