use Rattle.std.proofs.Common.{ap, ◌∙◌, List, subst}
use Rattle.std.specs.Prelude.{take}
use Rattle.compound.specs.declared.listing.Candidate.{Candidate}
use Rattle.compound.specs.Candidates.{candidate_limit}
use Rattle.compound.specs.Listing.{IsPlaceOf}
use Rattle.compound.proofs.listing.add.Goals as goal

pub returns : goal.returns
returns c = record {
  place = c.place_of-place.result;
  is_place = subst (λ (xs : List Candidate). IsPlaceOf xs c.args.next c.place_of-place.result) c.as_slice.ensures.value c.place_of-place.ensures;
  new_is = c.truncate.ensures.items ∙ ap (take candidate_limit) c.in_ok-insert.ensures.items;
}
