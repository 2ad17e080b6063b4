-- What is collected of the iterator of a vector.
use Rattle.std.proofs.Common.{◌≡◌, List, length, Vec, vec_len, map-id, refl, sym, ◌∙◌}
use Rattle.std.specs.Bool.{⊤}
use Rattle.std.specs.Iterator.{DrainsIf}
use Rattle.std.specs.Vec.Iter.{into_iter_items, into_iter_steps}
use Rattle.std.specs.declared.vec.IntoIter.{IntoIter}
use Rattle.std.proofs.lemmas.Iterator.{items_from_drains}
use Rattle.std.proofs.lemmas.Iterator.Adapters.{YieldsList-from_vec}

-- all that is left of it
pub all-collected : {A Z Y : Type 0} (left : IntoIter A Z) (words : Vec A Y)
    → (xs : List A) × DrainsIf into_iter_steps ⊤ left xs × ((words.items ≡ xs) × (vec_len words ≡ length xs)) → words.items ≡ into_iter_items left
all-collected left words h =
    h.2.0 ∙ sym (map-id h.0) ∙ items_from_drains h.0 h.1 (YieldsList-from_vec (into_iter_items left) refl left.rest.ok.0)
