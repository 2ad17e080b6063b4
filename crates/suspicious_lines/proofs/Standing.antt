-- The places of suspects, as far as they are gathered.
use Rattle.std.proofs.Common.{◌≡◌, ℕ, Bool, true, false, cond, List, [], ◌∷◌, ◌++◌, refl, sym, ap, ◌∙◌, append_assoc}
use Rattle.std.specs.List.{list_any}
use Rattle.association.specs.declared.suspect.Suspect.{Suspect}
use Rattle.suspicious_lines.specs.Places.{is_same_place, new_places, place_of}

places-by : (before : List (ℕ × ℕ)) (p : ℕ × ℕ) (more : List Suspect) (b : Bool)
    → cond b before (before ++ p ∷ []) ++ new_places (cond b before (before ++ p ∷ [])) more ≡ before ++ cond b (new_places before more) (p ∷ new_places (before ++ p ∷ []) more)
places-by before p more true = refl
places-by before p more false = append_assoc before (p ∷ []) (new_places (before ++ p ∷ []) more)

-- one more suspect
pub places-more : (before new : List (ℕ × ℕ)) (rest more : List Suspect) (s : Suspect) (all : List (ℕ × ℕ)) → rest ≡ s ∷ more → before ++ new_places before rest ≡ all
    → new ≡ cond (list_any (is_same_place (place_of s)) before) before (before ++ place_of s ∷ []) → new ++ new_places new more ≡ all
places-more before new rest more s all cut so_far now =
    ap (λ (ps : List (ℕ × ℕ)). ps ++ new_places ps more) now ∙ places-by before (place_of s) more (list_any (is_same_place (place_of s)) before)
    ∙ sym (ap (λ (xs : List Suspect). before ++ new_places before xs) cut) ∙ so_far
