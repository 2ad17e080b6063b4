-- The objects of the globals, variable by variable.
use Rattle.std.proofs.Common.{◌≡◌, ℕ, suc, ◌+◌, ◌<◌, ◌≤◌, List, [], ◌∷◌, ◌++◌, length, get_or, drop, Option, Some, None, refl, sym, ap, ◌∙◌, append_assoc, add-one}
use Rattle.std.specs.Prelude.{map}
use Rattle.std.proofs.lemmas.List.{append-nil, drop_all}
use Rattle.base_lists.proofs.Lists.{first_left}
use Rattle.cbi_base.specs.Objects.{Object}
use Rattle.c_syntax.specs.declared.statement.Start.{Start}
use Rattle.c_syntax.specs.Plain.{plain_start}
use Rattle.c_types_expressions.specs.declared.walk.Walk.{Walk}
use Rattle.c_meaning.specs.Words.{Facts, global_object, global_objects, one_more}
use Rattle.lower_globals.specs.Objects.{objects_behind}

behind_one : (before : List Object) (object : Object) (q : Option (List Object)) → objects_behind before (one_more (Some object) q) ≡ objects_behind (before ++ object ∷ []) q
behind_one before object None = refl
behind_one before object (Some objects) = ap Some (sym (append_assoc before (object ∷ []) objects))

module _ (facts : Facts) (w : Walk) (starts : List Start) (i : ℕ) (x : Start) (before : List Object) (total : Option (List Object))
    (inside : i < length starts) (is : x ≡ get_or starts i x) where
  abbrev left : List Start → Option (List Object)
  left xs = global_objects facts w (map plain_start xs)

  opened : objects_behind before (left (drop i starts)) ≡ objects_behind before (one_more (global_object facts w (plain_start x)) (left (drop (suc i) starts)))
  opened = ap (λ l. objects_behind before (left l)) (first_left starts i x inside is)

  -- one more variable, whose global is this object
  pub one_gathered : (object : Object) → objects_behind before (global_objects facts w (map plain_start (drop i starts))) ≡ total →
      Some object ≡ global_object facts w (plain_start x) → objects_behind (before ++ object ∷ []) (global_objects facts w (map plain_start (drop (i + 1) starts))) ≡ total
  one_gathered object h found =
      ap (λ k. objects_behind (before ++ object ∷ []) (left (drop k starts))) (add-one i)
      ∙ sym (behind_one before object (left (drop (suc i) starts)))
      ∙ ap (λ o. objects_behind before (one_more o (left (drop (suc i) starts)))) found
      ∙ sym opened ∙ h

  -- a variable whose initialiser gives it nothing
  pub one_given_up : objects_behind before (global_objects facts w (map plain_start (drop i starts))) ≡ total → None ≡ global_object facts w (plain_start x) → None ≡ total
  one_given_up h missing = ap (λ o. objects_behind before (one_more o (left (drop (suc i) starts)))) missing ∙ sym opened ∙ h

-- no variable is left
pub all_started : (facts : Facts) (w : Walk) (starts : List Start) (i : ℕ) (before : List Object) (total : Option (List Object)) → length starts ≤ i →
    objects_behind before (global_objects facts w (map plain_start (drop i starts))) ≡ total → Some before ≡ total
all_started facts w starts i before total past is =
    ap Some (sym (append-nil before)) ∙ sym (ap (λ l. objects_behind before (global_objects facts w (map plain_start l))) (drop_all i starts past)) ∙ is
