-- The objects of the globals, item by item.
use Rattle.std.proofs.Common.{◌≡◌, ℕ, suc, ◌+◌, ◌<◌, ◌≤◌, List, [], ◌∷◌, ◌++◌, length, get_or, drop, Option, Some, None, refl, sym, ap, ◌∙◌, append_assoc, add-one}
use Rattle.std.specs.Prelude.{map}
use Rattle.std.specs.List.{flat_map}
use Rattle.std.proofs.lemmas.List.{append-nil, drop_all}
use Rattle.std.proofs.lemmas.List.Concat.{flat_map-cons}
use Rattle.base_lists.proofs.Lists.{first_left}
use Rattle.cbi_base.specs.Objects.{Object}
use Rattle.c_syntax.specs.declared.tree.Item.{Item}
use Rattle.c_syntax.specs.Words.{StartTree, plain_item}
use Rattle.c_types_expressions.specs.declared.walk.Walk.{Walk}
use Rattle.c_meaning.specs.Words.{Facts, global_objects, one_more, starts_of}
use Rattle.c_meaning.specs.Globals as meaning
use Rattle.lower_globals.specs.Objects.{objects_behind}

abbrev both : Option (List Object) → Option (List Object) → Option (List Object)
both None q = None
both (Some xs) q = objects_behind xs q

none_before : (q : Option (List Object)) → q ≡ objects_behind [] q
none_before None = refl
none_before (Some xs) = refl

one_more_both : (o : Option Object) (p q : Option (List Object)) → one_more o (both p q) ≡ both (one_more o p) q
one_more_both None p q = refl
one_more_both (Some object) None q = refl
one_more_both (Some object) (Some xs) None = refl
one_more_both (Some object) (Some xs) (Some ys) = refl

objects_append : (facts : Facts) (w : Walk) (xs ys : List StartTree) → global_objects facts w (xs ++ ys) ≡ both (global_objects facts w xs) (global_objects facts w ys)
objects_append facts w [] ys = none_before (global_objects facts w ys)
objects_append facts w (x ∷ xs) ys =
    ap (one_more (meaning.global_object facts w x)) (objects_append facts w xs ys)
    ∙ one_more_both (meaning.global_object facts w x) (global_objects facts w xs) (global_objects facts w ys)

behind_twice : (before xs : List Object) (q : Option (List Object)) → objects_behind before (objects_behind xs q) ≡ objects_behind (before ++ xs) q
behind_twice before xs None = refl
behind_twice before xs (Some ys) = ap Some (sym (append_assoc before xs ys))

module _ (facts : Facts) (w : Walk) (items : List Item) (i : ℕ) (x : Item) (before : List Object) (total : Option (List Object))
    (inside : i < length items) (is : x ≡ get_or items i x) where
  abbrev left : List Item → Option (List Object)
  left xs = global_objects facts w (flat_map starts_of (map plain_item xs))

  opened : objects_behind before (left (drop i items)) ≡ objects_behind before (both (global_objects facts w (starts_of (plain_item x))) (left (drop (suc i) items)))
  opened =
      ap (λ l. objects_behind before (global_objects facts w (flat_map starts_of (map plain_item l)))) (first_left items i x inside is)
      ∙ ap (λ l. objects_behind before (global_objects facts w l)) (flat_map-cons starts_of (plain_item x) (map plain_item (drop (suc i) items)))
      ∙ ap (objects_behind before) (objects_append facts w (starts_of (plain_item x)) (flat_map starts_of (map plain_item (drop (suc i) items))))

  -- one more item, whose globals are these objects
  pub gathered : (more : List Object) → objects_behind before (global_objects facts w (flat_map starts_of (map plain_item (drop i items)))) ≡ total →
      Some more ≡ global_objects facts w (starts_of (plain_item x)) →
      objects_behind (before ++ more) (global_objects facts w (flat_map starts_of (map plain_item (drop (i + 1) items)))) ≡ total
  gathered more h found =
      ap (λ k. objects_behind (before ++ more) (left (drop k items))) (add-one i)
      ∙ sym (behind_twice before more (left (drop (suc i) items)))
      ∙ ap (λ o. objects_behind before (both o (left (drop (suc i) items)))) found
      ∙ sym opened ∙ h

  -- an item without its globals
  pub given_up : objects_behind before (global_objects facts w (flat_map starts_of (map plain_item (drop i items)))) ≡ total →
      None ≡ global_objects facts w (starts_of (plain_item x)) → None ≡ total
  given_up h missing = ap (λ o. objects_behind before (both o (left (drop (suc i) items)))) missing ∙ sym opened ∙ h

-- no item is left
pub all_gathered : (facts : Facts) (w : Walk) (items : List Item) (i : ℕ) (before : List Object) (total : Option (List Object)) → length items ≤ i →
    objects_behind before (global_objects facts w (flat_map starts_of (map plain_item (drop i items)))) ≡ total → Some before ≡ total
all_gathered facts w items i before total past is =
    ap Some (sym (append-nil before))
    ∙ sym (ap (λ l. objects_behind before (global_objects facts w (flat_map starts_of (map plain_item l)))) (drop_all i items past))
    ∙ is
