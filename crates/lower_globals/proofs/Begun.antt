-- The globals of a whole text are the first of the objects that are there before a run.
use Rattle.std.proofs.Common.{◌≡◌, ℕ, suc, List, [], ◌∷◌, ◌++◌, length, Option, Some, None, refl, sym, ap, ◌∙◌}
use Rattle.std.specs.Prelude.{map}
use Rattle.std.specs.List.{flat_map}
use Rattle.std.specs.Option.{option_map}
use Rattle.std.proofs.lemmas.List.{length-map}
use Rattle.cbi_base.specs.Objects.{Object}
use Rattle.c_syntax.specs.Words.{ItemTree, StartTree}
use Rattle.c_types_expressions.specs.declared.walk.Walk.{Walk}
use Rattle.c_types.specs.Fault.{walk_tree}
use Rattle.c_types_expressions.specs.Walked.{Fine}
use Rattle.flow.specs.declared.program.Global.{Global}
use Rattle.flow.specs.Statics as statics
use Rattle.c_meaning.specs.Words.{Facts, global_object, global_objects, one_more, starts_of, then_strings}
use Rattle.lower_facts.specs.declared.facts.TreeFacts.{TreeFacts}
use Rattle.lower_facts.specs.Facts.{facts_in, known_in, source_in, tree_in}
use Rattle.lower_globals.specs.Objects.{all_objects, begun_with, objects_in}
use Rattle.lower_globals.proofs.Counted.{globals_are}

-- one object more, or none at all
one_longer : (o : Option Object) (p : Option (List Object)) (xs : List Object) (n : ℕ) → ((ys : List Object) → p ≡ Some ys → length ys ≡ n) → Some xs ≡ one_more o p → length xs ≡ suc n
one_longer None p xs n longer is = absurd (cc)
one_longer (Some object) None xs n longer is = absurd (cc)
one_longer (Some object) (Some ys) xs n longer is =
    let same : xs ≡ object ∷ ys = cc in
    ap length same ∙ ap suc (longer ys refl)

-- as many objects as variables
as_many : (facts : Facts) (w : Walk) (starts : List StartTree) (xs : List Object) → Some xs ≡ global_objects facts w starts → length xs ≡ length starts
as_many facts w [] xs is = let same : xs ≡ [] = cc in ap length same
as_many facts w (x ∷ starts) xs is =
    one_longer (global_object facts w x) (global_objects facts w starts) xs (length starts) (λ ys h. as_many facts w starts ys (sym h)) is

module _ (f : TreeFacts) where
  abbrev declared : List StartTree
  declared = flat_map starts_of (tree_in f).items

  -- the items of the tree, as the code sees them
  pub whole : (items : List ItemTree) (objects : Option (List Object)) → items ≡ (tree_in f).items → objects ≡ all_objects f (flat_map starts_of items) →
      objects ≡ all_objects f declared
  whole items objects e is = is ∙ ap (λ l. all_objects f (flat_map starts_of l)) e

  -- as many globals as are known of
  pub counted : (gs : List Global) → walk_tree (tree_in f) ≡ Fine tt (known_in f) → objects_in f (Some gs) ≡ all_objects f declared → length gs ≡ (facts_in f).statics.globals
  counted gs fine is =
      sym (length-map gs (statics.object_of_global (facts_in f).statics.globals))
      ∙ as_many (facts_in f) (known_in f) declared (map (statics.object_of_global (facts_in f).statics.globals) gs) is
      ∙ sym (globals_are (tree_in f) (known_in f) fine)

  pub begun : (gs : List Global) → walk_tree (tree_in f) ≡ Fine tt (known_in f) → objects_in f (Some gs) ≡ all_objects f declared →
      Some (begun_with (facts_in f).statics.texts gs) ≡ (source_in f).objects
  begun gs fine is =
      ap (λ n. Some (map (statics.object_of_global n) gs ++ map statics.text_object (facts_in f).statics.texts)) (counted gs fine is)
      ∙ ap (option_map (then_strings (tree_in f))) is
