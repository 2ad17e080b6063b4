-- The globals that begin an accepted text are globals of a program.
use Rattle.std.proofs.Common.{◌≡◌, ℕ, ◌+◌, ◌≤◌, refl, subst, sym, arith, List, [], ◌∷◌, ◌++◌, Option, Some, None, length}
use Rattle.std.specs.Prelude.{IsTrue, map, sum_by}
use Rattle.std.specs.List.{AllByRecursion, flat_map}
use Rattle.std.specs.Option.{option_map}
use Rattle.std.proofs.lemmas.Bool.{lt-ltb}
use Rattle.std.proofs.lemmas.List.{append_cancel_right, length-map}
use Rattle.std.proofs.lemmas.List.Elements.{All-from_recursion}
use Rattle.std.proofs.lemmas.List.Sums.{sum_by-cons}
use Rattle.std.proofs.lemmas.Option.{same_Some}
use Rattle.cbi_base.specs.Objects.{Object}
use Rattle.c_syntax.specs.Words.{SourceTree, tree_kinds, StartTree, KindFits}
use Rattle.c_types_rules.specs.TypeTree as t
use Rattle.c_types_expressions.specs.declared.walk.Walk.{Walk}
use Rattle.c_types_expressions.specs.Words.{empty_walk, Fine}
use Rattle.c_types.specs.Fault.{walk_tree}
use Rattle.c_meaning.specs.Words.{first_objects, global_objects, starts_of, then_strings, facts_of, string_literals, texts_of}
use Rattle.flow.specs.declared.program.Cell.{Cell}
use Rattle.flow.specs.declared.program.Cell.TheVariants as cell
use Rattle.flow.specs.declared.program.Global.{Global}
use Rattle.flow.specs.declared.program.Text.{Text}
use Rattle.flow.specs.Words.{cell_value, object_of_global, text_object, AreGlobals, GlobalFits, cell_fits}
use Rattle.lower_globals.specs.Objects.{begun_with}
use Rattle.lower_globals.proofs.Counted.{globals_are}
use Rattle.c_meaning_sound.specs.Accepted.{IsAcceptedTree}
use Rattle.c_meaning_sound.specs.Sited.{IsSited}
use Rattle.c_meaning_sound.proofs.Ending.{small_structs, tree_sums}
use Rattle.c_meaning_sound.proofs.Noting.{Small}
use Rattle.c_meaning_sound.proofs.Whole.{none_fits}
use Rattle.lower_fits.proofs.BegunGlobals.{few_globals}
use Rattle.lower_fits.proofs.Declaring.{cells_at}
use Rattle.lower_fits.proofs.GlobalsOfItems.{Counted, globals_counted, strings_spelled}
use Rattle.lower_fits.proofs.Objects.{AreObjects, IfObjects, IsFull, plain_items, starts_fit}
use Rattle.lower_fits.proofs.Values.{AllCells, Firsts, IsCell, objects_of}

-- a cell whose value may stand in a global: behind so many globals stand so many strings
cell_may : (globals texts : ℕ) (n : Firsts) (c : Cell) → n.globals ≡ globals → n.texts ≡ texts → IsCell n (cell_value globals c) → IsTrue (cell_fits texts c)
cell_may globals texts n (cell.Number kind value) e f h = h
cell_may globals texts n cell.Null e f h = refl
cell_may globals texts n (cell.Text index) e f h = lt-ltb index texts (omega (arith, e, f, h.2))

-- so may all cells
cells_may : (globals texts : ℕ) (n : Firsts) (cs : List Cell) → n.globals ≡ globals → n.texts ≡ texts → AllCells n (map (cell_value globals) cs)
    → AllByRecursion (λ c. IsTrue (cell_fits texts c)) cs
cells_may globals texts n [] e f h = tt
cells_may globals texts n (c ∷ cs) e f h = (cell_may globals texts n c e f h.0, cells_may globals texts n cs e f h.1)

-- as many cells as the objects have
globals_sum : (n : ℕ) (gs : List Global) → sum_by (λ (o : Object). length o.cells) (map (object_of_global n) gs) ≡ sum_by (λ (g : Global). length g.cells) gs
globals_sum n [] = refl
globals_sum n (g ∷ gs) = omega (
  arith,
  sum_by-cons (λ (o : Object). length o.cells) (object_of_global n g) (map (object_of_global n) gs),
  sum_by-cons (λ (x : Global). length x.cells) g gs,
  length-map g.cells (cell_value n),
  globals_sum n gs,
)

module _ (tree : SourceTree) (z : Walk) (walked : walk_tree tree ≡ Fine tt z) (small : (tag : ℕ) → Small tree z (t.Struct tag)) where
  -- globals whose objects are full
  globals_may : (n : ℕ) (gs : List Global) → n ≡ z.globals → AllByRecursion (IsFull tree z walked small) (map (object_of_global n) gs)
      → AllByRecursion (GlobalFits (length (facts_of tree z).statics.texts)) gs
  globals_may n [] e h = tt
  globals_may n (g ∷ gs) e h =
      let texts : length (texts_of (string_literals tree)) ≡ length (string_literals tree) = length-map (string_literals tree) _ in (
        record {
          filled = omega (arith, h.0.1, length-map g.cells (cell_value n));
          cells = All-from_recursion (λ c. IsTrue (cell_fits (length (texts_of (string_literals tree))) c)) g.cells
              (cells_may n (length (texts_of (string_literals tree))) (objects_of tree z) g.cells (sym e) (sym texts) h.0.0);
        },
        globals_may n gs e h.1,
      )

  -- the objects that these globals are: those of the declared variables
  objects_are : (gs : List Global) (xs : List StartTree) (o : Option (List Object))
      → Some (begun_with (facts_of tree z).statics.texts gs) ≡ option_map (then_strings tree) o → IfObjects tree z walked small xs o
      → AreObjects tree z walked small xs (map (object_of_global (length gs)) gs)
  objects_are gs xs None e h = absurd (cc)
  objects_are gs xs (Some objects) e h =
      let texts : List Text = texts_of (string_literals tree) in
      let first : List Object = map (object_of_global (length gs)) gs in
      let same : first ≡ objects = append_cancel_right first objects (map text_object texts)
      (same_Some (first ++ map text_object texts) (objects ++ map text_object texts) e) in
      subst (AreObjects tree z walked small xs) (sym same) h

-- the globals of an accepted text are those of a program
pub globals_fit : (tree : SourceTree) (z : Walk) (gs : List Global) → IsAcceptedTree tree z → IsSited tree → AllByRecursion KindFits (tree_kinds tree)
    → Some (begun_with (facts_of tree z).statics.texts gs) ≡ first_objects tree z → AreGlobals (length (facts_of tree z).statics.texts) gs
globals_fit tree z gs a s f e =
    let small : (tag : ℕ) → Small tree z (t.Struct tag) = small_structs tree z (tree_sums tree z a.formed.shaped a.walked) in
    let xs : List StartTree = flat_map starts_of tree.items in
    let counted : Counted tree z tree.items (empty_walk (length tree.lines)) z = globals_counted tree z a in
    let objects : AreObjects tree z a.walked small xs (map (object_of_global (length gs)) gs) =
    objects_are tree z a.walked small gs xs (global_objects (facts_of tree z) z xs) e
    (starts_fit tree z a.walked small xs counted.each (none_fits tree z a).globals (plain_items tree tree.items f (strings_spelled tree z a))) in
    let count : length gs ≡ z.globals = omega (arith, objects.count, length-map gs (object_of_global (length gs)), globals_are tree z a.walked) in
    let cells : z.global_cells ≡ 0 + sum_by (cells_at z) xs = counted.cells in
    let few : z.global_cells ≤ 1048576 = counted.few (omega arith) in
    record {
      few = omega (arith, count, few_globals tree z a s);
      each = All-from_recursion (GlobalFits (length (facts_of tree z).statics.texts)) gs (globals_may tree z a.walked small (length gs) gs count objects.full);
      total = omega (arith, cells, few, objects.cells, globals_sum (length gs) gs);
    }
