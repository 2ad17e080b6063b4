-- The objects of globals: as many cells as their types have, and what may stand in them.
use Rattle.std.proofs.Common.{◌≡◌, ℕ, ◌≤◌, refl, ap, subst, sym, arith, true, List, [], ◌∷◌, ◌++◌, Option, Some, None, length, length-append}
use Rattle.std.specs.Prelude.{drop, sum_by, ◌*◌}
use Rattle.std.specs.List.{AllByRecursion, flat_map}
use Rattle.std.specs.Option.{option_and_then, option_map}
use Rattle.std.proofs.lemmas.Bool.{false≢true}
use Rattle.std.proofs.lemmas.List.{length-drop}
use Rattle.std.proofs.lemmas.List.Sums.{sum_by-cons}
use Rattle.base_lists.proofs.Every.{all_first, all_join, all_second}
use Rattle.cbi_base.specs.declared.scalar.Scalar.{Scalar}
use Rattle.cbi_base.specs.Objects.{Object}
use Rattle.c_syntax.specs.declared.token.Sign.TheVariants as sign
use Rattle.c_syntax.specs.Words.{ExprTree, ItemTree, SourceTree, a_sign, after_commas, base_kinds, comma_kinds, declarator_kinds, expr_kinds, exprs_kinds}
use Rattle.c_syntax.specs.Words.{item_kinds, start_kinds, with_commas, InitialTree, StartTree, KindFits}
use Rattle.c_syntax.specs.ItemTree as item
use Rattle.c_syntax.specs.StatementTree as s
use Rattle.c_types_rules.specs.Words.{is_scalar, cells_of, TypeTree}
use Rattle.c_types_rules.specs.TypeTree as t
use Rattle.c_types_expressions.specs.declared.walk.Walk.{Walk}
use Rattle.c_types.specs.Answers.{declared_at}
use Rattle.c_types.specs.Fault.{walk_tree}
use Rattle.c_types_expressions.specs.Walked.{Fine}
use Rattle.c_meaning.specs.Words.{constant_value, filled_up, given_to, global_object, global_objects, object_with, one_more, starts_of, static_object, zeros_of}
use Rattle.c_meaning.specs.Words.{computed_type, element_type, facts_of, strings_initial, strings_of_item}
use Rattle.c_meaning_laws.specs.TypedText.{GlobalInitial, IsConstant, TypedGlobal, TypedGlobals}
use Rattle.c_meaning_sound.proofs.Initialising.{equals_kinds}
use Rattle.c_meaning_sound.proofs.Noting.{Small}
use Rattle.c_meaning_sound.proofs.Texts.{Spelled}
use Rattle.lower_fits.proofs.Declaring.{Declared, cells_at, cells_by}
use Rattle.lower_fits.proofs.Initials.{Takes, bytes_in, items_in}
use Rattle.lower_fits.proofs.LocalSizes.{cells_some, scalar_cells}
use Rattle.lower_fits.proofs.Values.{AllCells, IfGiven, IsCell, constants_given, dropped_cells, objects_of, text_given, value_given, zeros_cells}
use Rattle.lower_fits.proofs.Zeros.{zeros_long}

-- an array has room for as many scalars as its length
array_room : (n size cells : ℕ) → cells ≡ 1 → n ≤ size → n ≤ size * cells
array_room n size cells e h = subst (λ m. n ≤ size * m) (sym e) (omega (arith, h))

module _ (tree : SourceTree) where
  -- constants of an initialiser fit, and its strings are spelled by their tokens
  abbrev pub Plain : StartTree → Type 0
  Plain x = AllByRecursion KindFits (equals_kinds x.initial) × AllByRecursion (Spelled tree) (strings_initial x.initial)

  -- globals behind a comma each
  plain_behind : (xs : List StartTree) → AllByRecursion KindFits (after_commas start_kinds xs)
      → AllByRecursion (Spelled tree) (flat_map (λ x. strings_initial x.initial) xs) → AllByRecursion Plain xs
  plain_behind [] h k = tt
  plain_behind (x ∷ xs) h k =
      let own = all_first KindFits (a_sign sign.Comma ++ start_kinds x) (after_commas start_kinds xs) h in (
        (
          all_second KindFits (declarator_kinds x.declarator) (equals_kinds x.initial) own.1,
          all_first (Spelled tree) (strings_initial x.initial) (flat_map (λ x. strings_initial x.initial) xs) k,
        ),
        plain_behind xs (all_second KindFits (a_sign sign.Comma ++ start_kinds x) (after_commas start_kinds xs) h)
            (all_second (Spelled tree) (strings_initial x.initial) (flat_map (λ x. strings_initial x.initial) xs) k),
      )

  -- the globals of a declaration
  plain_starts : (xs : List StartTree) → AllByRecursion KindFits (with_commas start_kinds xs)
      → AllByRecursion (Spelled tree) (flat_map (λ x. strings_initial x.initial) xs) → AllByRecursion Plain xs
  plain_starts [] h k = tt
  plain_starts (x ∷ xs) h k = (
    (
      all_second KindFits (declarator_kinds x.declarator) (equals_kinds x.initial) (all_first KindFits (start_kinds x) (after_commas start_kinds xs) h),
      all_first (Spelled tree) (strings_initial x.initial) (flat_map (λ x. strings_initial x.initial) xs) k,
    ),
    plain_behind xs (all_second KindFits (start_kinds x) (after_commas start_kinds xs) h)
        (all_second (Spelled tree) (strings_initial x.initial) (flat_map (λ x. strings_initial x.initial) xs) k),
  )

  -- the globals of an item
  plain_item : (x : ItemTree) → AllByRecursion KindFits (item_kinds x) → AllByRecursion (Spelled tree) (strings_of_item x) → AllByRecursion Plain (starts_of x)
  plain_item (item.Struct token tag members) h k = tt
  plain_item (item.Function token b stars name ps body) h k = tt
  plain_item (item.Declaration d) h k =
      plain_starts d.starts
      (all_second KindFits (base_kinds d.base) (with_commas start_kinds d.starts)
      (all_first KindFits (base_kinds d.base ++ with_commas start_kinds d.starts) (a_sign sign.Semicolon) h)) k

  -- all globals
  pub plain_items : (xs : List ItemTree) → AllByRecursion KindFits (flat_map item_kinds xs) → AllByRecursion (Spelled tree) (flat_map strings_of_item xs)
      → AllByRecursion Plain (flat_map starts_of xs)
  plain_items [] h k = tt
  plain_items (x ∷ xs) h k =
      all_join Plain (starts_of x) (flat_map starts_of xs)
      (plain_item x (all_first KindFits (item_kinds x) (flat_map item_kinds xs) h)
      (all_first (Spelled tree) (strings_of_item x) (flat_map strings_of_item xs) k))
      (plain_items xs (all_second KindFits (item_kinds x) (flat_map item_kinds xs) h)
      (all_second (Spelled tree) (strings_of_item x) (flat_map strings_of_item xs) k))

module _ (tree : SourceTree) (z : Walk) (walked : walk_tree tree ≡ Fine tt z) (small : (tag : ℕ) → Small tree z (t.Struct tag)) where
  -- if there are cells, they are no more than the type has
  abbrev IfEnough : TypeTree → Option (List Scalar) → Type 0
  IfEnough of None = Unit {0}
  IfEnough of (Some cells) = AllCells (objects_of tree z) cells × (length cells ≤ cells_of z.structs of)

  -- so many cells
  enough_by : (n : ℕ) (of : TypeTree) (o : Option (List Scalar)) → IfGiven (objects_of tree z) n o → n ≤ cells_of z.structs of → IfEnough of o
  enough_by n of None h k = tt
  enough_by n of (Some cells) h k = (h.0, omega (arith, h.1, k))

  -- the value of a scalar
  value_enough : (of : TypeTree) (value : ExprTree) → is_scalar of ≡ true → IsConstant (facts_of tree z) value → AllByRecursion KindFits (expr_kinds value)
      → IfEnough of (option_map (λ v. v ∷ []) (constant_value (facts_of tree z) (Some (computed_type z.structs of)) value))
  value_enough of value e h f =
      enough_by 1 of (option_map (λ v. v ∷ []) (constant_value (facts_of tree z) (Some (computed_type z.structs of)) value))
      (value_given tree z (Some (computed_type z.structs of)) value h f) (omega (arith, scalar_cells z.structs of e))

  -- what an initialiser gives
  given_enough : (of : TypeTree) (x : Option InitialTree) → GlobalInitial (facts_of tree z) (computed_type z.structs of) (element_type z.structs of) x → Takes of x
      → AllByRecursion KindFits (equals_kinds x) → AllByRecursion (Spelled tree) (strings_initial x)
      → IfEnough of (given_to (facts_of tree z) (computed_type z.structs of) (element_type z.structs of) x)
  given_enough of None h k f l = (tt, omega arith)
  given_enough (t.Array element size) (Some (s.Value value)) h k f l =
      enough_by (bytes_in value) (t.Array element size) (given_to (facts_of tree z) (computed_type z.structs (t.Array element size))
      (element_type z.structs (t.Array element size)) (Some (s.Value value))) (text_given tree z value l)
      (array_room (bytes_in value) size (cells_of z.structs element) (ap (cells_of z.structs) k.0) k.1)
  given_enough t.Void (Some (s.Value value)) h k f l = absurd (false≢true k)
  given_enough (t.Struct tag) (Some (s.Value value)) h k f l = absurd (false≢true k)
  given_enough (t.Array element size) (Some (s.Braced token items comma)) h k f l =
      enough_by (items_in items) (t.Array element size) (given_to (facts_of tree z) (computed_type z.structs (t.Array element size))
      (element_type z.structs (t.Array element size)) (Some (s.Braced token items comma)))
      (constants_given tree z (Some (computed_type z.structs element)) items h (all_first KindFits (exprs_kinds items) (comma_kinds comma)
      (all_first KindFits (exprs_kinds items ++ comma_kinds comma) (a_sign sign.RightBrace) f.1.1)))
      (array_room (items_in items) size (cells_of z.structs element) (scalar_cells z.structs element k.0) k.1)
  given_enough of (Some (s.Braced token items comma)) h k f l = absurd k
  given_enough of (Some (s.Value value)) h k f l = value_enough of value k h.0 f.1

  -- if there is an object, it has so many cells, and what may stand in them
  abbrev pub IfObject : ℕ → Option Object → Type 0
  IfObject n None = Unit {0}
  IfObject n (Some object) = AllCells (objects_of tree z) object.cells × (length object.cells ≡ n)

  -- what is given, with zeros behind it
  filled_fits : (of : TypeTree) (o : Option (List Scalar)) → IfEnough of o
      → IfObject (cells_of z.structs of) (option_map (λ given. static_object (filled_up (zeros_of z.structs of) given)) o)
  filled_fits of None h = tt
  filled_fits of (Some given) h =
      let zeros : List Scalar = zeros_of z.structs of in (
        all_join (IsCell (objects_of tree z)) given (drop (length given) zeros) h.0
            (dropped_cells (objects_of tree z) (length given) zeros (zeros_cells (objects_of tree z) z.structs of)),
        omega (arith, h.1, length-append given (drop (length given) zeros), length-drop (length given) zeros, zeros_long tree z walked of),
      )

  -- the object of a global whose type this is
  pub typed_fits : (x : StartTree) (o : Option TypeTree) (of : TypeTree) → o ≡ Some of → Takes of x.initial → TypedGlobal (facts_of tree z) z x o → Plain tree x
      → IfObject (cells_by z o) (option_and_then (object_with (facts_of tree z) z x) o)
  typed_fits x None of e k h p = absurd h
  typed_fits x (Some own) of e k h p =
      let same : of ≡ own = cc in
      filled_fits own (given_to (facts_of tree z) (computed_type z.structs own) (element_type z.structs own) x.initial)
      (given_enough own x.initial h (subst (λ u. Takes u x.initial) same k) p.0 p.1)

  -- an object of a cell at least, with what may stand in its cells
  abbrev pub IsFull : Object → Type 0
  IsFull object = AllCells (objects_of tree z) object.cells × (1 ≤ length object.cells)

  -- how many cells an object has
  abbrev pub cells_in : Object → ℕ
  cells_in object = length object.cells

  -- full objects, as many as these globals, with as many cells together
  pub record AreObjects (xs : List StartTree) (objects : List Object) : Type 0 where
    pub full : AllByRecursion IsFull objects
    pub count : length objects ≡ length xs
    pub cells : sum_by cells_in objects ≡ sum_by (cells_at z) xs

  -- if there are objects, they are those of these globals
  abbrev pub IfObjects : List StartTree → Option (List Object) → Type 0
  IfObjects xs None = Unit {0}
  IfObjects xs (Some objects) = AreObjects xs objects

  -- an object more
  one_fits : (x : StartTree) (xs : List StartTree) (o : Option Object) (os : Option (List Object)) → 1 ≤ cells_at z x → IfObject (cells_at z x) o
      → IfObjects xs os → IfObjects (x ∷ xs) (one_more o os)
  one_fits x xs None os l h k = tt
  one_fits x xs (Some object) None l h k = tt
  one_fits x xs (Some object) (Some objects) l h k = record {
    full = ((h.0, omega (arith, h.1, l)), k.full);
    count = omega (arith, k.count);
    cells = omega (arith, sum_by-cons cells_in object objects, sum_by-cons (cells_at z) x xs, h.1, k.cells);
  }

  -- the objects of several globals
  pub starts_fit : (xs : List StartTree) → AllByRecursion (Declared z) xs → TypedGlobals (facts_of tree z) z xs → AllByRecursion (Plain tree) xs
      → IfObjects xs (global_objects (facts_of tree z) z xs)
  starts_fit [] d h p = record { full = tt; count = refl; cells = refl }
  starts_fit (x ∷ xs) d h p =
      one_fits x xs (global_object (facts_of tree z) z x) (global_objects (facts_of tree z) z xs)
      (omega (arith, ap (cells_by z) d.0.is, cells_some tree z small d.0.of d.0.complete))
      (typed_fits x (declared_at z x.declarator.name_token) d.0.of d.0.is d.0.takes h.0 p.0) (starts_fit xs d.1 h.1 p.1)
