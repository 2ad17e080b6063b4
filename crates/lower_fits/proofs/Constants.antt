-- The globals of an accepted text begin with constants, whose values may stand in their cells.
use Rattle.std.proofs.Common.{◌≡◌, ℕ, ◌≤◌, arith, List, [], ◌∷◌, ◌++◌, Option, Some, None, length}
use Rattle.std.specs.Prelude.{IsSome}
use Rattle.std.specs.List.{All, AllByRecursion, flat_map}
use Rattle.std.proofs.lemmas.Bool.{false≢true}
use Rattle.std.proofs.lemmas.List.{length-map}
use Rattle.std.proofs.lemmas.List.Elements.{All-from_recursion, All-weaker}
use Rattle.base_lists.proofs.Every.{all_first, all_second}
use Rattle.cbi_base.specs.declared.scalar.Scalar.{Scalar}
use Rattle.cbi_base.specs.declared.scalar.Scalar.TheVariants.{Number, Place, Null, Undefined}
use Rattle.cbi_base.specs.Objects.{Object}
use Rattle.c_syntax.specs.declared.expr.PrefixOperator.TheVariants as prefix
use Rattle.c_syntax.specs.declared.token.Sign.TheVariants as sign
use Rattle.c_syntax.specs.ExprTree as e
use Rattle.c_syntax.specs.Words.{ExprTree, ExprList, ItemTree, SourceTree, a_sign, comma_kinds, expr_kinds, exprs_kinds, more_exprs_kinds, tree_kinds}
use Rattle.c_syntax.specs.Words.{InitialTree, StartTree, KindFits}
use Rattle.c_syntax.specs.StatementTree as s
use Rattle.c_types_rules.specs.TypeTree as t
use Rattle.c_types_rules.specs.TypeTree.{TypeTree}
use Rattle.c_types_expressions.specs.declared.walk.Walk.{Walk}
use Rattle.c_types.specs.Answers.{declared_at}
use Rattle.c_types.specs.Fault.{walk_tree}
use Rattle.c_types_expressions.specs.Walked.{Fine}
use Rattle.flow.specs.Limits.{text_limit}
use Rattle.c_meaning.specs.declared.value_type.ValueType.{ValueType}
use Rattle.c_meaning.specs.declared.value_type.ValueType.TheVariants as type
use Rattle.c_meaning.specs.Words.{Facts, global_object, starts_of, computed_type, element_type, facts_of, string_literals, texts_of, text_of_string}
use Rattle.c_meaning_laws.specs.TypedText.{GlobalInitial, GlobalItems, IsConstant, TypedGlobal, TypedGlobals}
use Rattle.c_meaning_sound.specs.Accepted.{IsAcceptedTree}
use Rattle.c_meaning_sound.specs.Sited.{IsSited}
use Rattle.c_meaning_sound.proofs.Ending.{small_structs, tree_sums}
use Rattle.c_meaning_sound.proofs.Initialising.{equals_kinds}
use Rattle.c_meaning_sound.proofs.Noting.{Small}
use Rattle.c_meaning_sound.proofs.Whole.{none_fits}
use Rattle.lower_globals.specs.Starts.{AreStarts, IfFirst, IsBegun, IsBegunItem, IsFirst, IsGlobalStart, IsStart}
use Rattle.lower_fits.proofs.Declaring.{Declared, cells_at}
use Rattle.lower_fits.proofs.GlobalsOfItems.{globals_counted, strings_spelled}
use Rattle.lower_fits.proofs.Objects.{IfObject, Plain, plain_items, typed_fits}
use Rattle.lower_fits.proofs.Texts.{few_texts}
use Rattle.lower_fits.proofs.Values.{IsCell, objects_of, rest_kinds}

-- a string that initialises an array
text_starts : (facts : Facts) (x : ExprTree) → IsSome (text_of_string facts x) → IsStart x
text_starts facts (e.Strings token parts) h = tt
text_starts facts x h = absurd (false≢true h)

-- a constant, whose tokens fit
constant_starts : (facts : Facts) (x : ExprTree) → IsConstant facts x → AllByRecursion KindFits (expr_kinds x) → IsStart x
constant_starts facts (e.Constant token k value) h f = f.0.1
constant_starts facts (e.Prefix token prefix.Minus (e.Constant at k value)) h f = f.1.0.1
constant_starts facts (e.Strings token parts) h f = tt
constant_starts facts (e.Null token) h f = tt
constant_starts facts x h f = absurd h

-- several ones
items_start : (facts : Facts) (of : Option ValueType) (xs : ExprList) → GlobalItems facts of xs → AllByRecursion KindFits (exprs_kinds xs) → AreStarts xs
items_start facts of e.no_exprs h f = tt
items_start facts of (e.more_exprs x rest) h f = (
  constant_starts facts x h.0 (all_first KindFits (expr_kinds x) (more_exprs_kinds rest) f),
  items_start facts of rest h.2 (rest_kinds KindFits rest (all_second KindFits (expr_kinds x) (more_exprs_kinds rest) f)),
)

-- an initialiser
initial_begins : (facts : Facts) (of : ValueType) (element : Option ValueType) (x : Option InitialTree) → GlobalInitial facts of element x
    → AllByRecursion KindFits (equals_kinds x) → IsGlobalStart x
initial_begins facts of element None h f = tt
initial_begins facts (type.Array size) element (Some (s.Value value)) h f = text_starts facts value h
initial_begins facts of element (Some (s.Braced token items comma)) h f =
    items_start facts element items h (all_first KindFits (exprs_kinds items) (comma_kinds comma)
    (all_first KindFits (exprs_kinds items ++ comma_kinds comma) (a_sign sign.RightBrace) f.1.1))
initial_begins facts of element (Some (s.Value value)) h f = constant_starts facts value h.0 f.1

-- the initialiser of a global whose type is known
typed_begins : (facts : Facts) (z : Walk) (x : StartTree) (o : Option TypeTree) → TypedGlobal facts z x o → AllByRecursion KindFits (equals_kinds x.initial)
    → IsGlobalStart x.initial
typed_begins facts z x None h f = absurd h
typed_begins facts z x (Some of) h f = initial_begins facts (computed_type z.structs of) (element_type z.structs of) x.initial h f

module _ (tree : SourceTree) (z : Walk) (walked : walk_tree tree ≡ Fine tt z) (small : (tag : ℕ) → Small tree z (t.Struct tag))
    (few : length (string_literals tree) ≤ text_limit) where
  -- a value in a cell
  cell_first : (v : Scalar) → IsCell (objects_of tree z) v → IsFirst z.globals v
  cell_first (Number kind value) h = tt
  cell_first (Place number offset) h = (h.0, h.1, omega (arith, h.2, few))
  cell_first Null h = tt
  cell_first Undefined h = absurd h

  -- the values in the cells of an object
  object_first : (n : ℕ) (o : Option Object) → IfObject tree z walked small n o → IfFirst z.globals o
  object_first n None h = tt
  object_first n (Some object) h =
      All-weaker (IsCell (objects_of tree z)) (IsFirst z.globals) cell_first object.cells
      (All-from_recursion (IsCell (objects_of tree z)) object.cells h.0)

  -- several globals
  starts_begun : (xs : List StartTree) → AllByRecursion (Declared z) xs → TypedGlobals (facts_of tree z) z xs → AllByRecursion (Plain tree) xs
      → AllByRecursion (IsBegun (facts_of tree z) z) xs
  starts_begun [] d h p = tt
  starts_begun (x ∷ xs) d h p = (
    record {
      initial = typed_begins (facts_of tree z) z x (declared_at z x.declarator.name_token) h.0 p.0.0;
      cells = object_first (cells_at z x) (global_object (facts_of tree z) z x)
          (typed_fits tree z walked small x (declared_at z x.declarator.name_token) d.0.of d.0.is d.0.takes h.0 p.0);
    },
    starts_begun xs d.1 h.1 p.1,
  )

-- the globals of each item
items_begun : (facts : Facts) (z : Walk) (xs : List ItemTree) → AllByRecursion (IsBegun facts z) (flat_map starts_of xs) → AllByRecursion (IsBegunItem facts z) xs
items_begun facts z [] h = tt
items_begun facts z (x ∷ xs) h = (
  All-from_recursion (IsBegun facts z) (starts_of x) (all_first (IsBegun facts z) (starts_of x) (flat_map starts_of xs) h),
  items_begun facts z xs (all_second (IsBegun facts z) (starts_of x) (flat_map starts_of xs) h),
)

-- all globals of an accepted text
pub globals_begun : (tree : SourceTree) (z : Walk) → IsAcceptedTree tree z → IsSited tree → AllByRecursion KindFits (tree_kinds tree)
    → All (IsBegunItem (facts_of tree z) z) tree.items
globals_begun tree z a s f =
    let small : (tag : ℕ) → Small tree z (t.Struct tag) = small_structs tree z (tree_sums tree z a.formed.shaped a.walked) in
    let same : length (texts_of (string_literals tree)) ≡ length (string_literals tree) = length-map (string_literals tree) _ in
    let few : length (string_literals tree) ≤ text_limit = omega (arith, few_texts tree z a s, same) in
    All-from_recursion (IsBegunItem (facts_of tree z) z) tree.items (items_begun (facts_of tree z) z tree.items
    (starts_begun tree z a.walked small few (flat_map starts_of tree.items) (globals_counted tree z a).each (none_fits tree z a).globals
    (plain_items tree tree.items f (strings_spelled tree z a))))
