-- The objects that are there before a run: the globals, which begin at zero or with their initialisers (C99 6.7.8p10), and then the strings.
use Rattle.std.specs.Prelude.{ℕ, ◌+◌, ◌-◌, pos, List, [], ◌∷◌, ◌++◌, length, map, replicate, drop, Option, Some, None, slice_get}
use Rattle.std.specs.List.{flat_map}
use Rattle.std.specs.Option.{option_map, option_and_then, unwrap_or}
use Rattle.cbi_base.specs.Words.{char_of, Object, no_objects}
use Rattle.cbi_base.specs.declared.scalar.Class.TheVariants as class
use Rattle.cbi_base.specs.declared.scalar.Kind.TheVariants as kind
use Rattle.cbi_base.specs.declared.scalar.Scalar.{Scalar}
use Rattle.cbi_base.specs.declared.scalar.Scalar.TheVariants.{Number, Null}
use Rattle.c_syntax.specs.ExprTree as e
use Rattle.c_syntax.specs.Words.{ExprTree, ExprList, InitialTree, StartTree, ItemTree, SourceTree}
use Rattle.c_syntax.specs.StatementTree as tree
use Rattle.c_syntax.specs.ItemTree as item
use Rattle.c_types_rules.specs.declared.layout.StructType.{StructType}
use Rattle.c_types_rules.specs.TypeTree as t
use Rattle.c_types_rules.specs.TypeTree.{TypeTree}
use Rattle.c_types_expressions.specs.declared.walk.Walk.{Walk}
use Rattle.c_types.specs.Answers.{declared_at}
use Rattle.flow.specs.declared.program.Text.{Text}
use Rattle.flow.specs.Statics.{text_object}
use Rattle.c_meaning.specs.declared.value_type.ValueType.{ValueType}
use Rattle.c_meaning.specs.declared.value_type.ValueType.TheVariants as type
use Rattle.c_meaning.specs.Conversions.{is_null_as}
use Rattle.c_meaning.specs.Expressions.{wanted_value}
use Rattle.c_meaning.specs.Facts.{Facts, Setting, Sites}
use Rattle.c_meaning.specs.Known.{computed_type, element_type, facts_of}
use Rattle.c_meaning.specs.Literals.{string_literals, texts_of}
use Rattle.c_meaning.specs.Meaning.{expr, text_of_string}
use Rattle.c_meaning.specs.Trees.{type_of}
use Rattle.c_meaning.specs.World.{World, Out, Go, Stop, stuck_run}

-- zero in each cell of a type, or null: the cells of a struct by its number (C99 6.7.8p10)
abbrev pub zero_cells : List (List Scalar) → TypeTree → List Scalar
zero_cells structs t.Void = []
zero_cells structs t.Char = Number kind.Char (pos 0) ∷ []
zero_cells structs t.Int = Number kind.Int (pos 0) ∷ []
zero_cells structs t.Unsigned = Number kind.Unsigned (pos 0) ∷ []
zero_cells structs (t.Pointer to) = Null ∷ []
zero_cells structs (t.Array element size) = flat_map (λ cells. cells) (replicate size (zero_cells structs element))
zero_cells structs (t.Struct tag) = unwrap_or (slice_get structs tag) []

-- those of each struct, which has members of earlier structs alone
abbrev pub cells_of_structs : List StructType → List (List Scalar) → List (List Scalar)
cells_of_structs [] before = before
cells_of_structs (s ∷ structs) before = cells_of_structs structs (before ++ flat_map (λ m. zero_cells before m.ctype) s.members ∷ [])

abbrev pub zeros_of : List StructType → TypeTree → List Scalar
zeros_of structs of = zero_cells (cells_of_structs structs []) of

abbrev pub no_sites : Sites
no_sites = record { branch_at = λ token. None; return_at = λ token. None; pairs_at = λ token. []; site = λ site. None }

-- before the run there are no objects, no locals, and nothing to call
abbrev pub before_all : Facts → Setting
before_all facts = record { facts = facts; sites = no_sites; call = λ number arguments. stuck_run; locals = record { first = 0; count = 0 } }

abbrev pub empty_world : World
empty_world = record { objects = no_objects; input = []; output = []; turns = 0; active = 0; seen = [] }

abbrev pub given_by : Out Scalar → Option Scalar
given_by (Go v w) = Some v
given_by (Stop outcome w) = None

-- A global's initialiser has the value that it would have anywhere, as one of the type (C99 6.6, 6.7.8p11).
abbrev pub constant_value : Facts → Option ValueType → ExprTree → Option Scalar
constant_value facts of x = given_by (wanted_value (is_null_as of x) (type_of facts x) of (expr (before_all facts) x) empty_world)

abbrev pub before_cells : Option Scalar → Option (List Scalar) → Option (List Scalar)
before_cells None cells = None
before_cells (Some v) cells = option_map (λ more. v ∷ more) cells

abbrev pub constant_values : Facts → Option ValueType → ExprList → Option (List Scalar)
constant_values facts of e.no_exprs = Some []
constant_values facts of (e.more_exprs x rest) = before_cells (constant_value facts of x) (constant_values facts of rest)

abbrev pub spelled_cells : Option Text → Option (List Scalar)
spelled_cells None = None
spelled_cells (Some text) = Some (map char_of text.bytes)

-- the cells that an initialiser gives to a global of the type, from its first one on
abbrev pub given_to : Facts → ValueType → Option ValueType → Option InitialTree → Option (List Scalar)
given_to facts of element None = Some []
given_to facts (type.Array size) element (Some (tree.Value x)) = spelled_cells (text_of_string facts x)
given_to facts of element (Some (tree.Value x)) = option_map (λ v. v ∷ []) (constant_value facts (Some of) x)
given_to facts of element (Some (tree.Braced token items comma)) = constant_values facts element items

-- the others are zero
abbrev pub filled_up : List Scalar → List Scalar → List Scalar
filled_up zeros given = given ++ drop (length given) zeros

abbrev pub static_object : List Scalar → Object
static_object cells = record { class = class.Static; cells = cells }

abbrev pub object_with : Facts → Walk → StartTree → TypeTree → Option Object
object_with facts w x of =
    option_map (λ given. static_object (filled_up (zeros_of w.structs of) given))
    (given_to facts (computed_type w.structs of) (element_type w.structs of) x.initial)

abbrev pub global_object : Facts → Walk → StartTree → Option Object
global_object facts w x = option_and_then (object_with facts w x) (declared_at w x.declarator.name_token)

-- the declared globals, in order
abbrev pub starts_of : ItemTree → List StartTree
starts_of (item.Declaration d) = d.starts
starts_of x = []

abbrev pub one_more : Option Object → Option (List Object) → Option (List Object)
one_more None objects = None
one_more (Some object) objects = option_map (λ more. object ∷ more) objects

abbrev pub global_objects : Facts → Walk → List StartTree → Option (List Object)
global_objects facts w [] = Some []
global_objects facts w (x ∷ xs) = one_more (global_object facts w x) (global_objects facts w xs)

abbrev pub then_strings : SourceTree → List Object → List Object
then_strings tree globals = globals ++ map text_object (texts_of (string_literals tree))

-- all objects of the beginning
abbrev pub first_objects : SourceTree → Walk → Option (List Object)
first_objects tree w = option_map (then_strings tree) (global_objects (facts_of tree w) w (flat_map starts_of tree.items))
