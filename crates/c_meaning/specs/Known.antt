-- What is known of a tree whose types were checked, as its meaning uses it.
use Rattle.std.specs.Prelude.{ℕ, suc, ◌+◌, ◌==◌, ◌&&◌, List, [], ◌∷◌, ◌++◌, map, take, drop, if◌then◌else◌}
use Rattle.std.specs.Prelude.{Option, Some, None, slice_get}
use Rattle.std.specs.List.{flat_map}
use Rattle.std.specs.Option.{option_map, option_and_then, unwrap_or}
use Rattle.std.specs.Str.{bytes_eq}
use Rattle.cbi_base.specs.declared.scalar.Kind.TheVariants.{Char, Int, Unsigned}
use Rattle.c_syntax.specs.declared.parts.Base.{Base}
use Rattle.c_syntax.specs.declared.parts.Base.TheVariants as base
use Rattle.c_syntax.specs.ItemTree as item
use Rattle.c_syntax.specs.Words.{ItemTree, SourceTree, EntryList}
use Rattle.c_types_rules.specs.declared.layout.StructType.{StructType}
use Rattle.c_types_rules.specs.Words.{cells_of, is_object, TypeTree}
use Rattle.c_types_rules.specs.TypeTree as t
use Rattle.c_types_expressions.specs.declared.walk.Definition.{Definition}
use Rattle.c_types_expressions.specs.declared.walk.FunctionEntry.{FunctionEntry}
use Rattle.c_types_expressions.specs.declared.walk.Variable.{Variable}
use Rattle.c_types_expressions.specs.declared.walk.Variable.TheVariants as variable
use Rattle.c_types_expressions.specs.declared.walk.Walk.{Walk}
use Rattle.c_types.specs.Answers.{declared_at, function_at, offset_at, type_at, variable_at}
use Rattle.c_types_expressions.specs.ExprWalk.{with_stars}
use Rattle.flow.specs.declared.site.Slot.{Slot}
use Rattle.flow.specs.declared.site.Slot.TheVariants as slot
use Rattle.c_meaning.specs.declared.value_type.ValueType.{ValueType}
use Rattle.c_meaning.specs.declared.value_type.ValueType.TheVariants as type
use Rattle.c_meaning.specs.Facts.{Facts, Signature}
use Rattle.c_meaning.specs.Literals.{string_literals, number_from, texts_of}

-- how many cells an object of the type has, where it has any
abbrev pub object_cells : List StructType → TypeTree → Option ℕ
object_cells structs of = if is_object structs of then Some (cells_of structs of) else None

abbrev pub element_cells : List StructType → TypeTree → ℕ
element_cells structs of = unwrap_or (object_cells structs of) 0

-- what the type is where values are computed
abbrev pub computed_type : List StructType → TypeTree → ValueType
computed_type structs t.Void = type.Void
computed_type structs t.Char = type.Number Char
computed_type structs t.Int = type.Number Int
computed_type structs t.Unsigned = type.Number Unsigned
computed_type structs (t.Pointer to) = type.Pointer (element_cells structs to)
computed_type structs (t.Array element size) = type.Array (element_cells structs element)
computed_type structs (t.Struct tag) = type.Struct

-- the type of an array's elements
abbrev pub element_type : List StructType → TypeTree → Option ValueType
element_type structs (t.Array element size) = Some (computed_type structs element)
element_type structs of = None

abbrev pub slot_of : Variable → Slot
slot_of (variable.Global index) = slot.Global index
slot_of (variable.Local index) = slot.Local index

-- structs have their numbers in the order of their definitions
abbrev pub struct_number : ℕ → List ℕ → List ItemTree → Option ℕ
struct_number number tag [] = None
struct_number number tag (item.Struct token other members ∷ items) = if bytes_eq other tag then Some number else struct_number (suc number) tag items
struct_number number tag (x ∷ items) = struct_number number tag items

-- the type that a base names
abbrev pub base_named : List ItemTree → Base → Option TypeTree
base_named items (base.Void token) = Some t.Void
base_named items (base.Char token) = Some t.Char
base_named items (base.Int token) = Some t.Int
base_named items (base.Unsigned token int) = Some t.Unsigned
base_named items (base.Struct token tag) = option_map t.Struct (struct_number 0 tag items)

abbrev pub named_cells : SourceTree → List StructType → Base → ℕ → Option ℕ
named_cells tree structs b stars = option_and_then (λ of. object_cells structs (with_stars stars of)) (base_named tree.items b)

-- the sizes of a function's variables
abbrev pub sizes_of : Walk → Definition → List ℕ
sizes_of w d = map (cells_of w.structs) (take d.count (drop d.first w.declared_types))

abbrev pub signature_with : Walk → Definition → Option FunctionEntry → Option Signature
signature_with w d None = None
signature_with w d (Some f) = Some (record {
  params = map (computed_type w.structs) f.ctype.params;
  result = computed_type w.structs f.ctype.gives;
  locals = sizes_of w d;
})

abbrev pub signature_of : Walk → Option Definition → Option Signature
signature_of w None = None
signature_of w (Some d) = signature_with w d (slice_get w.functions d.function)

-- the bodies of the defined functions, in the order of their definitions
abbrev pub body_of_item : ItemTree → List EntryList
body_of_item (item.Function token base stars name params (Some body)) = body ∷ []
body_of_item x = []

abbrev pub function_bodies : SourceTree → List EntryList
function_bodies tree = flat_map body_of_item tree.items

-- what is known of the tokens of a tree, after the walk through its types
abbrev pub facts_of : SourceTree → Walk → Facts
facts_of tree w = record {
  type_at = λ token. option_map (computed_type w.structs) (type_at w token);
  cells_at = λ token. option_and_then (object_cells w.structs) (type_at w token);
  named_cells = named_cells tree w.structs;
  slot_at = λ token. option_map slot_of (variable_at w token);
  declared_at = λ token. option_map (computed_type w.structs) (declared_at w token);
  element_at = λ token. option_and_then (element_type w.structs) (declared_at w token);
  offset_at = offset_at w;
  function_at = function_at w;
  text_at = λ token. number_from 0 token (string_literals tree);
  statics = record { globals = w.globals; texts = texts_of (string_literals tree) };
  signature = λ number. signature_of w (slice_get w.definitions number);
}
