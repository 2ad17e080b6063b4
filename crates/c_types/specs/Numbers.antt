-- The numbers of variables and functions are those of their order.
use Rattle.std.specs.Prelude.{◌≡◌, ◌↔◌, ℕ, ◌+◌, true, false, List, [], ◌∷◌, ◌++◌, Some, None, option_map, slice_get}
use Rattle.c_syntax.specs.ItemTree as i
use Rattle.c_syntax.specs.ItemTree.{ItemTree, SourceTree}
use Rattle.c_types_expressions.specs.declared.walk.Definition.{Definition}
use Rattle.c_types_expressions.specs.declared.walk.Variable.TheVariants as variable
use Rattle.c_types_expressions.specs.declared.walk.VariableEntry.{VariableEntry}
use Rattle.c_types_expressions.specs.declared.walk.Walk.{Walk}
use Rattle.c_types.specs.Answers.{note_at}
use Rattle.c_types.specs.Parts.{Part, Expression, Use, Declared, Begins, item_parts, parts_of}

-- the variables that these parts declare, behind so many globals and so many locals of the present function
abbrev pub numbered_from : ℕ → ℕ → List Part → List VariableEntry
numbered_from globals locals [] = []
numbered_from globals locals (Expression token ∷ parts) = numbered_from globals locals parts
numbered_from globals locals (Use token ∷ parts) = numbered_from globals locals parts
numbered_from globals locals (Declared true token name ∷ parts) =
    record { name = name; variable = variable.Global globals; from = token } ∷ numbered_from (globals + 1) locals parts
numbered_from globals locals (Declared false token name ∷ parts) =
    record { name = name; variable = variable.Local locals; from = token } ∷ numbered_from globals (locals + 1) parts
numbered_from globals locals (Begins ∷ parts) = numbered_from globals 0 parts

-- the variables of a text, in the order of their names in it
abbrev pub variables_of : SourceTree → List VariableEntry
variables_of t = numbered_from 0 0 (parts_of t)

abbrev pub function_of : Definition → ℕ
function_of d = d.function

-- The declared function at the place has the number exactly where the definition with this number is its own.
abbrev pub HasNumber : Walk → ℕ → ℕ → Type 0
HasNumber w place number = (note_at w.defined_as place ≡ Some number) ↔ (option_map function_of (slice_get w.definitions number) ≡ Some place)

-- how many variables the parts declare
abbrev pub variables_in : List Part → ℕ
variables_in [] = 0
variables_in (Expression token ∷ parts) = variables_in parts
variables_in (Use token ∷ parts) = variables_in parts
variables_in (Declared global token name ∷ parts) = 1 + variables_in parts
variables_in (Begins ∷ parts) = variables_in parts

-- how many locals there are behind these parts, where there were so many before
abbrev pub locals_behind : ℕ → List Part → ℕ
locals_behind locals [] = locals
locals_behind locals (Expression token ∷ parts) = locals_behind locals parts
locals_behind locals (Use token ∷ parts) = locals_behind locals parts
locals_behind locals (Declared true token name ∷ parts) = locals_behind locals parts
locals_behind locals (Declared false token name ∷ parts) = locals_behind (locals + 1) parts
locals_behind locals (Begins ∷ parts) = locals_behind 0 parts

-- where the locals of a definition begin among all variables, and how many they are
abbrev pub definition_frame : Definition → ℕ × ℕ
definition_frame d = (d.first, d.count)

abbrev pub frame_of : ℕ → ItemTree → List (ℕ × ℕ)
frame_of before (i.Struct token tag members) = []
frame_of before (i.Function token b stars name ps None) = []
frame_of before (i.Function token b stars name ps (Some body)) = (before, locals_behind 0 (item_parts (i.Function token b stars name ps (Some body)))) ∷ []
frame_of before (i.Declaration declaration) = []

-- for each function that is defined, in their order in the text: how many variables are declared before its own, and how many it has
abbrev pub frames_from : ℕ → List ItemTree → List (ℕ × ℕ)
frames_from before [] = []
frames_from before (x ∷ xs) = frame_of before x ++ frames_from (before + variables_in (item_parts x)) xs
