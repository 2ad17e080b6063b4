-- What a checked tree answers.
use Rattle.std.specs.Prelude.{◌≡◌, ℕ, nat_lt, nat_le, Bool, true, false, ◌&&◌, List, Option, Some, None, option_map, option_and_then, unwrap_or, slice_get}
use Rattle.c_syntax.specs.Words.{SourceTree, plain_tree}
use Rattle.c_types_rules.specs.TypeTree.{TypeTree}
use Rattle.c_types.specs.declared.checked.Checked.{Checked}
use Rattle.c_types.specs.declared.checked.TypeFault.{TypeFault}
use Rattle.c_types.specs.declared.checked.TypeFault.TheVariants as types
use Rattle.c_types_expressions.specs.declared.walk.Variable.{Variable}
use Rattle.c_types_expressions.specs.declared.walk.VariableEntry.{VariableEntry}
use Rattle.c_types_expressions.specs.declared.walk.Walk.{Walk}
use Rattle.c_types.specs.Fault.{walk_tree}
use Rattle.c_types_expressions.specs.Walked.{Fine}

-- the tree that was checked
abbrev pub tree_of : Checked → SourceTree
tree_of c = plain_tree c.tree

-- what is known of it at the end
abbrev pub known_of : Checked → Walk
known_of c = c.walk

-- it is what the walk through its tree comes to, without a fault
abbrev pub IsChecked : Checked → Type 0
IsChecked c = walk_tree (tree_of c) ≡ Fine tt (known_of c)

-- For want of memory nothing is said.
abbrev pub IsTypeFault : Option (ℕ × ℕ) → TypeFault → Type 0
IsTypeFault found (types.BadType kind index) = found ≡ Some (kind, index)
IsTypeFault found types.Memory = Unit {0}

-- what was noted at the token
abbrev pub note_at : {A : Type 0} → List (Option A) → ℕ → Option A
note_at notes token = unwrap_or (slice_get notes token) None

-- the type of the expression whose own token it is
abbrev pub type_at : Walk → ℕ → Option TypeTree
type_at w token = note_at w.types token

-- the place, among all variables, of the one that the name at the token declares or names
abbrev pub place_at : Walk → ℕ → Option ℕ
place_at w token = note_at w.variables_at token

abbrev pub variable_of : VariableEntry → Variable
variable_of v = v.variable

-- that variable, by its number
abbrev pub variable_at : Walk → ℕ → Option Variable
variable_at w token = option_and_then (λ place. option_map variable_of (slice_get w.variables place)) (place_at w token)

-- its type, an array as such
abbrev pub declared_at : Walk → ℕ → Option TypeTree
declared_at w token = option_and_then (λ place. slice_get w.declared_types place) (place_at w token)

-- the offset of the member that a `.` or `->` at the token names
abbrev pub offset_at : Walk → ℕ → Option ℕ
offset_at w token = note_at w.offsets_at token

-- the number of the defined function whose call has its name at the token
abbrev pub function_at : Walk → ℕ → Option ℕ
function_at w token = option_and_then (λ place. note_at w.defined_as place) (note_at w.functions_at token)

abbrev pub ends_behind : ℕ → Option ℕ → Bool
ends_behind token None = true
ends_behind token (Some last) = nat_le token last

abbrev pub span_holds : ℕ → Option VariableEntry → Option (Option ℕ) → Bool
span_holds token (Some v) (Some end) = nat_lt v.from token && ends_behind token end
span_holds token v end = false

-- whether the token lies in the scope of the variable at this place, which begins behind its name
abbrev pub scope_holds : Walk → ℕ → ℕ → Bool
scope_holds w place token = span_holds token (slice_get w.variables place) (slice_get w.ends place)
