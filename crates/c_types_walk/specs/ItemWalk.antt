-- The walk through the items of a text: structs, functions and globals.
use Rattle.std.specs.Prelude.{ℕ, nat_le, Bool, true, false, ◌&&◌, ◌||◌, if◌then◌else◌, pos, int_le, List, [], ◌∷◌, ◌++◌, length, map, Option, Some, None}
use Rattle.std.specs.Prelude.{is_some, is_none, unwrap_or, slice_get}
use Rattle.std.specs.Str.{bytes_eq}
use Rattle.c_syntax.specs.declared.parts.Bound.{Bound}
use Rattle.c_syntax.specs.declared.parts.Constant.{Constant}
use Rattle.c_syntax.specs.declared.parts.Declarator.{Declarator}
use Rattle.c_syntax.specs.declared.parts.Members.{Members}
use Rattle.c_syntax.specs.declared.parts.Param.{Param}
use Rattle.c_syntax.specs.declared.parts.ParamName.{ParamName}
use Rattle.c_syntax.specs.declared.parts.Params.{Params}
use Rattle.c_syntax.specs.declared.parts.Params.TheVariants as params
use Rattle.c_syntax.specs.Words.{EntryList, ItemTree}
use Rattle.c_syntax.specs.ItemTree as i
use Rattle.c_types_rules.specs.declared.fault.FaultKind.TheVariants as fault
use Rattle.c_types_rules.specs.declared.function.FunctionType.{FunctionType}
use Rattle.c_types_rules.specs.declared.layout.StructType.{StructType}
use Rattle.c_types_rules.specs.Words.{TypeTree, Pointer, is_scalar, is_struct, same_function, member_named, is_object, most_cells, empty_struct, with_member}
use Rattle.c_types_expressions.specs.declared.names.Meaning.{Meaning}
use Rattle.c_types_expressions.specs.declared.names.Meaning.TheVariants as meaning
use Rattle.c_types_expressions.specs.declared.names.ScopeEntry.TheVariants.{Declares}
use Rattle.c_types_expressions.specs.declared.walk.FunctionEntry.{FunctionEntry}
use Rattle.c_types_expressions.specs.declared.walk.Parameter.{Parameter}
use Rattle.c_types_expressions.specs.declared.walk.Walk.{Walk}
use Rattle.c_types_expressions.specs.Words.{declared_meaning, is_here, is_reserved, Walked, Fine, Faulty, ◌>>=◌, Done, item_replaced, with_variable}
use Rattle.c_types_expressions.specs.Words.{scope_opened, scope_closed, base_type}
use Rattle.c_types_expressions.specs.Words.{with_stars}
use Rattle.c_types_walk.specs.Declarators.{declared_type}
use Rattle.c_types_walk.specs.StatementWalk.{walk_declaration, walk_entries}

-- structs

abbrev pub typed_member : Declarator → Option TypeTree → StructType → Walk → Walked StructType
typed_member d None s w = Faulty fault.Object d.token
typed_member d (Some t) s w = if is_object w.structs t then Fine (with_member w.structs d.name t s) w else Faulty fault.Object d.token

-- a member: its name is new in its struct, which has a scope of its own (C99 6.2.3)
abbrev pub walk_member : TypeTree → Declarator → StructType → Walk → Walked StructType
walk_member b d s w =
    if is_some (member_named d.name s.members) then Faulty fault.Redeclared d.token else typed_member d (declared_type d b) s w

abbrev pub walk_declarators : TypeTree → List Declarator → StructType → Walk → Walked StructType
walk_declarators b [] s w = Fine s w
walk_declarators b (d ∷ ds) s w = walk_member b d s w >>= λ s' v. walk_declarators b ds s' v

abbrev pub walk_members : List Members → StructType → Walk → Walked StructType
walk_members [] s w = Fine s w
walk_members (m ∷ ms) s w = base_type m.base w >>= λ b v. walk_declarators b m.declarators s v >>= λ s' u. walk_members ms s' u

-- A tag is in scope from its own token on, and means the next struct (C99 6.2.1p7).
abbrev pub with_tag : List ℕ → Walk → Walk
with_tag tag w = record w { tags = Declares tag (meaning.Struct (length w.structs)) ∷ w.tags }

abbrev pub struct_defined : ℕ → Bool → StructType → Walk → Walked Done
struct_defined token twice s w =
    if twice then Faulty fault.Redeclared token
    else if nat_le s.cells most_cells then Fine tt (record w { structs = w.structs ++ s ∷ [] })
    else Faulty fault.Object token

abbrev pub walk_struct : ℕ → List ℕ → List Members → Walk → Walked Done
walk_struct token tag members w = walk_members members empty_struct (with_tag tag w) >>= λ s v. struct_defined token (is_here tag w.tags) s v

-- parameters

abbrev pub listed_params : Params → List Param
listed_params params.Empty = []
listed_params params.Void = []
listed_params (params.List list) = list

abbrev pub is_named : List ℕ → Option (List ℕ) → Bool
is_named name None = false
is_named name (Some other) = bytes_eq other name

abbrev pub is_among : List ℕ → List Parameter → Bool
is_among name [] = false
is_among name (p ∷ ps) = is_named name p.name || is_among name ps

abbrev pub is_length : Option Constant → Bool
is_length None = true
is_length (Some c) = int_le (pos 1) c.value

-- a parameter that is declared as an array is a pointer (C99 6.7.5.3p7)
abbrev pub param_type : Option Bound → TypeTree → TypeTree
param_type None t = t
param_type (Some bound) t = Pointer t

abbrev pub has_length : Option Bound → Bool
has_length None = true
has_length (Some bound) = is_length bound.length

abbrev pub scalar_param : ℕ → Option Bound → TypeTree → Parameter → Walk → Walked Parameter
scalar_param token bound t p w = if is_scalar t && has_length bound then Fine p w else Faulty fault.Object token

abbrev pub named_param : ℕ → ParamName → TypeTree → List Parameter → Walk → Walked Parameter
named_param token n t before w =
    if is_reserved n.name || is_among n.name before then Faulty fault.Redeclared token
    else scalar_param token n.bound (param_type n.bound t) (record { token = n.token; name = Some n.name; ctype = param_type n.bound t }) w

-- A parameter. It needs a name where the function has a body.
abbrev pub looked_param : Bool → ℕ → Option ParamName → TypeTree → List Parameter → Walk → Walked Parameter
looked_param body token None t before w =
    if body then Faulty fault.Unknown token else scalar_param token None t (record { token = token; name = None; ctype = t }) w
looked_param body token (Some n) t before w = named_param token n t before w

abbrev pub walk_param : Bool → Param → List Parameter → Walk → Walked Parameter
walk_param body p before w = base_type p.base w >>= λ b v. looked_param body p.token p.name (with_stars p.stars b) before v

abbrev pub walk_params : Bool → List Param → List Parameter → Walk → Walked (List Parameter)
walk_params body [] before w = Fine before w
walk_params body (p ∷ ps) before w = walk_param body p before w >>= λ x v. walk_params body ps (before ++ x ∷ []) v

abbrev pub types_of : List Parameter → List TypeTree
types_of ps = map (λ p. p.ctype) ps

abbrev pub with_param : ℕ → Option (List ℕ) → TypeTree → Walk → Walk
with_param token None t w = w
with_param token (Some name) t w = with_variable false token name t w

abbrev pub with_params : List Parameter → Walk → Walk
with_params [] w = w
with_params (p ∷ ps) w = with_params ps (with_param p.token p.name p.ctype w)

-- functions

abbrev pub has_type : FunctionType → Option FunctionEntry → Bool
has_type f None = false
has_type f (Some g) = same_function g.ctype f

-- the number of the function as which the name was declared before, with this type
abbrev pub known_as : FunctionType → Option Meaning → Walk → Option ℕ
known_as f (Some (meaning.Function index)) w = if has_type f (slice_get w.functions index) then Some index else None
known_as f m w = None

-- A function is in scope from the `)` of its parameters on.
abbrev pub with_function : List ℕ → FunctionType → Option ℕ → Walk → Walk
with_function name f (Some index) w = w
with_function name f None w = record w {
  names = Declares name (meaning.Function (length w.functions)) ∷ w.names;
  functions = w.functions ++ record { name = name; ctype = f } ∷ [];
  defined_as = w.defined_as ++ None ∷ [];
}

abbrev pub is_defined : ℕ → List (Option ℕ) → Bool
is_defined index defined_as = is_some (unwrap_or (slice_get defined_as index) None)

-- a function's own faults: declared otherwise than before, with a name of the library, or with a result of struct type
abbrev pub function_checked : ℕ → Bool → TypeTree → Walk → Walked Done
function_checked token taken gives w =
    if taken then Faulty fault.Redeclared token else if is_struct gives then Faulty fault.Object token else Fine tt w

-- whether the name is one of the library, or was declared otherwise
abbrev pub is_clashing_name : List ℕ → Option ℕ → Walk → Bool
is_clashing_name name known w = is_reserved name || (is_here name w.names && is_none known)

abbrev pub with_definition : ℕ → ℕ → Walk → Walk
with_definition index first w = record w {
  defined_as = item_replaced w.defined_as index (Some (length w.definitions));
  definitions = w.definitions ++ record { function = index; first = first; count = w.locals } ∷ [];
}

-- the variables of a function begin with its parameters, which share the scope of its body
abbrev pub body_scope_opened : List Parameter → Walk → Walk
body_scope_opened ps w = with_params ps (scope_opened (record w { locals = 0 }))

-- The body of a function, and then the function itself: it is defined once.
unfoldable pub walk_body : ℕ → FunctionType → List ℕ → List Parameter → EntryList → Option ℕ → Walk → Walked Done
walk_body token f name ps body known w =
    walk_entries f.gives false body (body_scope_opened ps (with_function name f known w)) >>= scope_closed >>= λ _ v.
    function_checked token (is_clashing_name name known w || is_defined (unwrap_or known (length w.functions)) w.defined_as) f.gives v >>= λ _ u.
    Fine tt (with_definition (unwrap_or known (length w.functions)) (length w.variables) u)

abbrev pub walk_function : ℕ → FunctionType → List ℕ → List Parameter → Option EntryList → Option ℕ → Walk → Walked Done
walk_function token f name ps None known w = function_checked token (is_clashing_name name known w) f.gives (with_function name f known w)
walk_function token f name ps (Some body) known w = walk_body token f name ps body known w

abbrev pub typed_function : ℕ → FunctionType → List ℕ → List Parameter → Option EntryList → Walk → Walked Done
typed_function token f name ps body w = walk_function token f name ps body (known_as f (declared_meaning name w.names) w) w

abbrev pub walk_item : ItemTree → Walk → Walked Done
walk_item (i.Struct token tag members) w = walk_struct token tag members w
walk_item (i.Function token base stars name ps body) w =
    base_type base w >>= λ b v. walk_params (is_some body) (listed_params ps) [] v >>= λ xs u.
    typed_function token (record { gives = with_stars stars b; params = types_of xs }) name xs body u
walk_item (i.Declaration declaration) w = walk_declaration true declaration w

abbrev pub walk_items : List ItemTree → Walk → Walked Done
walk_items [] w = Fine tt w
walk_items (x ∷ xs) w = walk_item x w >>= λ _ v. walk_items xs v
