-- Functions, step by step: the room that each step of one with a body leaves, and a function without a body.
use Rattle.std.proofs.Common.{◌≡◌, ℕ, ◌+◌, Bool, List, Option, Result, Ok, Err, OnOk, subst, arith}
use Rattle.c_types_rules.specs.declared.function.FunctionType.{FunctionType}
use Rattle.c_types_rules.specs.Words.{TypeTree}
use Rattle.c_types_expressions.specs.declared.walk.Stop.{Stop}
use Rattle.c_types_expressions.specs.declared.walk.Walk.{Walk}
use Rattle.c_types_expressions.specs.Room.{HasRoom, HasRoomLeft}
use Rattle.c_types_expressions.specs.Words.{Done, Fine, IsWalked, Walked}
use Rattle.c_types_walk.specs.ItemWalk.{function_checked, is_clashing_name, with_function}

-- the room for the entries of a body, behind the function's name and its parameters
pub body_room : (p e : ℕ) (w v u : Walk) → HasRoom (2 + p + e) w → HasRoomLeft 1 0 w v → HasRoomLeft p 0 v u → HasRoom e u
body_room p e w v u r a b = record {
  few = omega (arith, r.few, a.few, b.few);
  globals = omega (arith, r.globals, a.globals, b.globals);
  locals = omega (arith, r.locals, a.locals, b.locals);
}

-- the room for the definition, behind the body
pub definition_room : (p e : ℕ) (w v u t s q : Walk) → HasRoom (2 + p + e) w → HasRoomLeft 1 0 w v → HasRoomLeft p 0 v u → HasRoomLeft e 0 u t
    → HasRoomLeft 0 0 t s → HasRoomLeft 0 0 s q → HasRoom 1 q
definition_room p e w v u t s q r a b c d x = record {
  few = omega (arith, r.few, a.few, b.few, c.few, d.few, x.few);
  globals = omega (arith, r.globals, a.globals, b.globals, c.globals, d.globals, x.globals);
  locals = omega (arith, r.locals, a.locals, b.locals, c.locals, d.locals, x.locals);
}

-- the room that is left behind the definition
pub definition_left : (p e : ℕ) (w v u t s q z : Walk) (r : Result Done Stop) → HasRoomLeft 1 0 w v → HasRoomLeft p 0 v u → HasRoomLeft e 0 u t
    → HasRoomLeft 0 0 t s → HasRoomLeft 0 0 s q → OnOk r (HasRoomLeft 1 0 q z) → OnOk r (HasRoomLeft (2 + p + e) 0 w z)
definition_left p e w v u t s q z (Ok x) a b c d f g = record {
  few = omega (arith, a.few, b.few, c.few, d.few, f.few, g.few);
  globals = omega (arith, a.globals, b.globals, c.globals, d.globals, f.globals, g.globals);
  locals = omega (arith, a.locals, b.locals, c.locals, d.locals, f.locals, g.locals);
}
definition_left p e w v u t s q z (Err x) a b c d f g = tt

-- a function without a body, behind its name
pub declared_walked : (token : ℕ) (f : FunctionType) (name : List ℕ) (k known : Option ℕ) (taken : Bool) (gives : TypeTree) (w v u : Walk) (r : Result Done Stop)
    → k ≡ known → taken ≡ is_clashing_name name k w → gives ≡ f.gives → ◌≡◌ {A = Walked Done} (Fine tt (with_function name f k w)) (Fine tt v)
    → IsWalked (function_checked token taken gives v) r u
    → IsWalked (function_checked token (is_clashing_name name known w) f.gives (with_function name f known w)) r u
declared_walked token f name k known taken gives w v u r same is of named h =
    let behind : v ≡ with_function name f k w = cc in
    let at_walk : IsWalked (function_checked token taken gives (with_function name f k w)) r u =
    subst (λ (x : Walk). IsWalked (function_checked token taken gives x) r u) behind h in
    let at_type : IsWalked (function_checked token taken f.gives (with_function name f k w)) r u =
    subst (λ (g : TypeTree). IsWalked (function_checked token taken g (with_function name f k w)) r u) of at_walk in
    let at_test : IsWalked (function_checked token (is_clashing_name name k w) f.gives (with_function name f k w)) r u =
    subst (λ (b : Bool). IsWalked (function_checked token b f.gives (with_function name f k w)) r u) is at_type in
    subst (λ (i : Option ℕ). IsWalked (function_checked token (is_clashing_name name i w) f.gives (with_function name f i w)) r u) same at_test

-- the room that is left behind a function without a body, which needs room for so many more things
pub declared_left : (n : ℕ) (w v u : Walk) (r : Result Done Stop) → HasRoomLeft 1 0 w v → OnOk r (HasRoomLeft 0 0 v u) → OnOk r (HasRoomLeft (2 + n + 0) 0 w u)
declared_left n w v u (Ok x) a b = record {
  few = omega (arith, a.few, b.few);
  globals = omega (arith, a.globals, b.globals);
  locals = omega (arith, a.locals, b.locals);
}
declared_left n w v u (Err x) a b = tt
