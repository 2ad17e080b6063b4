-- Declarations and definitions of functions (C99 6.7.5.3, 6.9.1): what is declared behind one, and which rule one breaks first.
use Rattle.std.specs.Prelude.{◌≡◌, ◌⊎◌, ℕ, Bool, true, false, ◌||◌, List, [], ◌∷◌, ◌++◌, map, Option, Some, None, pos, int_le}
use Rattle.std.specs.Str.{bytes_eq}
use Rattle.c_syntax.specs.declared.parts.Base.{Base}
use Rattle.c_syntax.specs.declared.parts.Bound.{Bound}
use Rattle.c_syntax.specs.declared.parts.Constant.{Constant}
use Rattle.c_syntax.specs.declared.parts.Param.{Param}
use Rattle.c_syntax.specs.declared.parts.ParamName.{ParamName}
use Rattle.c_syntax.specs.StatementTree.{EntryList}
use Rattle.c_types_rules.specs.declared.fault.FaultKind.{FaultKind}
use Rattle.c_types_rules.specs.declared.fault.FaultKind.TheVariants as fault
use Rattle.c_types_rules.specs.declared.function.FunctionType.{FunctionType}
use Rattle.c_types_rules.specs.Words.{TypeTree, Pointer, is_scalar, is_struct}
use Rattle.c_types_expressions.specs.ExprWalk.{with_stars}
use Rattle.c_types_faults.specs.Known.{Object, Function}
use Rattle.c_types_faults.specs.Least.{IsLeast}
use Rattle.c_types_faults.specs.Context.{Context, HasName, IsReserved, name_declared, declared_in, inner_context, known_identifiers}
use Rattle.c_types_faults.specs.Types.{BaseBreaks, IsBase}
use Rattle.c_types_faults.specs.Statements.{AreRuledEntries, EntriesBreak}

-- parameters

pub record Formal : Type 0 where
  pub name : Option (List ℕ)
  pub of : TypeTree

abbrev pub formal_type : Formal → TypeTree
formal_type f = f.of

-- a parameter that is declared as an array is a pointer (6.7.5.3p7)
abbrev pub adjusted_type : Option Bound → TypeTree → TypeTree
adjusted_type None t = t
adjusted_type (Some bound) t = Pointer t

abbrev pub formal_parameter : Option ParamName → TypeTree → Formal
formal_parameter None t = record { name = None; of = t }
formal_parameter (Some n) t = record { name = Some n.name; of = adjusted_type n.bound t }

abbrev pub IsFormal : List ℕ → List Formal → Type 0
IsFormal name [] = ⊥
IsFormal name (f ∷ fs) = (f.name ≡ Some name) ⊎ IsFormal name fs

-- a length is from 1 on, and may be missing (6.7.5.2p1)
abbrev pub IsPositiveLength : Option Constant → Type 0
IsPositiveLength None = Unit {0}
IsPositiveLength (Some c) = int_le (pos 1) c.value ≡ true

abbrev pub HasLength : Option Bound → Type 0
HasLength None = Unit {0}
HasLength (Some bound) = IsPositiveLength bound.length

-- A parameter needs a name where the function has a body (6.9.1p5). A name is none of the library and no other parameter's (6.7p3). It is a scalar: no
-- incomplete type (6.7.5.3p4), and here no struct.
abbrev pub ParamRule : Bool → List Formal → Option ParamName → TypeTree → FaultKind → Type 0
ParamRule body before None t kind = ((kind ≡ fault.Unknown) × (body ≡ true)) ⊎ ((kind ≡ fault.Object) × (is_scalar t ≡ true → ⊥))
ParamRule body before (Some n) t kind = ((kind ≡ fault.Redeclared) × (IsReserved n.name ⊎ IsFormal n.name before))
    ⊎ ((kind ≡ fault.Object) × (((is_scalar (adjusted_type n.bound t) ≡ true) × HasLength n.bound) → ⊥))

-- one that keeps these rules
abbrev pub IsRuledParam : Bool → List Formal → Option ParamName → TypeTree → Type 0
IsRuledParam body before None t = (body ≡ false) × (is_scalar t ≡ true)
IsRuledParam body before (Some n) t = (IsReserved n.name ⊎ IsFormal n.name before → ⊥) × (is_scalar (adjusted_type n.bound t) ≡ true) × HasLength n.bound

-- behind the parameters before it, in a context, of a function with a body or without one
module _ (c : Context) (body : Bool) where
  abbrev pub ParamGives : List Formal → Param → Formal → Type 0
  ParamGives before p f = (base : TypeTree) × (IsBase (known_identifiers c) p.base base × IsRuledParam body before p.name (with_stars p.stars base)
      × (f ≡ formal_parameter p.name (with_stars p.stars base)))

  abbrev pub ParamBreaks : List Formal → Param → FaultKind → ℕ → Type 0
  ParamBreaks before p kind at = BaseBreaks (known_identifiers c) p.base kind at
      ⊎ ((base : TypeTree) × (IsBase (known_identifiers c) p.base base
      × ((at ≡ p.token) × IsLeast (ParamRule body before p.name (with_stars p.stars base)) kind)))

  abbrev pub ParamsGive : List Formal → List Param → List Formal → Type 0
  ParamsGive before [] all = all ≡ before
  ParamsGive before (p ∷ ps) all = (f : Formal) × (ParamGives before p f × ParamsGive (before ++ f ∷ []) ps all)

  abbrev pub ParamsBreak : List Formal → List Param → FaultKind → ℕ → Type 0
  ParamsBreak before [] kind at = ⊥
  ParamsBreak before (p ∷ ps) kind at = ParamBreaks before p kind at
      ⊎ ((f : Formal) × (ParamGives before p f × ParamsBreak (before ++ f ∷ []) ps kind at))

-- the function

abbrev pub is_listed : List ℕ → List (List ℕ) → Bool
is_listed name [] = false
is_listed name (other ∷ rest) = bytes_eq other name || is_listed name rest

-- the scope declares it with this type already
abbrev pub IsKnownAs : List ℕ → FunctionType → Context → Type 0
IsKnownAs name f c = declared_in name c.scope ≡ Some (Function f)

-- behind the `)` of its parameters (6.2.1p7): it may be declared several times with one type (6.7p3)
abbrev pub Names : List ℕ → FunctionType → Context → Context → Type 0
Names name f c after = (IsKnownAs name f c × (after ≡ c)) ⊎ ((IsKnownAs name f c → ⊥) × (after ≡ name_declared name (Function f) c))

abbrev pub with_formal : Option (List ℕ) → TypeTree → Context → Context
with_formal None t c = c
with_formal (Some name) t c = name_declared name (Object t) c

-- the parameters are the first declarations in the scope of the body (6.2.1p4)
abbrev pub with_formals : List Formal → Context → Context
with_formals [] c = c
with_formals (f ∷ fs) c = with_formals fs (with_formal f.name f.of c)

-- its name is one of the library (7.1.3), or the scope declares it otherwise (6.7p4)
abbrev pub Clashes : List ℕ → FunctionType → Context → Type 0
Clashes name f c = IsReserved name ⊎ (HasName name c.scope × (IsKnownAs name f c → ⊥))

-- it is defined already (6.9p3)
abbrev pub IsDefinedBefore : List ℕ → FunctionType → Context → Type 0
IsDefinedBefore name f c = IsKnownAs name f c × (is_listed name c.defined ≡ true)

-- It may not be declared so here, or its result is a struct, which here no function gives.
abbrev pub FunctionRule : Type 0 → FunctionType → FaultKind → Type 0
FunctionRule MayNot f kind = ((kind ≡ fault.Redeclared) × MayNot) ⊎ ((kind ≡ fault.Object) × (is_struct f.gives ≡ true))

-- one that keeps these rules
abbrev pub FunctionFits : List ℕ → FunctionType → Context → Type 0
FunctionFits name f c = (IsReserved name → ⊥) × (HasName name c.scope → IsKnownAs name f c) × (is_struct f.gives ≡ false)

-- A function keeps the rules, and this is declared behind it.
abbrev pub FunctionGives : List ℕ → FunctionType → List Formal → Option EntryList → Context → Context → Type 0
FunctionGives name f formals None c after = FunctionFits name f c × Names name f c after
FunctionGives name f formals (Some body) c after = FunctionFits name f c × (IsKnownAs name f c → is_listed name c.defined ≡ false)
    × ((next : Context) × (Names name f c next × AreRuledEntries f.gives (with_formals formals (inner_context next)) false body
    × (after ≡ record next { defined = name ∷ next.defined })))

-- A part of the body breaks a rule; or, where none does, the function, at its first token.
abbrev pub FunctionBreaks : ℕ → List ℕ → FunctionType → List Formal → Option EntryList → Context → FaultKind → ℕ → Type 0
FunctionBreaks token name f formals None c kind at = (at ≡ token) × IsLeast (FunctionRule (Clashes name f c) f) kind
FunctionBreaks token name f formals (Some body) c kind at = (next : Context) × (Names name f c next
    × (EntriesBreak f.gives (with_formals formals (inner_context next)) false body kind at
    ⊎ (AreRuledEntries f.gives (with_formals formals (inner_context next)) false body
    × ((at ≡ token) × IsLeast (FunctionRule (Clashes name f c ⊎ IsDefinedBefore name f c) f) kind))))

-- the type of a function with this result and these parameters
abbrev pub prototype : TypeTree → List Formal → FunctionType
prototype gives formals = record { gives = gives; params = map formal_type formals }

-- from its base on
abbrev pub PrototypeGives : Base → ℕ → Bool → List Param → Context → FunctionType → List Formal → Type 0
PrototypeGives b stars body ps c f formals = (base : TypeTree) × (IsBase (known_identifiers c) b base × ParamsGive c body [] ps formals
    × (f ≡ prototype (with_stars stars base) formals))
