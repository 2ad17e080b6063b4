-- What is noted of a text is what its declarations say: the types of its expressions and variables, and the signatures of its functions (C99 6.7, 6.9).
use Rattle.std.specs.Prelude.{◌≡◌, ◌<◌, ℕ, ◌+◌, true, List, [], ◌∷◌, ◌++◌, length, map, Option, Some, None, option_and_then, option_map, slice_get, is_some}
use Rattle.std.specs.Prelude.{codes}
use Rattle.c_syntax.specs.declared.parts.Param.{Param}
use Rattle.c_syntax.specs.declared.parts.ParamName.{ParamName}
use Rattle.c_syntax.specs.Words.{EntryList, ItemTree, SourceTree}
use Rattle.c_syntax.specs.ItemTree as i
use Rattle.c_types_rules.specs.declared.function.FunctionType.{FunctionType}
use Rattle.c_types_rules.specs.declared.layout.StructType.{StructType}
use Rattle.c_types_rules.specs.Words.{cells_of, TypeTree}
use Rattle.c_types_expressions.specs.declared.walk.Walk.{Walk}
use Rattle.c_types_walk.specs.ItemWalk.{listed_params}
use Rattle.c_meaning.specs.Words.{Signature, computed_type, main_of, signature_of}
use Rattle.defined_functions.specs.Functions.{defined_by, functions_of}
use Rattle.c_types.specs.Answers.{type_at}
use Rattle.c_types.specs.Parts.{Part, Declared, parts_of}
use Rattle.c_types_faults.specs.NotedCalls.{name_number}
use Rattle.c_types_faults.specs.Events.{construct_at, events_of}
use Rattle.c_types_faults.specs.Context.{Context, empty_context, inner_context}
use Rattle.c_types_faults.specs.Functions.{Formal, FunctionGives, Names, PrototypeGives, with_formals}
use Rattle.c_types_faults.specs.Items.{ItemGives}
use Rattle.c_types_facts.specs.Statements.{DeclarationTyped, EntriesTyped, Typed}

abbrev pub typed_type : Typed → TypeTree
typed_type v = v.of

abbrev pub typed_token : Typed → ℕ
typed_token v = v.token

-- a parameter with a name is a variable of its type
abbrev pub typed_param : Option ParamName → TypeTree → List Typed
typed_param None of = []
typed_param (Some n) of = record { token = n.token; of = of } ∷ []

abbrev pub parameter_variables : List Param → List Formal → List Typed
parameter_variables (p ∷ ps) (f ∷ fs) = typed_param p.name f.of ++ parameter_variables ps fs
parameter_variables ps fs = []

-- of a function of this type, with these variables, the parameters first
abbrev pub signature : List StructType → FunctionType → List Typed → Signature
signature structs f own = record {
  params = map (computed_type structs) f.params;
  result = computed_type structs f.gives;
  locals = map (cells_of structs) (map typed_type own);
}

module _ (w : Walk) where
  -- the parameters and the body of the definition with this number
  abbrev pub BodyTyped : ℕ → List ℕ → List Param → FunctionType → List Formal → EntryList → Context → List Typed → Type 0
  BodyTyped number name ps f formals body c own = (next : Context) × (Names name f c next × ((locals : List Typed)
      × (EntriesTyped w (with_formals formals (inner_context next)) body locals × ((own ≡ parameter_variables ps formals ++ locals)
      × (signature_of w (slice_get w.definitions number) ≡ Some (signature w.structs f own))))))

  abbrev pub ItemTyped : ℕ → Context → ItemTree → Context → List Typed → Type 0
  ItemTyped number c (i.Function token b stars name ps (Some body)) after own = (f : FunctionType) × ((formals : List Formal)
      × (PrototypeGives b stars true (listed_params ps) c f formals × (FunctionGives name f formals (Some body) c after
      × BodyTyped number name (listed_params ps) f formals body c own)))
  ItemTyped number c (i.Declaration d) after own = DeclarationTyped w true c d after own
  ItemTyped number c x after own = ItemGives c x after × (own ≡ [])

  -- of which the first definition has this number
  abbrev pub ItemsTyped : ℕ → Context → List ItemTree → Context → List Typed → Type 0
  ItemsTyped number c [] after own = (after ≡ c) × (own ≡ [])
  ItemsTyped number c (x ∷ xs) after own = (next : Context) × ((a : List Typed) × ((b : List Typed) × (ItemTyped number c x next a
      × (ItemsTyped (number + length (defined_by x)) next xs after b × (own ≡ a ++ b)))))

-- how many variables these parts declare at file scope
abbrev pub globals_in : List Part → ℕ
globals_in [] = 0
globals_in (Declared true token name ∷ parts) = 1 + globals_in parts
globals_in (part ∷ parts) = globals_in parts

-- a run begins in the function named `main` (5.1.2.2.1): it has the number of that definition
abbrev pub BeginsInMain : Walk → SourceTree → Type 0
BeginsInMain w t = name_number (codes "main") 0 (functions_of t) ≡ Some (main_of w)

-- Behind `empty_context` the items declare these variables, the types noted are those of the declarations, the structs are those that are defined, the
-- globals are as many as stand at file scope, and a run begins in `main`.
abbrev pub TextTyped : Walk → SourceTree → List Typed → Type 0
TextTyped w t own = (c : Context) × (ItemsTyped w 0 empty_context t.items c own × (w.structs ≡ c.structs)) × (w.globals ≡ globals_in (parts_of t))
    × BeginsInMain w t

-- the type of the variable at the place, if there is one
abbrev pub type_in : List Typed → Option ℕ → Option TypeTree
type_in own place = option_and_then (λ p. option_map typed_type (slice_get own p)) place

-- Two notes agree: on the variables, the structs, the number of globals, the function that a run begins in, the types of expressions, and the signatures
-- of the functions that are defined.
abbrev pub AreAlike : SourceTree → Walk → Walk → List Typed → List Typed → Type 0
AreAlike t w v a b = (a ≡ b) × (w.structs ≡ v.structs) × (w.globals ≡ v.globals) × (main_of w ≡ main_of v)
    × ((token : ℕ) → is_some (construct_at token (events_of t)) ≡ true → type_at w token ≡ type_at v token)
    × ((number : ℕ) → number < length (functions_of t) → signature_of w (slice_get w.definitions number) ≡ signature_of v (slice_get v.definitions number))
