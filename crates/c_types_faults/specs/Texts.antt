-- Which texts keep the rules, and which rule one breaks first (C99 5.1.2.2.1, 6.9): one of its items does, by the declarations before it; or, behind the last
-- one, it has no `main`; or it has, and calls a function that it doesn't define.
use Rattle.std.specs.Prelude.{◌≡◌, ◌⊎◌, ℕ, ◌<◌, Bool, true, false, List, [], ◌∷◌, length, codes}
use Rattle.c_syntax.specs.Words.{SourceTree, IsShaped}
use Rattle.c_types_rules.specs.declared.fault.FaultKind.{FaultKind}
use Rattle.c_types_rules.specs.declared.fault.FaultKind.TheVariants as fault
use Rattle.c_types_rules.specs.declared.function.FunctionType.{FunctionType}
use Rattle.c_types_rules.specs.TypeTree.{Int}
use Rattle.defined_functions.specs.Functions.{functions_of}
use Rattle.c_types_faults.specs.Events.{Event, Calls, Value, events_of}
use Rattle.c_types_faults.specs.Known.{Entity, Function}
use Rattle.c_types_faults.specs.Context.{Context, Declared, empty_context}
use Rattle.c_types_faults.specs.Functions.{IsKnownAs, is_listed}
use Rattle.c_types_faults.specs.Items.{ItemsBreak, ItemsGive}

-- a call of the name has its own token there
abbrev pub HasCall : ℕ → List ℕ → List Event → Type 0
HasCall token name [] = ⊥
HasCall token name (Value own (Calls other) ∷ rest) = ((own ≡ token) × (other ≡ name)) ⊎ HasCall token name rest
HasCall token name (event ∷ rest) = HasCall token name rest

abbrev pub IsFunctionEntity : Entity → Type 0
IsFunctionEntity (Function f) = Unit {0}
IsFunctionEntity x = ⊥

-- the name of a function is among these
abbrev pub HasFunction : List ℕ → List Declared → Type 0
HasFunction name [] = ⊥
HasFunction name (d ∷ ds) = ((d.name ≡ name) × IsFunctionEntity d.entity) ⊎ HasFunction name ds

-- `int main(void)`
abbrev pub main_type : FunctionType
main_type = record { gives = Int; params = [] }

-- an item of the text is a definition of the name
abbrev pub is_defined_in : SourceTree → List ℕ → Bool
is_defined_in t name = is_listed name (functions_of t)

-- it is declared so, and defined (5.1.2.2.1)
abbrev pub DefinesMain : SourceTree → Context → Type 0
DefinesMain t c = IsKnownAs (codes "main") main_type c × (is_defined_in t (codes "main") ≡ true)

-- each function of the text that is called is defined by an item (6.9p5)
abbrev pub CallsDefined : SourceTree → Context → Type 0
CallsDefined t c = (token : ℕ) (name : List ℕ) → HasCall token name (events_of t) → HasFunction name c.scope → is_defined_in t name ≡ true

-- Each item keeps the rules by the declarations before it, of which there are none before the first one; `main` is defined, and so is what is called.
abbrev pub TextKeepsRules : SourceTree → Type 0
TextKeepsRules t = (c : Context) × (ItemsGive empty_context t.items c × DefinesMain t c × CallsDefined t c)

-- a function of the text that no item defines is called there (6.9p5)
abbrev pub CallsUndefined : SourceTree → Context → ℕ → Type 0
CallsUndefined t c at = (name : List ℕ) × (HasCall at name (events_of t) × HasFunction name c.scope × (is_defined_in t name ≡ false))

-- The first such call: it is said of trees of the grammar, where no two constructs have one own token.
abbrev pub FirstUndefined : SourceTree → Context → ℕ → Type 0
FirstUndefined t c at = CallsUndefined t c at × (IsShaped t → (earlier : ℕ) → earlier < at → CallsUndefined t c earlier → ⊥)

-- behind the last item
abbrev pub EndBreaks : SourceTree → Context → FaultKind → ℕ → Type 0
EndBreaks t c kind at = ((kind ≡ fault.NoMain) × (at ≡ length t.lines) × (DefinesMain t c → ⊥))
    ⊎ (DefinesMain t c × ((kind ≡ fault.NoDefinition) × FirstUndefined t c at))

-- Before the first item the context is `empty_context`.
abbrev pub TextBreaks : SourceTree → FaultKind → ℕ → Type 0
TextBreaks t kind at = ItemsBreak empty_context t.items kind at ⊎ ((c : Context) × (ItemsGive empty_context t.items c × EndBreaks t c kind at))
