-- The walk: what is known at a point, and how one part comes after another.
use Rattle.std.specs.Prelude.{◌≡◌, ℕ, ◌+◌, max, nat_lt, Bool, if◌then◌else◌, List, [], ◌∷◌, ◌++◌, length, Option, Some, None, Result, Ok, Err, slice_set}
use Rattle.c_types_rules.specs.declared.fault.FaultKind.{FaultKind}
use Rattle.c_types_rules.specs.TypeTree.{TypeTree}
use Rattle.c_types_expressions.specs.declared.names.ScopeEntry.{ScopeEntry}
use Rattle.c_types_expressions.specs.declared.names.ScopeEntry.TheVariants.{Opens, Declares}
use Rattle.c_types_expressions.specs.declared.names.Meaning.{Meaning}
use Rattle.c_types_expressions.specs.declared.names.Meaning.TheVariants as meaning
use Rattle.c_types_expressions.specs.declared.walk.Variable.{Variable}
use Rattle.c_types_expressions.specs.declared.walk.Variable.TheVariants as variable
use Rattle.c_types_expressions.specs.declared.walk.Walk.{Walk}
use Rattle.c_types_expressions.specs.declared.walk.Stop.{Stop}
use Rattle.c_types_expressions.specs.declared.walk.Stop.TheVariants as stop
use Rattle.c_types_expressions.specs.Names.{names_after_scope}

-- A part of the walk gives a value and what is known after it, or the fault that it met: its kind and its token.
pub data Walked (A : Type 0) : Type 0 where
  Fine : (value : A) (known : Walk) → Walked A
  Faulty : (kind : FaultKind) (index : ℕ) → Walked A

infixl 10 ◌>>=◌
abbrev pub ◌>>=◌ : {A B : Type 0} → Walked A → (A → Walk → Walked B) → Walked B
(Fine value known) >>= next = next value known
(Faulty kind index) >>= next = Faulty kind index

abbrev pub Done : Type 0
Done = Unit {0}

-- nothing more, or a fault at the token
abbrev pub fault_if_wrong : Bool → FaultKind → ℕ → Walk → Walked Done
fault_if_wrong wrong kind token w = if wrong then Faulty kind token else Fine tt w

-- The code goes on as the walk does, or it meets the same fault. For want of memory nothing is said.
abbrev pub IsWalked : {A : Type 0} → Walked A → Result A Stop → Walk → Type 0
IsWalked walked (Ok value) known = walked ≡ Fine value known
IsWalked walked (Err (stop.Fault kind index)) known = walked ≡ Faulty kind index
IsWalked walked (Err stop.Memory) known = Unit {0}

-- the list with another item at the place, if it has the place
abbrev pub item_replaced : {A : Type 0} → List A → ℕ → A → List A
item_replaced xs place x = if nat_lt place (length xs) then slice_set xs place x else xs

-- the expression at the token has this type
abbrev pub with_type : ℕ → TypeTree → Walk → Walk
with_type token t w = record w { types = item_replaced w.types token (Some t); latest = max w.latest token }

abbrev pub next_variable : Bool → Walk → Variable
next_variable global w = if global then variable.Global w.globals else variable.Local w.locals

-- one more global, or one more local
abbrev pub counted_in : Bool → Walk → Walk
counted_in global w = if global then record w { globals = w.globals + 1 } else record w { locals = w.locals + 1 }

-- One more variable, whose name stands at the token: it has the next number of the globals or of the function's locals.
abbrev pub with_variable : Bool → ℕ → List ℕ → TypeTree → Walk → Walk
with_variable global token name t w = record (counted_in global w) {
  names = Declares name (meaning.Variable (length w.variables)) ∷ w.names;
  variables = w.variables ++ record { name = name; variable = next_variable global w; from = token } ∷ [];
  declared_types = w.declared_types ++ t ∷ [];
  ends = w.ends ++ None ∷ [];
  variables_at = item_replaced w.variables_at token (Some (length w.variables));
}

-- a scope begins
abbrev pub scope_opened : Walk → Walk
scope_opened w = record w { names = Opens ∷ w.names }

abbrev pub with_end : ℕ → Meaning → List (Option ℕ) → List (Option ℕ)
with_end token (meaning.Variable index) ends = item_replaced ends index (Some token)
with_end token m ends = ends

-- the scopes of the variables that the latest scope declares end with the token
abbrev pub ended_scopes : ℕ → List ScopeEntry → List (Option ℕ) → List (Option ℕ)
ended_scopes token [] ends = ends
ended_scopes token (Opens ∷ rest) ends = ends
ended_scopes token (Declares name m ∷ rest) ends = ended_scopes token rest (with_end token m ends)

-- the latest scope ends, with the latest token of an expression in it
abbrev pub scope_closed : Done → Walk → Walked Done
scope_closed _ w = Fine tt (record w { names = names_after_scope w.names; ends = ended_scopes w.latest w.names w.ends })
