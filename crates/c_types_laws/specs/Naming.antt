-- Which variable a name means (C99 6.2.1p4): of those with this name whose scope holds the name's token, the one that is declared last.
use Rattle.std.specs.Prelude.{◌≡◌, ℕ, ◌≤◌, true, List, Option, Some, None, MatchOption, slice_get}
use Rattle.c_types_expressions.specs.declared.walk.VariableEntry.{VariableEntry}
use Rattle.c_types_expressions.specs.declared.walk.Walk.{Walk}
use Rattle.c_types.specs.Answers.{place_at, scope_holds}

abbrev pub IsNamed : List ℕ → Option VariableEntry → Type 0
IsNamed name None = ⊥
IsNamed name (Some v) = v.name ≡ name

-- the variable at the place, among all variables in the order of their declarations, has the name
abbrev pub VariableHasName : Walk → List ℕ → ℕ → Type 0
VariableHasName w name place = IsNamed name (slice_get w.variables place)

-- The variable at the place is the innermost one of the name whose scope holds the token: every other one was declared before.
pub record IsInnermost (w : Walk) (token : ℕ) (name : List ℕ) (place : ℕ) : Type 0 where
  pub named : VariableHasName w name place
  pub holds : scope_holds w place token ≡ true
  pub inner : (other : ℕ) → VariableHasName w name other → scope_holds w other token ≡ true → other ≤ place

-- the name at the token means a variable
abbrev pub NamesVariable : Walk → ℕ → List ℕ → Type 0
NamesVariable w token name = MatchOption (place_at w token) ⊥ (λ place. IsInnermost w token name place)

-- no variable of the name has a scope that holds the token
abbrev pub NamesNone : Walk → ℕ → List ℕ → Type 0
NamesNone w token name = (place : ℕ) → VariableHasName w name place → scope_holds w place token ≡ true → ⊥

abbrev pub BeginsAt : ℕ → List ℕ → Option VariableEntry → Type 0
BeginsAt token name None = ⊥
BeginsAt token name (Some v) = (v.name ≡ name) × (v.from ≡ token)

-- the name at the token declares a variable, whose scope begins behind it (C99 6.2.1p7)
abbrev pub DeclaresVariable : Walk → ℕ → List ℕ → Type 0
DeclaresVariable w token name = MatchOption (place_at w token) ⊥ (λ place. BeginsAt token name (slice_get w.variables place))
