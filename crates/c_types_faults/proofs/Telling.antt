-- What a part of the walk tells: where it goes on, something of what it gives and of what is known then, and where it stops, something of the fault.
use Rattle.std.proofs.Common.{◌≡◌, ℕ, refl, ap, subst, sym, ◌∙◌, List, Ok, Err, length}
use Rattle.std.specs.Prelude.{Option}
use Rattle.c_types_rules.specs.declared.fault.FaultKind.{FaultKind}
use Rattle.c_types_rules.specs.declared.layout.StructType.{StructType}
use Rattle.c_types_rules.specs.declared.operand.Operand.{Operand}
use Rattle.c_types_rules.specs.Words.{OperandOrFault, TypeTree}
use Rattle.c_types_expressions.specs.declared.names.ScopeEntry.{ScopeEntry}
use Rattle.c_types_expressions.specs.declared.walk.FunctionEntry.{FunctionEntry}
use Rattle.c_types_expressions.specs.declared.walk.Walk.{Walk}
use Rattle.c_types_expressions.specs.Words.{operand_noted, Walked, Fine, Faulty, ◌>>=◌, with_type}
use Rattle.c_types_faults.specs.Known.{Known}
use Rattle.c_types_faults.specs.Agrees.{AgreesOn}

abbrev pub TellsIn : {A : Type 0} → (A → Walk → Type 0) → (FaultKind → ℕ → Type 0) → Walked A → Type 0
TellsIn Q B (Fine a v) = Q a v
TellsIn Q B (Faulty kind at) = B kind at

pub record Tells {A : Type 0} (m : Walked A) (Q : A → Walk → Type 0) (B : FaultKind → ℕ → Type 0) : Type 0 where
  pub by : TellsIn Q B m

pub told_fault : {A : Type 0} {m : Walked A} {Q : A → Walk → Type 0} {B : FaultKind → ℕ → Type 0} {kind : FaultKind} {at : ℕ} → Tells m Q B → m ≡ Faulty kind at
    → B kind at
told_fault {Q = Q} {B = B} h e = subst (TellsIn Q B) e h.by

pub told_fine : {A : Type 0} {m : Walked A} {Q : A → Walk → Type 0} {B : FaultKind → ℕ → Type 0} {a : A} {v : Walk} → Tells m Q B → m ≡ Fine a v → Q a v
told_fine {Q = Q} {B = B} h e = subst (TellsIn Q B) e h.by

then_in : {A D : Type 0} (P : A → Walk → Type 0) (Q : D → Walk → Type 0) (B C : FaultKind → ℕ → Type 0) (m : Walked A) (k : A → Walk → Walked D)
    → TellsIn P C m → ((kind : FaultKind) (at : ℕ) → C kind at → B kind at) → ((a : A) (v : Walk) → P a v → Tells (k a v) Q B) → TellsIn Q B (m >>= k)
then_in P Q B C (Fine a v) k h f g = (g a v h).by
then_in P Q B C (Faulty kind at) k h f g = f kind at h

-- one part, and then another
pub and_then : {A D : Type 0} {P : A → Walk → Type 0} {Q : D → Walk → Type 0} {B C : FaultKind → ℕ → Type 0} {m : Walked A} {k : A → Walk → Walked D}
    → Tells m P C → ((kind : FaultKind) (at : ℕ) → C kind at → B kind at) → ((a : A) (v : Walk) → P a v → Tells (k a v) Q B) → Tells (m >>= k) Q B
and_then {P = P} {Q = Q} {B = B} {C = C} {m = m} {k = k} h f g = record { by = then_in P Q B C m k h.by f g }

weaker_in : {A : Type 0} (P Q : A → Walk → Type 0) (B C : FaultKind → ℕ → Type 0) (m : Walked A) → TellsIn P C m
    → ((kind : FaultKind) (at : ℕ) → C kind at → B kind at) → ((a : A) (v : Walk) → P a v → Q a v) → TellsIn Q B m
weaker_in P Q B C (Fine a v) h f g = g a v h
weaker_in P Q B C (Faulty kind at) h f g = f kind at h

pub weaker : {A : Type 0} {P Q : A → Walk → Type 0} {B C : FaultKind → ℕ → Type 0} {m : Walked A} → Tells m P C
    → ((kind : FaultKind) (at : ℕ) → C kind at → B kind at) → ((a : A) (v : Walk) → P a v → Q a v) → Tells m Q B
weaker {P = P} {Q = Q} {B = B} {C = C} {m = m} h f g = record { by = weaker_in P Q B C m h.by f g }

looked_in : (Q : Operand → Walk → Type 0) (B : FaultKind → ℕ → Type 0) (token : ℕ) (r : OperandOrFault) (w : Walk)
    → ((x : Operand) → r ≡ Ok x → Q x (with_type token x.ctype w)) → ((k : FaultKind) → r ≡ Err k → B k token) → TellsIn Q B (operand_noted token r w)
looked_in Q B token (Ok x) w f g = f x refl
looked_in Q B token (Err k) w f g = g k refl

-- the last look at a construct
pub looks : {Q : Operand → Walk → Type 0} {B : FaultKind → ℕ → Type 0} (token : ℕ) (r : OperandOrFault) (w : Walk)
    → ((x : Operand) → r ≡ Ok x → Q x (with_type token x.ctype w)) → ((k : FaultKind) → r ≡ Err k → B k token) → Tells (operand_noted token r w) Q B
looks {Q = Q} {B = B} token r w f g = record { by = looked_in Q B token r w f g }

-- what is known, apart from what is noted of expressions
pub record Shown : Type 0 where
  pub names : List ScopeEntry
  pub tags : List ScopeEntry
  pub structs : List StructType
  pub count : ℕ
  pub types : List TypeTree
  pub functions : List FunctionEntry
  pub defined_as : List (Option ℕ)
  pub global_cells : ℕ

abbrev pub shown : Walk → Shown
shown w = record {
  names = w.names;
  tags = w.tags;
  structs = w.structs;
  count = length w.variables;
  types = w.declared_types;
  functions = w.functions;
  defined_as = w.defined_as;
  global_cells = w.global_cells;
}

abbrev pub AgreesAt : Known → Shown → Type 0
AgreesAt k s = AgreesOn k s.names s.tags s.types s.functions s.structs

-- identifiers denote what is known of them
pub record Agreed (k : Known) (s : Shown) : Type 0 where
  pub by : AgreesAt k s

pub agrees_on : {k : Known} {s r : Shown} → Agreed k s → r ≡ s → Agreed k r
agrees_on {k = k} g e = subst (Agreed k) (sym e) g

-- the rule of the structs that are complete there
pub known_rule : {k : Known} {s : Shown} (rule : List StructType → OperandOrFault) (r : OperandOrFault) → Agreed k s → rule s.structs ≡ r → rule k.structs ≡ r
known_rule rule r g h = ap rule g.by.complete ∙ h
