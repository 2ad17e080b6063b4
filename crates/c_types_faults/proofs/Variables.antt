-- A variable that the walk takes is declared behind it, and one at which it stops breaks a rule.
use Rattle.std.proofs.Common.{◌⊎◌, inl, inr, ◌≡◌, ℕ, ◌+◌, ◌≤◌, ◌<◌, arith, refl, ap, subst, sym, ◌∙◌, List, [], ◌∷◌, Some, None, Bool, true, false, length}
use Rattle.std.proofs.lemmas.Nat.{mul-le}
use Rattle.std.specs.Prelude.{Option, nat_lt, ◌*◌, nat_le, is_some, ◌&&◌, ◌==◌, if◌then◌else◌, IsSome}
use Rattle.std.proofs.lemmas.Bool.{and_from, and_parts, eq-eqb, eqb-true, false≢true, or_left, or_right}
use Rattle.base_lists.proofs.Numbers.{is_less, is_most, most_is}
use Rattle.c_syntax.specs.StatementTree.{InitialTree}
use Rattle.c_types_rules.specs.declared.fault.FaultKind.{FaultKind}
use Rattle.c_types_rules.specs.declared.fault.FaultKind.TheVariants as fault
use Rattle.c_types_rules.specs.declared.layout.StructType.{StructType}
use Rattle.c_types_rules.specs.declared.library.Library.{Library}
use Rattle.c_types_rules.specs.Words.{library_named, cells_of, is_complete, is_object, most_cells, TypeTree, Void, Char, Int, Unsigned, Pointer, Array, Struct}
use Rattle.c_types_expressions.specs.declared.names.Meaning.TheVariants as meaning
use Rattle.c_types_expressions.specs.declared.names.ScopeEntry.{ScopeEntry}
use Rattle.c_types_expressions.specs.declared.names.ScopeEntry.TheVariants.{Opens, Declares}
use Rattle.c_types_expressions.specs.declared.walk.Walk.{Walk}
use Rattle.c_types_expressions.specs.Words.{names_after_scope, is_here, is_name_taken, is_reserved, Fine, Faulty, Done}
use Rattle.c_types_walk.specs.Declarators.{is_open}
use Rattle.c_types_walk.specs.StatementWalk.{counted_cells, object_type_checked}
use Rattle.c_types_faults.specs.Known.{Object}
use Rattle.c_types_faults.specs.Context.{Context, IsTaken, global_cells_added, name_declared, known_identifiers, IsReserved}
use Rattle.c_types_faults.specs.Declarations.{ElementBreaks, GlobalsHaveRoom, IsObject, IsOpen}
use Rattle.c_types_faults.proofs.Knowing.{Knows, completed, grown, here_named, with_object, named_here}
use Rattle.c_types_faults.proofs.Telling.{Shown, Tells, shown, weaker}

-- variables that are declared one after another, in one scope

abbrev pub pushed : List (List ℕ × ℕ) → List ScopeEntry → List ScopeEntry
pushed [] names = names
pushed (p ∷ ps) names = Declares p.0 (meaning.Variable p.1) ∷ pushed ps names

-- no more than that has changed, apart from the types of variables and the cells of globals
pub record Moves (ps : List (List ℕ × ℕ)) (s r : Shown) : Type 0 where
  pub names : r.names ≡ pushed ps s.names
  pub tags : r.tags ≡ s.tags
  pub structs : r.structs ≡ s.structs
  pub functions : r.functions ≡ s.functions
  pub defined_as : r.defined_as ≡ s.defined_as

pub still : (s r : Shown) → r ≡ s → Moves [] s r
still s r e = subst (Moves [] s) (sym e) (record { names = refl; tags = refl; structs = refl; functions = refl; defined_as = refl })

abbrev pub joined : List (List ℕ × ℕ) → List (List ℕ × ℕ) → List (List ℕ × ℕ)
joined [] qs = qs
joined (p ∷ ps) qs = p ∷ joined ps qs

joined_pushed : (ps qs : List (List ℕ × ℕ)) (names : List ScopeEntry) → pushed (joined ps qs) names ≡ pushed ps (pushed qs names)
joined_pushed [] qs names = refl
joined_pushed (p ∷ ps) qs names = ap (λ ns. Declares p.0 (meaning.Variable p.1) ∷ ns) (joined_pushed ps qs names)

pub moves_then : {ps qs : List (List ℕ × ℕ)} {s r q : Shown} → Moves ps s r → Moves qs r q → Moves (joined qs ps) s q
moves_then {ps = ps} {qs = qs} {s = s} {r = r} {q = q} a b = record {
  names = b.names ∙ ap (pushed qs) a.names ∙ sym (joined_pushed qs ps s.names);
  tags = b.tags ∙ a.tags;
  structs = b.structs ∙ a.structs;
  functions = b.functions ∙ a.functions;
  defined_as = b.defined_as ∙ a.defined_as;
}

pub closed_pushed : (ps : List (List ℕ × ℕ)) (names : List ScopeEntry) → names_after_scope (pushed ps (Opens ∷ names)) ≡ names
closed_pushed [] names = refl
closed_pushed (p ∷ ps) names = closed_pushed ps names

-- the size of an object

pub object_is : (ss : List StructType) (t : TypeTree) → is_object ss t ≡ true → IsObject ss t
object_is ss t h =
    let k = and_parts (is_complete ss t) (nat_le (cells_of ss t) most_cells) h in (k.0, is_most (cells_of ss t) most_cells k.1)

pub object_back : (ss : List StructType) (t : TypeTree) → IsObject ss t → is_object ss t ≡ true
object_back ss t h = and_from (is_complete ss t) (nat_le (cells_of ss t) most_cells) h.0 (most_is (cells_of ss t) most_cells h.1)

pub no_object : (ss : List StructType) (t : TypeTree) → is_object ss t ≡ false → IsObject ss t → ⊥
no_object ss t h o = false≢true (sym h ∙ object_back ss t o)

room_tells : (b : Bool) (token n : ℕ) (c : Context) (t : TypeTree) (w : Walk) → Knows c (shown w) → cells_of c.structs t ≡ n
    → nat_le (w.global_cells + n) most_cells ≡ b
    → Tells (if b then Fine tt (record w { global_cells = w.global_cells + n }) else Faulty fault.Object token)
    (λ (d : Done) v. GlobalsHaveRoom true c t × (shown v ≡ grown true n (shown w))) (λ j at. (at ≡ token) × (j ≡ fault.Object) × (GlobalsHaveRoom true c t → ⊥))
room_tells true token n c t w k e h = record {
  by = (
    subst (λ m. m ≤ most_cells) (sym (ap (λ x. x + cells_of c.structs t) k.cells
        ∙ ap (λ x. w.global_cells + x) e)) (is_most (w.global_cells + n) most_cells h),
    refl,
  );
}
room_tells false token n c t w k e h = record {
  by = (
    refl,
    refl,
    λ r. false≢true (sym h ∙ most_is (w.global_cells + n) most_cells
        (subst (λ m. m ≤ most_cells) (ap (λ x. x + cells_of c.structs t) k.cells ∙ ap (λ x. w.global_cells + x) e) r)),
  );
}

counted_tells : (global : Bool) (token n : ℕ) (c : Context) (t : TypeTree) (w : Walk) → Knows c (shown w) → cells_of c.structs t ≡ n
    → Tells (counted_cells global token n w) (λ (d : Done) v. GlobalsHaveRoom global c t × (shown v ≡ grown global n (shown w)))
    (λ j at. (at ≡ token) × (j ≡ fault.Object) × (GlobalsHaveRoom global c t → ⊥))
counted_tells true token n c t w k e = room_tells (nat_le (w.global_cells + n) most_cells) token n c t w k e refl
counted_tells false token n c t w k e = record { by = (tt, refl) }

abbrev pub BadSize : Bool → Context → TypeTree → ℕ → FaultKind → ℕ → Type 0
BadSize global c t token j at = (at ≡ token) × (j ≡ fault.Object) × ((IsObject c.structs t → ⊥) ⊎ (GlobalsHaveRoom global c t → ⊥))

size_by : (b : Bool) (global : Bool) (token : ℕ) (t : TypeTree) (c : Context) (w : Walk) → Knows c (shown w) → is_object w.structs t ≡ b
    → Tells (if b then counted_cells global token (cells_of w.structs t) w else Faulty fault.Object token)
    (λ (d : Done) v. IsObject c.structs t × (shown v ≡ grown global (cells_of c.structs t) (shown w)) × GlobalsHaveRoom global c t) (BadSize global c t token)
size_by true global token t c w k h = weaker (counted_tells global token (cells_of w.structs t) c t w k (ap (λ ss. cells_of ss t) k.structs))
    (λ j at f. (f.0, f.1, inr f.2))
    (λ d v p. (
      object_is c.structs t (ap (λ ss. is_object ss t) k.structs ∙ h),
      p.1 ∙ ap (λ ss. grown global (cells_of ss t) (shown w)) (sym k.structs),
      p.0,
    ))
size_by false global token t c w k h = record { by = (refl, refl, inl (no_object c.structs t (ap (λ ss. is_object ss t) k.structs ∙ h))) }

pub sized_tells : (global : Bool) (token : ℕ) (t : TypeTree) (c : Context) (w : Walk) → Knows c (shown w)
    → Tells (object_type_checked global token t w)
    (λ (d : Done) v. IsObject c.structs t × (shown v ≡ grown global (cells_of c.structs t) (shown w)) × GlobalsHaveRoom global c t)
    (BadSize global c t token)
sized_tells global token t c w k = size_by (is_object w.structs t) global token t c w k refl

-- the elements of an array that is an object

pub element_object : (ss : List StructType) (element : TypeTree) (size : ℕ) → IsObject ss (Array element size) → IsObject ss element
element_object ss element size h =
    let p = and_parts (nat_lt 0 size) (is_complete ss element) h.0 in
    let n : 0 < size = is_less 0 size p.0 in
    let m : 1 * cells_of ss element ≤ size * cells_of ss element = mul-le 1 (cells_of ss element) size (cells_of ss element) (omega (arith, n)) (omega arith) in
    (p.1, omega (arith, m, h.1))

pub object_elements : (ss : List StructType) (t : TypeTree) → IsObject ss t → ElementBreaks ss t → ⊥
object_elements ss (Array element size) h b = b (element_object ss element size h)
object_elements ss t h b = b

-- an array whose length isn't known yet

pub opens_by : (ss : List StructType) (t : TypeTree) (initial : Option InitialTree) → (is_some initial && is_open ss t) ≡ true → IsOpen t initial
opens_by ss (Array element size) (Some i) h = eqb-true size 0 (and_parts (size == 0) (is_object ss element) h).0
opens_by ss Void (Some i) h = absurd (false≢true h)
opens_by ss Char (Some i) h = absurd (false≢true h)
opens_by ss Int (Some i) h = absurd (false≢true h)
opens_by ss Unsigned (Some i) h = absurd (false≢true h)
opens_by ss (Pointer to) (Some i) h = absurd (false≢true h)
opens_by ss (Struct tag) (Some i) h = absurd (false≢true h)
opens_by ss t None h = absurd (false≢true h)

pub opens_elements : (ss : List StructType) (t : TypeTree) (initial : Option InitialTree) → (is_some initial && is_open ss t) ≡ true → ElementBreaks ss t → ⊥
opens_elements ss (Array element size) (Some i) h b = b (object_is ss element (and_parts (size == 0) (is_object ss element) h).1)
opens_elements ss (Array element size) None h b = false≢true h
opens_elements ss t initial h b = b

element_by : (ss : List StructType) (element : TypeTree) (size : ℕ) (i : InitialTree) (b : Bool) → (size == 0) ≡ b → (b && is_object ss element) ≡ false
    → (IsOpen (Array element size) (Some i) → ⊥) ⊎ (IsOpen (Array element size) (Some i) × ElementBreaks ss (Array element size))
element_by ss element size i true e h = inr (eqb-true size 0 e, no_object ss element h)
element_by ss element size i false e h = inl (λ z. false≢true (sym e ∙ eq-eqb size 0 z))

pub closes_by : (ss : List StructType) (t : TypeTree) (initial : Option InitialTree) → (is_some initial && is_open ss t) ≡ false
    → (IsOpen t initial → ⊥) ⊎ (IsOpen t initial × ElementBreaks ss t)
closes_by ss (Array element size) (Some i) h = element_by ss element size i (size == 0) refl h
closes_by ss (Array element size) None h = inl (λ o. o)
closes_by ss Void initial h = inl (λ o. o)
closes_by ss Char initial h = inl (λ o. o)
closes_by ss Int initial h = inl (λ o. o)
closes_by ss Unsigned initial h = inl (λ o. o)
closes_by ss (Pointer to) initial h = inl (λ o. o)
closes_by ss (Struct tag) initial h = inl (λ o. o)

-- taken names

pub reserved_by : (o : Option Library) → is_some o ≡ true → IsSome o
reserved_by None h = absurd (false≢true h)
reserved_by (Some f) h = cc

pub taken_by : (name : List ℕ) (c : Context) (s : Shown) → Knows c s → ((is_reserved name ≡ true) ⊎ (is_here name s.names ≡ true)) → IsTaken name c
taken_by name c s k (inl h) = inl (reserved_by (library_named name) h)
taken_by name c s k (inr h) = inr (here_named s.types s.functions s.count (length s.functions) s.names c.scope c.outer k.names name h)

reserved_back : (o : Option Library) → IsSome o → is_some o ≡ true
reserved_back None h = cc
reserved_back (Some f) h = refl

pub reserved_true : (name : List ℕ) → IsReserved name → is_reserved name ≡ true
reserved_true name h = reserved_back (library_named name) h

-- a name that isn't taken
pub not_taken : (name : List ℕ) (c : Context) (s : Shown) → Knows c s → is_name_taken name s.names ≡ false → IsTaken name c → ⊥
not_taken name c s k h (inl r) = false≢true (sym h ∙ or_left (is_reserved name) (is_here name s.names) (reserved_true name r))
not_taken name c s k h (inr r) = false≢true (sym h ∙ or_right (is_reserved name) (is_here name s.names)
    (named_here s.types s.functions s.count (length s.functions) s.names c.scope c.outer k.names name r))

pub known_counted : (global : Bool) (n : ℕ) (name : List ℕ) (t : TypeTree) (c : Context)
    → known_identifiers (name_declared name (Object t) (global_cells_added global n c)) ≡ known_identifiers (name_declared name (Object t) c)
known_counted true n name t c = refl
known_counted false n name t c = refl

pub declare_counted : (global : Bool) (n : ℕ) (name : List ℕ) (t : TypeTree) (c : Context)
    → name_declared name (Object t) (global_cells_added global n c) ≡ global_cells_added global n (name_declared name (Object t) c)
declare_counted true n name t c = refl
declare_counted false n name t c = refl

-- behind the size, the type completed
pub completed_grown : (global : Bool) (n i : ℕ) (u : TypeTree) (s : Shown) → completed i u (grown global n s) ≡ grown global n (completed i u s)
completed_grown true n i u s = refl
completed_grown false n i u s = refl

pub grown_moves : (global : Bool) (n : ℕ) (s : Shown) → Moves [] s (grown global n s)
grown_moves true n s = record { names = refl; tags = refl; structs = refl; functions = refl; defined_as = refl }
grown_moves false n s = record { names = refl; tags = refl; structs = refl; functions = refl; defined_as = refl }

pub object_moves : (name : List ℕ) (t : TypeTree) (s : Shown) → Moves ((name, s.count) ∷ []) s (with_object name t s)
object_moves name t s = record { names = refl; tags = refl; structs = refl; functions = refl; defined_as = refl }

pub completed_moves : (i : ℕ) (u : TypeTree) (s : Shown) → Moves [] s (completed i u s)
completed_moves i u s = record { names = refl; tags = refl; structs = refl; functions = refl; defined_as = refl }
