-- What the walk through an expression comes to, and its parts: one operand, arguments, and operators before an operand.
use Rattle.std.proofs.Common.{◌≡◌, ℕ, ◌≤◌, ◌<◌, refl, ap, subst, sym, ◌∙◌, arith, List, [], ◌∷◌, ◌++◌, Some, None, ◌+◌, Ok, Err, Bool, true, false, length}
use Rattle.std.specs.Prelude.{Option, is_some, map, IsTrue, ◌&&◌, if◌then◌else◌}
use Rattle.std.specs.List.{AllByRecursion}
use Rattle.std.specs.Option.{option_map, option_and_then}
use Rattle.std.proofs.lemmas.Bool.{false≢true}
use Rattle.cbi_base.specs.declared.scalar.Kind.TheVariants as kind
use Rattle.c_syntax.specs.Words.{SourceTree, ExprTree, ExprList, expr_kinds, exprs_kinds}
use Rattle.c_syntax.specs.declared.expr.PrefixOperator.{PrefixOperator}
use Rattle.c_syntax.specs.declared.expr.PrefixOperator.TheVariants as prefix
use Rattle.c_syntax.specs.ExprTree as e
use Rattle.c_types_rules.specs.declared.library.Library.{Library}
use Rattle.c_types_rules.specs.declared.library.Library.TheVariants as library
use Rattle.c_types_rules.specs.declared.operand.Operand.{Operand}
use Rattle.c_types_rules.specs.TypeTree as t
use Rattle.c_types_rules.specs.Words.{TypeTree, is_struct, value_of, library_called, one_scalar, fits_parameters, is_complete, is_scalar_value, typed_unary_arithmetic, typed_increment}
use Rattle.c_types_rules.specs.Functions as functions
use Rattle.c_types_rules.specs.declared.fault.FaultKind.TheVariants as fault
use Rattle.c_types_rules.specs.declared.function.FunctionType.{FunctionType}
use Rattle.c_types_expressions.specs.declared.walk.FunctionEntry.{FunctionEntry}
use Rattle.c_types_expressions.specs.declared.walk.Walk.{Walk}
use Rattle.c_types.specs.Answers.{note_at}
use Rattle.c_types_expressions.specs.Words.{typed_prefix_operation, with_type}
use Rattle.c_meaning.specs.declared.value_type.ValueType.{ValueType}
use Rattle.c_meaning.specs.declared.value_type.ValueType.TheVariants as type
use Rattle.c_meaning.specs.Conversions as mean
use Rattle.c_meaning.specs.Words.{is_null_constant, Signature, computed_type, object_cells, is_place, one_kind, step_of, token_of, type_of, operation}
use Rattle.c_meaning_laws.specs.Rules.{Accepts, Changes, IsNumberType, IsObject, IsPointer, IsPointing, IsPromoted, IsValue, TakesOrNull}
use Rattle.c_meaning_laws.specs.Typed.{CallsFunction, CallsLibrary, Prefixes, Steps, Typed, TypedArguments, TypedLone, variable_named}
use Rattle.flow.specs.declared.site.Slot.{Slot}
use Rattle.c_meaning_laws.proofs.Ruled.{Is, given, gives_by, known, scalar_usable}
use Rattle.c_meaning_laws.proofs.RuledCalls.{AllTaken, called_fits}
use Rattle.c_meaning_laws.proofs.RuledPlaces.{pointed_fits, signed_fits, stepped_fits}
use Rattle.c_meaning_sound.proofs.Forming.{Formed, Plain, addressed_formed, gives_plain, object_is, once_plain, pointed_formed, pointed_no_null, signed_formed}
use Rattle.c_meaning_sound.proofs.Forming.{stepped_formed, stepped_plain, steps_known, value_formed}
use Rattle.c_meaning_sound.proofs.Naming.{Signed}
use Rattle.c_meaning_sound.proofs.Noting.{Deep, Part, facts, leftwards, none, so, type_noted, wider}

module _ (tree : SourceTree) (z : Walk) where
  abbrev pub Fits : ℕ → ExprTree → Type 0
  Fits c x = Typed (facts tree z) none c x

  -- the walk through an expression comes to this operand
  pub record Good (at : ℕ) (x : ExprTree) (w : Walk) (a : Operand) (v : Walk) : Type 0 where
    pub part : Part tree z at (at + length (expr_kinds x)) w v (λ c. Fits c x × (note_at z.types (token_of x) ≡ Some a.ctype))
    pub place : is_place x ≡ a.place
    pub null : is_null_constant x ≡ a.null
    pub formed : Formed tree z a

  pub typed_as : (token : ℕ) (of : TypeTree) → note_at z.types token ≡ Some of → (facts tree z).type_at token ≡ known z.structs of
  typed_as token of h = ap (option_map (computed_type z.structs)) h

  -- an expression of one part
  pub leaf_good : (at token : ℕ) (x : ExprTree) (a : Operand) (w : Walk) → token ≡ at → 1 ≤ length (expr_kinds x) → token_of x ≡ token → is_place x ≡ a.place
      → is_null_constant x ≡ a.null → Formed tree z a → at + length (expr_kinds x) ≤ length w.types
      → ((c : ℕ) → (facts tree z).type_at token ≡ known z.structs a.ctype → Fits c x) → Good at x w a (with_type token a.ctype w)
  leaf_good at token x a w p l e i n f r k = record {
    part = so (wider {lo = token} {hi = token + 1} (type_noted token a.ctype w (omega (arith, p, l, r))) (omega (arith, p)) (omega (arith, p, l)))
        (λ c q. (k c (typed_as token a.ctype q), ap (λ t. note_at z.types t) e ∙ q));
    place = i;
    null = n;
    formed = f;
  }

  -- an expression of which one operand stands behind its own token
  pub unary_good : (at token from : ℕ) (x y : ExprTree) (a b : Operand) (w v : Walk) → token ≡ at → at + 1 ≤ from
      → from + length (expr_kinds y) ≤ at + length (expr_kinds x) → token_of x ≡ token → is_place x ≡ b.place
      → is_null_constant x ≡ b.null → Formed tree z b → Good from y w a v → token < length v.types
      → ((c : ℕ) → Fits c y → note_at z.types (token_of y) ≡ Some a.ctype → note_at z.types token ≡ Some b.ctype → Fits c x)
      → Good at x w b (with_type token b.ctype v)
  unary_good at token from x y a b w v p l m e i n f g h k = record {
    part = so (wider {lo = at} {hi = from + length (expr_kinds y)} (leftwards {lo = at} {mid = from} {hi = from + length (expr_kinds y)} g.part
        (wider {lo = token} {hi = token + 1} (type_noted token b.ctype v h) (omega (arith, p)) (omega (arith, p, l))) (omega (arith, l)) (omega arith))
        (omega arith) m)
        (λ c q. (k c q.0.0 q.0.1 q.1, ap (λ t. note_at z.types t) e ∙ q.1));
    place = i;
    null = n;
    formed = f;
  }

  -- what is accepted is taken
  pub accepted : (wanted : Option ValueType) (x : ExprTree) (a : Operand) → is_null_constant x ≡ a.null → note_at z.types (token_of x) ≡ Some a.ctype
      → TakesOrNull (mean.is_pointer_value wanted && a.null) wanted (known z.structs a.ctype) → Accepts (facts tree z) wanted x
  accepted wanted x a n h k = subst (λ b. TakesOrNull (mean.is_pointer_value wanted && b) wanted (type_of (facts tree z) x)) (sym n)
      (subst (λ u. TakesOrNull (mean.is_pointer_value wanted && a.null) wanted u) (sym (typed_as (token_of x) a.ctype h)) k)

  -- several expressions, and what they come to
  abbrev pub Matched : ℕ → ExprList → List Operand → Type 0
  Matched c e.no_exprs [] = Unit {0}
  Matched c (e.more_exprs x rest) (a ∷ own) = Fits c x × (note_at z.types (token_of x) ≡ Some a.ctype) × (is_null_constant x ≡ a.null) × Matched c rest own
  Matched c xs own = ⊥

  pub record GoodList (at : ℕ) (xs : ExprList) (before : List Operand) (w : Walk) (all : List Operand) (v : Walk) : Type 0 where
    pub own : List Operand
    pub is : all ≡ before ++ own
    pub part : Part tree z at (at + length (exprs_kinds xs)) w v (λ c. Matched c xs own)
    pub formed : AllByRecursion (Formed tree z) own

  pub matched_arguments : (c : ℕ) (types : List ValueType) (xs : ExprList) (own : List Operand) → Matched c xs own → AllTaken z.structs types own
      → TypedArguments (facts tree z) none c types xs
  matched_arguments c [] e.no_exprs [] m k = tt
  matched_arguments c (t ∷ types) (e.more_exprs x rest) (a ∷ own) m k =
      (m.0, accepted (Some t) x a m.2 m.1 k.0, matched_arguments c types rest own m.3 k.1)
  matched_arguments c [] (e.more_exprs x rest) (a ∷ own) m k = absurd k
  matched_arguments c (t ∷ types) e.no_exprs [] m k = absurd k
  matched_arguments c [] e.no_exprs (a ∷ own) m k = absurd m
  matched_arguments c [] (e.more_exprs x rest) [] m k = absurd m
  matched_arguments c (t ∷ types) e.no_exprs (a ∷ own) m k = absurd m
  matched_arguments c (t ∷ types) (e.more_exprs x rest) [] m k = absurd m

  matched_lone : (c : ℕ) (xs : ExprList) (own : List Operand) → Matched c xs own → one_scalar own ≡ true → TypedLone (facts tree z) none c xs
  matched_lone c (e.more_exprs x e.no_exprs) (a ∷ []) m h =
      (m.0, subst IsValue (sym (typed_as (token_of x) a.ctype m.1)) (scalar_usable z.structs a.ctype h))
  matched_lone c e.no_exprs [] m h = absurd (false≢true h)
  matched_lone c e.no_exprs (a ∷ own) m h = absurd m
  matched_lone c (e.more_exprs x rest) [] m h = absurd m
  matched_lone c (e.more_exprs x e.no_exprs) (a ∷ b ∷ own) m h = absurd m.3
  matched_lone c (e.more_exprs x (e.more_exprs y rest)) (a ∷ []) m h = absurd m.3
  matched_lone c (e.more_exprs x (e.more_exprs y rest)) (a ∷ b ∷ own) m h = absurd (false≢true h)

  -- a call of a function that is known so
  pub function_calls : (g : FunctionEntry) (o : Option Signature) (Arguments : List ValueType → Type 0) (u : Option ValueType) → Signed z g o
      → Arguments (map (computed_type z.structs) g.ctype.params) → u ≡ known z.structs g.ctype.gives → CallsFunction o Arguments u
  function_calls g None Arguments u s h k = absurd s
  function_calls g (Some f) Arguments u s h k = (subst Arguments (sym s.0) h, k ∙ ap (λ v. Some v) (sym s.1))

  -- a call of a function of the library
  abbrev Listed : ExprList → List Operand → Operand → Library → Type 0
  Listed xs own b f = (c : ℕ) (u : Option ValueType) → Matched c xs own → u ≡ known z.structs b.ctype
      → CallsLibrary f (λ types. TypedArguments (facts tree z) none c types xs) (TypedLone (facts tree z) none c xs) u

  pub called_formed : (f : FunctionType) (own : List Operand) (b : Operand) → Deep tree z f.gives → is_struct f.gives ≡ false → Is (functions.typed_call f own) b
      → Formed tree z b × Plain b
  called_formed f own b d n h = tested (fits_parameters f.params own) h
    where
      tested : (p : Bool) → Is (if p then Ok (value_of f.gives) else Err fault.Arguments) b → Formed tree z b × Plain b
      tested true h = given (λ b. Formed tree z b × Plain b) (value_of f.gives) b (value_formed tree z f.gives d n, (refl, refl)) h
      tested false h = cc

  asserted : (p : Bool) (xs : ExprList) (own : List Operand) (b : Operand) → one_scalar own ≡ p → Is (if p then Ok (value_of t.Void) else Err fault.Arguments) b
      → Formed tree z b × Plain b × Listed xs own b library.Assert
  asserted true xs own b e h = given (λ b. Formed tree z b × Plain b × Listed xs own b library.Assert) (value_of t.Void) b
      (value_formed tree z t.Void tt refl, (refl, refl), λ c u m k. (matched_lone c xs own m e, k)) h
  asserted false xs own b e h = cc

  pub library_fits : (f : Library) (xs : ExprList) (own : List Operand) (b : Operand) → Is (library_called f own) b
      → Formed tree z b × Plain b × Listed xs own b f
  library_fits library.Getchar xs own b h =
      let k : AllTaken z.structs ([]) own × (b.ctype ≡ t.Int) = called_fits z.structs (record { gives = t.Int; params = [] }) own b h in
      let f : Formed tree z b × Plain b = called_formed (record { gives = t.Int; params = [] }) own b tt refl h in
      (f.0, f.1, λ c u m e. (matched_arguments c ([]) xs own m k.0, e ∙ ap (known z.structs) k.1))
  library_fits library.Putchar xs own b h =
      let k : AllTaken z.structs (type.Number kind.Int ∷ []) own × (b.ctype ≡ t.Int) = called_fits z.structs
      (record { gives = t.Int; params = t.Int ∷ [] }) own b h in
      let f : Formed tree z b × Plain b = called_formed (record { gives = t.Int; params = t.Int ∷ [] }) own b tt refl h in
      (f.0, f.1, λ c u m e. (matched_arguments c (type.Number kind.Int ∷ []) xs own m k.0, e ∙ ap (known z.structs) k.1))
  library_fits library.Puts xs own b h =
      let k : AllTaken z.structs (type.Pointer 1 ∷ []) own × (b.ctype ≡ t.Int) = called_fits z.structs
      (record { gives = t.Int; params = t.Pointer t.Char ∷ [] }) own b h in
      let f : Formed tree z b × Plain b = called_formed (record { gives = t.Int; params = t.Pointer t.Char ∷ [] }) own b tt refl h in
      (f.0, f.1, λ c u m e. (matched_arguments c (type.Pointer 1 ∷ []) xs own m k.0, e ∙ ap (known z.structs) k.1))
  library_fits library.Malloc xs own b h =
      let k : AllTaken z.structs (type.Number kind.Unsigned ∷ []) own × (b.ctype ≡ t.Pointer t.Void) = called_fits z.structs
      (record { gives = t.Pointer t.Void; params = t.Unsigned ∷ [] }) own b h in
      let f : Formed tree z b × Plain b = called_formed (record { gives = t.Pointer t.Void; params = t.Unsigned ∷ [] }) own b tt refl h in
      (f.0, f.1, λ c u m e. (matched_arguments c (type.Number kind.Unsigned ∷ []) xs own m k.0, subst IsPointer (sym (e ∙ ap (known z.structs) k.1)) tt))
  library_fits library.Free xs own b h =
      let k : AllTaken z.structs (type.Pointer 0 ∷ []) own × (b.ctype ≡ t.Void) = called_fits z.structs
      (record { gives = t.Void; params = t.Pointer t.Void ∷ [] }) own b h in
      let f : Formed tree z b × Plain b = called_formed (record { gives = t.Void; params = t.Pointer t.Void ∷ [] }) own b tt refl h in
      (f.0, f.1, λ c u m e. (matched_arguments c (type.Pointer 0 ∷ []) xs own m k.0, e ∙ ap (known z.structs) k.1))
  library_fits library.Exit xs own b h =
      let k : AllTaken z.structs (type.Number kind.Int ∷ []) own × (b.ctype ≡ t.Void) = called_fits z.structs
      (record { gives = t.Void; params = t.Int ∷ [] }) own b h in
      let f : Formed tree z b × Plain b = called_formed (record { gives = t.Void; params = t.Int ∷ [] }) own b tt refl h in
      (f.0, f.1, λ c u m e. (matched_arguments c (type.Number kind.Int ∷ []) xs own m k.0, e ∙ ap (known z.structs) k.1))
  library_fits library.Abort xs own b h =
      let k : AllTaken z.structs ([]) own × (b.ctype ≡ t.Void) = called_fits z.structs (record { gives = t.Void; params = [] }) own b h in
      let f : Formed tree z b × Plain b = called_formed (record { gives = t.Void; params = [] }) own b tt refl h in
      (f.0, f.1, λ c u m e. (matched_arguments c ([]) xs own m k.0, e ∙ ap (known z.structs) k.1))
  library_fits library.Assert xs own b h = asserted (one_scalar own) xs own b refl h
  library_fits library.Printf xs own b h = cc

  -- an operator before its operand
  abbrev pub PrefixFits : PrefixOperator → ExprTree → Operand → Operand → Type 0
  PrefixFits o x a b = (token c : ℕ) → note_at z.types (token_of x) ≡ Some a.ctype → (facts tree z).type_at token ≡ known z.structs b.ctype
      → Prefixes (facts tree z) none c token o x (type_of (facts tree z) x) ((facts tree z).type_at token)

  abbrev pub PrefixGood : ℕ → PrefixOperator → ExprTree → Operand → Operand → Type 0
  PrefixGood token o x a b = Formed tree z b × (is_place (e.Prefix token o x) ≡ b.place) × (false ≡ b.null) × PrefixFits o x a b

  by_types : (P : Option ValueType → Option ValueType → Type 0) (u v r s : Option ValueType) → u ≡ r → v ≡ s → P r s → P u v
  by_types P u v r s h k q = subst (λ y. P y v) (sym h) (subst (λ y. P r y) (sym k) q)

  stepped_good : (is_up : Bool) (token : ℕ) (x : ExprTree) (a b : Operand) → Is (typed_increment z.structs a) b → Formed tree z a → is_place x ≡ a.place
      → (false ≡ b.place) × (false ≡ b.null) × Formed tree z b × IsTrue (is_place x) × (b.ctype ≡ a.ctype)
      × Changes (operation (step_of is_up) (known z.structs a.ctype) (Some (type.Number (one_kind (known z.structs a.ctype))))) (known z.structs a.ctype)
      (Some (type.Number (one_kind (known z.structs a.ctype))))
  stepped_good is_up token x a b h f p =
      let n : Plain b = stepped_plain z.structs a b h in
      let k : (a.place ≡ true) × (b.ctype ≡ a.ctype)
      × Changes (operation (step_of is_up) (known z.structs a.ctype) (Some (type.Number (one_kind (known z.structs a.ctype))))) (known z.structs a.ctype)
      (Some (type.Number (one_kind (known z.structs a.ctype)))) =
      stepped_fits z.structs is_up a b (steps_known tree z a.ctype f.deep) h in
      (sym n.0, sym n.1, stepped_formed tree z a b f h, p ∙ k.0, k.1, k.2)

  abbrev StepsBy : Bool → ℕ → Option Slot → Option ValueType → Type 0
  StepsBy is_up token s of = Steps (facts tree z) none is_up token s of

  pub steps_fit : (is_up : Bool) (token : ℕ) (s : Option Slot) (u : Option ValueType) (a b : Operand) → u ≡ known z.structs a.ctype → (b.ctype ≡ a.ctype)
      × Changes (operation (step_of is_up) (known z.structs a.ctype) (Some (type.Number (one_kind (known z.structs a.ctype))))) (known z.structs a.ctype)
      (Some (type.Number (one_kind (known z.structs a.ctype)))) → (facts tree z).type_at token ≡ known z.structs b.ctype → StepsBy is_up token s u
  steps_fit is_up token s u a b h k e = subst (StepsBy is_up token s) (sym h) (k.1, tt, e ∙ ap (known z.structs) k.0)

  turned_good : (token : ℕ) (o : PrefixOperator) (x : ExprTree) (a b : Operand) → Is (typed_unary_arithmetic a) b
      → Formed tree z b × (false ≡ b.place) × (false ≡ b.null) × IsNumberType (known z.structs a.ctype) × IsPromoted (known z.structs b.ctype)
  turned_good token o x a b h =
      let n : Plain b = gives_plain _ _ b h in
      let k : IsNumberType (known z.structs a.ctype) × IsPromoted (known z.structs b.ctype) = signed_fits z.structs a b h in
      (signed_formed tree z a b h, sym n.0, sym n.1, k.0, k.1)

  promoted_number : (u : Option ValueType) → IsPromoted u → IsNumberType u
  promoted_number (Some (type.Number kind.Int)) h = tt
  promoted_number (Some (type.Number kind.Unsigned)) h = tt
  promoted_number u h = absurd h

  addressed_type : (p : Bool) (of : TypeTree) (b : Operand) → Is (if p then Ok (value_of (t.Pointer of)) else Err fault.NoPlace) b
      → (p ≡ true) × (b.ctype ≡ t.Pointer of)
  addressed_type true of b h = given (λ b. (true ≡ true) × (b.ctype ≡ t.Pointer of)) (value_of (t.Pointer of)) b (refl, refl) h
  addressed_type false of b h = cc

  pub prefix_good : (token : ℕ) (o : PrefixOperator) (x : ExprTree) (a b : Operand) → Is (typed_prefix_operation z.structs o a) b → Formed tree z a → is_place x ≡ a.place
      → PrefixGood token o x a b
  prefix_good token prefix.Increment x a b h f p = let k = stepped_good true token x a b h f p in (
    k.2,
    k.0,
    k.1,
    λ at c u v. (k.3, steps_fit true at (variable_named (facts tree z) x) (type_of (facts tree z) x) a b (typed_as (token_of x) a.ctype u) (k.4, k.5) v),
  )
  prefix_good token prefix.Decrement x a b h f p = let k = stepped_good false token x a b h f p in (
    k.2,
    k.0,
    k.1,
    λ at c u v. (k.3, steps_fit false at (variable_named (facts tree z) x) (type_of (facts tree z) x) a b (typed_as (token_of x) a.ctype u) (k.4, k.5) v),
  )
  prefix_good token prefix.Address x a b h f p =
      let n : Plain b = once_plain a.place (t.Pointer a.ctype) fault.NoPlace b h in
      let k : (a.place ≡ true) × (b.ctype ≡ t.Pointer a.ctype) = addressed_type a.place a.ctype b h in
      (addressed_formed tree z a b f h, sym n.0, sym n.1, λ at c u v. (p ∙ k.0, subst IsPointing (sym (v ∙ ap (known z.structs) k.1)) tt))
  prefix_good token prefix.Indirection x a b h f p =
      let k : IsPointing (known z.structs a.ctype) × (b.place ≡ true) × IsObject (known z.structs b.ctype) = pointed_fits z.structs a b h in (
        pointed_formed tree z a b f h,
        sym k.1,
        sym (pointed_no_null a b h),
        λ at c u v.
            (subst IsPointing (sym (typed_as (token_of x) a.ctype u)) k.0, subst IsObject (sym v) k.2),
      )
  prefix_good token prefix.Plus x a b h f p = let k = turned_good token prefix.Plus x a b h in (
    k.0,
    k.1,
    k.2,
    λ at c u v.
        (subst IsNumberType (sym (typed_as (token_of x) a.ctype u)) k.3, subst IsNumberType (sym v) (promoted_number (known z.structs b.ctype) k.4)),
  )
  prefix_good token prefix.Minus x a b h f p = let k = turned_good token prefix.Minus x a b h in (
    k.0,
    k.1,
    k.2,
    λ at c u v.
        (subst IsNumberType (sym (typed_as (token_of x) a.ctype u)) k.3, subst IsPromoted (sym v) k.4),
  )
  prefix_good token prefix.Complement x a b h f p = let k = turned_good token prefix.Complement x a b h in (
    k.0,
    k.1,
    k.2,
    λ at c u v.
        (subst IsNumberType (sym (typed_as (token_of x) a.ctype u)) k.3, subst IsPromoted (sym v) k.4),
  )
  prefix_good token prefix.Not x a b h f p =
      gives_by (λ b. PrefixGood token prefix.Not x a b) (is_scalar_value a) t.Int b (λ m. (
        value_formed tree z t.Int tt refl,
        refl,
        refl,
        λ at c u v.
            (subst IsValue (sym (typed_as (token_of x) a.ctype u)) (scalar_usable z.structs a.ctype m), v),
      )) h
  prefix_good token prefix.SizeOf x a b h f p =
      gives_by (λ b. PrefixGood token prefix.SizeOf x a b) (is_complete z.structs a.ctype) t.Unsigned b (λ m. (
        value_formed tree z t.Unsigned tt refl,
        refl,
        refl,
        λ at c u v.
            (ap (λ o. is_some (option_and_then (object_cells z.structs) o)) u ∙ ap is_some (object_is tree z a.ctype f.deep m), v),
      )) h
