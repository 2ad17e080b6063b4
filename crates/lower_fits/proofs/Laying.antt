-- What the walk through declarations and statements adds: variables, whose types are those of objects.
use Rattle.std.proofs.Common.{◌≡◌, ℕ, ◌≤◌, ◌+◌, refl, ap, subst, sym, ◌∙◌, arith, Bool, true, false, List, [], ◌∷◌, ◌++◌, Some, None, length}
use Rattle.std.proofs.Common.{append_assoc, length-append}
use Rattle.std.specs.Prelude.{Option, is_some, not, nat_le, slice_set, ◌&&◌, if◌then◌else◌}
use Rattle.std.specs.List.{AllByRecursion}
use Rattle.std.proofs.lemmas.Bool.{lt-ltb, or_parts}
use Rattle.std.proofs.lemmas.List.{append-nil, set_at}
use Rattle.base_lists.proofs.Every.{all_join}
use Rattle.c_syntax.specs.StatementTree.{DeclarationTree, EntryList, StartTree}
use Rattle.c_types_rules.specs.declared.fault.FaultKind.TheVariants as fault
use Rattle.c_types_rules.specs.declared.layout.StructType.{StructType}
use Rattle.c_types_rules.specs.Words.{TypeTree, cells_of, is_object, most_cells}
use Rattle.c_types_expressions.specs.declared.names.Meaning.TheVariants as meaning
use Rattle.c_types_expressions.specs.declared.names.ScopeEntry.TheVariants.{Declares}
use Rattle.c_types_expressions.specs.declared.walk.Walk.{Walk}
use Rattle.c_types_expressions.specs.Words.{with_call, with_offset, with_use, names_after_scope, is_here, is_name_taken, is_reserved, Walked, Done, Fine, Faulty, scope_closed}
use Rattle.c_types_expressions.specs.Words.{scope_opened, item_replaced, with_type, with_variable}
use Rattle.c_types_expressions.proofs.Kept.{IsKeptByExpressions, Keeps, by_notes}
use Rattle.c_types_walk.specs.Declarators.{declared_type, is_open}
use Rattle.c_types_walk.specs.Initialisers.{walk_initial}
use Rattle.c_types_walk.specs.StatementWalk.{counted_cells, object_type_checked, walk_closed, walk_declaration, walk_entries, walk_open, walk_start, walk_typed}
use Rattle.c_types_walk.specs.StatementWalk.{with_declared_type}
use Rattle.c_types_walk.proofs.Kept.{IsKeptByStatements, declaration_keeps, entries_keep, initial_keeps}
use Rattle.c_types.proofs.Noted.{Gives, gives_more, gives_then}
use Rattle.lower_fits.proofs.Leaving.{Leaves, leaves_kept, notes_leave}

-- each variable has its type
abbrev pub Long : Walk → Type 0
Long w = length w.declared_types ≡ length w.variables

-- where these structs are known, objects may have the type
abbrev pub IsObject : List StructType → TypeTree → Type 0
IsObject structs of = is_object structs of ≡ true

-- a part of the walk adds variables of these types
pub record Lays (new : List TypeTree) (w v : Walk) : Type 0 where
  pub structs : v.structs ≡ w.structs
  pub scope : names_after_scope v.names ≡ names_after_scope w.names
  pub types : v.declared_types ≡ w.declared_types ++ new
  pub objects : AllByRecursion (IsObject w.structs) new
  pub long : Long v
  pub locals : w.locals ≤ v.locals
  pub most : v.locals ≤ w.locals + length new

-- a part of the walk adds variables of some types of objects
abbrev pub Laid : Walk → Walk → Type 0
Laid w v = (new : List TypeTree) × Lays new w v

-- where each variable has its type, a part adds variables of some types of objects
abbrev pub Laying : Walk → Walk → Type 0
Laying w v = Long w → Laid w v

-- what leaves the variables as they were adds none
pub lays_nothing : (w v : Walk) → Leaves w v → Long w → Lays [] w v
lays_nothing w v h l = record {
  structs = h.structs;
  scope = ap names_after_scope h.names;
  types = h.types ∙ sym (append-nil w.declared_types);
  objects = tt;
  long = ap length h.types ∙ l ∙ sym (ap length h.variables);
  locals = omega (arith, h.locals);
  most = omega (arith, h.locals);
}

-- one part and then another add the variables of both
pub lays_two : (xs ys : List TypeTree) (w u v : Walk) → Lays xs w u → Lays ys u v → Lays (xs ++ ys) w v
lays_two xs ys w u v a b = record {
  structs = b.structs ∙ a.structs;
  scope = b.scope ∙ a.scope;
  types = b.types ∙ ap (λ ts. ts ++ ys) a.types ∙ append_assoc w.declared_types xs ys;
  objects = all_join (IsObject w.structs) xs ys a.objects (subst (λ structs. AllByRecursion (IsObject structs) ys) a.structs b.objects);
  long = b.long;
  locals = omega (arith, a.locals, b.locals);
  most = omega (arith, a.most, b.most, length-append xs ys);
}

-- a part that leaves the variables as they were, of whatever types
left_lays : (w v : Walk) → Leaves w v → Laying w v
left_lays w v h l = ([], lays_nothing w v h l)

-- one part and then another, of whatever types
lays_then : (w u v : Walk) → Laid w u → Laid u v → Laid w v
lays_then w u v a b = (a.0 ++ b.0, lays_two a.0 b.0 w u v a.1 b.1)

-- an expression adds none
laying_kept : IsKeptByExpressions Laying
laying_kept = by_notes Laying (record {
  here = λ w. left_lays w w (leaves_kept.here w);
  next = λ w u v a b l. lays_then w u v (a l) (b (a l).1.long);
  typed = λ token t w. left_lays w (with_type token t w) (notes_leave.typed token t w);
  used = λ token index w. left_lays w (with_use token index w) (notes_leave.used token index w);
  called = λ token index w. left_lays w (with_call token index w) (notes_leave.called token index w);
  selected = λ token offset w. left_lays w (with_offset token offset w) (notes_leave.selected token offset w);
})

-- declarations: one variable

-- one variable more, of this name and type
pub record Adds (name : List ℕ) (of : TypeTree) (w v : Walk) : Type 0 where
  pub structs : v.structs ≡ w.structs
  pub names : v.names ≡ Declares name (meaning.Variable (length w.variables)) ∷ w.names
  pub types : v.declared_types ≡ w.declared_types ++ of ∷ []
  pub more : length v.variables ≡ length w.variables + 1
  pub locals : w.locals ≤ v.locals
  pub most : v.locals ≤ w.locals + 1

-- a declared variable is one more
pub variable_adds : (global : Bool) (token : ℕ) (name : List ℕ) (of : TypeTree) (w : Walk) → Adds name of w (with_variable global token name of w)
variable_adds true token name of w =
    record { structs = refl; names = refl; types = refl; more = length-append w.variables _; locals = omega arith; most = omega arith }
variable_adds false token name of w =
    record { structs = refl; names = refl; types = refl; more = length-append w.variables _; locals = omega arith; most = omega arith }

-- a variable more, and then no change
adds_before : (name : List ℕ) (of : TypeTree) (w u v : Walk) → Adds name of w u → Leaves u v → Adds name of w v
adds_before name of w u v a b = record {
  structs = b.structs ∙ a.structs;
  names = b.names ∙ a.names;
  types = b.types ∙ a.types;
  more = ap length b.variables ∙ a.more;
  locals = omega (arith, a.locals, b.locals);
  most = omega (arith, a.most, b.locals);
}

-- no change, and then a variable more
adds_behind : (name : List ℕ) (of : TypeTree) (w u v : Walk) → Leaves w u → Adds name of u v → Adds name of w v
adds_behind name of w u v a b = record {
  structs = b.structs ∙ a.structs;
  names = b.names ∙ ap (λ xs. Declares name (meaning.Variable (length xs)) ∷ u.names) a.variables
      ∙ ap (λ ns. Declares name (meaning.Variable (length w.variables)) ∷ ns) a.names;
  types = b.types ∙ ap (λ xs. xs ++ of ∷ []) a.types;
  more = b.more ∙ ap (λ xs. length xs + 1) a.variables;
  locals = omega (arith, a.locals, b.locals);
  most = omega (arith, a.locals, b.most);
}

-- another item in the last place
pub last_replaced : {A : Type 0} (xs : List A) (x y : A) (n : ℕ) → length xs ≡ n → item_replaced (xs ++ x ∷ []) n y ≡ xs ++ y ∷ []
last_replaced xs x y n h =
    ap (λ b. if b then slice_set (xs ++ x ∷ []) n y else xs ++ x ∷ [])
    (lt-ltb n (length (xs ++ x ∷ [])) (omega (arith, h, length-append xs (x ∷ [])))) ∙ set_at xs x [] y n h

-- an array gets its length from its initialiser
retyped_adds : (name : List ℕ) (old of : TypeTree) (w v : Walk) → Long w → Adds name old w v
    → Adds name of w (with_declared_type (length w.variables) of v)
retyped_adds name old of w v l a = record {
  structs = a.structs;
  names = a.names;
  types = ap (λ xs. item_replaced xs (length w.variables) of) a.types ∙ last_replaced w.declared_types old of (length w.variables) l;
  more = a.more;
  locals = a.locals;
  most = a.most;
}

-- one variable more, whose type is that of an object
pub record One (name : List ℕ) (w v : Walk) : Type 0 where
  pub of : TypeTree
  pub object : IsObject w.structs of
  pub adds : Adds name of w v

-- nothing changes, and objects may have the type
abbrev Sizes : TypeTree → Walk → Walk → Type 0
Sizes of w v = Leaves w v × IsObject w.structs of

-- counting the cells of globals leaves the rest
counted_by : (b c : Bool) (token cells : ℕ) (w : Walk)
    → Keeps {A = Done} Leaves w (if b then Fine tt w else if c then Fine tt (record w { global_cells = cells }) else Faulty fault.Object token)
counted_by true c token cells w = leaves_kept.here w
counted_by false true token cells w = record { structs = refl; names = refl; variables = refl; types = refl; locals = refl }
counted_by false false token cells w = tt

-- where the type is refused there is a fault
sized_by : (b : Bool) (token : ℕ) (of : TypeTree) (w : Walk) (r : Walked Done) → is_object w.structs of ≡ b → Keeps Leaves w r
    → Gives (λ _ v. Sizes of w v) (if b then r else Faulty fault.Object token)
sized_by true token of w r e h = gives_more (λ _ v. Leaves w v) (λ _ v. Sizes of w v) r (λ _ v k. (k, e)) h
sized_by false token of w r e h = tt

-- a variable may have a type that was looked at
sizes : (global : Bool) (token : ℕ) (of : TypeTree) (w : Walk) → Gives (λ _ v. Sizes of w v) (object_type_checked global token of w)
sizes global token of w = sized_by (is_object w.structs of) token of w (counted_cells global token (cells_of w.structs of) w) refl
    (counted_by (not global) (nat_le (w.global_cells + cells_of w.structs of) most_cells) token (w.global_cells + cells_of w.structs of) w)

-- an array whose length its initialiser gives
open_one : (global : Bool) (x : StartTree) (of : TypeTree) (w : Walk) → Long w → Gives (λ _ v. One x.declarator.name w v) (walk_open global x of w)
open_one global x of w l =
    let first : Walk = with_variable global x.declarator.name_token x.declarator.name of w in
    let added : Adds x.declarator.name of w first = variable_adds global x.declarator.name_token x.declarator.name of w in
    gives_then (λ _ v. Leaves first v) (λ _ v. One x.declarator.name w v) (walk_initial global of x.initial first) _ (initial_keeps Leaves leaves_kept global of x.initial first)
    (λ own u h. gives_then (λ _ v. Sizes own u v) (λ _ v. One x.declarator.name w v) (object_type_checked global x.token own u) _ (sizes global x.token own u)
    (λ _ v k. record {
      of = own;
      object = subst (λ structs. IsObject structs own) (h.structs ∙ added.structs) k.1;
      adds = retyped_adds x.declarator.name of own w v l
          (adds_before x.declarator.name of w u v (adds_before x.declarator.name of w first u added h) k.0);
    }))

-- any other variable
closed_one : (global : Bool) (x : StartTree) (of : TypeTree) (w : Walk) → Gives (λ _ v. One x.declarator.name w v) (walk_closed global x of w)
closed_one global x of w =
    gives_then (λ _ v. Sizes of w v) (λ _ v. One x.declarator.name w v) (object_type_checked global x.token of w) _ (sizes global x.token of w)
    (λ _ u k.
    let first : Walk = with_variable global x.declarator.name_token x.declarator.name of u in
    let added : Adds x.declarator.name of u first = variable_adds global x.declarator.name_token x.declarator.name of u in
    gives_then (λ _ v. Leaves first v) (λ _ v. One x.declarator.name w v) (walk_initial global of x.initial first) _ (initial_keeps Leaves leaves_kept global of x.initial first)
    (λ _ v h. record {
      of = of;
      object = k.1;
      adds = adds_behind x.declarator.name of w u v k.0 (adds_before x.declarator.name of u first v added h);
    }))

-- one walk or another
one_either : (name : List ℕ) (w : Walk) (b : Bool) (r q : Walked Done) → Gives (λ _ v. One name w v) r → Gives (λ _ v. One name w v) q
    → Gives (λ _ v. One name w v) (if b then r else q)
one_either name w true r q h k = h
one_either name w false r q h k = k

-- a variable whose type is known
typed_one : (global : Bool) (x : StartTree) (o : Option TypeTree) (w : Walk) → Long w → Gives (λ _ v. One x.declarator.name w v) (walk_typed global x o w)
unfolding walk_typed
typed_one global x None w l = tt
typed_one global x (Some of) w l = one_either x.declarator.name w (is_some x.initial && is_open w.structs of) (walk_open global x of w)
    (walk_closed global x of w) (open_one global x of w l) (closed_one global x of w)

-- the variable that a declarator declares: its name is new in its scope
pub record Starts (name : List ℕ) (w v : Walk) : Type 0 where
  pub new : is_here name w.names ≡ false
  pub one : One name w v

-- a name that is taken is refused
start_by : (name : List ℕ) (b : Bool) (token : ℕ) (w : Walk) (r : Walked Done) → is_name_taken name w.names ≡ b → Gives (λ _ v. One name w v) r
    → Gives (λ _ v. Starts name w v) (if b then Faulty fault.Redeclared token else r)
start_by name true token w r e h = tt
start_by name false token w r e h = gives_more (λ _ v. One name w v) (λ _ v. Starts name w v) r
    (λ _ v k. record { new = (or_parts (is_reserved name) (is_here name w.names) e).1; one = k }) h

-- what a declarator declares, with its initialiser
pub start_adds : (global : Bool) (b : TypeTree) (x : StartTree) (w : Walk) → Long w → Gives (λ _ v. Starts x.declarator.name w v) (walk_start global b x w)
start_adds global b x w l = start_by x.declarator.name (is_name_taken x.declarator.name w.names) x.token w (walk_typed global x (declared_type x.declarator b) w) refl
    (typed_one global x (declared_type x.declarator b) w l)

-- one variable more, as the variables of a part
pub one_lays : (name : List ℕ) (of : TypeTree) (w v : Walk) → IsObject w.structs of → Adds name of w v → Long w → Lays (of ∷ []) w v
one_lays name of w v o a l = record {
  structs = a.structs;
  scope = ap names_after_scope a.names;
  types = a.types;
  objects = (o, tt);
  long = ap length a.types ∙ omega (arith, l, a.more, length-append w.declared_types (of ∷ []));
  locals = a.locals;
  most = omega (arith, a.most);
}

-- what a part gives where something holds before it
needing : {A : Type 0} (P : Type 0) (Q : Walk → Type 0) (r : Walked A) → (P → Gives (λ _ v. Q v) r) → Gives (λ _ v. P → Q v) r
needing P Q (Fine x v) h = h
needing P Q (Faulty kind token) h = tt

-- a declared variable
start_laid : (global : Bool) (b : TypeTree) (x : StartTree) (w : Walk) → Keeps Laying w (walk_start global b x w)
start_laid global b x w = needing (Long w) (λ v. Laid w v) (walk_start global b x w) (λ l.
    gives_more (λ _ v. Starts x.declarator.name w v) (λ _ v. Laid w v) (walk_start global b x w)
    (λ _ v h. (h.one.of ∷ [], one_lays x.declarator.name h.one.of w v h.one.object h.one.adds l)) (start_adds global b x w l))

-- the end of a scope leaves the variables that were declared in it
scope_laid : (w u : Walk) → Laying (scope_opened w) u → Keeps Laying w (scope_closed tt u)
scope_laid w u h l =
    let a : Laid (scope_opened w) u = h l in (
      a.0,
      record {
        structs = a.1.structs;
        scope = ap names_after_scope a.1.scope;
        types = a.1.types;
        objects = a.1.objects;
        long = a.1.long;
        locals = a.1.locals;
        most = a.1.most;
      },
    )

-- a statement adds the variables that are declared in it
laying_statements : IsKeptByStatements Laying
laying_statements = record {
  here = laying_kept.here;
  next = laying_kept.next;
  expr = laying_kept.expr;
  whole = laying_kept.whole;
  declaration = declaration_keeps false Laying laying_kept (start_laid false);
  scope = scope_laid;
}

-- a declaration adds its variables
pub declaration_laid : (global : Bool) (d : DeclarationTree) (w : Walk) → Long w → Gives (λ _ v. Laid w v) (walk_declaration global d w)
declaration_laid global d w l = gives_more (λ _ v. Laying w v) (λ _ v. Laid w v) (walk_declaration global d w) (λ _ v h. h l)
    (declaration_keeps global Laying laying_kept (start_laid global) d w)

-- the entries of a block add theirs
pub entries_laid : (gives : TypeTree) (looping : Bool) (xs : EntryList) (w : Walk) → Long w → Gives (λ _ v. Laid w v) (walk_entries gives looping xs w)
entries_laid gives looping xs w l = gives_more (λ _ v. Laying w v) (λ _ v. Laid w v) (walk_entries gives looping xs w) (λ _ v h. h l)
    (entries_keep Laying laying_statements gives looping xs w)
