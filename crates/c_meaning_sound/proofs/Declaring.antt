-- Declarations: what is noted of each variable, and its initialiser.
use Rattle.std.proofs.Common.{◌≡◌, ℕ, zero, suc, ◌≤◌, ◌<◌, refl, ap, subst, sym, ◌∙◌, arith, List, [], ◌∷◌, ◌++◌, Some, None, ◌+◌, Bool, true, false, length}
use Rattle.std.proofs.Common.{length-append}
use Rattle.std.specs.Prelude.{Option, slice_get, slice_set, nat_lt, is_some, ◌&&◌, if◌then◌else◌}
use Rattle.std.specs.List.{AllByRecursion, flat_map}
use Rattle.std.specs.Option.{option_map, option_and_then}
use Rattle.std.proofs.lemmas.Bool.{false≢true, true≢false, and_parts}
use Rattle.std.proofs.lemmas.Option.{slice_get_within, same_Some}
use Rattle.c_types_expressions.proofs.Given.{Gives, and_then, weaker}
use Rattle.c_types.proofs.Replaced.{noted_other, noted_same, replaced_other, replaced_same}
use Rattle.sites.proofs.RisesBodies.{declarator-length}
use Rattle.c_types.proofs.Noted.{length_replaced}
use Rattle.base_lists.proofs.Lists.{get_last, Stays}
use Rattle.base_lists.proofs.Every.{all_first, all_second}
use Rattle.c_syntax.specs.Words.{SourceTree, StartTree, DeclarationTree, DeclarationAt, EachAt, StartAt, ShapedDeclaration, ShapedStart, a_sign}
use Rattle.c_syntax.specs.Words.{after_commas, base_kinds, declaration_kinds, declarator_kinds, start_kinds, with_commas}
use Rattle.c_syntax.specs.declared.token.Sign.TheVariants as sign
use Rattle.c_syntax.specs.declared.token.TokenKind.TheVariants as kind
use Rattle.c_types_rules.specs.declared.fault.FaultKind.{FaultKind}
use Rattle.c_types_rules.specs.declared.fault.FaultKind.TheVariants as fault
use Rattle.c_types_rules.specs.TypeTree as t
use Rattle.c_types_rules.specs.Words.{TypeTree, is_complete, is_object}
use Rattle.c_types_expressions.specs.declared.names.Meaning.TheVariants as meaning
use Rattle.c_types_expressions.specs.declared.names.ScopeEntry.{ScopeEntry}
use Rattle.c_types_expressions.specs.declared.names.ScopeEntry.TheVariants.{Declares}
use Rattle.c_types_expressions.specs.declared.walk.Variable.{Variable}
use Rattle.c_types_expressions.specs.declared.walk.Variable.TheVariants as variable
use Rattle.c_types_expressions.specs.declared.walk.VariableEntry.{VariableEntry}
use Rattle.c_types_expressions.specs.declared.walk.Walk.{Walk}
use Rattle.c_types.specs.Answers.{declared_at, note_at, variable_of}
use Rattle.c_types_walk.specs.Declarators.{declared_type, is_open}
use Rattle.c_types_expressions.specs.Words.{with_stars, is_name_taken, Walked, Done, Fine, Faulty, ◌>>=◌, item_replaced, with_variable}
use Rattle.c_types_walk.specs.Initialisers.{length_of, walk_initial, with_length}
use Rattle.c_types_walk.specs.StatementWalk.{object_type_checked, walk_closed, walk_declaration, walk_open, walk_start, walk_starts, walk_typed, with_declared_type}
use Rattle.c_meaning.specs.Words.{slot_of, strings_declared, strings_initial}
use Rattle.c_meaning_laws.specs.TypedStatements.{IsLocal, TypedInitial, TypedStarts}
use Rattle.c_meaning_sound.proofs.Expressions.{base_then, stars_deep}
use Rattle.c_meaning_sound.proofs.Forming.{Ended}
use Rattle.c_meaning_sound.proofs.Initialising.{Lengthened, equals_kinds, initial_good, length_back}
use Rattle.c_meaning_sound.proofs.Marking.{marks_declared, marks_plain, marks_then}
use Rattle.c_meaning_sound.proofs.Noting.{Agrees, AllSlots, AllWhole, Deep, IsAmong, IsSlot, NamesSlot, Part, Ready, Same, Whole, facts}
use Rattle.c_meaning_sound.proofs.Noting.{none, nothing_noted, ready_after, ready_in}
use Rattle.c_meaning_sound.proofs.Noting.{rightwards, same_then, slot_declared, so, wider}
use Rattle.c_meaning_sound.proofs.Sizing.{Open, Sized, core, core_deep, declared_core, object_stays, open_by, whole_by}
use Rattle.c_meaning_sound.proofs.Texts.{Spelled}

-- lists that one more item stands behind
pub get_before : {A : Type 0} (xs : List A) (i : ℕ) (x y : A) → slice_get xs i ≡ Some x → slice_get (xs ++ y ∷ []) i ≡ Some x
get_before [] i x y h = cc
get_before (a ∷ xs) zero x y h = h
get_before (a ∷ xs) (suc i) x y h = get_before xs i x y h

-- names keep their slots where there are more variables and more locals
among_more : (m n : ℕ) (v : Variable) → m ≤ n → IsAmong m v → IsAmong n v
among_more m n (variable.Global index) h k = tt
among_more m n (variable.Local index) h k = omega (arith, h, k)

slot_more : (m n index : ℕ) (xs ys : List VariableEntry) (o : Option VariableEntry) → slice_get xs index ≡ o → m ≤ n → Stays xs ys → IsSlot m o
    → IsSlot n (slice_get ys index)
slot_more m n index xs ys None e h k l = absurd l
slot_more m n index xs ys (Some entry) e h k l = rw (k index entry e) (among_more m n entry.variable h l)

name_more : (m n : ℕ) (xs ys : List VariableEntry) (entry : ScopeEntry) → m ≤ n → Stays xs ys → NamesSlot m xs entry → NamesSlot n ys entry
name_more m n xs ys (Declares name (meaning.Variable index)) h k l = slot_more m n index xs ys (slice_get xs index) refl h k l
name_more m n xs ys (Declares name (meaning.Library function)) h k l = l
name_more m n xs ys entry h k l = tt

pub slots_more : (m n : ℕ) (xs ys : List VariableEntry) (names : List ScopeEntry) → m ≤ n → Stays xs ys → AllSlots m xs names → AllSlots n ys names
slots_more m n xs ys [] h k l = tt
slots_more m n xs ys (entry ∷ rest) h k l = (name_more m n xs ys entry h k l.0, slots_more m n xs ys rest h k l.1)

pub if_faulty : {A : Type 0} {Q : A → Walk → Type 0} (b : Bool) (m : Walked A) (k : FaultKind) (i : ℕ) → (b ≡ false → Gives m Q)
    → Gives (if b then Faulty k i else m) Q
if_faulty true m k i h = record { by = tt }
if_faulty false m k i h = h refl

sized_by : {A : Type 0} {Q : A → Walk → Type 0} (b : Bool) (token : ℕ) (w : Walk) (k : Done → Walk → Walked A) → (b ≡ true → Gives (k tt w) Q)
    → Gives ((if b then Fine tt w else Faulty fault.Object token) >>= k) Q
sized_by true token w k h = h refl
sized_by false token w k h = record { by = tt }

sized_then : {A : Type 0} {Q : A → Walk → Type 0} (token : ℕ) (of : TypeTree) (w : Walk) (k : Done → Walk → Walked A)
    → (is_object w.structs of ≡ true → Gives (k tt w) Q) → Gives (object_type_checked false token of w >>= k) Q
sized_then token of w k h = sized_by (is_object w.structs of) token w k h

-- another length leaves the elements as they are
length_core : (of : TypeTree) (n : ℕ) → core (with_length n of) ≡ core of
length_core (t.Array element size) n = refl
length_core (t.Pointer to) n = refl
length_core t.Void n = refl
length_core t.Char n = refl
length_core t.Int n = refl
length_core t.Unsigned n = refl
length_core (t.Struct tag) n = refl

pub long_core : (of u : TypeTree) → Lengthened of u → core u ≡ core of
long_core of u h = ap core h.is ∙ length_core of h.size

pub commas_long : (x y : StartTree) (ys : List StartTree)
    → length (with_commas start_kinds (x ∷ y ∷ ys)) ≡ length (start_kinds x) + 1 + length (with_commas start_kinds (y ∷ ys))
commas_long x y ys = omega (
  arith,
  length-append (start_kinds x) (after_commas start_kinds (y ∷ ys)),
  length-append (a_sign sign.Comma ++ start_kinds y) (after_commas start_kinds ys),
  length-append (start_kinds y) (after_commas start_kinds ys),
)

module _ (tree : SourceTree) (z : Walk) where
  pub all_whole_more : (types : List TypeTree) (of : TypeTree) → AllWhole tree z types → Whole tree z of → AllWhole tree z (types ++ of ∷ [])
  all_whole_more [] of h k = (k, tt)
  all_whole_more (u ∷ types) of h k = (h.0, all_whole_more types of h.1 k)

  all_whole_set : (types : List TypeTree) (i : ℕ) (of : TypeTree) → AllWhole tree z types → Whole tree z of → AllWhole tree z (slice_set types i of)
  all_whole_set [] i of h k = tt
  all_whole_set (u ∷ types) zero of h k = (k, h.1)
  all_whole_set (u ∷ types) (suc i) of h k = (h.0, all_whole_set types i of h.1 k)

  if_whole : (b : Bool) (xs ys : List TypeTree) → AllWhole tree z xs → AllWhole tree z ys → AllWhole tree z (if b then xs else ys)
  if_whole true xs ys h k = h
  if_whole false xs ys h k = k

  pub all_whole_replaced : (types : List TypeTree) (i : ℕ) (of : TypeTree) → AllWhole tree z types → Whole tree z of → AllWhole tree z (item_replaced types i of)
  all_whole_replaced types i of h k = if_whole (nat_lt i (length types)) (slice_set types i of) types (all_whole_set types i of h k) h

  -- a variable of the running function: its slot, its place among all variables, and its type where that is known whole
  abbrev pub IsDeclared : ℕ → ℕ → TypeTree → ℕ → Type 0
  IsDeclared token index of c = IsLocal (facts tree z) none c ((facts tree z).slot_at token) × (note_at z.variables_at token ≡ Some index)
      × (is_complete z.structs of ≡ true → slice_get z.declared_types index ≡ Some of)

  local_is : (c index locals token : ℕ) (name : List ℕ) → locals + 1 ≤ c → note_at z.types token ≡ None → note_at z.variables_at token ≡ Some index
      → slice_get z.variables index ≡ Some (record { name = name; variable = variable.Local locals; from = token })
      → IsLocal (facts tree z) none c ((facts tree z).slot_at token)
  local_is c index locals token name h n k e =
      subst (IsLocal (facts tree z) none c)
      (sym (slot_declared tree z token n ∙ ap (λ o. option_map slot_of (option_and_then (λ place. option_map variable_of (slice_get z.variables place)) o)) k
      ∙ ap (λ o. option_map slot_of (option_map variable_of o)) e)) (omega (arith, h))

  abbrev entry_of : ℕ → List ℕ → Walk → VariableEntry
  entry_of token name w = record { name = name; variable = variable.Local w.locals; from = token }

  pub variable_noted : (token : ℕ) (name : List ℕ) (of : TypeTree) (w : Walk) → token < length w.variables_at → note_at w.types token ≡ None
      → length w.declared_types ≡ length w.variables → Whole tree z of
      → Part tree z token (token + 1) w (with_variable false token name of w) (IsDeclared token (length w.variables) of)
  variable_noted token name of w h bare long whole = record {
    keeps = record {
      types = refl;
      variables_at = length_replaced w.variables_at token (Some (length w.variables));
      offsets_at = refl;
      functions_at = refl;
      structs = refl;
      tags = refl;
      functions = refl;
      scope = refl;
      variables = λ i x k. get_before w.variables i x (entry_of token name w) k;
      declared = λ i x k. get_before w.declared_types i x of k;
      locals = omega arith;
      count = omega (arith, length-append w.variables (entry_of token name w ∷ []));
      wholes = λ k. all_whole_more w.declared_types of k whole;
      long = λ k. omega (arith, k, length-append w.variables (entry_of token name w ∷ []), length-append w.declared_types (of ∷ []));
      slots = λ k. (
        here,
        slots_more w.locals (w.locals + 1) w.variables (w.variables ++ entry_of token name w ∷ []) w.names (omega arith)
            (λ i x l. get_before w.variables i x (entry_of token name w) l) k,
      );
    };
    below = λ q l. apart q (λ x. omega (arith, x, l));
    above = λ q l. apart q (λ x. omega (arith, x, l));
    holds = λ c g.
        let notes : Same (with_variable false token name of w) z token = g.notes token (omega arith) (omega arith) in
        let at : note_at z.variables_at token ≡ Some (length w.variables) = notes.variables ∙ noted_same w.variables_at token (length w.variables) h in (
          local_is c (length w.variables) w.locals token name g.locals (notes.types ∙ bare) at
              (g.variables (length w.variables) (entry_of token name w) (get_last w.variables (entry_of token name w))),
          at,
          λ m. g.declared (length w.variables) of last m,
        );
    marks = marks_declared token name of w;
  }
    where
      last : slice_get (w.declared_types ++ of ∷ []) (length w.variables) ≡ Some of
      last = subst (λ n. slice_get (w.declared_types ++ of ∷ []) n ≡ Some of) long (get_last w.declared_types of)

      here : IsSlot (w.locals + 1) (slice_get (w.variables ++ entry_of token name w ∷ []) (length w.variables))
      here = rw (get_last w.variables (entry_of token name w)) (omega arith)

      apart : (q : ℕ) → (token ≡ q → ⊥) → Same w (with_variable false token name of w) q
      apart q x = record {
        types = refl;
        variables = noted_other w.variables_at token q (Some (length w.variables)) x;
        offsets = refl;
        functions = refl;
      }

  -- the variable with this number gets its length from its initialiser
  retyped_same : (index : ℕ) (of : TypeTree) (w : Walk) (token : ℕ) → Same w (with_declared_type index of w) token
  retyped_same index of w token = record { types = refl; variables = refl; offsets = refl; functions = refl }

  pub apart_of : (types : List TypeTree) (index i : ℕ) (old of : TypeTree) → slice_get types index ≡ Some old → is_complete z.structs old ≡ false
      → slice_get types i ≡ Some of → is_complete z.structs of ≡ true → index ≡ i → ⊥
  apart_of types index i old of h k l m e =
      let same : old ≡ of = same_Some old of (sym h ∙ ap (slice_get types) e ∙ l) in
      true≢false (sym m ∙ ap (is_complete z.structs) (sym same) ∙ k)

  agrees_retyped : (count lo hi index : ℕ) (old of : TypeTree) (w : Walk) → slice_get w.declared_types index ≡ Some old → is_complete z.structs old ≡ false
      → Agrees tree z count lo hi (with_declared_type index of w) → Agrees tree z count lo hi w
  agrees_retyped count lo hi index old of w h k a = record {
    notes = λ token p q. same_then (retyped_same index of w token) (a.notes token p q);
    variables = a.variables;
    declared = λ i x l m. a.declared i x (replaced_other w.declared_types index i of (apart_of w.declared_types index i old x h k l m) ∙ l) m;
    functions = a.functions;
    locals = a.locals;
  }

  pub retyped : {P : ℕ → Type 0} (lo hi index : ℕ) (old of : TypeTree) (w v : Walk) → Part tree z lo hi w v P → slice_get v.declared_types index ≡ Some old
      → is_complete z.structs old ≡ false → length w.declared_types ≤ index → Whole tree z of → is_complete z.structs of ≡ true
      → Part tree z lo hi w (with_declared_type index of v) (λ c. P c × (slice_get z.declared_types index ≡ Some of))
  retyped lo hi index old of w v a h k behind whole complete = record {
    keeps = record {
      types = a.keeps.types;
      variables_at = a.keeps.variables_at;
      offsets_at = a.keeps.offsets_at;
      functions_at = a.keeps.functions_at;
      structs = a.keeps.structs;
      tags = a.keeps.tags;
      functions = a.keeps.functions;
      scope = a.keeps.scope;
      variables = a.keeps.variables;
      declared = λ i x l. replaced_other v.declared_types index i of (λ e. omega (arith, e, behind, slice_get_within w.declared_types i x l))
          ∙ a.keeps.declared i x l;
      locals = a.keeps.locals;
      count = a.keeps.count;
      wholes = λ l. all_whole_replaced v.declared_types index of (a.keeps.wholes l) whole;
      long = λ l. length_replaced v.declared_types index of ∙ a.keeps.long l;
      slots = a.keeps.slots;
    };
    below = λ token l. same_then (a.below token l) (retyped_same index of v token);
    above = λ token l. same_then (a.above token l) (retyped_same index of v token);
    holds = λ c g. (
      a.holds c (agrees_retyped c lo hi index old of v h k g),
      g.declared index of (replaced_same v.declared_types index of (slice_get_within v.declared_types index old h)) complete,
    );
    marks = marks_then a.marks (marks_plain lo hi v (with_declared_type index of v) refl refl refl refl refl (λ n p q. q));
  }

  pub declared_is : (token index : ℕ) (of : TypeTree) → note_at z.variables_at token ≡ Some index → slice_get z.declared_types index ≡ Some of
      → declared_at z token ≡ Some of
  declared_is token index of h k = ap (λ o. option_and_then (λ place. slice_get z.declared_types place) o) h ∙ k

module _ (tree : SourceTree) (z : Walk) (ends : Ended tree z) where
  abbrev pub StartFits : StartTree → ℕ → Type 0
  StartFits x c = IsLocal (facts tree z) none c ((facts tree z).slot_at x.declarator.name_token)
      × TypedInitial (facts tree z) none c x.declarator.name_token x.initial

  abbrev pub GoodStart : ℕ → StartTree → Walk → Done → Walk → Type 0
  GoodStart at x w done v = Part tree z at (at + length (start_kinds x)) w v (StartFits x)

  -- before the initialiser
  named_part : (x : StartTree) (at : ℕ) (of : TypeTree) (w : Walk) → StartAt at x → Ready tree z at (at + length (start_kinds x)) w → Whole tree z of
      → Part tree z at (at + length (declarator_kinds x.declarator)) w (with_variable false x.declarator.name_token x.declarator.name of w)
      (IsDeclared tree z x.declarator.name_token (length w.variables) of)
  named_part x at of w p r whole =
      let inside : x.declarator.stars + 1 ≤ length (declarator_kinds x.declarator) = declarator-length x.declarator in
      wider {lo = x.declarator.name_token} {hi = x.declarator.name_token + 1}
      (variable_noted tree z x.declarator.name_token x.declarator.name of w
      (omega (arith, p.1.1, inside, r.variables_at, length-append (declarator_kinds x.declarator) (equals_kinds x.initial)))
      (r.bare x.declarator.name_token (omega (arith, p.1.1))) r.long whole)
      (omega (arith, p.1.1)) (omega (arith, p.1.1, inside))

  closed_good : (x : StartTree) (at : ℕ) (base of : TypeTree) (w : Walk) → ShapedStart x → StartAt at x
      → AllByRecursion (Spelled tree) (strings_initial x.initial) → Ready tree z at (at + length (start_kinds x)) w → Deep tree z (core of)
      → Gives (walk_closed false x of w) (GoodStart at x w)
  closed_good x at base of w q p l r d =
      let long : length (start_kinds x) ≡ length (declarator_kinds x.declarator) + length (equals_kinds x.initial) =
      length-append (declarator_kinds x.declarator) (equals_kinds x.initial) in
      sized_then x.token of w (λ _ v.
      walk_initial false of x.initial (with_variable false x.declarator.name_token x.declarator.name of v) >>= λ _ u. Fine tt u) (λ object.
      let size : Sized z.structs of = object_stays w.structs z.structs of r.grows r.structs object in
      let first = named_part x at of w p r (whole_by tree z of d size) in
      and_then (initial_good tree z ends false x.initial (at + length (declarator_kinds x.declarator)) x.declarator.name_token of
      (with_variable false x.declarator.name_token x.declarator.name of w) q p.2 l
      (ready_after r first (omega arith) (omega arith) (omega arith)
      (at + length (declarator_kinds x.declarator) + length (equals_kinds x.initial)) (omega (arith, long)))) (λ u v g. record {
        by = so (wider {lo = at} {hi = at + length (declarator_kinds x.declarator) + length (equals_kinds x.initial)}
            (rightwards {lo = at} {mid = at + length (declarator_kinds x.declarator)} first g.part (omega arith) (omega arith)) (omega arith)
            (omega (arith, long)))
            (λ c n. (
              n.0.0,
              n.1 (length_of of) (declared_is tree z x.declarator.name_token (length w.variables) of n.0.1 (n.0.2 size.complete)
                  ∙ ap (λ y. Some y) (sym (length_back of))),
            ));
      }))

  open_good : (x : StartTree) (at : ℕ) (base of : TypeTree) (w : Walk) → ShapedStart x → StartAt at x
      → AllByRecursion (Spelled tree) (strings_initial x.initial) → Ready tree z at (at + length (start_kinds x)) w → Deep tree z (core of)
      → is_open w.structs of ≡ true → Gives (walk_open false x of w) (GoodStart at x w)
  open_good x at base of w q p l r d e =
      let long : length (start_kinds x) ≡ length (declarator_kinds x.declarator) + length (equals_kinds x.initial) =
      length-append (declarator_kinds x.declarator) (equals_kinds x.initial) in
      let unknown : Open tree z of = open_by tree z w.structs of r.grows r.structs e d in
      let first = named_part x at of w p r unknown.whole in
      and_then (initial_good tree z ends false x.initial (at + length (declarator_kinds x.declarator)) x.declarator.name_token of
      (with_variable false x.declarator.name_token x.declarator.name of w) q p.2 l
      (ready_after r first (omega arith) (omega arith) (omega arith)
      (at + length (declarator_kinds x.declarator) + length (equals_kinds x.initial)) (omega (arith, long)))) (λ u v g.
      sized_then x.token u v (λ _ y. Fine tt (with_declared_type (length w.variables) u y)) (λ object.
      let both_parts = rightwards {lo = at} {mid = at + length (declarator_kinds x.declarator)} first g.part (omega arith) (omega arith) in
      let size : Sized z.structs u = object_stays v.structs z.structs u (rw both_parts.keeps.structs r.grows) (rw both_parts.keeps.structs r.structs) object in
      let here : slice_get v.declared_types (length w.variables) ≡ Some of = g.part.keeps.declared (length w.variables) of
      (subst (λ n. slice_get (w.declared_types ++ of ∷ []) n ≡ Some of) r.long (get_last w.declared_types of)) in
      record {
        by = so (wider {lo = at} {hi = at + length (declarator_kinds x.declarator) + length (equals_kinds x.initial)}
            (retyped tree z at (at + length (declarator_kinds x.declarator) + length (equals_kinds x.initial)) (length w.variables) of u w v both_parts
            here unknown.part (omega (arith, r.long)) (whole_by tree z u (rw (long_core of u g.long) d) size) size.complete) (omega arith)
            (omega (arith, long)))
            (λ c n. (
              n.0.0.0,
              n.0.1 g.long.size (declared_is tree z x.declarator.name_token (length w.variables) u n.0.0.1 n.1 ∙ ap (λ y. Some y) g.long.is),
            ));
      }))

  typed_good : (x : StartTree) (at : ℕ) (base : TypeTree) (o : Option TypeTree) (w : Walk) → ShapedStart x → StartAt at x
      → AllByRecursion (Spelled tree) (strings_initial x.initial) → Ready tree z at (at + length (start_kinds x)) w
      → ((of : TypeTree) → o ≡ Some of → Deep tree z (core of)) → Gives (walk_typed false x o w) (GoodStart at x w)
  unfolding walk_typed
  typed_good x at base None w q p l r d = record { by = tt }
  typed_good x at base (Some of) w q p l r d = either (is_some x.initial && is_open w.structs of) (is_open w.structs of) refl refl
    where
      either : (b k : Bool) → (is_some x.initial && is_open w.structs of) ≡ b → is_open w.structs of ≡ k
          → Gives (if b then walk_open false x of w else walk_closed false x of w) (GoodStart at x w)
      either true true h e = open_good x at base of w q p l r (d of refl) e
      either true false h e = absurd (false≢true (sym e ∙ (and_parts (is_some x.initial) (is_open w.structs of) h).1))
      either false k h e = closed_good x at base of w q p l r (d of refl)

  pub start_good : (x : StartTree) (at : ℕ) (base : TypeTree) (w : Walk) → ShapedStart x → StartAt at x
      → AllByRecursion (Spelled tree) (strings_initial x.initial) → Ready tree z at (at + length (start_kinds x)) w → Deep tree z base
      → Gives (walk_start false base x w) (GoodStart at x w)
  start_good x at base w q p l r d =
      if_faulty (is_name_taken x.declarator.name w.names) (walk_typed false x (declared_type x.declarator base) w) fault.Redeclared x.token (λ h.
      typed_good x at base (declared_type x.declarator base) w q p l r (λ of e. rw (declared_core x.declarator base of e)
      (core_deep tree z (with_stars x.declarator.stars base) (stars_deep tree z ends x.declarator.stars base d))))

  pub starts_good : (xs : List StartTree) (at : ℕ) (base : TypeTree) (w : Walk) → AllByRecursion ShapedStart xs → EachAt StartAt start_kinds 1 at xs
      → AllByRecursion (Spelled tree) (flat_map (λ x. strings_initial x.initial) xs) → Ready tree z at (at + length (with_commas start_kinds xs)) w
      → Deep tree z base
      → Gives (walk_starts false base xs w)
      (λ done v. Part tree z at (at + length (with_commas start_kinds xs)) w v (λ c. TypedStarts (facts tree z) none c xs))
  starts_good [] at base w q p l r d = record { by = nothing_noted at (at + length (with_commas start_kinds [])) w (λ c. tt) }
  starts_good (x ∷ []) at base w q p l r d =
      let long : length (with_commas start_kinds (x ∷ [])) ≡ length (start_kinds x) + 0 = length-append (start_kinds x) [] in
      and_then (start_good x at base w q.0 p.0 (all_first (Spelled tree) (strings_initial x.initial) [] l)
      (ready_in r at (at + length (start_kinds x)) (omega arith) (omega (arith, long))) d) (λ done v g. record {
        by = so (wider {lo = at} {hi = at + length (start_kinds x)} g (omega arith) (omega (arith, long))) (λ c n. (n.0, n.1, tt));
      })
  starts_good (x ∷ y ∷ ys) at base w q p l r d =
      let long : length (with_commas start_kinds (x ∷ y ∷ ys)) ≡ length (start_kinds x) + 1 + length (with_commas start_kinds (y ∷ ys)) = commas_long x y ys in
      and_then (start_good x at base w q.0 p.0 (all_first (Spelled tree) (strings_initial x.initial) (flat_map (λ x. strings_initial x.initial) (y ∷ ys)) l)
      (ready_in r at (at + length (start_kinds x)) (omega arith) (omega (arith, long))) d) (λ done v g.
      weaker (starts_good (y ∷ ys) (at + length (start_kinds x) + 1) base v q.1 p.1
      (all_second (Spelled tree) (strings_initial x.initial) (flat_map (λ x. strings_initial x.initial) (y ∷ ys)) l)
      (ready_after r g (omega arith) (omega arith) (omega arith) (at + length (start_kinds x) + 1 + length (with_commas start_kinds (y ∷ ys)))
      (omega (arith, long)))
      d) (λ next u k.
      so (wider {lo = at} {hi = at + length (start_kinds x) + 1 + length (with_commas start_kinds (y ∷ ys))}
      (rightwards {lo = at} {mid = at + length (start_kinds x) + 1} (wider g (omega arith) (omega arith)) k (omega arith) (omega arith)) (omega arith)
      (omega (arith, long))) (λ c n. (n.0.0, n.0.1, n.1))))

  -- a declaration in a function
  pub declaration_good : (x : DeclarationTree) (at : ℕ) (w : Walk) → ShapedDeclaration x → DeclarationAt at x
      → AllByRecursion (Spelled tree) (strings_declared x) → Ready tree z at (at + length (declaration_kinds x)) w
      → Gives (walk_declaration false x w)
      (λ done v. Part tree z at (at + length (declaration_kinds x)) w v (λ c. TypedStarts (facts tree z) none c x.starts))
  declaration_good x at w q p l r =
      let long : length (declaration_kinds x) ≡ length (base_kinds x.base) + length (with_commas start_kinds x.starts) + 1 = omega (
        arith,
        length-append (base_kinds x.base ++ with_commas start_kinds x.starts) (a_sign sign.Semicolon),
        length-append (base_kinds x.base) (with_commas start_kinds x.starts),
      ) in
      base_then tree z ends x.base w (λ b v. walk_starts false b x.starts v) r.tags (λ of d is.
      weaker (starts_good x.starts (at + length (base_kinds x.base)) of w q.1 p.2 l
      (ready_in r (at + length (base_kinds x.base)) (at + length (base_kinds x.base) + length (with_commas start_kinds x.starts)) (omega arith)
      (omega (arith, long)))
      d) (λ done v g. wider g (omega arith) (omega (arith, long))))
