-- Globals: what is noted of each, and its initialiser.
use Rattle.std.proofs.Common.{◌≡◌, ℕ, ◌≤◌, ◌<◌, refl, ap, subst, sym, ◌∙◌, arith, List, [], ◌∷◌, ◌++◌, Some, None, ◌+◌, Bool, true, false, length}
use Rattle.std.proofs.Common.{length-append}
use Rattle.std.specs.Prelude.{Option, nat_le, slice_get, is_some, ◌&&◌, if◌then◌else◌}
use Rattle.std.specs.List.{AllByRecursion, flat_map}
use Rattle.std.proofs.lemmas.Bool.{false≢true, and_parts}
use Rattle.std.proofs.lemmas.Option.{slice_get_within}
use Rattle.c_types_expressions.proofs.Giving.{Gives as GivesIn}
use Rattle.c_types_expressions.proofs.Given.{Gives, and_then, weaker}
use Rattle.c_types.proofs.Replaced.{noted_other, noted_same, replaced_other, replaced_same}
use Rattle.sites.proofs.RisesBodies.{declarator-length}
use Rattle.base_lists.proofs.Lists.{get_last, Stays}
use Rattle.base_lists.proofs.Every.{all_first, all_second}
use Rattle.c_syntax.specs.Words.{SourceTree, StartTree, DeclarationTree, DeclarationAt, EachAt, StartAt, ShapedDeclaration, ShapedStart, a_sign, after_commas}
use Rattle.c_syntax.specs.Words.{base_kinds, declaration_kinds, declarator_kinds, start_kinds, with_commas}
use Rattle.c_syntax.specs.declared.token.Sign.TheVariants as sign
use Rattle.c_types_rules.specs.declared.fault.FaultKind.TheVariants as fault
use Rattle.c_types_rules.specs.Words.{TypeTree, cells_of, is_complete, is_object}
use Rattle.c_types_expressions.specs.declared.walk.Variable.TheVariants as variable
use Rattle.c_types_expressions.specs.declared.walk.VariableEntry.{VariableEntry}
use Rattle.c_types_expressions.specs.declared.walk.Walk.{Walk}
use Rattle.c_types.specs.Answers.{declared_at, note_at}
use Rattle.c_types_walk.specs.Declarators.{declared_type, is_open}
use Rattle.c_types_expressions.specs.Words.{with_stars, is_name_taken, Walked, Done, Fine, Faulty, ◌>>=◌, with_variable}
use Rattle.c_types_walk.specs.Initialisers.{length_of, walk_initial, with_length}
use Rattle.c_types.specs.Parts.{declaration_parts}
use Rattle.c_types_walk.specs.StatementWalk.{object_type_checked, walk_closed, walk_declaration, walk_open, walk_start, walk_starts, walk_typed, with_declared_type}
use Rattle.c_types.proofs.Noted.{Step, stage, length_replaced}
use Rattle.c_types.proofs.NotedStatements.{declaration_notes}
use Rattle.c_meaning.specs.Words.{facts_of, strings_declared, strings_initial}
use Rattle.c_meaning_laws.specs.TypedText.{TypedGlobal, TypedGlobals}
use Rattle.c_meaning_sound.specs.Accepted.{IsNegatable}
use Rattle.c_meaning_sound.proofs.Accepting.{GlobalGood}
use Rattle.c_meaning_sound.proofs.Constant.{OuterFits, outer_good}
use Rattle.c_meaning_sound.proofs.Declaring.{all_whole_more, all_whole_replaced, apart_of, commas_long, declared_is, get_before, if_faulty, long_core}
use Rattle.c_meaning_sound.proofs.Declaring.{slots_more}
use Rattle.c_meaning_sound.proofs.Expressions.{base_then, stars_deep}
use Rattle.c_meaning_sound.proofs.Forming.{Ended}
use Rattle.c_meaning_sound.proofs.Initialising.{equals_kinds, length_back}
use Rattle.c_meaning_sound.proofs.Items.{Standing, ready_of}
use Rattle.c_meaning_sound.proofs.Marking.{OuterMarks, Still, outer_marks_declared, outer_marks_still, outer_marks_then, outer_marks_wider, still_here}
use Rattle.c_meaning_sound.proofs.Noting.{AllSlots, AllWhole, Deep, Part, Ready, Same, StaysWhole, Whole}
use Rattle.c_meaning_sound.proofs.Noting.{ready_in, same_here, same_then}
use Rattle.c_meaning_sound.proofs.Reaching.{Grown, begun_stays, declaration_grown, definitions_same, grown_then, taken}
use Rattle.c_meaning_sound.proofs.Sizing.{Open, Sized, core, core_deep, declared_core, object_stays, open_by, whole_by}
use Rattle.c_meaning_sound.proofs.Texts.{Spelled}

module _ (tree : SourceTree) (z : Walk) where
  -- what each part of a declaration of globals leaves as it is
  pub record OuterKeeps (w v : Walk) : Type 0 where
    pub types : length v.types ≡ length w.types
    pub variables_at : length v.variables_at ≡ length w.variables_at
    pub offsets_at : length v.offsets_at ≡ length w.offsets_at
    pub functions_at : length v.functions_at ≡ length w.functions_at
    pub structs : v.structs ≡ w.structs
    pub tags : v.tags ≡ w.tags
    pub functions : v.functions ≡ w.functions
    pub variables : Stays w.variables v.variables
    pub declared : Stays w.declared_types v.declared_types
    pub wholes : AllWhole tree z w.declared_types → AllWhole tree z v.declared_types
    pub long : length w.declared_types ≡ length w.variables → length v.declared_types ≡ length v.variables
    pub slots : AllSlots 0 w.variables w.names → AllSlots 0 v.variables v.names

  -- what is known here is known at the end, and nothing is noted at these tokens later
  pub record Lasts (lo hi : ℕ) (v : Walk) : Type 0 where
    pub notes : (token : ℕ) → lo ≤ token → token < hi → Same v z token
    pub variables : Stays v.variables z.variables
    pub declared : StaysWhole tree z v.declared_types z.declared_types
    pub functions : Stays v.functions z.functions

  -- a part of a declaration of globals notes at these tokens alone, and this holds where nothing is noted there later
  pub record Outside (lo hi : ℕ) (w v : Walk) (P : Type 0) : Type 0 where
    pub keeps : OuterKeeps w v
    pub below : (token : ℕ) → token < lo → Same w v token
    pub above : (token : ℕ) → hi ≤ token → Same w v token
    pub holds : Lasts lo hi v → P
    pub marks : OuterMarks lo hi w v

module _ {tree : SourceTree} {z : Walk} where
  lasts_before : {lo hi l h : ℕ} {u v : Walk} → Lasts tree z lo hi v → OuterKeeps tree z u v → ((token : ℕ) → l ≤ token → token < h → Same u v token) → lo ≤ l
      → h ≤ hi → Lasts tree z l h u
  lasts_before a k s low high = record {
    notes = λ token p q. same_then (s token p q) (a.notes token (omega (arith, low, p)) (omega (arith, high, q)));
    variables = λ i x e. a.variables i x (k.variables i x e);
    declared = λ i of e m. a.declared i of (k.declared i of e) m;
    functions = λ i x e. a.functions i x (rw k.functions e);
  }

  lasts_in : {lo hi l h : ℕ} {v : Walk} → Lasts tree z lo hi v → lo ≤ l → h ≤ hi → Lasts tree z l h v
  lasts_in a low high = record {
    notes = λ token p q. a.notes token (omega (arith, low, p)) (omega (arith, high, q));
    variables = a.variables;
    declared = a.declared;
    functions = a.functions;
  }

  -- one part behind another
  outer_then : {lo mid hi : ℕ} {w u v : Walk} {P Q : Type 0} → Outside tree z lo mid w u P → Outside tree z mid hi u v Q → lo ≤ mid → mid ≤ hi
      → Outside tree z lo hi w v (P × Q)
  outer_then {lo = lo} {hi = hi} a b low high = record {
    keeps = record {
      types = b.keeps.types ∙ a.keeps.types;
      variables_at = b.keeps.variables_at ∙ a.keeps.variables_at;
      offsets_at = b.keeps.offsets_at ∙ a.keeps.offsets_at;
      functions_at = b.keeps.functions_at ∙ a.keeps.functions_at;
      structs = b.keeps.structs ∙ a.keeps.structs;
      tags = b.keeps.tags ∙ a.keeps.tags;
      functions = b.keeps.functions ∙ a.keeps.functions;
      variables = λ i x e. b.keeps.variables i x (a.keeps.variables i x e);
      declared = λ i x e. b.keeps.declared i x (a.keeps.declared i x e);
      wholes = λ h. b.keeps.wholes (a.keeps.wholes h);
      long = λ h. b.keeps.long (a.keeps.long h);
      slots = λ h. b.keeps.slots (a.keeps.slots h);
    };
    below = λ token h. same_then (a.below token h) (b.below token (omega (arith, low, h)));
    above = λ token h. same_then (a.above token (omega (arith, high, h))) (b.above token h);
    holds = λ g. (a.holds (lasts_before g b.keeps (λ token p q. b.below token q) (omega arith) high), b.holds (lasts_in g low (omega arith)));
    marks = outer_marks_then (outer_marks_wider lo hi a.marks (omega arith) high) (outer_marks_wider lo hi b.marks low (omega arith));
  }

  outer_so : {lo hi : ℕ} {w v : Walk} {P Q : Type 0} → Outside tree z lo hi w v P → (P → Q) → Outside tree z lo hi w v Q
  outer_so a h = record { keeps = a.keeps; below = a.below; above = a.above; holds = λ g. h (a.holds g); marks = a.marks }

  outer_wider : {lo hi l h : ℕ} {w v : Walk} {P : Type 0} → Outside tree z lo hi w v P → l ≤ lo → hi ≤ h → Outside tree z l h w v P
  outer_wider {l = l} {h = h} a low high = record {
    keeps = a.keeps;
    below = λ token p. a.below token (omega (arith, low, p));
    above = λ token p. a.above token (omega (arith, high, p));
    holds = λ g. a.holds (lasts_in g low high);
    marks = outer_marks_wider l h a.marks low high;
  }

  outer_here : {P : Type 0} (lo hi : ℕ) (w : Walk) → P → Outside tree z lo hi w w P
  outer_here lo hi w h = record {
    keeps = record {
      types = refl;
      variables_at = refl;
      offsets_at = refl;
      functions_at = refl;
      structs = refl;
      tags = refl;
      functions = refl;
      variables = λ i x e. e;
      declared = λ i x e. e;
      wholes = λ k. k;
      long = λ k. k;
      slots = λ k. k;
    };
    below = λ token l. same_here w token;
    above = λ token l. same_here w token;
    holds = λ g. h;
    marks = outer_marks_still lo hi w w (still_here w) (λ n p q. q);
  }

  -- the cells of all globals are counted
  cells_counted : (at n : ℕ) (w : Walk) → Outside tree z at at w (record w { global_cells = n }) (Unit {0})
  cells_counted at n w = record {
    keeps = record {
      types = refl;
      variables_at = refl;
      offsets_at = refl;
      functions_at = refl;
      structs = refl;
      tags = refl;
      functions = refl;
      variables = λ i x e. e;
      declared = λ i x e. e;
      wholes = λ k. k;
      long = λ k. k;
      slots = λ k. k;
    };
    below = λ token l. record { types = refl; variables = refl; offsets = refl; functions = refl };
    above = λ token l. record { types = refl; variables = refl; offsets = refl; functions = refl };
    holds = λ g. tt;
    marks = outer_marks_still at at w (record w { global_cells = n }) (record { names = refl; variables = refl; ends = refl; globals = refl }) (λ n p q. q);
  }

  -- an initialiser leaves the names as they are
  of_part : {lo hi : ℕ} {w v : Walk} {P : ℕ → Type 0} → Part tree z lo hi w v P → Still w v → Outside tree z lo hi w v (P v.locals)
  of_part {lo = lo} {hi = hi} {w = w} {v = v} p still = record {
    keeps = record {
      types = p.keeps.types;
      variables_at = p.keeps.variables_at;
      offsets_at = p.keeps.offsets_at;
      functions_at = p.keeps.functions_at;
      structs = p.keeps.structs;
      tags = p.keeps.tags;
      functions = p.keeps.functions;
      variables = p.keeps.variables;
      declared = p.keeps.declared;
      wholes = p.keeps.wholes;
      long = p.keeps.long;
      slots = λ h. subst (AllSlots 0 v.variables) (sym still.names) (slots_more 0 0 w.variables v.variables w.names (omega arith) p.keeps.variables h);
    };
    below = p.below;
    above = p.above;
    holds = λ g. p.holds v.locals (record {
      notes = g.notes;
      variables = g.variables;
      declared = g.declared;
      functions = g.functions;
      locals = omega arith;
    });
    marks = outer_marks_still lo hi w v still p.marks.latest;
  }

  -- before the next part
  ready_outside : {lo hi l m h : ℕ} {w v : Walk} {P : Type 0} → Ready tree z lo hi w → AllSlots 0 w.variables w.names → Outside tree z l m w v P → lo ≤ l
      → m ≤ h
      → lo ≤ h → (to : ℕ) → to ≤ hi → Ready tree z h to v
  ready_outside {v = v} r s p low mid first to high = record {
    types = rw p.keeps.types (omega (arith, r.types, high));
    variables_at = rw p.keeps.variables_at (omega (arith, r.variables_at, high));
    offsets_at = rw p.keeps.offsets_at (omega (arith, r.offsets_at, high));
    functions_at = rw p.keeps.functions_at (omega (arith, r.functions_at, high));
    fresh = λ token q. (p.above token (omega (arith, mid, q))).functions ∙ r.fresh token (omega (arith, first, q));
    bare = λ token q. (p.above token (omega (arith, mid, q))).types ∙ r.bare token (omega (arith, first, q));
    wholes = p.keeps.wholes r.wholes;
    long = p.keeps.long r.long;
    slots = slots_more 0 v.locals v.variables v.variables v.names (omega arith) (λ i x e. e) (p.keeps.slots s);
    grows = rw p.keeps.structs r.grows;
    structs = rw p.keeps.structs r.structs;
    functions = rw p.keeps.functions r.functions;
    tags = rw p.keeps.tags r.tags;
  }

counted_by : {A : Type 0} {Q : A → Walk → Type 0} (b c : Bool) (token n : ℕ) (w : Walk) (k : Done → Walk → Walked A)
    → (b ≡ true → Gives (k tt (record w { global_cells = n })) Q)
    → Gives ((if b then if c then Fine tt (record w { global_cells = n }) else Faulty fault.Object token else Faulty fault.Object token) >>= k) Q
counted_by true true token n w k h = h refl
counted_by true false token n w k h = record { by = tt }
counted_by false c token n w k h = record { by = tt }

sized_outside : {A : Type 0} {Q : A → Walk → Type 0} (token : ℕ) (of : TypeTree) (w : Walk) (k : Done → Walk → Walked A)
    → (is_object w.structs of ≡ true → Gives (k tt (record w { global_cells = w.global_cells + cells_of w.structs of })) Q) → Gives
    (object_type_checked true token of w >>= k) Q
sized_outside token of w k h =
    counted_by (is_object w.structs of) (nat_le (w.global_cells + cells_of w.structs of) 1048576) token (w.global_cells + cells_of w.structs of) w k h

module _ (tree : SourceTree) (z : Walk) where
  -- a global: its place among all variables, and its type where that is known whole
  abbrev IsGlobal : ℕ → ℕ → TypeTree → Type 0
  IsGlobal token index of = (note_at z.variables_at token ≡ Some index) × (is_complete z.structs of ≡ true → slice_get z.declared_types index ≡ Some of)

  abbrev global_entry : ℕ → List ℕ → Walk → VariableEntry
  global_entry token name w = record { name = name; variable = variable.Global w.globals; from = token }

  global_noted : (token : ℕ) (name : List ℕ) (of : TypeTree) (w : Walk) → token < length w.variables_at → length w.declared_types ≡ length w.variables
      → Whole tree z of → Outside tree z token (token + 1) w (with_variable true token name of w) (IsGlobal token (length w.variables) of)
  global_noted token name of w h long whole = record {
    keeps = record {
      types = refl;
      variables_at = length_replaced w.variables_at token (Some (length w.variables));
      offsets_at = refl;
      functions_at = refl;
      structs = refl;
      tags = refl;
      functions = refl;
      variables = λ i x k. get_before w.variables i x (global_entry token name w) k;
      declared = λ i x k. get_before w.declared_types i x of k;
      wholes = λ k. all_whole_more tree z w.declared_types of k whole;
      long = λ k. omega (arith, k, length-append w.variables (global_entry token name w ∷ []), length-append w.declared_types (of ∷ []));
      slots = λ k. (
        rw (get_last w.variables (global_entry token name w)) tt,
        slots_more 0 0 w.variables (w.variables ++ global_entry token name w ∷ []) w.names (omega arith)
            (λ i x l. get_before w.variables i x (global_entry token name w) l) k,
      );
    };
    below = λ q l. apart q (λ x. omega (arith, x, l));
    above = λ q l. apart q (λ x. omega (arith, x, l));
    holds = λ g. (
      (g.notes token (omega arith) (omega arith)).variables ∙ noted_same w.variables_at token (length w.variables) h,
      λ m. g.declared (length w.variables) of last m,
    );
    marks = outer_marks_declared token name of w;
  }
    where
      last : slice_get (w.declared_types ++ of ∷ []) (length w.variables) ≡ Some of
      last = subst (λ n. slice_get (w.declared_types ++ of ∷ []) n ≡ Some of) long (get_last w.declared_types of)

      apart : (q : ℕ) → (token ≡ q → ⊥) → Same w (with_variable true token name of w) q
      apart q x = record {
        types = refl;
        variables = noted_other w.variables_at token q (Some (length w.variables)) x;
        offsets = refl;
        functions = refl;
      }

  -- a global gets its length from its initialiser
  outer_retyped : {P : Type 0} (lo hi index : ℕ) (old of : TypeTree) (w v : Walk) → Outside tree z lo hi w v P → slice_get v.declared_types index ≡ Some old
      → is_complete z.structs old ≡ false → length w.declared_types ≤ index → Whole tree z of → is_complete z.structs of ≡ true
      → Outside tree z lo hi w (with_declared_type index of v) (P × (slice_get z.declared_types index ≡ Some of))
  outer_retyped lo hi index old of w v a h k behind whole complete = record {
    keeps = record {
      types = a.keeps.types;
      variables_at = a.keeps.variables_at;
      offsets_at = a.keeps.offsets_at;
      functions_at = a.keeps.functions_at;
      structs = a.keeps.structs;
      tags = a.keeps.tags;
      functions = a.keeps.functions;
      variables = a.keeps.variables;
      declared = λ i x l. replaced_other v.declared_types index i of (λ e. omega (arith, e, behind, slice_get_within w.declared_types i x l))
          ∙ a.keeps.declared i x l;
      wholes = λ l. all_whole_replaced tree z v.declared_types index of (a.keeps.wholes l) whole;
      long = λ l. length_replaced v.declared_types index of ∙ a.keeps.long l;
      slots = a.keeps.slots;
    };
    below = λ token l. same_then (a.below token l) (here token);
    above = λ token l. same_then (a.above token l) (here token);
    holds = λ g. (
      a.holds (record {
        notes = λ token p q. same_then (here token) (g.notes token p q);
        variables = g.variables;
        declared = λ i x l m. g.declared i x (replaced_other v.declared_types index i of (apart_of tree z v.declared_types index i old x h k l m) ∙ l) m;
        functions = g.functions;
      }),
      g.declared index of (replaced_same v.declared_types index of (slice_get_within v.declared_types index old h)) complete,
    );
    marks = outer_marks_then a.marks
        (outer_marks_still lo hi v (with_declared_type index of v) (record { names = refl; variables = refl; ends = refl; globals = refl }) (λ n p q. q));
  }
    where
      here : (token : ℕ) → Same v (with_declared_type index of v) token
      here token = record { types = refl; variables = refl; offsets = refl; functions = refl }

module _ (tree : SourceTree) (z : Walk) (ends : Ended tree z) where
  abbrev GlobalFits : StartTree → Type 0
  GlobalFits x = TypedGlobal (facts_of tree z) z x (declared_at z x.declarator.name_token)

  abbrev GoodGlobal : ℕ → StartTree → Walk → Done → Walk → Type 0
  GoodGlobal at x w done v = Outside tree z at (at + length (start_kinds x)) w v (GlobalFits x)

  global_fits : (x : StartTree) (index n : ℕ) (of : TypeTree) → note_at z.variables_at x.declarator.name_token ≡ Some index
      → slice_get z.declared_types index ≡ Some (with_length n of)
      → (declared_at z x.declarator.name_token ≡ Some (with_length n of) → OuterFits tree z ends x.initial (with_length n of)) → GlobalFits x
  global_fits x index n of h k f =
      let d : declared_at z x.declarator.name_token ≡ Some (with_length n of) = declared_is tree z x.declarator.name_token index (with_length n of) h k in
      subst (TypedGlobal (facts_of tree z) z x) (sym d) (f d)

  -- before the initialiser
  named_outside : (x : StartTree) (at : ℕ) (of : TypeTree) (w : Walk) → StartAt at x → Ready tree z at (at + length (start_kinds x)) w → Whole tree z of
      → Outside tree z at (at + length (declarator_kinds x.declarator)) w (with_variable true x.declarator.name_token x.declarator.name of w)
      (IsGlobal tree z x.declarator.name_token (length w.variables) of)
  named_outside x at of w p r whole =
      let inside : x.declarator.stars + 1 ≤ length (declarator_kinds x.declarator) = declarator-length x.declarator in
      outer_wider {lo = x.declarator.name_token} {hi = x.declarator.name_token + 1}
      (global_noted tree z x.declarator.name_token x.declarator.name of w
      (omega (arith, p.1.1, inside, r.variables_at, length-append (declarator_kinds x.declarator) (equals_kinds x.initial))) r.long whole)
      (omega (arith, p.1.1)) (omega (arith, p.1.1, inside))

  abbrev Negatable : StartTree → Type 0
  Negatable x = AllByRecursion IsNegatable (equals_kinds x.initial)

  closed_outside : (x : StartTree) (at : ℕ) (of : TypeTree) (w : Walk) → ShapedStart x → StartAt at x
      → AllByRecursion (Spelled tree) (strings_initial x.initial) → Negatable x → Ready tree z at (at + length (start_kinds x)) w
      → AllSlots 0 w.variables w.names → Deep tree z (core of) → Gives (walk_closed true x of w) (GoodGlobal at x w)
  closed_outside x at of w q p l i r o d =
      let long : length (start_kinds x) ≡ length (declarator_kinds x.declarator) + length (equals_kinds x.initial) =
      length-append (declarator_kinds x.declarator) (equals_kinds x.initial) in
      sized_outside x.token of w (λ _ v.
      walk_initial true of x.initial (with_variable true x.declarator.name_token x.declarator.name of v) >>= λ _ u. Fine tt u) (λ object.
      let size : Sized z.structs of = object_stays w.structs z.structs of r.grows r.structs object in
      let y : Walk = record w { global_cells = w.global_cells + cells_of w.structs of } in
      let cells : Outside tree z at at w y (Unit {0}) = cells_counted at (w.global_cells + cells_of w.structs of) w in
      let first = outer_then {lo = at} {mid = at} cells
      (named_outside x at of y p (ready_outside r o cells (omega arith) (omega arith) (omega arith) (at + length (start_kinds x)) (omega arith))
      (whole_by tree z of d size)) (omega arith) (omega arith) in
      and_then (outer_good tree z ends x.initial (at + length (declarator_kinds x.declarator)) x.declarator.name_token of
      (with_variable true x.declarator.name_token x.declarator.name of y) q p.2 l i
      (ready_outside r o first (omega arith) (omega arith) (omega arith)
      (at + length (declarator_kinds x.declarator) + length (equals_kinds x.initial)) (omega (arith, long)))) (λ u v g. record {
        by = outer_so (outer_wider {lo = at} {hi = at + length (declarator_kinds x.declarator) + length (equals_kinds x.initial)}
            (outer_then {lo = at} {mid = at + length (declarator_kinds x.declarator)} first (of_part g.part g.still) (omega arith) (omega arith)) (omega arith)
            (omega (arith, long)))
            (λ n. global_fits x (length w.variables) (length_of of) of n.0.1.0 (n.0.1.1 size.complete ∙ ap (λ y. Some y) (sym (length_back of)))
            (n.1 (length_of of)));
      }))

  open_outside : (x : StartTree) (at : ℕ) (of : TypeTree) (w : Walk) → ShapedStart x → StartAt at x
      → AllByRecursion (Spelled tree) (strings_initial x.initial) → Negatable x → Ready tree z at (at + length (start_kinds x)) w
      → AllSlots 0 w.variables w.names → Deep tree z (core of) → is_open w.structs of ≡ true → Gives (walk_open true x of w) (GoodGlobal at x w)
  open_outside x at of w q p l i r o d e =
      let long : length (start_kinds x) ≡ length (declarator_kinds x.declarator) + length (equals_kinds x.initial) =
      length-append (declarator_kinds x.declarator) (equals_kinds x.initial) in
      let unknown : Open tree z of = open_by tree z w.structs of r.grows r.structs e d in
      let first = named_outside x at of w p r unknown.whole in
      and_then (outer_good tree z ends x.initial (at + length (declarator_kinds x.declarator)) x.declarator.name_token of
      (with_variable true x.declarator.name_token x.declarator.name of w) q p.2 l i
      (ready_outside r o first (omega arith) (omega arith) (omega arith)
      (at + length (declarator_kinds x.declarator) + length (equals_kinds x.initial)) (omega (arith, long)))) (λ u v g.
      sized_outside x.token u v (λ _ y. Fine tt (with_declared_type (length w.variables) u y)) (λ object.
      let two = outer_then {lo = at} {mid = at + length (declarator_kinds x.declarator)} first (of_part g.part g.still) (omega arith) (omega arith) in
      let all = outer_then {lo = at} {mid = at + length (declarator_kinds x.declarator) + length (equals_kinds x.initial)} two
      (cells_counted (at + length (declarator_kinds x.declarator) + length (equals_kinds x.initial)) (v.global_cells + cells_of v.structs u) v) (omega arith)
      (omega arith) in
      let size : Sized z.structs u = object_stays v.structs z.structs u (rw two.keeps.structs r.grows) (rw two.keeps.structs r.structs) object in
      let here : slice_get v.declared_types (length w.variables) ≡ Some of = g.part.keeps.declared (length w.variables) of
      (subst (λ n. slice_get (w.declared_types ++ of ∷ []) n ≡ Some of) r.long (get_last w.declared_types of)) in
      record {
        by = outer_so (outer_wider {lo = at} {hi = at + length (declarator_kinds x.declarator) + length (equals_kinds x.initial)}
            (outer_retyped tree z at (at + length (declarator_kinds x.declarator) + length (equals_kinds x.initial)) (length w.variables) of u w
            (record v { global_cells = v.global_cells + cells_of v.structs u }) all here unknown.part (omega (arith, r.long))
            (whole_by tree z u (rw (long_core of u g.long) d) size) size.complete) (omega arith) (omega (arith, long)))
            (λ n. global_fits x (length w.variables) g.long.size of n.0.0.0.0 (n.1 ∙ ap (λ y. Some y) g.long.is) (n.0.0.1 g.long.size));
      }))

  typed_outside : (x : StartTree) (at : ℕ) (b : Option TypeTree) (w : Walk) → ShapedStart x → StartAt at x
      → AllByRecursion (Spelled tree) (strings_initial x.initial) → Negatable x → Ready tree z at (at + length (start_kinds x)) w
      → AllSlots 0 w.variables w.names → ((of : TypeTree) → b ≡ Some of → Deep tree z (core of)) → Gives (walk_typed true x b w) (GoodGlobal at x w)
  unfolding walk_typed
  typed_outside x at None w q p l i r o d = record { by = tt }
  typed_outside x at (Some of) w q p l i r o d = either (is_some x.initial && is_open w.structs of) (is_open w.structs of) refl refl
    where
      either : (b k : Bool) → (is_some x.initial && is_open w.structs of) ≡ b → is_open w.structs of ≡ k
          → Gives (if b then walk_open true x of w else walk_closed true x of w) (GoodGlobal at x w)
      either true true h e = open_outside x at of w q p l i r o (d of refl) e
      either true false h e = absurd (false≢true (sym e ∙ (and_parts (is_some x.initial) (is_open w.structs of) h).1))
      either false k h e = closed_outside x at of w q p l i r o (d of refl)

  start_outside : (x : StartTree) (at : ℕ) (base : TypeTree) (w : Walk) → ShapedStart x → StartAt at x
      → AllByRecursion (Spelled tree) (strings_initial x.initial) → Negatable x → Ready tree z at (at + length (start_kinds x)) w
      → AllSlots 0 w.variables w.names → Deep tree z base → Gives (walk_start true base x w) (GoodGlobal at x w)
  start_outside x at base w q p l i r o d =
      if_faulty (is_name_taken x.declarator.name w.names) (walk_typed true x (declared_type x.declarator base) w) fault.Redeclared x.token (λ h.
      typed_outside x at (declared_type x.declarator base) w q p l i r o (λ of e. rw (declared_core x.declarator base of e)
      (core_deep tree z (with_stars x.declarator.stars base) (stars_deep tree z ends x.declarator.stars base d))))

  starts_outside : (xs : List StartTree) (at : ℕ) (base : TypeTree) (w : Walk) → AllByRecursion ShapedStart xs → EachAt StartAt start_kinds 1 at xs
      → AllByRecursion (Spelled tree) (flat_map (λ x. strings_initial x.initial) xs) → AllByRecursion IsNegatable (with_commas start_kinds xs)
      → Ready tree z at (at + length (with_commas start_kinds xs)) w → AllSlots 0 w.variables w.names → Deep tree z base
      → Gives (walk_starts true base xs w)
      (λ done v. Outside tree z at (at + length (with_commas start_kinds xs)) w v (TypedGlobals (facts_of tree z) z xs))
  starts_outside [] at base w q p l i r o d = record { by = outer_here at (at + length (with_commas start_kinds [])) w tt }
  starts_outside (x ∷ []) at base w q p l i r o d =
      let long : length (with_commas start_kinds (x ∷ [])) ≡ length (start_kinds x) + 0 = length-append (start_kinds x) [] in
      and_then (start_outside x at base w q.0 p.0 (all_first (Spelled tree) (strings_initial x.initial) [] l)
      (all_second IsNegatable (declarator_kinds x.declarator) (equals_kinds x.initial) (all_first IsNegatable (start_kinds x) [] i))
      (ready_in r at (at + length (start_kinds x)) (omega arith) (omega (arith, long))) o d) (λ done v g. record {
        by = outer_so (outer_wider {lo = at} {hi = at + length (start_kinds x)} g (omega arith) (omega (arith, long))) (λ n. (n, tt));
      })
  starts_outside (x ∷ y ∷ ys) at base w q p l i r o d =
      let long : length (with_commas start_kinds (x ∷ y ∷ ys)) ≡ length (start_kinds x) + 1 + length (with_commas start_kinds (y ∷ ys)) = commas_long x y ys in
      and_then (start_outside x at base w q.0 p.0 (all_first (Spelled tree) (strings_initial x.initial) (flat_map (λ x. strings_initial x.initial) (y ∷ ys)) l)
      (all_second IsNegatable (declarator_kinds x.declarator) (equals_kinds x.initial)
      (all_first IsNegatable (start_kinds x) (after_commas start_kinds (y ∷ ys)) i))
      (ready_in r at (at + length (start_kinds x)) (omega arith) (omega (arith, long))) o d) (λ done v g.
      weaker (starts_outside (y ∷ ys) (at + length (start_kinds x) + 1) base v q.1 p.1
      (all_second (Spelled tree) (strings_initial x.initial) (flat_map (λ x. strings_initial x.initial) (y ∷ ys)) l)
      (all_second IsNegatable (start_kinds x) (after_commas start_kinds (y ∷ ys)) i).1
      (ready_outside r o g (omega arith) (omega arith) (omega arith) (at + length (start_kinds x) + 1 + length (with_commas start_kinds (y ∷ ys)))
      (omega (arith, long))) (g.keeps.slots o) d) (λ next u k.
      outer_wider {lo = at} {hi = at + length (start_kinds x) + 1 + length (with_commas start_kinds (y ∷ ys))}
      (outer_then {lo = at} {mid = at + length (start_kinds x) + 1} (outer_wider g (omega arith) (omega arith)) k (omega arith) (omega arith)) (omega arith)
      (omega (arith, long))))

  pub declaration_outside : (x : DeclarationTree) (at : ℕ) (w : Walk) → ShapedDeclaration x → DeclarationAt at x
      → AllByRecursion (Spelled tree) (strings_declared x) → AllByRecursion IsNegatable (declaration_kinds x)
      → Ready tree z at (at + length (declaration_kinds x)) w → AllSlots 0 w.variables w.names
      → Gives (walk_declaration true x w) (λ done v. Outside tree z at (at + length (declaration_kinds x)) w v (TypedGlobals (facts_of tree z) z x.starts))
  declaration_outside x at w q p l i r o =
      let long : length (declaration_kinds x) ≡ length (base_kinds x.base) + length (with_commas start_kinds x.starts) + 1 = omega (
        arith,
        length-append (base_kinds x.base ++ with_commas start_kinds x.starts) (a_sign sign.Semicolon),
        length-append (base_kinds x.base) (with_commas start_kinds x.starts),
      ) in
      base_then tree z ends x.base w (λ b v. walk_starts true b x.starts v) r.tags (λ of d is.
      weaker (starts_outside x.starts (at + length (base_kinds x.base)) of w q.1 p.2 l
      (all_second IsNegatable (base_kinds x.base) (with_commas start_kinds x.starts)
      (all_first IsNegatable (base_kinds x.base ++ with_commas start_kinds x.starts) (a_sign sign.Semicolon) i))
      (ready_in r (at + length (base_kinds x.base)) (at + length (base_kinds x.base) + length (with_commas start_kinds x.starts)) (omega arith)
      (omega (arith, long))) o d) (λ done v g. outer_wider g (omega arith) (omega (arith, long))))

  pub global_good : (d : DeclarationTree) (count at : ℕ) (w v : Walk) (a : Done) → ShapedDeclaration d → DeclarationAt at d
      → AllByRecursion (Spelled tree) (strings_declared d) → AllByRecursion IsNegatable (declaration_kinds d) → Standing tree z count at w → Grown v z
      → at + length (declaration_kinds d) ≤ count → walk_declaration true d w ≡ Fine a v → GlobalGood tree z count at d w v
  global_good d count at w v a q p l i s grown last h =
      let r : Ready tree z at (at + length (declaration_kinds d)) w =
      ready_of tree z count at (at + length (declaration_kinds d)) w s (grown_then w v z (declaration_grown d w v a h) grown) last in
      let o : Outside tree z at (at + length (declaration_kinds d)) w v (TypedGlobals (facts_of tree z) z d.starts) =
      subst (GivesIn (λ done v. Outside tree z at (at + length (declaration_kinds d)) w v (TypedGlobals (facts_of tree z) z d.starts))) h
      (declaration_outside d at w q p l i r s.slots).by in
      record {
        standing = record {
          types = rw o.keeps.types s.types;
          variables_at = rw o.keeps.variables_at s.variables_at;
          offsets_at = rw o.keeps.offsets_at s.offsets_at;
          functions_at = rw o.keeps.functions_at s.functions_at;
          fresh = λ token k. (o.above token k).functions ∙ s.fresh token (omega (arith, k));
          bare = λ token k. (o.above token k).types ∙ s.bare token (omega (arith, k));
          wholes = o.keeps.wholes s.wholes;
          long = o.keeps.long s.long;
          slots = o.keeps.slots s.slots;
          tags = rw o.keeps.tags s.tags;
        };
        below = o.below;
        declared = o.keeps.declared;
        tags = o.keeps.tags;
        structs = o.keeps.structs;
        definitions = definitions_same (declaration_parts true d) w v
            (taken (λ _ u. Step (declaration_parts true d) (stage w) (stage u)) (walk_declaration true d w) a v (declaration_notes true d w) h);
        fits = λ k. o.holds (record {
          notes = λ token m n. k.below token n;
          variables = begun_stays v.variables z.variables grown.variables;
          declared = k.declared;
          functions = begun_stays v.functions z.functions grown.functions;
        });
      }
