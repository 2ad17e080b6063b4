-- The definitions of an accepted text, each with its name, its parameters and its variables.
use Rattle.std.proofs.Common.{◌≡◌, ℕ, zero, suc, ◌≤◌, ◌+◌, refl, ap, subst, sym, ◌∙◌, Bool, true, false, List, [], ◌∷◌, ◌++◌, Some, None, length}
use Rattle.std.proofs.Common.{append_assoc, arith, length-append}
use Rattle.std.specs.Prelude.{Option, drop, slice_get, unwrap_or, if◌then◌else◌}
use Rattle.std.specs.List.{AllByRecursion}
use Rattle.std.proofs.lemmas.Bool.{eqb-true, false≢true, and_parts}
use Rattle.std.proofs.lemmas.List.{append-nil, drop_at}
use Rattle.std.proofs.lemmas.Option.{same_Some}
use Rattle.base_lists.proofs.Lists.{next_is}
use Rattle.base_lists.proofs.Every.{all_join}
use Rattle.c_syntax.specs.Words.{EachAt, ItemAt, ShapedItem, item_kinds, IsShaped, ItemTree, SourceTree}
use Rattle.c_syntax.specs.ItemTree as item
use Rattle.c_types_rules.specs.declared.function.FunctionType.{FunctionType}
use Rattle.c_types_rules.specs.TypeTree.{TypeTree, same_type, same_types}
use Rattle.c_types_expressions.specs.declared.names.Meaning.{Meaning}
use Rattle.c_types_expressions.specs.declared.names.Meaning.TheVariants as meaning
use Rattle.c_types_expressions.specs.declared.walk.Definition.{Definition}
use Rattle.c_types_expressions.specs.declared.walk.FunctionEntry.{FunctionEntry}
use Rattle.c_types_expressions.specs.declared.walk.Walk.{Walk}
use Rattle.c_types_expressions.specs.Words.{empty_walk, declared_meaning, Done, Fine}
use Rattle.c_types.specs.Fault.{walk_tree}
use Rattle.c_types_walk.specs.ItemWalk.{is_clashing_name, has_type, known_as, walk_item, walk_items, with_function}
use Rattle.c_types_walk.specs.StatementWalk.{walk_declaration}
use Rattle.c_types.specs.Parts.{declaration_parts}
use Rattle.c_types.proofs.Noted.{Step, stage}
use Rattle.c_types.proofs.NotedStatements.{declaration_notes}
use Rattle.defined_functions.specs.Functions.{defined_by, defined_in, functions_of}
use Rattle.c_meaning_sound.proofs.Ending.{Follows, Sums, item_follows, items_follow, struct_is, tree_is}
use Rattle.c_meaning_sound.proofs.Reaching.{Grown, begun_long, begun_stays, comes, definitions_same, fine_known, functions_same, longer_grows, taken}
use Rattle.c_meaning_sound.proofs.Sizing.{Sized, object_stays}
use Rattle.lower_fits.proofs.Entering.{Declared, Entered, Enters, IsScalar, function_declared, function_enters}
use Rattle.lower_fits.proofs.Filing.{InFile, declaration_file, function_file}
use Rattle.lower_fits.proofs.Laying.{IsObject, Laid, Long, declaration_laid}

-- two lists of one length, whose items belong together in their order
abbrev pub Together : {A B : Type 0} → (A → B → Type 0) → List A → List B → Type 0
Together P [] [] = Unit {0}
Together P [] (y ∷ ys) = ⊥
Together P (x ∷ xs) [] = ⊥
Together P (x ∷ xs) (y ∷ ys) = P x y × Together P xs ys

-- two such pairs of lists, one behind the other
together_two : {A B : Type 0} (P : A → B → Type 0) (xs vs : List A) (ys ws : List B) → Together P xs ys → Together P vs ws → Together P (xs ++ vs) (ys ++ ws)
together_two P [] vs [] ws h k = k
together_two P [] vs (y ∷ ys) ws h k = absurd h
together_two P (x ∷ xs) vs [] ws h k = absurd h
together_two P (x ∷ xs) vs (y ∷ ys) ws h k = (h.0, together_two P xs vs ys ws h.1 k)

-- what belongs together in one way, and so in another
together_more : {A B : Type 0} (P Q : A → B → Type 0) (xs : List A) (ys : List B) → ((x : A) (y : B) → P x y → Q x y) → Together P xs ys → Together Q xs ys
together_more P Q [] [] f h = tt
together_more P Q [] (y ∷ ys) f h = absurd h
together_more P Q (x ∷ xs) [] f h = absurd h
together_more P Q (x ∷ xs) (y ∷ ys) f h = (f x y h.0, together_more P Q xs ys f h.1)

-- a function that is declared by this name, with so many parameters
pub record IsEntry (functions : List FunctionEntry) (index count : ℕ) (name : List ℕ) : Type 0 where
  pub own : FunctionEntry
  pub here : slice_get functions index ≡ Some own
  pub params : length own.ctype.params ≡ count
  pub named : own.name ≡ name

-- lists of types that are tested to be alike are of one length
same_long : (xs ys : List TypeTree) → same_types xs ys ≡ true → length xs ≡ length ys
same_long [] ys h = sym (eqb-true (length ys) 0 h)
same_long (x ∷ xs) [] h = absurd (false≢true h)
same_long (x ∷ xs) (y ∷ ys) h = ap suc (same_long xs ys (and_parts (same_type x y) (same_types xs ys) h).1)

-- what a function that was declared before was declared as
record Before (name : List ℕ) (f : FunctionType) (w : Walk) (index : ℕ) : Type 0 where
  means : declared_meaning name w.names ≡ Some (meaning.Function index)
  typed : has_type f (slice_get w.functions index) ≡ true

-- a function that is known has the tested type
before_if : (b : Bool) (name : List ℕ) (f : FunctionType) (w : Walk) (k index : ℕ) → declared_meaning name w.names ≡ Some (meaning.Function k)
    → has_type f (slice_get w.functions k) ≡ b → (if b then Some k else None) ≡ Some index → Before name f w index
before_if true name f w k index e h i = subst (Before name f w) (same_Some k index i) (record { means = e; typed = h })
before_if false name f w k index e h i = absurd (cc)

-- a function that is known was declared by its name, and has this type
before_by : (name : List ℕ) (f : FunctionType) (w : Walk) (m : Option Meaning) (index : ℕ) → declared_meaning name w.names ≡ m → known_as f m w ≡ Some index
    → Before name f w index
before_by name f w (Some (meaning.Function k)) index e h = before_if (has_type f (slice_get w.functions k)) name f w k index e refl h
before_by name f w m index e h = absurd (cc)

-- a function has as many parameters as its type
typed_long : (f : FunctionType) (g : FunctionEntry) → has_type f (Some g) ≡ true → length g.ctype.params ≡ length f.params
typed_long f g h = same_long g.ctype.params f.params (and_parts (same_type g.ctype.gives f.gives) (same_types g.ctype.params f.params) h).1

-- the entry of a function that is declared, maybe again
entry_is : (name : List ℕ) (f : FunctionType) (known : Option ℕ) (w : Walk) → InFile w.functions w.names → ((index : ℕ) → known ≡ Some index → Before name f w index)
    → IsEntry (with_function name f known w).functions (unwrap_or known (length w.functions)) (length f.params) name
entry_is name f None w k h =
    record { own = record { name = name; ctype = f }; here = next_is w.functions (record { name = name; ctype = f }) []; params = refl; named = refl }
entry_is name f (Some index) w k h =
    let b : Before name f w index = h index refl in
    let own = k.means name index b.means in
    record { own = own.own; here = own.here; params = typed_long f own.own (subst (λ o. has_type f o ≡ true) own.here b.typed); named = own.named }

-- A definition in its place: behind so many variables, its own begin with its parameters.
pub record Places (functions : List FunctionEntry) (before : ℕ) (new : List TypeTree) (d : Definition) (name : List ℕ) : Type 0 where
  pub params : List TypeTree
  pub scalars : AllByRecursion IsScalar params
  pub rest : List TypeTree
  pub first : d.first ≡ before
  pub count : length params ≤ d.count
  pub most : d.count ≤ length (params ++ rest)
  pub types : new ≡ params ++ rest
  pub entry : IsEntry functions d.function (length params) name

-- what an item adds to what was known before it
record Brings (names : List (List ℕ)) (w v : Walk) : Type 0 where
  new : List TypeTree
  types : v.declared_types ≡ w.declared_types ++ new
  objects : AllByRecursion (IsObject v.structs) new
  long : Long v
  file : InFile v.functions v.names
  defined : List Definition
  definitions : v.definitions ≡ w.definitions ++ defined
  fit : Together (Places v.functions (length w.declared_types) new) defined names

-- an item that declares no variable and defines no function
quiet_brings : (w v : Walk) → v.declared_types ≡ w.declared_types → v.variables ≡ w.variables → v.definitions ≡ w.definitions → Long w
    → InFile v.functions v.names → Brings [] w v
quiet_brings w v types variables definitions l f = record {
  new = [];
  types = types ∙ sym (append-nil w.declared_types);
  objects = tt;
  long = ap length types ∙ l ∙ sym (ap length variables);
  file = f;
  defined = [];
  definitions = definitions ∙ sym (append-nil w.definitions);
  fit = tt;
}

-- a function that is declared alone brings no definition
declared_brings : (name : List ℕ) (f : FunctionType) (known : Option ℕ) (w v : Walk) → v ≡ with_function name f known w → Long w
    → InFile w.functions w.names → is_clashing_name name known w ≡ false → Brings [] w v
declared_brings name f (Some index) w v is l k new = subst (Brings [] w) (sym is) (quiet_brings w w refl refl refl l k)
declared_brings name f None w v is l k new =
    subst (Brings [] w) (sym is) (quiet_brings w (with_function name f None w) refl refl refl l (function_file name f None w k new))

-- a function with a body brings its definition and its variables
entered_brings : (name : List ℕ) (f : FunctionType) (w v : Walk) → Long w → InFile w.functions w.names
    → Enters name f (known_as f (declared_meaning name w.names) w) w v → Brings (name ∷ []) w v
entered_brings name f w v l k e =
    let known : Option ℕ = known_as f (declared_meaning name w.names) w in
    let file : InFile (with_function name f known w).functions (with_function name f known w).names = function_file name f known w k e.new in
    let entry : IsEntry (with_function name f known w).functions (unwrap_or known (length w.functions)) (length f.params) name =
    entry_is name f known w k (λ index h. before_by name f w (declared_meaning name w.names) index refl h) in
    record {
      new = f.params ++ e.rest;
      types = e.types;
      objects = subst (λ structs. AllByRecursion (IsObject structs) (f.params ++ e.rest)) (sym e.structs) e.objects;
      long = e.long;
      file = subst (λ names. InFile v.functions names) (sym e.names)
          (subst (λ functions. InFile functions (with_function name f known w).names) (sym e.functions) file);
      defined = record { function = unwrap_or known (length w.functions); first = length w.variables; count = e.count } ∷ [];
      definitions = e.definitions;
      fit = (
        record {
          params = f.params;
          scalars = e.scalars;
          rest = e.rest;
          first = sym l;
          count = e.more;
          most = e.most;
          types = refl;
          entry = subst (λ functions. IsEntry functions (unwrap_or known (length w.functions)) (length f.params) name) (sym e.functions) entry;
        },
        tt,
      );
    }

-- each item brings what it defines
item_brings : (x : ItemTree) (w v : Walk) (a : Done) → ShapedItem x → Sums w → Long w → InFile w.functions w.names → walk_item x w ≡ Fine a v
    → Brings (defined_by x) w v
item_brings (item.Struct token tag members) w v a o s l f h =
    let k = struct_is token tag members w v a o.0 o.1 s.structs h in
    subst (Brings [] w) (sym k.is) (quiet_brings w _ refl refl refl l f)
item_brings (item.Function token b stars name ps None) w v a o s l f h =
    let d : Declared name w v = function_declared token b stars name ps w v a h in
    declared_brings name d.f (known_as d.f (declared_meaning name w.names) w) w v d.is l f d.new
item_brings (item.Function token b stars name ps (Some body)) w v a o s l f h =
    let e : Entered name w v = function_enters token b stars name ps body w v a l h in
    entered_brings name e.f w v l f e.enters
item_brings (item.Declaration d) w v a o s l f h =
    let step : Step (declaration_parts true d) (stage w) (stage v) = taken (λ _ u. Step (declaration_parts true d) (stage w) (stage u))
    (walk_declaration true d w) a v (declaration_notes true d w) h in
    let laid : Laid w v = taken (λ _ u. Laid w u) (walk_declaration true d w) a v (declaration_laid true d w l) h in
    record {
      new = laid.0;
      types = laid.1.types;
      objects = subst (λ structs. AllByRecursion (IsObject structs) laid.0) (sym laid.1.structs) laid.1.objects;
      long = laid.1.long;
      file = subst (λ functions. InFile functions v.names) (sym (functions_same (declaration_parts true d) w v step))
          (taken (λ _ u. InFile w.functions u.names) (walk_declaration true d w) a v (declaration_file true d w l f) h);
      defined = [];
      definitions = definitions_same (declaration_parts true d) w v step ∙ sym (append-nil w.definitions);
      fit = tt;
    }

-- a definition as it stands at the end
pub record FitsIn (z : Walk) (d : Definition) (name : List ℕ) : Type 0 where
  pub params : List TypeTree
  pub scalars : AllByRecursion IsScalar params
  pub rest : List TypeTree
  pub count : length params ≤ d.count
  pub most : d.count ≤ length (params ++ rest)
  pub types : drop d.first z.declared_types ≡ params ++ rest
  pub entry : IsEntry z.functions d.function (length params) name

-- what these items add to what was known before them
record AllBring (names : List (List ℕ)) (w z : Walk) : Type 0 where
  new : List TypeTree
  types : z.declared_types ≡ w.declared_types ++ new
  sized : AllByRecursion (Sized z.structs) new
  file : InFile z.functions z.names
  defined : List Definition
  definitions : z.definitions ≡ w.definitions ++ defined
  fit : Together (FitsIn z) defined names

-- types of objects stay such types to the end
objects_stay : (v z : Walk) (new : List TypeTree) → Grown v z → AllByRecursion (IsObject v.structs) new → AllByRecursion (Sized z.structs) new
objects_stay v z [] g h = tt
objects_stay v z (of ∷ new) g h = (
  object_stays v.structs z.structs of (longer_grows v.structs z.structs (begun_long v.structs z.structs g.structs))
      (begun_stays v.structs z.structs g.structs) h.0,
  objects_stay v z new g h.1,
)

-- a definition in its place stays so to the end
places_stay : (w v z : Walk) (new more : List TypeTree) → Grown v z → z.declared_types ≡ w.declared_types ++ (new ++ more) → (d : Definition) (name : List ℕ)
    → Places v.functions (length w.declared_types) new d name → FitsIn z d name
places_stay w v z new more g types d name p = record {
  params = p.params;
  scalars = p.scalars;
  rest = p.rest ++ more;
  count = p.count;
  most = omega (
    arith,
    p.most,
    length-append p.params p.rest,
    length-append p.params (p.rest ++ more),
    length-append p.rest more,
  );
  types = ap (drop d.first) types ∙ drop_at w.declared_types (new ++ more) d.first (sym p.first) ∙ ap (λ xs. xs ++ more) p.types
      ∙ append_assoc p.params p.rest more;
  entry = record {
    own = p.entry.own;
    here = begun_stays v.functions z.functions g.functions d.function p.entry.own p.entry.here;
    params = p.entry.params;
    named = p.entry.named;
  };
}

-- items bring what each of them brings, in their order
items_bring : (xs : List ItemTree) (at : ℕ) (w z : Walk) (a : Done) → AllByRecursion ShapedItem xs → EachAt ItemAt item_kinds 0 at xs → Sums w → Long w
    → InFile w.functions w.names → walk_items xs w ≡ Fine a z → AllBring (defined_in xs) w z
items_bring [] at w z a o p s l f h = subst (AllBring [] w) (fine_known tt a w z h) (record {
  new = [];
  types = sym (append-nil w.declared_types);
  sized = tt;
  file = f;
  defined = [];
  definitions = sym (append-nil w.definitions);
  fit = tt;
})
items_bring (x ∷ xs) at w z a o p s l f h =
    let first = comes (walk_item x w) _ a z h in
    let v : Walk = first.known in
    let one : Follows w v = item_follows x at w v first.value o.0 p.0 s first.first in
    let more : Follows v z = items_follow xs (at + length (item_kinds x) + 0) v z a o.1 p.1 one.sums first.rest in
    let own : Brings (defined_by x) w v = item_brings x w v first.value o.0 s l f first.first in
    let rest : AllBring (defined_in xs) v z = items_bring xs (at + length (item_kinds x) + 0) v z a o.1 p.1 one.sums own.long own.file first.rest in
    let types : z.declared_types ≡ w.declared_types ++ (own.new ++ rest.new) =
    rest.types ∙ ap (λ ts. ts ++ rest.new) own.types ∙ append_assoc w.declared_types own.new rest.new in
    record {
      new = own.new ++ rest.new;
      types = types;
      sized = all_join (Sized z.structs) own.new rest.new (objects_stay v z own.new more.grown own.objects) rest.sized;
      file = rest.file;
      defined = own.defined ++ rest.defined;
      definitions = rest.definitions ∙ ap (λ ds. ds ++ rest.defined) own.definitions ∙ append_assoc w.definitions own.defined rest.defined;
      fit = together_two (FitsIn z) own.defined rest.defined (defined_by x) (defined_in xs)
          (together_more (Places v.functions (length w.declared_types) own.new) (FitsIn z) own.defined (defined_by x)
          (places_stay w v z own.new rest.new more.grown types) own.fit)
          rest.fit;
    }

-- all definitions and variables of a text, with the names of its functions
pub record AllFit (tree : SourceTree) (z : Walk) : Type 0 where
  pub sized : AllByRecursion (Sized z.structs) z.declared_types
  pub file : InFile z.functions z.names
  pub fit : Together (FitsIn z) z.definitions (functions_of tree)

-- at the beginning nothing has a name
begins_file : InFile [] []
begins_file = record { outer = tt; found_as = λ index g e. absurd (cc); means = λ name index e. absurd (cc) }

-- all definitions of a text without a fault fit
pub all_fit : (tree : SourceTree) (z : Walk) → IsShaped tree → walk_tree tree ≡ Fine tt z → AllFit tree z
all_fit tree z s h =
    let k : AllBring (functions_of tree) (empty_walk (length tree.lines)) z = items_bring tree.items 0 (empty_walk (length tree.lines)) z tt s.items s.placed
    (record { structs = tt; functions = tt }) refl begins_file (tree_is tree z h).items in
    record {
      sized = subst (AllByRecursion (Sized z.structs)) (sym k.types) k.sized;
      file = k.file;
      fit = subst (λ ds. Together (FitsIn z) ds (functions_of tree)) (sym k.definitions) k.fit;
    }

-- the definition with this number has the name with this number, and the other way round
pub record Both {A B : Type 0} (P : A → B → Type 0) (xs : List A) (ys : List B) (i : ℕ) : Type 0 where
  pub first : A
  pub second : B
  pub in_first : slice_get xs i ≡ Some first
  pub in_second : slice_get ys i ≡ Some second
  pub holds : P first second

-- further on in two lists that begin with one more item
both_more : {A B : Type 0} (P : A → B → Type 0) (x : A) (xs : List A) (y : B) (ys : List B) (i : ℕ) → Both P xs ys i → Both P (x ∷ xs) (y ∷ ys) (suc i)
both_more P x xs y ys i b = record { first = b.first; second = b.second; in_first = b.in_first; in_second = b.in_second; holds = b.holds }

-- to each item of the first list there is one of the second
first_both : {A B : Type 0} (P : A → B → Type 0) (xs : List A) (ys : List B) (i : ℕ) (x : A) → Together P xs ys → slice_get xs i ≡ Some x → Both P xs ys i
first_both P [] ys i x h e = absurd (cc)
first_both P (a ∷ xs) [] i x h e = absurd h
first_both P (a ∷ xs) (b ∷ ys) zero x h e = record { first = a; second = b; in_first = refl; in_second = refl; holds = h.0 }
first_both P (a ∷ xs) (b ∷ ys) (suc i) x h e = both_more P a xs b ys i (first_both P xs ys i x h.1 e)

-- to each item of the second list there is one of the first
pub second_both : {A B : Type 0} (P : A → B → Type 0) (xs : List A) (ys : List B) (i : ℕ) (y : B) → Together P xs ys → slice_get ys i ≡ Some y → Both P xs ys i
second_both P xs [] i y h e = absurd (cc)
second_both P [] (b ∷ ys) i y h e = absurd h
second_both P (a ∷ xs) (b ∷ ys) zero y h e = record { first = a; second = b; in_first = refl; in_second = refl; holds = h.0 }
second_both P (a ∷ xs) (b ∷ ys) (suc i) y h e = both_more P a xs b ys i (second_both P xs ys i y h.1 e)

-- the definition with this number fits
pub fits_at : (tree : SourceTree) (z : Walk) → AllFit tree z → (number : ℕ) (d : Definition) → slice_get z.definitions number ≡ Some d
    → (name : List ℕ) × FitsIn z d name
fits_at tree z k number d e =
    let b : Both (FitsIn z) z.definitions (functions_of tree) number = first_both (FitsIn z) z.definitions (functions_of tree) number d k.fit e in
    (b.second, subst (λ x. FitsIn z x b.second) (same_Some b.first d (sym b.in_first ∙ e)) b.holds)
