-- Structs and functions, one item after another: what is known before each, what it leaves, and that its body fits.
use Rattle.std.proofs.Common.{◌≡◌, ℕ, suc, ◌≤◌, ◌<◌, refl, ap, subst, sym, ◌∙◌, arith, List, [], ◌∷◌, ◌++◌, Some, None, ◌+◌, Bool, true, false, length}
use Rattle.std.proofs.Common.{length-append}
use Rattle.std.specs.Prelude.{Option, slice_get, unwrap_or, ◌||◌, if◌then◌else◌}
use Rattle.std.specs.List.{AllByRecursion}
use Rattle.std.specs.Str.{bytes_eq}
use Rattle.std.proofs.lemmas.Bool.{false≢true, and_parts}
use Rattle.std.proofs.lemmas.Option.{same_Some}
use Rattle.c_types_expressions.proofs.Given.{Gives}
use Rattle.base_lists.proofs.Lists.{next_is, same_bytes, Stays}
use Rattle.c_syntax.specs.declared.parts.Base.{Base}
use Rattle.c_syntax.specs.declared.parts.Members.{Members}
use Rattle.c_syntax.specs.declared.parts.Params.{Params}
use Rattle.c_syntax.specs.Words.{EntryList, ItemTree, SourceTree, EntriesAt, ShapedEntries, entry_kinds}
use Rattle.c_syntax.specs.ItemTree as item
use Rattle.c_types_rules.proofs.Same.{equal}
use Rattle.c_types_rules.specs.declared.function.FunctionType.{FunctionType}
use Rattle.c_types_rules.specs.TypeTree.{TypeTree, same_type, same_types}
use Rattle.c_types_expressions.specs.declared.names.Meaning.{Meaning}
use Rattle.c_types_expressions.specs.declared.names.Meaning.TheVariants as meaning
use Rattle.c_types_expressions.specs.declared.names.ScopeEntry.{ScopeEntry}
use Rattle.c_types_expressions.specs.declared.walk.FunctionEntry.{FunctionEntry}
use Rattle.c_types_expressions.specs.declared.walk.Walk.{Walk}
use Rattle.c_types.specs.Answers.{note_at}
use Rattle.c_types_walk.specs.ItemWalk.{has_type, known_as, with_function}
use Rattle.c_types_expressions.specs.Names.{declared_meaning, is_here, or_before}
use Rattle.c_types_walk.specs.StatementWalk.{walk_entries}
use Rattle.c_meaning.specs.Words.{Signature, body_of_item, computed_type, signature_of, struct_number, strings_entered}
use Rattle.c_meaning_laws.specs.TypedStatements.{TypedEntries}
use Rattle.c_meaning_laws.proofs.Ruled.{known}
use Rattle.c_meaning_sound.proofs.Declaring.{slots_more}
use Rattle.c_meaning_sound.proofs.Ending.{Structs}
use Rattle.c_meaning_sound.proofs.Growing.{Grows}
use Rattle.c_meaning_sound.proofs.Noting.{AllSlots, AllWhole, Part, Ready, Same, StaysWhole, facts, none}
use Rattle.c_meaning_sound.proofs.Reaching.{Grown, begun_long, begun_stays, longer_grows}
use Rattle.c_meaning_sound.proofs.Texts.{Spelled}

module _ (tree : SourceTree) (z : Walk) where
  -- What is known before the item whose first token is at this one, in a text of so many tokens: no type and no call is noted from there on.
  pub record Standing (count at : ℕ) (w : Walk) : Type 0 where
    pub types : count ≤ length w.types
    pub variables_at : count ≤ length w.variables_at
    pub offsets_at : count ≤ length w.offsets_at
    pub functions_at : count ≤ length w.functions_at
    pub fresh : (token : ℕ) → at ≤ token → note_at w.functions_at token ≡ None
    pub bare : (token : ℕ) → at ≤ token → note_at w.types token ≡ None
    pub wholes : AllWhole tree z w.declared_types
    pub long : length w.declared_types ≡ length w.variables
    pub slots : AllSlots 0 w.variables w.names
    pub tags : (tag : List ℕ) (index : ℕ) → declared_meaning tag w.tags ≡ Some (meaning.Struct index) → struct_number 0 tag tree.items ≡ Some index

  pub standing_behind : (count at hi : ℕ) (w : Walk) → Standing count at w → at ≤ hi → Standing count hi w
  standing_behind count at hi w s h = record {
    types = s.types;
    variables_at = s.variables_at;
    offsets_at = s.offsets_at;
    functions_at = s.functions_at;
    fresh = λ q l. s.fresh q (omega (arith, h, l));
    bare = λ q l. s.bare q (omega (arith, h, l));
    wholes = s.wholes;
    long = s.long;
    slots = s.slots;
    tags = s.tags;
  }

  -- tags that aren't known yet are those of these items
  abbrev pub Tagged : List ItemTree → Walk → Type 0
  Tagged xs w = (tag : List ℕ) → is_here tag w.tags ≡ false → struct_number 0 tag tree.items ≡ struct_number (length w.structs) tag xs

  -- what is known of structs, functions and variables stays to the end
  pub reaches_structs : (w : Walk) → Grown w z → Grows w.structs z.structs
  reaches_structs w g = longer_grows w.structs z.structs (begun_long w.structs z.structs g.structs)

  -- before the item's parts
  pub ready_of : (count at hi : ℕ) (w : Walk) → Standing count at w → Grown w z → hi ≤ count → Ready tree z at hi w
  ready_of count at hi w s g h = record {
    types = omega (arith, s.types, h);
    variables_at = omega (arith, s.variables_at, h);
    offsets_at = omega (arith, s.offsets_at, h);
    functions_at = omega (arith, s.functions_at, h);
    fresh = s.fresh;
    bare = s.bare;
    wholes = s.wholes;
    long = s.long;
    slots = slots_more 0 w.locals w.variables w.variables w.names (omega arith) (λ i x e. e) s.slots;
    grows = reaches_structs w g;
    structs = begun_stays w.structs z.structs g.structs;
    functions = begun_stays w.functions z.functions g.functions;
    tags = s.tags;
  }

  -- what is noted behind a point leaves what was noted before it
  pub record Later (at : ℕ) (w : Walk) : Type 0 where
    pub below : (token : ℕ) → token < at → Same w z token
    pub declared : StaysWhole tree z w.declared_types z.declared_types

  abbrev pub ItemBodyFits : ℕ → ItemTree → Type 0
  ItemBodyFits n (item.Function token b stars name ps (Some body)) =
      (f : Signature) → signature_of z (slice_get z.definitions n) ≡ Some f → TypedEntries (facts tree z) none (length f.locals) f.result false body
  ItemBodyFits n x = Unit {0}

  -- what an item leaves, and what holds of it at the end
  pub record Item (count at hi : ℕ) (x : ItemTree) (xs : List ItemTree) (w v : Walk) : Type 0 where
    pub standing : Standing count hi v
    pub tagged : Tagged xs v
    pub below : (token : ℕ) → token < at → Same w v token
    pub declared : StaysWhole tree z w.declared_types v.declared_types
    pub number : length v.definitions ≡ length w.definitions + length (body_of_item x)
    pub body : Later hi v → ItemBodyFits (length w.definitions) x

  -- the walk through bodies, as far as it concerns functions
  abbrev pub BodiesFit : Type 0
  BodiesFit = (body : EntryList) (at : ℕ) (gives : TypeTree) (w : Walk) → ShapedEntries body → EntriesAt at body
      → AllByRecursion (Spelled tree) (strings_entered body) → Ready tree z at (at + length (entry_kinds body)) w
      → Gives (walk_entries gives false body w) (λ done v. Part tree z at (at + length (entry_kinds body)) w v
      (λ c. TypedEntries (facts tree z) none c (computed_type z.structs gives) false body))

  -- a struct

  new_tag : (tag other : List ℕ) (n index : ℕ) (names : List ScopeEntry) (items : List ItemTree) (b : Bool) → bytes_eq other tag ≡ b
      → (bytes_eq other tag ≡ true → struct_number 0 tag tree.items ≡ Some n)
      → (declared_meaning tag names ≡ Some (meaning.Struct index) → struct_number 0 tag tree.items ≡ Some index)
      → or_before (if b then Some (meaning.Struct n) else None) (declared_meaning tag names) ≡ Some (meaning.Struct index)
      → struct_number 0 tag tree.items ≡ Some index
  new_tag tag other n index names items true e h k l = h e ∙ ap index_of l
    where
      index_of : Option Meaning → Option ℕ
      index_of (Some (meaning.Struct i)) = Some i
      index_of m = None
  new_tag tag other n index names items false e h k l = k l

  here_apart : (tag other : List ℕ) (b c : Bool) (n : ℕ) (xs : List ItemTree) (m : Option ℕ) → (b || c) ≡ false
      → (c ≡ false → m ≡ (if b then Some n else struct_number (suc n) tag xs)) → m ≡ struct_number (suc n) tag xs
  here_apart tag other true c n xs m h k = absurd (false≢true (sym h))
  here_apart tag other false c n xs m h k = k h

  tag_named : (tag other : List ℕ) (n : ℕ) (names : List ScopeEntry) (xs : List ItemTree) (m : Option ℕ) → is_here tag names ≡ false
      → (is_here other names ≡ false → m ≡ (if bytes_eq tag other then Some n else struct_number (suc n) other xs)) → bytes_eq tag other ≡ true → m ≡ Some n
  tag_named tag other n names xs m h k e =
      k (subst (λ name. is_here name names ≡ false) (same_bytes tag other e) h) ∙ ap (λ b. if b then Some n else struct_number (suc n) other xs) e

  pub struct_item : (token : ℕ) (tag : List ℕ) (members : List Members) (count at hi : ℕ) (xs : List ItemTree) (w v : Walk) → Standing count at w
      → Tagged (item.Struct token tag members ∷ xs) w → Structs tag w v → at ≤ hi → Item count at hi (item.Struct token tag members) xs w v
  struct_item token tag members count at hi xs w v s g k h = subst (Item count at hi (item.Struct token tag members) xs w) (sym k.is) (record {
    standing = record {
      types = s.types;
      variables_at = s.variables_at;
      offsets_at = s.offsets_at;
      functions_at = s.functions_at;
      fresh = λ q l. s.fresh q (omega (arith, h, l));
      bare = λ q l. s.bare q (omega (arith, h, l));
      wholes = s.wholes;
      long = s.long;
      slots = s.slots;
      tags = λ other index e. new_tag other tag (length w.structs) index w.tags tree.items (bytes_eq tag other) refl
          (tag_named tag other (length w.structs) w.tags xs (struct_number 0 other tree.items) k.new (g other)) (s.tags other index) e;
    };
    tagged = λ other e.
        let one : length (w.structs ++ k.own ∷ []) ≡ suc (length w.structs) = omega (arith, length-append w.structs (k.own ∷ [])) in
        here_apart other tag (bytes_eq tag other) (is_here other w.tags) (length w.structs) xs (struct_number 0 other tree.items) e (g other)
        ∙ ap (λ n. struct_number n other xs) (sym one);
    below = λ q l. record { types = refl; variables = refl; offsets = refl; functions = refl };
    declared = λ i of e m. e;
    number = omega arith;
    body = λ l. tt;
  })

  -- functions

  pub standing_function : (count at : ℕ) (name : List ℕ) (f : FunctionType) (known : Option ℕ) (w : Walk) → Standing count at w
      → Standing count at (with_function name f known w)
  standing_function count at name f (Some index) w s = s
  standing_function count at name f None w s = record {
    types = s.types;
    variables_at = s.variables_at;
    offsets_at = s.offsets_at;
    functions_at = s.functions_at;
    fresh = s.fresh;
    bare = s.bare;
    wholes = s.wholes;
    long = s.long;
    slots = (tt, s.slots);
    tags = s.tags;
  }

  pub tagged_function : (xs : List ItemTree) (name : List ℕ) (f : FunctionType) (known : Option ℕ) (w : Walk) → Tagged xs w → Tagged xs
      (with_function name f known w)
  tagged_function xs name f (Some index) w g = g
  tagged_function xs name f None w g = g

  pub same_function_notes : (name : List ℕ) (f : FunctionType) (known : Option ℕ) (w : Walk) (token : ℕ) → Same w (with_function name f known w) token
  same_function_notes name f (Some index) w token = record { types = refl; variables = refl; offsets = refl; functions = refl }
  same_function_notes name f None w token = record { types = refl; variables = refl; offsets = refl; functions = refl }

  pub same_types_declared : (name : List ℕ) (f : FunctionType) (known : Option ℕ) (w : Walk) → (with_function name f known w).declared_types ≡ w.declared_types
  same_types_declared name f (Some index) w = refl
  same_types_declared name f None w = refl

  pub same_variables : (name : List ℕ) (f : FunctionType) (known : Option ℕ) (w : Walk) → (with_function name f known w).variables ≡ w.variables
  same_variables name f (Some index) w = refl
  same_variables name f None w = refl

  same_definitions : (name : List ℕ) (f : FunctionType) (known : Option ℕ) (w : Walk) → (with_function name f known w).definitions ≡ w.definitions
  same_definitions name f (Some index) w = refl
  same_definitions name f None w = refl

  -- the function that is declared is found at the end
  pub record Declared (f : FunctionType) (index : ℕ) : Type 0 where
    pub own : FunctionEntry
    pub is : slice_get z.functions index ≡ Some own
    pub gives : own.ctype.gives ≡ f.gives

  has_by : (b : Bool) (k index : ℕ) → (if b then Some k else None) ≡ Some index → (b ≡ true) × (k ≡ index)
  has_by true k index h = (refl, same_Some k index h)
  has_by false k index h = cc

  pub known_has : (f : FunctionType) (m : Option Meaning) (w : Walk) (index : ℕ) → known_as f m w ≡ Some index → has_type f (slice_get w.functions index) ≡ true
  known_has f (Some (meaning.Function k)) w index h =
      let q = has_by (has_type f (slice_get w.functions k)) k index h in
      subst (λ n. has_type f (slice_get w.functions n) ≡ true) q.1 q.0
  known_has f m w index h = cc

  typed_is : (f : FunctionType) (index : ℕ) (w : Walk) (o : Option FunctionEntry) → slice_get w.functions index ≡ o → has_type f o ≡ true
      → Stays w.functions z.functions → Declared f index
  typed_is f index w None e h s = absurd (false≢true h)
  typed_is f index w (Some g) e h s = record {
    own = g;
    is = s index g e;
    gives = equal g.ctype.gives f.gives (and_parts (same_type g.ctype.gives f.gives) (same_types g.ctype.params f.params) h).0;
  }

  pub function_found : (name : List ℕ) (f : FunctionType) (known : Option ℕ) (w : Walk) →
      ((index : ℕ) → known ≡ Some index → has_type f (slice_get w.functions index) ≡ true)
      → Stays (with_function name f known w).functions z.functions → Declared f (unwrap_or known (length w.functions))
  function_found name f (Some index) w h s = typed_is f index w (slice_get w.functions index) refl (h index refl) s
  function_found name f None w h s = record {
    own = record { name = name; ctype = f };
    is = s (length w.functions) (record { name = name; ctype = f }) (next_is w.functions (record { name = name; ctype = f }) []);
    gives = refl;
  }

  -- a function without a body
  pub bodiless_item : (token : ℕ) (b : Base) (stars : ℕ) (name : List ℕ) (ps : Params) (f : FunctionType) (known : Option ℕ) (count at hi : ℕ)
      (xs : List ItemTree) (w v : Walk)
      → Standing count at w → Tagged (item.Function token b stars name ps None ∷ xs) w → v ≡ with_function name f known w → at ≤ hi
      → Item count at hi (item.Function token b stars name ps None) xs w v
  bodiless_item token b stars name ps f known count at hi xs w v s g e h =
      let t : Standing count at (with_function name f known w) = standing_function count at name f known w s in
      subst (Item count at hi (item.Function token b stars name ps None) xs w) (sym e) (record {
        standing = standing_behind count at hi (with_function name f known w) t h;
        tagged = tagged_function xs name f known w g;
        below = λ q l. same_function_notes name f known w q;
        declared = λ i of k m. rw (same_types_declared name f known w) k;
        number = ap length (same_definitions name f known w) ∙ omega arith;
        body = λ l. tt;
      })
