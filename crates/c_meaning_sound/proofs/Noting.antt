-- Checking a part of the text writes types at that part's tokens only; a property of these holds of the final table if nobody overwrites them.
use Rattle.std.proofs.Common.{◌≡◌, ℕ, ◌≤◌, ◌<◌, refl, ap, ◌∙◌, arith, List, [], ◌∷◌, Some, None, ◌+◌, Bool, true, false, length}
use Rattle.std.specs.Prelude.{Option, slice_get, if◌then◌else◌}
use Rattle.std.specs.Option.{option_map}
use Rattle.c_types.proofs.Replaced.{noted_other, noted_same}
use Rattle.c_types.proofs.Noted.{length_replaced}
use Rattle.base_lists.proofs.Lists.{Stays}
use Rattle.c_syntax.specs.ItemTree.{SourceTree}
use Rattle.c_types_rules.specs.TypeTree as t
use Rattle.c_types_rules.specs.Words.{TypeTree, same_type, is_scalar, cells_of, is_complete}
use Rattle.c_types_expressions.specs.declared.names.Meaning.TheVariants as meaning
use Rattle.c_types_expressions.specs.declared.names.ScopeEntry.{ScopeEntry}
use Rattle.c_types_expressions.specs.declared.names.ScopeEntry.TheVariants.{Opens, Declares}
use Rattle.c_types_expressions.specs.declared.walk.Variable.{Variable}
use Rattle.c_types_expressions.specs.declared.walk.Variable.TheVariants as variable
use Rattle.c_types_expressions.specs.declared.walk.VariableEntry.{VariableEntry}
use Rattle.c_types_expressions.specs.declared.walk.Walk.{Walk}
use Rattle.c_types.specs.Answers.{declared_at, note_at, type_at, variable_at}
use Rattle.c_types_expressions.specs.Words.{names_after_scope, declared_meaning, ◌>>=◌, with_type}
use Rattle.flow.specs.declared.site.Slot.{Slot}
use Rattle.c_meaning.specs.Words.{Facts, Sites, facts_of, slot_of, struct_number, is_step_size, sites_by_table}
use Rattle.c_meaning_laws.specs.Rules.{IsObject}
use Rattle.c_meaning_laws.proofs.Ruled.{known}
use Rattle.c_meaning_sound.proofs.Growing.{Grows}
use Rattle.c_meaning_sound.proofs.Marking.{Marks, marks_here, marks_then, marks_typed, marks_wider}

-- the notes at a token are the same
pub record Same (w v : Walk) (token : ℕ) : Type 0 where
  pub types : note_at v.types token ≡ note_at w.types token
  pub variables : note_at v.variables_at token ≡ note_at w.variables_at token
  pub offsets : note_at v.offsets_at token ≡ note_at w.offsets_at token
  pub functions : note_at v.functions_at token ≡ note_at w.functions_at token

pub same_here : (w : Walk) (token : ℕ) → Same w w token
same_here w token = record { types = refl; variables = refl; offsets = refl; functions = refl }

pub same_then : {w u v : Walk} {token : ℕ} → Same w u token → Same u v token → Same w v token
same_then a b = record {
  types = b.types ∙ a.types;
  variables = b.variables ∙ a.variables;
  offsets = b.offsets ∙ a.offsets;
  functions = b.functions ∙ a.functions;
}

-- a variable is a global, or one of so many locals
abbrev pub IsAmong : ℕ → Variable → Type 0
IsAmong count (variable.Global index) = Unit {0}
IsAmong count (variable.Local index) = index < count

abbrev pub IsSlot : ℕ → Option VariableEntry → Type 0
IsSlot count None = ⊥
IsSlot count (Some entry) = IsAmong count entry.variable

abbrev pub NamesSlot : ℕ → List VariableEntry → ScopeEntry → Type 0
NamesSlot count variables Opens = Unit {0}
NamesSlot count variables (Declares name (meaning.Variable index)) = IsSlot count (slice_get variables index)
NamesSlot count variables (Declares name (meaning.Library function)) = ⊥
NamesSlot count variables (Declares name m) = Unit {0}

abbrev pub AllSlots : ℕ → List VariableEntry → List ScopeEntry → Type 0
AllSlots count variables [] = Unit {0}
AllSlots count variables (entry ∷ rest) = NamesSlot count variables entry × AllSlots count variables rest

pub typed_same : (token q : ℕ) (of : TypeTree) (w : Walk) → (token ≡ q → ⊥) → Same w (with_type token of w) q
typed_same token q of w h = record { types = noted_other w.types token q (Some of) h; variables = refl; offsets = refl; functions = refl }

-- no sites
abbrev pub none : Sites
none = sites_by_table []

abbrev pub is_same : TypeTree → Option TypeTree → Bool
is_same of None = false
is_same of (Some own) = same_type own of

-- the type is that of the variable, where it is one of a scalar
abbrev pub is_of : TypeTree → Option TypeTree → Bool
is_of of own = if is_scalar of then is_same of own else true

-- The variable that a name means. One whose value is used with another type than its own is no variable here.
abbrev pub slot_named : Option TypeTree → Option TypeTree → Option Slot → Option Slot
slot_named None own s = s
slot_named (Some of) own s = if is_of of own then s else None

module _ (tree : SourceTree) (z : Walk) where
  -- what is known at the end
  abbrev pub facts : Facts
  facts = record (facts_of tree z) {
    slot_at = λ token. slot_named (type_at z token) (declared_at z token) (option_map slot_of (variable_at z token));
  }

  -- objects of the type have a size by which pointers can be moved, where it is known whole
  abbrev pub Small : TypeTree → Type 0
  Small of = is_complete z.structs of ≡ true → is_step_size (cells_of z.structs of) ≡ true

  -- so have those of each type less_is it
  abbrev pub Deep : TypeTree → Type 0
  Deep (t.Pointer to) = Deep to
  Deep (t.Array element size) = Small (t.Array element size) × Deep element
  Deep (t.Struct tag) = Small (t.Struct tag)
  Deep of = Unit {0}

  -- the type of an object
  abbrev pub Whole : TypeTree → Type 0
  Whole of = Deep of × IsObject (known z.structs of)

  abbrev pub AllWhole : List TypeTree → Type 0
  AllWhole [] = Unit {0}
  AllWhole (of ∷ more) = Whole of × AllWhole more

  -- the types of variables that are known whole stay as they are
  abbrev pub StaysWhole : List TypeTree → List TypeTree → Type 0
  StaysWhole xs ys = (i : ℕ) (of : TypeTree) → slice_get xs i ≡ Some of → is_complete z.structs of ≡ true → slice_get ys i ≡ Some of

  -- what each part of a function leaves as it is
  pub record Keeps (w v : Walk) : Type 0 where
    pub types : length v.types ≡ length w.types
    pub variables_at : length v.variables_at ≡ length w.variables_at
    pub offsets_at : length v.offsets_at ≡ length w.offsets_at
    pub functions_at : length v.functions_at ≡ length w.functions_at
    pub structs : v.structs ≡ w.structs
    pub tags : v.tags ≡ w.tags
    pub functions : v.functions ≡ w.functions
    pub scope : names_after_scope v.names ≡ names_after_scope w.names
    pub variables : Stays w.variables v.variables
    pub declared : Stays w.declared_types v.declared_types
    pub locals : w.locals ≤ v.locals
    pub count : length v.variables + w.locals ≡ length w.variables + v.locals
    pub wholes : AllWhole w.declared_types → AllWhole v.declared_types
    pub long : length w.declared_types ≡ length w.variables → length v.declared_types ≡ length v.variables
    pub slots : AllSlots w.locals w.variables w.names → AllSlots v.locals v.variables v.names

  -- Before a part that ends before this token: its tokens have places for notes, no call and no type is noted from its first token on, and what is known fits.
  pub record Ready (lo hi : ℕ) (w : Walk) : Type 0 where
    pub types : hi ≤ length w.types
    pub variables_at : hi ≤ length w.variables_at
    pub offsets_at : hi ≤ length w.offsets_at
    pub functions_at : hi ≤ length w.functions_at
    pub fresh : (token : ℕ) → lo ≤ token → note_at w.functions_at token ≡ None
    pub bare : (token : ℕ) → lo ≤ token → note_at w.types token ≡ None
    pub wholes : AllWhole w.declared_types
    pub long : length w.declared_types ≡ length w.variables
    pub slots : AllSlots w.locals w.variables w.names
    pub grows : Grows w.structs z.structs
    pub structs : Stays w.structs z.structs
    pub functions : Stays w.functions z.functions
    pub tags : (tag : List ℕ) (index : ℕ) → declared_meaning tag w.tags ≡ Some (meaning.Struct index) → struct_number 0 tag tree.items ≡ Some index

  -- what is known later is known at the end, and nothing is noted there later
  pub record Agrees (count lo hi : ℕ) (v : Walk) : Type 0 where
    pub notes : (token : ℕ) → lo ≤ token → token < hi → Same v z token
    pub variables : Stays v.variables z.variables
    pub declared : StaysWhole v.declared_types z.declared_types
    pub functions : Stays v.functions z.functions
    pub locals : v.locals ≤ count

  -- A part of the walk notes at these tokens alone, and this holds where nothing is noted there later.
  pub record Part (lo hi : ℕ) (w v : Walk) (P : ℕ → Type 0) : Type 0 where
    pub keeps : Keeps w v
    pub below : (token : ℕ) → token < lo → Same w v token
    pub above : (token : ℕ) → hi ≤ token → Same w v token
    pub holds : (count : ℕ) → Agrees count lo hi v → P count
    pub marks : Marks lo hi w v

-- where no type is noted, as at a name that is declared
pub slot_declared : (tree : SourceTree) (z : Walk) (token : ℕ) → note_at z.types token ≡ None
    → (facts tree z).slot_at token ≡ option_map slot_of (variable_at z token)
slot_declared tree z token h = ap (λ o. slot_named o (declared_at z token) (option_map slot_of (variable_at z token))) h

module _ {tree : SourceTree} {z : Walk} where
  pub keeps_here : (w : Walk) → Keeps tree z w w
  keeps_here w = record {
    types = refl;
    variables_at = refl;
    offsets_at = refl;
    functions_at = refl;
    structs = refl;
    tags = refl;
    functions = refl;
    scope = refl;
    variables = λ i x h. h;
    declared = λ i of h. h;
    locals = omega arith;
    count = refl;
    wholes = λ h. h;
    long = λ h. h;
    slots = λ h. h;
  }

  pub keeps_then : {w u v : Walk} → Keeps tree z w u → Keeps tree z u v → Keeps tree z w v
  keeps_then a b = record {
    types = b.types ∙ a.types;
    variables_at = b.variables_at ∙ a.variables_at;
    offsets_at = b.offsets_at ∙ a.offsets_at;
    functions_at = b.functions_at ∙ a.functions_at;
    structs = b.structs ∙ a.structs;
    tags = b.tags ∙ a.tags;
    functions = b.functions ∙ a.functions;
    scope = b.scope ∙ a.scope;
    variables = λ i x h. b.variables i x (a.variables i x h);
    declared = λ i of h. b.declared i of (a.declared i of h);
    locals = omega (arith, a.locals, b.locals);
    count = omega (arith, a.count, b.count);
    wholes = λ h. b.wholes (a.wholes h);
    long = λ h. b.long (a.long h);
    slots = λ h. b.slots (a.slots h);
  }

  pub agrees_in : {count lo hi l h : ℕ} {v : Walk} → Agrees tree z count lo hi v → lo ≤ l → h ≤ hi → Agrees tree z count l h v
  agrees_in a low high = record {
    notes = λ token p q. a.notes token (omega (arith, low, p)) (omega (arith, high, q));
    variables = a.variables;
    declared = a.declared;
    functions = a.functions;
    locals = a.locals;
  }

  pub agrees_before : {count lo hi : ℕ} {u v : Walk} → Agrees tree z count lo hi v → Keeps tree z u v → ((token : ℕ) → lo ≤ token → token < hi → Same u v token)
      → Agrees tree z count lo hi u
  agrees_before a k s = record {
    notes = λ token p q. same_then (s token p q) (a.notes token p q);
    variables = λ i x h. a.variables i x (k.variables i x h);
    declared = λ i of h m. a.declared i of (k.declared i of h) m;
    functions = λ i x h. a.functions i x (rw k.functions h);
    locals = omega (arith, k.locals, a.locals);
  }

  -- before the next part, whose first token lies behind this one
  pub ready_after : {lo hi l m h : ℕ} {w v : Walk} {P : ℕ → Type 0} → Ready tree z lo hi w → Part tree z l m w v P → lo ≤ l → m ≤ h → lo ≤ h → (to : ℕ)
      → to ≤ hi → Ready tree z h to v
  ready_after r p low mid first to high = record {
    types = rw p.keeps.types (omega (arith, r.types, high));
    variables_at = rw p.keeps.variables_at (omega (arith, r.variables_at, high));
    offsets_at = rw p.keeps.offsets_at (omega (arith, r.offsets_at, high));
    functions_at = rw p.keeps.functions_at (omega (arith, r.functions_at, high));
    fresh = λ token q. (p.above token (omega (arith, mid, q))).functions ∙ r.fresh token (omega (arith, first, q));
    bare = λ token q. (p.above token (omega (arith, mid, q))).types ∙ r.bare token (omega (arith, first, q));
    wholes = p.keeps.wholes r.wholes;
    long = p.keeps.long r.long;
    slots = p.keeps.slots r.slots;
    grows = rw p.keeps.structs r.grows;
    structs = rw p.keeps.structs r.structs;
    functions = rw p.keeps.functions r.functions;
    tags = rw p.keeps.tags r.tags;
  }

  pub ready_in : {lo hi : ℕ} {w : Walk} → Ready tree z lo hi w → (l h : ℕ) → lo ≤ l → h ≤ hi → Ready tree z l h w
  ready_in r l h low high = record {
    types = omega (arith, r.types, high);
    variables_at = omega (arith, r.variables_at, high);
    offsets_at = omega (arith, r.offsets_at, high);
    functions_at = omega (arith, r.functions_at, high);
    fresh = λ token q. r.fresh token (omega (arith, low, q));
    bare = λ token q. r.bare token (omega (arith, low, q));
    wholes = r.wholes;
    long = r.long;
    slots = r.slots;
    grows = r.grows;
    structs = r.structs;
    functions = r.functions;
    tags = r.tags;
  }

  -- first the part on the left, then one on the right
  pub rightwards : {lo mid hi : ℕ} {w u v : Walk} {P Q : ℕ → Type 0} → Part tree z lo mid w u P → Part tree z mid hi u v Q → lo ≤ mid → mid ≤ hi
      → Part tree z lo hi w v (λ c. P c × Q c)
  rightwards {lo = lo} {hi = hi} a b low high = record {
    keeps = keeps_then a.keeps b.keeps;
    below = λ token h. same_then (a.below token h) (b.below token (omega (arith, low, h)));
    above = λ token h. same_then (a.above token (omega (arith, high, h))) (b.above token h);
    holds = λ c g. (
      a.holds c (agrees_before (agrees_in g (omega arith) high) b.keeps (λ token p q. b.below token q)),
      b.holds c
          (agrees_in g low (omega arith)),
    );
    marks = marks_then (marks_wider lo hi a.marks (omega arith) high) (marks_wider lo hi b.marks low (omega arith));
  }

  -- first the part on the right, then one on the left
  pub leftwards : {lo mid hi : ℕ} {w u v : Walk} {P Q : ℕ → Type 0} → Part tree z mid hi w u P → Part tree z lo mid u v Q → lo ≤ mid → mid ≤ hi
      → Part tree z lo hi w v (λ c. P c × Q c)
  leftwards {lo = lo} {hi = hi} a b low high = record {
    keeps = keeps_then a.keeps b.keeps;
    below = λ token h. same_then (a.below token (omega (arith, low, h))) (b.below token h);
    above = λ token h. same_then (a.above token h) (b.above token (omega (arith, high, h)));
    holds = λ c g. (
      a.holds c (agrees_before (agrees_in g low (omega arith)) b.keeps (λ token p q. b.above token p)),
      b.holds c
          (agrees_in g (omega arith) high),
    );
    marks = marks_then (marks_wider lo hi a.marks low (omega arith)) (marks_wider lo hi b.marks (omega arith) high);
  }

  pub so : {lo hi : ℕ} {w v : Walk} {P Q : ℕ → Type 0} → Part tree z lo hi w v P → ((c : ℕ) → P c → Q c) → Part tree z lo hi w v Q
  so a h = record { keeps = a.keeps; below = a.below; above = a.above; holds = λ c g. h c (a.holds c g); marks = a.marks }

  pub wider : {lo hi l h : ℕ} {w v : Walk} {P : ℕ → Type 0} → Part tree z lo hi w v P → l ≤ lo → hi ≤ h → Part tree z l h w v P
  wider {l = l} {h = h} a low high = record {
    keeps = a.keeps;
    below = λ token p. a.below token (omega (arith, low, p));
    above = λ token p. a.above token (omega (arith, high, p));
    holds = λ c g. a.holds c (agrees_in g low high);
    marks = marks_wider l h a.marks low high;
  }

  pub nothing_noted : {P : ℕ → Type 0} (lo hi : ℕ) (w : Walk) → ((c : ℕ) → P c) → Part tree z lo hi w w P
  nothing_noted lo hi w h = record {
    keeps = keeps_here w;
    below = λ token l. same_here w token;
    above = λ token l. same_here w token;
    holds = λ c g. h c;
    marks = marks_here lo hi w;
  }

  pub typed_keeps : (token : ℕ) (of : TypeTree) (w : Walk) → Keeps tree z w (with_type token of w)
  typed_keeps token of w = record {
    types = length_replaced w.types token (Some of);
    variables_at = refl;
    offsets_at = refl;
    functions_at = refl;
    structs = refl;
    tags = refl;
    functions = refl;
    scope = refl;
    variables = λ i x h. h;
    declared = λ i of h. h;
    locals = omega arith;
    count = refl;
    wholes = λ h. h;
    long = λ h. h;
    slots = λ h. h;
  }

  -- the type of an expression at its own token
  pub type_noted : (token : ℕ) (of : TypeTree) (w : Walk) → token < length w.types
      → Part tree z token (token + 1) w (with_type token of w) (λ c. note_at z.types token ≡ Some of)
  type_noted token of w h = record {
    keeps = typed_keeps token of w;
    below = λ q l. typed_same token q of w (λ x. omega (arith, x, l));
    above = λ q l. typed_same token q of w (λ x. omega (arith, x, l));
    holds = λ c g. (g.notes token (omega arith) (omega arith)).types ∙ noted_same w.types token of h;
    marks = marks_typed token of w;
  }
