-- What is noted of names, of calls and of members, and what names mean.
use Rattle.std.proofs.Common.{◌≡◌, ℕ, ◌≤◌, ◌<◌, refl, ap, subst, sym, ◌∙◌, arith, List, [], ◌∷◌, Some, None, ◌+◌, Bool, true, false, length}
use Rattle.std.specs.Prelude.{Option, slice_get, if◌then◌else◌}
use Rattle.std.specs.Option.{option_map, option_and_then}
use Rattle.std.specs.Str.{bytes_eq}
use Rattle.c_syntax.specs.ItemTree.{SourceTree}
use Rattle.c_types_rules.specs.declared.library.Library.{Library}
use Rattle.c_types_rules.specs.Words.{library_named, TypeTree, is_scalar, is_complete}
use Rattle.c_types_rules.specs.TypeTree as t
use Rattle.c_types_expressions.specs.declared.names.Meaning.{Meaning}
use Rattle.c_types_expressions.specs.declared.names.Meaning.TheVariants as meaning
use Rattle.c_types_expressions.specs.declared.names.ScopeEntry.{ScopeEntry}
use Rattle.c_types_expressions.specs.declared.names.ScopeEntry.TheVariants.{Opens, Declares}
use Rattle.c_types_expressions.specs.declared.walk.Definition.{Definition}
use Rattle.c_types_expressions.specs.declared.walk.FunctionEntry.{FunctionEntry}
use Rattle.c_types_expressions.specs.declared.walk.Variable.{Variable}
use Rattle.c_types_expressions.specs.declared.walk.Variable.TheVariants as variable
use Rattle.c_types_expressions.specs.declared.walk.VariableEntry.{VariableEntry}
use Rattle.c_types_expressions.specs.declared.walk.Walk.{Walk}
use Rattle.c_types_rules.proofs.Same.{same_self}
use Rattle.std.proofs.lemmas.Bool.{false≢true}
use Rattle.c_types.specs.Answers.{declared_at, note_at, variable_at, variable_of}
use Rattle.c_types_expressions.specs.Words.{with_call, with_offset, with_use, declared_as, declared_meaning, meaning_of, or_before, with_type}
use Rattle.c_types.specs.Numbers.{function_of}
use Rattle.flow.specs.declared.site.Slot.{Slot}
use Rattle.c_meaning.specs.Words.{Signature, computed_type, signature_of, signature_with, slot_of}
use Rattle.std.specs.Prelude.{map}
use Rattle.c_types.proofs.Replaced.{noted_other, noted_same}
use Rattle.base_lists.proofs.Lists.{Stays}
use Rattle.c_types.proofs.Noted.{length_replaced}
use Rattle.c_meaning_laws.specs.Typed.{HasSlot}
use Rattle.c_meaning_sound.proofs.Marking.{below_both, marks_plain}
use Rattle.c_meaning_sound.proofs.Noting.{AllSlots, IsAmong, IsSlot, NamesSlot, Part, Same, facts, is_of, none}
use Rattle.c_meaning_sound.proofs.Noting.{slot_named}
use Rattle.c_meaning_sound.proofs.Forming.{Numbered}

-- what a name was declared as
abbrev pub Found : ℕ → List VariableEntry → Option Meaning → Type 0
Found count variables None = Unit {0}
Found count variables (Some (meaning.Variable index)) = IsSlot count (slice_get variables index)
Found count variables (Some (meaning.Library function)) = ⊥
Found count variables (Some m) = Unit {0}

-- what a name means
abbrev pub Means : ℕ → List VariableEntry → List ℕ → Option Meaning → Type 0
Means count variables name (Some (meaning.Variable index)) = IsSlot count (slice_get variables index)
Means count variables name (Some (meaning.Library function)) = library_named name ≡ Some function
Means count variables name m = Unit {0}

module _ (count : ℕ) (variables : List VariableEntry) (name : List ℕ) where
  declared_found : (entry : ScopeEntry) → NamesSlot count variables entry → Found count variables (declared_as name entry)
  declared_found Opens h = tt
  declared_found (Declares other m) h = tested (bytes_eq other name) m h
    where
      tested : (b : Bool) (m : Meaning) → NamesSlot count variables (Declares other m) → Found count variables (if b then Some m else None)
      tested false m h = tt
      tested true (meaning.Variable index) h = h
      tested true (meaning.Function index) h = tt
      tested true (meaning.Struct index) h = tt
      tested true (meaning.Library function) h = h

  either_found : (m n : Option Meaning) → Found count variables m → Found count variables n → Found count variables (or_before m n)
  either_found None n h k = k
  either_found (Some m) n h k = h

  all_found : (names : List ScopeEntry) → AllSlots count variables names → Found count variables (declared_meaning name names)
  all_found [] h = tt
  all_found (entry ∷ rest) h = either_found (declared_as name entry) (declared_meaning name rest) (declared_found entry h.0) (all_found rest h.1)

  library_means : (o : Option Library) → library_named name ≡ o → Means count variables name (option_map meaning.Library o)
  library_means None h = tt
  library_means (Some function) h = h

  found_means : (m : Option Meaning) → Found count variables m → Means count variables name (or_before m (option_map meaning.Library (library_named name)))
  found_means None h = library_means (library_named name) refl
  found_means (Some (meaning.Variable index)) h = h
  found_means (Some (meaning.Function index)) h = tt
  found_means (Some (meaning.Struct index)) h = tt
  found_means (Some (meaning.Library function)) h = absurd h

  pub all_mean : (names : List ScopeEntry) → AllSlots count variables names → Means count variables name (meaning_of name names)
  all_mean names h = found_means (declared_meaning name names) (all_found names h)

-- what is known of a function
abbrev pub Signed : Walk → FunctionEntry → Option Signature → Type 0
Signed z g None = ⊥
Signed z g (Some f) = (f.params ≡ map (computed_type z.structs) g.ctype.params) × (f.result ≡ computed_type z.structs g.ctype.gives)

abbrev number_or : Option ℕ → ℕ
number_or None = 0
number_or (Some n) = n

signed_by : (z : Walk) (g : FunctionEntry) (index : ℕ) (d : Option Definition) → option_map function_of d ≡ Some index → slice_get z.functions index ≡ Some g
    → Signed z g (signature_of z d)
signed_by z g index None h k = cc
signed_by z g index (Some d) h k =
    subst (λ o. Signed z g (signature_with z d o)) (sym (ap (λ n. slice_get z.functions n) (ap number_or h) ∙ k)) (refl, refl)

among_has : (tree : SourceTree) (z : Walk) (c n : ℕ) (v : Variable) → IsAmong n v → n ≤ c → HasSlot (facts tree z) none c (Some (slot_of v))
among_has tree z c n (variable.Global index) h le = tt
among_has tree z c n (variable.Local index) h le = omega (arith, h, le)

slot_has : (tree : SourceTree) (z : Walk) (c n index : ℕ) (variables : List VariableEntry) (e : Option VariableEntry) → slice_get variables index ≡ e
    → IsSlot n e → n ≤ c
    → Stays variables z.variables → HasSlot (facts tree z) none c (option_map slot_of (option_map variable_of (slice_get z.variables index)))
slot_has tree z c n index variables None e h le stays = absurd h
slot_has tree z c n index variables (Some entry) e h le stays = rw (stays index entry e) (among_has tree z c n entry.variable h le)

-- a scalar is known whole
scalar_whole : (z : Walk) (of : TypeTree) → is_scalar of ≡ true → is_complete z.structs of ≡ true
scalar_whole z t.Void h = absurd (false≢true h)
scalar_whole z (t.Array element size) h = absurd (false≢true h)
scalar_whole z (t.Struct tag) h = absurd (false≢true h)
scalar_whole z of h = refl

-- a variable's type is its own, and that is known to the end where it is one of a scalar
own_type : (z : Walk) (of : TypeTree) (own : Option TypeTree) (b : Bool) → is_scalar of ≡ b → (is_complete z.structs of ≡ true → own ≡ Some of)
    → is_of of own ≡ true
own_type z of own true e h = rw e (rw (h (scalar_whole z of e)) (same_self of))
own_type z of own false e h = rw e refl

slot_is : (tree : SourceTree) (z : Walk) (token : ℕ) (of : TypeTree) (P : Option Slot → Type 0) → note_at z.types token ≡ Some of → is_of of
    (declared_at z token) ≡ true
    → P (option_map slot_of (variable_at z token)) → P ((facts tree z).slot_at token)
slot_is tree z token of P h k p = subst (λ o. P (slot_named o (declared_at z token) (option_map slot_of (variable_at z token)))) (sym h) (rw k p)

module _ {tree : SourceTree} {z : Walk} where
  -- a name's variable and type
  pub name_noted : (token index : ℕ) (of : TypeTree) (w : Walk) → token < length w.types → token < length w.variables_at
      → IsSlot w.locals (slice_get w.variables index) → slice_get w.declared_types index ≡ Some of
      → Part tree z token (token + 1) w (with_type token of (with_use token index w))
      (λ c. (note_at z.types token ≡ Some of) × HasSlot (facts tree z) none c ((facts tree z).slot_at token))
  name_noted token index of w h k s d = record {
    keeps = record {
      types = length_replaced w.types token (Some of);
      variables_at = length_replaced w.variables_at token (Some index);
      offsets_at = refl;
      functions_at = refl;
      structs = refl;
      tags = refl;
      functions = refl;
      scope = refl;
      variables = λ i x h. h;
      declared = λ i of h. h;
      locals = omega arith;
      count = refl;
      wholes = λ h. h;
      long = λ h. h;
      slots = λ h. h;
    };
    below = λ q l. apart q (λ x. omega (arith, x, l));
    above = λ q l. apart q (λ x. omega (arith, x, l));
    holds = λ c g. let here : Same (with_type token of (with_use token index w)) z token = g.notes token (omega arith) (omega arith) in (
      here.types ∙ noted_same w.types token of h,
      slot_is tree z token of (HasSlot (facts tree z) none c) (here.types ∙ noted_same w.types token of h)
          (own_type z of (declared_at z token) (is_scalar of) refl (λ m.
          ap (λ o. option_and_then (λ place. slice_get z.declared_types place) o) (here.variables ∙ noted_same w.variables_at token index k)
          ∙ g.declared index of d m))
          (rw (here.variables ∙ noted_same w.variables_at token index k)
          (slot_has tree z c w.locals index w.variables (slice_get w.variables index) refl s g.locals g.variables)),
    );
    marks = marks_plain token (token + 1) w (with_type token of (with_use token index w)) refl refl refl refl refl
        (λ n p q. below_both w.latest token n q (omega (arith, p)));
  }
    where
      apart : (q : ℕ) → (token ≡ q → ⊥) → Same w (with_type token of (with_use token index w)) q
      apart q x = record {
        types = noted_other w.types token q (Some of) x;
        variables = noted_other w.variables_at token q (Some index) x;
        offsets = refl;
        functions = refl;
      }

  -- the function that a call calls, and its type
  pub call_noted : (token index : ℕ) (of : TypeTree) (w : Walk) → token < length w.types → token < length w.functions_at
      → Part tree z token (token + 1) w (with_type token of (with_call token index w))
      (λ c. (note_at z.types token ≡ Some of) × (note_at z.functions_at token ≡ Some index))
  call_noted token index of w h k = record {
    keeps = record {
      types = length_replaced w.types token (Some of);
      variables_at = refl;
      offsets_at = refl;
      functions_at = length_replaced w.functions_at token (Some index);
      structs = refl;
      tags = refl;
      functions = refl;
      scope = refl;
      variables = λ i x h. h;
      declared = λ i of h. h;
      locals = omega arith;
      count = refl;
      wholes = λ h. h;
      long = λ h. h;
      slots = λ h. h;
    };
    below = λ q l. apart q (λ x. omega (arith, x, l));
    above = λ q l. apart q (λ x. omega (arith, x, l));
    holds = λ c g. let here : Same (with_type token of (with_call token index w)) z token = g.notes token (omega arith) (omega arith) in
        (here.types ∙ noted_same w.types token of h, here.functions ∙ noted_same w.functions_at token index k);
    marks = marks_plain token (token + 1) w (with_type token of (with_call token index w)) refl refl refl refl refl
        (λ n p q. below_both w.latest token n q (omega (arith, p)));
  }
    where
      apart : (q : ℕ) → (token ≡ q → ⊥) → Same w (with_type token of (with_call token index w)) q
      apart q x = record {
        types = noted_other w.types token q (Some of) x;
        variables = refl;
        offsets = refl;
        functions = noted_other w.functions_at token q (Some index) x;
      }

  -- the offset of a member, and its type
  pub member_noted : (token offset : ℕ) (of : TypeTree) (w : Walk) → token < length w.types → token < length w.offsets_at
      → Part tree z token (token + 1) w (with_type token of (with_offset token offset w))
      (λ c. (note_at z.types token ≡ Some of) × (note_at z.offsets_at token ≡ Some offset))
  member_noted token offset of w h k = record {
    keeps = record {
      types = length_replaced w.types token (Some of);
      variables_at = refl;
      offsets_at = length_replaced w.offsets_at token (Some offset);
      functions_at = refl;
      structs = refl;
      tags = refl;
      functions = refl;
      scope = refl;
      variables = λ i x h. h;
      declared = λ i of h. h;
      locals = omega arith;
      count = refl;
      wholes = λ h. h;
      long = λ h. h;
      slots = λ h. h;
    };
    below = λ q l. apart q (λ x. omega (arith, x, l));
    above = λ q l. apart q (λ x. omega (arith, x, l));
    holds = λ c g. let here : Same (with_type token of (with_offset token offset w)) z token = g.notes token (omega arith) (omega arith) in
        (here.types ∙ noted_same w.types token of h, here.offsets ∙ noted_same w.offsets_at token offset k);
    marks = marks_plain token (token + 1) w (with_type token of (with_offset token offset w)) refl refl refl refl refl
        (λ n p q. below_both w.latest token n q (omega (arith, p)));
  }
    where
      apart : (q : ℕ) → (token ≡ q → ⊥) → Same w (with_type token of (with_offset token offset w)) q
      apart q x = record {
        types = noted_other w.types token q (Some of) x;
        variables = refl;
        offsets = noted_other w.offsets_at token q (Some offset) x;
        functions = refl;
      }

  pub signed : (g : FunctionEntry) (index : ℕ) (n : Numbered tree z index) → slice_get z.functions index ≡ Some g → Signed z g
      ((facts tree z).signature n.number)
  signed g index n k = signed_by z g index (slice_get z.definitions n.number) n.definition k
