-- The function that is noted of a call is the definition with its name.
use Rattle.std.proofs.Common.{◌⊎◌, inl, inr, ⊎_elim, ◌≡◌, ℕ, zero, suc, ◌+◌, ◌-◌, Bool, true, false, if◌then◌else◌, List, [], ◌∷◌, length, map, Option, Some, None, is_some, option_and_then, option_map, refl, sym, ap, ◌∙◌, subst, arith}
use Rattle.std.specs.Prelude.{slice_get}
use Rattle.std.specs.Str.{bytes_eq}
use Rattle.std.proofs.lemmas.Bool.{false≢true}
use Rattle.std.proofs.lemmas.List.{length-replicate}
use Rattle.std.proofs.lemmas.Option.{slice_get-map, same_Some}
use Rattle.std.proofs.lemmas.Slice.Eq.{bytes_eq-Decides}
use Rattle.c_types.proofs.Replaced.{noted_same}
use Rattle.c_types_faults.proofs.Calling.{function_by}
use Rattle.c_syntax.specs.Words.{SourceTree, IsShaped}
use Rattle.c_types_rules.specs.declared.library.Library.{Library}
use Rattle.c_types_rules.specs.Library.{library_named}
use Rattle.c_types.specs.Answers.{function_at, note_at}
use Rattle.c_types.specs.Fault.{walk_tree}
use Rattle.c_types.specs.Numbers.{function_of}
use Rattle.c_types.proofs.FunctionLaws.{functions_numbered}
use Rattle.c_types_expressions.specs.Words.{Fine, declared_meaning, is_reserved, meaning_of, or_before}
use Rattle.c_types_expressions.specs.declared.names.Meaning.{Meaning}
use Rattle.c_types_expressions.specs.declared.names.Meaning.TheVariants as meaning
use Rattle.c_types_expressions.specs.declared.walk.Walk.{Walk}
use Rattle.defined_functions.specs.Functions.{functions_of}
use Rattle.c_types_faults.specs.NotedCalls.{name_number, number_called}
use Rattle.c_types_faults.specs.Events.{Construct, Calls, Selects, Other, Value, construct_at, events_of}
use Rattle.c_types_faults.specs.Scopes.{scopes_of}
use Rattle.c_types_faults.proofs.NotedFunctions.{Defined, Known}
use Rattle.c_types_faults.proofs.Leaving.{Left}
use Rattle.c_types_faults.proofs.Noting.{Found, FoundAs, Named, alone_after, alone_before, finds, found_is, path_onward, some_at, stays}
use Rattle.c_types_faults.proofs.Paths.{CalledAs, View, view}
use Rattle.c_types_faults.proofs.Points.{Among}
use Rattle.c_types_faults.proofs.NotedTexts.{before, none_noted, text_known, text_left, text_path}

-- the number of a name among names

number_by : (name other : List ℕ) (n : ℕ) (rest : List (List ℕ)) (b : Bool) (number : ℕ) → bytes_eq other name ≡ b
    → (if b then Some n else name_number name (n + 1) rest) ≡ Some number
    → (name_number name (n + 1) rest ≡ Some number → (i : ℕ) × ((number ≡ n + 1 + i) × (slice_get rest i ≡ Some name)))
    → (i : ℕ) × ((number ≡ n + i) × (slice_get (other ∷ rest) i ≡ Some name))
number_by name other n rest true number e h f = (0, (omega (arith, same_Some n number h), ap Some ((bytes_eq-Decides other name).0 e)))
number_by name other n rest false number e h f =
    let g : (i : ℕ) × ((number ≡ n + 1 + i) × (slice_get rest i ≡ Some name)) = f h in (suc g.0, (omega (arith, g.1.0), g.1.1))

number_is : (name : List ℕ) (n : ℕ) (names : List (List ℕ)) (number : ℕ) → name_number name n names ≡ Some number
    → (i : ℕ) × ((number ≡ n + i) × (slice_get names i ≡ Some name))
number_is name n [] number h = absurd (cc)
number_is name n (other ∷ rest) number h =
    number_by name other n rest (bytes_eq other name) number refl h (λ g. number_is name (n + 1) rest number g)

none_by : (name other : List ℕ) (n : ℕ) (rest : List (List ℕ)) (b : Bool) → bytes_eq other name ≡ b
    → (if b then Some n else name_number name (n + 1) rest) ≡ None → (other ≡ name → ⊥) × (name_number name (n + 1) rest ≡ None)
none_by name other n rest true e h = absurd (cc)
none_by name other n rest false e h = ((λ s. absurd (false≢true (sym e ∙ (bytes_eq-Decides other name).1 s))), h)

none_is : (name : List ℕ) (n : ℕ) (names : List (List ℕ)) (i : ℕ) → name_number name n names ≡ None → slice_get names i ≡ Some name → ⊥
none_is name n [] i h g = absurd (cc)
none_is name n (other ∷ rest) zero h g = (none_by name other n rest (bytes_eq other name) refl h).0 (same_Some other name g)
none_is name n (other ∷ rest) (suc i) h g = none_is name (n + 1) rest i (none_by name other n rest (bytes_eq other name) refl h).1 g

-- the definitions and their names

defined_name : (fs : List (List ℕ)) (indexes : List ℕ) (names : List (List ℕ)) (i index : ℕ) → Defined fs indexes names → slice_get indexes i ≡ Some index
    → (name : List ℕ) × ((slice_get names i ≡ Some name) × (slice_get fs index ≡ Some name))
defined_name fs [] [] i index h e = absurd (cc)
defined_name fs (x ∷ xs) (y ∷ ys) zero index h e = (y, (refl, subst (λ n. slice_get fs n ≡ Some y) (same_Some x index e) h.0))
defined_name fs (x ∷ xs) (y ∷ ys) (suc i) index h e = defined_name fs xs ys i index h.1 e
defined_name fs [] (y ∷ ys) i index h e = absurd h
defined_name fs (x ∷ xs) [] i index h e = absurd h

defined_index : (fs : List (List ℕ)) (indexes : List ℕ) (names : List (List ℕ)) (i : ℕ) (name : List ℕ) → Defined fs indexes names
    → slice_get names i ≡ Some name → (index : ℕ) × ((slice_get indexes i ≡ Some index) × (slice_get fs index ≡ Some name))
defined_index fs [] [] i name h e = absurd (cc)
defined_index fs (x ∷ xs) (y ∷ ys) zero name h e = (x, (refl, h.0 ∙ e))
defined_index fs (x ∷ xs) (y ∷ ys) (suc i) name h e = defined_index fs xs ys i name h.1 e
defined_index fs [] (y ∷ ys) i name h e = absurd h
defined_index fs (x ∷ xs) [] i name h e = absurd h

-- what a called name means

pub library_by : (o : Option Meaning) (l : Option Library) (f : Library) → or_before o (option_map meaning.Library l) ≡ Some (meaning.Library f)
    → (o ≡ Some (meaning.Library f)) ⊎ (is_some l ≡ true)
library_by None None f h = absurd (cc)
library_by None (Some g) f h = inr refl
library_by (Some m) l f h = inl h

module _ (s : SourceTree) (z : Walk) (shaped : IsShaped s) (w : walk_tree s ≡ Fine tt z) where
  abbrev n : ℕ
  n = length s.lines

  left : Left false 0 n (n - 1) (events_of s) (scopes_of s) (before s) (view z)
  left = text_left s z shaped w

  known : Known (functions_of s) (view z)
  known = text_known s z shaped w

  defined_as : (number place : ℕ) → slice_get (map function_of z.definitions) number ≡ Some place → note_at z.defined_as place ≡ Some number
  defined_as number place h = (functions_numbered s z w place number).1 (sym (slice_get-map function_of z.definitions number) ∙ h)

  as_defined : (number place : ℕ) → note_at z.defined_as place ≡ Some number → slice_get (map function_of z.definitions) number ≡ Some place
  as_defined number place h = slice_get-map function_of z.definitions number ∙ (functions_numbered s z w place number).0 h

  -- a declared function has the number of its name
  pub number_at : (name : List ℕ) (index : ℕ) → slice_get (view z).functions index ≡ Some name
      → note_at z.defined_as index ≡ name_number name 0 (functions_of s)
  number_at name index h = by (name_number name 0 (functions_of s)) refl
    where
      none : (o : Option ℕ) → note_at z.defined_as index ≡ o → name_number name 0 (functions_of s) ≡ None → o ≡ None
      none None e g = refl
      none (Some number) e g =
          let d : (other : List ℕ) × ((slice_get (functions_of s) number ≡ Some other) × (slice_get (view z).functions index ≡ Some other)) =
          defined_name (view z).functions (view z).definitions (functions_of s) number index known.defines (as_defined number index e) in
          absurd (none_is name 0 (functions_of s) number g (d.1.0 ∙ sym d.1.1 ∙ h))

      by : (o : Option ℕ) → name_number name 0 (functions_of s) ≡ o → note_at z.defined_as index ≡ o
      by None e = none (note_at z.defined_as index) refl e
      by (Some number) e =
          let g : (i : ℕ) × ((number ≡ 0 + i) × (slice_get (functions_of s) i ≡ Some name)) = number_is name 0 (functions_of s) number e in
          let d : (place : ℕ) × ((slice_get (view z).definitions g.0 ≡ Some place) × (slice_get (view z).functions place ≡ Some name)) =
          defined_index (view z).functions (view z).definitions (functions_of s) g.0 name known.defines g.1.1 in
          defined_as g.0 index (subst (λ p. slice_get (view z).definitions g.0 ≡ Some p) (known.single name d.0 index d.1.1 h) d.1.0)
          ∙ ap Some (omega (arith, g.1.0))

  -- no function has a name of the library
  reserved_none : (name : List ℕ) → is_reserved name ≡ true → name_number name 0 (functions_of s) ≡ None
  reserved_none name h = by (name_number name 0 (functions_of s)) refl
    where
      by : (o : Option ℕ) → name_number name 0 (functions_of s) ≡ o → o ≡ None
      by None e = refl
      by (Some number) e =
          let g : (i : ℕ) × ((number ≡ 0 + i) × (slice_get (functions_of s) i ≡ Some name)) = number_is name 0 (functions_of s) number e in
          let d : (place : ℕ) × ((slice_get (view z).definitions g.0 ≡ Some place) × (slice_get (view z).functions place ≡ Some name)) =
          defined_index (view z).functions (view z).definitions (functions_of s) g.0 name known.defines g.1.1 in
          absurd (false≢true (sym (known.free name d.0 d.1.1) ∙ h))

  module _ (k : ℕ) where
    abbrev defined_number : Option ℕ → Option ℕ
    defined_number o = option_and_then (λ place. note_at z.defined_as place) o

    unchanged : (c : Construct) (f : Found k c (events_of s) (before s) (view z)) → f.to.calls ≡ f.from.calls → note_at z.functions_at k ≡ None
    unchanged c f same =
        (stays k f.after f.to (view z) (alone_after f left.once) f.rest).calls
        ∙ ap (λ xs. note_at xs k) same
        ∙ (stays k f.before (before s) f.from (alone_before f left.once) f.path).calls
        ∙ none_noted n k

    called_at : (name : List ℕ) (f : Found k (Calls name) (events_of s) (before s) (view z)) → Among k (events_of s) → (m : Option Meaning)
        → meaning_of name f.from.names ≡ m → CalledAs k m f.from f.to → function_at z k ≡ name_number name 0 (functions_of s)
    called_at name f among None e c = absurd c
    called_at name f among (Some (meaning.Variable index)) e c = absurd c
    called_at name f among (Some (meaning.Struct index)) e c = absurd c
    called_at name f among (Some (meaning.Library function)) e c =
        ap defined_number (unchanged (Calls name) f (ap (λ (v : View). v.calls) c.1))
        ∙ sym (reserved_none name (⊎_elim
        (λ h. absurd (subst (λ m. FoundAs name m f.from.names) h (found_is name f.from.names named.own))) (λ h. h)
        (library_by (declared_meaning name f.from.names) (library_named name) function e)))
      where
        named : Named f.from
        named = (path_onward f.before (before s) f.from f.path).named (record { by = λ name index h. absurd h; own = tt })
    called_at name f among (Some (meaning.Function index)) e c =
        ap defined_number
        ((stays k f.after f.to (view z) (alone_after f left.once) f.rest).calls ∙ ap (λ (v : View). note_at v.calls k) c.1
        ∙ noted_same f.from.calls k index
        (omega (arith, (left.within k among).1, (path_onward f.before (before s) f.from f.path).calls, length-replicate {A = Option ℕ} n None)))
        ∙ number_at name index ((path_onward (Value k (Calls name) ∷ f.after) f.from (view z) (f.to, (f.notes, f.rest))).functions index name
        (named.by name index (subst (λ m. FoundAs name m f.from.names) (function_by (declared_meaning name f.from.names) (library_named name) index e)
        (found_is name f.from.names named.own))))
      where
        named : Named f.from
        named = (path_onward f.before (before s) f.from f.path).named (record { by = λ name index h. absurd h; own = tt })

    pub function_is : (o : Option Construct) → construct_at k (events_of s) ≡ o → function_at z k ≡ number_called (functions_of s) o
    function_is None e = ap defined_number ((stays k (events_of s) (before s) (view z) e (text_path s z w)).calls ∙ none_noted n k)
    function_is (Some Other) e =
        let f : Found k Other (events_of s) (before s) (view z) = finds k Other (events_of s) (before s) (view z) e (text_path s z w) in
        ap defined_number (unchanged Other f (ap (λ (v : View). v.calls) f.notes.1))
    function_is (Some (Selects operand behind name)) e =
        let f : Found k (Selects operand behind name) (events_of s) (before s) (view z) =
        finds k (Selects operand behind name) (events_of s) (before s) (view z) e (text_path s z w) in
        ap defined_number (unchanged (Selects operand behind name) f (ap (λ (v : View). v.calls) f.notes.to))
    function_is (Some (Calls name)) e =
        let f : Found k (Calls name) (events_of s) (before s) (view z) = finds k (Calls name) (events_of s) (before s) (view z) e (text_path s z w) in
        called_at name f (some_at k (Calls name) (events_of s) e) (meaning_of name f.from.names) refl f.notes

pub functions_are : (s : SourceTree) (z : Walk) → IsShaped s → walk_tree s ≡ Fine tt z → (k : ℕ)
    → function_at z k ≡ number_called (functions_of s) (construct_at k (events_of s))
functions_are s z shaped w k = function_is s z shaped w k (construct_at k (events_of s)) refl
