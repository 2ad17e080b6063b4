-- What is known of the tokens of an accepted text fits what nodes may name.
use Rattle.std.proofs.Common.{◌≡◌, ℕ, suc, ◌≤◌, ◌<◌, refl, ap, arith, List, [], ◌∷◌, Some, None, ◌+◌, Bool, true, false, length}
use Rattle.std.specs.Prelude.{Option, ◌==◌, ◌&&◌, if◌then◌else◌, nat_le, map, slice_get}
use Rattle.std.specs.Option.{option_and_then, option_map, unwrap_or}
use Rattle.std.proofs.lemmas.List.{length-map}
use Rattle.std.proofs.lemmas.Option.{slice_get_within, same_Some}
use Rattle.base_lists.proofs.Numbers.{is_most}
use Rattle.cbi_base.specs.Format.{conversions_of}
use Rattle.c_syntax.specs.ItemTree.{SourceTree}
use Rattle.c_types_rules.specs.declared.layout.StructType.{StructType}
use Rattle.c_types_rules.specs.TypeTree as t
use Rattle.c_types_rules.specs.Words.{TypeTree, cells_of, is_complete}
use Rattle.c_types_expressions.specs.declared.walk.Definition.{Definition}
use Rattle.c_types_expressions.specs.declared.walk.Variable.{Variable}
use Rattle.c_types_expressions.specs.declared.walk.Variable.TheVariants as variable
use Rattle.c_types_expressions.specs.declared.walk.VariableEntry.{VariableEntry}
use Rattle.c_types_expressions.specs.declared.walk.Walk.{Walk}
use Rattle.c_types.specs.Answers.{offset_at, place_at, type_at, variable_of}
use Rattle.c_types_expressions.specs.Words.{with_stars, empty_walk}
use Rattle.c_types.proofs.NotedItems.{text_notes}
use Rattle.flow.specs.declared.program.Text.{Text}
use Rattle.flow.specs.declared.site.Site.{Site}
use Rattle.flow.specs.declared.site.Slot.TheVariants as slot
use Rattle.flow.specs.Nodes.{step_limit}
use Rattle.c_meaning.specs.declared.value_type.ValueType.TheVariants as type
use Rattle.c_meaning.specs.Words.{Signature, base_named, computed_type, element_cells, facts_of, object_cells, signature_of, slot_of, Literal, string_literals}
use Rattle.c_meaning.specs.Words.{number_from, texts_of}
use Rattle.c_meaning_sound.specs.Accepted.{IsAcceptedTree}
use Rattle.c_meaning_sound.proofs.Accepting.{begins_standing, begins_tagged}
use Rattle.c_meaning_sound.proofs.Ending.{Sums, tree_ended, tree_is, tree_sums}
use Rattle.c_meaning_sound.proofs.Extents.{Extended, items_extent}
use Rattle.c_meaning_sound.proofs.Forming.{Ended}
use Rattle.c_meaning_sound.proofs.Globals.{global_good}
use Rattle.c_meaning_sound.proofs.Lengths.{strings_short}
use Rattle.c_meaning_sound.proofs.Reading.{all_spelled}
use Rattle.c_meaning_sound.proofs.Spanning.{Spans, global_numbered}
use Rattle.c_meaning_sound.proofs.Stating.{body_good}
use Rattle.lower_fits.specs.FactsFit.{FactsFit}
use Rattle.lower_fits.specs.TextNames.{names_of_text}

-- sizes

-- a size that was tested is within the limit
tested_small : (b c : Bool) (cells n : ℕ) → (c ≡ true → cells ≤ step_limit) → (if b && c then Some cells else None) ≡ Some n → n ≤ step_limit
tested_small true true cells n small h = let same : cells ≡ n = same_Some cells n h in omega (arith, small refl, same)
tested_small true false cells n small h = cc
tested_small false c cells n small h = cc

-- a given size, or none
given_small : (o : Option ℕ) → ((n : ℕ) → o ≡ Some n → n ≤ step_limit) → unwrap_or o 0 ≤ step_limit
given_small None small = omega arith
given_small (Some n) small = small n refl

module _ (structs : List StructType) where
  -- the size of an object is within the limit
  object_small : (of : TypeTree) (n : ℕ) → object_cells structs of ≡ Some n → n ≤ step_limit
  object_small of n h = tested_small (is_complete structs of) (nat_le (cells_of structs of) 1048576) (cells_of structs of) n
      (is_most (cells_of structs of) 1048576) h

  -- so is that of what a pointer points to
  element_small : (of : TypeTree) → element_cells structs of ≤ step_limit
  element_small of = given_small (object_cells structs of) (object_small of)

  -- the size in the type of a pointer
  pointer_small : (of : TypeTree) (size : ℕ) → computed_type structs of ≡ type.Pointer size → size ≤ step_limit
  pointer_small (t.Pointer to) size h =
      let same : element_cells structs to ≡ size = cc in
      omega (arith, element_small to, same)
  pointer_small of size h = cc

  -- the size in the type of an array
  array_small : (of : TypeTree) (size : ℕ) → computed_type structs of ≡ type.Array size → size ≤ step_limit
  array_small (t.Array element length) size h =
      let same : element_cells structs element ≡ size = cc in
      omega (arith, element_small element, same)
  array_small of size h = cc

  -- the size in the type of a pointer that was noted
  noted_pointer : (o : Option TypeTree) (size : ℕ) → option_map (computed_type structs) o ≡ Some (type.Pointer size) → size ≤ step_limit
  noted_pointer None size h = cc
  noted_pointer (Some of) size h = pointer_small of size (same_Some (computed_type structs of) (type.Pointer size) h)

  -- the size in the type of an array that was noted
  noted_array : (o : Option TypeTree) (size : ℕ) → option_map (computed_type structs) o ≡ Some (type.Array size) → size ≤ step_limit
  noted_array None size h = cc
  noted_array (Some of) size h = array_small of size (same_Some (computed_type structs of) (type.Array size) h)

  -- the size of an object of a type that was noted
  noted_object : (o : Option TypeTree) (n : ℕ) → option_and_then (object_cells structs) o ≡ Some n → n ≤ step_limit
  noted_object None n h = cc
  noted_object (Some of) n h = object_small of n h

  -- the size of an object of a type that is named
  named_object : (o : Option TypeTree) (stars n : ℕ) → option_and_then (λ of. object_cells structs (with_stars stars of)) o ≡ Some n → n ≤ step_limit
  named_object None stars n h = cc
  named_object (Some of) stars n h = object_small (with_stars stars of) n h

-- strings

-- the number of the first of these strings, or of one behind it
either_below : (b : Bool) (k n count : ℕ) (o : Option ℕ) → 1 ≤ count → ((m : ℕ) → o ≡ Some m → m < k + count) → (if b then Some k else o) ≡ Some n
    → n < k + count
either_below true k n count o some behind h = let same : k ≡ n = same_Some k n h in omega (arith, same, some)
either_below false k n count o some behind h = behind n h

-- the number of a string is below how many there are
number_below : (k token n : ℕ) (xs : List Literal) → number_from k token xs ≡ Some n → n < k + length xs
number_below k token n [] h = cc
number_below k token n (s ∷ xs) h = either_below (s.token == token) k n (suc (length xs)) (number_from (suc k) token xs) (omega arith)
    (λ m e. omega (arith, number_below (suc k) token m xs e)) h

-- globals and functions

-- a variable whose slot is that of a global
global_is : (v : Variable) (n : ℕ) → slot_of v ≡ slot.Global n → v ≡ variable.Global n
global_is (variable.Global index) n h = let same : index ≡ n = cc in ap variable.Global same
global_is (variable.Local index) n h = cc

module _ (z : Walk) (last : ℕ) (spans : Spans last z) where
  -- the variable at a place is one of the globals
  entry_global : (place n : ℕ) (o : Option VariableEntry) → slice_get z.variables place ≡ o → option_map slot_of (option_map variable_of o) ≡ Some (slot.Global n)
      → n < z.globals
  entry_global place n None e h = cc
  entry_global place n (Some entry) e h = global_numbered last z spans place n entry e (global_is entry.variable n (same_Some (slot_of entry.variable) (slot.Global n) h))

  -- so is the variable at a noted place
  place_global : (p : Option ℕ) (n : ℕ)
      → option_map slot_of (option_and_then (λ place. option_map variable_of (slice_get z.variables place)) p) ≡ Some (slot.Global n) → n < z.globals
  place_global None n h = cc
  place_global (Some place) n h = entry_global place n (slice_get z.variables place) refl h

-- a function that has a signature is defined
signed_defined : (z : Walk) (number : ℕ) (f : Signature) (o : Option Definition) → slice_get z.definitions number ≡ o → signature_of z o ≡ Some f
    → number < length z.definitions
signed_defined z number f None e h = absurd cc
signed_defined z number f (Some d) e h = slice_get_within z.definitions number d e

-- where variables stand in an accepted text
record Spanned (z : Walk) : Type 0 where
  last : ℕ
  spans : Spans last z

-- an accepted text has such a place: its end
accepted_spans : (tree : SourceTree) (z : Walk) → IsAcceptedTree tree z → Spanned z
accepted_spans tree z a =
    let ends : Ended tree z = tree_ended tree z a.formed.shaped a.walked in
    let sums : Sums z = tree_sums tree z a.formed.shaped a.walked in
    let long : length z.declared_types ≡ length z.variables = (text_notes tree z a.walked).1.0 in
    let k : Extended tree z ends sums (body_good tree z ends) (global_good tree z ends) long 0 (empty_walk (length tree.lines)) tree.items =
    items_extent tree z ends sums (body_good tree z ends) (global_good tree z ends) long tree.items (length tree.lines) 0 (empty_walk (length tree.lines)) tt
    a.formed.shaped.items a.formed.shaped.placed (all_spelled tree a.formed.shaped.items a.formed.shaped.placed (strings_short tree 1048575 a.short)) a.constants
    (record { structs = tt; functions = tt }) (begins_standing tree z (length tree.lines)) (begins_tagged tree z (length tree.lines))
    (record { long = refl; latest = λ n p q. q; past = λ i entry e. cc }) (omega (arith, a.formed.shaped.lines)) (tree_is tree z a.walked).items in
    record { last = k.last; spans = k.spans }

-- what is known of an accepted text fits, where its members have offsets within the limit
pub facts_fit : (tree : SourceTree) (z : Walk) (table : List Site) → IsAcceptedTree tree z → ((token n : ℕ) → offset_at z token ≡ Some n → n ≤ step_limit)
    → FactsFit (facts_of tree z) (names_of_text tree z table)
facts_fit tree z table a offsets =
    let strings : List Literal = string_literals tree in
    let texts : List Text = texts_of strings in
    let spanned : Spanned z = accepted_spans tree z a in
    let all_strings : length texts ≡ length strings = length-map strings (λ (s : Literal). record { bytes = s.bytes }) in
    let all_texts : length (map (λ (s : Text). conversions_of s.bytes) texts) ≡ length texts = length-map texts (λ (s : Text). conversions_of s.bytes) in
    record {
      pointers = λ token size h. noted_pointer z.structs (type_at z token) size h;
      arrays = λ token size h. noted_array z.structs (type_at z token) size h;
      cells = λ token n h. noted_object z.structs (type_at z token) n h;
      named = λ b stars n h. named_object z.structs (base_named tree.items b) stars n h;
      offsets = offsets;
      globals = λ token n h. place_global z spanned.last spanned.spans (place_at z token) n h;
      texts = λ token n h. omega (arith, number_below 0 token n strings h, all_strings, all_texts);
      functions = λ number f h. signed_defined z number f (slice_get z.definitions number) refl h;
    }
