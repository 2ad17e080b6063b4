-- The offset that is noted of a member is the sum of the cells before it.
use Rattle.std.proofs.Common.{◌≡◌, ℕ, ◌+◌, ◌-◌, Bool, true, false, if◌then◌else◌, List, [], ◌∷◌, length, Option, Some, None, Ok, option_and_then, option_map, refl, ap, ◌∙◌, arith}
use Rattle.std.specs.Prelude.{slice_get}
use Rattle.std.specs.List.{AllByRecursion}
use Rattle.std.specs.Str.{bytes_eq}
use Rattle.std.proofs.lemmas.List.{length-replicate}
use Rattle.std.proofs.lemmas.Option.{same_Some}
use Rattle.c_types.proofs.Replaced.{noted_same}
use Rattle.base_lists.proofs.Options.{none_is_some}
use Rattle.base_lists.proofs.Every.{all_at}
use Rattle.c_syntax.specs.Words.{SourceTree, IsShaped}
use Rattle.c_types_rules.specs.declared.layout.Member.{Member}
use Rattle.c_types_rules.specs.declared.layout.StructType.{StructType}
use Rattle.c_types_rules.specs.TypeTree as t
use Rattle.c_types_rules.specs.Words.{TypeTree, known_member, member_in, member_named, member_of, cells_of}
use Rattle.c_types.specs.Answers.{note_at, offset_at, type_at}
use Rattle.c_types.specs.Fault.{walk_tree}
use Rattle.c_types.specs.Laid.{AreLaid, IsSummed}
use Rattle.c_types.proofs.Summed.{structs_summed}
use Rattle.c_types_expressions.specs.Words.{Fine, meaning_of}
use Rattle.c_types_expressions.specs.declared.names.Meaning.{Meaning}
use Rattle.c_types_expressions.specs.declared.names.Meaning.TheVariants as meaning
use Rattle.c_types_expressions.specs.declared.walk.Walk.{Walk}
use Rattle.c_types_faults.specs.Events.{Construct, Calls, Selects, Other, Value, construct_at, events_of}
use Rattle.c_types_faults.specs.Offsets.{HasOffset, cells_before, cells_in, offset_of, struct_in, struct_of}
use Rattle.c_types_faults.specs.Scopes.{scopes_of}
use Rattle.c_types_faults.proofs.Leaving.{Left}
use Rattle.c_types_faults.proofs.Noting.{Found, Onward, alone_after, alone_before, apart_after, finds, path_onward, some_at, stays}
use Rattle.c_types_faults.proofs.Paths.{CalledAs, Path, View, member_by, view}
use Rattle.c_types_faults.proofs.Points.{Among}
use Rattle.c_types_faults.proofs.NotedTexts.{before, none_noted, text_left, text_path}

-- the member of a struct that lies so

before_by : (structs : List StructType) (name : List ℕ) (first : ℕ) (m : Member) (ms : List Member) (b : Bool) (r : Member) → m.offset ≡ first
    → (if b then Some m else member_named name ms) ≡ Some r
    → (member_named name ms ≡ Some r → (n : ℕ) × ((cells_before structs name ms ≡ Some n) × (r.offset ≡ first + cells_of structs m.ctype + n)))
    → (n : ℕ) × (((if b then Some 0 else option_map (λ n. cells_of structs m.ctype + n) (cells_before structs name ms)) ≡ Some n) × (r.offset ≡ first + n))
before_by structs name first m ms true r at h f = (0, (refl, omega (arith, at, ap (λ (x : Member). x.offset) (same_Some m r h))))
before_by structs name first m ms false r at h f =
    let g : (n : ℕ) × ((cells_before structs name ms ≡ Some n) × (r.offset ≡ first + cells_of structs m.ctype + n)) = f h in
    (cells_of structs m.ctype + g.0, (ap (option_map (λ n. cells_of structs m.ctype + n)) g.1.0, omega (arith, g.1.1)))

before_is : (structs : List StructType) (name : List ℕ) (first end : ℕ) (ms : List Member) (r : Member) → AreLaid structs first ms end
    → member_named name ms ≡ Some r → (n : ℕ) × ((cells_before structs name ms ≡ Some n) × (r.offset ≡ first + n))
before_is structs name first end [] r l h = absurd (cc)
before_is structs name first end (m ∷ ms) r l h =
    before_by structs name first m ms (bytes_eq m.name name) r l.0 h (λ g. before_is structs name (first + cells_of structs m.ctype) end ms r l.1 g)

-- which struct it is

record Chosen (structs : List StructType) (name : List ℕ) (number : Option ℕ) (m : Member) : Type 0 where
  pub tag : ℕ
  pub struct : StructType
  pub is : number ≡ Some tag
  pub stands : slice_get structs tag ≡ Some struct
  pub named : member_named name struct.members ≡ Some m

known_is : (o : Option Member) (m : Member) → known_member o ≡ Ok m → o ≡ Some m
known_is None m h = absurd (cc)
known_is (Some x) m h = cc

in_struct : (structs : List StructType) (name : List ℕ) (tag : ℕ) (m : Member) (s : Option StructType) → slice_get structs tag ≡ s → member_in name s ≡ Ok m
    → Chosen structs name (Some tag) m
in_struct structs name tag m None e h = absurd (cc)
in_struct structs name tag m (Some s) e h = record { tag = tag; struct = s; is = refl; stands = e; named = known_is (member_named name s.members) m h }

chosen_of : (structs : List StructType) (name : List ℕ) (of : TypeTree) (m : Member) → member_of structs name of ≡ Ok m → Chosen structs name (struct_in of) m
chosen_of structs name (t.Struct tag) m h = in_struct structs name tag m (slice_get structs tag) refl h
chosen_of structs name of m h = absurd (cc)

chosen_by : (behind : Bool) (structs : List StructType) (name : List ℕ) (of : TypeTree) (m : Member) → member_by behind structs name of ≡ Ok m
    → Chosen structs name (struct_of behind of) m
chosen_by false structs name of m h = chosen_of structs name of m h
chosen_by true structs name (t.Pointer to) m h = chosen_of structs name to m h
chosen_by true structs name (t.Array element size) m h = chosen_of structs name element m h
chosen_by true structs name of m h = absurd (cc)

cells_are : (w : Walk) (operand : ℕ) (behind : Bool) (name : List ℕ) (of : TypeTree) (m : Member) → type_at w operand ≡ Some of
    → AllByRecursion (IsSummed w.structs) w.structs → Chosen w.structs name (struct_of behind of) m → offset_of w operand behind name ≡ Some m.offset
cells_are w operand behind name of m typed summed c =
    let s : IsSummed w.structs c.struct = all_at (IsSummed w.structs) w.structs c.tag c.struct summed c.stands in
    let g : (n : ℕ) × ((cells_before w.structs name c.struct.members ≡ Some n) × (m.offset ≡ 0 + n)) =
    before_is w.structs name 0 c.struct.cells c.struct.members m s.laid c.named in
    ap (λ o. option_and_then (λ number. cells_in w.structs name (slice_get w.structs number)) (option_and_then (struct_of behind) o)) typed
    ∙ ap (option_and_then (λ number. cells_in w.structs name (slice_get w.structs number))) c.is
    ∙ ap (cells_in w.structs name) c.stands ∙ g.1.0 ∙ ap Some (omega (arith, g.1.1))

-- what is noted of other expressions

called_offsets : (token : ℕ) (m : Option Meaning) (a b : View) → CalledAs token m a b → b.offsets ≡ a.offsets
called_offsets token (Some (meaning.Function index)) a b h = ap (λ (v : View). v.offsets) h.1
called_offsets token (Some (meaning.Library function)) a b h = ap (λ (v : View). v.offsets) h.1
called_offsets token m a b h = absurd h

module _ (s : SourceTree) (z : Walk) (shaped : IsShaped s) (w : walk_tree s ≡ Fine tt z) (k : ℕ) where
  abbrev n : ℕ
  n = length s.lines

  left : Left false 0 n (n - 1) (events_of s) (scopes_of s) (before s) (view z)
  left = text_left s z shaped w

  -- no offset, where the offsets stay at the expression
  none_at_found : (c : Construct) (f : Found k c (events_of s) (before s) (view z)) → f.to.offsets ≡ f.from.offsets → offset_at z k ≡ None
  none_at_found c f same =
      (stays k f.after f.to (view z) (alone_after f left.once) f.rest).offsets
      ∙ ap (λ xs. note_at xs k) same
      ∙ (stays k f.before (before s) f.from (alone_before f left.once) f.path).offsets
      ∙ none_noted n k

  selected_at : (operand : ℕ) (behind : Bool) (name : List ℕ) (f : Found k (Selects operand behind name) (events_of s) (before s) (view z))
      → Among k (events_of s) → HasOffset z k (Some (Selects operand behind name))
  selected_at operand behind name f among = (
    f.notes.member.offset,
    (
      cells_are z operand behind name f.notes.of f.notes.member typed (structs_summed s z w)
          (record { tag = chosen.tag; struct = chosen.struct; is = chosen.is; stands = onward.structs chosen.tag chosen.struct chosen.stands; named = chosen.named }),
      (stays k f.after f.to (view z) (alone_after f left.once) f.rest).offsets ∙ ap (λ (v : View). note_at v.offsets k) f.notes.to
          ∙ noted_same f.from.offsets k f.notes.member.offset
          (omega (arith, (left.within k among).1, (path_onward f.before (before s) f.from f.path).offsets, length-replicate {A = Option ℕ} n None)),
    ),
  )
    where
      chosen : Chosen f.from.structs name (struct_of behind f.notes.of) f.notes.member
      chosen = chosen_by behind f.from.structs name f.notes.of f.notes.member f.notes.is

      path : Path (Value k (Selects operand behind name) ∷ f.after) f.from (view z)
      path = (f.to, (f.notes, f.rest))

      onward : Onward f.from (view z)
      onward = path_onward (Value k (Selects operand behind name) ∷ f.after) f.from (view z) path

      -- the operand's type was noted before
      held : note_at f.from.types operand ≡ Some f.notes.of
      held = f.notes.holds.by
          (omega (
            arith,
            f.notes.holds.reached,
            onward.latest,
            left.low (omega arith),
            (left.within k among).1,
            (path_onward f.before (before s) f.from f.path).types,
            length-replicate {A = Option TypeTree} n None,
          ))

      by : (o : Option Construct) → construct_at operand f.before ≡ o → note_at z.types operand ≡ Some f.notes.of
      by None e =
          none_is_some (note_at f.from.types operand) f.notes.of
          ((stays operand f.before (before s) f.from e f.path).types ∙ none_noted {A = TypeTree} n operand) held
      by (Some c) e =
          (stays operand (Value k (Selects operand behind name) ∷ f.after) f.from (view z)
          (apart_after f left.once operand (some_at operand c f.before e)) path).types ∙ held

      typed : type_at z operand ≡ Some f.notes.of
      typed = by (construct_at operand f.before) refl

  pub offset_is : (o : Option Construct) → construct_at k (events_of s) ≡ o → HasOffset z k o
  offset_is None e = (stays k (events_of s) (before s) (view z) e (text_path s z w)).offsets ∙ none_noted n k
  offset_is (Some Other) e =
      let f : Found k Other (events_of s) (before s) (view z) = finds k Other (events_of s) (before s) (view z) e (text_path s z w) in
      none_at_found Other f (ap (λ (v : View). v.offsets) f.notes.1)
  offset_is (Some (Calls name)) e =
      let f : Found k (Calls name) (events_of s) (before s) (view z) = finds k (Calls name) (events_of s) (before s) (view z) e (text_path s z w) in
      none_at_found (Calls name) f (called_offsets k (meaning_of name f.from.names) f.from f.to f.notes)
  offset_is (Some (Selects operand behind name)) e =
      selected_at operand behind name (finds k (Selects operand behind name) (events_of s) (before s) (view z) e (text_path s z w))
      (some_at k (Selects operand behind name) (events_of s) e)

pub offsets_are : (s : SourceTree) (z : Walk) → IsShaped s → walk_tree s ≡ Fine tt z → (k : ℕ) → HasOffset z k (construct_at k (events_of s))
offsets_are s z shaped w k = offset_is s z shaped w k (construct_at k (events_of s)) refl
