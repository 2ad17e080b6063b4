-- What a store of files holds, by the place of a name among them.
use Rattle.std.proofs.Common.{◌≡◌, ℕ, zero, suc, ◌+◌, ◌<◌, ◌≤◌, Bool, true, false, cond, not, List, [], ◌∷◌, ◌++◌, map, length, get_or, set, refl, sym, ◌∙◌, ap, arith, ltb-false}
use Rattle.std.specs.Prelude.{Some, None}
use Rattle.std.specs.Ordering.{nat_cmp, eq_by_cmp}
use Rattle.std.specs.Cmp.Lexicographic.{slice_cmp, texts_ties, nat_list_cmp_total}
use Rattle.std.specs.FinMap.{find, get, insert, from_entries, get-from_entries, get-insert, same_map, from_entries_push, slice_cmp-IsAntisymmetric, nat_cmp-IsAntisymmetric}
use Rattle.std.specs.List.{position, position_or_len}
use Rattle.std.proofs.lemmas.Cmp.{eq_by_cmp_equiv}
use Rattle.std.proofs.lemmas.List.{map-append}
use Rattle.std.proofs.lemmas.List.Quantifiers.{position-Some}
use Rattle.std.proofs.lemmas.Map.Lookups.{exact_bytes}
use Rattle.std.proofs.lemmas.Map.Views.{tells_apart}
use Rattle.std.proofs.lemmas.Slice.Eq.{bytes_eq-Decides}
use Rattle.std.specs.String.{string_bytes}
use Rattle.cbi_base.specs.MemStore.{is_file_named, file_entry, held_of}
use Rattle.cbi_base.specs.declared.mem_store.File.{File}

-- the first file of the name stands at the place
pub record IsPlace (name : List ℕ) (files : List File) (place : ℕ) (file : File) : Type 0 where
  pub below : place < length files
  pub named : is_file_named name (get_or files place file) ≡ true
  pub before : (k : ℕ) → k < place → is_file_named name (get_or files k file) ≡ false

-- the rest of the files, where the first one has another name
after_first : (name : List ℕ) (f : File) (fs : List File) (place : ℕ) (d : File) → IsPlace name (f ∷ fs) (suc place) d → IsPlace name fs place d
after_first name f fs place d at = record { below = omega arith; named = at.named; before = λ k h. at.before (suc k) (omega arith) }

pub find-place : (name : List ℕ) (files : List File) (place : ℕ) (d : File) → IsPlace name files place d → find (slice_cmp nat_cmp) name (map file_entry files) ≡ Some (get_or files place d).bytes.items
find-place name [] place d at = absurd (omega arith)
find-place name (f ∷ fs) zero d at = ap (λ b. cond b (Some f.bytes.items) (find (slice_cmp nat_cmp) name (map file_entry fs))) (sym (texts_ties name (string_bytes f.name)) ∙ at.named)
find-place name (f ∷ fs) (suc place) d at =
    ap (λ b. cond b (Some f.bytes.items) (find (slice_cmp nat_cmp) name (map file_entry fs))) (sym (texts_ties name (string_bytes f.name)) ∙ at.before zero (omega arith))
    ∙ find-place name fs place d (after_first name f fs place d at)

-- what the first file gives to a search, by whether it has the name
first_named : (name : List ℕ) (f : File) (b : Bool) → is_file_named name f ≡ b → eq_by_cmp (slice_cmp nat_cmp) name (string_bytes f.name) ≡ b
first_named name f b is = sym (texts_ties name (string_bytes f.name)) ∙ is

find-no_place : (name : List ℕ) (files : List File) → length files ≤ position_or_len (is_file_named name) files → find (slice_cmp nat_cmp) name (map file_entry files) ≡ None
find-no_place name [] none = refl
find-no_place name (f ∷ fs) none =
    elim (is_file_named name f) as (λ b. is_file_named name f ≡ b → length (f ∷ fs) ≤ cond (not b) (1 + position_or_len (is_file_named name) fs) 0 → find (slice_cmp nat_cmp) name (map file_entry (f ∷ fs)) ≡ None) [
      | true ↦ λ is h. absurd (omega arith)
      | false ↦ λ is h. rw (first_named name f false is) (find-no_place name fs (omega arith))
    ] refl none

-- `place_of` answers the first place, or none
at_place : (name : List ℕ) (files : List File) (place : ℕ) (d : File) → position (is_file_named name) files ≡ Some place → IsPlace name files place d
at_place name files place d is = let at = position-Some _ files place d is in record { below = at.0; named = at.1; before = at.2 }

pub name_at : (name : List ℕ) (files : List File) (d : File) (place : ℕ) → position (is_file_named name) files ≡ Some place → string_bytes (get_or files place d).name ≡ name
name_at name files d place is = sym ((bytes_eq-Decides name (string_bytes (get_or files place d).name)).0 (at_place name files place d is).named)

pub get-place : (name : List ℕ) (files : List File) (d : File) (place : ℕ) → position (is_file_named name) files ≡ Some place → get (held_of files) name ≡ Some (get_or files place d).bytes.items
get-place name files d place is = get-from_entries nat_list_cmp_total (map file_entry files) name ∙ find-place name files place d (at_place name files place d is)

none_passed : {X : Type 0} (b : Bool) (x : X) → cond b (Some x) None ≡ None → b ≡ false
none_passed true x is = cc
none_passed false x is = refl

no_place : (name : List ℕ) (files : List File) → position (is_file_named name) files ≡ None → find (slice_cmp nat_cmp) name (map file_entry files) ≡ None
no_place name files is = find-no_place name files (ltb-false _ _ (none_passed _ _ is))

pub get-no_place : (name : List ℕ) (files : List File) → position (is_file_named name) files ≡ None → get (held_of files) name ≡ None
get-no_place name files is = get-from_entries nat_list_cmp_total (map file_entry files) name ∙ no_place name files is

-- the first of two tests that hold decides, and two that don't hold together can change places
shadowed : {A : Type 0} (b : Bool) (x y z : A) → cond b x z ≡ cond b x (cond b y z)
shadowed true x y z = refl
shadowed false x y z = refl

swapped : {A : Type 0} (a b : Bool) (x y z : A) → (a ≡ true → b ≡ false) → cond a x (cond b y z) ≡ cond b y (cond a x z)
swapped true true x y z apart = let never = apart refl in cc
swapped true false x y z apart = refl
swapped false b x y z apart = refl

-- a file of the name in place of the first one
find-set_place : (name : List ℕ) (files : List File) (place : ℕ) (d : File) (file : File) → IsPlace name files place d → string_bytes file.name ≡ name
    → (q : List ℕ) → find (slice_cmp nat_cmp) q (map file_entry (set files place file)) ≡ cond (eq_by_cmp (slice_cmp nat_cmp) q name) (Some file.bytes.items) (find (slice_cmp nat_cmp) q (map file_entry files))
find-set_place name [] place d file at is q = absurd (omega arith)
find-set_place name (f ∷ fs) zero d file at is q =
    let same : string_bytes f.name ≡ name = sym ((bytes_eq-Decides name (string_bytes f.name)).0 at.named) in
    rw (is, same) (shadowed (eq_by_cmp (slice_cmp nat_cmp) q name) (Some file.bytes.items) (Some f.bytes.items) (find (slice_cmp nat_cmp) q (map file_entry fs)))
find-set_place name (f ∷ fs) (suc place) d file at is q =
    ap (cond (eq_by_cmp (slice_cmp nat_cmp) q (string_bytes f.name)) (Some f.bytes.items)) (find-set_place name fs place d file (after_first name f fs place d at) is q)
    ∙ swapped (eq_by_cmp (slice_cmp nat_cmp) q (string_bytes f.name)) (eq_by_cmp (slice_cmp nat_cmp) q name) (Some f.bytes.items) (Some file.bytes.items) (find (slice_cmp nat_cmp) q (map file_entry fs)) (λ tied. ap (λ n. eq_by_cmp (slice_cmp nat_cmp) n name) (tells_apart exact_bytes q (string_bytes f.name) tied) ∙ other_name)
  where
    other_name : eq_by_cmp (slice_cmp nat_cmp) (string_bytes f.name) name ≡ false
    other_name = (eq_by_cmp_equiv nat_list_cmp_total).symm (string_bytes f.name) name ∙ first_named name f false (at.before 0 (omega arith))

pub held_of-set : (name : List ℕ) (files : List File) (place : ℕ) (d : File) (file : File) → position (is_file_named name) files ≡ Some place → string_bytes file.name ≡ name
    → held_of (set files place file) ≡ insert (held_of files) name file.bytes.items
held_of-set name files place d file at is = same_map nat_list_cmp_total (slice_cmp-IsAntisymmetric nat_cmp-IsAntisymmetric) _ _ (λ q.
    get-from_entries nat_list_cmp_total _ q ∙ find-set_place name files place d file (at_place name files place d at) is q
    ∙ ap (cond (eq_by_cmp (slice_cmp nat_cmp) q name) (Some file.bytes.items)) (sym (get-from_entries nat_list_cmp_total (map file_entry files) q))
    ∙ sym (get-insert nat_list_cmp_total (held_of files) name file.bytes.items q))

pub held_of-push : (name : List ℕ) (files : List File) (file : File) → position (is_file_named name) files ≡ None → string_bytes file.name ≡ name
    → held_of (files ++ file ∷ []) ≡ insert (held_of files) name file.bytes.items
held_of-push name files file none is =
    ap (from_entries {R = slice_cmp nat_cmp}) (map-append file_entry files (file ∷ []))
    ∙ ap (λ n. from_entries {R = slice_cmp nat_cmp} (map file_entry files ++ (n, file.bytes.items) ∷ [])) is
    ∙ from_entries_push nat_list_cmp_total (slice_cmp-IsAntisymmetric nat_cmp-IsAntisymmetric) (map file_entry files) name file.bytes.items (no_place name files none)
