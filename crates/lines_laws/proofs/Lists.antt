-- Of each line of a list of names it can be told whether it may come.
use Rattle.std.proofs.Common.{◌≡◌, ◌+◌, ◌||◌, ℕ, inl, inr, Bool, false, List, [], ◌∷◌, ◌++◌, length, refl, sym, ◌∙◌}
use Rattle.std.specs.Global.{Global}
use Rattle.std.specs.List.{list_any}
use Rattle.std.specs.Str.{IsUtf8, is_utf8}
use Rattle.std.proofs.lemmas.Bool.{cases_Bool, false≢true}
use Rattle.std.proofs.lemmas.Str.{IsUtf8-from_is_utf8, is_utf8-from_IsUtf8}
use Rattle.base_lists.proofs.Tests.{or_first_false, or_second_false}
use Rattle.cbi_base.specs.Text.{Lacks}
use Rattle.name_lists.specs.Grammar.{ListEnds, NameFollows, start_of_list}
use Rattle.name_lists.specs.List.{IsFileName, SpellsList, greatest_run, is_nul, most_bytes, most_names}
use Rattle.name_lists.specs.declared.draft.Draft.{Draft}
use Rattle.name_lists.proofs.Texts.{leads-once, listed, reads-spelled, spelled-reads}
use Rattle.lines_laws.specs.Laws.{IsReadAs, ListsAreLines}
use Rattle.lines_laws.proofs.Walking.{Holds, Told, le-told, lt-told, the-spelling}

-- no byte passes a test exactly where the search for one fails
lacks-found : (p : ℕ → Bool) (bytes : List ℕ) → list_any p bytes ≡ false → Lacks p bytes
lacks-found p [] none = tt
lacks-found p (b ∷ bs) none = (or_first_false (p b) (list_any p bs) none, lacks-found p bs (or_second_false (p b) (list_any p bs) none))

found-lacks : (p : ℕ → Bool) (bytes : List ℕ) → Lacks p bytes → list_any p bytes ≡ false
found-lacks p [] lacks = refl
found-lacks p (b ∷ bs) lacks = rw (lacks.0, found-lacks p bs lacks.1) refl

text-told : (line : List ℕ) → Holds (IsUtf8 line)
text-told line =
    elim (cases_Bool (is_utf8 line)) [
      | inl is ↦ inl (IsUtf8-from_is_utf8 line is)
      | inr other ↦ inr (λ is. false≢true (sym other ∙ is_utf8-from_IsUtf8 line is))
    ]

lacks-told : (line : List ℕ) → Holds (Lacks is_nul line)
lacks-told line =
    elim (cases_Bool (list_any is_nul line)) [
      | inl found ↦ inr (λ lacks. false≢true (sym (found-lacks is_nul line lacks) ∙ found))
      | inr none ↦ inl (lacks-found is_nul line none)
    ]

name-told : (line : List ℕ) → Holds (IsFileName line)
name-told line =
    elim (le-told 1 (length line)) [
      | inr empty ↦ inr (λ is. empty is.some)
      | inl some ↦ elim (le-told (length line) most_bytes) [
        | inr long ↦ inr (λ is. long is.few)
        | inl few ↦ elim (lacks-told line) [
          | inr nul ↦ inr (λ is. nul is.no_nul)
          | inl no_nul ↦ elim (text-told line) [
            | inr other ↦ inr (λ is. other is.is_text)
            | inl is_text ↦ inl (record { some = some; few = few; is_text = is_text; no_nul = no_nul })
          ]
        ]
      ]
    ]

tells : (d : Draft) (line : List ℕ) → Told (NameFollows d line)
tells d line =
    elim (name-told line) [
      | inr other ↦ inr (λ after s. other s.is_name)
      | inl is_name ↦ elim (lt-told (length d.names) most_names) [
        | inr full ↦ inr (λ after s. full s.room)
        | inl room ↦ elim (le-told (d.first + length d.names) greatest_run) [
          | inr over ↦ inr (λ after s. over s.has_number)
          | inl number ↦ inl (record d { names = d.names ++ line ∷ [] }, record { is_name = is_name; room = room; has_number = number; after_is = refl })
        ]
      ]
    ]

spelled : (alloc : Global) (first : ℕ) (text : List ℕ) (names : List (List ℕ)) → SpellsList first text names → IsReadAs NameFollows ListEnds (start_of_list alloc first) (λ (d : Draft). d.names) text names
spelled alloc first text names is = record { to = listed alloc first names; reads = spelled-reads alloc first text names is; said_is = refl }

pub lists_are_lines : ListsAreLines
lists_are_lines alloc first =
    the-spelling NameFollows ListEnds (start_of_list alloc first) (λ (d : Draft). d.names) (SpellsList first) leads-once tells (λ d. le-told 1 (length d.names)) (reads-spelled alloc first) (spelled alloc first)
