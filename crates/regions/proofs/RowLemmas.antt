-- Rows that are made one after another.
use Rattle.std.proofs.Common.{◌≡◌, ◌⊎◌, inl, inr, ℕ, ◌+◌, List, [], ◌∷◌, ◌++◌, length, take, Some, slice_get, sym, ◌∙◌, subst, arith, length-append}
use Rattle.std.proofs.lemmas.List.{length-take-le}
use Rattle.std.proofs.lemmas.Option.{slice_get_within}
use Rattle.base_lists.proofs.Lists.{get_either, take_more}
use Rattle.regions.specs.Rows.{EachFits}

rows_push : {A B : Type 0} (Fits : ℕ → A → B → Type 0) (items : List A) (rows : List B) (item : A) (row : B) → EachFits Fits items rows →
    Fits (length items) item row → EachFits Fits (items ++ item ∷ []) (rows ++ row ∷ [])
rows_push Fits items rows item row fit new = record {
  few = omega (arith, fit.few, length-append items (item ∷ []), length-append rows (row ∷ []));
  each = λ k x r e f. elim (get_either items item k x e) [
    | inl a ↦ elim (get_either rows row k r f) [
      | inl b ↦ fit.each k x r a b
      | inr b ↦ let l = slice_get_within items k x a in absurd (omega (arith, fit.few, l, b.0))
    ]
    | inr a ↦ elim (get_either rows row k r f) [
      | inl b ↦ let l = slice_get_within rows k r b in absurd (omega (arith, fit.few, l, a.0))
      | inr b ↦ subst (λ n. Fits n x r) (sym a.0) (subst (λ z. Fits (length items) z r) a.1 (subst (λ z. Fits (length items) item z) b.1 new))
    ]
  ];
}

-- one more row, for the next item
pub rows_more : {A B : Type 0} (Fits : ℕ → A → B → Type 0) (items : List A) (rows : List B) (i : ℕ) (item : A) (row : B) → slice_get items i ≡ Some item →
    EachFits Fits (take i items) rows → Fits i item row → EachFits Fits (take (i + 1) items) (rows ++ row ∷ [])
rows_more Fits items rows i item row e fit new =
    let l = slice_get_within items i item e in
    let n : length (take i items) ≡ i = length-take-le i items (omega arith) in
    subst (λ xs. EachFits Fits xs (rows ++ row ∷ [])) (sym (take_more items i item e))
    (rows_push Fits (take i items) rows item row fit (subst (λ k. Fits k item row) (sym n) new))
