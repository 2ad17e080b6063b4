-- The places of runs, put with the sites that they have entries of.
use Rattle.std.proofs.Common.{◌≡◌, ◌≢◌, ℕ, zero, suc, ◌+◌, ◌<◌, ◌⊎◌, inl, inr, List, [], ◌∷◌, ◌++◌, length, get_or, set, take, Some, refl, sym, ap, subst, ◌∙◌, arith}
use Rattle.std.specs.Prelude.{All, Contains, replicate, slice_get}
use Rattle.std.proofs.lemmas.Bool.{cases_eq, cases_lt}
use Rattle.std.proofs.lemmas.List.{get_or_default, get_or-replicate, get_or-set_other, get_or-set_same, get_or-take, length-replicate, length-set, length-take-le, take_more}
use Rattle.std.proofs.lemmas.List.Elements.{All-contains, Contains-append_left, Contains-get_or, Contains-push, Contains-push_cases}
use Rattle.std.proofs.lemmas.Option.{get_or_from_slice_get, same_Some, slice_get-get_or, slice_get_within}
use Rattle.report_file.specs.declared.report.Entry.{Entry}
use Rattle.elimination.specs.declared.books.Slot.{Slot}
use Rattle.elimination.specs.Slots.{AreHolders, IsHeldToo}

-- a member of a list in which one was set
set-cases : (lists : List (List ℕ)) (i k : ℕ) (y x : List ℕ) → i < length lists → slice_get (set lists i y) k ≡ Some x → ((k ≡ i) × (x ≡ y)) ⊎ ((k ≢ i) × (slice_get lists k ≡ Some x))
set-cases lists i k y x inside is =
    let within : k < length lists = omega (arith, slice_get_within (set lists i y) k x is, length-set lists i y) in
    let there : get_or (set lists i y) k x ≡ x = get_or_from_slice_get (set lists i y) k x x is in
    elim (cases_eq k i) [
      | inl same ↦ inl (same, sym there ∙ ap (λ n. get_or (set lists i y) n x) same ∙ get_or-set_same lists i y x inside)
      | inr other ↦ inr (other, slice_get-get_or lists k x within ∙ ap Some (sym (get_or-set_other lists i k y x other) ∙ there))
    ]

no-entry : (e : Entry) → Contains {X = Entry} [] e → ⊥
no-entry e has = absurd (omega (arith, has.1))

same-member : (holders : List (List ℕ)) (site : ℕ) (one other : List ℕ) → slice_get holders site ≡ Some one → slice_get holders site ≡ Some other → one ≡ other
same-member holders site one other a b = same_Some one other (sym a ∙ b)

pub list-there : (lists : List (List ℕ)) (k : ℕ) → k < length lists → (x : List ℕ) × (slice_get lists k ≡ Some x)
list-there [] k less = absurd (omega arith)
list-there (x ∷ more) zero less = (x, refl)
list-there (x ∷ more) (suc k) less = list-there more k (omega arith)

no-slot : (k : ℕ) (s : Slot) → slice_get {X = Slot} [] k ≡ Some s → ⊥
no-slot k s is = absurd (omega (arith, slice_get_within {A = Slot} [] k s is))

pub held-none : (place : ℕ) (holders : List (List ℕ)) → IsHeldToo place [] holders holders
held-none place holders = record {
  as_many = refl;
  own = λ e places has is. absurd (no-entry e has);
  others = λ site k before places was is has. subst (λ (xs : List ℕ). Contains xs k) (same-member holders site before places was is) has;
  only = λ site k before places was is has. inl (subst (λ (xs : List ℕ). Contains xs k) (sym (same-member holders site before places was is)) has);
}

pub held-more : (place j : ℕ) (entries : List Entry) (e : Entry) (old mid new : List (List ℕ)) (here : List ℕ) → j < length entries → e ≡ get_or entries j e → slice_get mid e.site ≡ Some here → new ≡ set mid e.site (here ++ place ∷ []) → IsHeldToo place (take j entries) old mid
    → IsHeldToo place (take (j + 1) entries) old new
held-more place j entries e old mid new here less at is made held =
    let inside = slice_get_within mid e.site here is in
    let split : (site : ℕ) (places : List ℕ) → slice_get new site ≡ Some places → ((site ≡ e.site) × (places ≡ here ++ place ∷ [])) ⊎ ((site ≢ e.site) × (slice_get mid site ≡ Some places)) =
    λ site places there. set-cases mid e.site site (here ++ place ∷ []) places inside (sym (ap (λ (xs : List (List ℕ)). slice_get xs site) made) ∙ there) in record {
      as_many = ap length made ∙ length-set mid e.site (here ++ place ∷ []) ∙ held.as_many;
      own = λ x places has there. elim (split x.site places there) [
        | inl same ↦ subst (λ (xs : List ℕ). Contains xs place) (sym same.1) (Contains-push here place)
        | inr other ↦ elim (Contains-push_cases (take j entries) (get_or entries j e) x (subst (λ (xs : List Entry). Contains xs x) (take_more entries j e less) has)) [
          | inl before ↦ held.own x places before other.1
          | inr last ↦ absurd (other.0 (sym (ap (λ (y : Entry). y.site) (at ∙ last))))
        ]
      ];
      others = λ site k before places was there has. elim (split site places there) [
        | inl same ↦ subst (λ (xs : List ℕ). Contains xs k) (sym same.1) (Contains-append_left here (place ∷ []) k (held.others site k before here was (ap (slice_get mid) same.0 ∙ is) has))
        | inr other ↦ held.others site k before places was other.1 has
      ];
      only = λ site k before places was there has. elim (split site places there) [
        | inl same ↦ elim (Contains-push_cases here place k (subst (λ (xs : List ℕ). Contains xs k) same.1 has)) [
          | inl earlier ↦ held.only site k before here was (ap (slice_get mid) same.0 ∙ is) earlier
          | inr this ↦ inr (sym this)
        ]
        | inr other ↦ held.only site k before places was other.1 has
      ];
    }

-- no runs yet
pub holders-none : (sites : ℕ) (holders : List (List ℕ)) → holders ≡ replicate sites [] → AreHolders sites [] holders
holders-none sites holders is = record {
  as_many = ap length is ∙ length-replicate sites [];
  each = λ k s e places there has at. absurd (no-slot k s there);
  places = λ site places at.
      let inside : site < sites = omega (arith, slice_get_within holders site places at, ap length is, length-replicate {A = List ℕ} sites []) in
      let none : places ≡ [] = sym (get_or_from_slice_get holders site places [] at) ∙ ap (λ (xs : List (List ℕ)). get_or xs site []) is ∙ get_or-replicate sites site [] [] inside in
      subst (All (λ k. k < 0)) (sym none) (λ k d less. absurd (omega arith));
}

slot-cases : (slots : List Slot) (i k : ℕ) (s : Slot) → i < length slots → slice_get (take (i + 1) slots) k ≡ Some s → (slice_get (take i slots) k ≡ Some s) ⊎ ((k ≡ i) × (s ≡ get_or slots i s))
slot-cases slots i k s inside is =
    let within : k < i + 1 = omega (arith, slice_get_within (take (i + 1) slots) k s is, length-take-le (i + 1) slots (omega arith)) in
    let there : get_or slots k s ≡ s = sym (get_or-take (i + 1) slots k s within) ∙ get_or_from_slice_get (take (i + 1) slots) k s s is in
    elim (cases_lt k i) [
      | inl less ↦ inl (slice_get-get_or (take i slots) k s (omega (arith, length-take-le i slots (omega arith))) ∙ ap Some (get_or-take i slots k s less ∙ there))
      | inr most ↦
          let same : k ≡ i = omega arith in
          inr (same, sym there ∙ ap (λ n. get_or slots n s) same)
    ]

pub holders-more : (sites i : ℕ) (slots : List Slot) (slot : Slot) (old new : List (List ℕ)) → i < length slots → slot ≡ get_or slots i slot → All (λ (e : Entry). e.site < sites) slot.run.entries → AreHolders sites (take i slots) old → IsHeldToo i slot.run.entries old new → AreHolders sites (take (i + 1) slots) new
holders-more sites i slots slot old new inside at entries held one = record {
  as_many = one.as_many ∙ held.as_many;
  each = λ k s e places there has at_site.
      let before = list-there old e.site (omega (arith, slice_get_within new e.site places at_site, one.as_many)) in
      elim (slot-cases slots i k s inside there) [
        | inl earlier ↦ one.others e.site k before.0 places before.1 at_site (held.each k s e before.0 earlier has before.1)
        | inr last ↦
            let same : s ≡ slot = last.1 ∙ get_or_default slots i s slot inside ∙ sym at in
            subst (Contains places) (sym last.0) (one.own e places (subst (λ (x : Slot). Contains x.run.entries e) same has) at_site)
      ];
  places = λ site places at_site.
      let before = list-there old site (omega (arith, slice_get_within new site places at_site, one.as_many)) in
      let len : length (take (i + 1) slots) ≡ i + 1 = length-take-le (i + 1) slots (omega arith) in
      let len_before : length (take i slots) ≡ i = length-take-le i slots (omega arith) in
      λ k d less.
      let member : Contains places (get_or places k d) = Contains-get_or places k d less in
      elim (one.only site (get_or places k d) before.0 places before.1 at_site member) [
        | inl earlier ↦ omega (arith, len, len_before, All-contains (λ n. n < length (take i slots)) before.0 (get_or places k d) (held.places site before.0 before.1) earlier)
        | inr last ↦ omega (arith, len, last)
      ];
}
