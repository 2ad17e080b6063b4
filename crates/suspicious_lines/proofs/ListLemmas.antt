-- The list of suspicious lines, as far as it is made; that there is one; and what is known of its members.
use Rattle.std.proofs.Common.{◌≡◌, ℕ, zero, suc, not, List, [], ◌∷◌, ◌++◌, refl, sym, ap, subst, ◌∙◌, append_assoc}
use Rattle.std.specs.Prelude.{All, Contains}
use Rattle.std.proofs.lemmas.List.{append-nil}
use Rattle.std.proofs.lemmas.List.Elements.{All-cons, All-contains, All-nil, All-filter}
use Rattle.association.specs.declared.suspect.Suspect.{Suspect}
use Rattle.suspicious_lines.specs.Listing.{AreListed, IsBest, apart_from, are_near}
use Rattle.suspicious_lines.proofs.Bests.{one-best}
use Rattle.suspicious_lines.proofs.Finding.{AreDistinct}
use Rattle.suspicious_lines.proofs.Members.{filter-member, no-member}

-- those to come make the list with those so far
pub record IsListing (failing successful apart most : ℕ) (suspects : List Suspect) (more : ℕ) (left rows : List Suspect) : Type 0 where
  pub all : (rest : List Suspect) → AreListed failing successful apart more left rest → AreListed failing successful apart most suspects (rows ++ rest)

pub listing-more : (failing successful apart most : ℕ) (suspects : List Suspect) (more fewer : ℕ) (left after rows new : List Suspect) (s : Suspect) → more ≡ suc fewer → IsListing failing successful apart most suspects more left rows
    → IsBest failing successful left s → after ≡ apart_from apart s left → new ≡ rows ++ s ∷ [] → IsListing failing successful apart most suspects fewer after new
listing-more failing successful apart most suspects more fewer left after rows new s count so_far best after_is new_is = record {
  all = λ rest is.
      let there : AreListed failing successful apart fewer (apart_from apart s left) rest = subst (λ (xs : List Suspect). AreListed failing successful apart fewer xs rest) after_is is in
      let here : AreListed failing successful apart more left (s ∷ rest) = subst (λ n. AreListed failing successful apart n left (s ∷ rest)) (sym count) (best, there) in
      subst (AreListed failing successful apart most suspects) (sym (ap (λ (xs : List Suspect). xs ++ rest) new_is ∙ append_assoc rows (s ∷ []) rest)) (so_far.all (s ∷ rest) here);
}

pub listing-full : (failing successful apart most : ℕ) (suspects : List Suspect) (more : ℕ) (left rows : List Suspect) → more ≡ 0 → IsListing failing successful apart most suspects more left rows → AreListed failing successful apart most suspects rows
listing-full failing successful apart most suspects more left rows none so_far =
    subst (AreListed failing successful apart most suspects) (append-nil rows) (so_far.all [] (subst (λ n. AreListed failing successful apart n left []) (sym none) refl))

nothing-left : (failing successful apart more : ℕ) (left : List Suspect) → left ≡ [] → AreListed failing successful apart more left []
nothing-left failing successful apart zero left none = refl
nothing-left failing successful apart (suc more) left none = none

pub listing-none : (failing successful apart most : ℕ) (suspects : List Suspect) (more : ℕ) (left rows : List Suspect) → left ≡ [] → IsListing failing successful apart most suspects more left rows → AreListed failing successful apart most suspects rows
listing-none failing successful apart most suspects more left rows none so_far =
    subst (AreListed failing successful apart most suspects) (append-nil rows) (so_far.all [] (nothing-left failing successful apart more left none))

-- what all suspects are, all that are listed are
pub listed-all : (P : Suspect → Type 0) (failing successful apart most : ℕ) (suspects rows : List Suspect) → All P suspects → AreListed failing successful apart most suspects rows → All P rows
listed-all P failing successful apart zero suspects rows all is = subst (All P) (sym is) (All-nil P)
listed-all P failing successful apart (suc most) suspects [] all is = All-nil P
listed-all P failing successful apart (suc most) suspects (s ∷ more) all is =
    All-cons P s more (All-contains P suspects s all is.0.is_one)
    (listed-all P failing successful apart most (apart_from apart s suspects) more (All-filter (λ (t : Suspect). not (are_near apart s t)) P suspects all) is.1)

-- there is one list
distinct-apart : (apart : ℕ) (s : Suspect) (suspects : List Suspect) → AreDistinct suspects → AreDistinct (apart_from apart s suspects)
distinct-apart apart s suspects distinct = record {
  same = λ x y a b same. distinct.same x y (filter-member (λ (t : Suspect). not (are_near apart s t)) suspects x a).0 (filter-member (λ (t : Suspect). not (are_near apart s t)) suspects y b).0 same;
}

not-best : (failing successful : ℕ) (suspects : List Suspect) (s : Suspect) → suspects ≡ [] → IsBest failing successful suspects s → ⊥
not-best failing successful suspects s none best = no-member s (subst (λ (xs : List Suspect). Contains xs s) none best.is_one)

pub one-list : (failing successful apart most : ℕ) (suspects one other : List Suspect) → AreDistinct suspects → AreListed failing successful apart most suspects one → AreListed failing successful apart most suspects other → one ≡ other
one-list failing successful apart zero suspects one other distinct a b = a ∙ sym b
one-list failing successful apart (suc most) suspects [] [] distinct a b = refl
one-list failing successful apart (suc most) suspects [] (s ∷ more) distinct a b = absurd (not-best failing successful suspects s a b.0)
one-list failing successful apart (suc most) suspects (s ∷ more) [] distinct a b = absurd (not-best failing successful suspects s b a.0)
one-list failing successful apart (suc most) suspects (s ∷ more) (t ∷ rest) distinct a b =
    let same = one-best failing successful suspects s t distinct a.0 b.0 in
    let there : AreListed failing successful apart most (apart_from apart s suspects) rest = subst (λ (x : Suspect). AreListed failing successful apart most (apart_from apart x suspects) rest) (sym same) b.1 in
    ap (λ (x : Suspect). x ∷ more) same ∙ ap (λ (xs : List Suspect). t ∷ xs) (one-list failing successful apart most (apart_from apart s suspects) more rest (distinct-apart apart s suspects distinct) a.1 there)
