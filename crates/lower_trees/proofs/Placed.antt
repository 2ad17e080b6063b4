-- Numbers by token, as they are added.
use Rattle.std.proofs.Common.{◌≡◌, ◌≢◌, ℕ, zero, suc, ◌+◌, ◌<◌, ◌==◌, Bool, true, false, ◌&&◌, if◌then◌else◌, List, [], ◌∷◌, ◌++◌, length, get_or, drop, Option, Some, None, refl, sym, ap, ◌∙◌, subst, ⊎_elim, eqb, append_assoc, add-one}
use Rattle.std.specs.Prelude.{slice_set}
use Rattle.std.proofs.lemmas.Bool.{cond-true, cond-false}
use Rattle.std.proofs.lemmas.Bool.Decides.{eqb_tells}
use Rattle.std.proofs.lemmas.List.{get_or-set_same, get_or-set_other}
use Rattle.base_lists.proofs.Lists.{first_left}
use Rattle.flow.specs.declared.site.Site.{Site}
use Rattle.flow.specs.declared.site.SiteKind.{SiteKind}
use Rattle.c_meaning.specs.Words.{Literal, number_from, head_site, sites_from}
use Rattle.lower_trees.specs.Places.{all_at, first_or}

pub listed_grown : (lists : List (List ℕ)) (token : ℕ) → all_at (lists ++ [] ∷ []) token ≡ all_at lists token
listed_grown (x ∷ xs) (suc n) = listed_grown xs n
listed_grown [] zero = refl
listed_grown [] (suc n) = refl
listed_grown (x ∷ xs) zero = refl

-- one more number at a token, after more places came
pub added : (old grown new : List (List ℕ)) (token number : ℕ) → ((t : ℕ) → all_at grown t ≡ all_at old t) → token < length grown →
    new ≡ slice_set grown token (all_at grown token ++ number ∷ []) →
    (other : ℕ) → all_at new other ≡ (if token == other then all_at old other ++ number ∷ [] else all_at old other)
added old grown new token number same inside is other =
    let list : List ℕ = all_at grown token ++ number ∷ [] in
    ap (λ lists. all_at lists other) is
    ∙ ⊎_elim
    (λ (w : ((eqb token other ≡ true) × (token ≡ other))).
    subst (λ t. all_at (slice_set grown token list) t ≡ list) w.1 (get_or-set_same grown token list [] inside)
    ∙ ap (λ l. l ++ number ∷ []) (same token) ∙ ap (λ t. all_at old t ++ number ∷ []) w.1
    ∙ sym (cond-true (token == other) (all_at old other ++ number ∷ []) (all_at old other) w.0))
    (λ (w : ((eqb token other ≡ false) × (token ≢ other))).
    get_or-set_other grown token other list [] (λ e. w.1 (sym e)) ∙ same other
    ∙ sym (cond-false (token == other) (all_at old other ++ number ∷ []) (all_at old other) w.0))
    (eqb_tells token other)

pub step : (b : Bool) (n : ℕ) (before more now : List ℕ) → now ≡ (if b then before ++ n ∷ [] else before) → now ++ more ≡ before ++ (if b then n ∷ more else more)
step true n before more now is = ap (λ l. l ++ more) is ∙ append_assoc before (n ∷ []) more
step false n before more now is = ap (λ l. l ++ more) is

-- the sites at a token, after one more site
pub sites_next : (of_kind : SiteKind → Bool) (sites : List Site) (i n later token : ℕ) (s : Site) (now before total : List ℕ) → later ≡ n + 1 → i < length sites → s ≡ get_or sites i s →
    now ≡ (if s.token == token && of_kind s.kind then before ++ n ∷ [] else before) → before ++ sites_from n of_kind token (drop i sites) ≡ total →
    now ++ sites_from later of_kind token (drop (i + 1) sites) ≡ total
sites_next of_kind sites i n later token s now before total one_more inside is at h =
    ap (λ k. now ++ sites_from k of_kind token (drop (i + 1) sites)) (one_more ∙ add-one n)
    ∙ ap (λ k. now ++ sites_from (suc n) of_kind token (drop k sites)) (add-one i)
    ∙ step (s.token == token && of_kind s.kind) n before (sites_from (suc n) of_kind token (drop (suc i) sites)) now at
    ∙ ap (λ l. before ++ sites_from n of_kind token l) (sym (first_left sites i s inside is))
    ∙ h

first_step : (b : Bool) (n : ℕ) (before now : List ℕ) (more : Option ℕ) → now ≡ (if b then before ++ n ∷ [] else before) →
    first_or now more ≡ first_or before (if b then Some n else more)
first_step true n [] now more is = ap (λ l. first_or l more) is
first_step true n (x ∷ xs) now more is = ap (λ l. first_or l more) is
first_step false n before now more is = ap (λ l. first_or l more) is

-- the string at a token, after one more string
pub strings_next : (strings : List Literal) (i n later token : ℕ) (s : Literal) (now before : List ℕ) (total : Option ℕ) → later ≡ n + 1 → i < length strings → s ≡ get_or strings i s →
    now ≡ (if s.token == token then before ++ n ∷ [] else before) → first_or before (number_from n token (drop i strings)) ≡ total →
    first_or now (number_from later token (drop (i + 1) strings)) ≡ total
strings_next strings i n later token s now before total one_more inside is at h =
    ap (λ k. first_or now (number_from k token (drop (i + 1) strings))) (one_more ∙ add-one n)
    ∙ ap (λ k. first_or now (number_from (suc n) token (drop k strings))) (add-one i)
    ∙ first_step (s.token == token) n before now (number_from (suc n) token (drop (suc i) strings)) at
    ∙ ap (λ l. first_or before (number_from n token l)) (sym (first_left strings i s inside is))
    ∙ h

pub first_alone : (xs : List ℕ) → first_or xs None ≡ head_site xs
first_alone [] = refl
first_alone (x ∷ xs) = refl
