-- Sites of returned values and of pairs are those of no condition.
use Rattle.std.proofs.Common.{◌≡◌, ℕ, zero, suc, ap, ◌∙◌, refl, List, [], ◌∷◌, drop, Bool, true, false, Some, slice_get}
use Rattle.std.specs.Prelude.{◌==◌, ◌&&◌, if◌then◌else◌}
use Rattle.std.proofs.lemmas.Bool.{false≢true}
use Rattle.base_lists.proofs.Tests.{and_second}
use Rattle.flow.specs.declared.site.Site.{Site}
use Rattle.flow.specs.declared.site.SiteKind.{SiteKind}
use Rattle.flow.specs.declared.site.SiteKind.TheVariants as kind
use Rattle.c_meaning.specs.Words.{head_site, is_branch, is_pair, is_return, sites_from, sites_by_table, site_list}
use Rattle.lower.specs.Keeps.{AllFree, Apart}
use Rattle.lower.specs.Ready.{IsFree, is_condition}

at_drop : (xs : List Site) (n : ℕ) (s : Site) (rest : List Site) → drop n xs ≡ s ∷ rest → (slice_get xs n ≡ Some s) × (drop (suc n) xs ≡ rest)
at_drop [] zero s rest e = absurd (cc)
at_drop [] (suc n) s rest e = absurd (cc)
at_drop (x ∷ xs) zero s rest e = (cc, cc)
at_drop (x ∷ xs) (suc n) s rest e = at_drop xs n s rest e

module _ (table : List Site) (of_kind : SiteKind → Bool) (other : (k : SiteKind) → of_kind k ≡ true → is_branch k ≡ false) (token : ℕ) where
  one_more : (number : ℕ) (s : Site) (found : Bool) (more : List ℕ) → (s.token == token && of_kind s.kind) ≡ found → slice_get table number ≡ Some s →
      AllFree (IsFree (slice_get table)) more → AllFree (IsFree (slice_get table)) (if found then number ∷ more else more)
  one_more number s true more is at free = (ap is_condition at ∙ other s.kind (and_second (s.token == token) (of_kind s.kind) is), free)
  one_more number s false more is at free = free

  all_free : (number : ℕ) (rest : List Site) → drop number table ≡ rest → AllFree (IsFree (slice_get table)) (sites_from number of_kind token rest)
  all_free number [] e = tt
  all_free number (s ∷ sites) e =
      let here = at_drop table number s sites e in
      one_more number s (s.token == token && of_kind s.kind) (sites_from (suc number) of_kind token sites) refl here.0 (all_free (suc number) sites here.1)

no_return : (k : SiteKind) → is_return k ≡ true → is_branch k ≡ false
no_return (kind.Branch word) e = absurd (false≢true e)
no_return (kind.Return callee) e = refl
no_return (kind.Pair target slot partner) e = refl

no_pair : (k : SiteKind) → is_pair k ≡ true → is_branch k ≡ false
no_pair (kind.Branch word) e = absurd (false≢true e)
no_pair (kind.Return callee) e = refl
no_pair (kind.Pair target slot partner) e = refl

first_free : (free : ℕ → Type 0) (sites : List ℕ) → AllFree free sites → AllFree free (site_list (head_site sites))
first_free free [] are = tt
first_free free (site ∷ sites) are = (are.0, tt)

pub sites_apart : (table : List Site) → Apart (IsFree (slice_get table)) (sites_by_table table)
sites_apart table = record {
  returns = λ token. first_free (IsFree (slice_get table)) (sites_from 0 is_return token table) (all_free table is_return no_return token 0 table refl);
  pairs = λ token. all_free table is_pair no_pair token 0 table refl;
}
