-- The sites of a table by their tokens look as their kinds say, whatever stands in the table.
use Rattle.std.proofs.Common.{◌≡◌, ℕ, suc, ◌+◌, refl, subst, sym, arith, List, [], ◌∷◌, Some, Bool, true, false}
use Rattle.std.specs.Prelude.{slice_get, ◌==◌, ◌&&◌, if◌then◌else◌}
use Rattle.std.proofs.lemmas.Bool.{and_parts}
use Rattle.flow.specs.declared.site.Site.{Site}
use Rattle.flow.specs.declared.site.SiteKind.{SiteKind}
use Rattle.c_meaning.specs.Texts.{head_site, is_branch, is_return, sites_from, sites_by_table}
use Rattle.c_meaning_laws.specs.TypedSource.{OfKind, SitesFit}

-- a site of this kind stands in the table, where sites are counted from this number on
abbrev Stands : (SiteKind → Bool) → ℕ → List Site → ℕ → Type 0
Stands of_kind number table k = (i : ℕ) × (k ≡ number + i) × OfKind of_kind (slice_get table i)

some_number : (n k : ℕ) → Some n ≡ Some k → k ≡ n + 0
some_number n k h = grind (arith, h)

-- the first site may be of the kind, or a later one is
either : (of_kind : SiteKind → Bool) (token : ℕ) (s : Site) (table : List Site) (number k : ℕ) (b : Bool) → (s.token == token && of_kind s.kind) ≡ b
    → (head_site (sites_from (suc number) of_kind token table) ≡ Some k → Stands of_kind (suc number) table k)
    → head_site (if b then number ∷ sites_from (suc number) of_kind token table else sites_from (suc number) of_kind token table) ≡ Some k
    → Stands of_kind number (s ∷ table) k
either of_kind token s table number k true e later h = (0, some_number number k h, (and_parts (s.token == token) (of_kind s.kind) e).1)
either of_kind token s table number k false e later h = (suc (later h).0, omega (arith, (later h).1), (later h).2)

first_stands : (of_kind : SiteKind → Bool) (token : ℕ) (table : List Site) (number k : ℕ) → head_site (sites_from number of_kind token table) ≡ Some k
    → Stands of_kind number table k
first_stands of_kind token [] number k h = cc
first_stands of_kind token (s ∷ table) number k h =
    either of_kind token s table number k (s.token == token && of_kind s.kind) refl (first_stands of_kind token table (suc number) k) h

stands_at : (of_kind : SiteKind → Bool) (table : List Site) (k : ℕ) → Stands of_kind 0 table k → OfKind of_kind (slice_get table k)
stands_at of_kind table k h = subst (λ i. OfKind of_kind (slice_get table i)) (sym (omega (arith, h.1))) h.2

pub every_table_fits : (table : List Site) → SitesFit (sites_by_table table)
every_table_fits table = record {
  branches = λ token k e. stands_at is_branch table k (first_stands is_branch token table 0 k e);
  returns = λ token k e. stands_at is_return table k (first_stands is_return token table 0 k e);
}
