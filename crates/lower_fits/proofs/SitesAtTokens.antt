-- The sites of a table at a token, and those before it: each site is counted at one token, as of one kind.
use Rattle.std.proofs.Common.{◌≡◌, ℕ, zero, suc, ◌≤◌, ◌+◌, ◌*◌, arith, subst, add-one, List, [], ◌∷◌, Bool, true, false, length}
use Rattle.std.specs.Prelude.{cond, nat_lt, ◌==◌, ◌&&◌, if◌then◌else◌}
use Rattle.std.specs.List.{count_by}
use Rattle.std.proofs.lemmas.Bool.Decides.{nat_tests}
use Rattle.std.proofs.lemmas.List.Sums.{sum_by-cons}
use Rattle.flow.specs.declared.site.Site.{Site}
use Rattle.flow.specs.declared.site.SiteKind.{SiteKind}
use Rattle.flow.specs.declared.site.SiteKind.TheVariants.{Branch, Return, Pair}
use Rattle.c_meaning.specs.Words.{head_site, is_branch, is_pair, is_return, sites_from, sites_by_table, site_list}
use Rattle.lower_fits.proofs.Allowing.{allowed, next_allowed, none_allowed}

-- how many sites of the table stand before the token
abbrev pub before : ℕ → List Site → ℕ
before token table = count_by (λ s. nat_lt s.token token) table

-- one number more, where there is one
one_more : (b : Bool) (n : ℕ) (xs : List ℕ) → length (if b then n ∷ xs else xs) ≡ cond b 1 0 + length xs
one_more true n xs = omega arith
one_more false n xs = omega arith

-- a site is of one kind
one_kind : (b : Bool) (k : SiteKind) → cond (b && is_branch k) 1 0 + cond (b && is_return k) 1 0 + cond (b && is_pair k) 1 0 ≤ cond b 1 0
one_kind true (Branch word) = omega arith
one_kind true (Return callee) = omega arith
one_kind true (Pair target slot partner) = omega arith
one_kind false k = omega arith

-- a site at the token is before the next one, and isn't before this one
one_token : (at token : ℕ) → cond (at == token) 1 0 + cond (nat_lt at token) 1 0 ≤ cond (nat_lt at (token + 1)) 1 0
one_token at token = grind (arith, nat_tests)

-- the first of several is one of them
first_counts : (xs : List ℕ) → length (site_list (head_site xs)) ≤ length xs
first_counts [] = omega arith
first_counts (x ∷ xs) = omega arith

-- the sites at the token, each as of its kind, and those before it are all before the next token
all_counted : (number token : ℕ) (table : List Site)
    → length (sites_from number is_branch token table) + length (sites_from number is_return token table) + length (sites_from number is_pair token table)
    + before token table ≤ before (token + 1) table
all_counted number token [] = omega arith
all_counted number token (s ∷ table) =
    let here : Bool = s.token == token in
    omega (
      arith,
      one_more (here && is_branch s.kind) number (sites_from (suc number) is_branch token table),
      one_more (here && is_return s.kind) number (sites_from (suc number) is_return token table),
      one_more (here && is_pair s.kind) number (sites_from (suc number) is_pair token table),
      one_kind here s.kind,
      one_token s.token token,
      sum_by-cons (λ (x : Site). cond (nat_lt x.token token) 1 0) s table,
      sum_by-cons (λ (x : Site). cond (nat_lt x.token (token + 1)) 1 0) s table,
      all_counted (suc number) token table,
    )

-- the tokens before this one allow 16 nodes each, and one for each site of the table at most
pub table_allows : (table : List Site) (n : ℕ) → allowed (sites_by_table table) n ≤ 16 * n + before n table
table_allows table zero = omega (arith, none_allowed (sites_by_table table))
table_allows table (suc n) =
    subst (λ k. allowed (sites_by_table table) k ≤ 16 * k + before k table) (add-one n) (omega (
      arith,
      table_allows table n,
      next_allowed (sites_by_table table) n,
      all_counted 0 n table,
      first_counts (sites_from 0 is_branch n table),
      first_counts (sites_from 0 is_return n table),
    ))
