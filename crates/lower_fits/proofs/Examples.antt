-- There is a body of which all is known that its nodes need.
use Rattle.std.proofs.Common.{◌≡◌, ℕ, suc, ◌≤◌, ◌<◌, ◌+◌, refl, subst, arith, List, [], ◌∷◌, Some, Bool, true, false, length}
use Rattle.std.specs.Prelude.{◌==◌, ◌&&◌, if◌then◌else◌, slice_get}
use Rattle.std.proofs.lemmas.Option.{same_Some, slice_get_within}
use Rattle.c_syntax.specs.Spelling.{entry_kinds}
use Rattle.flow.specs.declared.site.Site.{Site}
use Rattle.flow.specs.declared.site.SiteKind.{SiteKind}
use Rattle.c_meaning.specs.Texts.{head_site, is_branch, is_pair, is_return, sites_from}
use Rattle.c_meaning_laws.specs.Example.{example_source, example_body, example_table}
use Rattle.c_meaning_laws.specs.TypedSource.{TypedBody}
use Rattle.lower_fits.specs.Example.{ExampleFits, main_facts, main_names, main_signature}
use Rattle.lower_fits.specs.FactsFit.{AllOwned, FactsFit, SitesOwned}

-- the first site may stand at the token, and those behind it too
next_owned : (owners : List ℕ) (n number : ℕ) (here : Bool) (later : List ℕ) → slice_get owners number ≡ Some n → AllOwned owners n later
    → AllOwned owners n (if here then number ∷ later else later)
next_owned owners n number true later h all = (h, all)
next_owned owners n number false later h all = all

-- where all sites of a table are one function's, those at a token are
table_owned : (owners : List ℕ) (n : ℕ) (of_kind : SiteKind → Bool) (token : ℕ) (table : List Site) (number : ℕ)
    → ((i : ℕ) → number ≤ i → i < number + length table → slice_get owners i ≡ Some n) → AllOwned owners n (sites_from number of_kind token table)
table_owned owners n of_kind token [] number h = tt
table_owned owners n of_kind token (s ∷ table) number h =
    next_owned owners n number (s.token == token && of_kind s.kind) (sites_from (suc number) of_kind token table) (h number (omega arith) (omega arith))
    (table_owned owners n of_kind token table (suc number) (λ i low high. h i (omega arith) (omega arith)))

-- the first of them is too
first_owned : (owners : List ℕ) (n site : ℕ) (sites : List ℕ) → AllOwned owners n sites → head_site sites ≡ Some site → slice_get owners site ≡ Some n
first_owned owners n site [] all e = cc
first_owned owners n site (s ∷ sites) all e = subst (λ k. slice_get owners k ≡ Some n) (same_Some s site e) all.0

-- the three sites of the example are those of `main`
three_owned : (i : ℕ) → 0 ≤ i → i < 0 + 3 → slice_get main_names.owners i ≡ Some 0
three_owned (suc (suc (suc i))) low high = absurd (omega arith)
three_owned i low high = refl

-- whatever the token is
example_owned : (of_kind : SiteKind → Bool) (token : ℕ) → AllOwned main_names.owners 0 (sites_from 0 of_kind token example_table)
example_owned of_kind token = table_owned main_names.owners 0 of_kind token example_table 0 three_owned

-- what the example names is there
main_facts_fit : FactsFit main_facts main_names
main_facts_fit = record {
  pointers = λ token size e. cc;
  arrays = λ token size e. cc;
  cells = λ token n e. cc;
  named = λ base stars n e. cc;
  offsets = λ token n e. cc;
  globals = λ token n e. cc;
  texts = λ token n e. cc;
  functions = λ number f e. slice_get_within (main_signature ∷ []) number f e;
}

-- its sites are `main`'s
sites_owned : (hi : ℕ) → SitesOwned example_source.sites main_names.owners 0 6 hi
sites_owned hi = record {
  branches = λ token site low high e.
      first_owned main_names.owners 0 site (sites_from 0 is_branch token example_table) (example_owned is_branch token) e;
  returns = λ token site low high e.
      first_owned main_names.owners 0 site (sites_from 0 is_return token example_table) (example_owned is_return token) e;
  pairs = λ token low high. example_owned is_pair token;
}

-- it has one variable
one_local : 0 < 1
one_local = omega arith

-- its types fit
main_typed : TypedBody main_facts example_source.sites main_signature (Some example_body)
main_typed = ((one_local, (refl, tt, (tt, (refl, tt))), tt), ((((tt, one_local), tt), ((tt, refl), tt)), (((tt, one_local), tt), tt)))

-- all is known of its body
pub example_fits : ExampleFits
example_fits = record {
  facts_fit = main_facts_fit;
  texts = refl;
  locals = refl;
  typed = main_typed;
  formats = (tt, (tt, tt));
  placed = ((refl, refl, ((refl, (refl, refl), refl), tt)), ((refl, refl, (refl, (refl, tt))), ((refl, refl), tt)));
  owned = sites_owned (6 + length (entry_kinds example_body));
  constants = (tt, (tt, (tt, ((refl, refl), (tt, (tt, (tt, (tt, (tt, (tt, (tt, (tt, (tt, (tt, (tt, (tt, (tt, tt)))))))))))))))));
  few = omega arith;
}
