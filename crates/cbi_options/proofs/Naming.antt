-- The names between the commas of a list.
use Rattle.std.specs.List.{after_first, before_first, onto_first, position_or_len, slice_split}
use Rattle.std.proofs.Common.{◌≡◌, ℕ, ◌+◌, ◌<◌, Bool, true, false, cond, not, List, [], ◌∷◌, length, Option, Some, None, refl, ap, sym, ◌∙◌, arith}
use Rattle.std.proofs.lemmas.List.Splits.{slice_split_first}
use Rattle.cbi_base.specs.Numbers.{◌>>=◌}
use Rattle.flow.specs.declared.choice.Schemes.{Schemes}
use Rattle.cbi_options.specs.Schemes.{is_comma, names_in, with_scheme, with_schemes}

-- a list without a comma is one name
one-name : (b : Bool) (x : ℕ) (xs : List ℕ) → (position_or_len is_comma xs ≡ length xs → slice_split is_comma xs ≡ xs ∷ []) → cond (not b) (1 + position_or_len is_comma xs) 0 ≡ length (x ∷ xs)
    → cond b ([] ∷ slice_split is_comma xs) (onto_first x (slice_split is_comma xs)) ≡ (x ∷ xs) ∷ []
one-name true x xs more h = absurd (omega (arith, h))
one-name false x xs more h = ap (onto_first x) (more (omega (arith, h)))

alone : (value : List ℕ) → position_or_len is_comma value ≡ length value → names_in value ≡ value ∷ []
alone [] h = refl
alone (x ∷ xs) h = one-name (is_comma x) x xs (alone xs) h

last-scheme : (o : Option Schemes) → (o >>= with_schemes []) ≡ o
last-scheme None = refl
last-scheme (Some s) = refl

pub with-alone : (value : List ℕ) (s : Schemes) → position_or_len is_comma value ≡ length value → with_schemes (names_in value) s ≡ with_scheme value s
with-alone value s h = ap (λ names. with_schemes names s) (alone value h) ∙ last-scheme (with_scheme value s)

-- the first of several names, and then the others
pub with-first : (value name others : List ℕ) (s : Schemes) → (position_or_len is_comma value < length value) × (name ≡ before_first is_comma value) × (others ≡ after_first is_comma value)
    → with_schemes (names_in value) s ≡ (with_scheme name s >>= with_schemes (names_in others))
with-first value name others s h =
    ap (λ names. with_schemes names s) (slice_split_first is_comma value 0 h.0)
    ∙ ap (λ first. with_scheme first s >>= with_schemes (names_in (after_first is_comma value))) (sym h.1)
    ∙ ap (λ rest. with_scheme name s >>= with_schemes (names_in rest)) (sym h.2)
