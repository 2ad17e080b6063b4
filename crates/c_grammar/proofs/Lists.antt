-- What rules of lists and of optional parts say.
use Rattle.std.proofs.Common.{◌≡◌, ℕ, ◌+◌, List, [], ◌∷◌, length, Option, Some, None, refl, sym, subst, arith}
use Rattle.std.specs.Option.{IfSome}
use Rattle.std.specs.List.{AllByRecursion, flat_map}
use Rattle.c_syntax.specs.declared.token.Sign.TheVariants as sign
use Rattle.c_syntax.specs.declared.token.TokenKind.TheVariants as kind
use Rattle.c_syntax.specs.Words.{after_commas, deepest_nesting, EachAt, HasOne, Kinds, optional_kinds, optional_nesting, with_commas}
use Rattle.c_grammar.specs.Rule.{sign_token, any_number, comma_list, at_most_one, Rule, at_least_one, ◌▸◌}
use Rattle.c_grammar.proofs.Says.{Says, says-as, says-never, says-sign, says-then, says-these}

module _ {X : Type 0} (f : X → Rule) (k : X → Kinds) (A : ℕ → X → Type 0) (S : X → Type 0) (n : X → ℕ) where
  abbrev pub EachSays : Type 0
  EachSays = (x : X) → Says (f x) (k x) (λ at. A at x) (S x) (n x)

  pub says-optional : EachSays → (o : Option X) → Says (at_most_one f o) (optional_kinds k o) (λ at. IfSome o (A at)) (IfSome o S) (optional_nesting n o)
  says-optional p None = says-these []
  says-optional p (Some x) = p x

  near : (at : ℕ) (x : X) (xs : List X) → EachAt A k 0 (at + length (k x)) xs → EachAt A k 0 (at + length (k x) + 0) xs
  near at x xs h = let same : at + length (k x) ≡ at + length (k x) + 0 = omega arith in subst (λ m. EachAt A k 0 m xs) same h

  from-near : (at : ℕ) (x : X) (xs : List X) → EachAt A k 0 (at + length (k x) + 0) xs → EachAt A k 0 (at + length (k x)) xs
  from-near at x xs h = let same : at + length (k x) + 0 ≡ at + length (k x) = omega arith in subst (λ m. EachAt A k 0 m xs) same h

  pub says-each : EachSays → (xs : List X) → Says (any_number f xs) (flat_map k xs) (λ at. EachAt A k 0 at xs) (AllByRecursion S xs) (deepest_nesting n xs)
  says-each p [] = says-these []
  says-each p (x ∷ xs) =
      says-as (says-then (p x) (says-each p xs)) (λ at h. (h.0, near at x xs h.1)) (λ at h. (h.0, from-near at x xs h.1)) (λ s. s) (λ s. s) refl

  pub says-some : EachSays → (xs : List X) → Says (at_least_one f xs) (flat_map k xs) (λ at. EachAt A k 0 at xs) (HasOne xs × AllByRecursion S xs) (deepest_nesting n xs)
  says-some p [] = says-never _ _ _ _ (λ s. s.0)
  says-some p (x ∷ xs) =
      says-as (says-then (p x) (says-each p xs)) (λ at h. (h.0, near at x xs h.1)) (λ at h. (h.0, from-near at x xs h.1)) (λ s. (tt, s)) (λ s. s.1) refl

  behind-comma : (at : ℕ) (x : X) → at + length (kind.Punctuator sign.Comma ∷ k x) + 1 ≡ at + 1 + length (k x) + 1
  behind-comma at x = omega arith

  pub says-commas : EachSays → (xs : List X) →
      Says (any_number (λ y. sign_token sign.Comma ▸ f y) xs) (after_commas k xs) (λ at. EachAt A k 1 (at + 1) xs) (AllByRecursion S xs) (deepest_nesting n xs)
  says-commas p [] = says-these []
  says-commas p (x ∷ xs) =
      says-as (says-then (says-then (says-sign sign.Comma) (p x)) (says-commas p xs))
      (λ at h. (h.0.1, subst (λ m. EachAt A k 1 m xs) (behind-comma at x) h.1))
      (λ at h. ((tt, h.0), subst (λ m. EachAt A k 1 m xs) (sym (behind-comma at x)) h.1))
      (λ s. (s.0.1, s.1))
      (λ s. ((tt, s.0), s.1))
      (omega arith)

  pub says-listed : EachSays → (xs : List X) →
      Says (comma_list f xs) (with_commas k xs) (λ at. EachAt A k 1 at xs) (HasOne xs × AllByRecursion S xs) (deepest_nesting n xs)
  says-listed p [] = says-never _ _ _ _ (λ s. s.0)
  says-listed p (x ∷ xs) = says-as (says-then (p x) (says-commas p xs)) (λ at h. h) (λ at h. h) (λ s. (tt, s)) (λ s. s.1) refl
