-- What a rule says beside what the walks say of the same tree.
use Rattle.std.proofs.Common.{◌≡◌, ℕ, ◌+◌, ◌-◌, ◌≤◌, max, List, [], ◌∷◌, ◌++◌, length, sym, ◌∙◌, subst, append_assoc, length-append, arith}
use Rattle.c_syntax.specs.declared.token.Sign.{Sign}
use Rattle.c_syntax.specs.declared.token.Sign.TheVariants as sign
use Rattle.c_syntax.specs.declared.token.Word.{Word}
use Rattle.c_syntax.specs.declared.token.TokenKind.TheVariants as kind
use Rattle.c_syntax.specs.Words.{Kinds, parenthesized_kinds, braced_kinds}
use Rattle.c_grammar.specs.Rule.{name_token, sign_token, word_token, in_braces, deeper_by, no_tree, only_if, own_token, in_parens, Rule, these_tokens, ◌▸◌}

-- A rule says of a tree that its tokens are these, that it stands at its place, that it is shaped as it should be and that it nests so deep.
pub record Says (a : Rule) (ks : Kinds) (At : ℕ → Type 0) (Shaped : Type 0) (nesting : ℕ) : Type 0 where
  pub kinds : Shaped → a.kinds ≡ ks
  pub fits : (room at : ℕ) → a.Fits room at → At at × Shaped × (nesting ≤ room)
  pub back : (room at : ℕ) → At at → Shaped → nesting ≤ room → a.Fits room at

pub says-as : {a : Rule} {ks : Kinds} {At Here : ℕ → Type 0} {S T : Type 0} {n m : ℕ} → Says a ks At S n → ((at : ℕ) → At at → Here at)
    → ((at : ℕ) → Here at → At at) → (S → T) → (T → S) → n ≡ m → Says a ks Here T m
says-as p here there to from same = record {
  kinds = λ t. p.kinds (from t);
  fits = λ room at h. let q = p.fits room at h in let le = q.2 in (here at q.0, to q.1, omega arith);
  back = λ room at h t le. p.back room at (there at h) (from t) (omega arith);
}

-- The tokens may be joined otherwise.
pub says-joined : {a : Rule} {ks ls : Kinds} {At : ℕ → Type 0} {S : Type 0} {n : ℕ} → ks ≡ ls → Says a ks At S n → Says a ls At S n
says-joined same p = record { kinds = λ s. p.kinds s ∙ same; fits = p.fits; back = p.back }

pub join-three : (a b c : Kinds) → a ++ (b ++ c) ≡ (a ++ b) ++ c
join-three a b c = sym (append_assoc a b c)

pub join-four : (a b c d : Kinds) → a ++ (b ++ (c ++ d)) ≡ ((a ++ b) ++ c) ++ d
join-four a b c d = join-three a b (c ++ d) ∙ join-three (a ++ b) c d

pub join-five : (a b c d f : Kinds) → a ++ (b ++ (c ++ (d ++ f))) ≡ (((a ++ b) ++ c) ++ d) ++ f
join-five a b c d f = join-four a b c (d ++ f) ∙ join-three ((a ++ b) ++ c) d f

pub says-these : (ks : Kinds) → Says (these_tokens ks) ks (λ at. Unit {0}) (Unit {0}) 0
says-these ks = record { kinds = λ s. λ i. ks; fits = λ room at h. (tt, tt, omega arith); back = λ room at h s le. tt }

pub says-sign : (x : Sign) → Says (sign_token x) (kind.Punctuator x ∷ []) (λ at. Unit {0}) (Unit {0}) 0
says-sign x = says-these (kind.Punctuator x ∷ [])

pub says-word : (x : Word) → Says (word_token x) (kind.Word x ∷ []) (λ at. Unit {0}) (Unit {0}) 0
says-word x = says-these (kind.Word x ∷ [])

pub says-name : (x : List ℕ) → Says (name_token x) (kind.Name x ∷ []) (λ at. Unit {0}) (Unit {0}) 0
says-name x = says-these (kind.Name x ∷ [])

pub says-never : (ks : Kinds) (At : ℕ → Type 0) (S : Type 0) (n : ℕ) → (S → ⊥) → Says no_tree ks At S n
says-never ks At S n none = record { kinds = λ s. absurd (none s); fits = λ room at h. absurd h.0; back = λ room at h s le. absurd (none s) }

pub says-only : {a : Rule} {ks : Kinds} {At : ℕ → Type 0} {S : Type 0} {n : ℕ} (P : Type 0) → Says a ks At S n → Says (only_if P a) ks At (P × S) n
says-only P p = record {
  kinds = λ s. p.kinds s.1;
  fits = λ room at h. let q = p.fits room at h.1 in (q.0, (h.0, q.1), q.2);
  back = λ room at h s le. (s.0, p.back room at h s.1 le);
}

pub says-own : {a : Rule} {ks : Kinds} {At : ℕ → Type 0} {S : Type 0} {n : ℕ} (token : ℕ) → Says a ks At S n
    → Says (own_token token a) ks (λ at. (token ≡ at) × At at) S n
says-own token p = record {
  kinds = p.kinds;
  fits = λ room at h. let q = p.fits room at h.1 in ((h.0, q.0), q.1, q.2);
  back = λ room at h s le. (h.0, p.back room at h.1 s le);
}

pub says-deeper : {a : Rule} {ks : Kinds} {At : ℕ → Type 0} {S : Type 0} {n : ℕ} (d : ℕ) → Says a ks At S n → Says (deeper_by d a) ks At S (d + n)
says-deeper d p = record {
  kinds = p.kinds;
  fits = λ room at h. let q = p.fits (room - d) at h.1 in let room_for = h.0 in let le = q.2 in (q.0, q.1, omega arith);
  back = λ room at h s le. (omega arith, p.back (room - d) at h s (omega arith));
}

pub says-then : {a b : Rule} {ka kb : Kinds} {A B : ℕ → Type 0} {S T : Type 0} {n m : ℕ} → Says a ka A S n → Says b kb B T m
    → Says (a ▸ b) (ka ++ kb) (λ at. A at × B (at + length ka)) (S × T) (max n m)
says-then {b = b} p q = record {
  kinds = λ s. λ i. p.kinds s.0 i ++ q.kinds s.1 i;
  fits = λ room at h.
      let x = p.fits room at h.0 in
      let y = q.fits room _ (subst (λ ks. b.Fits room (at + length ks)) (p.kinds x.1) h.1) in
      let le = x.2 in let less = y.2 in ((x.0, y.0), (x.1, y.1), omega arith);
  back = λ room at h s le. (
    p.back room at h.0 s.0 (omega arith),
    subst (λ ks. b.Fits room (at + length ks)) (sym (p.kinds s.0)) (q.back room _ h.1 s.1 (omega arith)),
  );
}

pub behind-parentheses : (ks : Kinds) (at : ℕ) → at + length (parenthesized_kinds ks) ≡ at + 1 + length ks + 1
behind-parentheses ks at = omega (arith, length-append ks (kind.Punctuator sign.RightParen ∷ []))

pub two-on : (at : ℕ) → at + 1 + 1 ≡ at + 2
two-on at = omega arith

pub says-parenthesized : {a : Rule} {ks : Kinds} {At : ℕ → Type 0} {S : Type 0} {n : ℕ} → Says a ks At S n
    → Says (in_parens a) (parenthesized_kinds ks) (λ at. At (at + 1)) S n
says-parenthesized p =
    says-as (says-then (says-sign sign.LeftParen) (says-then p (says-sign sign.RightParen))) (λ at h. h.1.0) (λ at h. (tt, (h, tt))) (λ s. s.1.0) (λ s. (tt, (s, tt)))
    (omega arith)

pub says-braced : {a : Rule} {ks : Kinds} {At : ℕ → Type 0} {S : Type 0} {n : ℕ} → Says a ks At S n
    → Says (in_braces a) (braced_kinds ks) (λ at. At (at + 1)) S n
says-braced p =
    says-as (says-then (says-sign sign.LeftBrace) (says-then p (says-sign sign.RightBrace))) (λ at h. h.1.0) (λ at h. (tt, (h, tt))) (λ s. s.1.0) (λ s. (tt, (s, tt)))
    (omega arith)

-- a tree of one token of its own, or of several that aren't trees
pub says-leaf : (P : Type 0) (token : ℕ) (ks : Kinds) → Says (only_if P (own_token token (these_tokens ks))) ks (λ at. token ≡ at) (P × Unit {0}) 0
says-leaf P token ks = says-as (says-only P (says-own token (says-these ks))) (λ at h. h.0) (λ at h. (h, tt)) (λ s. s) (λ s. s) (omega arith)
