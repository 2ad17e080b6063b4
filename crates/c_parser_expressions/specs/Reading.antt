-- What it is to read a part of a grammar at a place in a list of tokens.
use Rattle.std.specs.Prelude.{◌≡◌, ℕ, ◌+◌, ◌≤◌, ◌<◌, List, [], ◌∷◌, ◌++◌, length, Option, Some, None, Result, Ok, Err}
use Rattle.c_syntax.specs.declared.token.Sign.{Sign}
use Rattle.c_syntax.specs.declared.token.Word.{Word}
use Rattle.c_syntax.specs.declared.token.TokenKind.{TokenKind}
use Rattle.c_syntax.specs.declared.token.TokenKind.TheVariants as kind
use Rattle.c_syntax.specs.Spelling.{Kinds, a_sign, a_word, a_name}

-- the tokens that are left, and the index of the first of them
pub record Cursor : Type 0 where
  pub at : ℕ
  pub rest : Kinds

abbrev pub first_kind : Kinds → Option TokenKind
first_kind [] = None
first_kind (x ∷ xs) = Some x

abbrev pub kinds_behind_first : Kinds → Kinds
kinds_behind_first [] = []
kinds_behind_first (x ∷ xs) = xs

abbrev pub kind_sign : TokenKind → Option Sign
kind_sign (kind.Punctuator s) = Some s
kind_sign _ = None

abbrev pub sign_at : Kinds → Option Sign
sign_at [] = None
sign_at (x ∷ xs) = kind_sign x

abbrev pub kind_word : TokenKind → Option Word
kind_word (kind.Word w) = Some w
kind_word _ = None

abbrev pub word_at : Kinds → Option Word
word_at [] = None
word_at (x ∷ xs) = kind_word x

abbrev pub kind_name : TokenKind → Option (List ℕ)
kind_name (kind.Name name) = Some name
kind_name _ = None

abbrev pub name_at : Kinds → Option (List ℕ)
name_at [] = None
name_at (x ∷ xs) = kind_name x

abbrev pub kind_text : TokenKind → Option (List ℕ)
kind_text (kind.Text bytes) = Some bytes
kind_text _ = None

abbrev pub text_at : Kinds → Option (List ℕ)
text_at [] = None
text_at (x ∷ xs) = kind_text x

abbrev pub next_cursor : Cursor → Cursor
next_cursor c = record { at = c.at + 1; rest = kinds_behind_first c.rest }

-- two lists that begin at the index `at` are the same up to the index `last`, with what stands there: a token, or the end of both
abbrev pub SameUpTo : (last at : ℕ) → Kinds → Kinds → Type 0
SameUpTo last at [] [] = Unit {0}
SameUpTo last at (x ∷ xs) (y ∷ ys) = (x ≡ y) × (at < last → SameUpTo last (at + 1) xs ys)
SameUpTo last at _ _ = ⊥

-- a rule of the grammar: its parts, where each begins at an index; their tokens; and what can stand behind each
pub record Rule (A : Type 0) : Type 1 where
  pub Is : ℕ → A → Type 0
  pub spell : A → Kinds
  pub Ends : A → Kinds → Type 0

-- x is read, up to `to`, and no other part of the rule goes on with the token there
pub record Found {A : Type 0} (R : Rule A) (c : Cursor) (x : A) (to : Cursor) : Type 0 where
  pub is : R.Is c.at x
  pub spelled : c.rest ≡ R.spell x ++ to.rest
  pub moved : to.at ≡ c.at + length (R.spell x)
  pub only : (y : A) (k : Kinds) (last : ℕ) → R.Is c.at y → R.Ends y k → to.at ≤ last → SameUpTo last c.at c.rest (R.spell y ++ k) → y ≡ x

-- no part of the rule goes on with what stands at the index `last`
pub record Fails {A : Type 0} (R : Rule A) (c : Cursor) (last : ℕ) : Type 0 where
  pub from : c.at ≤ last
  pub within : last ≤ c.at + length c.rest
  pub none : (y : A) (k : Kinds) → R.Is c.at y → R.Ends y k → SameUpTo last c.at c.rest (R.spell y ++ k) → ⊥

-- what reading gives: the part and the place behind it, or the index of the token that is refused
abbrev pub Read : Type 0 → Type 0
Read A = Result (A × Cursor) ℕ

abbrev pub Outcome : {A : Type 0} → Rule A → Cursor → Read A → Type 0
Outcome R c (Ok p) = Found R c p.0 p.1
Outcome R c (Err index) = Fails R c index

-- a part of the first rule, and then one of a second, which may depend on it
abbrev pub sequence_rule : {A B : Type 0} → Rule A → (A → Rule B) → Rule (A × B)
sequence_rule P Q = record {
  Is = λ at p. P.Is at p.0 × (Q p.0).Is (at + length (P.spell p.0)) p.1;
  spell = λ p. P.spell p.0 ++ (Q p.0).spell p.1;
  Ends = λ p k. (Q p.0).Ends p.1 k;
}

-- what ends by itself can have anything behind it
pub record AnythingFollows (k : Kinds) : Type 0 where

-- a part with a sign behind it
abbrev pub rule_before_sign : {A : Type 0} → Rule A → Sign → Rule A
rule_before_sign R s = record { Is = R.Is; spell = λ x. R.spell x ++ a_sign s; Ends = λ x k. AnythingFollows k }

-- rules of one token
abbrev pub sign_rule : Sign → Rule (Unit {0})
sign_rule s = record { Is = λ at x. Unit {0}; spell = λ x. a_sign s; Ends = λ x k. AnythingFollows k }

abbrev pub word_rule : Word → Rule (Unit {0})
word_rule w = record { Is = λ at x. Unit {0}; spell = λ x. a_word w; Ends = λ x k. AnythingFollows k }

abbrev pub name_rule : Rule (List ℕ)
name_rule = record { Is = λ at x. Unit {0}; spell = a_name; Ends = λ x k. AnythingFollows k }
