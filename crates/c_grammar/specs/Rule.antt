-- What a rule of the grammar says of a tree: its tokens, and where the tree may stand.
use Rattle.std.specs.Prelude.{◌≡◌, ℕ, ◌+◌, ◌-◌, ◌≤◌, List, [], ◌∷◌, ◌++◌, length, Option, Some, None}
use Rattle.c_syntax.specs.declared.token.Sign.{Sign}
use Rattle.c_syntax.specs.declared.token.Sign.TheVariants as sign
use Rattle.c_syntax.specs.declared.token.Word.{Word}
use Rattle.c_syntax.specs.declared.token.TokenKind.TheVariants as kind
use Rattle.c_syntax.specs.Words.{Kinds}

-- The tokens of a tree, and whether it may stand where so much deeper is allowed and its first token has this index.
pub record Rule : Type 1 where
  pub kinds : Kinds
  pub Fits : (room at : ℕ) → Type 0

-- one after another
infixr 40 ◌▸◌
abbrev pub ◌▸◌ : Rule → Rule → Rule
a ▸ b = record { kinds = a.kinds ++ b.kinds; Fits = λ room at. a.Fits room at × b.Fits room (at + length a.kinds) }

-- these tokens, whichever index they have
abbrev pub these_tokens : Kinds → Rule
these_tokens ks = record { kinds = ks; Fits = λ room at. Unit {0} }

abbrev pub sign_token : Sign → Rule
sign_token x = these_tokens (kind.Punctuator x ∷ [])

abbrev pub word_token : Word → Rule
word_token x = these_tokens (kind.Word x ∷ [])

abbrev pub name_token : List ℕ → Rule
name_token x = these_tokens (kind.Name x ∷ [])

-- The tree records the index of its own token, which is the first of these.
abbrev pub own_token : (token : ℕ) → Rule → Rule
own_token token a = record { kinds = a.kinds; Fits = λ room at. (token ≡ at) × a.Fits room at }

abbrev pub own_sign : (token : ℕ) → Sign → Rule
own_sign token x = own_token token (sign_token x)

abbrev pub own_word : (token : ℕ) → Word → Rule
own_word token x = own_token token (word_token x)

-- only where this holds
abbrev pub only_if : Type 0 → Rule → Rule
only_if P a = record { kinds = a.kinds; Fits = λ room at. P × a.Fits room at }

abbrev pub no_tree : Rule
no_tree = only_if ⊥ (these_tokens [])

-- so much deeper than what it stands in
abbrev pub deeper_by : ℕ → Rule → Rule
deeper_by n a = record { kinds = a.kinds; Fits = λ room at. (n ≤ room) × a.Fits (room - n) at }

abbrev pub at_most_one : {A : Type 0} → (A → Rule) → Option A → Rule
at_most_one f None = these_tokens []
at_most_one f (Some x) = f x

-- none or more of them
abbrev pub any_number : {A : Type 0} → (A → Rule) → List A → Rule
any_number f [] = these_tokens []
any_number f (x ∷ xs) = f x ▸ any_number f xs

-- one or more of them
abbrev pub at_least_one : {A : Type 0} → (A → Rule) → List A → Rule
at_least_one f [] = no_tree
at_least_one f (x ∷ xs) = f x ▸ any_number f xs

-- one or more of them, with commas between
abbrev pub comma_list : {A : Type 0} → (A → Rule) → List A → Rule
comma_list f [] = no_tree
comma_list f (x ∷ xs) = f x ▸ any_number (λ y. sign_token sign.Comma ▸ f y) xs

abbrev pub in_parens : Rule → Rule
in_parens a = sign_token sign.LeftParen ▸ a ▸ sign_token sign.RightParen

abbrev pub in_braces : Rule → Rule
in_braces a = sign_token sign.LeftBrace ▸ a ▸ sign_token sign.RightBrace
