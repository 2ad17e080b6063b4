-- Reading as a function on lists: one part after another, and parts for as long as one begins.
use Rattle.std.specs.Prelude.{◌≡◌, ℕ, zero, suc, ◌+◌, ◌<◌, if◌then◌else◌, List, [], ◌∷◌, ◌++◌, length, Option, Some, None, Result, Ok, Err}
use Rattle.c_syntax.specs.declared.token.Sign.{Sign}
use Rattle.c_syntax.specs.declared.token.Word.{Word}
use Rattle.c_parser_expressions.specs.declared.stop.Stop.{Stop}
use Rattle.c_parser_expressions.specs.declared.stop.Stop.TheVariants as stop
use Rattle.c_parser_expressions.specs.Reading.{Cursor, Read, next_cursor, name_at}
use Rattle.c_parser_expressions.specs.Marks.{begins_with_sign, begins_with_word}

infixl 10 ◌>>=◌
abbrev pub ◌>>=◌ : {A B : Type 0} → Result A ℕ → (A → Result B ℕ) → Result B ℕ
(Ok x) >>= f = f x
(Err i) >>= f = Err i

-- what a function of the code returned is what reading gives, unless memory ran out
abbrev pub Gives : {A V : Type 0} → (V → A) → Result V Stop → Cursor → Read A → Type 0
Gives view (Ok v) new read = read ≡ Ok (view v, new)
Gives view (Err (stop.Refused index)) new read = read ≡ Err index
Gives view (Err stop.Memory) new read = Unit {0}

-- None where no further part begins, else what reading it gives
abbrev pub Step : Type 0 → Type 0
Step A = Option (Read A)

abbrev pub with_front : {A : Type 0} → List A → Read (List A) → Read (List A)
with_front xs (Ok p) = Ok (xs ++ p.0, p.1)
with_front xs (Err i) = Err i

-- what stands behind a part, where there is one
abbrev pub parts_from_step : {A : Type 0} → (Cursor → Read (List A)) → Cursor → Step A → Read (List A)
parts_from_step more c None = Ok ([], c)
parts_from_step more c (Some (Err i)) = Err i
parts_from_step more c (Some (Ok p)) = with_front (p.0 ∷ []) (more p.1)

-- Parts for as long as one begins. Each takes a token, so one turn more than there are tokens is enough.
unfoldable pub parts_within_turns : {A : Type 0} → (turns : ℕ) → (Cursor → Step A) → Cursor → Read (List A)
parts_within_turns zero step c = Ok ([], c)
parts_within_turns (suc n) step c = parts_from_step (parts_within_turns n step) c (step c)

unfoldable pub all_of : {A : Type 0} → (Cursor → Step A) → Cursor → Read (List A)
all_of step c = parts_within_turns (length c.rest + 1) step c

-- each part takes a token
pub record Advances {A : Type 0} (step : Cursor → Step A) : Type 0 where
  pub less : (c : Cursor) (x : A) (to : Cursor) → step c ≡ Some (Ok (x, to)) → length to.rest < length c.rest

-- a sign, a word or a name, or the refusal of what stands there
unfoldable pub the_sign : Sign → Cursor → Read (Unit {0})
the_sign s c = if begins_with_sign s c.rest then Ok (tt, next_cursor c) else Err c.at

unfoldable pub the_word : Word → Cursor → Read (Unit {0})
the_word w c = if begins_with_word w c.rest then Ok (tt, next_cursor c) else Err c.at

abbrev pub pass_if : {A : Type 0} → Cursor → Option A → Read A
pass_if c (Some x) = Ok (x, next_cursor c)
pass_if c None = Err c.at

unfoldable pub the_name : Cursor → Read (List ℕ)
the_name c = pass_if c (name_at c.rest)
