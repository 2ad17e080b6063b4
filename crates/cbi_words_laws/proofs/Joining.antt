-- An option with its value, as one word and as two.
use Rattle.std.specs.Option.{option_map}
use Rattle.std.specs.List.{All, position_or_len}
use Rattle.std.proofs.Common.{◌≡◌, ℕ, suc, ◌+◌, Bool, true, false, not, cond, ◌||◌, if◌then◌else◌, List, [], ◌∷◌, ◌++◌, length, take, drop, Option, None, Some, inl, inr, ap, sym, ◌∙◌, refl, arith}
use Rattle.std.proofs.lemmas.List.{take_at}
use Rattle.std.proofs.lemmas.List.Elements.{All-head, All-tail}
use Rattle.std.proofs.lemmas.Bool.{or_parts}
use Rattle.cbi_options.proofs.Cutting.{cut-option}
use Rattle.cbi_options.specs.declared.given.Shape.{Shape}
use Rattle.cbi_options.specs.declared.given.Shape.TheVariants as shape
use Rattle.cbi_options.specs.WordRule.{given_by_words, has_value, is_dash, is_equals, is_value, name_in, shape_of, value_in, with_option, with_positional}
use Rattle.cbi_words_laws.specs.Laws.{IsOptionName, IsOption, JoinedReadsAlike, GoesOn, joined_option}
use Rattle.cbi_words_laws.proofs.Reading.{at_shape}

-- a name, whatever stands behind it
two_dashes : (a b : Bool) → (if a then (if b then shape.Option else shape.Refused) else shape.Positional) ≡ shape.Option → a ≡ true
two_dashes true b e = refl
two_dashes false b e = absurd cc

short : (a b : Bool) → (if a then (if b then shape.End else shape.Refused) else shape.Positional) ≡ shape.Option → ⊥
short true true e = cc
short true false e = cc
short false b e = cc

longer : (name more : List ℕ) → shape_of name ≡ shape.Option → shape_of (name ++ more) ≡ shape.Option
longer [] more e = absurd cc
longer (a ∷ []) more e = absurd cc
longer (a ∷ b ∷ []) more e = absurd (short (is_dash a) (is_dash b) e)
longer (a ∷ b ∷ c ∷ name) more e = e

-- no option is the value of the one before it
pub no_value : (word : List ℕ) → shape_of word ≡ shape.Option → is_value word ≡ false
no_value [] e = absurd cc
no_value (a ∷ []) e = absurd cc
no_value (a ∷ b ∷ []) e = absurd (short (is_dash a) (is_dash b) e)
no_value (a ∷ b ∷ c ∷ name) e = ap not (two_dashes (is_dash a) (is_dash b) e)

equals_in : (name value : List ℕ) → has_value (joined_option name value) ≡ true
equals_in [] value = refl
equals_in (a ∷ name) value = any (is_equals a) (has_value (joined_option name value)) (equals_in name value)
  where
    any : (a b : Bool) → b ≡ true → (a || b) ≡ true
    any true b e = refl
    any false b e = e

place : (name value : List ℕ) → has_value name ≡ false → position_or_len is_equals (joined_option name value) ≡ length name
place [] value lacks = refl
place (a ∷ name) value lacks =
    let parts = or_parts (is_equals a) (has_value name) lacks in
    ap (λ b. cond (not b) (1 + position_or_len is_equals (joined_option name value)) 0) parts.0
    ∙ ap (λ n. 1 + n) (place name value parts.1) ∙ omega arith

pub name_of_joined : (name value : List ℕ) → has_value name ≡ false → name_in (joined_option name value) ≡ name
name_of_joined name value lacks = ap (λ n. take n (joined_option name value)) (place name value lacks) ∙ take_at name (61 ∷ value) (length name) refl

behind : (name value : List ℕ) → drop (length name + 1) (joined_option name value) ≡ value
behind [] value = refl
behind (a ∷ name) value =
    let more : length (a ∷ name) + 1 ≡ suc (length name + 1) = omega arith in
    ap (λ n. drop n (joined_option (a ∷ name) value)) more ∙ behind name value

pub value_of_joined : (name value : List ℕ) → has_value name ≡ false → value_in (joined_option name value) ≡ value
value_of_joined name value lacks =
    ap (λ n. drop (n + 1) (joined_option name value)) (place name value lacks) ∙ behind name value

pub cut_joined : (name value : List ℕ) (rest : List (List ℕ)) → IsOptionName name →
    given_by_words None (joined_option name value ∷ rest) ≡ option_map (with_option name value) (given_by_words None rest)
cut_joined name value rest is =
    cut-option (joined_option name value) rest (longer name (61 ∷ value) is.0) (equals_in name value)
    ∙ ap (λ n. option_map (with_option n (value_in (joined_option name value))) (given_by_words None rest)) (name_of_joined name value is.1)
    ∙ ap (λ v. option_map (with_option name v) (given_by_words None rest)) (value_of_joined name value is.1)

pub cut_apart : (name value : List ℕ) (rest : List (List ℕ)) → IsOptionName name → is_value value ≡ true →
    given_by_words None (name ∷ value ∷ rest) ≡ option_map (with_option name value) (given_by_words None rest)
cut_apart name value rest is may =
    ap (λ s. at_shape s (has_value name) name (value ∷ rest)) is.0 ∙ ap (λ b. at_shape shape.Option b name (value ∷ rest)) is.1
    ∙ ap (λ b. if b then option_map (with_option name value) (given_by_words None rest) else None) may

pub cut_waiting : (name word : List ℕ) (rest : List (List ℕ)) → shape_of word ≡ shape.Option → given_by_words (Some name) (word ∷ rest) ≡ None
cut_waiting name word rest is = ap (λ b. if b then option_map (with_option name word) (given_by_words None rest) else None) (no_value word is)

-- words that are read alike, whatever waits before them, are so behind others
abbrev pub Alike : List (List ℕ) → List (List ℕ) → Type 0
Alike one two = (waiting : Option (List ℕ)) → given_by_words waiting one ≡ given_by_words waiting two

alike_at : (s : Shape) (has : Bool) (word : List ℕ) (one two : List (List ℕ)) → (s ≡ shape.End → ⊥) → Alike one two → at_shape s has word one ≡ at_shape s has word two
alike_at shape.End has word one two ends same = absurd (ends refl)
alike_at shape.Option true word one two ends same = ap (option_map (with_option (name_in word) (value_in word))) (same None)
alike_at shape.Option false word one two ends same = same (Some word)
alike_at shape.Refused has word one two ends same = refl
alike_at shape.Positional has word one two ends same = ap (option_map (with_positional word)) (same None)

alike_as : (name word : List ℕ) (b : Bool) (one two : List (List ℕ)) → Alike one two →
    (if b then option_map (with_option name word) (given_by_words None one) else None) ≡ (if b then option_map (with_option name word) (given_by_words None two) else None)
alike_as name word true one two same = ap (option_map (with_option name word)) (same None)
alike_as name word false one two same = refl

alike_behind : (before one two : List (List ℕ)) → All GoesOn before → Alike one two → Alike (before ++ one) (before ++ two)
alike_behind [] one two goes_on same waiting = same waiting
alike_behind (word ∷ before) one two goes_on same None =
    alike_at (shape_of word) (has_value word) word (before ++ one) (before ++ two) (All-head GoesOn word before goes_on) (alike_behind before one two (All-tail GoesOn word before goes_on) same)
alike_behind (word ∷ before) one two goes_on same (Some name) =
    alike_as name word (is_value word) (before ++ one) (before ++ two) (alike_behind before one two (All-tail GoesOn word before goes_on) same)

alike_joined : (name value : List ℕ) (after : List (List ℕ)) → IsOptionName name → is_value value ≡ true → Alike (joined_option name value ∷ after) (name ∷ value ∷ after)
alike_joined name value after is may None = cut_joined name value after is ∙ sym (cut_apart name value after is may)
alike_joined name value after is may (Some other) =
    cut_waiting other (joined_option name value) after (longer name (61 ∷ value) is.0) ∙ sym (cut_waiting other name (value ∷ after) is.0)

pub reads_alike : JoinedReadsAlike
reads_alike name value before after is may goes_on = alike_behind before (joined_option name value ∷ after) (name ∷ value ∷ after) goes_on (alike_joined name value after is may) None

-- an option in or_parts form
pub cut_given : (name value : List ℕ) (option rest : List (List ℕ)) → IsOption name value option → given_by_words None (option ++ rest) ≡ option_map (with_option name value) (given_by_words None rest)
cut_given name value option rest (is, inl one) = ap (λ words. given_by_words None (words ++ rest)) one ∙ cut_joined name value rest is
cut_given name value option rest (is, inr two) = ap (λ words. given_by_words None (words ++ rest)) two.0 ∙ cut_apart name value rest is two.1
