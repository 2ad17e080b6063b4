-- What was given so far, and what the words that are left give.
use Rattle.std.specs.Option.{option_map}
use Rattle.std.specs.List.{list_any, position_or_len, before_first, after_first}
use Rattle.std.specs.Prelude.{String, string_bytes}
use Rattle.std.specs.Global.{Global}
use Rattle.std.proofs.Common.{◌≡◌, ℕ, ◌+◌, ◌-◌, ◌<◌, ◌≤◌, drop, Bool, true, false, not, ◌||◌, cond, if◌then◌else◌, ltb, MatchOption, Bor, List, [], ◌∷◌, ◌++◌, length, get_or, take, Option, None, Some, ap, sym, ◌∙◌, refl, append_assoc, arith}
use Rattle.std.proofs.lemmas.Bool.Decides.{nat_tests}
use Rattle.std.proofs.lemmas.List.{take_all}
use Rattle.cbi_options.specs.declared.given.Choice.{Choice}
use Rattle.cbi_options.specs.declared.given.Shape.{Shape}
use Rattle.cbi_options.specs.declared.given.Shape.TheVariants as shape
use Rattle.cbi_options.specs.WordRule.{is_value, with_option, with_positional, texts_of, given_by_words, shape_of, has_value, name_in, value_in}
use Rattle.cbi_options.specs.declared.given.Given.{Given}

-- one list of what is given behind another
abbrev pub after : Given → Given → Given
after front back = record { options = front.options ++ back.options; positionals = front.positionals ++ back.positionals }

pub after-option : (front : Given) (name value : List ℕ) (o : Option Given) → option_map (after front) (option_map (with_option name value) o) ≡ option_map (after (record front { options = front.options ++ record { name = name; value = value } ∷ [] })) o
after-option front name value None = refl
after-option front name value (Some given) =
    let choice : Choice = record { name = name; value = value } in
    ap (λ (os : List Choice). Some (record { options = os; positionals = front.positionals ++ given.positionals })) (sym (append_assoc front.options (choice ∷ []) given.options))

pub after-positional : (front : Given) (word : List ℕ) (o : Option Given) → option_map (after front) (option_map (with_positional word) o) ≡ option_map (after (record front { positionals = front.positionals ++ word ∷ [] })) o
after-positional front word None = refl
after-positional front word (Some given) =
    ap (λ (ws : List (List ℕ)). Some (record { options = front.options ++ given.options; positionals = ws })) (sym (append_assoc front.positionals (word ∷ []) given.positionals))

-- an option with its value
abbrev at_shape : Shape → Bool → List ℕ → List (List ℕ) → Option Given
at_shape s has word rest = elim s [
  | shape.End ↦ Some (record { options = []; positionals = rest })
  | shape.Option ↦ (if has then option_map (with_option (name_in word) (value_in word)) (given_by_words None rest) else given_by_words (Some word) rest)
  | shape.Refused ↦ None
  | shape.Positional ↦ option_map (with_positional word) (given_by_words None rest)
]

pub cut-option : (word : List ℕ) (rest : List (List ℕ)) → shape_of word ≡ shape.Option → has_value word ≡ true → given_by_words None (word ∷ rest) ≡ option_map (with_option (name_in word) (value_in word)) (given_by_words None rest)
cut-option word rest is has = ap (λ s. at_shape s (has_value word) word rest) is ∙ ap (λ b. at_shape shape.Option b word rest) has

pub option-step : (front next : Given) (waiting : Option (Bor (List ℕ))) (word name value : List ℕ) (rest : List (List ℕ)) (all : Option Given) → waiting ≡ None → shape_of word ≡ shape.Option → has_value word ≡ true → name ≡ name_in word → value ≡ value_in word → next ≡ record front { options = front.options ++ record { name = name; value = value } ∷ [] } → all ≡ option_map (after front) (given_by_words (option_map (λ n. n.now) waiting) (word ∷ rest)) → all ≡ option_map (after next) (given_by_words (option_map (λ n. n.now) waiting) rest)
option-step front next (Some n) word name value rest all none is has is_name is_value is_next step = absurd cc
option-step front next None word name value rest all none is has is_name is_value is_next step =
    step ∙ ap (option_map (after front)) (cut-option word rest is has) ∙ after-option front (name_in word) (value_in word) (given_by_words None rest)
    ∙ ap (λ given. option_map (after given) (given_by_words None rest)) (sym (is_next ∙ ap (λ n. record front { options = front.options ++ record { name = n; value = value } ∷ [] }) is_name ∙ ap (λ v. record front { options = front.options ++ record { name = name_in word; value = v } ∷ [] }) is_value))

-- a positional
pub cut-positional : (word : List ℕ) (rest : List (List ℕ)) → shape_of word ≡ shape.Positional → given_by_words None (word ∷ rest) ≡ option_map (with_positional word) (given_by_words None rest)
cut-positional word rest is = ap (λ s. at_shape s (has_value word) word rest) is

pub positional-step : (front next : Given) (waiting : Option (Bor (List ℕ))) (word : List ℕ) (rest : List (List ℕ)) (all : Option Given) → waiting ≡ None → shape_of word ≡ shape.Positional
    → next ≡ record front { positionals = front.positionals ++ word ∷ [] } → all ≡ option_map (after front) (given_by_words (option_map (λ n. n.now) waiting) (word ∷ rest)) → all ≡ option_map (after next) (given_by_words (option_map (λ n. n.now) waiting) rest)
positional-step front next (Some n) word rest all none is is_next step = absurd cc
positional-step front next None word rest all none is is_next step =
    step ∙ ap (option_map (after front)) (cut-positional word rest is) ∙ after-positional front word (given_by_words None rest) ∙ ap (λ given. option_map (after given) (given_by_words None rest)) (sym is_next)

-- the value of the option that waits for it
pub value-step : (front next : Given) (waiting : Option (Bor (List ℕ))) (name : Bor (List ℕ)) (word : List ℕ) (rest : List (List ℕ)) (all : Option Given) → waiting ≡ Some name → is_value word ≡ true
    → next ≡ record front { options = front.options ++ record { name = name.now; value = word } ∷ [] } → all ≡ option_map (after front) (given_by_words (option_map (λ n. n.now) waiting) (word ∷ rest)) → all ≡ option_map (after next) (given_by_words None rest)
value-step front next waiting name word rest all some is is_next step =
    step ∙ ap (λ w. option_map (after front) (given_by_words (option_map (λ n. n.now) w) (word ∷ rest))) some
    ∙ ap (λ b. option_map (after front) (if b then option_map (with_option name.now word) (given_by_words None rest) else None)) is
    ∙ after-option front name.now word (given_by_words None rest) ∙ ap (λ given. option_map (after given) (given_by_words None rest)) (sym is_next)

-- an element that passes is one before the end
any-first : (p : ℕ → Bool) (x : ℕ) (xs : List ℕ) (b : Bool) → list_any p xs ≡ ltb (position_or_len p xs) (length xs) → (b || list_any p xs) ≡ ltb (cond (not b) (1 + position_or_len p xs) 0) (length (x ∷ xs))
any-first p x xs true more = grind (arith, nat_tests)
any-first p x xs false more = grind (arith, nat_tests)

list_any-position : (p : ℕ → Bool) (xs : List ℕ) → list_any p xs ≡ ltb (position_or_len p xs) (length xs)
list_any-position p [] = refl
list_any-position p (x ∷ xs) = any-first p x xs (p x) (list_any-position p xs)

-- what stands before the first that passes, and behind it
pub parts-are : (p : ℕ → Bool) (word : List ℕ) (r : Option (Bor (List ℕ) × Bor (List ℕ)))
    → MatchOption r (position_or_len p word ≡ length word) (λ x. (position_or_len p word < length word) × (x.0.now ≡ before_first p word) × (x.1.now ≡ after_first p word))
    → MatchOption r (list_any p word ≡ false) (λ x. (list_any p word ≡ true) × (x.0.now ≡ before_first p word) × (x.1.now ≡ after_first p word))
parts-are p word None h = let e = list_any-position p word in grind (arith, nat_tests)
parts-are p word (Some x) h = let e = list_any-position p word in let has : list_any p word ≡ true = grind (arith, nat_tests) in (has, h.1, h.2)

-- the text of the first word, and of those that are left
pub texts_of-first : (words : List (String Global)) (word : String Global) (text : List ℕ) → 1 ≤ length words → word ≡ get_or words 0 word → text ≡ string_bytes word → texts_of words ≡ text ∷ texts_of (take (length words - 1) (drop 1 words))
texts_of-first [] word text some is text_is = absurd (omega arith)
texts_of-first (w ∷ ws) word text some is text_is =
    ap (λ t. t ∷ texts_of ws) (sym (text_is ∙ ap string_bytes is)) ∙ ap (λ left. text ∷ texts_of left) (sym (take_all (length (w ∷ ws) - 1) ws (omega arith)))
