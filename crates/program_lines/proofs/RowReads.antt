-- The lines of lists, texts, functions and locals: reading undoes spelling, and what is read is spelled so.
use Rattle.std.proofs.Common.{◌≡◌, ◌≤◌, ◌*◌, ℕ, zero, suc, Bool, true, false, ◌&&◌, nat_le, List, [], ◌∷◌, Some, Result, Ok, Err, decimal, codes, length, map, ap, sym, subst, ◌∙◌, refl, arith}
use Rattle.std.specs.List.{AllByRecursion, list_all}
use Rattle.std.proofs.lemmas.Bool.{leb-true, le-leb, and_parts}
use Rattle.std.proofs.lemmas.Bool.Decides.{nat_tests}
use Rattle.std.proofs.lemmas.Option.{option_and_then_some}
use Rattle.base_lists.proofs.Tests.{some_choice}
use Rattle.base_lists.proofs.Options.{mapped, some_is}
use Rattle.hex.specs.Hex.{IsBytes, decode_of, encode_lower, lower_digits}
use Rattle.hex.specs.declared.error.FromHexError.{FromHexError}
use Rattle.hex.proofs.HexLemmas.{decode_of-ok, decode_of-encode_lower, length-encode_with}
use Rattle.cbi_base.specs.Words.{IsName, begins_name, is_name_byte, is_lower_digit, is_word, number_of, two_numbers, greatest_u32, IsField, is_field_byte}
use Rattle.cbi_base.proofs.IdLemmas.{digits-lower, digits-spell}
use Rattle.cbi_base.proofs.FieldLemmas.{IsField-decimal, IsField-name}
use Rattle.cbi_base.proofs.NumberLemmas.{same-word, is_word-same, number_of-spelled, one_number-spelled, two_numbers-spelled, small-read}
use Rattle.flow.specs.Spelling.{Head, bytes_word, word_and_number, head_fields, result_word}
use Rattle.program_lines.specs.Words.{result_of}
use Rattle.program_lines.specs.Rows.{count_of, is_name, name_of, some_bytes, bytes_of, text_of_row, head_parts, head_of_row, sizes_of, locals_of_row}
use Rattle.program_lines.proofs.WordLemmas.{result_of-word, result_of-spelled, is_field-result}

pub count_of-spelled : (word : List ℕ) (fields : List (List ℕ)) (n : ℕ) → count_of word fields ≡ Some n → fields ≡ word_and_number word n
count_of-spelled word [] n h = absurd cc
count_of-spelled word (first ∷ rest) n h =
    some_choice (is_word first word) _ _ n h (λ test is. ap (λ w. w ∷ rest) (same-word first word test) ∙ ap (λ fs. word ∷ fs) (one_number-spelled rest n is)) (λ _ none. absurd cc)

pub count_of-fields : (word : List ℕ) (n : ℕ) → n ≤ greatest_u32 → count_of word (word_and_number word n) ≡ Some n
count_of-fields word n h = rw (is_word-same word, small-read n h) refl

pub are_fields-count : (word : List ℕ) (n : ℕ) → IsField word → n ≤ greatest_u32 → AllByRecursion IsField (word_and_number word n)
are_fields-count word n is h = (is, (IsField-decimal n (omega arith), tt))

pub name_of-spelled : (field name : List ℕ) → name_of field ≡ Some name → (field ≡ name) × IsName name
name_of-spelled field name h =
    some_choice (is_name field) _ _ name h (λ test is.
    let parts = and_parts (begins_name field && list_all is_name_byte field) (nat_le (length field) 63) test in
    let more = and_parts (begins_name field) (list_all is_name_byte field) parts.0 in
    let named : IsName field = record { begins = more.0; runs = more.1; short = leb-true _ _ parts.1 } in
    (some_is is, subst IsName (some_is is) named)) (λ _ none. absurd cc)

pub name_of-name : (name : List ℕ) → IsName name → name_of name ≡ Some name
name_of-name name h =
    let short : nat_le (length name) 63 ≡ true = le-leb _ _ h.short in
    let begins : begins_name name ≡ true = h.begins in
    let runs : list_all is_name_byte name ≡ true = h.runs in
    rw (begins, runs, short) refl

-- another word
pub other-word : (field word : List ℕ) → (field ≡ word → ⊥) → is_word field word ≡ false
other-word field word never = by (is_word field word) refl
  where
    by : (b : Bool) → is_word field word ≡ b → b ≡ false
    by true h = absurd (never (same-word field word h))
    by false h = refl

-- lists that begin otherwise
pub other-first : (a b : ℕ) (xs ys : List ℕ) → (a ≡ b → ⊥) → a ∷ xs ≡ b ∷ ys → ⊥
other-first a b xs ys other e = other cc

one-byte : (field : List ℕ) → length field ≡ 1 → (n : ℕ) → length field ≡ 2 * n → ⊥
one-byte field one n even = omega arith

pub bytes_of-spelled : (field bytes : List ℕ) → bytes_of field ≡ Some bytes → field ≡ bytes_word bytes
unfolding bytes_of
bytes_of-spelled field bytes h =
    some_choice (is_word field (codes "-")) _ _ bytes h (λ test is. same-word field _ test ∙ ap bytes_word (some_is is)) (λ _ h.
    some_choice (list_all is_lower_digit field) _ _ bytes h (λ lower is. spelled lower (decode_of field) refl is) (λ _ none. absurd cc))
  where
    spelled : list_all is_lower_digit field ≡ true → (d : Result (List ℕ) FromHexError) → decode_of field ≡ d → some_bytes d ≡ Some bytes → field ≡ bytes_word bytes
    spelled lower (Ok []) read is = absurd cc
    spelled lower (Ok (b ∷ bs)) read is =
        let facts = decode_of-ok field (b ∷ bs) read in
        let of = digits-spell field facts.0 lower in
        let twice : Ok (b ∷ bs) ≡ Ok of.bytes = sym read ∙ ap decode_of of.text_is ∙ decode_of-encode_lower of.bytes of.are_bytes in
        let same : b ∷ bs ≡ of.bytes = cc in
        of.text_is ∙ ap encode_lower (sym same) ∙ ap bytes_word (some_is is)
    spelled lower (Err e) read is = absurd cc

pub bytes_of-word : (bytes : List ℕ) → IsBytes bytes → bytes_of (bytes_word bytes) ≡ Some bytes
unfolding bytes_of
bytes_of-word [] h = refl
bytes_of-word (b ∷ bs) h =
    let other : is_word (encode_lower (b ∷ bs)) (codes "-") ≡ false = other-word (encode_lower (b ∷ bs)) (codes "-") (λ is. one-byte _ (ap length is) (length (b ∷ bs)) (length-encode_with lower_digits (b ∷ bs))) in
    rw (other, digits-lower (b ∷ bs) h, decode_of-encode_lower (b ∷ bs) h) refl

lower-field : (b : ℕ) → is_lower_digit b ≡ true → is_field_byte b ≡ true
lower-field b h = grind (arith, nat_tests)

lower-fields : (digits : List ℕ) → list_all is_lower_digit digits ≡ true → list_all is_field_byte digits ≡ true
lower-fields [] h = refl
lower-fields (d ∷ ds) h =
    let parts = and_parts (is_lower_digit d) (list_all is_lower_digit ds) h in
    let rest : list_all is_field_byte ds ≡ true = lower-fields ds parts.1 in
    rw (lower-field d parts.0, rest) refl

pub is_field-bytes : (bytes : List ℕ) → IsBytes bytes → IsField (bytes_word bytes)
is_field-bytes [] h = refl
is_field-bytes (b ∷ bs) h = lower-fields (encode_lower (b ∷ bs)) (digits-lower (b ∷ bs) h)

pub text_of_row-spelled : (fields : List (List ℕ)) (bytes : List ℕ) → text_of_row fields ≡ Some bytes → fields ≡ codes "text" ∷ bytes_word bytes ∷ []
text_of_row-spelled (word ∷ digits ∷ []) bytes h =
    some_choice (is_word word (codes "text")) _ _ bytes h (λ test is. ap (λ w. w ∷ digits ∷ []) (same-word word _ test) ∙ ap (λ d. codes "text" ∷ d ∷ []) (bytes_of-spelled digits bytes is)) (λ _ none. absurd cc)
text_of_row-spelled fields bytes h = absurd cc

pub text_of_row-fields : (bytes : List ℕ) → IsBytes bytes → text_of_row (codes "text" ∷ bytes_word bytes ∷ []) ≡ Some bytes
text_of_row-fields bytes h = bytes_of-word bytes h

head-from : (fields : List (List ℕ)) (parts : List ℕ × (Bool × (ℕ × (ℕ × ℕ)))) → head_parts fields ≡ Some parts → fields ≡ codes "function" ∷ parts.0 ∷ result_word parts.1.0 ∷ decimal parts.1.1.0 ∷ decimal parts.1.1.1.0 ∷ decimal parts.1.1.1.1 ∷ []
unfolding head_parts
head-from [] parts h = absurd cc
head-from (a ∷ []) parts h = absurd cc
head-from (a ∷ b ∷ []) parts h = absurd cc
head-from (a ∷ b ∷ c ∷ []) parts h = absurd cc
head-from (word ∷ called ∷ result ∷ params ∷ rest) parts h =
    some_choice (is_word word (codes "function")) _ _ parts h (λ test h.
    option_and_then_some _ (result_of result) parts h (λ value is_value h.
    option_and_then_some _ (number_of greatest_u32 params) parts h (λ first is_first h.
    mapped _ (two_numbers rest) parts h (λ counts is_counts same.
    ap (λ w. w ∷ called ∷ result ∷ params ∷ rest) (same-word word _ test)
    ∙ ap (λ r. codes "function" ∷ called ∷ r ∷ params ∷ rest) (result_of-spelled result value is_value)
    ∙ ap (λ p. codes "function" ∷ called ∷ result_word value ∷ p ∷ rest) (number_of-spelled greatest_u32 params first is_first).0
    ∙ ap (λ fs. codes "function" ∷ called ∷ result_word value ∷ decimal first ∷ fs) (two_numbers-spelled rest counts is_counts)
    ∙ ap (λ (p : List ℕ × (Bool × (ℕ × (ℕ × ℕ)))). codes "function" ∷ p.0 ∷ result_word p.1.0 ∷ decimal p.1.1.0 ∷ decimal p.1.1.1.0 ∷ decimal p.1.1.1.1 ∷ []) same)))) (λ _ none. absurd cc)

pub head_of_row-spelled : (fields : List (List ℕ)) (h : Head) → head_of_row fields ≡ Some h → fields ≡ head_fields h
unfolding head_of_row
head_of_row-spelled fields head h =
    option_and_then_some _ (head_parts fields) head h (λ parts is_parts h.
    mapped _ (name_of parts.0) head h (λ name is_name same.
    head-from fields parts is_parts
    ∙ ap (λ n. codes "function" ∷ n ∷ result_word parts.1.0 ∷ decimal parts.1.1.0 ∷ decimal parts.1.1.1.0 ∷ decimal parts.1.1.1.1 ∷ []) (name_of-spelled parts.0 name is_name).0
    ∙ ap head_fields same))

-- the numbers of a head have 32 bits
pub record IsSmallHead (h : Head) : Type 0 where
  pub name : IsName h.name
  pub params : h.params ≤ greatest_u32
  pub locals : h.locals ≤ greatest_u32
  pub nodes : h.nodes ≤ greatest_u32

pub head_of_row-fields : (h : Head) → IsSmallHead h → head_of_row (head_fields h) ≡ Some h
unfolding head_of_row head_parts
head_of_row-fields head h =
    rw (result_of-word head.value, small-read head.params h.params, small-read head.locals h.locals, small-read head.nodes h.nodes, name_of-name head.name h.name) refl

pub are_fields-head : (h : Head) → IsSmallHead h → AllByRecursion IsField (head_fields h)
are_fields-head head h =
    (refl, (IsField-name head.name h.name, (is_field-result head.value, (IsField-decimal head.params (omega (arith, h.params)), (IsField-decimal head.locals (omega (arith, h.locals)), (IsField-decimal head.nodes (omega (arith, h.nodes)), tt))))))

pub sizes_of-spelled : (count : ℕ) (fields : List (List ℕ)) (sizes : List ℕ) → sizes_of count fields ≡ Some sizes → (fields ≡ map decimal sizes) × (length sizes ≡ count)
sizes_of-spelled zero [] sizes h = subst (λ s. ([] ≡ map decimal s) × (length s ≡ zero)) (some_is h) (refl, refl)
sizes_of-spelled zero (field ∷ fields) sizes h = absurd cc
sizes_of-spelled (suc count) [] sizes h = absurd cc
sizes_of-spelled (suc count) (field ∷ fields) sizes h =
    option_and_then_some _ (number_of greatest_u32 field) sizes h (λ size is_size h.
    mapped _ (sizes_of count fields) sizes h (λ rest is_rest same.
    let more = sizes_of-spelled count fields rest is_rest in
    subst (λ s. (field ∷ fields ≡ map decimal s) × (length s ≡ suc count)) same
    (ap (λ f. f ∷ fields) (number_of-spelled greatest_u32 field size is_size).0 ∙ ap (λ fs. decimal size ∷ fs) more.0, ap suc more.1)))

pub sizes_of-fields : (sizes : List ℕ) → AllByRecursion (λ size. size ≤ greatest_u32) sizes → sizes_of (length sizes) (map decimal sizes) ≡ Some sizes
sizes_of-fields [] h = refl
sizes_of-fields (size ∷ sizes) h = rw (small-read size h.0, sizes_of-fields sizes h.1) refl

pub are_fields-sizes : (sizes : List ℕ) → AllByRecursion (λ size. size ≤ greatest_u32) sizes → AllByRecursion IsField (map decimal sizes)
are_fields-sizes [] h = tt
are_fields-sizes (size ∷ sizes) h = (IsField-decimal size (omega (arith, h.0)), are_fields-sizes sizes h.1)

pub locals_of_row-spelled : (count : ℕ) (fields : List (List ℕ)) (sizes : List ℕ) → locals_of_row count fields ≡ Some sizes → (fields ≡ codes "locals" ∷ map decimal sizes) × (length sizes ≡ count)
locals_of_row-spelled count [] sizes h = absurd cc
locals_of_row-spelled count (word ∷ fields) sizes h =
    some_choice (is_word word (codes "locals")) _ _ sizes h (λ test is.
    let spelled = sizes_of-spelled count fields sizes is in
    (ap (λ w. w ∷ fields) (same-word word _ test) ∙ ap (λ fs. codes "locals" ∷ fs) spelled.0, spelled.1)) (λ _ none. absurd cc)
