-- What the rules on calls and formats accept, the rules on values take.
use Rattle.std.proofs.Common.{◌≡◌, ℕ, refl, sym, ◌∙◌, arith, List, [], ◌∷◌, Some, Ok, Err, Bool, true, false, length}
use Rattle.std.proofs.lemmas.Bool.{false≢true, true≢false, and_parts}
use Rattle.std.proofs.lemmas.Bool.Decides.{nat_tests}
use Rattle.std.specs.Prelude.{map, ◌==◌, ◌&&◌, if◌then◌else◌}
use Rattle.cbi_base.specs.Words.{Byte, Conversion, pieces_of, is_conversion, is_percent}
use Rattle.base_lists.proofs.Numbers.{suc_not_zero}
use Rattle.cbi_base.specs.declared.scalar.Kind.TheVariants as kind
use Rattle.c_types_rules.specs.declared.fault.FaultKind.TheVariants as fault
use Rattle.c_types_rules.specs.declared.function.FunctionType.{FunctionType}
use Rattle.c_types_rules.specs.declared.layout.StructType.{StructType}
use Rattle.c_types_rules.specs.declared.operand.Operand.{Operand}
use Rattle.c_types_rules.specs.TypeTree as t
use Rattle.c_types_rules.specs.Words.{TypeTree, same_type, is_assignable, fits_parameters, is_arithmetic, is_pointer, value_of, typed_call, after_first, are_none}
use Rattle.c_types_rules.specs.Words.{first_converts, fits_format, fits_letter}
use Rattle.c_types_rules.specs.Conversions as rule
use Rattle.c_meaning.specs.declared.value_type.ValueType.{ValueType}
use Rattle.c_meaning.specs.declared.value_type.ValueType.TheVariants as type
use Rattle.c_meaning.specs.Words.{type_taken, types_taken, computed_type}
use Rattle.c_meaning.specs.Conversions as mean
use Rattle.c_meaning_laws.specs.Rules.{TakesOrNull}
use Rattle.c_meaning_laws.proofs.Ruled.{Is, arithmetic_number, assignable_taken, given, known, number_takes, pointer_pointing, pointer_takes}

-- one operand for each of these types, which takes it
abbrev pub AllTaken : List StructType → List ValueType → List Operand → Type 0
AllTaken structs [] [] = Unit {0}
AllTaken structs (wanted ∷ types) (x ∷ xs) = TakesOrNull (mean.is_pointer_value (Some wanted) && x.null) (Some wanted) (known structs x.ctype)
    × AllTaken structs types xs
AllTaken structs types xs = ⊥

pub parameters_fit : (structs : List StructType) (params : List TypeTree) (xs : List Operand) → fits_parameters params xs ≡ true
    → AllTaken structs (map (computed_type structs) params) xs
parameters_fit structs [] [] h = tt
parameters_fit structs [] (x ∷ xs) h = absurd (suc_not_zero (length xs) h)
parameters_fit structs (p ∷ params) [] h = absurd (false≢true h)
parameters_fit structs (p ∷ params) (x ∷ xs) h =
    let parts : (is_assignable p x ≡ true) × (fits_parameters params xs ≡ true) = and_parts (is_assignable p x) (fits_parameters params xs) h in
    (assignable_taken structs p x parts.0, parameters_fit structs params xs parts.1)

called_by : (structs : List StructType) (f : FunctionType) (xs : List Operand) (z : Operand) (b : Bool) → fits_parameters f.params xs ≡ b
    → Is (if b then Ok (value_of f.gives) else Err fault.Arguments) z
    → AllTaken structs (map (computed_type structs) f.params) xs × (z.ctype ≡ f.gives)
called_by structs f xs z true e h = given (λ z. AllTaken structs (map (computed_type structs) f.params) xs × (z.ctype ≡ f.gives)) (value_of f.gives) z
    (parameters_fit structs f.params xs e, refl) h
called_by structs f xs z false e h = cc

-- a call of a function
pub called_fits : (structs : List StructType) (f : FunctionType) (xs : List Operand) (z : Operand) → Is (typed_call f xs) z
    → AllTaken structs (map (computed_type structs) f.params) xs × (z.ctype ≡ f.gives)
called_fits structs f xs z h = called_by structs f xs z (fits_parameters f.params xs) refl h

-- formats
string_takes : (structs : List StructType) (x : Operand) (null : Bool) → is_pointer (rule.value_type x) ≡ true
    → TakesOrNull (true && null) (Some (type.Pointer 1)) (known structs x.ctype)
string_takes structs x true h = tt
string_takes structs x false h = pointer_takes 1 (known structs x.ctype) (pointer_pointing structs x.ctype h)

same_back : (a : TypeTree) → same_type a (t.Pointer t.Char) ≡ true → is_pointer a ≡ true
same_back (t.Pointer to) h = refl
same_back a h = h

letter_takes : (structs : List StructType) (x : Operand) (p q : Bool) → (if p then same_type (rule.value_type x) (t.Pointer t.Char) else is_arithmetic
    (rule.value_type x)) ≡ true
    → TakesOrNull (mean.is_pointer_value (Some (if p then type.Pointer 1 else if q then type.Number kind.Unsigned else type.Number kind.Int)) && x.null)
    (Some (if p then type.Pointer 1 else if q then type.Number kind.Unsigned else type.Number kind.Int)) (known structs x.ctype)
letter_takes structs x true q h = string_takes structs x x.null (same_back (rule.value_type x) h)
letter_takes structs x false true h = number_takes kind.Unsigned (known structs x.ctype) (arithmetic_number structs x.ctype h)
letter_takes structs x false false h = number_takes kind.Int (known structs x.ctype) (arithmetic_number structs x.ctype h)

no_percent : (b : ℕ) → is_percent b ≡ true → is_conversion b ≡ false
no_percent b h = grind (arith, nat_tests, h)

none_taken : (structs : List StructType) (xs : List Operand) → are_none xs ≡ true → AllTaken structs [] xs
none_taken structs [] h = tt
none_taken structs (x ∷ xs) h = absurd (false≢true h)

one_taken : (structs : List StructType) (letter : ℕ) (xs : List Operand) (types : List ValueType) → first_converts letter xs ≡ true
    → AllTaken structs types (after_first xs)
    → AllTaken structs (type_taken letter ∷ types) xs
one_taken structs letter [] types h k = absurd (false≢true h)
one_taken structs letter (x ∷ xs) types h k = (letter_takes structs x (letter == 115) (letter == 117) h, k)

-- the last byte of a format
last_byte : (structs : List StructType) (b : ℕ) (xs : List Operand) (p : Bool) → (if p then fits_letter [] xs else fits_format [] xs) ≡ true
    → AllTaken structs [] xs
last_byte structs b xs true h = absurd (false≢true h)
last_byte structs b xs false h = none_taken structs xs h

-- a conversion, or `%%`
letter_fits : (structs : List StructType) (c : ℕ) (rest : List ℕ) (xs : List Operand) (p q : Bool) → is_percent c ≡ p → is_conversion c ≡ q
    → ((ys : List Operand) → fits_format rest ys ≡ true → AllTaken structs (types_taken (pieces_of rest)) ys)
    → (if p then fits_format rest xs else q && first_converts c xs && fits_format rest (after_first xs)) ≡ true
    → AllTaken structs (types_taken ((if q then Conversion c else Byte c) ∷ pieces_of rest)) xs
letter_fits structs c rest xs true true e f k h = absurd (true≢false (sym f ∙ no_percent c e))
letter_fits structs c rest xs true false e f k h = k xs h
letter_fits structs c rest xs false true e f k h =
    let parts : (first_converts c xs ≡ true) × (fits_format rest (after_first xs) ≡ true) =
    and_parts (first_converts c xs) (fits_format rest (after_first xs)) h in
    one_taken structs c xs (types_taken (pieces_of rest)) parts.0 (k (after_first xs) parts.1)
letter_fits structs c rest xs false false e f k h = absurd (false≢true h)

two_bytes : (structs : List StructType) (b c : ℕ) (rest : List ℕ) (xs : List Operand) (p : Bool)
    → ((ys : List Operand) → fits_format rest ys ≡ true → AllTaken structs (types_taken (pieces_of rest)) ys)
    → (fits_format (c ∷ rest) xs ≡ true → AllTaken structs (types_taken (pieces_of (c ∷ rest))) xs)
    → (if p then fits_letter (c ∷ rest) xs else fits_format (c ∷ rest) xs) ≡ true
    → AllTaken structs (types_taken (if p then (if is_conversion c then Conversion c else Byte c) ∷ pieces_of rest else Byte b ∷ pieces_of (c ∷ rest))) xs
two_bytes structs b c rest xs true k l h = letter_fits structs c rest xs (is_percent c) (is_conversion c) refl refl k h
two_bytes structs b c rest xs false k l h = l h

-- the arguments of `printf` are as its format takes them
pub format_fits : (structs : List StructType) (format : List ℕ) (xs : List Operand) → fits_format format xs ≡ true
    → AllTaken structs (types_taken (pieces_of format)) xs
format_fits structs [] xs h = none_taken structs xs h
format_fits structs (b ∷ []) xs h = last_byte structs b xs (is_percent b) h
format_fits structs (b ∷ c ∷ rest) xs h =
    two_bytes structs b c rest xs (is_percent b) (λ ys k. format_fits structs rest ys k) (λ k. format_fits structs (c ∷ rest) xs k) h
