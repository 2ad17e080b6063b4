-- Lines are cut into the fields that they were made of.
use Rattle.std.proofs.Common.{◌≡◌, ◌≢◌, ◌<◌, ◌^◌, ◌+◌, ◌%◌, ℕ, suc, ℤ, pos, negsuc, subst, Bool, true, ◌&&◌, List, [], ◌∷◌, ◌++◌, decimal, FitsSigned, ap, ◌∙◌, refl, arith}
use Rattle.std.specs.Fmt.{signed_decimal}
use Rattle.std.specs.Int.{w64}
use Rattle.std.specs.List.{list_all, AllByRecursion}
use Rattle.std.proofs.lemmas.Bool.Decides.{nat_tests}
use Rattle.std.proofs.lemmas.Bool.{false≢true, and_parts, not-true}
use Rattle.std.proofs.lemmas.Fmt.{decimal_by_steps}
use Rattle.cbi_base.specs.Text.{Lacks, IsField, is_field_byte, is_newline, is_space, fields_of, line_of_fields}
use Rattle.cbi_base.specs.Name.{IsName, is_name_byte}
use Rattle.cbi_base.proofs.TextLemmas.{split-lacks, split-at}

pub field-lacks-space : (field : List ℕ) → IsField field → Lacks is_space field
field-lacks-space [] h = tt
field-lacks-space (b ∷ bs) h =
    let parts = and_parts (is_field_byte b) (list_all is_field_byte bs) h in
    (not-true (is_space b) (and_parts _ _ parts.0).0, field-lacks-space bs parts.1)

pub field-lacks-newline : (field : List ℕ) → IsField field → Lacks is_newline field
field-lacks-newline [] h = tt
field-lacks-newline (b ∷ bs) h =
    let parts = and_parts (is_field_byte b) (list_all is_field_byte bs) h in
    (not-true (is_newline b) (and_parts _ _ parts.0).1, field-lacks-newline bs parts.1)

-- the fields of a line are those it was made of
pub fields_of-spaced : (field : List ℕ) (fields : List (List ℕ)) → IsField field → AllByRecursion IsField fields → fields_of (line_of_fields (field ∷ fields)) ≡ field ∷ fields
fields_of-spaced field [] is all = split-lacks is_space field (field-lacks-space field is)
fields_of-spaced field (next ∷ more) is all =
    split-at is_space field 32 (line_of_fields (next ∷ more)) (field-lacks-space field is) refl ∙ ap (λ fs. field ∷ fs) (fields_of-spaced next more all.0 all.1)

lacks-append : (p : ℕ → Bool) (a b : List ℕ) → Lacks p a → Lacks p b → Lacks p (a ++ b)
lacks-append p [] b la lb = lb
lacks-append p (x ∷ xs) b la lb = (la.0, lacks-append p xs b la.1 lb)

-- a line of fields has no newline
pub spaced-lacks-newline : (fields : List (List ℕ)) → AllByRecursion IsField fields → Lacks is_newline (line_of_fields fields)
spaced-lacks-newline [] all = tt
spaced-lacks-newline (field ∷ []) all = field-lacks-newline field all.0
spaced-lacks-newline (field ∷ next ∷ more) all =
    lacks-append is_newline field (32 ∷ line_of_fields (next ∷ more)) (field-lacks-newline field all.0) (refl, spaced-lacks-newline (next ∷ more) all.1)

field-byte : (b : ℕ) → b ≢ 32 → b ≢ 10 → is_field_byte b ≡ true
field-byte b space newline = grind (arith, nat_tests)

test-append : (p : ℕ → Bool) (a b : List ℕ) → list_all p a ≡ true → list_all p b ≡ true → list_all p (a ++ b) ≡ true
test-append p [] b ha hb = hb
test-append p (x ∷ xs) b ha hb =
    let parts = and_parts (p x) (list_all p xs) ha in rw (parts.0, test-append p xs b parts.1 hb) refl

-- what holds of each digit holds of each byte of a decimal
pub decimal-all : (p : ℕ → Bool) → ((d : ℕ) → d < 10 → p (48 + d) ≡ true) → (n : ℕ) → n < 2 ^ 64 → list_all p (decimal n) ≡ true
decimal-all p digit n h =
    decimal_by_steps (λ k ds. list_all p ds ≡ true) (λ d small. rw (digit d small) refl) (λ k ds ten is. test-append p ds ((48 + k % 10) ∷ []) is (rw (digit (k % 10) (omega arith)) refl)) n h

pub IsField-decimal : (n : ℕ) → n < 2 ^ 64 → IsField (decimal n)
IsField-decimal n h = decimal-all is_field_byte (λ d small. field-byte (48 + d) (omega arith) (omega arith)) n h

pub IsField-signed : (z : ℤ) → FitsSigned w64 z → IsField (signed_decimal z)
IsField-signed (pos n) h = IsField-decimal n (omega (arith, h.sfits))
IsField-signed (negsuc n) h = IsField-decimal (suc n) (omega (arith, h.sfits))

name-byte : (b : ℕ) → is_name_byte b ≡ true → is_field_byte b ≡ true
name-byte b h =
    field-byte b (λ is. false≢true (subst (λ k. is_name_byte k ≡ true) is h)) (λ is. false≢true (subst (λ k. is_name_byte k ≡ true) is h))

names-are : (name : List ℕ) → list_all is_name_byte name ≡ true → IsField name
names-are [] h = refl
names-are (b ∷ bs) h =
    let parts = and_parts (is_name_byte b) (list_all is_name_byte bs) h in
    let rest : list_all is_field_byte bs ≡ true = names-are bs parts.1 in
    rw (name-byte b parts.0, rest) refl

pub IsField-name : (name : List ℕ) → IsName name → IsField name
IsField-name name h = names-are name h.runs
