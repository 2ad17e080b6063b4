-- Which fields need no quotes, and the line of fields that need none.
use Rattle.std.proofs.Common.{◌≡◌, ◌≢◌, ℕ, suc, ℤ, pos, negsuc, ◌+◌, ◌-◌, ◌<◌, ◌^◌, Bool, true, false, not, ◌&&◌, ◌||◌, ◌==◌, cond, List, [], ◌∷◌, ◌++◌, Option, None, Some, decimal, FitsSigned, refl, ap, subst, ◌∙◌, arith}
use Rattle.std.specs.Prelude.{nat_lt}
use Rattle.std.specs.Fmt.{signed_decimal}
use Rattle.std.specs.Int.{w64}
use Rattle.std.specs.List.{join_with_byte, list_all}
use Rattle.std.proofs.lemmas.Bool.{and_from, and_parts, cond-false, false≢true}
use Rattle.std.proofs.lemmas.Bool.Decides.{nat_tests}
use Rattle.std.proofs.lemmas.List.{append-nil}
use Rattle.std.proofs.lemmas.List.Folds.{list_all-append}
use Rattle.std.proofs.lemmas.Option.{same_Some}
use Rattle.csv.specs.Quoting.{needs_byte}
use Rattle.csv.specs.Writing.{default_writer, field_text, fields_text, is_blank, needs_quotes, quoted, row_text}
use Rattle.cbi_base.specs.Words.{IsName, is_name_byte, line_with_newline, line_of_fields}
use Rattle.cbi_base.proofs.FieldLemmas.{decimal-all}
use Rattle.flow.specs.declared.site.Site.{Site}
use Rattle.flow.specs.declared.site.SiteKind.{SiteKind}
use Rattle.flow.specs.declared.site.SiteKind.TheVariants.{Branch, Return, Pair}
use Rattle.flow.specs.Predicates.{predicate_text, predicates_of, site_at, text_of_kind}
use Rattle.ranking.specs.Plain.{ArePlainFields, IsPlainField, is_plain}
use Rattle.ranking.specs.Ranking.{scheme_word}

plain-byte : (b : ℕ) → b ≢ 44 → b ≢ 34 → b ≢ 13 → b ≢ 10 → is_plain b ≡ true
plain-byte b comma quote return_byte newline = grind (arith, nat_tests)

pub decimal-plain : (n : ℕ) → n < 2 ^ 64 → IsPlainField (decimal n)
decimal-plain n h = decimal-all is_plain (λ d small. plain-byte (48 + d) (omega arith) (omega arith) (omega arith) (omega arith)) n h

pub signed-plain : (z : ℤ) → FitsSigned w64 z → IsPlainField (signed_decimal z)
signed-plain (pos n) h = decimal-plain n (omega (arith, h.sfits))
signed-plain (negsuc n) h = decimal-plain (suc n) (omega (arith, h.sfits))

name-byte : (b : ℕ) → is_name_byte b ≡ true → is_plain b ≡ true
name-byte b h =
    plain-byte b (λ is. false≢true (subst (λ k. is_name_byte k ≡ true) is h)) (λ is. false≢true (subst (λ k. is_name_byte k ≡ true) is h)) (λ is. false≢true (subst (λ k. is_name_byte k ≡ true) is h)) (λ is. false≢true (subst (λ k. is_name_byte k ≡ true) is h))

bytes-plain : (name : List ℕ) → list_all is_name_byte name ≡ true → IsPlainField name
bytes-plain [] h = refl
bytes-plain (b ∷ more) h =
    let parts = and_parts (is_name_byte b) (list_all is_name_byte more) h in
    and_from (is_plain b) (list_all is_plain more) (name-byte b parts.0) (bytes-plain more parts.1)

pub name-plain : (name : List ℕ) → IsName name → IsPlainField name
name-plain name is = bytes-plain name is.runs

plain-append : (a b : List ℕ) → IsPlainField a → IsPlainField b → IsPlainField (a ++ b)
plain-append a b pa pb = list_all-append is_plain a b ∙ and_from (list_all is_plain a) (list_all is_plain b) pa pb

pub spaced-plain : (fields : List (List ℕ)) → ArePlainFields fields → IsPlainField (line_of_fields fields)
spaced-plain [] are = refl
spaced-plain (f ∷ []) are = are.0
spaced-plain (f ∷ g ∷ more) are = plain-append f (32 ∷ line_of_fields (g ∷ more)) are.0 (spaced-plain (g ∷ more) are.1)

pub scheme-plain : (kind : SiteKind) → IsPlainField (scheme_word kind)
scheme-plain (Branch word) = refl
scheme-plain (Return callee) = refl
scheme-plain (Pair target slot partner) = refl

no-site : (site : Site) → ◌≡◌ {A = Option Site} None (Some site) → ⊥
no-site site is = absurd cc

text-by : (s : Site) (sites : List Site) (predicate : ℕ) (site : Site) (here : Bool) → cond here (Some s) (site_at sites (predicate - predicates_of s.kind)) ≡ Some site
    → (site_at sites (predicate - predicates_of s.kind) ≡ Some site → (n : ℕ) × (predicate_text sites (predicate - predicates_of s.kind) ≡ text_of_kind site.kind n))
    → (n : ℕ) × (cond here (text_of_kind s.kind predicate) (predicate_text sites (predicate - predicates_of s.kind)) ≡ text_of_kind site.kind n)
text-by s sites predicate site true is later = (predicate, ap (λ (x : Site). text_of_kind x.kind predicate) (same_Some s site is))
text-by s sites predicate site false is later = later is

-- the text of a predicate is one of its site's
pub text-of-site : (sites : List Site) (predicate : ℕ) (site : Site) → site_at sites predicate ≡ Some site → (n : ℕ) × (predicate_text sites predicate ≡ text_of_kind site.kind n)
text-of-site [] predicate site is = absurd (no-site site is)
text-of-site (s ∷ sites) predicate site is = text-by s sites predicate site (nat_lt predicate (predicates_of s.kind)) is (text-of-site sites (predicate - predicates_of s.kind) site)

pub are-plain-append : (xs ys : List (List ℕ)) → ArePlainFields xs → ArePlainFields ys → ArePlainFields (xs ++ ys)
are-plain-append [] ys a b = b
are-plain-append (x ∷ xs) ys a b = (a.0, are-plain-append xs ys a.1 b)

-- such fields stand in a line as they are
byte-free-by : (x y z w : Bool) → (not x && not y && not z && not w) ≡ true → (x || y || (z || w) || false || false) ≡ false
byte-free-by false false false false h = refl
byte-free-by false false false true h = absurd (false≢true h)
byte-free-by true y z w h = absurd (false≢true h)
byte-free-by false true z w h = absurd (false≢true h)
byte-free-by false false true w h = absurd (false≢true h)

byte-free : (b : ℕ) → is_plain b ≡ true → needs_byte default_writer b ≡ false
byte-free b h = byte-free-by (b == 44) (b == 34) (b == 13) (b == 10) h

needs-none : (field : List ℕ) → IsPlainField field → needs_quotes default_writer field ≡ false
needs-none [] h = refl
needs-none (b ∷ more) h =
    let parts = and_parts (is_plain b) (list_all is_plain more) h in
    ap (λ t. t || needs_quotes default_writer more) (byte-free b parts.0) ∙ needs-none more parts.1

field-plain : (field : List ℕ) → IsPlainField field → field_text default_writer field ≡ field
field-plain field h = cond-false (needs_quotes default_writer field) (quoted default_writer field) field (needs-none field h)

joined : (f : List ℕ) (rest : List (List ℕ)) → ArePlainFields rest → f ++ fields_text default_writer rest ≡ join_with_byte 44 (f ∷ rest)
unfolding fields_text
joined f [] are = append-nil f
joined f (g ∷ more) are = ap (λ t. f ++ (44 ∷ (t ++ fields_text default_writer more))) (field-plain g are.0) ∙ ap (λ t. f ++ (44 ∷ t)) (joined g more are.1)

pub row-line : (a b : List ℕ) (more : List (List ℕ)) → ArePlainFields (a ∷ b ∷ more) → row_text default_writer (a ∷ b ∷ more) ≡ line_with_newline (join_with_byte 44 (a ∷ b ∷ more))
unfolding is_blank
row-line a b more are =
    ap (λ t. (t ++ fields_text default_writer (b ∷ more)) ++ 10 ∷ []) (field-plain a are.0) ∙ ap (λ t. t ++ 10 ∷ []) (joined a (b ∷ more) are.1)
