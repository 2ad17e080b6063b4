-- The string of a `printf` has as many conversions as the call takes arguments.
use Rattle.std.proofs.Common.{◌≡◌, ℕ, suc, ◌+◌, refl, ap, sym, subst, ◌∙◌, arith, List, [], ◌∷◌, Some, None, Bool, true, false, length}
use Rattle.std.specs.Prelude.{◌&&◌, if◌then◌else◌, IfSome, IsSome, IsTrue, Option, slice_get}
use Rattle.std.specs.Option.{option_and_then, option_map}
use Rattle.std.proofs.lemmas.Bool.{and_parts, false≢true}
use Rattle.std.proofs.lemmas.Bool.Decides.{nat_tests}
use Rattle.std.proofs.lemmas.Option.{same_Some, slice_get-map}
use Rattle.cbi_base.specs.Words.{Byte, Conversion, pieces_of, conversions_of, is_conversion, is_percent, one_conversion_more}
use Rattle.c_syntax.specs.ExprTree as e
use Rattle.c_syntax.specs.ExprTree.{ExprTree}
use Rattle.c_types_rules.specs.declared.operand.Operand.{Operand}
use Rattle.c_types_rules.specs.Library.{after_first, are_none, first_converts, fits_format}
use Rattle.flow.specs.declared.program.Text.{Text}
use Rattle.flow.specs.declared.scope.Names.{Names}
use Rattle.flow.specs.Nodes.{is_format}
use Rattle.c_meaning.specs.Words.{types_taken, Facts, text_of_string}
use Rattle.lower_relation.specs.Expressions.{number_of_text}
use Rattle.lower_fits.specs.Fitting.{TextsNamed}

-- one conversion more takes one argument more
more_taken : (counted : Option ℕ) (c n : ℕ) → ((k : ℕ) → counted ≡ Some k → k ≡ n) → one_conversion_more counted ≡ Some c → c ≡ suc n
more_taken None c n h e = cc
more_taken (Some k) c n h e = let same : k ≡ n = h k refl in let more : k + 1 ≡ c = same_Some (k + 1) c e in omega arith

-- so many arguments are taken by a format with so many conversions
abbrev Taken : List ℕ → Type 0
Taken bytes = (c : ℕ) → conversions_of bytes ≡ Some c → c ≡ length (types_taken (pieces_of bytes))

-- a last byte takes none
last_taken : (percent : Bool) (c : ℕ) → (if percent then None else Some 0) ≡ Some c → c ≡ 0
last_taken true c e = cc
last_taken false c e = cc

-- two bytes, by whether they are a conversion, a `%`, or any others
two_taken : (percent converts doubled : Bool) (b d : ℕ) (rest : List ℕ) (c : ℕ) → Taken rest → Taken (d ∷ rest)
    → (if percent then if converts then one_conversion_more (conversions_of rest) else if doubled then conversions_of rest else None else conversions_of (d ∷ rest)) ≡ Some c
    → c ≡ length (types_taken (if percent then (if converts then Conversion d else Byte d) ∷ pieces_of rest else Byte b ∷ pieces_of (d ∷ rest)))
two_taken true true doubled b d rest c after behind e = more_taken (conversions_of rest) c (length (types_taken (pieces_of rest))) after e
two_taken true false true b d rest c after behind e = after c e
two_taken true false false b d rest c after behind e = cc
two_taken false converts doubled b d rest c after behind e = behind c e

-- a format has as many conversions as arguments are taken
as_many_taken : (bytes : List ℕ) → Taken bytes
as_many_taken [] c e = cc
as_many_taken (b ∷ []) c e = last_taken (is_percent b) c e
as_many_taken (b ∷ d ∷ rest) c e =
    two_taken (is_percent b) (is_conversion d) (is_percent d) b d rest c (as_many_taken rest) (as_many_taken (d ∷ rest)) e

-- what the rules take as a format, whatever its arguments are, has a number of conversions
abbrev Counted : List ℕ → Type 0
Counted bytes = (xs : List Operand) → fits_format bytes xs ≡ true → IsSome (conversions_of bytes)

-- a last byte is no `%`
last_counted : (percent : Bool) (xs : List Operand) → (if percent then false else are_none xs) ≡ true → IsSome {T = ℕ} (if percent then None else Some 0)
last_counted true xs h = absurd (false≢true h)
last_counted false xs h = refl

-- one more is a number too
more_counted : (counted : Option ℕ) → IsSome counted → IsSome (one_conversion_more counted)
more_counted None h = h
more_counted (Some n) h = refl

-- two bytes, by whether they are a conversion, a `%`, or any others
two_counted : (percent converts doubled : Bool) (d : ℕ) (rest : List ℕ) (xs : List Operand) → Counted rest → Counted (d ∷ rest)
    → (if percent then if doubled then fits_format rest xs else converts && first_converts d xs && fits_format rest (after_first xs) else fits_format (d ∷ rest) xs) ≡ true
    → IsSome (if percent then if converts then one_conversion_more (conversions_of rest) else if doubled then conversions_of rest else None else conversions_of (d ∷ rest))
two_counted true true true d rest xs after behind h = more_counted (conversions_of rest) (after xs h)
two_counted true true false d rest xs after behind h =
    let fits : fits_format rest (after_first xs) ≡ true = (and_parts (true && first_converts d xs) (fits_format rest (after_first xs)) h).1 in
    more_counted (conversions_of rest) (after (after_first xs) fits)
two_counted true false true d rest xs after behind h = after xs h
two_counted true false false d rest xs after behind h = absurd (false≢true h)
two_counted false converts doubled d rest xs after behind h = behind xs h

-- a format that the rules take has a number of conversions
pub format_counted : (bytes : List ℕ) → Counted bytes
format_counted [] xs h = refl
format_counted (b ∷ []) xs h = last_counted (is_percent b) xs h
format_counted (b ∷ d ∷ rest) xs h =
    two_counted (is_percent b) (is_conversion d) (is_percent d) d rest xs (format_counted rest) (format_counted (d ∷ rest)) h

-- the number of conversions, where there is one
number_of : (o : Option ℕ) → IsSome o → (c : ℕ) × (o ≡ Some c)
number_of None h = cc
number_of (Some c) h = (c, refl)

-- it is as wanted
format_is : (o : Option (Option ℕ)) (c n : ℕ) → o ≡ Some (Some c) → c ≡ n → IsTrue (is_format o n)
format_is o c n e same = subst (λ (x : Option (Option ℕ)). IsTrue (is_format x n)) (sym e) (grind (arith, nat_tests))

-- the string with this number
text_lies : (texts : List Text) (o : Option ℕ) (k : ℕ) (t : Text) → o ≡ Some k → option_and_then (slice_get texts) o ≡ Some t → slice_get texts k ≡ Some t
text_lies texts o k t e h = subst (λ (x : Option ℕ). option_and_then (slice_get texts) x ≡ Some t) e h

-- what holds of whatever is there holds of what is there
if_some : {A : Type 0} (P : A → Type 0) (o : Option A) (a : A) → o ≡ Some a → IfSome o P → P a
if_some P o a e h = subst (λ found. IfSome found P) e h

module _ (names : Names) (facts : Facts) (named : TextsNamed facts names) where
  -- the string of a text with this number is a format, with a conversion for each argument that it takes
  format_named : (k : ℕ) (t : Text) → slice_get facts.statics.texts k ≡ Some t → IsSome (conversions_of t.bytes) →
      IsTrue (is_format (slice_get names.conversions k) (length (types_taken (pieces_of t.bytes))))
  format_named k t e h =
      let conversions = number_of (conversions_of t.bytes) h in
      let stands : slice_get names.conversions k ≡ Some (conversions_of t.bytes) =
      ap (λ all. slice_get all k) named ∙ slice_get-map (λ (t : Text). conversions_of t.bytes) facts.statics.texts k
      ∙ ap (λ found. option_map (λ (t : Text). conversions_of t.bytes) found) e in
      format_is (slice_get names.conversions k) conversions.0 (length (types_taken (pieces_of t.bytes)))
      (stands ∙ ap (λ count. Some count) conversions.1) (as_many_taken t.bytes conversions.0 conversions.1)

  -- the first argument of a `printf`, where it is a format
  pub format_first : (y : ExprTree) → IfSome (text_of_string facts y) (λ t. IsSome (conversions_of t.bytes)) → (k : ℕ) (t : Text) → number_of_text facts y ≡ Some k →
      text_of_string facts y ≡ Some t → IsTrue (is_format (slice_get names.conversions k) (length (types_taken (pieces_of t.bytes))))
  format_first (e.Strings token parts) h k t number text =
      format_named k t (text_lies facts.statics.texts (facts.text_at token) k t number text)
      (if_some (λ t. IsSome (conversions_of t.bytes)) (text_of_string facts (e.Strings token parts)) t text h)
  format_first y h k t number text = cc
