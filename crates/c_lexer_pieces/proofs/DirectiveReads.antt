-- A line that is a directive is read as one.
use Rattle.std.proofs.Common.{◌≡◌, ◌+◌, ◌≤◌, ◌<◌, ℕ, zero, suc, length, true, false, cond, ◌||◌, leb, leb-true, le-leb, lit≤, List, [], ◌∷◌, ◌++◌, take, Some, None, option_and_then, is_some, refl, ap, sym, ◌∙◌, ⊎_elim, arith, length-append}
use Rattle.std.specs.Prelude.{codes}
use Rattle.std.specs.Str.{bytes_eq}
use Rattle.std.specs.Option.{option_map_or}
use Rattle.std.proofs.lemmas.Slice.Eq.{bytes_eq-Decides}
use Rattle.std.proofs.Math.Seq.{take-append_seam, drop-append_seam}
use Rattle.std.specs.List.{list_all}
use Rattle.std.proofs.lemmas.Bool.Decides.{nat_tests}
use Rattle.std.proofs.lemmas.Bool.{and_parts, ne_eqb}
use Rattle.cbi_base.specs.Name.{IsName, is_letter, is_name_byte, begins_name}
use Rattle.c_lexer_pieces.specs.declared.constants.Radix.{Radix}
use Rattle.c_lexer_pieces.specs.declared.constants.Radix.TheVariants as radix
use Rattle.c_syntax.specs.declared.parts.Constant.{Constant}
use Rattle.c_lexer_pieces.specs.declared.bytes.Class.TheVariants as class
use Rattle.c_lexer_pieces.specs.Bytes.{is_of_class, run_of_class, bytes_past_run, begins_with_byte, begins_with}
use Rattle.c_lexer_pieces.specs.Spellings.{word_of}
use Rattle.c_lexer_pieces.specs.Reading.{strip_byte, strip_text, blanks_at, constant_at, number_at, character_at, name_at, trailing_at, trails_within, is_directive_end, header_at, header_line, is_include, defined_name_at, define_in}
use Rattle.c_lexer_pieces.specs.Values.{class_of}
use Rattle.c_lexer_pieces.specs.Pieces.{AllOf, RunEnds, IsComment, line, block, Spells, IsNumber, IsCharacter, IsConstant, IsTrailing, blank, return, comment, Trails, EndsLine, IsHeader, standard_io, standard_library, assert, IsInclude, IsDefine}
use Rattle.c_lexer_pieces.proofs.RunLaws.{run-append, past-append, all_of_first}
use Rattle.c_lexer_pieces.proofs.CommentLaws.{comment-append}
use Rattle.c_lexer_pieces.proofs.ReadLaws.{octal_range, number-read, character-read}

strip_text-read : (front rest : List ℕ) → strip_text front (front ++ rest) ≡ Some rest
strip_text-read front rest =
    let same : bytes_eq front (take (length front) (front ++ rest)) ≡ true = (bytes_eq-Decides front (take (length front) (front ++ rest))).1 (sym (take-append_seam front rest)) in
    rw same (ap Some (drop-append_seam front rest))

-- a comment is no blank
comment-plain : (front more : List ℕ) → IsComment front more → (begins_with class.Blank (front ++ more) || begins_with_byte 13 (front ++ more)) ≡ false
unfolding is_of_class
comment-plain front more (line body is all stops) = rw is refl
comment-plain front more (block body is close) = rw is refl

blank-read : (b : ℕ) (more : List ℕ) → is_of_class class.Blank b ≡ true → trailing_at (b ∷ more) ≡ Some more
unfolding trailing_at
blank-read b more h = rw h refl

return-read : (more : List ℕ) → trailing_at (13 ∷ more) ≡ Some more
unfolding trailing_at is_of_class
return-read more = refl

comment_part-read : (front more : List ℕ) → IsComment front more → trailing_at (front ++ more) ≡ Some more
unfolding trailing_at
comment_part-read front more c = rw (comment-plain front more c) (comment-append front more c)

trailing-read : (front more : List ℕ) → IsTrailing front more → trailing_at (front ++ more) ≡ Some more
trailing-read front more (blank b is h) = rw is (blank-read b more h)
trailing-read front more (return is) = rw is (return-read more)
trailing-read front more (comment c) = comment_part-read front more c

pub comment-some : (front more : List ℕ) → IsComment front more → 0 < length front
comment-some front more (line body is all stops) = omega (arith, ap length is)
comment-some front more (block body is close) = omega (arith, ap length is)

trailing-some : (front more : List ℕ) → IsTrailing front more → 0 < length front
trailing-some front more (blank b is h) = omega (arith, ap length is)
trailing-some front more (return is) = omega (arith, ap length is)
trailing-some front more (comment c) = comment-some front more c

parts-count : (n : ℕ) (bytes : List ℕ) → Trails n bytes → n ≤ length bytes
parts-count zero bytes h = omega arith
parts-count (suc n) bytes h = omega (arith, ap length h.2, length-append h.0 h.1, trailing-some h.0 h.1 h.3, parts-count n h.1 h.4)

trails-step : (n : ℕ) (bytes rest : List ℕ) → 0 < length bytes → trailing_at bytes ≡ Some rest → trails_within (suc n) bytes ≡ trails_within n rest
trails-step n [] rest some h = absurd (omega arith)
trails-step n (b ∷ bs) rest some h = rw h refl

trails_within-read : (m n : ℕ) (bytes : List ℕ) → Trails n bytes → n < m → trails_within m bytes ≡ true
trails_within-read zero n bytes h less = absurd (omega arith)
trails_within-read (suc m) zero bytes h less = rw h refl
trails_within-read (suc m) (suc n) bytes h less =
    let read : trailing_at bytes ≡ Some h.1 = ap trailing_at h.2 ∙ trailing-read h.0 h.1 h.3 in
    trails-step m bytes h.1 (omega (arith, ap length h.2, length-append h.0 h.1, trailing-some h.0 h.1 h.3)) read ∙ trails_within-read m n h.1 h.4 (omega arith)

trails-read : (bytes : List ℕ) → EndsLine bytes → is_directive_end bytes ≡ true
unfolding is_directive_end
trails-read bytes h = trails_within-read (length bytes + 1) h.0 bytes h.1 (omega (arith, parts-count h.0 bytes h.1))

header-read : (header rest : List ℕ) → IsHeader header → header_at (header ++ rest) ≡ Some rest
header-read header rest (standard_io is) = rw is refl
header-read header rest (standard_library is) = rw is refl
header-read header rest (assert is) = rw is refl

header-begins : (header rest : List ℕ) → IsHeader header → RunEnds class.Blank (header ++ rest)
unfolding is_of_class
header-begins header rest (standard_io is) = rw is refl
header-begins header rest (standard_library is) = rw is refl
header-begins header rest (assert is) = rw is refl

word-begins : (rest : List ℕ) → RunEnds class.Blank (codes "include" ++ rest) × RunEnds class.Blank (codes "define" ++ rest)
unfolding is_of_class
word-begins rest = (refl, refl)

-- what is behind the `#` and blanks
pub record Opened (row text : List ℕ) : Type 0 where
  pub rest : List ℕ
  pub opens : strip_byte 35 row ≡ Some rest
  pub is : bytes_past_run class.Blank rest ≡ text

opened : (row blanks text : List ℕ) → row ≡ 35 ∷ blanks ++ text → AllOf class.Blank blanks → RunEnds class.Blank text → Opened row text
opened row blanks text is all stops = record { rest = blanks ++ text; opens = ap (strip_byte 35) is; is = past-append class.Blank blanks text all stops }

pub record IncludeRead (row : List ℕ) : Type 0 where
  pub text : List ℕ
  pub begun : Opened row text
  pub include : is_include text ≡ true

pub include-read : (row : List ℕ) → IsInclude row → IncludeRead row
unfolding is_include
include-read row h =
    let tail = h.header ++ h.end in
    let spelled = h.before_header ++ tail in
    let text = codes "include" ++ spelled in
    let blanks : bytes_past_run class.Blank spelled ≡ tail = past-append class.Blank h.before_header tail h.more_blanks (header-begins h.header h.end h.is_header) in
    let header : header_line text ≡ Some h.end = ap (λ o. option_and_then (λ rest. header_at (bytes_past_run class.Blank rest)) o) (strip_text-read (codes "include") spelled) ∙ ap header_at blanks ∙ header-read h.header h.end h.is_header in
    record {
      text = text;
      begun = opened row h.before_word text h.is h.blanks (word-begins spelled).0;
      include = ap (λ o. option_map_or is_directive_end o false) header ∙ trails-read h.end h.ends;
    }

-- A constant's first byte

pub record FirstDigit (bytes : List ℕ) : Type 0 where
  pub digit : ℕ
  pub others : List ℕ
  pub is : bytes ≡ digit ∷ others
  pub low : 48 ≤ digit
  pub high : digit ≤ 57

digit_range : (d : ℕ) → is_of_class class.Decimal d ≡ true → (48 ≤ d) × (d ≤ 57)
unfolding is_of_class
digit_range d h = let tests = and_parts (leb 48 d) (leb d 57) h in (leb-true 48 d tests.0, leb-true d 57 tests.1)

octal_first : (bytes digits suffix : List ℕ) → bytes ≡ digits ++ suffix → 0 < length digits → AllOf class.Octal digits → FirstDigit bytes
octal_first bytes [] suffix is some all = absurd (omega arith)
octal_first bytes (d ∷ ds) suffix is some all =
    let range = octal_range d (all_of_first class.Octal d ds all).0 in
    record { digit = d; others = ds ++ suffix; is = is; low = range.0; high = omega (arith, range.1) }

decimal_first : (bytes digits suffix : List ℕ) → bytes ≡ digits ++ suffix → 0 < length digits → AllOf class.Decimal digits → FirstDigit bytes
decimal_first bytes [] suffix is some all = absurd (omega arith)
decimal_first bytes (d ∷ ds) suffix is some all =
    let range = digit_range d (all_of_first class.Decimal d ds all).0 in
    record { digit = d; others = ds ++ suffix; is = is; low = range.0; high = range.1 }

first_of_spelled : (r : Radix) (bytes spelled digits suffix : List ℕ) → bytes ≡ spelled ++ suffix → Spells r spelled digits → 0 < length digits → AllOf (class_of r) digits → FirstDigit bytes
first_of_spelled radix.Octal bytes spelled digits suffix is spells some all = octal_first bytes digits suffix (is ∙ ap (λ xs. xs ++ suffix) spells.0) some all
first_of_spelled radix.Decimal bytes spelled digits suffix is spells some all = decimal_first bytes digits suffix (is ∙ ap (λ xs. xs ++ suffix) spells.0) some all
first_of_spelled radix.Hexadecimal bytes spelled digits suffix is spells some all =
    ⊎_elim
    (λ (w : spelled ≡ 48 ∷ 120 ∷ digits). record { digit = 48; others = 120 ∷ digits ++ suffix; is = is ∙ ap (λ xs. xs ++ suffix) w; low = omega arith; high = omega arith })
    (λ (w : spelled ≡ 48 ∷ 88 ∷ digits). record { digit = 48; others = 88 ∷ digits ++ suffix; is = is ∙ ap (λ xs. xs ++ suffix) w; low = omega arith; high = omega arith })
    spells

pub number-first : (bytes after : List ℕ) (constant : Constant) → IsNumber bytes after constant → FirstDigit bytes
number-first bytes after constant h = first_of_spelled h.radix bytes h.spelled h.digits h.suffix h.is h.spells h.has_digit h.all_digits

no_blank : (b : ℕ) → 33 ≤ b → is_of_class class.Blank b ≡ false
unfolding is_of_class
no_blank b h = rw (ne_eqb b 32 (λ e. omega arith), ne_eqb b 9 (λ e. omega arith)) refl

number_at-constant : (d : ℕ) (rest : List ℕ) → 48 ≤ d → constant_at (d ∷ rest) ≡ number_at (d ∷ rest)
number_at-constant d rest h = rw (ne_eqb d 39 (λ e. omega arith)) refl

constant_number-read : (spelled end : List ℕ) (c : Constant) (f : FirstDigit spelled) → IsNumber spelled end c → constant_at (spelled ++ end) ≡ Some (c, end)
constant_number-read spelled end c f h =
    ap (λ xs. constant_at (xs ++ end)) f.is ∙ number_at-constant f.digit (f.others ++ end) f.low ∙ ap (λ xs. number_at (xs ++ end)) (sym f.is) ∙ number-read spelled end c h

constant-read : (spelled end : List ℕ) (c : Constant) → IsConstant spelled end c → constant_at (spelled ++ end) ≡ Some (c, end)
constant-read spelled end c h =
    ⊎_elim
    (λ (w : IsNumber spelled end c). constant_number-read spelled end c (number-first spelled end c w) w)
    (λ (w : IsCharacter spelled end c).
    let quoted : constant_at (spelled ++ end) ≡ character_at (spelled ++ end) = rw w.is refl in
    quoted ∙ character-read spelled end c w)
    h

constant-begins : (spelled end : List ℕ) (c : Constant) → IsConstant spelled end c → RunEnds class.Blank (spelled ++ end)
constant-begins spelled end c h =
    ⊎_elim
    (λ (w : IsNumber spelled end c). let f = number-first spelled end c w in rw f.is (no_blank f.digit (omega (arith, f.low))))
    (λ (w : IsCharacter spelled end c). rw w.is (no_blank 39 (lit≤ tt)))
    h

pub letter_high : (b : ℕ) → is_letter b ≡ true → 65 ≤ b
letter_high b h = grind (arith, nat_tests)

pub record FirstLetter (bytes : List ℕ) : Type 0 where
  pub letter : ℕ
  pub others : List ℕ
  pub is : bytes ≡ letter ∷ others
  pub is_letter : is_letter letter ≡ true

first_letter : (bytes : List ℕ) → begins_name bytes ≡ true → FirstLetter bytes
first_letter [] h = cc
first_letter (b ∷ bs) h = record { letter = b; others = bs; is = refl; is_letter = h }

pub name-first : (bytes : List ℕ) → IsName bytes → FirstLetter bytes
name-first bytes h = first_letter bytes h.begins

name-begins : (name rest : List ℕ) → IsName name → RunEnds class.Blank (name ++ rest)
name-begins name rest h = let f = name-first name h in rw f.is (no_blank f.letter (omega (arith, letter_high f.letter f.is_letter)))

all_in_name : (bytes : List ℕ) → list_all is_name_byte bytes ≡ true → AllOf class.Name bytes
unfolding is_of_class
all_in_name bytes h = h

pub name-read : (name after : List ℕ) → IsName name → RunEnds class.Name after → name_at (name ++ after) ≡ Some (name, after)
unfolding name_at
name-read name after h stops =
    let all = all_in_name name h.runs in
    let begun : begins_name (name ++ after) ≡ true = let f = name-first name h in rw f.is f.is_letter in
    let short : leb (length name) 63 ≡ true = le-leb (length name) 63 h.short in
    let name_is : run_of_class class.Name (name ++ after) ≡ name = run-append class.Name name after all stops in
    let rest_is : bytes_past_run class.Name (name ++ after) ≡ after = past-append class.Name name after all stops in
    rw (begun, name_is, rest_is, short) refl

blank_no_name : (b : ℕ) → is_of_class class.Blank b ≡ true → is_of_class class.Name b ≡ false
unfolding is_of_class
blank_no_name b h = grind (arith, nat_tests)

-- at least one blank
blanks-read : (blanks rest : List ℕ) → 0 < length blanks → AllOf class.Blank blanks → RunEnds class.Blank rest → blanks_at (blanks ++ rest) ≡ Some rest
blanks-read [] rest some all stops = absurd (omega arith)
blanks-read (b ∷ bs) rest some all stops =
    let first = (all_of_first class.Blank b bs all).0 in
    let rest_is : bytes_past_run class.Blank ((b ∷ bs) ++ rest) ≡ rest = past-append class.Blank (b ∷ bs) rest all stops in
    rw first (ap Some (sym (rw first refl) ∙ rest_is))

blanks-stop : (blanks rest : List ℕ) → 0 < length blanks → AllOf class.Blank blanks → RunEnds class.Name (blanks ++ rest)
blanks-stop [] rest some all = absurd (omega arith)
blanks-stop (b ∷ bs) rest some all = blank_no_name b (all_of_first class.Blank b bs all).0

pub record DefineRead (row name : List ℕ) (constant : Constant) : Type 0 where
  pub text : List ℕ
  pub begun : Opened row text
  pub no_include : is_include text ≡ false
  pub define : define_in text ≡ Some (name, constant)

no_include : (rest : List ℕ) → is_include (codes "define" ++ rest) ≡ false
unfolding is_include
no_include rest = refl

defined_name-steps : (text a b : List ℕ) (n : List ℕ × List ℕ) → strip_text (codes "define") text ≡ Some a → blanks_at a ≡ Some b → name_at b ≡ Some n → word_of n.0 ≡ None → defined_name_at text ≡ Some n
unfolding defined_name_at
defined_name-steps text a b n word blanks named no_word =
    ap (λ o. option_and_then (λ rest. option_and_then (λ spelled. option_and_then (λ n. cond (is_some (word_of n.0)) None (Some n)) (name_at spelled)) (blanks_at rest)) o) word ∙ rw (blanks, named, no_word) refl

define-steps : (text a b c : List ℕ) (name : List ℕ) (constant : Constant) → defined_name_at text ≡ Some (name, a) → blanks_at a ≡ Some b → constant_at b ≡ Some (constant, c) → is_directive_end c ≡ true → define_in text ≡ Some (name, constant)
unfolding define_in
define-steps text a b c name constant named blanks constant_is ends =
    ap (λ o. option_and_then (λ n. option_and_then (λ spelled. option_and_then (λ c. cond (is_directive_end c.1) (Some (n.0, c.0)) None) (constant_at spelled)) (blanks_at n.1)) o) named ∙ rw (blanks, constant_is, ends) refl

pub define-read : (row name : List ℕ) (constant : Constant) → IsDefine row name constant → DefineRead row name constant
define-read row name constant h =
    let tail = h.spelled ++ h.end in
    let after_name = h.before_constant ++ tail in
    let named = name ++ after_name in
    let spelled = h.before_name ++ named in
    let text = codes "define" ++ spelled in
    let word : strip_text (codes "define") text ≡ Some spelled = strip_text-read (codes "define") spelled in
    let before_name : blanks_at spelled ≡ Some named = blanks-read h.before_name named h.some_blanks.1 h.some_blanks.0 (name-begins name after_name h.is_name) in
    let name_read : name_at named ≡ Some (name, after_name) = name-read name after_name h.is_name (blanks-stop h.before_constant tail h.more_blanks.1 h.more_blanks.0) in
    let before_constant : blanks_at after_name ≡ Some tail = blanks-read h.before_constant tail h.more_blanks.1 h.more_blanks.0 (constant-begins h.spelled h.end constant h.is_constant) in
    let constant_read : constant_at tail ≡ Some (constant, h.end) = constant-read h.spelled h.end constant h.is_constant in
    let name_is : defined_name_at text ≡ Some (name, after_name) = defined_name-steps text spelled named (name, after_name) word before_name name_read h.no_word in
    record {
      text = text;
      begun = opened row h.before_word text h.is h.blanks (word-begins spelled).1;
      no_include = no_include spelled;
      define = define-steps text after_name tail h.end name constant name_is before_constant constant_read (trails-read h.end h.ends);
    }
