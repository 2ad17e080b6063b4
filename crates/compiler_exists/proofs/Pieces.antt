-- The token of each piece that stands in a text of bytes fits: its constant, its name and its string.
use Rattle.std.proofs.Common.{◌≡◌, ℕ, ◌<◌, ◌^◌, ℤ, pos, neg_ℤ, refl, sym, subst, arith, ⊎_elim, List, Option, Some, None, Bool, true, false}
use Rattle.std.specs.Prelude.{IfSome, IsTrue, All, codes, int_le, nat_lt, not, ◌&&◌, ◌||◌, ◌-ℤ◌, if◌then◌else◌}
use Rattle.std.proofs.lemmas.Bool.{and_from, and_parts}
use Rattle.std.proofs.lemmas.Bool.Decides.{nat_tests}
use Rattle.std.proofs.lemmas.Int.{ints}
use Rattle.std.proofs.lemmas.List.Elements.{All-from_recursion}
use Rattle.std.proofs.lemmas.Option.{cond_some}
use Rattle.base_lists.proofs.Tests.{cond_cases_of}
use Rattle.base_lists.proofs.Every.{all_first, all_second}
use Rattle.cbi_base.specs.declared.scalar.Kind.TheVariants as scalar
use Rattle.cbi_base.specs.Name.{IsName}
use Rattle.c_syntax.specs.declared.parts.Constant.{Constant}
use Rattle.c_syntax.specs.declared.token.Word.{Word}
use Rattle.c_syntax.specs.Tokens.{ConstantFits}
use Rattle.c_lexer.specs.Lexing.{kind_at, name_kind, word_kind}
use Rattle.c_lexer.specs.State.{AllFit, TokenFits}
use Rattle.c_lexer_pieces.specs.Piece.{Piece, Nothing, Name, Constant', Text, Punctuator, Definition, Known}
use Rattle.c_lexer_pieces.specs.PieceFacts.{Fits, IsNamed, PieceFits}
use Rattle.c_lexer_pieces.specs.Pieces as pieces
use Rattle.c_lexer_pieces.specs.Pieces.{IsCharacter, IsConstant, IsNumber, Place, StandsAs, comment, define, include, separator}
use Rattle.c_lexer_pieces.specs.Spellings.{word_of}
use Rattle.c_lexer_pieces.specs.Values.{base_of, is_decimal, kind_of, value_of}
use Rattle.compiler_exists.proofs.Bytes.{AreBytes, Byte, character_byte, text_bytes}

-- numbers in the ranges of `int` and of `unsigned`
int_fits : (v : ℕ) → nat_lt v (2 ^ 31) ≡ true → ConstantFits scalar.Int (pos v)
int_fits v small = (
  refl,
  and_from (int_le (neg_ℤ (pos 2147483648)) (pos v)) (int_le (pos v) (pos 2147483647)) (grind (arith, ints)) (grind (arith, ints, nat_tests, small)),
)

unsigned_fits : (v : ℕ) → nat_lt v (2 ^ 32) ≡ true → ConstantFits scalar.Unsigned (pos v)
unsigned_fits v small = (
  refl,
  and_from (int_le (pos 0) (pos v)) (int_le (pos v) (pos 4294967295)) (grind (arith, ints)) (grind (arith, ints, nat_tests, small)),
)

-- digits lie in the kind that they have
module _ (c : Constant) (bytes after : List ℕ) (h : IsNumber bytes after c) where
  abbrev digits : ℕ
  digits = value_of (base_of h.radix) h.digits

  abbrev is_int : Bool
  is_int = not h.suffixed && nat_lt digits (2 ^ 31)

  abbrev is_unsigned : Bool
  is_unsigned = nat_lt digits (2 ^ 32) && (h.suffixed || not (is_decimal h.radix))

  kind_fits : ConstantFits c.kind (pos digits)
  unfolding kind_of
  kind_fits =
      ⊎_elim
      (λ (w : (is_int ≡ true) × (Some scalar.Int ≡ Some c.kind)).
      let same : scalar.Int ≡ c.kind = let e : Some scalar.Int ≡ Some c.kind = w.1 in cc in
      subst (λ k. ConstantFits k (pos digits)) same (int_fits digits (and_parts (not h.suffixed) (nat_lt digits (2 ^ 31)) w.0).1))
      (λ (w : (is_int ≡ false) × ((if is_unsigned then Some scalar.Unsigned else None) ≡ Some c.kind)).
      let found = cond_some is_unsigned scalar.Unsigned c.kind w.1 in
      subst (λ k. ConstantFits k (pos digits)) found.1
      (unsigned_fits digits (and_parts (nat_lt digits (2 ^ 32)) (h.suffixed || not (is_decimal h.radix)) found.0).0))
      (cond_cases_of is_int (Some scalar.Int) (if is_unsigned then Some scalar.Unsigned else None) (Some c.kind) h.kind)

  number_fits : Fits c
  number_fits = (
    subst (λ v. ConstantFits c.kind v) (sym h.value) kind_fits,
    subst (λ v. IsTrue (int_le (neg_ℤ (pos 128)) v)) (sym h.value) (grind (arith, ints)),
  )

abbrev signed : Bool → ℕ → ℤ
signed c b = if c then pos b else pos b -ℤ pos 256

-- a byte, read as a signed number, is an `int`, and no less than the least `char`
signed_fits : (b : ℕ) (c : Bool) → b < 256 → nat_lt b 128 ≡ c → Fits (record { kind = scalar.Int; value = signed c b })
signed_fits b true small h = (
  (refl, and_from (int_le (neg_ℤ (pos 2147483648)) (pos b)) (int_le (pos b) (pos 2147483647)) (grind (arith, ints)) (grind (arith, ints, small))),
  grind (arith, ints),
)
signed_fits b false small h = (
  (
    refl,
    and_from (int_le (neg_ℤ (pos 2147483648)) (pos b -ℤ pos 256)) (int_le (pos b -ℤ pos 256) (pos 2147483647))
        (grind (arith, ints)) (grind (arith, ints, small)),
  ),
  grind (arith, ints, nat_tests, h),
)

character_fits : (c : Constant) (bytes after : List ℕ) → AreBytes bytes → IsCharacter bytes after c → Fits c
character_fits c bytes after all h = subst Fits (sym h.constant_is) (signed_fits h.byte (nat_lt h.byte 128) (character_byte bytes after c all h) refl)

constant_fits : (c : Constant) (bytes after : List ℕ) → AreBytes bytes → IsConstant bytes after c → Fits c
constant_fits c bytes after all h = ⊎_elim (λ n. number_fits c bytes after n) (λ k. character_fits c bytes after all k) h

abbrev OfBytes : Piece → Type 0
OfBytes (Text values) = All Byte values
OfBytes _ = Unit {0}

-- what a piece has of its own: its constant fits, and its string is of bytes
abbrev pub PieceKeeps : Piece → Type 0
PieceKeeps p = PieceFits p × OfBytes p

-- the constant of a `#define` line is spelled by bytes of that line
defined_bytes : (bytes name : List ℕ) (c : Constant) → AreBytes bytes → (is : pieces.IsDefine bytes name c) → AreBytes is.spelled
defined_bytes bytes name c all is =
    let line = subst AreBytes is.is all in
    let word = all_second Byte is.before_word _ line.1 in
    let blank = all_second Byte (codes "define") _ word in
    let named = all_second Byte is.before_name _ blank in
    let more = all_second Byte name _ named in
    let spelled = all_second Byte is.before_constant _ more in
    all_first Byte is.spelled is.end spelled

-- so has each that stands in a text of bytes
module _ (place : Place) (bytes after : List ℕ) (all : AreBytes bytes) where
  pub piece_keeps : (p : Piece) → StandsAs place bytes after p → PieceKeeps p
  piece_keeps p (separator b is_byte is is_piece) = subst PieceKeeps (sym is_piece) (tt, tt)
  piece_keeps p (comment is is_piece) = subst PieceKeeps (sym is_piece) (tt, tt)
  piece_keeps p (pieces.name is stops is_piece) = subst PieceKeeps (sym is_piece) (tt, tt)
  piece_keeps p (pieces.number constant is is_piece) = subst PieceKeeps (sym is_piece) (number_fits constant bytes after is, tt)
  piece_keeps p (pieces.character constant is is_piece) = subst PieceKeeps (sym is_piece) (character_fits constant bytes after all is, tt)
  piece_keeps p (pieces.text values is is_piece) =
      subst PieceKeeps (sym is_piece) (tt, All-from_recursion Byte values (text_bytes bytes after values all is))
  piece_keeps p (pieces.punctuator sign is is_piece) = subst PieceKeeps (sym is_piece) (tt, tt)
  piece_keeps p (include fresh is line_is stops is_piece) = subst PieceKeeps (sym is_piece) (tt, tt)
  piece_keeps p (define name constant fresh is unknown line_is stops is_piece) =
      subst PieceKeeps (sym is_piece) (constant_fits constant is.spelled is.end (defined_bytes bytes name constant all is) is.is_constant, tt)

word_fits : (o : Option Word) (name : List ℕ) → IsName name → TokenFits (word_kind o name)
word_fits None name is = (tt, tt, is, tt)
word_fits (Some word) name is = (tt, tt, tt, tt)

name_fits : (o : Option Constant) (name : List ℕ) → IsName name → IfSome o Fits → TokenFits (name_kind o name)
name_fits None name is fits = word_fits (word_of name) name is
name_fits (Some c) name is fits = (fits.0, fits.1, tt, tt)

-- the token of such a piece, where the constants that names stand for fit
pub token_fits : (known : Known) (p : Piece) → AllFit known → IsNamed p → PieceKeeps p → IfSome (kind_at known p) TokenFits
token_fits known Nothing all named own = tt
token_fits known (Name name) all named own = name_fits (known name) name named (all name)
token_fits known (Constant' c) all named own = (own.0.0, own.0.1, tt, tt)
token_fits known (Text values) all named own = (tt, tt, tt, own.1)
token_fits known (Punctuator sign) all named own = (tt, tt, tt, tt)
token_fits known (Definition name c) all named own = tt
