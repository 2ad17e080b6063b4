-- Lower-case hexadecimal digits, and the bytes that they spell.
use Rattle.std.proofs.Common.{◌≡◌, ℕ, zero, suc, ◌+◌, ◌-◌, ◌*◌, ◌/◌, ◌%◌, ◌<◌, true, ◌&&◌, List, [], ◌∷◌, length, slice_index, Some, Result, Ok, Err, if◌then◌else◌, nat_lt, refl, sym, ap, ◌∙◌, arith}
use Rattle.std.specs.Prelude.{MatchResult}
use Rattle.std.specs.List.{list_all}
use Rattle.std.specs.Result.{result_ok}
use Rattle.std.proofs.lemmas.Bool.{and_parts, and_from}
use Rattle.std.proofs.lemmas.Bool.Decides.{nat_tests}
use Rattle.std.proofs.lemmas.List.FromFn.{get_or-map-range_with_len}
use Rattle.hex.specs.Hex.{IsBytes, decode_sized, encode_lower, encode_with, lower_digits}
use Rattle.hex.specs.declared.error.FromHexError.{FromHexError}
use Rattle.hex.proofs.HexLemmas.{decode_of-ok, decode_sized-encode_lower, decode_sized-ok, decode_sized-twice, length-encode_with}
use Rattle.cbi_base.specs.declared.identity.ProgramId.{ProgramId}
use Rattle.cbi_base.specs.ProgramId.{is_lower_digit, IsIdText, IsId, text_of_id}

-- the digit of a number below 16
abbrev digit_of : ℕ → ℕ
digit_of d = if nat_lt d 10 then 48 + d else 87 + d

-- the number of a digit
abbrev value_of : ℕ → ℕ
value_of b = if nat_lt b 97 then b - 48 else b - 87

digit-at : (d : ℕ) → d < 16 → slice_index lower_digits d ≡ digit_of d
digit-at d h = get_or-map-range_with_len digit_of 0 16 d d 0 h (omega arith)

digit-lower : (d : ℕ) → d < 16 → is_lower_digit (digit_of d) ≡ true
digit-lower d h = grind (arith, nat_tests)

value-small : (b : ℕ) → is_lower_digit b ≡ true → value_of b < 16
value-small b h = grind (arith, nat_tests)

digit-value : (b : ℕ) → is_lower_digit b ≡ true → digit_of (value_of b) ≡ b
digit-value b h = grind (arith, nat_tests)

pub digits-lower : (bytes : List ℕ) → IsBytes bytes → list_all is_lower_digit (encode_lower bytes) ≡ true
unfolding encode_with
digits-lower [] h = refl
digits-lower (b ∷ bs) h =
    let small : b < 256 = h 0 in
    let high : b / 16 < 16 = omega arith in
    let low : b % 16 < 16 = omega arith in
    rw (digit-at (b / 16) high, digit-at (b % 16) low)
    (and_from _ _ (digit-lower (b / 16) high) (and_from _ _ (digit-lower (b % 16) low) (digits-lower bs (λ k. h (suc k)))))

-- a text that is that of some bytes
pub record IsOfBytes (text : List ℕ) : Type 0 where
  pub bytes : List ℕ
  pub are_bytes : IsBytes bytes
  pub text_is : text ≡ encode_lower bytes

bytes-cons : (b : ℕ) (bs : List ℕ) → b < 256 → IsBytes bs → IsBytes (b ∷ bs)
bytes-cons b bs h hs zero = h
bytes-cons b bs h hs (suc i) = hs i

pub digits-spell : (text : List ℕ) → length text % 2 ≡ 0 → list_all is_lower_digit text ≡ true → IsOfBytes text
unfolding encode_with
digits-spell [] even h = record { bytes = []; are_bytes = λ k. omega arith; text_is = refl }
digits-spell (a ∷ []) even h = absurd (omega arith)
digits-spell (a ∷ b ∷ rest) even h =
    let first = and_parts (is_lower_digit a) (is_lower_digit b && list_all is_lower_digit rest) h in
    let second = and_parts (is_lower_digit b) (list_all is_lower_digit rest) first.1 in
    let more = digits-spell rest (omega arith) second.1 in
    let high = value-small a first.0 in
    let low = value-small b second.0 in
    let byte : ℕ = value_of a * 16 + value_of b in
    let is_high : byte / 16 ≡ value_of a = omega arith in
    let is_low : byte % 16 ≡ value_of b = omega arith in record {
      bytes = byte ∷ more.bytes;
      are_bytes = bytes-cons byte more.bytes (omega arith) more.are_bytes;
      text_is = cc (
        digit-at (value_of a) high,
        digit-at (value_of b) low,
        digit-value a first.0,
        digit-value b second.0,
        is_high,
        is_low,
        more.text_is,
      );
    }

-- the text of an identity is one
pub IsIdText-text_of_id : (id : ProgramId) → IsId id → IsIdText (text_of_id id)
IsIdText-text_of_id id h = record {
  long = omega (arith, h.long, length-encode_with lower_digits id.bytes);
  digits = digits-lower id.bytes h.are_bytes;
}

-- a text of 64 digits is that of an identity
pub record IsOfId (text : List ℕ) : Type 0 where
  pub id : ProgramId
  pub is : IsId id
  pub text_is : text ≡ text_of_id id

pub IsIdText-spells : (text : List ℕ) → IsIdText text → IsOfId text
IsIdText-spells text h =
    let spelled = digits-spell text (omega (arith, h.long)) h.digits in record {
      id = record { bytes = spelled.bytes };
      is = record {
        long = omega (arith, h.long, ap length spelled.text_is, length-encode_with lower_digits spelled.bytes);
        are_bytes = spelled.are_bytes;
      };
      text_is = spelled.text_is;
    }

-- two identities with one text are one
pub text_of_id-once : (x y : ProgramId) → IsId x → IsId y → text_of_id x ≡ text_of_id y → x ≡ y
text_of_id-once x y is_x is_y same =
    let left = decode_sized-encode_lower x.bytes 32 is_x.long is_x.are_bytes in
    let right = ap (λ text. decode_sized text 32) same ∙ decode_sized-encode_lower y.bytes 32 is_y.long is_y.are_bytes in
    let bytes : x.bytes ≡ y.bytes = cc in
    ap (λ (bs : List ℕ). let id : ProgramId = record { bytes = bs } in id) bytes

-- what decoding the text of an identity into room for 32 bytes gives
pub decodes-to : (text out : List ℕ) (id : ProgramId) (r : Result Unit FromHexError) → IsId id → text ≡ text_of_id id
    → MatchResult (decode_sized text 32) (λ bytes. (r ≡ Ok tt) × (out ≡ bytes)) (λ e. r ≡ Err e)
    → (r ≡ Ok tt) × (out ≡ id.bytes)
decodes-to text out id r is same h =
    let whole : decode_sized text 32 ≡ Ok id.bytes = ap (λ t. decode_sized t 32) same ∙ decode_sized-encode_lower id.bytes 32 is.long is.are_bytes in
    rw whole at h

decoded : (d : Result (List ℕ) FromHexError) (out : List ℕ) (r : Result Unit FromHexError) (u : Unit) → Some u ≡ result_ok r
    → MatchResult d (λ bytes. (r ≡ Ok tt) × (out ≡ bytes)) (λ e. r ≡ Err e) → d ≡ Ok out
decoded (Ok bytes) out r u is h = ap Ok (sym h.1)
decoded (Err e) out r u is h = cc (is, ap result_ok h)

-- what is decoded makes an identity
pub IsId-decoded : (text out : List ℕ) (r : Result Unit FromHexError) (u : Unit) → Some u ≡ result_ok r → length out ≡ 32
    → MatchResult (decode_sized text 32) (λ bytes. (r ≡ Ok tt) × (out ≡ bytes)) (λ e. r ≡ Err e) → IsId (record { bytes = out })
IsId-decoded text out r u is long h =
    let whole = decoded (decode_sized text 32) out r u is h in
    let sized = decode_sized-ok text 32 out whole in record {
      long = long;
      are_bytes = (decode_of-ok text out (sym (decode_sized-twice text 32 sized) ∙ whole)).3;
    }
