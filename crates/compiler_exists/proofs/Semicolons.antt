-- Texts of semicolons alone have as many tokens as bytes.
use Rattle.std.proofs.Common.{◌≡◌, ℕ, zero, suc, ◌<◌, refl, sym, ◌∙◌, ap, arith, List, [], ◌∷◌, length, replicate, Option, Some, None, Bool, true, false, cond, ltb, le-ltb, lt-ltb, length-append}
use Rattle.c_syntax.specs.declared.token.Sign.{Sign}
use Rattle.c_syntax.specs.declared.token.Sign.TheVariants.{Semicolon}
use Rattle.c_syntax.specs.Limits.{most_tokens}
use Rattle.c_lexer.specs.Lexing.{Cuts, IsLongest, Taken, past_piece, text_start, tokens_from}
use Rattle.c_lexer.specs.Refusals.{HasMany}
use Rattle.c_lexer.proofs.PieceLaws.{longest-read}
use Rattle.c_lexer_pieces.specs.Cutting.{is_fresh, piece_at, plain_at, sign_at, sign_with}
use Rattle.c_lexer_pieces.specs.Piece.{Known, Punctuator}
use Rattle.c_lexer_pieces.specs.Pieces.{Place, punctuator}
use Rattle.c_lexer_pieces.specs.Reading.{comment_at}
use Rattle.c_lexer_pieces.specs.Spellings.{sign_table}

-- no punctuator of more bytes begins with one
no_longer : (n : ℕ) (rest : List ℕ) → sign_with (suc (suc n)) (59 ∷ rest) ≡ None
unfolding sign_table
no_longer n [] = let short : ltb 1 (suc (suc n)) ≡ true = lt-ltb 1 (suc (suc n)) (omega arith) in rw short refl
no_longer n (b ∷ bs) =
    elim (ltb (suc (suc (length bs))) (suc (suc n))) as (λ v. cond {A = Option (Sign × List ℕ)} v None None ≡ None) [ true ↦ refl | false ↦ refl ]

one_sign : (rest : List ℕ) → sign_with 1 (59 ∷ rest) ≡ Some (Semicolon, rest)
unfolding sign_table
one_sign rest = let some : ltb (length (59 ∷ rest)) 1 ≡ false = le-ltb (length (59 ∷ rest)) 1 (omega arith) in rw some refl

sign_is : (rest : List ℕ) → sign_at (59 ∷ rest) ≡ Some (Semicolon, rest)
unfolding sign_at
sign_is rest = rw (no_longer 1 rest) (rw (no_longer 0 rest) (one_sign rest))

piece_is : (fresh : Bool) (known : Known) (rest : List ℕ) → piece_at fresh known (59 ∷ rest) ≡ Some (Punctuator Semicolon, rest)
unfolding piece_at plain_at comment_at
piece_is fresh known rest = rw (sign_is rest) refl

-- so each is a piece of its own
longest_is : (place : Place) (rest : List ℕ) → IsLongest place (59 ∷ []) rest (Punctuator Semicolon)
unfolding sign_table
longest_is place rest =
    let read = longest-read place (59 ∷ rest) (Punctuator Semicolon, rest) (piece_is (is_fresh place.before) place.known rest) in
    record {
      stands = punctuator Semicolon refl refl;
      longest = λ front more other e stands.
          omega (arith, ap length read.is, length-append read.bytes rest, read.longest.longest front more other (sym read.is ∙ e) stands);
    }

abbrev semicolons : ℕ → List ℕ
semicolons n = replicate n 59

abbrev semicolon : Taken
semicolon = record { bytes = 59 ∷ []; piece = Punctuator Semicolon }

abbrev taken : ℕ → List Taken
taken n = replicate n semicolon

cut_is : (n : ℕ) (place : Place) → Cuts place (semicolons n) (taken n) []
cut_is zero place = refl
cut_is (suc n) place = (semicolons n, refl, longest_is place (semicolons n), cut_is n (past_piece place semicolon))

tokens_are : (n : ℕ) (place : Place) → length (tokens_from place (taken n)) ≡ n
tokens_are zero place = refl
tokens_are (suc n) place = ap (λ k. suc k) (tokens_are n (past_piece place semicolon))

-- more of them than a text may have tokens
pub semicolons_many : (n : ℕ) → most_tokens < n → HasMany (replicate n 59)
semicolons_many n many = record {
  tokens = tokens_from text_start (taken n);
  lexes = record { pieces = taken n; cut = cut_is n text_start; are = refl };
  many = omega (arith, many, tokens_are n text_start);
}
