-- How the front of what is left of a text is read.
use Rattle.std.specs.Prelude.{ℕ, Bool, true, ◌||◌, ◌&&◌, ◌==◌, nat_lt, if◌then◌else◌, List, [], ◌∷◌, length, take, drop, Option, Some, None, is_some}
use Rattle.c_syntax.specs.declared.token.Sign.{Sign}
use Rattle.cbi_base.specs.Name.{is_letter}
use Rattle.c_lexer_pieces.specs.declared.bytes.Class.TheVariants as class
use Rattle.c_lexer_pieces.specs.Piece.{Piece, Nothing, Name, Constant', Text, Punctuator, Definition, Known}
use Rattle.c_lexer_pieces.specs.Bytes.{is_of_class, is_separator, is_digit, begins_with_byte, run_of_class, bytes_past_run}
use Rattle.c_lexer_pieces.specs.Spellings.{sign_spelled}
use Rattle.c_lexer_pieces.specs.Reading.{◌>>=◌, first_some, strip_byte, comment_at, number_at, character_at, text_at, name_at, is_include, define_in}

abbrev pub as_piece : {A : Type 0} → (A → Piece) → Option (A × List ℕ) → Option (Piece × List ℕ)
as_piece f None = None
as_piece f (Some x) = Some (f x.0, x.1)

abbrev pub sign_with : ℕ → List ℕ → Option (Sign × List ℕ)
sign_with n bytes = if nat_lt (length bytes) n then None else (sign_spelled (take n bytes) >>= λ s. Some (s, drop n bytes))

-- the longest punctuator
unfoldable pub sign_at : List ℕ → Option (Sign × List ℕ)
sign_at bytes = first_some (sign_with 3 bytes) (first_some (sign_with 2 bytes) (sign_with 1 bytes))

abbrev pub comment_or_sign : Option (List ℕ) → List ℕ → Option (Piece × List ℕ)
comment_or_sign (Some rest) bytes = Some (Nothing, rest)
comment_or_sign None bytes = as_piece Punctuator (sign_at bytes)

-- a piece other than a string or a directive
unfoldable pub plain_at : List ℕ → Option (Piece × List ℕ)
plain_at [] = None
plain_at (b ∷ bs) =
    if is_separator b then Some (Nothing, bs)
    else (if is_letter b then as_piece Name (name_at (b ∷ bs))
    else (if is_digit b then as_piece Constant' (number_at (b ∷ bs))
    else (if b == 39 then as_piece Constant' (character_at (b ∷ bs))
    else comment_or_sign (comment_at (b ∷ bs)) (b ∷ bs))))

abbrev pub line_piece : List ℕ → List ℕ → Option (Piece × List ℕ)
line_piece text after = if is_include text then Some (Nothing, after) else (define_in text >>= λ d. Some (Definition d.0 d.1, after))

-- a directive, which takes its whole line
unfoldable pub directive_at : List ℕ → Option (Piece × List ℕ)
directive_at bytes = strip_byte 35 (run_of_class class.Line bytes) >>= λ rest. line_piece (bytes_past_run class.Blank rest) (bytes_past_run class.Line bytes)

-- A name is defined once.
abbrev pub unless_known : Known → Piece × List ℕ → Option (Piece × List ℕ)
unless_known known (Definition name constant, after) = if is_some (known name) then None else Some (Definition name constant, after)
unless_known known x = Some x

-- a directive that defines no name a second time
abbrev pub new_directive_at : Known → List ℕ → Option (Piece × List ℕ)
new_directive_at known bytes = directive_at bytes >>= unless_known known

-- whether only spaces and tabs stand before a place on its line, where it is known of a place before these bytes
abbrev pub fresh_from : Bool → List ℕ → Bool
fresh_from fresh [] = fresh
fresh_from fresh (b ∷ bs) = fresh_from ((b == 10) || is_of_class class.Blank b && fresh) bs

abbrev pub is_fresh : List ℕ → Bool
is_fresh before = fresh_from true before

-- The piece at the front: `fresh` says whether only spaces and tabs stand before it on its line.
unfoldable pub piece_at : Bool → Known → List ℕ → Option (Piece × List ℕ)
piece_at fresh known bytes =
    if begins_with_byte 34 bytes then as_piece Text (text_at (drop 1 bytes))
    else (if begins_with_byte 35 bytes then (if fresh then new_directive_at known bytes else None)
    else plain_at bytes)
