-- What stands between quotes in a text of bytes is of bytes.
use Rattle.std.proofs.Common.{ℕ, ◌<◌, subst, arith, List, [], ◌∷◌, ◌++◌, Option, Some, Bool, true, false}
use Rattle.std.specs.Prelude.{IfSome, ◌==◌, if◌then◌else◌}
use Rattle.std.specs.List.{AllByRecursion}
use Rattle.base_lists.proofs.Every.{all_first, all_second}
use Rattle.c_syntax.specs.declared.parts.Constant.{Constant}
use Rattle.c_lexer_pieces.specs.Pieces.{AreElements, IsCharacter, IsElement, IsText, hexadecimal, letter, octal, plain}
use Rattle.c_lexer_pieces.specs.Values.{simple_escape}

abbrev pub Byte : ℕ → Type 0
Byte b = b < 256

abbrev pub AreBytes : List ℕ → Type 0
AreBytes bs = AllByRecursion Byte bs

-- what an escape stands for, by one test
escape_or : (b : Bool) (value : ℕ) (o : Option ℕ) → value < 256 → IfSome o Byte → IfSome (if b then Some value else o) Byte
escape_or true value o small more = small
escape_or false value o small more = more

-- an escape by a letter or a sign stands for a byte
escape_byte : (c : ℕ) → IfSome (simple_escape c) Byte
unfolding simple_escape
escape_byte c =
    escape_or (c == 110) 10 _ (omega arith) (escape_or (c == 116) 9 _ (omega arith) (escape_or (c == 114) 13 _ (omega arith)
    (escape_or (c == 97) 7 _ (omega arith) (escape_or (c == 98) 8 _ (omega arith) (escape_or (c == 102) 12 _ (omega arith)
    (escape_or (c == 118) 11 _ (omega arith) (escape_or (c == 92) 92 _ (omega arith) (escape_or (c == 39) 39 _ (omega arith)
    (escape_or (c == 34) 34 _ (omega arith) (escape_or (c == 63) 63 _ (omega arith) tt))))))))))

-- so does what stands between quotes
element_byte : (quote : ℕ) (bytes after : List ℕ) (value : ℕ) → AreBytes bytes → IsElement quote bytes after value → Byte value
element_byte quote bytes after value all (plain is newline quotes escapes) = let one : AreBytes (value ∷ []) = subst AreBytes is all in one.0
element_byte quote bytes after value all (letter c is simple) = subst (λ o. IfSome o Byte) simple (escape_byte c)
element_byte quote bytes after value all (octal digits is some few octals stops valued small) = small
element_byte quote bytes after value all (hexadecimal digits is some digits_are stops valued small) = small

elements_bytes : (bytes values after : List ℕ) → AreBytes bytes → AreElements bytes values after → AreBytes values
elements_bytes bytes [] after all h = tt
elements_bytes bytes (value ∷ values) after all h =
    let both : AreBytes (h.0 ++ h.1) = subst AreBytes h.2 all in
    (element_byte 34 h.0 (h.1 ++ after) value (all_first Byte h.0 h.1 both) h.3, elements_bytes h.1 values after (all_second Byte h.0 h.1 both) h.4)

pub text_bytes : (bytes after values : List ℕ) → AreBytes bytes → IsText bytes after values → AreBytes values
text_bytes bytes after values all is =
    let quoted : AreBytes (34 ∷ is.inner ++ 34 ∷ []) = subst AreBytes is.is all in
    elements_bytes is.inner values (34 ∷ after) (all_first Byte is.inner (34 ∷ []) quoted.1) is.elements

pub character_byte : (bytes after : List ℕ) (c : Constant) → AreBytes bytes → (is : IsCharacter bytes after c) → Byte is.byte
character_byte bytes after c all is =
    let quoted : AreBytes (39 ∷ is.inner ++ 39 ∷ []) = subst AreBytes is.is all in
    element_byte 39 is.inner (39 ∷ after) is.byte (all_first Byte is.inner (39 ∷ []) quoted.1) is.element
