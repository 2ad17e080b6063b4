-- How words and punctuators are spelled (C99 6.4.1, 6.4.6).
use Rattle.std.specs.Prelude.{ℕ, List, [], ◌∷◌, Option, Some, None, if◌then◌else◌, codes}
use Rattle.std.specs.Str.{bytes_eq}
use Rattle.c_syntax.specs.declared.token.Sign.{Sign}
use Rattle.c_syntax.specs.declared.token.Sign.TheVariants as sign
use Rattle.c_syntax.specs.declared.token.Word.{Word}
use Rattle.c_syntax.specs.declared.token.Word.TheVariants as word

-- what these bytes spell in a table
abbrev pub value_in : {A : Type 0} → List (List ℕ × A) → List ℕ → Option A
value_in [] bytes = None
value_in (entry ∷ entries) bytes = if bytes_eq entry.0 bytes then Some entry.1 else value_in entries bytes

unfoldable pub word_table : List (List ℕ × Word)
word_table =
    (codes "char", word.Char) ∷
    (codes "do", word.Do) ∷
    (codes "else", word.Else) ∷
    (codes "for", word.For) ∷
    (codes "if", word.If) ∷
    (codes "int", word.Int) ∷
    (codes "return", word.Return) ∷
    (codes "sizeof", word.Sizeof) ∷
    (codes "struct", word.Struct) ∷
    (codes "unsigned", word.Unsigned) ∷
    (codes "void", word.Void) ∷
    (codes "while", word.While) ∷
    (codes "break", word.Break) ∷
    (codes "continue", word.Continue) ∷
    (codes "NULL", word.Null) ∷
    (codes "EOF", word.EndOfFile) ∷
    (codes "auto", word.Unused) ∷
    (codes "case", word.Unused) ∷
    (codes "const", word.Unused) ∷
    (codes "default", word.Unused) ∷
    (codes "double", word.Unused) ∷
    (codes "enum", word.Unused) ∷
    (codes "extern", word.Unused) ∷
    (codes "float", word.Unused) ∷
    (codes "goto", word.Unused) ∷
    (codes "inline", word.Unused) ∷
    (codes "long", word.Unused) ∷
    (codes "register", word.Unused) ∷
    (codes "restrict", word.Unused) ∷
    (codes "short", word.Unused) ∷
    (codes "signed", word.Unused) ∷
    (codes "static", word.Unused) ∷
    (codes "switch", word.Unused) ∷
    (codes "typedef", word.Unused) ∷
    (codes "union", word.Unused) ∷
    (codes "volatile", word.Unused) ∷
    (codes "_Bool", word.Unused) ∷
    (codes "_Complex", word.Unused) ∷
    (codes "_Imaginary", word.Unused) ∷
    []

unfoldable pub sign_table : List (List ℕ × Sign)
sign_table =
    (codes "{", sign.LeftBrace) ∷
    (codes "}", sign.RightBrace) ∷
    (codes "(", sign.LeftParen) ∷
    (codes ")", sign.RightParen) ∷
    (codes "[", sign.LeftBracket) ∷
    (codes "]", sign.RightBracket) ∷
    (codes ";", sign.Semicolon) ∷
    (codes ",", sign.Comma) ∷
    (codes ".", sign.Dot) ∷
    (codes "->", sign.Arrow) ∷
    (codes "++", sign.PlusPlus) ∷
    (codes "--", sign.MinusMinus) ∷
    (codes "&", sign.Ampersand) ∷
    (codes "*", sign.Star) ∷
    (codes "+", sign.Plus) ∷
    (codes "-", sign.Minus) ∷
    (codes "~", sign.Tilde) ∷
    (codes "!", sign.Exclamation) ∷
    (codes "/", sign.Slash) ∷
    (codes "%", sign.Percent) ∷
    (codes "<<", sign.ShiftLeft) ∷
    (codes ">>", sign.ShiftRight) ∷
    (codes "<", sign.Less) ∷
    (codes ">", sign.Greater) ∷
    (codes "<=", sign.LessEqual) ∷
    (codes ">=", sign.GreaterEqual) ∷
    (codes "==", sign.EqualEqual) ∷
    (codes "!=", sign.NotEqual) ∷
    (codes "^", sign.Caret) ∷
    (codes "|", sign.Bar) ∷
    (codes "&&", sign.AndAnd) ∷
    (codes "||", sign.OrOr) ∷
    (codes "?", sign.Question) ∷
    (codes ":", sign.Colon) ∷
    (codes "=", sign.Equal) ∷
    (codes "*=", sign.StarEqual) ∷
    (codes "/=", sign.SlashEqual) ∷
    (codes "%=", sign.PercentEqual) ∷
    (codes "+=", sign.PlusEqual) ∷
    (codes "-=", sign.MinusEqual) ∷
    (codes "<<=", sign.ShiftLeftEqual) ∷
    (codes ">>=", sign.ShiftRightEqual) ∷
    (codes "&=", sign.AndEqual) ∷
    (codes "^=", sign.XorEqual) ∷
    (codes "|=", sign.OrEqual) ∷
    []

abbrev pub word_of : List ℕ → Option Word
word_of bytes = value_in word_table bytes

abbrev pub sign_spelled : List ℕ → Option Sign
sign_spelled bytes = value_in sign_table bytes
