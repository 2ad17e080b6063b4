-- Which sign or word stands at a place, where a rule asks for one.
use Rattle.std.specs.Prelude.{ℕ, Bool, ◌==◌, Option, Some, None}
use Rattle.c_syntax.specs.declared.token.Sign.{Sign}
use Rattle.c_syntax.specs.declared.token.Sign.TheVariants as sign
use Rattle.c_syntax.specs.declared.token.Word.{Word}
use Rattle.c_syntax.specs.declared.token.Word.TheVariants as word
use Rattle.c_syntax.specs.Spelling.{Kinds}
use Rattle.c_parser_expressions.specs.Reading.{sign_at, word_at}

-- the signs that rules ask for, numbered
abbrev pub sign_mark : Sign → ℕ
sign_mark sign.LeftBrace = 1
sign_mark sign.RightBrace = 2
sign_mark sign.LeftParen = 3
sign_mark sign.RightParen = 4
sign_mark sign.LeftBracket = 5
sign_mark sign.RightBracket = 6
sign_mark sign.Semicolon = 7
sign_mark sign.Comma = 8
sign_mark sign.Question = 9
sign_mark sign.Colon = 10
sign_mark sign.Equal = 11
sign_mark sign.Star = 12
sign_mark _ = 0

abbrev pub mark_of : Option Sign → ℕ
mark_of None = 0
mark_of (Some s) = sign_mark s

-- whether the sign stands there, which is one of those above
abbrev pub begins_with_sign : Sign → Kinds → Bool
begins_with_sign s k = mark_of (sign_at k) == sign_mark s

-- the words that rules ask for, numbered
abbrev pub word_mark : Word → ℕ
word_mark word.Else = 1
word_mark word.While = 2
word_mark word.Int = 3
word_mark _ = 0

abbrev pub word_mark_of : Option Word → ℕ
word_mark_of None = 0
word_mark_of (Some w) = word_mark w

-- whether the word stands there, which is one of those above
abbrev pub begins_with_word : Word → Kinds → Bool
begins_with_word w k = word_mark_of (word_at k) == word_mark w
