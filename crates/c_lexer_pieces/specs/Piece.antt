-- The pieces of a text.
use Rattle.std.specs.Prelude.{ℕ, List, Option}
use Rattle.c_syntax.specs.declared.parts.Constant.{Constant}
use Rattle.c_syntax.specs.declared.token.Sign.{Sign}

-- a piece of a text: what stands for no token, a token before defined names are replaced, or a definition
pub data Piece : Type 0 where
  Nothing : Piece
  Name : (name : List ℕ) → Piece
  Constant' : (constant : Constant) → Piece
  Text : (values : List ℕ) → Piece
  Punctuator : (sign : Sign) → Piece
  Definition : (name : List ℕ) (constant : Constant) → Piece

-- the constants that names stand for at a place
abbrev pub Known : Type 0
Known = List ℕ → Option Constant
