-- What is known of a piece that was read, and of the text behind it.
use Rattle.std.specs.Prelude.{◌≡◌, Bool, false, ℕ, List, None}
use Rattle.c_syntax.specs.declared.parts.Constant.{Constant}
use Rattle.c_syntax.specs.Tokens.{AtLeastChar, ConstantFits}
use Rattle.cbi_base.specs.Name.{IsName}
use Rattle.c_lexer_pieces.specs.Values.{after_close}
use Rattle.c_lexer_pieces.specs.Piece.{Piece, Name, Constant', Definition}

-- What is read as a name is one.
abbrev pub IsNamed : Piece → Type 0
IsNamed (Name name) = IsName name
IsNamed _ = Unit {0}

abbrev pub Fits : Constant → Type 0
Fits c = ConstantFits c.kind c.value × AtLeastChar c.value

-- What is read as a constant, or defined as one, fits its kind, and is no less than the least `char`.
abbrev pub PieceFits : Piece → Type 0
PieceFits (Constant' c) = Fits c
PieceFits (Definition name c) = Fits c
PieceFits _ = Unit {0}

-- It may be known that no `*/` comes, so that none is looked for at each `/*`.
abbrev pub KnowsClosing : Bool → List ℕ → Type 0
KnowsClosing closes left = closes ≡ false → after_close left ≡ None
