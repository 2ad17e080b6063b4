-- The piece that a Rust value holds.
use Rattle.std.specs.Prelude.{ℕ, List, Option}
use Rattle.std.specs.Ordering.{nat_cmp}
use Rattle.std.specs.BTreeMap.{BTreeMap, get_by}
use Rattle.std.specs.Cmp.Lexicographic.{slice_cmp}
use Rattle.std.specs.Borrow.{Bor}
use Rattle.c_syntax.specs.declared.parts.Constant.{Constant}
use Rattle.c_lexer_pieces.specs.declared.pieces.Found.{Found}
use Rattle.c_lexer_pieces.specs.declared.pieces.Found.TheVariants as found
use Rattle.c_lexer_pieces.specs.Piece as piece
use Rattle.c_lexer_pieces.specs.Piece.{Piece}

abbrev pub piece_of : Found → Piece
piece_of found.Nothing = piece.Nothing
piece_of (found.Name name) = piece.Name name.now
piece_of (found.Constant constant) = piece.Constant' constant
piece_of (found.Text values) = piece.Text values.items
piece_of (found.Punctuator sign) = piece.Punctuator sign
piece_of (found.Definition name constant) = piece.Definition name.now constant

-- the constant that a name stands for
abbrev pub known_by : BTreeMap (Bor (List ℕ)) Constant → List ℕ → Option Constant
known_by defined name = get_by (λ k. slice_cmp nat_cmp name k.now) defined
