-- Small trees, with what the definitions compute of them.
use Rattle.std.proofs.Common.{◌≡◌, [], ◌∷◌, pos, refl}
use Rattle.cbi_base.specs.declared.scalar.Kind.TheVariants as scalar
use Rattle.c_syntax.specs.declared.token.Word.TheVariants as word
use Rattle.c_syntax.specs.declared.token.Sign.TheVariants as sign
use Rattle.c_syntax.specs.declared.token.TokenKind.TheVariants as kind
use Rattle.c_syntax.specs.declared.expr.PrefixOperator.TheVariants as prefix
use Rattle.c_syntax.specs.ExprTree as e
use Rattle.c_syntax.specs.ExprTree.{ExprTree}
use Rattle.c_syntax.specs.StatementTree as s
use Rattle.c_syntax.specs.StatementTree.{StatementTree}
use Rattle.c_syntax.specs.Spelling.{Kinds, expr_kinds, statement_kinds}
use Rattle.c_syntax.specs.Nesting.{expr_nesting, statement_nesting}
use Rattle.c_syntax.specs.Shape.{ShapedStatement}
use Rattle.c_syntax.specs.Place.{ExprAt, StatementAt}

-- `if(a)if(b);else;`
abbrev pub two_ifs : Kinds
two_ifs =
    kind.Word word.If ∷ kind.Punctuator sign.LeftParen ∷ kind.Name (97 ∷ []) ∷ kind.Punctuator sign.RightParen ∷
    kind.Word word.If ∷ kind.Punctuator sign.LeftParen ∷ kind.Name (98 ∷ []) ∷ kind.Punctuator sign.RightParen ∷
    kind.Punctuator sign.Semicolon ∷ kind.Word word.Else ∷ kind.Punctuator sign.Semicolon ∷ []

abbrev pub else_at_nearest : StatementTree
else_at_nearest = s.If 0 (e.Name 2 (97 ∷ [])) (s.IfElse 4 (e.Name 6 (98 ∷ [])) (s.Empty 8) (s.Empty 10))

abbrev pub else_at_first : StatementTree
else_at_first = s.IfElse 0 (e.Name 2 (97 ∷ [])) (s.If 4 (e.Name 6 (98 ∷ [])) (s.Empty 8)) (s.Empty 10)

nearest-tokens : statement_kinds else_at_nearest ≡ two_ifs
nearest-tokens = refl

nearest-shaped : ShapedStatement else_at_nearest
nearest-shaped = (tt, (tt, tt, refl, tt))

nearest-placed : StatementAt 0 else_at_nearest
nearest-placed = (refl, refl, (refl, refl, refl, refl))

nearest-nests : statement_nesting else_at_nearest ≡ 2
nearest-nests = refl

first-tokens : statement_kinds else_at_first ≡ two_ifs
first-tokens = refl

first-unshaped : ShapedStatement else_at_first → ⊥
first-unshaped (first, second, open_end, third) = cc

-- `x=-y*(z+1)`
abbrev pub product : ExprTree
product =
    e.Assign 1 sign.Equal (e.Name 0 (120 ∷ []))
    (e.Chain 10 (e.Prefix 2 prefix.Minus (e.Name 3 (121 ∷ [])))
    (e.more_links 4 sign.Star (e.Paren 5 (e.Chain 9 (e.Name 6 (122 ∷ [])) (e.more_links 7 sign.Plus (e.Constant 8 scalar.Int (pos 1)) e.no_links))) e.no_links))

product-tokens : expr_kinds product ≡
    kind.Name (120 ∷ []) ∷ kind.Punctuator sign.Equal ∷ kind.Punctuator sign.Minus ∷ kind.Name (121 ∷ []) ∷ kind.Punctuator sign.Star ∷
    kind.Punctuator sign.LeftParen ∷ kind.Name (122 ∷ []) ∷ kind.Punctuator sign.Plus ∷ kind.Constant scalar.Int (pos 1) ∷ kind.Punctuator sign.RightParen ∷ []
product-tokens = refl

product-placed : ExprAt 0 product
product-placed = (refl, refl, ((refl, refl), (refl, (refl, (refl, (refl, refl, tt))), tt)))

-- one for the right side, and one more for the parentheses and for the operand of `-`
product-nests : expr_nesting product ≡ 2
product-nests = refl
