-- Operators of one level group from the left (C99 6.5.5 to 6.5.14).
use Rattle.std.specs.Prelude.{◌≡◌, ℕ}
use Rattle.c_syntax.specs.declared.token.Sign.{Sign}
use Rattle.c_syntax.specs.ExprTree as e
use Rattle.c_syntax.specs.ExprTree.{ExprTree, LinkList}
use Rattle.c_meaning.specs.Words.{Setting, expr}

-- `a op b ..` means what `(a op b) ..` means, whatever operators of the level stand behind them: the parentheses have the type of what they hold.
abbrev pub ChainGroupsLeft : Type 0
ChainGroupsLeft =
    (s : Setting) (level inner paren token : ℕ) (operator : Sign) (a b : ExprTree) (rest : LinkList) → s.facts.type_at paren ≡ s.facts.type_at token →
    expr s (e.Chain level a (e.more_links token operator b rest))
    ≡ expr s (e.Chain level (e.Paren paren (e.Chain inner a (e.more_links token operator b e.no_links))) rest)
