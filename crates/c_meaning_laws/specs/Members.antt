-- `p->m` is `(*p).m` (C99 6.5.2.3p4).
use Rattle.std.specs.Prelude.{◌≡◌, ℕ, List, IsSome}
use Rattle.c_syntax.specs.declared.expr.PrefixOperator.TheVariants as prefix
use Rattle.c_syntax.specs.ExprTree as e
use Rattle.c_syntax.specs.ExprTree.{ExprTree, PostfixList}
use Rattle.c_meaning.specs.Words.{Setting, expr}
use Rattle.c_meaning_laws.specs.Typed.{Typed}
use Rattle.c_meaning_laws.specs.Indexing.{with_postfix_operators}
use Rattle.c_meaning_laws.specs.Parentheses.{IsWritten, KeepsType}

-- `(*p).m`, with any postfix operators behind it
abbrev pub member_tree : ℕ → ℕ → ExprTree → ℕ → List ℕ → PostfixList → ExprTree
member_tree paren star p dot name more = e.Postfix (e.Paren paren (e.Prefix star prefix.Indirection p)) (e.member dot name more)

-- `p->m` means what `(*p).m` means: as a value, as a place, and for what it does alone; and with any postfix operators behind it, as `p->m[i]` and
-- `p->m.n`. The member, whose offset is known, is named at one token in both, and p may stand within parentheses.
abbrev pub ArrowIsMember : Type 0
ArrowIsMember =
    (s : Setting) (arrow paren star : ℕ) (name : List ℕ) (p left : ExprTree) (more : PostfixList) → KeepsType s.facts p →
    IsSome (s.facts.offset_at arrow) → IsWritten s.facts p left →
    expr s (with_postfix_operators p (e.arrow arrow name more)) ≡ expr s (member_tree paren star left arrow name more)

-- An arrow whose types fit meets the premises of this law.
abbrev pub TypedArrowMeets : Type 0
TypedArrowMeets =
    (s : Setting) (count arrow : ℕ) (name : List ℕ) (p : ExprTree) (more : PostfixList)
    → Typed s.facts s.sites count (with_postfix_operators p (e.arrow arrow name more)) →
    KeepsType s.facts p × IsSome (s.facts.offset_at arrow)
