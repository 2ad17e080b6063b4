-- `a[i]` is `*(a + i)` (C99 6.5.2.1p2).
use Rattle.std.specs.Prelude.{◌≡◌, ◌⊎◌, ℕ, true}
use Rattle.c_syntax.specs.declared.expr.PrefixOperator.TheVariants as prefix
use Rattle.c_syntax.specs.declared.token.Sign.TheVariants as sign
use Rattle.c_syntax.specs.ExprTree as e
use Rattle.c_syntax.specs.ExprTree.{ExprTree, PostfixList}
use Rattle.c_meaning.specs.Words.{is_pointer_value, Facts, Setting, expr, type_of, World}
use Rattle.c_meaning_laws.specs.Typed.{Typed}
use Rattle.c_meaning_laws.specs.Parentheses.{IsWritten, KeepsType}

-- postfix operators, and others behind them
abbrev pub then_more : PostfixList → PostfixList → PostfixList
then_more e.no_postfix more = more
then_more (e.index token i rest) more = e.index token i (then_more rest more)
then_more (e.member token name rest) more = e.member token name (then_more rest more)
then_more (e.arrow token name rest) more = e.arrow token name (then_more rest more)
then_more (e.increment token rest) more = e.increment token (then_more rest more)
then_more (e.decrement token rest) more = e.decrement token (then_more rest more)

-- an expression with postfix operators behind it: where it ends with such, these are behind them
abbrev pub with_postfix_operators : ExprTree → PostfixList → ExprTree
with_postfix_operators (e.Postfix primary operators) more = e.Postfix primary (then_more operators more)
with_postfix_operators x more = e.Postfix x more

-- `a[i]`
abbrev pub indexed_tree : ExprTree → ℕ → ExprTree → ExprTree
indexed_tree a bracket i = with_postfix_operators a (e.index bracket i e.no_postfix)

-- `*(a + i)`
abbrev pub at_sum : ℕ → ℕ → ℕ → ExprTree → ExprTree → ExprTree
at_sum star paren plus a i = e.Prefix star prefix.Indirection (e.Paren paren (e.Chain 9 a (e.more_links plus sign.Plus i e.no_links)))

-- one of the two is a pointer, or an array, which is one where its value is used (C99 6.5.2.1p1)
abbrev pub HasPointer : Facts → ExprTree → ExprTree → Type 0
HasPointer facts a i = (is_pointer_value (type_of facts a) ≡ true) ⊎ (is_pointer_value (type_of facts i) ≡ true)

-- `a[i]` finds what `*(a + i)` finds, where a and i may stand within parentheses: the same place in the same state, or the same end of the run.
abbrev pub IndexIsPlaceOfSum : Type 0
IndexIsPlaceOfSum =
    (s : Setting) (bracket star paren plus : ℕ) (a i left right : ExprTree) (w : World) → KeepsType s.facts a → HasPointer s.facts a i →
    IsWritten s.facts a left → IsWritten s.facts i right → (expr s (indexed_tree a bracket i)).place w ≡ (expr s (at_sum star paren plus left right)).place w

-- Where both have one type, they mean the same: as values, as places, and for what they do alone.
abbrev pub IndexMeansSum : Type 0
IndexMeansSum =
    (s : Setting) (bracket star paren plus : ℕ) (a i left right : ExprTree) → KeepsType s.facts a → HasPointer s.facts a i →
    IsWritten s.facts a left → IsWritten s.facts i right → s.facts.type_at bracket ≡ s.facts.type_at star →
    expr s (indexed_tree a bracket i) ≡ expr s (at_sum star paren plus left right)

-- With further postfix operators behind it, `a[i]` means what `(*(a + i))` means with them: as `a[i].m`, `a[i][j]` and `a[i]++`.
abbrev pub FollowedIndexMeansSum : Type 0
FollowedIndexMeansSum =
    (s : Setting) (bracket outer star paren plus : ℕ) (a i left right : ExprTree) (more : PostfixList) → KeepsType s.facts a → HasPointer s.facts a i →
    IsWritten s.facts a left → IsWritten s.facts i right → s.facts.type_at bracket ≡ s.facts.type_at outer →
    expr s (with_postfix_operators a (e.index bracket i more)) ≡ expr s (e.Postfix (e.Paren outer (at_sum star paren plus left right)) more)

-- An index whose types fit meets the premises of these laws.
abbrev pub TypedIndexMeets : Type 0
TypedIndexMeets =
    (s : Setting) (count bracket : ℕ) (a i : ExprTree) (more : PostfixList) → Typed s.facts s.sites count (with_postfix_operators a (e.index bracket i more)) →
    KeepsType s.facts a × HasPointer s.facts a i
