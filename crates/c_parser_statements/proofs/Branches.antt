-- The branches of an `if`.
use Rattle.std.proofs.Common.{◌≡◌, ℕ, ◌+◌, ◌≤◌, true, false, ◌∷◌, ◌++◌, length, Option, Some, None, sym, ap, ◌∙◌, subst, append_assoc, length-append, arith}
use Rattle.std.proofs.lemmas.List.{append-nil}
use Rattle.c_syntax.specs.declared.token.Word.TheVariants as word_is
use Rattle.c_syntax.specs.declared.token.TokenKind.TheVariants as kind
use Rattle.c_syntax.specs.Words.{StatementTree, Kinds, a_word, statement_kinds, ends_open}
use Rattle.c_parser_expressions.specs.Reading.{Cursor, SameUpTo, Found, Fails, next_cursor, kinds_behind_first, word_at}
use Rattle.c_parser_statements.specs.Statements.{IsInnerStatement, NoElse, EndsStatement, inner_statement, EndsOtherwise, else_kinds, if_branches}
use Rattle.c_parser_expressions.proofs.Heads.{word-head, same-word, word-same}
use Rattle.c_parser_expressions.proofs.Laws.{Leads, same-rest}

abbrev Branches : Type 0
Branches = StatementTree × Option StatementTree

-- a statement that isn't open can have anything behind it
pub shut : (x : StatementTree) (k : Kinds) → ends_open x ≡ false → EndsStatement x k
shut x k h = record { closed = λ t. (let e : true ≡ false = sym t ∙ h in cc) }

-- what agrees with the text and begins with what was read goes on with what stands behind that
rest-same : (d : ℕ) (c mid : Cursor) (x y : StatementTree) (last : ℕ) (k : Kinds) → Found (inner_statement d) c x mid → y ≡ x → mid.at ≤ last
    → SameUpTo last c.at c.rest (statement_kinds y ++ k) → SameUpTo last mid.at mid.rest k
rest-same d c mid x y last k f e le same =
    let moved = f.moved in
    let s1 : SameUpTo last c.at (statement_kinds x ++ mid.rest) (statement_kinds y ++ k) =
    subst (λ (v : Kinds). SameUpTo last c.at v (statement_kinds y ++ k)) f.spelled same in
    let s2 : SameUpTo last c.at (statement_kinds x ++ mid.rest) (statement_kinds x ++ k) =
    subst (λ (v : StatementTree). SameUpTo last c.at (statement_kinds x ++ mid.rest) (statement_kinds v ++ k)) e s1 in
    subst (λ (n : ℕ). SameUpTo last n mid.rest k) (sym f.moved) (same-rest last c.at (statement_kinds x) mid.rest k (omega arith) s2)

alone-only : (d : ℕ) (c mid : Cursor) (x : StatementTree) → Found (inner_statement d) c x mid → NoElse mid.rest
    → (y : StatementTree) (o : Option StatementTree) (k : Kinds) (last : ℕ)
    → (if_branches d).Is c.at (y, o) → EndsOtherwise o k → mid.at ≤ last → SameUpTo last c.at c.rest ((statement_kinds y ++ else_kinds o) ++ k)
    → ◌≡◌ {A = Branches} (y, o) (x, None)
alone-only d c mid x f other y None k last is ends le same =
    let e : y ≡ x = f.only y k last is.0 (record { closed = λ t. ends }) le
    (subst (λ (v : Kinds). SameUpTo last c.at c.rest (v ++ k)) (append-nil (statement_kinds y)) same) in
    ap {B = Branches} (λ (v : StatementTree). (v, None)) e
alone-only d c mid x f other y (Some z) k last is ends le same =
    let s1 : SameUpTo last c.at c.rest (statement_kinds y ++ ((a_word word_is.Else ++ statement_kinds z) ++ k)) =
    subst (λ (v : Kinds). SameUpTo last c.at c.rest v) (append_assoc (statement_kinds y) (a_word word_is.Else ++ statement_kinds z) k) same in
    let e : y ≡ x = f.only y ((a_word word_is.Else ++ statement_kinds z) ++ k) last is.0 (shut y _ is.1.0) le s1 in
    absurd (other.not (same-word last mid.at mid.rest (statement_kinds z ++ k) word_is.Else
    (rest-same d c mid x y last ((a_word word_is.Else ++ statement_kinds z) ++ k) f e le s1)))

-- a first branch with no `else` behind it
pub branch-alone : (d : ℕ) (c mid : Cursor) (x : StatementTree) → Found (inner_statement d) c x mid → NoElse mid.rest → Found (if_branches d) c (x, None) mid
branch-alone d c mid x f other = record {
  is = (f.is, tt);
  spelled = f.spelled ∙ ap (λ (v : Kinds). v ++ mid.rest) (sym (append-nil (statement_kinds x)));
  moved = f.moved ∙ ap (λ (v : Kinds). c.at + length v) (sym (append-nil (statement_kinds x)));
  only = λ p k last is ends le same. alone-only d c mid x f other p.0 p.1 k last is ends le same;
}

else-back : (d : ℕ) (c mid : Cursor) (x : StatementTree) → Found (inner_statement d) c x mid → word_at mid.rest ≡ Some word_is.Else
    → (y : StatementTree) (o : Option StatementTree) (k : Kinds) (last : ℕ)
    → (if_branches d).Is c.at (y, o) → EndsOtherwise o k → mid.at + 1 ≤ last → SameUpTo last c.at c.rest ((statement_kinds y ++ else_kinds o) ++ k)
    → (z : StatementTree) × (◌≡◌ {A = Branches} (y, o) (x, Some z)) × IsInnerStatement d (mid.at + 1) z × EndsStatement z k
else-back d c mid x f at_w y None k last is ends le same =
    let s1 : SameUpTo last c.at c.rest (statement_kinds y ++ k) = subst (λ (v : Kinds). SameUpTo last c.at c.rest (v ++ k)) (append-nil (statement_kinds y)) same in
    let e : y ≡ x = f.only y k last is.0 (record { closed = λ t. ends }) (omega arith) s1 in
    let s2 : SameUpTo last mid.at (kind.Word word_is.Else ∷ kinds_behind_first mid.rest) k =
    subst (λ (v : Kinds). SameUpTo last mid.at v k) (word-head mid.rest word_is.Else at_w) (rest-same d c mid x y last k f e (omega arith) s1) in
    absurd (ends.not (word-same last mid.at k (kinds_behind_first mid.rest) word_is.Else s2))
else-back d c mid x f at_w y (Some z) k last is ends le same =
    let s1 : SameUpTo last c.at c.rest (statement_kinds y ++ ((a_word word_is.Else ++ statement_kinds z) ++ k)) =
    subst (λ (v : Kinds). SameUpTo last c.at c.rest v) (append_assoc (statement_kinds y) (a_word word_is.Else ++ statement_kinds z) k) same in
    let e : y ≡ x = f.only y ((a_word word_is.Else ++ statement_kinds z) ++ k) last is.0 (shut y _ is.1.0) (omega arith) s1 in
    let at : c.at + length (statement_kinds y) + 1 ≡ mid.at + 1 = ap (λ (v : StatementTree). c.at + length (statement_kinds v) + 1) e
    ∙ ap (λ (n : ℕ). n + 1) (sym f.moved) in
    (z, ap {B = Branches} (λ (v : StatementTree). (v, Some z)) e, subst (λ (n : ℕ). IsInnerStatement d n z) at is.1.1, ends)

-- a first branch with `else` behind it
pub branch-else : (d : ℕ) (c mid : Cursor) (x : StatementTree) → Found (inner_statement d) c x mid → word_at mid.rest ≡ Some word_is.Else → ends_open x ≡ false
    → Leads (if_branches d) (inner_statement d) c (next_cursor mid) (λ z. (x, Some z))
branch-else d c mid x f at_w closed =
    let moved = f.moved in
    record {
      front = statement_kinds x ++ a_word word_is.Else;
      whole = f.spelled ∙ ap (λ (v : Kinds). statement_kinds x ++ v) (word-head mid.rest word_is.Else at_w)
          ∙ sym (append_assoc (statement_kinds x) (a_word word_is.Else) (kinds_behind_first mid.rest));
      moved = omega (arith, length-append (statement_kinds x) (a_word word_is.Else));
      build = λ z is. (f.is, (closed, subst (λ (n : ℕ). IsInnerStatement d (n + 1) z) f.moved is));
      spelled = λ z. sym (append_assoc (statement_kinds x) (a_word word_is.Else) (statement_kinds z));
      back = λ p k last is ends le same. else-back d c mid x f at_w p.0 p.1 k last is ends le same;
    }

branch-no : (d : ℕ) (c : Cursor) (last : ℕ) → Fails (inner_statement d) c last → (y : StatementTree) (o : Option StatementTree) (k : Kinds)
    → (if_branches d).Is c.at (y, o) → EndsOtherwise o k
    → SameUpTo last c.at c.rest ((statement_kinds y ++ else_kinds o) ++ k) → ⊥
branch-no d c last f y None k is ends same =
    f.none y k is.0 (record { closed = λ t. ends }) (subst (λ (v : Kinds). SameUpTo last c.at c.rest (v ++ k)) (append-nil (statement_kinds y)) same)
branch-no d c last f y (Some z) k is ends same =
    f.none y ((a_word word_is.Else ++ statement_kinds z) ++ k) is.0 (shut y _ is.1.0)
    (subst (λ (v : Kinds). SameUpTo last c.at c.rest v) (append_assoc (statement_kinds y) (a_word word_is.Else ++ statement_kinds z) k) same)

pub branch-none : (d : ℕ) (c : Cursor) (last : ℕ) → Fails (inner_statement d) c last → Fails (if_branches d) c last
branch-none d c last f = record { from = f.from; within = f.within; none = λ p k is ends same. branch-no d c last f p.0 p.1 k is ends same }
