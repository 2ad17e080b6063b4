-- Statements by their first tokens.
use Rattle.std.proofs.Common.{◌≡◌, ℕ, ◌+◌, Bool, true, false, [], ◌∷◌, ◌++◌, length, Option, Some, None, refl, sym, ap, ◌∙◌, subst, append_assoc, length-append, arith}
use Rattle.std.proofs.lemmas.List.{append-nil}
use Rattle.std.specs.Prelude.{IfSome}
use Rattle.c_syntax.specs.declared.token.Sign.TheVariants as sign_is
use Rattle.c_syntax.specs.declared.token.Word.{Word}
use Rattle.c_syntax.specs.declared.token.Word.TheVariants as word_is
use Rattle.c_syntax.specs.declared.token.TokenKind.{TokenKind}
use Rattle.c_syntax.specs.declared.token.TokenKind.TheVariants as kind
use Rattle.c_syntax.specs.Words.{ExprTree, StatementTree, EntryList, if_tree, Kinds, a_sign, a_word, optional_kinds, parenthesized_kinds, expr_kinds, for_start_kinds}
use Rattle.c_syntax.specs.Words.{statement_kinds, ShapedExpr, ExprAt, ForStartAt, StatementAt}
use Rattle.c_syntax.specs.StatementTree as s
use Rattle.c_parser_expressions.specs.Reading.{Cursor, SameUpTo, Found, sequence_rule, rule_before_sign, sign_rule, first_kind, next_cursor, kinds_behind_first, sign_at, word_at}
use Rattle.c_parser_expressions.specs.Expressions.{IsExpr, expression}
use Rattle.c_parser_statements.specs.StatementParser.{Header}
use Rattle.c_parser_statements.specs.Statements.{IsStatement, EndsStatement, statement, inner_statement, EndsOtherwise, else_kinds, if_branches, condition, ended_by, do_loop_end, header_kinds, for_header, AreEntries, entries_end}
use Rattle.c_parser_expressions.proofs.Heads.{sign-head, word-head}
use Rattle.c_parser_expressions.proofs.Laws.{Leads, leads-here}
use Rattle.c_parser_expressions.proofs.Tokens.{token-found}
use Rattle.c_parser_expressions.proofs.Starts.{starts, starts-expr, starts-same, starts-more}
use Rattle.c_parser_statements.proofs.Conditions.{opt-shaped, opt-nests, opt-placed, opt-is}

-- an expression can't begin like this
no-expr : (last at : ℕ) (t : TokenKind) (ks k : Kinds) (x : ExprTree) → starts t ≡ false → ShapedExpr x
    → SameUpTo last at (t ∷ ks) ((expr_kinds x ++ a_sign sign_is.Semicolon) ++ k) → ⊥
no-expr last at t ks k x other shaped same =
    let begins = starts-same last at t ks ((expr_kinds x ++ a_sign sign_is.Semicolon) ++ k)
    (starts-more (expr_kinds x ++ a_sign sign_is.Semicolon) k (starts-more (expr_kinds x) (a_sign sign_is.Semicolon) (starts-expr x shaped))) same in
    let e : true ≡ false = sym begins ∙ other in cc

paren-length : (k : Kinds) → length (parenthesized_kinds k) ≡ length k + 2
paren-length k = let e = length-append k (a_sign sign_is.RightParen) in omega arith

-- `while`

pub while-back : (d at last : ℕ) (ks k : Kinds) (x : StatementTree) → IsStatement d at x → EndsStatement x k
    → SameUpTo last at (kind.Word word_is.While ∷ ks) (statement_kinds x ++ k)
    → (p : ExprTree × StatementTree) × (x ≡ s.While at p.0 p.1) × (sequence_rule (condition d) (λ v. inner_statement d)).Is (at + 1) p × EndsStatement p.1 k
while-back d at last ks k (s.While t c b) is ends same =
    let nests = is.nests in
    let at_c : at + 2 ≡ at + 1 + 1 = omega arith in
    let at_b : at + 2 + length (expr_kinds c) + 1 ≡ at + 1 + length (parenthesized_kinds (expr_kinds c)) = omega (arith, paren-length (expr_kinds c)) in (
      (c, b),
      ap (λ (n : ℕ). s.While n c b) is.placed.0,
      (
        record { ranks = omega arith; shaped = is.shaped.0; nests = omega arith; placed = subst (λ (n : ℕ). ExprAt n c) at_c is.placed.1 },
        record { shaped = is.shaped.1; nests = omega arith; placed = subst (λ (n : ℕ). StatementAt n b) at_b is.placed.2 },
      ),
      record { closed = ends.closed },
    )
while-back d at last ks k (s.Expr t x) is ends same = absurd (no-expr last at (kind.Word word_is.While) ks k x refl is.shaped same)
while-back d at last ks k _ is ends same = let h = same.0 in cc

pub while-leads : (d : ℕ) (c : Cursor) → word_at c.rest ≡ Some word_is.While
    → Leads (statement d) (sequence_rule (condition d) (λ v. inner_statement d)) c (next_cursor c) (λ p. s.While c.at p.0 p.1)
while-leads d c h =
    let whole : c.rest ≡ kind.Word word_is.While ∷ kinds_behind_first c.rest = word-head c.rest word_is.While h in
    record {
      front = a_word word_is.While;
      whole = whole;
      moved = refl;
      build = λ p is.
          (let n1 = is.0.nests in let n2 = is.1.nests in
          let at_c : c.at + 1 + 1 ≡ c.at + 2 = omega arith in
          let at_b : c.at + 1 + length (parenthesized_kinds (expr_kinds p.0)) ≡ c.at + 2 + length (expr_kinds p.0) + 1 =
          omega (arith, paren-length (expr_kinds p.0)) in
          record {
            shaped = (is.0.shaped, is.1.shaped);
            nests = omega arith;
            placed = (refl, subst (λ (n : ℕ). ExprAt n p.0) at_c is.0.placed, subst (λ (n : ℕ). StatementAt n p.1) at_b is.1.placed);
          });
      spelled = λ p. refl;
      back = λ x k last is ends le same. while-back d c.at last (kinds_behind_first c.rest) k x is ends
          (subst (λ (v : Kinds). SameUpTo last c.at v (statement_kinds x ++ k)) whole same);
    }

-- `do`

pub do-back : (d at last : ℕ) (ks k : Kinds) (x : StatementTree) → IsStatement d at x → SameUpTo last at (kind.Word word_is.Do ∷ ks) (statement_kinds x ++ k)
    → (p : StatementTree × ExprTree) × (x ≡ s.Do at p.0 p.1) × (sequence_rule (inner_statement d) (λ v. do_loop_end d)).Is (at + 1) p
do-back d at last ks k (s.Do t b c) is same =
    let nests = is.nests in (
      (b, c),
      ap (λ (n : ℕ). s.Do n b c) is.placed.0,
      (
        record { shaped = is.shaped.0; nests = omega arith; placed = is.placed.1 },
        record {
          ranks = omega arith;
          shaped = is.shaped.1;
          nests = omega arith;
          placed = is.placed.2;
        },
      ),
    )
do-back d at last ks k (s.Expr t x) is same = absurd (no-expr last at (kind.Word word_is.Do) ks k x refl is.shaped same)
do-back d at last ks k _ is same = let h = same.0 in cc

pub do-leads : (d : ℕ) (c : Cursor) → word_at c.rest ≡ Some word_is.Do → Leads (statement d) (sequence_rule (inner_statement d) (λ v. do_loop_end d)) c (next_cursor c)
    (λ p. s.Do c.at p.0 p.1)
do-leads d c h =
    let whole : c.rest ≡ kind.Word word_is.Do ∷ kinds_behind_first c.rest = word-head c.rest word_is.Do h in
    record {
      front = a_word word_is.Do;
      whole = whole;
      moved = refl;
      build = λ p is. (let n1 = is.0.nests in let n2 = is.1.nests in record {
        shaped = (is.0.shaped, is.1.shaped);
        nests = omega arith;
        placed = (refl, is.0.placed, is.1.placed);
      });
      spelled = λ p. ap (λ (v : Kinds). kind.Word word_is.Do ∷ v)
          (append_assoc (statement_kinds p.0 ++ a_word word_is.While) (parenthesized_kinds (expr_kinds p.1)) (a_sign sign_is.Semicolon)
          ∙ append_assoc (statement_kinds p.0) (a_word word_is.While) (parenthesized_kinds (expr_kinds p.1) ++ a_sign sign_is.Semicolon));
      back = λ x k last is ends le same. (let b = do-back d c.at last (kinds_behind_first c.rest) k x is
          (subst (λ (v : Kinds). SameUpTo last c.at v (statement_kinds x ++ k)) whole same) in (b.0, b.1, b.2, record {}));
    }

-- `for`

header-spelled : (h : Header) → parenthesized_kinds (for_start_kinds h.start ++ optional_kinds expr_kinds h.condition ++ a_sign sign_is.Semicolon
    ++ optional_kinds expr_kinds h.step) ≡ header_kinds h
header-spelled h =
    let a = for_start_kinds h.start in
    let b = optional_kinds expr_kinds h.condition in
    let d = optional_kinds expr_kinds h.step in
    ap (λ (v : Kinds). kind.Punctuator sign_is.LeftParen ∷ v)
    (append_assoc ((a ++ b) ++ a_sign sign_is.Semicolon) d (a_sign sign_is.RightParen)
    ∙ ap (λ (v : Kinds). v ++ (d ++ a_sign sign_is.RightParen)) (append_assoc a b (a_sign sign_is.Semicolon))
    ∙ append_assoc a (b ++ a_sign sign_is.Semicolon) (d ++ a_sign sign_is.RightParen))

header-length : (h : Header) → length (header_kinds h) ≡ length (for_start_kinds h.start) + length (optional_kinds expr_kinds h.condition) + length
    (optional_kinds expr_kinds h.step) + 3
header-length h =
    let a = for_start_kinds h.start in
    let b = optional_kinds expr_kinds h.condition in
    let d = optional_kinds expr_kinds h.step in
    let l1 = length-append a ((b ++ a_sign sign_is.Semicolon) ++ (d ++ a_sign sign_is.RightParen)) in
    let l2 = length-append (b ++ a_sign sign_is.Semicolon) (d ++ a_sign sign_is.RightParen) in
    let l3 = length-append b (a_sign sign_is.Semicolon) in
    let l4 = length-append d (a_sign sign_is.RightParen) in
    omega arith

abbrev pub for_tree : ℕ → Header × StatementTree → StatementTree
for_tree token p = s.For token p.0.start p.0.condition p.0.step p.1

semi-length : (k : Kinds) → length (k ++ a_sign sign_is.Semicolon) ≡ length k + 1
semi-length k = let e = length-append k (a_sign sign_is.Semicolon) in omega arith

pub for-back : (d at last : ℕ) (ks k : Kinds) (x : StatementTree) → IsStatement d at x → EndsStatement x k
    → SameUpTo last at (kind.Word word_is.For ∷ ks) (statement_kinds x ++ k)
    → (p : Header × StatementTree) × (x ≡ for_tree at p) × (sequence_rule (for_header d) (λ v. inner_statement d)).Is (at + 1) p × EndsStatement p.1 k
for-back d at last ks k (s.For t f c g b) is ends same =
    let nests = is.nests in
    let h : Header = record { start = f; condition = c; step = g } in
    let at_f : at + 2 ≡ at + 1 + 1 = omega arith in
    let at_c : at + 2 + length (for_start_kinds f) ≡ at + 1 + 1 + length (for_start_kinds f) = omega arith in
    let at_g : at + 2 + length (for_start_kinds f) + length (optional_kinds expr_kinds c) + 1 ≡ at + 1 + 1 + length (for_start_kinds f) + length
    (optional_kinds expr_kinds c ++ a_sign sign_is.Semicolon) = omega (arith, semi-length (optional_kinds expr_kinds c)) in
    let at_b : at + 2 + length (for_start_kinds f) + length (optional_kinds expr_kinds c) + 1 + length (optional_kinds expr_kinds g) + 1 ≡ at + 1 + length
    (header_kinds h) = omega (arith, header-length h) in (
      (h, b),
      ap (λ (n : ℕ). s.For n f c g b) is.placed.0,
      (
        record {
          start = record { shaped = is.shaped.0; nests = omega arith; placed = subst (λ (n : ℕ). ForStartAt n f) at_f is.placed.1 };
          condition = opt-is d _ c is.shaped.1 (omega arith) (subst (λ (n : ℕ). IfSome c (ExprAt n)) at_c is.placed.2);
          step = opt-is d _ g is.shaped.2 (omega arith) (subst (λ (n : ℕ). IfSome g (ExprAt n)) at_g is.placed.3);
        },
        record { shaped = is.shaped.3; nests = omega arith; placed = subst (λ (n : ℕ). StatementAt n b) at_b is.placed.4 },
      ),
      record { closed = ends.closed },
    )
for-back d at last ks k (s.Expr t x) is ends same = absurd (no-expr last at (kind.Word word_is.For) ks k x refl is.shaped same)
for-back d at last ks k _ is ends same = let h = same.0 in cc

pub for-leads : (d : ℕ) (c : Cursor) → word_at c.rest ≡ Some word_is.For
    → Leads (statement d) (sequence_rule (for_header d) (λ v. inner_statement d)) c (next_cursor c) (for_tree c.at)
for-leads d c h =
    let whole : c.rest ≡ kind.Word word_is.For ∷ kinds_behind_first c.rest = word-head c.rest word_is.For h in
    record {
      front = a_word word_is.For;
      whole = whole;
      moved = refl;
      build = λ p is.
          (let f = p.0.start in let v = p.0.condition in let g = p.0.step in
          let n1 = is.0.start.nests in
          let n2 = opt-nests d _ v is.0.condition in
          let n3 = opt-nests d _ g is.0.step in
          let n4 = is.1.nests in
          let at_f : c.at + 1 + 1 ≡ c.at + 2 = omega arith in
          let at_v : c.at + 1 + 1 + length (for_start_kinds f) ≡ c.at + 2 + length (for_start_kinds f) = omega arith in
          let at_g : c.at + 1 + 1 + length (for_start_kinds f) + length (optional_kinds expr_kinds v ++ a_sign sign_is.Semicolon) ≡ c.at + 2 + length
          (for_start_kinds f) + length (optional_kinds expr_kinds v) + 1 = omega (arith, semi-length (optional_kinds expr_kinds v)) in
          let at_b : c.at + 1 + length (header_kinds p.0) ≡ c.at + 2 + length (for_start_kinds f) + length (optional_kinds expr_kinds v) + 1 + length
          (optional_kinds expr_kinds g) + 1 = omega (arith, header-length p.0) in
          record {
            shaped = (is.0.start.shaped, opt-shaped d _ v is.0.condition, opt-shaped d _ g is.0.step, is.1.shaped);
            nests = omega arith;
            placed = (
              refl,
              subst (λ (n : ℕ). ForStartAt n f) at_f is.0.start.placed,
              subst (λ (n : ℕ). IfSome v (ExprAt n)) at_v
                  (opt-placed d _ v is.0.condition),
              subst (λ (n : ℕ). IfSome g (ExprAt n)) at_g (opt-placed d _ g is.0.step),
              subst (λ (n : ℕ). StatementAt n p.1) at_b is.1.placed,
            );
          });
      spelled = λ p. ap (λ (v : Kinds). kind.Word word_is.For ∷ (v ++ statement_kinds p.1)) (header-spelled p.0);
      back = λ x k last is ends le same. for-back d c.at last (kinds_behind_first c.rest) k x is ends
          (subst (λ (v : Kinds). SameUpTo last c.at v (statement_kinds x ++ k)) whole same);
    }

-- `if`

abbrev pub if_of : ℕ → ExprTree × (StatementTree × Option StatementTree) → StatementTree
if_of token p = if_tree token p.0 p.1.0 p.1.1

pub if-back : (d at last : ℕ) (ks k : Kinds) (x : StatementTree) → IsStatement d at x → EndsStatement x k
    → SameUpTo last at (kind.Word word_is.If ∷ ks) (statement_kinds x ++ k)
    → (p : ExprTree × (StatementTree × Option StatementTree)) × (x ≡ if_of at p) × (sequence_rule (condition d) (λ v. if_branches d)).Is (at + 1) p × EndsOtherwise p.1.1 k
if-back d at last ks k (s.If t c f) is ends same =
    let nests = is.nests in
    let at_c : at + 2 ≡ at + 1 + 1 = omega arith in
    let at_f : at + 2 + length (expr_kinds c) + 1 ≡ at + 1 + length (parenthesized_kinds (expr_kinds c)) = omega (arith, paren-length (expr_kinds c)) in (
      (c, (f, None)),
      ap (λ (n : ℕ). s.If n c f) is.placed.0,
      (
        record { ranks = omega arith; shaped = is.shaped.0; nests = omega arith; placed = subst (λ (n : ℕ). ExprAt n c) at_c is.placed.1 },
        (record { shaped = is.shaped.1; nests = omega arith; placed = subst (λ (n : ℕ). StatementAt n f) at_f is.placed.2 }, tt),
      ),
      ends.closed refl,
    )
if-back d at last ks k (s.IfElse t c f g) is ends same =
    let nests = is.nests in
    let at_c : at + 2 ≡ at + 1 + 1 = omega arith in
    let at_f : at + 2 + length (expr_kinds c) + 1 ≡ at + 1 + length (parenthesized_kinds (expr_kinds c)) = omega (arith, paren-length (expr_kinds c)) in
    let at_g : at + 2 + length (expr_kinds c) + 1 + length (statement_kinds f) + 1 ≡ at + 1 + length (parenthesized_kinds (expr_kinds c)) + length
    (statement_kinds f) + 1 = omega (arith, paren-length (expr_kinds c)) in (
      (c, (f, Some g)),
      ap (λ (n : ℕ). s.IfElse n c f g) is.placed.0,
      (
        record { ranks = omega arith; shaped = is.shaped.0; nests = omega arith; placed = subst (λ (n : ℕ). ExprAt n c) at_c is.placed.1 },
        (
          record { shaped = is.shaped.1; nests = omega arith; placed = subst (λ (n : ℕ). StatementAt n f) at_f is.placed.2 },
          (is.shaped.2, record { shaped = is.shaped.3; nests = omega arith; placed = subst (λ (n : ℕ). StatementAt n g) at_g is.placed.3 }),
        ),
      ),
      record { closed = ends.closed },
    )
if-back d at last ks k (s.Expr t x) is ends same = absurd (no-expr last at (kind.Word word_is.If) ks k x refl is.shaped same)
if-back d at last ks k _ is ends same = let h = same.0 in cc

if-build : (d at : ℕ) (c : ExprTree) (f : StatementTree) (o : Option StatementTree) → (sequence_rule (condition d) (λ v. if_branches d)).Is (at + 1) (c, (f, o))
    → IsStatement d at (if_tree at c f o)
if-build d at c f None is =
    let n1 = is.0.nests in
    let n2 = is.1.0.nests in
    let at_c : at + 1 + 1 ≡ at + 2 = omega arith in
    let at_f : at + 1 + length (parenthesized_kinds (expr_kinds c)) ≡ at + 2 + length (expr_kinds c) + 1 = omega (arith, paren-length (expr_kinds c)) in
    record {
      shaped = (is.0.shaped, is.1.0.shaped);
      nests = omega arith;
      placed = (refl, subst (λ (n : ℕ). ExprAt n c) at_c is.0.placed, subst (λ (n : ℕ). StatementAt n f) at_f is.1.0.placed);
    }
if-build d at c f (Some g) is =
    let n1 = is.0.nests in
    let n2 = is.1.0.nests in
    let n3 = is.1.1.1.nests in
    let at_c : at + 1 + 1 ≡ at + 2 = omega arith in
    let at_f : at + 1 + length (parenthesized_kinds (expr_kinds c)) ≡ at + 2 + length (expr_kinds c) + 1 = omega (arith, paren-length (expr_kinds c)) in
    let at_g : at + 1 + length (parenthesized_kinds (expr_kinds c)) + length (statement_kinds f) + 1 ≡ at + 2 + length (expr_kinds c) + 1 + length
    (statement_kinds f) + 1 = omega (arith, paren-length (expr_kinds c)) in
    record {
      shaped = (is.0.shaped, is.1.0.shaped, is.1.1.0, is.1.1.1.shaped);
      nests = omega arith;
      placed = (
        refl,
        subst (λ (n : ℕ). ExprAt n c) at_c is.0.placed,
        subst (λ (n : ℕ). StatementAt n f) at_f is.1.0.placed,
        subst
            (λ (n : ℕ). StatementAt n g) at_g is.1.1.1.placed,
      );
    }

if-spelled : (at : ℕ) (c : ExprTree) (f : StatementTree) (o : Option StatementTree)
    → statement_kinds (if_tree at c f o) ≡ kind.Word word_is.If ∷ (parenthesized_kinds (expr_kinds c) ++ (statement_kinds f ++ else_kinds o))
if-spelled at c f None = ap (λ (v : Kinds). kind.Word word_is.If ∷ (parenthesized_kinds (expr_kinds c) ++ v)) (sym (append-nil (statement_kinds f)))
if-spelled at c f (Some g) =
    ap (λ (v : Kinds). kind.Word word_is.If ∷ v)
    (append_assoc (parenthesized_kinds (expr_kinds c) ++ statement_kinds f) (a_word word_is.Else) (statement_kinds g)
    ∙ append_assoc (parenthesized_kinds (expr_kinds c)) (statement_kinds f) (a_word word_is.Else ++ statement_kinds g))

pub if-leads : (d : ℕ) (c : Cursor) → word_at c.rest ≡ Some word_is.If → Leads (statement d) (sequence_rule (condition d) (λ v. if_branches d)) c (next_cursor c) (if_of c.at)
if-leads d c h =
    let whole : c.rest ≡ kind.Word word_is.If ∷ kinds_behind_first c.rest = word-head c.rest word_is.If h in
    record {
      front = a_word word_is.If;
      whole = whole;
      moved = refl;
      build = λ p is. if-build d c.at p.0 p.1.0 p.1.1 is;
      spelled = λ p. if-spelled c.at p.0 p.1.0 p.1.1;
      back = λ x k last is ends le same. if-back d c.at last (kinds_behind_first c.rest) k x is ends
          (subst (λ (v : Kinds). SameUpTo last c.at v (statement_kinds x ++ k)) whole same);
    }

-- `return`

return-back : (d at last : ℕ) (ks k : Kinds) (x : StatementTree) → IsStatement d at x → SameUpTo last at (kind.Word word_is.Return ∷ ks) (statement_kinds x ++ k)
    → (o : Option ExprTree) × (x ≡ s.Return at o) × IfSome o (IsExpr 0 d (at + 1))
return-back d at last ks k (s.Return t o) is same = (o, ap (λ (n : ℕ). s.Return n o) is.placed.0, opt-is d _ o is.shaped is.nests is.placed.1)
return-back d at last ks k (s.Expr t x) is same = absurd (no-expr last at (kind.Word word_is.Return) ks k x refl is.shaped same)
return-back d at last ks k _ is same = let h = same.0 in cc

pub return-leads : (d : ℕ) (c : Cursor) → word_at c.rest ≡ Some word_is.Return → Leads (statement d) (ended_by d sign_is.Semicolon) c (next_cursor c) (s.Return c.at)
return-leads d c h =
    let whole : c.rest ≡ kind.Word word_is.Return ∷ kinds_behind_first c.rest = word-head c.rest word_is.Return h in
    record {
      front = a_word word_is.Return;
      whole = whole;
      moved = refl;
      build = λ o is. record { shaped = opt-shaped d _ o is; nests = opt-nests d _ o is; placed = (refl, opt-placed d _ o is) };
      spelled = λ o. refl;
      back = λ x k last is ends le same. (let b = return-back d c.at last (kinds_behind_first c.rest) k x is
          (subst (λ (v : Kinds). SameUpTo last c.at v (statement_kinds x ++ k)) whole same) in (b.0, b.1, b.2, record {}));
    }

-- `break` and `continue`

break-back : (d at last : ℕ) (ks k : Kinds) (x : StatementTree) → IsStatement d at x → SameUpTo last at (kind.Word word_is.Break ∷ ks) (statement_kinds x ++ k)
    → x ≡ s.Break at
break-back d at last ks k (s.Break t) is same = ap s.Break is.placed
break-back d at last ks k (s.Expr t x) is same = absurd (no-expr last at (kind.Word word_is.Break) ks k x refl is.shaped same)
break-back d at last ks k _ is same = let h = same.0 in cc

continue-back : (d at last : ℕ) (ks k : Kinds) (x : StatementTree) → IsStatement d at x
    → SameUpTo last at (kind.Word word_is.Continue ∷ ks) (statement_kinds x ++ k) → x ≡ s.Continue at
continue-back d at last ks k (s.Continue t) is same = ap s.Continue is.placed
continue-back d at last ks k (s.Expr t x) is same = absurd (no-expr last at (kind.Word word_is.Continue) ks k x refl is.shaped same)
continue-back d at last ks k _ is same = let h = same.0 in cc

jump-leads : (d : ℕ) (c : Cursor) (w : Word) (jump : StatementTree) → word_at c.rest ≡ Some w → IsStatement d c.at jump
    → statement_kinds jump ≡ kind.Word w ∷ a_sign sign_is.Semicolon
    → ((last : ℕ) (k : Kinds) (x : StatementTree) → IsStatement d c.at x → SameUpTo last c.at (kind.Word w ∷ kinds_behind_first c.rest) (statement_kinds x ++ k) → x ≡ jump)
    → Leads (statement d) (sign_rule sign_is.Semicolon) c (next_cursor c) (λ u. jump)
jump-leads d c w jump h jump_is spelled only =
    let whole : c.rest ≡ kind.Word w ∷ kinds_behind_first c.rest = word-head c.rest w h in
    record {
      front = a_word w;
      whole = whole;
      moved = refl;
      build = λ u is. jump_is;
      spelled = λ u. spelled;
      back = λ x k last is ends le same. (tt, only last k x is (subst (λ (v : Kinds). SameUpTo last c.at v (statement_kinds x ++ k)) whole same), tt, record {});
    }

pub break-leads : (d : ℕ) (c : Cursor) → word_at c.rest ≡ Some word_is.Break → Leads (statement d) (sign_rule sign_is.Semicolon) c (next_cursor c) (λ u. s.Break c.at)
break-leads d c h = jump-leads d c word_is.Break (s.Break c.at) h (record { shaped = tt; nests = omega arith; placed = refl }) refl
    (λ last k x is same. break-back d c.at last (kinds_behind_first c.rest) k x is same)

pub continue-leads : (d : ℕ) (c : Cursor) → word_at c.rest ≡ Some word_is.Continue
    → Leads (statement d) (sign_rule sign_is.Semicolon) c (next_cursor c) (λ u. s.Continue c.at)
continue-leads d c h = jump-leads d c word_is.Continue (s.Continue c.at) h (record { shaped = tt; nests = omega arith; placed = refl }) refl
    (λ last k x is same. continue-back d c.at last (kinds_behind_first c.rest) k x is same)

-- blocks and empty statements

block-back : (d at last : ℕ) (ks k : Kinds) (x : StatementTree) → IsStatement d at x
    → SameUpTo last at (kind.Punctuator sign_is.LeftBrace ∷ ks) (statement_kinds x ++ k) → (xs : EntryList) × (x ≡ s.Block at xs) × AreEntries d (at + 1) xs
block-back d at last ks k (s.Block t xs) is same = (
  xs,
  ap (λ (n : ℕ). s.Block n xs) is.placed.0,
  record {
    shaped = is.shaped;
    nests = is.nests;
    placed = is.placed.1;
  },
)
block-back d at last ks k (s.Expr t x) is same = absurd (no-expr last at (kind.Punctuator sign_is.LeftBrace) ks k x refl is.shaped same)
block-back d at last ks k _ is same = let h = same.0 in cc

pub block-leads : (d : ℕ) (c : Cursor) → sign_at c.rest ≡ Some sign_is.LeftBrace → Leads (statement d) (entries_end d) c (next_cursor c) (s.Block c.at)
block-leads d c h =
    let whole : c.rest ≡ kind.Punctuator sign_is.LeftBrace ∷ kinds_behind_first c.rest = sign-head c.rest sign_is.LeftBrace h in
    record {
      front = a_sign sign_is.LeftBrace;
      whole = whole;
      moved = refl;
      build = λ xs is. record { shaped = is.shaped; nests = is.nests; placed = (refl, is.placed) };
      spelled = λ xs. refl;
      back = λ x k last is ends le same. (let b = block-back d c.at last (kinds_behind_first c.rest) k x is
          (subst (λ (v : Kinds). SameUpTo last c.at v (statement_kinds x ++ k)) whole same) in (b.0, b.1, b.2, record {}));
    }

empty-back : (d at last : ℕ) (ks k : Kinds) (x : StatementTree) → IsStatement d at x
    → SameUpTo last at (kind.Punctuator sign_is.Semicolon ∷ ks) (statement_kinds x ++ k) → x ≡ s.Empty at
empty-back d at last ks k (s.Empty t) is same = ap s.Empty is.placed
empty-back d at last ks k (s.Expr t x) is same = absurd (no-expr last at (kind.Punctuator sign_is.Semicolon) ks k x refl is.shaped same)
empty-back d at last ks k _ is same = let h = same.0 in cc

pub empty-found : (d : ℕ) (c : Cursor) → sign_at c.rest ≡ Some sign_is.Semicolon → Found (statement d) c (s.Empty c.at) (next_cursor c)
empty-found d c h =
    let whole : c.rest ≡ kind.Punctuator sign_is.Semicolon ∷ kinds_behind_first c.rest = sign-head c.rest sign_is.Semicolon h in
    token-found (statement d) c (kind.Punctuator sign_is.Semicolon) (s.Empty c.at) (record { shaped = tt; nests = omega arith; placed = refl }) refl whole
    (λ x k last is ends le same. empty-back d c.at last (kinds_behind_first c.rest) k x is (subst (λ (v : Kinds). SameUpTo last c.at v (statement_kinds x ++ k)) whole same))

-- expressions

-- what a statement that is no expression begins with
abbrev pub begins_other : Option TokenKind → Bool
begins_other (Some (kind.Punctuator sign_is.LeftBrace)) = true
begins_other (Some (kind.Punctuator sign_is.Semicolon)) = true
begins_other (Some (kind.Word word_is.If)) = true
begins_other (Some (kind.Word word_is.While)) = true
begins_other (Some (kind.Word word_is.Do)) = true
begins_other (Some (kind.Word word_is.For)) = true
begins_other (Some (kind.Word word_is.Return)) = true
begins_other (Some (kind.Word word_is.Break)) = true
begins_other (Some (kind.Word word_is.Continue)) = true
begins_other _ = false

same-first : (last at : ℕ) (ks more : Kinds) (t : TokenKind) → begins_other (first_kind ks) ≡ false → begins_other (Some t) ≡ true → SameUpTo last at ks (t ∷ more) → ⊥
same-first last at [] more t other h same = same
same-first last at (x ∷ ks) more t other h same = let e : begins_other (Some x) ≡ true =
    ap (λ (v : TokenKind). begins_other (Some v)) same.0 ∙ h in let f : true ≡ false = sym e ∙ other in cc

expr-back : (d at last : ℕ) (ks k : Kinds) (x : StatementTree) → begins_other (first_kind ks) ≡ false → IsStatement d at x → SameUpTo last at ks (statement_kinds x ++ k)
    → (v : ExprTree) × (x ≡ s.Expr at v) × IsExpr 0 d at v
expr-back d at last ks k (s.Expr t v) other is same = (
  v,
  ap (λ (n : ℕ). s.Expr n v) is.placed.0,
  record {
    ranks = omega arith;
    shaped = is.shaped;
    nests = is.nests;
    placed = is.placed.1;
  },
)
expr-back d at last ks k (s.Block t xs) other is same = absurd (same-first last at ks _ (kind.Punctuator sign_is.LeftBrace) other refl same)
expr-back d at last ks k (s.Empty t) other is same = absurd (same-first last at ks _ (kind.Punctuator sign_is.Semicolon) other refl same)
expr-back d at last ks k (s.If t c f) other is same = absurd (same-first last at ks _ (kind.Word word_is.If) other refl same)
expr-back d at last ks k (s.IfElse t c f g) other is same = absurd (same-first last at ks _ (kind.Word word_is.If) other refl same)
expr-back d at last ks k (s.While t c b) other is same = absurd (same-first last at ks _ (kind.Word word_is.While) other refl same)
expr-back d at last ks k (s.Do t b c) other is same = absurd (same-first last at ks _ (kind.Word word_is.Do) other refl same)
expr-back d at last ks k (s.For t f c g b) other is same = absurd (same-first last at ks _ (kind.Word word_is.For) other refl same)
expr-back d at last ks k (s.Return t o) other is same = absurd (same-first last at ks _ (kind.Word word_is.Return) other refl same)
expr-back d at last ks k (s.Break t) other is same = absurd (same-first last at ks _ (kind.Word word_is.Break) other refl same)
expr-back d at last ks k (s.Continue t) other is same = absurd (same-first last at ks _ (kind.Word word_is.Continue) other refl same)

pub expr-leads : (d : ℕ) (c : Cursor) → begins_other (first_kind c.rest) ≡ false → Leads (statement d) (rule_before_sign (expression 0 d) sign_is.Semicolon) c c (s.Expr c.at)
expr-leads d c other = leads-here (statement d) (rule_before_sign (expression 0 d) sign_is.Semicolon) c (s.Expr c.at)
    (λ v is. record { shaped = is.shaped; nests = is.nests; placed = (refl, is.placed) }) (λ v. refl)
    (λ x k last is ends le same. (let b = expr-back d c.at last c.rest k x other is same in (b.0, b.1, b.2, record {})))
