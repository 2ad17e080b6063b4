-- Operators before their operand, and casts.
use Rattle.std.proofs.Common.{◌≡◌, ℕ, zero, suc, ◌+◌, ◌≤◌, ◌<◌, nat_lt, if◌then◌else◌, inl, inr, Bool, true, false, [], ◌∷◌, ◌++◌}
use Rattle.std.proofs.Common.{length, Option, Some, None, Ok, Err, refl, sym, ap, ◌∙◌, subst, append_assoc, arith}
use Rattle.std.proofs.lemmas.Bool.{cases_Bool, cases_lt}
use Rattle.base_lists.proofs.Numbers.{suc_zero_test}
use Rattle.c_syntax.specs.declared.token.Sign.{Sign}
use Rattle.c_syntax.specs.declared.token.Sign.TheVariants as sign_is
use Rattle.c_syntax.specs.declared.token.Word.{Word}
use Rattle.c_syntax.specs.declared.token.Word.TheVariants as word_is
use Rattle.c_syntax.specs.declared.token.TokenKind.{TokenKind}
use Rattle.c_syntax.specs.declared.token.TokenKind.TheVariants as kind
use Rattle.c_syntax.specs.declared.parts.Base.{Base}
use Rattle.c_syntax.specs.declared.expr.PrefixOperator.{PrefixOperator}
use Rattle.c_syntax.specs.declared.expr.PrefixOperator.TheVariants as prefix
use Rattle.c_syntax.specs.ExprTree as e
use Rattle.c_syntax.specs.Words.{ExprTree, Kinds, a_sign, expr_kinds, postfix_kinds, base_kinds, star_kinds, prefix_kind, prefix_kinds, prefix_of}
use Rattle.c_syntax.specs.Words.{expression_rank, operand_rank, ShapedExpr, expr_nesting, BaseAt}
use Rattle.c_parser_expressions.specs.Reading.{Cursor, SameUpTo, Rule, Found, Fails, Read, Outcome, kinds_behind_first, next_cursor, sign_at, rule_before_sign}
use Rattle.c_parser_expressions.specs.Marks.{begins_with_sign}
use Rattle.c_parser_expressions.specs.Expressions.{sign_binds, binding_strength, kind_binds, EndsAt, IsExpr, expression, IsInner, inner_expression, type_name}
use Rattle.c_parser_expressions.specs.ExpressionParser.{Parsers, is_base_word, begins_type, opens_type, closed_type, size_of_operand, size_of_type, size_of_paren}
use Rattle.c_parser_expressions.specs.ExpressionParser.{size_of_by, prefix_by, prefix_at, operand_by, unary_of, unary_by, postfix_by}
use Rattle.c_parser_expressions.proofs.Heads.{sign-head, same-sign, stands-sign, sign-stands}
use Rattle.c_parser_expressions.proofs.Laws.{Leads, leads-here, leads-outcome, finish}
use Rattle.c_parser_expressions.proofs.Tokens.{fails-here}
use Rattle.c_parser_expressions.proofs.TypeNames.{base-begins, closed-type-parses}
use Rattle.c_parser_expressions.proofs.Starts.{starts, StartsAt, starts-expr, starts-more, chain-low, postfix-begins, primary-no_prefix}
use Rattle.c_parser_expressions.proofs.Starts.{prefix-back, prefix-same, prefix-head}
use Rattle.c_parser_expressions.proofs.Primary.{ends-more}

-- A rule whose parts are those of another, but for such as can't stand there, from an index on.
pub record Narrows {A : Type 0} (R S : Rule A) (c : Cursor) (least : ℕ) : Type 0 where
  pub build : (x : A) → S.Is c.at x → R.Is c.at x
  pub spelled : (x : A) → R.spell x ≡ S.spell x
  pub back : (x : A) (k : Kinds) (last : ℕ) → R.Is c.at x → R.Ends x k → least ≤ last → SameUpTo last c.at c.rest (R.spell x ++ k) → S.Is c.at x × S.Ends x k

pub narrows-found : {A : Type 0} (R S : Rule A) (c to : Cursor) (least : ℕ) (x : A) → Narrows R S c least → least ≤ to.at → Found S c x to → Found R c x to
narrows-found R S c to least x n le f = record {
  is = n.build x f.is;
  spelled = f.spelled ∙ ap (λ (v : Kinds). v ++ to.rest) (sym (n.spelled x));
  moved = f.moved ∙ ap (λ (v : Kinds). c.at + length v) (sym (n.spelled x));
  only = λ y k last is ends far same.
      (let b = n.back y k last is ends (omega arith) same in
      f.only y k last b.0 b.1 far (subst (λ (v : Kinds). SameUpTo last c.at c.rest (v ++ k)) (n.spelled y) same));
}

pub narrows-fails : {A : Type 0} (R S : Rule A) (c : Cursor) (least last : ℕ) → Narrows R S c least → least ≤ last → Fails S c last → Fails R c last
narrows-fails R S c least last n le f = record {
  from = f.from;
  within = f.within;
  none = λ y k is ends same.
      (let b = n.back y k last is ends le same in
      f.none y k b.0 b.1 (subst (λ (v : Kinds). SameUpTo last c.at c.rest (v ++ k)) (n.spelled y) same));
}

-- it is enough that each part has so many tokens, and no refusal comes earlier
pub narrows-outcome : {A : Type 0} (R S : Rule A) (c : Cursor) (least : ℕ) (r : Read A) → Narrows R S c least
    → ((x : A) (to : Cursor) → Found S c x to → least ≤ to.at) → ((last : ℕ) → Fails S c last → least ≤ last) → Outcome S c r → Outcome R c r
narrows-outcome R S c least (Ok p) n far late o = narrows-found R S c p.1 least p.0 n (far p.0 p.1 o) o
narrows-outcome R S c least (Err i) n far late o = narrows-fails R S c least i n (late i o) o

-- the second token of what begins with a parenthesis and is no cast
second-of : (last at : ℕ) (x : TokenKind) (xs : Kinds) (a k : Kinds) → StartsAt a → SameUpTo last at (x ∷ xs) (a ++ k) → starts x ≡ true
second-of last at x xs [] k h same = absurd h
second-of last at x xs (y ∷ a) k h same = ap starts same.0 ∙ h

abbrev starts_some : Kinds → Bool
starts_some [] = false
starts_some (x ∷ xs) = starts x

starts-here : (last at : ℕ) (ks a k : Kinds) → StartsAt a → SameUpTo last at ks (a ++ k) → starts_some ks ≡ true
starts-here last at [] [] k h same = absurd h
starts-here last at [] (y ∷ a) k h same = absurd same
starts-here last at (x ∷ xs) a k h same = second-of last at x xs a k h same

-- what begins with a parenthesis, with a rank from that of unary expressions on
pub paren-second : (x : ExprTree) (last at : ℕ) (ks k : Kinds) → 14 ≤ expression_rank x → ShapedExpr x → at < last
    → SameUpTo last at (kind.Punctuator sign_is.LeftParen ∷ ks) (expr_kinds x ++ k) → starts_some ks ≡ true
paren-second (e.Paren t y) last at ks k r h below same =
    starts-here last (at + 1) ks (expr_kinds y ++ a_sign sign_is.RightParen) k (starts-more (expr_kinds y) (a_sign sign_is.RightParen) (starts-expr y h))
    (same.1 below)
paren-second (e.Postfix y ops) last at ks k r h below same =
    paren-second y last at ks (postfix_kinds ops ++ k) (let q = h.0 in omega arith) h.1 below
    (subst (λ (v : Kinds). SameUpTo last at (kind.Punctuator sign_is.LeftParen ∷ ks) v) (append_assoc (expr_kinds y) (postfix_kinds ops) k) same)
paren-second (e.Prefix t o y) last at ks k r h below same =
    let s : kind.Punctuator sign_is.LeftParen ≡ prefix_kind o = same.0 in
    let n : None ≡ Some o = ap prefix_of s ∙ prefix-back o in cc
paren-second (e.SizeOfType t b n) last at ks k r h below same = let s = same.0 in cc
paren-second (e.Strings t []) last at ks k r h below same = absurd h
paren-second (e.Strings t (s ∷ ss)) last at ks k r h below same = let s = same.0 in cc
paren-second (e.Name t n) last at ks k r h below same = let s = same.0 in cc
paren-second (e.Call t n xs) last at ks k r h below same = let s = same.0 in cc
paren-second (e.Constant t c v) last at ks k r h below same = let s = same.0 in cc
paren-second (e.Null t) last at ks k r h below same = let s = same.0 in cc
paren-second (e.EndOfFile t) last at ks k r h below same = let s = same.0 in cc
paren-second (e.Chain l y ls) last at ks k r h below same = absurd (chain-low l y ls (omega arith) h)
paren-second _ last at ks k r h below same = absurd (omega arith)

-- it nests
pub paren-deep : (x : ExprTree) (last at : ℕ) (ks k : Kinds) → 13 ≤ expression_rank x → ShapedExpr x
    → SameUpTo last at (kind.Punctuator sign_is.LeftParen ∷ ks) (expr_kinds x ++ k) → 1 ≤ expr_nesting x
paren-deep (e.Paren t y) last at ks k r h same = omega arith
paren-deep (e.Cast t b n y) last at ks k r h same = omega arith
paren-deep (e.Postfix y ops) last at ks k r h same =
    let n : 1 ≤ expr_nesting y =
    paren-deep y last at ks (postfix_kinds ops ++ k) (let q = h.0 in omega arith) h.1
    (subst (λ (v : Kinds). SameUpTo last at (kind.Punctuator sign_is.LeftParen ∷ ks) v) (append_assoc (expr_kinds y) (postfix_kinds ops) k) same) in
    omega arith
paren-deep (e.Prefix t o y) last at ks k r h same = omega arith
paren-deep (e.SizeOfType t b n) last at ks k r h same = let s = same.0 in cc
paren-deep (e.Strings t []) last at ks k r h same = absurd h
paren-deep (e.Strings t (s ∷ ss)) last at ks k r h same = let s = same.0 in cc
paren-deep (e.Name t n) last at ks k r h same = let s = same.0 in cc
paren-deep (e.Call t n xs) last at ks k r h same = let s = same.0 in cc
paren-deep (e.Constant t c v) last at ks k r h same = let s = same.0 in cc
paren-deep (e.Null t) last at ks k r h same = let s = same.0 in cc
paren-deep (e.EndOfFile t) last at ks k r h same = let s = same.0 in cc
paren-deep (e.Chain l y ls) last at ks k r h same = absurd (chain-low l y ls (omega arith) h)
paren-deep _ last at ks k r h same = absurd (omega arith)

-- no expression begins with a base
base-no_start : (o : Option Word) → is_base_word o ≡ true → (w : Word) → o ≡ Some w → starts (kind.Word w) ≡ false
base-no_start (Some word_is.Void) h w s = let t : word_is.Void ≡ w = cc in ap (λ (v : Word). starts (kind.Word v)) (sym t)
base-no_start (Some word_is.Char) h w s = let t : word_is.Char ≡ w = cc in ap (λ (v : Word). starts (kind.Word v)) (sym t)
base-no_start (Some word_is.Int) h w s = let t : word_is.Int ≡ w = cc in ap (λ (v : Word). starts (kind.Word v)) (sym t)
base-no_start (Some word_is.Unsigned) h w s = let t : word_is.Unsigned ≡ w = cc in ap (λ (v : Word). starts (kind.Word v)) (sym t)
base-no_start (Some word_is.Struct) h w s = let t : word_is.Struct ≡ w = cc in ap (λ (v : Word). starts (kind.Word v)) (sym t)
base-no_start o h w s = cc

pub type-no_start : (ks : Kinds) → begins_type ks ≡ true → starts_some ks ≡ true → ⊥
type-no_start [] h s = cc
type-no_start (kind.Word w ∷ ks) h s = let f : starts (kind.Word w) ≡ false = base-no_start (Some w) h w refl in cc
type-no_start (_ ∷ ks) h s = cc

-- No token binds closer than the operators of level 10 and less close than those behind an operand.
gap-sign : (s : Sign) → sign_binds s ≤ 15 → sign_binds s ≤ 13
gap-sign sign_is.Comma h = omega arith
gap-sign _ h = omega arith

gap-kind : (t : TokenKind) → kind_binds t ≤ 15 → kind_binds t ≤ 13
gap-kind (kind.Punctuator s) h = gap-sign s h
gap-kind _ h = omega arith

gap : (k : Kinds) → binding_strength k ≤ 15 → binding_strength k ≤ 13
gap [] h = omega arith
gap (t ∷ k) h = gap-kind t h

unary-ends : (r : ℕ) (k : Kinds) → 13 ≤ r → EndsAt 14 k → EndsAt r k
unary-ends r k le ends = let by = ends.by in let less = gap k (omega arith) in record { by = omega arith }

-- prefix operators
abbrev Prefixed : (d at : ℕ) (o : PrefixOperator) (x : ExprTree) → Type 0
Prefixed d at o x = (y : ExprTree) × (x ≡ e.Prefix at o y) × IsInner (operand_rank o) d (at + 1) y

no-prefix : (last at : ℕ) (o : PrefixOperator) (ks k : Kinds) (x : ExprTree) → 15 ≤ expression_rank x → ShapedExpr x
    → SameUpTo last at (prefix_kind o ∷ ks) (expr_kinds x ++ k) → ⊥
no-prefix last at o ks k x r shaped same =
    let n : prefix_of (prefix_kind o) ≡ None = primary-no_prefix (prefix_kind o) (postfix-begins x last at (prefix_kind o) ks k r shaped same) in
    let s : None ≡ Some o = sym n ∙ prefix-back o in cc

prefix-within : (d at last : ℕ) (o : PrefixOperator) (ks k : Kinds) (x : ExprTree) → (o ≡ prefix.SizeOf → ⊥) → IsExpr 14 d at x
    → SameUpTo last at (prefix_kind o ∷ ks) (expr_kinds x ++ k) → Prefixed d at o x
prefix-within d at last o ks k (e.Prefix t p y) other is same =
    let nests = is.nests in
    let s : p ≡ o = prefix-same p o (sym same.0) in
    let here : e.Prefix t p y ≡ e.Prefix at o y = (let t_at : t ≡ at = is.placed.0 in cc) in (
      y,
      here,
      record {
        ranks = subst (λ (q : PrefixOperator). operand_rank q ≤ expression_rank y) s is.shaped.0;
        shaped = is.shaped.1;
        nests = omega arith;
        placed = is.placed.1;
      },
    )
prefix-within d at last o ks k (e.SizeOfType t b n) other is same =
    let s : prefix_kind o ≡ prefix_kind prefix.SizeOf = same.0 in absurd (other (prefix-same o prefix.SizeOf s))
prefix-within d at last o ks k (e.Chain l x ls) other is same = let r = is.ranks in absurd (chain-low l x ls (omega arith) is.shaped)
prefix-within d at last o ks k (e.Comma token xs) other is same = let r = is.ranks in absurd (omega arith)
prefix-within d at last o ks k (e.Assign token s x y) other is same = let r = is.ranks in absurd (omega arith)
prefix-within d at last o ks k (e.Conditional token x y z) other is same = let r = is.ranks in absurd (omega arith)
prefix-within d at last o ks k (e.Cast token b stars x) other is same = let r = is.ranks in absurd (omega arith)
prefix-within d at last o ks k x other is same = absurd (no-prefix last at o ks k x (omega arith) is.shaped same)

prefix-leads : (d : ℕ) (c : Cursor) (o : PrefixOperator) (r : ℕ) → operand_rank o ≡ r → 13 ≤ r → r ≤ 14 → (o ≡ prefix.SizeOf → ⊥) → prefix_at c.rest ≡ Some o
    → Leads (expression 14 d) (inner_expression r d) c (next_cursor c) (e.Prefix c.at o)
prefix-leads d c o r ranked large small other h =
    let whole : c.rest ≡ prefix_kind o ∷ kinds_behind_first c.rest = prefix-head c.rest o h in
    record {
      front = prefix_kinds o;
      whole = whole;
      moved = refl;
      build =
          λ y is. (let nests = is.nests in let ranks = is.ranks in record {
            ranks = omega arith;
            shaped = (omega arith, is.shaped);
            nests = omega arith;
            placed = (refl, is.placed);
          });
      spelled = λ y. refl;
      back = λ x k last is ends le same.
          (let w : Prefixed d c.at o x = prefix-within d c.at last o (kinds_behind_first c.rest) k x other is
          (subst (λ (v : Kinds). SameUpTo last c.at v (expr_kinds x ++ k)) whole same) in
          let ranks = w.2.ranks in
          (w.0, w.1, record { ranks = omega arith; shaped = w.2.shaped; nests = w.2.nests; placed = w.2.placed }, unary-ends r k large ends));
    }

prefix-flat : (c : Cursor) (o : PrefixOperator) → (o ≡ prefix.SizeOf → ⊥) → prefix_at c.rest ≡ Some o → Fails (expression 14 0) c c.at
prefix-flat c o other h = fails-here (expression 14 0) c (λ x k is ends same.
    (let w : Prefixed 0 c.at o x = prefix-within 0 c.at c.at o (kinds_behind_first c.rest) k x other is
    (subst (λ (v : Kinds). SameUpTo c.at c.at v (expr_kinds x ++ k)) (prefix-head c.rest o h) same) in
    let nests = w.2.nests in
    absurd (omega arith)))

prefix-parses : (d : ℕ) (o : PrefixOperator) (r : ℕ) (f : Cursor → Read ExprTree) → operand_rank o ≡ r → 13 ≤ r → r ≤ 14 → (o ≡ prefix.SizeOf → ⊥)
    → ((c : Cursor) → Outcome (inner_expression r d) c (f c))
    → (c : Cursor) → prefix_at c.rest ≡ Some o → Outcome (expression 14 d) c (prefix_by d o f c)
unfolding prefix_by
prefix-parses zero o r f ranked large small other parses c h = prefix-flat c o other h
prefix-parses (suc n) o r f ranked large small other parses c h =
    rw (suc_zero_test n) (finish (expression 14 (suc n)) (inner_expression r (suc n)) c (next_cursor c) (e.Prefix c.at o) (f (next_cursor c))
    (prefix-leads (suc n) c o r ranked large small other h) (parses (next_cursor c)))

prefix-same-at : (last at : ℕ) (ks k : Kinds) (o : PrefixOperator) → SameUpTo last at ks (prefix_kinds o ++ k) → prefix_at ks ≡ Some o
prefix-same-at last at [] k o same = absurd same
prefix-same-at last at (t ∷ ks) k o same = ap prefix_of same.0 ∙ prefix-back o

-- where no prefix operator stands
no-prefix-narrows : (d : ℕ) (c : Cursor) → prefix_at c.rest ≡ None → (x : ExprTree) (k : Kinds) (last : ℕ) → IsExpr 14 d c.at x
    → SameUpTo last c.at c.rest (expr_kinds x ++ k) → IsExpr 15 d c.at x
no-prefix-narrows d c h (e.Prefix t o y) k last is same =
    let p : prefix_at c.rest ≡ Some o =
    prefix-same-at last c.at c.rest (expr_kinds y ++ k) o (subst (λ (v : Kinds). SameUpTo last c.at c.rest v)
    (append_assoc (prefix_kinds o) (expr_kinds y) k) same) in cc
no-prefix-narrows d c h (e.SizeOfType t b n) k last is same =
    let p : prefix_at c.rest ≡ Some prefix.SizeOf = prefix-same-at last c.at c.rest _ prefix.SizeOf same in cc
no-prefix-narrows d c h (e.Chain l x ls) k last is same = let r = is.ranks in absurd (chain-low l x ls (omega arith) is.shaped)
no-prefix-narrows d c h x k last is same = let r = is.ranks in record { ranks = omega arith; shaped = is.shaped; nests = is.nests; placed = is.placed }

none-parses : (d : ℕ) (c : Cursor) (r : Read ExprTree) → prefix_at c.rest ≡ None → Outcome (expression 15 d) c r → Outcome (expression 14 d) c r
none-parses d c r h o =
    leads-outcome (expression 14 d) (expression 15 d) c c r
    (leads-here (expression 14 d) (expression 15 d) c (λ x. x)
    (λ x is. (let ranks = is.ranks in record { ranks = omega arith; shaped = is.shaped; nests = is.nests; placed = is.placed }))
    (λ x. refl)
    (λ x k last is ends le same. (x, refl, no-prefix-narrows d c h x k last is same, ends-more 14 15 k (omega arith) ends)))
    o

-- `sizeof`
abbrev size_kind : TokenKind
size_kind = prefix_kind prefix.SizeOf

-- of an expression: where no type can stand
size-within : (d at last : ℕ) (ks k : Kinds) (x : ExprTree) → IsExpr 14 d at x
    → ((b : Base) (n : ℕ) → SameUpTo last at (size_kind ∷ ks) (expr_kinds (e.SizeOfType at b n) ++ k) → ⊥)
    → SameUpTo last at (size_kind ∷ ks) (expr_kinds x ++ k) → Prefixed d at prefix.SizeOf x
size-within d at last ks k (e.Prefix t p y) is no_type same =
    let nests = is.nests in
    let s : p ≡ prefix.SizeOf = prefix-same p prefix.SizeOf (sym same.0) in
    let here : e.Prefix t p y ≡ e.Prefix at prefix.SizeOf y = (let t_at : t ≡ at = is.placed.0 in cc) in (
      y,
      here,
      record {
        ranks = subst (λ (q : PrefixOperator). operand_rank q ≤ expression_rank y) s is.shaped.0;
        shaped = is.shaped.1;
        nests = omega arith;
        placed = is.placed.1;
      },
    )
size-within d at last ks k (e.SizeOfType t b n) is no_type same = absurd (no_type b n same)
size-within d at last ks k (e.Chain l x ls) is no_type same = let r = is.ranks in absurd (chain-low l x ls (omega arith) is.shaped)
size-within d at last ks k (e.Comma token xs) is no_type same = let r = is.ranks in absurd (omega arith)
size-within d at last ks k (e.Assign token s x y) is no_type same = let r = is.ranks in absurd (omega arith)
size-within d at last ks k (e.Conditional token x y z) is no_type same = let r = is.ranks in absurd (omega arith)
size-within d at last ks k (e.Cast token b stars x) is no_type same = let r = is.ranks in absurd (omega arith)
size-within d at last ks k x is no_type same = absurd (no-prefix last at prefix.SizeOf ks k x (omega arith) is.shaped same)

-- unary expressions but `sizeof` of a type
pub record IsOperated (d at : ℕ) (x : ExprTree) : Type 0 where
  pub is : IsExpr 14 d at x
  pub operand : Prefixed d at prefix.SizeOf x

abbrev operated : (d : ℕ) → Rule ExprTree
operated d = record { Is = IsOperated d; spell = expr_kinds; Ends = λ x k. EndsAt 14 k }

operated-leads : (d : ℕ) (c : Cursor) → prefix_at c.rest ≡ Some prefix.SizeOf → Leads (operated d) (inner_expression 14 d) c (next_cursor c) (e.Prefix c.at prefix.SizeOf)
operated-leads d c h = record {
  front = prefix_kinds prefix.SizeOf;
  whole = prefix-head c.rest prefix.SizeOf h;
  moved = refl;
  build = λ y is. (let nests = is.nests in record {
    is = record { ranks = omega arith; shaped = (is.ranks, is.shaped); nests = omega arith; placed = (refl, is.placed) };
    operand = (y, refl, record { ranks = is.ranks; shaped = is.shaped; nests = is.nests; placed = is.placed });
  });
  spelled = λ y. refl;
  back = λ x k last is ends le same. (is.operand.0, is.operand.1, is.operand.2, ends);
}

operand-parses : (d : ℕ) (deeper : Parsers) → ((c : Cursor) → Outcome (inner_expression 14 d) c (deeper.unary c)) → (c : Cursor) → prefix_at c.rest ≡ Some prefix.SizeOf
    → Outcome (operated d) c (size_of_operand deeper c)
unfolding size_of_operand
operand-parses d deeper o c h =
    finish (operated d) (inner_expression 14 d) c (next_cursor c) (e.Prefix c.at prefix.SizeOf) (deeper.unary (next_cursor c)) (operated-leads d c h) (o (next_cursor c))

-- a type's parenthesis is the second token, its base the third
type-second : (last at : ℕ) (ks k : Kinds) (t n : ℕ) (b : Base) → at < last → SameUpTo last at (size_kind ∷ ks) (expr_kinds (e.SizeOfType t b n) ++ k)
    → sign_at ks ≡ Some sign_is.LeftParen
type-second last at ks k t n b below same = same-sign last (at + 1) ks _ sign_is.LeftParen (same.1 below)

type-rest : (b : Base) (n : ℕ) (k : Kinds)
    → ((base_kinds b ++ star_kinds n) ++ a_sign sign_is.RightParen) ++ k ≡ base_kinds b ++ ((star_kinds n ++ a_sign sign_is.RightParen) ++ k)
type-rest b n k =
    ap (λ (v : Kinds). v ++ k) (append_assoc (base_kinds b) (star_kinds n) (a_sign sign_is.RightParen)) ∙ append_assoc (base_kinds b)
    (star_kinds n ++ a_sign sign_is.RightParen) k

type-third : (last at : ℕ) (ks k : Kinds) (t n : ℕ) (b : Base) → at + 1 < last
    → SameUpTo last at (size_kind ∷ kind.Punctuator sign_is.LeftParen ∷ ks) (expr_kinds (e.SizeOfType t b n) ++ k) → begins_type ks ≡ true
type-third last at ks k t n b below same =
    let first_below : at < last = omega arith in
    let rest = (same.1 first_below).1 below in
    base-begins last (at + 1 + 1) ks ((star_kinds n ++ a_sign sign_is.RightParen) ++ k) b
    (subst (λ (v : Kinds). SameUpTo last (at + 1 + 1) ks v) (type-rest b n k) rest)

-- `sizeof` without a parenthesis behind it
bare-leads : (d : ℕ) (c : Cursor) → prefix_at c.rest ≡ Some prefix.SizeOf → (sign_at (kinds_behind_first c.rest) ≡ Some sign_is.LeftParen → ⊥)
    → Leads (expression 14 d) (inner_expression 14 d) c (next_cursor c) (e.Prefix c.at prefix.SizeOf)
bare-leads d c h other =
    let whole : c.rest ≡ size_kind ∷ kinds_behind_first c.rest = prefix-head c.rest prefix.SizeOf h in
    record {
      front = prefix_kinds prefix.SizeOf;
      whole = whole;
      moved = refl;
      build =
          λ y is. (let nests = is.nests in record { ranks = omega arith; shaped = (is.ranks, is.shaped); nests = omega arith; placed = (refl, is.placed) });
      spelled = λ y. refl;
      back = λ x k last is ends le same.
          (let w : Prefixed d c.at prefix.SizeOf x = size-within d c.at last (kinds_behind_first c.rest) k x is
          (λ b n both. other (type-second last c.at (kinds_behind_first c.rest) k c.at n b (omega arith) both))
          (subst (λ (v : Kinds). SameUpTo last c.at v (expr_kinds x ++ k)) whole same) in
          (w.0, w.1, w.2, ends));
    }

bare-parses : (d : ℕ) (deeper : Parsers) → ((c : Cursor) → Outcome (inner_expression 14 d) c (deeper.unary c)) → (c : Cursor) → prefix_at c.rest ≡ Some prefix.SizeOf
    → (sign_at (kinds_behind_first c.rest) ≡ Some sign_is.LeftParen → ⊥)
    → Outcome (expression 14 d) c (size_of_operand deeper c)
unfolding size_of_operand
bare-parses d deeper o c h other =
    finish (expression 14 d) (inner_expression 14 d) c (next_cursor c) (e.Prefix c.at prefix.SizeOf) (deeper.unary (next_cursor c)) (bare-leads d c h other) (o (next_cursor c))

-- with one that no type follows
size-whole : (c : Cursor) → prefix_at c.rest ≡ Some prefix.SizeOf → sign_at (kinds_behind_first c.rest) ≡ Some sign_is.LeftParen
    → c.rest ≡ size_kind ∷ kind.Punctuator sign_is.LeftParen ∷ kinds_behind_first (kinds_behind_first c.rest)
size-whole c h p = prefix-head c.rest prefix.SizeOf h ∙ ap (λ (v : Kinds). size_kind ∷ v) (sign-head (kinds_behind_first c.rest) sign_is.LeftParen p)

no-type : (c : Cursor) (last : ℕ) (k : Kinds) (b : Base) (n : ℕ) → begins_type (kinds_behind_first (kinds_behind_first c.rest)) ≡ false → c.at + 2 ≤ last
    → SameUpTo last c.at (size_kind ∷ kind.Punctuator sign_is.LeftParen ∷ kinds_behind_first (kinds_behind_first c.rest)) (expr_kinds (e.SizeOfType c.at b n) ++ k) → ⊥
no-type c last k b n f le same =
    let t : begins_type (kinds_behind_first (kinds_behind_first c.rest)) ≡ true = type-third last c.at (kinds_behind_first (kinds_behind_first c.rest)) k c.at n b (omega arith) same in cc

paren-within : (d : ℕ) (c : Cursor) → prefix_at c.rest ≡ Some prefix.SizeOf → sign_at (kinds_behind_first c.rest) ≡ Some sign_is.LeftParen
    → begins_type (kinds_behind_first (kinds_behind_first c.rest)) ≡ false
    → (x : ExprTree) (k : Kinds) (last : ℕ) → IsExpr 14 d c.at x → c.at + 2 ≤ last → SameUpTo last c.at c.rest (expr_kinds x ++ k)
    → Prefixed d c.at prefix.SizeOf x
paren-within d c h p f x k last is le same =
    size-within d c.at last (kind.Punctuator sign_is.LeftParen ∷ kinds_behind_first (kinds_behind_first c.rest)) k x is (λ b n both. no-type c last k b n f le both)
    (subst (λ (v : Kinds). SameUpTo last c.at v (expr_kinds x ++ k)) (size-whole c h p) same)

size-narrows : (d : ℕ) (c : Cursor) → prefix_at c.rest ≡ Some prefix.SizeOf → sign_at (kinds_behind_first c.rest) ≡ Some sign_is.LeftParen
    → begins_type (kinds_behind_first (kinds_behind_first c.rest)) ≡ false → Narrows (expression 14 d) (operated d) c (c.at + 2)
size-narrows d c h p f = record {
  build = λ x is. is.is;
  spelled = λ x. refl;
  back = λ x k last is ends le same. (record { is = is; operand = paren-within d c h p f x k last is le same }, ends);
}

pub some-token : (a : Kinds) → StartsAt a → 1 ≤ length a
some-token [] h = absurd h
some-token (x ∷ a) h = omega arith

operated-far : (d : ℕ) (c to : Cursor) (x : ExprTree) → Found (operated d) c x to → c.at + 2 ≤ to.at
operated-far d c to x f =
    let operand = f.is.operand in
    let moved : to.at ≡ c.at + length (expr_kinds (e.Prefix c.at prefix.SizeOf operand.0)) =
    subst (λ (v : ExprTree). to.at ≡ c.at + length (expr_kinds v)) operand.1 f.moved in
    let some : 1 ≤ length (expr_kinds operand.0) = some-token (expr_kinds operand.0) (starts-expr operand.0 operand.2.shaped) in
    omega arith

-- such an expression may begin so
paren-witness : (d : ℕ) (c : Cursor) (last : ℕ) → 2 ≤ d → prefix_at c.rest ≡ Some prefix.SizeOf → sign_at (kinds_behind_first c.rest) ≡ Some sign_is.LeftParen
    → Fails (operated d) c last → last < c.at + 2 → ⊥
paren-witness d c last deep h p f early =
    let y : ExprTree = e.Paren (c.at + 1) (e.Null (c.at + 1 + 1)) in
    f.none (e.Prefix c.at prefix.SizeOf y) []
    (record {
      is = record { ranks = omega arith; shaped = (omega arith, tt); nests = omega arith; placed = (refl, (refl, refl)) };
      operand = (y, refl, record { ranks = omega arith; shaped = tt; nests = omega arith; placed = (refl, refl) });
    })
    (record { by = omega arith })
    (subst (λ (v : Kinds). SameUpTo last c.at v (expr_kinds (e.Prefix c.at prefix.SizeOf y) ++ [])) (sym (size-whole c h p))
    (refl, λ below. (refl, λ more. absurd (omega arith))))

operated-late : (d : ℕ) (c : Cursor) (last : ℕ) → 2 ≤ d → prefix_at c.rest ≡ Some prefix.SizeOf → sign_at (kinds_behind_first c.rest) ≡ Some sign_is.LeftParen
    → Fails (operated d) c last → c.at + 2 ≤ last
operated-late d c last deep h p f = elim (cases_lt last (c.at + 2)) [ inl early ↦ absurd (paren-witness d c last deep h p f early) | inr late ↦ late ]

paren-flat : (d : ℕ) (c : Cursor) → d < 2 → prefix_at c.rest ≡ Some prefix.SizeOf → sign_at (kinds_behind_first c.rest) ≡ Some sign_is.LeftParen
    → begins_type (kinds_behind_first (kinds_behind_first c.rest)) ≡ false → Fails (expression 14 d) c (c.at + 2)
paren-flat d c flat h p f = record {
  from = omega arith;
  within = (let long : length c.rest ≡ length (size_kind ∷ kind.Punctuator sign_is.LeftParen ∷ kinds_behind_first (kinds_behind_first c.rest)) = ap length
      (size-whole c h p) in omega arith);
  none = λ x k is ends same.
      (let w : Prefixed d c.at prefix.SizeOf x = paren-within d c h p f x k (c.at + 2) is (omega arith) same in
      let s1 : SameUpTo (c.at + 2) c.at (size_kind ∷ kind.Punctuator sign_is.LeftParen ∷ kinds_behind_first (kinds_behind_first c.rest))
      (expr_kinds (e.Prefix c.at prefix.SizeOf w.0) ++ k) =
      subst (λ (v : ExprTree). SameUpTo (c.at + 2) c.at (size_kind ∷ kind.Punctuator sign_is.LeftParen ∷ kinds_behind_first (kinds_behind_first c.rest)) (expr_kinds v ++ k)) w.1
      (subst (λ (v : Kinds). SameUpTo (c.at + 2) c.at v (expr_kinds x ++ k)) (size-whole c h p) same) in
      let below : c.at < c.at + 2 = omega arith in
      let ranks = w.2.ranks in
      let deep : 1 ≤ expr_nesting w.0 = paren-deep w.0 (c.at + 2) (c.at + 1) (kinds_behind_first (kinds_behind_first c.rest)) k (omega arith) w.2.shaped (s1.1 below) in
      let nests = w.2.nests in
      absurd (omega arith));
}

size-paren-parses : (d : ℕ) (deeper : Parsers) → ((c : Cursor) → Outcome (inner_expression 14 d) c (deeper.unary c)) → (c : Cursor)
    → prefix_at c.rest ≡ Some prefix.SizeOf → sign_at (kinds_behind_first c.rest) ≡ Some sign_is.LeftParen → begins_type (kinds_behind_first (kinds_behind_first c.rest)) ≡ false
    → Outcome (expression 14 d) c (size_of_paren d deeper c)
unfolding size_of_paren
size-paren-parses d deeper o c h p f = elim (cases_lt d 2) [
  | inl flat ↦ (let t : nat_lt d 2 ≡ true = grind arith in rw t (subst (λ (m : ℕ). Fails (expression 14 d) c m)
      (let two : c.at + 2 ≡ c.at + 1 + 1 = omega arith in two) (paren-flat d c flat h p f)))
  | inr deep ↦ (let n : nat_lt d 2 ≡ false = grind arith in rw n (narrows-outcome (expression 14 d) (operated d) c (c.at + 2) (size_of_operand deeper c)
      (size-narrows d c h p f)
      (λ x to found. operated-far d c to x found) (λ last fails. operated-late d c last deep h p fails) (operand-parses d deeper o c h)))
]

-- of a type
type-within : (d at last : ℕ) (ks k : Kinds) (x : ExprTree) → begins_type ks ≡ true → at + 2 ≤ last → IsExpr 14 d at x
    → SameUpTo last at (size_kind ∷ kind.Punctuator sign_is.LeftParen ∷ ks) (expr_kinds x ++ k)
    → (t : Base × ℕ) × (x ≡ e.SizeOfType at t.0 t.1) × (BaseAt (at + 1 + 1) t.0 × (t.1 ≤ d))
type-within d at last ks k (e.SizeOfType t b n) begins le is same =
    let two : at + 2 ≡ at + 1 + 1 = omega arith in
    ((b, n), ap (λ (m : ℕ). e.SizeOfType m b n) is.placed.0, (subst (λ (m : ℕ). BaseAt m b) two is.placed.1, is.nests))
type-within d at last ks k (e.Prefix t p y) begins le is same =
    let s : p ≡ prefix.SizeOf = prefix-same p prefix.SizeOf (sym same.0) in
    let low : 14 ≤ expression_rank y = subst (λ (q : PrefixOperator). operand_rank q ≤ expression_rank y) s is.shaped.0 in
    let below : at < last = omega arith in
    absurd (type-no_start ks begins (paren-second y last (at + 1) ks k low is.shaped.1 (omega arith) (same.1 below)))
type-within d at last ks k (e.Chain l x ls) begins le is same = let r = is.ranks in absurd (chain-low l x ls (omega arith) is.shaped)
type-within d at last ks k (e.Comma token xs) begins le is same = let r = is.ranks in absurd (omega arith)
type-within d at last ks k (e.Assign token s x y) begins le is same = let r = is.ranks in absurd (omega arith)
type-within d at last ks k (e.Conditional token x y z) begins le is same = let r = is.ranks in absurd (omega arith)
type-within d at last ks k (e.Cast token b stars x) begins le is same = let r = is.ranks in absurd (omega arith)
type-within d at last ks k x begins le is same =
    absurd (no-prefix last at prefix.SizeOf (kind.Punctuator sign_is.LeftParen ∷ ks) k x (omega arith) is.shaped same)

type-leads : (d : ℕ) (c : Cursor) → prefix_at c.rest ≡ Some prefix.SizeOf → sign_at (kinds_behind_first c.rest) ≡ Some sign_is.LeftParen
    → begins_type (kinds_behind_first (kinds_behind_first c.rest)) ≡ true
    → Leads (expression 14 d) (rule_before_sign (type_name d) sign_is.RightParen) c (next_cursor (next_cursor c)) (λ t. e.SizeOfType c.at t.0 t.1)
type-leads d c h p begins =
    let two : c.at + 1 + 1 ≡ c.at + 2 = omega arith in
    record {
      front = size_kind ∷ kind.Punctuator sign_is.LeftParen ∷ [];
      whole = size-whole c h p;
      moved = omega arith;
      build = λ t is. record { ranks = omega arith; shaped = tt; nests = is.1; placed = (refl, subst (λ (m : ℕ). BaseAt m t.0) two is.0) };
      spelled = λ t. refl;
      back = λ x k last is ends le same.
          (let w = type-within d c.at last (kinds_behind_first (kinds_behind_first c.rest)) k x begins (omega arith) is
          (subst (λ (v : Kinds). SameUpTo last c.at v (expr_kinds x ++ k)) (size-whole c h p) same) in
          (w.0, w.1, w.2, record {}));
    }

size-type-parses : (d : ℕ) (c : Cursor) → prefix_at c.rest ≡ Some prefix.SizeOf → sign_at (kinds_behind_first c.rest) ≡ Some sign_is.LeftParen
    → begins_type (kinds_behind_first (kinds_behind_first c.rest)) ≡ true → Outcome (expression 14 d) c (size_of_type d c)
unfolding size_of_type
size-type-parses d c h p begins =
    finish (expression 14 d) (rule_before_sign (type_name d) sign_is.RightParen) c (next_cursor (next_cursor c)) (λ t. e.SizeOfType c.at t.0 t.1) (closed_type d (next_cursor (next_cursor c)))
    (type-leads d c h p begins) (closed-type-parses d (next_cursor (next_cursor c)))

-- a parenthesis, and whether a type follows it
pub opens-both : (k : Kinds) → opens_type k ≡ true → (sign_at k ≡ Some sign_is.LeftParen) × (begins_type (kinds_behind_first k) ≡ true)
opens-both k h = elim (cases_Bool (begins_with_sign sign_is.LeftParen k)) [
  | inl t ↦ (stands-sign sign_is.LeftParen k (omega arith) t, (let e : opens_type k ≡ begins_type (kinds_behind_first k) = rw t refl in sym e ∙ h))
  | inr f ↦ (let e : opens_type k ≡ false = rw f refl in let n : true ≡ false = sym h ∙ e in cc)
]

pub opens-not : (k : Kinds) → opens_type k ≡ false → sign_at k ≡ Some sign_is.LeftParen → begins_type (kinds_behind_first k) ≡ false
opens-not k h p = let e : opens_type k ≡ begins_type (kinds_behind_first k) = rw (sign-stands sign_is.LeftParen k p) refl in sym e ∙ h

size-other : (d : ℕ) (deeper : Parsers) → ((c : Cursor) → Outcome (inner_expression 14 d) c (deeper.unary c)) → (c : Cursor) → prefix_at c.rest ≡ Some prefix.SizeOf
    → opens_type (kinds_behind_first c.rest) ≡ false
    → Outcome (expression 14 d) c (if◌then◌else◌ (begins_with_sign sign_is.LeftParen (kinds_behind_first c.rest)) (size_of_paren d deeper c) (size_of_operand deeper c))
size-other d deeper o c h shut = elim (cases_Bool (begins_with_sign sign_is.LeftParen (kinds_behind_first c.rest))) [
  | inl t ↦ (let p = stands-sign sign_is.LeftParen (kinds_behind_first c.rest) (omega arith) t in rw t
      (size-paren-parses d deeper o c h p (opens-not (kinds_behind_first c.rest) shut p)))
  | inr f ↦ rw f (bare-parses d deeper o c h (λ p. let t = sign-stands sign_is.LeftParen (kinds_behind_first c.rest) p in cc))
]

size-parses : (d : ℕ) (deeper : Parsers) → ((c : Cursor) → Outcome (inner_expression 14 d) c (deeper.unary c)) → (c : Cursor) → prefix_at c.rest ≡ Some prefix.SizeOf
    → Outcome (expression 14 d) c (size_of_by d deeper c)
unfolding size_of_by
size-parses d deeper o c h = elim (cases_Bool (opens_type (kinds_behind_first c.rest))) [
  | inl t ↦ (let both = opens-both (kinds_behind_first c.rest) t in rw t (size-type-parses d c h both.0 both.1))
  | inr f ↦ rw f (size-other d deeper o c h f)
]

unary-of : (d : ℕ) (deeper : Parsers) → ((c : Cursor) → Outcome (inner_expression 14 d) c (deeper.unary c)) → ((c : Cursor) → Outcome (inner_expression 13 d) c (deeper.cast c))
    → ((c : Cursor) → Outcome (expression 15 d) c (postfix_by d deeper c))
    → (c : Cursor) (o : Option PrefixOperator) → prefix_at c.rest ≡ o → Outcome (expression 14 d) c (unary_of d deeper c o)
unfolding operand_by
unary-of d deeper unary cast postfix c None h = none-parses d c (postfix_by d deeper c) h (postfix c)
unary-of d deeper unary cast postfix c (Some prefix.SizeOf) h = size-parses d deeper unary c h
unary-of d deeper unary cast postfix c (Some prefix.Increment) h =
    prefix-parses d prefix.Increment 14 (operand_by deeper prefix.Increment) refl (omega arith) (omega arith) (λ s. cc) unary c h
unary-of d deeper unary cast postfix c (Some prefix.Decrement) h =
    prefix-parses d prefix.Decrement 14 (operand_by deeper prefix.Decrement) refl (omega arith) (omega arith) (λ s. cc) unary c h
unary-of d deeper unary cast postfix c (Some o) h = prefix-parses d o 13 (operand_by deeper o) refl (omega arith) (omega arith) (λ s. cc) cast c h

pub unary-parses : (d : ℕ) (deeper : Parsers) → ((c : Cursor) → Outcome (inner_expression 14 d) c (deeper.unary c))
    → ((c : Cursor) → Outcome (inner_expression 13 d) c (deeper.cast c)) → ((c : Cursor) → Outcome (expression 15 d) c (postfix_by d deeper c))
    → (c : Cursor) → Outcome (expression 14 d) c (unary_by d deeper c)
unfolding unary_by
unary-parses d deeper unary cast postfix c = unary-of d deeper unary cast postfix c (prefix_at c.rest) refl
