-- What lies one deeper, where something may.
use Rattle.std.proofs.Common.{◌≡◌, ℕ, zero, suc, ◌+◌, ◌-◌, ◌≤◌, true, false, Option, Some, None, Err, refl, sym, ap, ◌∙◌, subst, arith}
use Rattle.std.proofs.Common.{[], ◌∷◌}
use Rattle.std.specs.Option.{IsSome}
use Rattle.c_syntax.specs.declared.token.Sign.{Sign}
use Rattle.c_syntax.specs.declared.token.Sign.TheVariants as sign
use Rattle.c_syntax.specs.declared.expr.PrefixOperator.{PrefixOperator}
use Rattle.c_syntax.specs.declared.expr.PrefixOperator.TheVariants as prefix
use Rattle.c_syntax.specs.Words.{Kinds, ExprTree}
use Rattle.c_parser_expressions.specs.Reading.{Cursor, Read, first_kind, next_cursor, sign_at}
use Rattle.c_parser_expressions.specs.Marks.{begins_with_sign}
use Rattle.c_parser_expressions.specs.Operators.{is_step}
use Rattle.c_parser_expressions.specs.ExpressionParser.{Parsers, the_stars, parser_layer, no_parsers, deeper_than, operand_by, unary_by, cast_by, level_by, chain_by, conditional_by}
use Rattle.c_parser_expressions.specs.ExpressionParser.{assignment_by, whole_by, list_by, closed_list, assignment_sign, begins_choices, opens_type, prefix_at, postfix_sign_of}
use Rattle.c_parser_expressions.specs.ExpressionParser.{postfix_sign, level_sign}
use Rattle.c_parser_expressions.proofs.Heads.{sign_first, stands_some}
use Rattle.c_parser_expressions.proofs.Unary.{opens-both}
use Rattle.c_parser_expressions.proofs.Chains.{sign-level}
use Rattle.c_parser_expressions.proofs.Choices.{chooses-both}
use Rattle.c_parser_expressions.proofs.Assignments.{assigns-some}
use Rattle.c_parser_expressions.proofs.WholeParses.{parsers-at}

below : (n : ℕ) → deeper_than (suc n) ≡ parser_layer n (deeper_than n)
unfolding deeper_than
below n = parsers-at n

one-less : (n : ℕ) → suc n - 1 ≡ n
one-less n = omega arith

pub deeper_whole : (d : ℕ) → (d ≡ 0 → ⊥) → (deeper_than d).whole ≡ whole_by (d - 1) (deeper_than (d - 1))
unfolding parser_layer
deeper_whole zero h = absurd (h refl)
deeper_whole (suc n) h = ap (λ (p : Parsers). p.whole) (below n) ∙ ap (λ (m : ℕ). whole_by m (deeper_than m)) (sym (one-less n))

pub deeper_assignment : (d : ℕ) → (d ≡ 0 → ⊥) → (deeper_than d).assignment ≡ assignment_by (d - 1) (deeper_than (d - 1))
unfolding parser_layer
deeper_assignment zero h = absurd (h refl)
deeper_assignment (suc n) h = ap (λ (p : Parsers). p.assignment) (below n) ∙ ap (λ (m : ℕ). assignment_by m (deeper_than m)) (sym (one-less n))

pub deeper_conditional : (d : ℕ) → (d ≡ 0 → ⊥) → (deeper_than d).conditional ≡ conditional_by (d - 1) (deeper_than (d - 1))
unfolding parser_layer
deeper_conditional zero h = absurd (h refl)
deeper_conditional (suc n) h = ap (λ (p : Parsers). p.conditional) (below n) ∙ ap (λ (m : ℕ). conditional_by m (deeper_than m)) (sym (one-less n))

pub deeper_cast : (d : ℕ) → (d ≡ 0 → ⊥) → (deeper_than d).cast ≡ cast_by (d - 1) (deeper_than (d - 1))
unfolding parser_layer
deeper_cast zero h = absurd (h refl)
deeper_cast (suc n) h = ap (λ (p : Parsers). p.cast) (below n) ∙ ap (λ (m : ℕ). cast_by m (deeper_than m)) (sym (one-less n))

pub deeper_unary : (d : ℕ) → (d ≡ 0 → ⊥) → (deeper_than d).unary ≡ unary_by (d - 1) (deeper_than (d - 1))
unfolding parser_layer
deeper_unary zero h = absurd (h refl)
deeper_unary (suc n) h = ap (λ (p : Parsers). p.unary) (below n) ∙ ap (λ (m : ℕ). unary_by m (deeper_than m)) (sym (one-less n))

pub flat_assignment : (d : ℕ) (c : Cursor) → d ≡ 0 → closed_list (deeper_than d).assignment c ≡ Err c.at
unfolding closed_list list_by deeper_than no_parsers
flat_assignment zero c h = refl
flat_assignment (suc n) c h = absurd (omega arith)

pub flat_unary : (d : ℕ) (c : Cursor) → d ≡ 0 → (deeper_than d).unary c ≡ Err c.at
unfolding deeper_than no_parsers
flat_unary zero c h = refl
flat_unary (suc n) c h = absurd (omega arith)

-- what an operator stands before
pub operand_unary : (p : Parsers) (o : PrefixOperator) (c : Cursor) → is_step o ≡ true → operand_by p o c ≡ p.unary c
unfolding operand_by
operand_unary p prefix.Increment c h = refl
operand_unary p prefix.Decrement c h = refl
operand_unary p o c h = cc

pub operand_cast : (p : Parsers) (o : PrefixOperator) (c : Cursor) → is_step o ≡ false → operand_by p o c ≡ p.cast c
unfolding operand_by
operand_cast p prefix.Increment c h = cc
operand_cast p prefix.Decrement c h = cc
operand_cast p o c h = refl

-- a chain of the levels from one on
pub chain_end : (level : ℕ) (operand : Cursor → Read ExprTree) (c : Cursor) → level ≡ 11 → chain_by (11 - level) operand c ≡ operand c
unfolding chain_by
chain_end level operand c h = ap (λ (n : ℕ). chain_by n operand c) (let e : 11 - level ≡ 0 = omega arith in e)

pub chain_more : (level : ℕ) (operand : Cursor → Read ExprTree) (c : Cursor) → 1 ≤ level → level ≤ 10
    → chain_by (11 - level) operand c ≡ level_by (chain_by (11 - (level + 1)) operand) level c
unfolding chain_by
chain_more level operand c low high =
    let e : 11 - level ≡ suc (11 - (level + 1)) = omega arith in
    let l : 10 - (11 - (level + 1)) ≡ level = omega arith in
    ap (λ (n : ℕ). chain_by n operand c) e ∙ ap (λ (m : ℕ). level_by (chain_by (11 - (level + 1)) operand) m c) l

-- stars, one by one
pub stars_none : (most : ℕ) (c : Cursor) → most ≡ 0 → ◌≡◌ {A = ℕ × Cursor} (the_stars most c) (0, c)
unfolding the_stars
stars_none zero c h = refl
stars_none (suc n) c h = absurd (omega arith)

pub stars_other : (most : ℕ) (c : Cursor) → begins_with_sign sign.Star c.rest ≡ false → ◌≡◌ {A = ℕ × Cursor} (the_stars most c) (0, c)
unfolding the_stars
stars_other zero c h = refl
stars_other (suc n) c h = rw h refl

pub stars_more : (most m : ℕ) (c to : Cursor) → (most ≡ 0 → ⊥) → begins_with_sign sign.Star c.rest ≡ true
    → ◌≡◌ {A = ℕ × Cursor} (the_stars (most - 1) (next_cursor c)) (m, to) → ◌≡◌ {A = ℕ × Cursor} (the_stars most c) (m + 1, to)
unfolding the_stars
stars_more zero m c to h t s = absurd (h refl)
stars_more (suc n) m c to h t s =
    let less : ◌≡◌ {A = ℕ × Cursor} (the_stars n (next_cursor c)) (m, to) =
    subst (λ (k : ℕ). ◌≡◌ {A = ℕ × Cursor} (the_stars k (next_cursor c)) (m, to)) (one-less n) s in
    rw t (ap {B = ℕ × Cursor} (λ (p : ℕ × Cursor). (p.0 + 1, p.1)) less)

-- What a sign tells of the depth, and of the tokens.
pub assigns_deep : (d : ℕ) (x : ExprTree) (k : Kinds) (s : Sign) → assignment_sign d x k ≡ Some s → 1 ≤ d
unfolding assignment_sign
assigns_deep zero x k s h = cc
assigns_deep (suc n) x k s h = omega arith

pub assigns_first : (d : ℕ) (x : ExprTree) (k : Kinds) (s : Sign) → assignment_sign d x k ≡ Some s → IsSome (first_kind k)
assigns_first d x k s h = sign_first k s (assigns-some d x k s h).1.0

pub chooses_deep : (d : ℕ) (k : Kinds) → begins_choices d k ≡ true → 1 ≤ d
chooses_deep zero k h = cc
chooses_deep (suc n) k h = omega arith

pub chooses_first : (d : ℕ) (k : Kinds) → begins_choices d k ≡ true → IsSome (first_kind k)
chooses_first d k h = stands_some sign.Question k (omega arith) (chooses-both d k h)

pub opens_first : (k : Kinds) → opens_type k ≡ true → IsSome (first_kind k)
opens_first k h = sign_first k sign.LeftParen (opens-both k h).0

pub prefix_first : (k : Kinds) (o : PrefixOperator) → prefix_at k ≡ Some o → IsSome (first_kind k)
prefix_first [] o h = cc
prefix_first (x ∷ k) o h = refl

postfix-sign-at : (d : ℕ) (o : Option Sign) (s : Sign) → postfix_sign_of d o ≡ Some s → IsSome o
postfix-sign-at d None s h = cc
postfix-sign-at d (Some t) s h = refl

sign-some : (k : Kinds) → IsSome (sign_at k) → IsSome (first_kind k)
sign-some [] h = h
sign-some (x ∷ k) h = refl

pub postfix_first : (d : ℕ) (k : Kinds) (s : Sign) → postfix_sign d k ≡ Some s → IsSome (first_kind k)
unfolding postfix_sign
postfix_first d k s h = sign-some k (postfix-sign-at d (sign_at k) s h)

index-of : (o : Option Sign) → postfix_sign_of 0 o ≡ Some sign.LeftBracket → ⊥
index-of (Some sign.LeftBracket) h = cc
index-of (Some sign.Dot) h = cc
index-of (Some sign.Arrow) h = cc
index-of (Some sign.PlusPlus) h = cc
index-of (Some sign.MinusMinus) h = cc
index-of o h = cc

pub index_deep : (d : ℕ) (k : Kinds) → postfix_sign d k ≡ Some sign.LeftBracket → 1 ≤ d
unfolding postfix_sign
index_deep zero k h = absurd (index-of (sign_at k) h)
index_deep (suc n) k h = omega arith

pub level_first : (level : ℕ) (k : Kinds) (s : Sign) → level_sign level k ≡ Some s → IsSome (first_kind k)
unfolding level_sign
level_first level k s h = sign_first k s (sign-level level (sign_at k) s h).0
