-- The rules of expressions say what the walks say.
use Rattle.std.proofs.Common.{◌≡◌, ℕ, ◌+◌, ◌≤◌, max, List, [], ◌∷◌, ◌++◌, length, replicate, if◌then◌else◌, refl, sym, subst, arith}
use Rattle.c_syntax.specs.declared.token.Sign.TheVariants as sign
use Rattle.c_syntax.specs.declared.token.Word.TheVariants as word
use Rattle.c_syntax.specs.declared.token.TokenKind.TheVariants as kind
use Rattle.c_syntax.specs.declared.parts.Base.{Base}
use Rattle.c_syntax.specs.declared.parts.Base.TheVariants as base
use Rattle.c_syntax.specs.ExprTree as e
use Rattle.c_syntax.specs.Words.{arguments_nesting, BaseAt, base_kinds, expr_kinds, expr_nesting, ExprAt, expression_rank, ExprList, exprs_kinds, exprs_nesting, ExprsAt}
use Rattle.c_syntax.specs.Words.{ExprTree, HasLink, HasPostfix, link_kinds, LinkList, links_nesting, LinksAt, more_exprs_kinds, operand_rank, postfix_kinds}
use Rattle.c_syntax.specs.Words.{postfix_nesting, PostfixAt, PostfixList, prefix_kinds, ShapedExpr, ShapedExprs, ShapedLinks, ShapedPostfix, text_kinds, type_kinds}
use Rattle.c_grammar.specs.Rule.{deeper_by, any_number, only_if, own_token, these_tokens, ◌▸◌}
use Rattle.c_grammar.specs.Grammar.{assignment_operators, behind_commas, links_rule, expr_rule, inner_list, IsOneOf, postfix_rule, base_rule, type_rule}
use Rattle.c_grammar.proofs.Says.{behind-parentheses, join-five, join-four, join-three, Says, says-as, says-deeper, says-joined, says-leaf}
use Rattle.c_grammar.proofs.Says.{says-name, says-never, says-only, says-own}
use Rattle.c_grammar.proofs.Says.{says-parenthesized, says-sign, says-then, says-these, says-word, two-on}
use Rattle.c_grammar.proofs.Operators.{assigns, has-level, of-assignments, of-level, prefix-is}

pub says-base : (b : Base) → Says (base_rule b) (base_kinds b) (λ at. BaseAt at b) (Unit {0}) 0
says-base (base.Void token) = says-as (says-own token (says-word word.Void)) (λ at h. h.0) (λ at h. (h, tt)) (λ s. s) (λ s. s) (omega arith)
says-base (base.Char token) = says-as (says-own token (says-word word.Char)) (λ at h. h.0) (λ at h. (h, tt)) (λ s. s) (λ s. s) (omega arith)
says-base (base.Int token) = says-as (says-own token (says-word word.Int)) (λ at h. h.0) (λ at h. (h, tt)) (λ s. s) (λ s. s) (omega arith)
says-base (base.Unsigned token int) =
    says-as (says-own token (says-then (says-word word.Unsigned) (says-these (if int then kind.Word word.Int ∷ [] else [])))) (λ at h. h.0) (λ at h. (h, (tt, tt))) (λ s. tt) (λ s. (tt, tt)) (omega arith)
says-base (base.Struct token tag) =
    says-as (says-own token (says-then (says-word word.Struct) (says-name tag))) (λ at h. h.0) (λ at h. (h, (tt, tt))) (λ s. tt) (λ s. (tt, tt)) (omega arith)

pub says-type : (b : Base) (n : ℕ) → Says (type_rule b n) (type_kinds b n) (λ at. BaseAt at b) (Unit {0}) n
says-type b n =
    says-as (says-deeper n (says-then (says-base b) (says-these (replicate n (kind.Punctuator sign.Star))))) (λ at h. h.0) (λ at h. (h, tt)) (λ s. tt) (λ s. (tt, tt)) (omega arith)

says-texts : (parts : List (List ℕ)) → Says (any_number (λ bytes. these_tokens (kind.Text bytes ∷ [])) parts) (text_kinds parts) (λ at. Unit {0}) (Unit {0}) 0
says-texts [] = says-these []
says-texts (x ∷ xs) =
    says-as (says-then (says-these (kind.Text x ∷ [])) (says-texts xs)) (λ at h. tt) (λ at h. (tt, tt)) (λ s. tt) (λ s. (tt, tt)) (omega arith)

-- the nesting of expressions that are each so much deeper
abbrev nested : ℕ → ExprList → ℕ
nested d e.no_exprs = 0
nested d (e.more_exprs x rest) = max (d + expr_nesting x) (nested d rest)

nested-beside : (xs : ExprList) → nested 0 xs ≡ exprs_nesting xs
nested-beside e.no_exprs = refl
nested-beside (e.more_exprs x rest) = let same = nested-beside rest in omega arith

nested-within : (xs : ExprList) → nested 1 xs ≡ arguments_nesting xs
nested-within e.no_exprs = refl
nested-within (e.more_exprs x rest) = let same = nested-within rest in omega arith

-- a chain, whose operators have a level that there is
abbrev InLevel : (level : ℕ) → LinkList → Type 0
InLevel level links = ShapedLinks level links × (HasLink links → (1 ≤ level) × (level ≤ 10))

abbrev SaysExpr : (from : ℕ) → ExprTree → Type 0
SaysExpr from x = Says (expr_rule from x) (expr_kinds x) (λ at. ExprAt at x) ((from ≤ expression_rank x) × ShapedExpr x) (expr_nesting x)

abbrev SaysPostfix : PostfixList → Type 0
SaysPostfix operators =
    Says (postfix_rule operators) (postfix_kinds operators) (λ at. PostfixAt at operators) (ShapedPostfix operators) (postfix_nesting operators)

says-postfixed : (from : ℕ) (primary : ExprTree) (operators : PostfixList) → SaysExpr 16 primary → SaysPostfix operators → HasPostfix operators →
    Says (only_if (from ≤ 15) (expr_rule 16 primary ▸ postfix_rule operators)) (expr_kinds primary ++ postfix_kinds operators)
    (λ at. ExprAt at primary × PostfixAt (at + length (expr_kinds primary)) operators)
    ((from ≤ 15) × ((16 ≤ expression_rank primary) × ShapedExpr primary × HasPostfix operators × ShapedPostfix operators))
    (max (expr_nesting primary) (postfix_nesting operators))
says-postfixed from primary operators p q has =
    says-as (says-only _ (says-then p q)) (λ at h. h) (λ at h. h) (λ s. (s.0, (s.1.0.0, s.1.0.1, has, s.1.1))) (λ s. (s.0, ((s.1.0, s.1.1), s.1.3))) refl

mutual
  pub says-expr : (x : ExprTree) (from : ℕ) → SaysExpr from x
  says-expr (e.Comma token e.no_exprs) from = says-never _ _ _ _ (λ s. s.1.0)
  says-expr (e.Comma token (e.more_exprs x e.no_exprs)) from = says-never _ _ _ _ (λ s. s.1.0)
  says-expr (e.Comma token (e.more_exprs x (e.more_exprs y rest))) from =
      let same = nested-beside rest in
      says-as (says-only _ (says-then (says-expr x 1) (says-then (says-own token (says-sign sign.Comma)) (says-then (says-expr y 1) (says-behind 0 rest)))))
      (λ at h. (h.1.0.0, (h.0, (h.1.1.0, h.1.1.1))))
      (λ at h. (h.1.0, ((h.0, tt), (h.1.1.0, h.1.1.1))))
      (λ s. (s.0, (tt, (s.1.0.0, s.1.0.1, (s.1.1.1.0.0, s.1.1.1.0.1, s.1.1.1.1)))))
      (λ s. (s.0, ((s.1.1.0, s.1.1.1), (tt, ((s.1.1.2.0, s.1.1.2.1), s.1.1.2.2)))))
      (omega arith)
  says-expr (e.Assign token x target value) from =
      says-joined (join-three (expr_kinds target) (kind.Punctuator x ∷ []) (expr_kinds value)) (says-as
      (says-only (from ≤ 1) (says-only (IsOneOf x assignment_operators)
      (says-then (says-expr target 14) (says-then (says-own token (says-sign x)) (says-deeper 1 (says-expr value 1))))))
      (λ at h. (h.1.0.0, h.0, subst (λ n. ExprAt n value) (λ i. sym h.1.0.0 i + 1) h.1.1))
      (λ at h. (h.1, ((h.0, tt), subst (λ n. ExprAt n value) (λ i. h.0 i + 1) h.2)))
      (λ s. (s.0, (assigns x s.1.0, s.1.1.0.0, s.1.1.0.1, s.1.1.1.1.0, s.1.1.1.1.1)))
      (λ s. (s.0, (of-assignments x s.1.0, ((s.1.1, s.1.2), (tt, (s.1.3, s.1.4))))))
      (omega arith))
  says-expr (e.Conditional token condition first second) from =
      says-joined (join-five (expr_kinds condition) (kind.Punctuator sign.Question ∷ []) (expr_kinds first) (kind.Punctuator sign.Colon ∷ []) (expr_kinds second))
      (says-as (says-only _ (says-then (says-expr condition 3) (says-then (says-own token (says-sign sign.Question)) (says-then (says-deeper 1 (says-expr first 0))
      (says-then (says-sign sign.Colon) (says-deeper 1 (says-expr second 2)))))))
      (λ at h. (
        h.1.0.0,
        h.0,
        subst (λ n. ExprAt n first) (λ i. sym h.1.0.0 i + 1) h.1.1.0,
        subst (λ n. ExprAt n second) (λ i. sym h.1.0.0 i + 1 + length (expr_kinds first) + 1) h.1.1.1.1,
      ))
      (λ at h. (
        h.1,
        (
          (h.0, tt),
          (
            subst (λ n. ExprAt n first) (λ i. h.0 i + 1) h.2,
            (tt, subst (λ n. ExprAt n second) (λ i. h.0 i + 1 + length (expr_kinds first) + 1) h.3),
          ),
        ),
      ))
      (λ s. (s.0, (s.1.0.0, s.1.0.1, s.1.1.1.0.1, s.1.1.1.1.1.0, s.1.1.1.1.1.1)))
      (λ s. (s.0, ((s.1.0, s.1.1), (tt, ((omega arith, s.1.2), (tt, (s.1.3, s.1.4)))))))
      (omega arith))
  says-expr (e.Chain level first e.no_links) from = says-never _ _ _ _ (λ s. s.1.4)
  says-expr (e.Chain level first (e.more_links t x operand rest)) from =
      says-as (says-only _ (says-then (says-expr first (level + 3)) (says-links level (e.more_links t x operand rest))))
      (λ at h. h)
      (λ at h. h)
      (λ s. let in_level = s.1.1.1 tt in (s.0, (in_level.0, in_level.1, s.1.0.0, s.1.0.1, tt, s.1.1.0)))
      (λ s. (s.0, ((s.1.2, s.1.3), (s.1.5, λ h. (s.1.0, s.1.1)))))
      refl
  says-expr (e.Cast token b n operand) from =
      says-as (says-only _ (says-then (says-own token (says-parenthesized (says-type b n))) (says-deeper 1 (says-expr operand 13))))
      (λ at h. (h.0.0, h.0.1, subst (λ n. ExprAt n operand) (behind-parentheses (type_kinds b n) at) h.1))
      (λ at h. ((h.0, h.1), subst (λ n. ExprAt n operand) (sym (behind-parentheses (type_kinds b n) at)) h.2))
      (λ s. (s.0, s.1.1))
      (λ s. (s.0, (tt, s.1)))
      (omega arith)
  says-expr (e.Prefix token operator operand) from =
      says-as
      (subst (λ p. Says (only_if (from ≤ 14) (own_token token (these_tokens (p.0 ∷ [])) ▸ deeper_by 1 (expr_rule p.1 operand))) (prefix_kinds operator ++ expr_kinds operand)
      (λ at. ((token ≡ at) × Unit {0}) × ExprAt (at + 1) operand)
      ((from ≤ 14) × (Unit {0} × ((operand_rank operator ≤ expression_rank operand) × ShapedExpr operand))) (max 0 (1 + expr_nesting operand)))
      (sym (prefix-is operator))
      (says-only _ (says-then (says-own token (says-these (prefix_kinds operator))) (says-deeper 1 (says-expr operand (operand_rank operator))))))
      (λ at h. (h.0.0, h.1))
      (λ at h. ((h.0, tt), h.1))
      (λ s. (s.0, s.1.1))
      (λ s. (s.0, (tt, s.1)))
      (omega arith)
  says-expr (e.SizeOfType token b n) from =
      says-as (says-only _ (says-then (says-own token (says-word word.Sizeof)) (says-parenthesized (says-type b n))))
      (λ at h. (h.0.0, subst (λ n. BaseAt n b) (two-on at) h.1))
      (λ at h. ((h.0, tt), subst (λ n. BaseAt n b) (sym (two-on at)) h.1))
      (λ s. (s.0, tt))
      (λ s. (s.0, (tt, tt)))
      (omega arith)
  says-expr (e.Postfix primary e.no_postfix) from = says-never _ _ _ _ (λ s. s.1.2)
  says-expr (e.Postfix primary (e.index t x rest)) from =
      says-postfixed from primary (e.index t x rest) (says-expr primary 16) (says-postfix (e.index t x rest)) tt
  says-expr (e.Postfix primary (e.member t name rest)) from =
      says-postfixed from primary (e.member t name rest) (says-expr primary 16) (says-postfix (e.member t name rest)) tt
  says-expr (e.Postfix primary (e.arrow t name rest)) from =
      says-postfixed from primary (e.arrow t name rest) (says-expr primary 16) (says-postfix (e.arrow t name rest)) tt
  says-expr (e.Postfix primary (e.increment t rest)) from =
      says-postfixed from primary (e.increment t rest) (says-expr primary 16) (says-postfix (e.increment t rest)) tt
  says-expr (e.Postfix primary (e.decrement t rest)) from =
      says-postfixed from primary (e.decrement t rest) (says-expr primary 16) (says-postfix (e.decrement t rest)) tt
  says-expr (e.Name token name) from = says-leaf _ token (kind.Name name ∷ [])
  says-expr (e.Call token name arguments) from =
      says-as (says-only _ (says-then (says-own token (says-name name)) (says-parenthesized (says-inner arguments))))
      (λ at h. (h.0.0, subst (λ n. ExprsAt n arguments) (two-on at) h.1))
      (λ at h. ((h.0, tt), subst (λ n. ExprsAt n arguments) (sym (two-on at)) h.1))
      (λ s. (s.0, s.1.1))
      (λ s. (s.0, (tt, s.1)))
      (omega arith)
  says-expr (e.Constant token k value) from = says-leaf _ token (kind.Constant k value ∷ [])
  says-expr (e.Strings token []) from =
      says-as (says-only _ (says-own token (says-never [] (λ at. Unit {0}) ⊥ 0 (λ s. s)))) (λ at h. h.0) (λ at h. (h, tt)) (λ s. s) (λ s. s) refl
  says-expr (e.Strings token (x ∷ xs)) from =
      says-as (says-only _ (says-own token (says-texts (x ∷ xs)))) (λ at h. h.0) (λ at h. (h, tt)) (λ s. s) (λ s. s) refl
  says-expr (e.Paren token x) from =
      says-as (says-only _ (says-own token (says-parenthesized (says-deeper 1 (says-expr x 0)))))
      (λ at h. h)
      (λ at h. h)
      (λ s. (s.0, s.1.1))
      (λ s. (s.0, (omega arith, s.1)))
      refl
  says-expr (e.Null token) from = says-leaf _ token (kind.Word word.Null ∷ [])
  says-expr (e.EndOfFile token) from = says-leaf _ token (kind.Word word.EndOfFile ∷ [])

  pub says-behind : (d : ℕ) (xs : ExprList) → Says (behind_commas d xs) (more_exprs_kinds xs) (λ at. ExprsAt (at + 1) xs) (ShapedExprs xs) (nested d xs)
  says-behind d e.no_exprs = says-these []
  says-behind d (e.more_exprs x rest) =
      says-as (says-then (says-sign sign.Comma) (says-then (says-deeper d (says-expr x 1)) (says-behind d rest)))
      (λ at h. (h.1.0, h.1.1))
      (λ at h. (tt, (h.0, h.1)))
      (λ s. (s.1.0.0, s.1.0.1, s.1.1))
      (λ s. (tt, ((s.0, s.1), s.2)))
      (omega arith)

  pub says-inner : (xs : ExprList) → Says (inner_list xs) (exprs_kinds xs) (λ at. ExprsAt at xs) (ShapedExprs xs) (arguments_nesting xs)
  says-inner e.no_exprs = says-these []
  says-inner (e.more_exprs x rest) =
      let same = nested-within rest in
      says-as (says-then (says-deeper 1 (says-expr x 1)) (says-behind 1 rest))
      (λ at h. h)
      (λ at h. h)
      (λ s. (s.0.0, s.0.1, s.1))
      (λ s. ((s.0, s.1), s.2))
      (omega arith)

  pub says-links : (level : ℕ) (links : LinkList) → Says (links_rule level links) (link_kinds links) (λ at. LinksAt at links) (InLevel level links) (links_nesting links)
  says-links level e.no_links = says-as (says-these []) (λ at h. h) (λ at h. h) (λ s. (tt, λ h. absurd h)) (λ s. tt) refl
  says-links level (e.more_links token x operand rest) =
      says-as (says-only _ (says-then (says-own token (says-sign x)) (says-then (says-expr operand (level + 3)) (says-links level rest))))
      (λ at h. (h.0.0, h.1.0, h.1.1))
      (λ at h. ((h.0, tt), (h.1, h.2)))
      (λ s. let has = has-level x level s.0 in ((has.is, s.1.1.0.0, s.1.1.0.1, s.1.1.1.0), λ h. (has.least, has.most)))
      (λ s. let range = s.1 tt in (of-level x level s.0.0 range.0, (tt, ((s.0.1, s.0.2), (s.0.3, λ h. range)))))
      (omega arith)

  pub says-postfix : (operators : PostfixList) → SaysPostfix operators
  says-postfix e.no_postfix = says-these []
  says-postfix (e.index token x rest) =
      says-joined (join-four (kind.Punctuator sign.LeftBracket ∷ []) (expr_kinds x) (kind.Punctuator sign.RightBracket ∷ []) (postfix_kinds rest))
      (says-as
      (says-then (says-own token (says-sign sign.LeftBracket)) (says-then (says-deeper 1 (says-expr x 0)) (says-then (says-sign sign.RightBracket) (says-postfix rest))))
      (λ at h. (h.0.0, h.1.0, h.1.1.1))
      (λ at h. ((h.0, tt), (h.1, (tt, h.2))))
      (λ s. (s.1.0.1, s.1.1.1))
      (λ s. (tt, ((omega arith, s.0), (tt, s.1))))
      (omega arith))
  says-postfix (e.member token name rest) =
      says-as (says-then (says-own token (says-sign sign.Dot)) (says-then (says-name name) (says-postfix rest)))
      (λ at h. (h.0.0, subst (λ n. PostfixAt n rest) (two-on at) h.1.1))
      (λ at h. ((h.0, tt), (tt, subst (λ n. PostfixAt n rest) (sym (two-on at)) h.1)))
      (λ s. s.1.1)
      (λ s. (tt, (tt, s)))
      (omega arith)
  says-postfix (e.arrow token name rest) =
      says-as (says-then (says-own token (says-sign sign.Arrow)) (says-then (says-name name) (says-postfix rest)))
      (λ at h. (h.0.0, subst (λ n. PostfixAt n rest) (two-on at) h.1.1))
      (λ at h. ((h.0, tt), (tt, subst (λ n. PostfixAt n rest) (sym (two-on at)) h.1)))
      (λ s. s.1.1)
      (λ s. (tt, (tt, s)))
      (omega arith)
  says-postfix (e.increment token rest) =
      says-as (says-then (says-own token (says-sign sign.PlusPlus)) (says-postfix rest)) (λ at h. (h.0.0, h.1)) (λ at h. ((h.0, tt), h.1)) (λ s. s.1) (λ s. (tt, s)) (omega arith)
  says-postfix (e.decrement token rest) =
      says-as (says-then (says-own token (says-sign sign.MinusMinus)) (says-postfix rest)) (λ at h. (h.0.0, h.1)) (λ at h. ((h.0, tt), h.1)) (λ s. s.1) (λ s. (tt, s)) (omega arith)
