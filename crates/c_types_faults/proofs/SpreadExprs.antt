-- The expressions within an expression stand within its span, each at a token of its own.
use Rattle.std.proofs.Common.{inl, ◌≡◌, ℕ, ◌+◌, [], ◌∷◌, ◌++◌, length, false, true, refl, sym, subst, append_assoc, arith, length-append}
use Rattle.c_syntax.specs.declared.token.Sign.TheVariants as sign
use Rattle.c_syntax.specs.ExprTree as e
use Rattle.c_syntax.specs.Words.{ExprTree, ExprList, LinkList, PostfixList, ExprAt, ExprsAt, LinksAt, PostfixAt, ShapedExpr, ShapedExprs, ShapedLinks}
use Rattle.c_syntax.specs.Words.{ShapedPostfix, a_sign, expr_kinds, exprs_kinds, link_kinds, more_exprs_kinds, parenthesized_kinds, postfix_kinds, type_kinds}
use Rattle.c_meaning.specs.Trees.{token_of}
use Rattle.c_types_laws.proofs.Goods.{around, conditional_long, infix_long, texts_long}
use Rattle.c_types_faults.specs.Events.{Calls, Other, Selects, Value, expr_events, exprs_events, links_events, postfix_events}
use Rattle.c_types_faults.proofs.Points.{Among, Spread, among_left, among_right, spread_assoc, spread_none, spread_one, spread_own, spread_then, spread_wider}

mutual
  pub expr_spread : (x : ExprTree) (at : ℕ) → ShapedExpr x → ExprAt at x → Spread at (at + length (expr_kinds x)) (expr_events x)
  expr_spread (e.Comma token (e.more_exprs x (e.more_exprs y ys))) at s p =
      let n : ℕ = length (expr_kinds x) in
      let hi : ℕ = at + length (expr_kinds (e.Comma token (e.more_exprs x (e.more_exprs y ys)))) in
      let long : length (expr_kinds (e.Comma token (e.more_exprs x (e.more_exprs y ys)))) ≡ n + 1 + length (exprs_kinds (e.more_exprs y ys)) =
      omega (arith, length-append (expr_kinds x) (more_exprs_kinds (e.more_exprs y ys))) in
      subst (Spread at hi) (sym (append_assoc (expr_events x) (exprs_events (e.more_exprs y ys)) (Value token Other ∷ [])))
      (spread_then at (at + n) hi (expr_events x) (exprs_events (e.more_exprs y ys) ++ Value token Other ∷ []) (expr_spread x at s.1.1 p.1.0)
      (spread_own (at + n) (at + n + 1) hi token Other (exprs_events (e.more_exprs y ys))
      (spread_wider (at + n + 1) (at + n + 1 + length (exprs_kinds (e.more_exprs y ys))) (at + n + 1) hi (exprs_events (e.more_exprs y ys)) (exprs_spread (e.more_exprs y ys) (at + n + 1) s.1.2 p.1.1)
      (omega arith) (omega (arith, long)))
      (omega (arith, p.0)) (omega (arith, p.0)) (omega (arith, long)))
      (omega arith) (omega (arith, long)))
  expr_spread (e.Comma token (e.more_exprs x e.no_exprs)) at s p = absurd s.0
  expr_spread (e.Comma token e.no_exprs) at s p = absurd s.0
  expr_spread (e.Assign token g target value) at s p =
      let n : ℕ = length (expr_kinds target) in
      let m : ℕ = length (expr_kinds value) in
      let hi : ℕ = at + length (expr_kinds (e.Assign token g target value)) in
      let long : length (expr_kinds (e.Assign token g target value)) ≡ n + 1 + m = infix_long (expr_kinds target) (expr_kinds value) g in
      spread_then at (at + n) hi (expr_events target) (expr_events value ++ Value token Other ∷ []) (expr_spread target at s.2 p.1)
      (spread_own (at + n) (token + 1) hi token Other (expr_events value)
      (spread_wider (token + 1) (token + 1 + m) (token + 1) hi (expr_events value) (expr_spread value (token + 1) s.4 p.2) (omega arith) (omega (arith, p.0, long)))
      (omega (arith, p.0)) (omega arith) (omega (arith, p.0, long)))
      (omega arith) (omega (arith, long))
  expr_spread (e.Conditional token condition first second) at s p =
      let n : ℕ = length (expr_kinds condition) in
      let m : ℕ = length (expr_kinds first) in
      let l : ℕ = length (expr_kinds second) in
      let hi : ℕ = at + length (expr_kinds (e.Conditional token condition first second)) in
      let long : length (expr_kinds (e.Conditional token condition first second)) ≡ n + 1 + m + 1 + l = conditional_long condition first second in
      spread_then at (at + n) hi (expr_events condition) (expr_events first ++ (expr_events second ++ Value token Other ∷ [])) (expr_spread condition at s.1 p.1)
      (spread_assoc (at + n) hi (expr_events first) (expr_events second) (Value token Other ∷ [])
      (spread_own (at + n) (token + 1) hi token Other (expr_events first ++ expr_events second)
      (spread_then (token + 1) (token + 1 + m) hi (expr_events first) (expr_events second) (expr_spread first (token + 1) s.2 p.2)
      (spread_wider (token + 1 + m + 1) (token + 1 + m + 1 + l) (token + 1 + m) hi (expr_events second)
      (expr_spread second (token + 1 + m + 1) s.4 p.3) (omega arith) (omega (arith, p.0, long)))
      (omega arith) (omega (arith, p.0, long)))
      (omega (arith, p.0)) (omega arith) (omega (arith, p.0, long))))
      (omega arith) (omega (arith, long))
  expr_spread (e.Chain level first links) at s p =
      let n : ℕ = length (expr_kinds first) in
      let hi : ℕ = at + length (expr_kinds (e.Chain level first links)) in
      let long : length (expr_kinds (e.Chain level first links)) ≡ n + length (link_kinds links) = length-append (expr_kinds first) (link_kinds links) in
      spread_then at (at + n) hi (expr_events first) (links_events links) (expr_spread first at s.3 p.0)
      (spread_wider (at + n) (at + n + length (link_kinds links)) (at + n) hi (links_events links) (links_spread links level (at + n) s.5 p.1)
      (omega arith) (omega (arith, long)))
      (omega arith) (omega (arith, long))
  expr_spread (e.Cast token b stars x) at s p =
      let n : ℕ = length (type_kinds b stars) in
      let hi : ℕ = at + length (expr_kinds (e.Cast token b stars x)) in
      let long : length (expr_kinds (e.Cast token b stars x)) ≡ n + 2 + length (expr_kinds x) =
      omega (arith, length-append (parenthesized_kinds (type_kinds b stars)) (expr_kinds x), around (type_kinds b stars)) in
      spread_own at (at + 1 + n + 1) hi token Other (expr_events x)
      (spread_wider (at + 1 + n + 1) (at + 1 + n + 1 + length (expr_kinds x)) (at + 1 + n + 1) hi (expr_events x) (expr_spread x (at + 1 + n + 1) s.1 p.2)
      (omega arith) (omega (arith, long)))
      (omega (arith, p.0)) (omega (arith, p.0)) (omega (arith, long))
  expr_spread (e.Prefix token operator x) at s p =
      let hi : ℕ = at + length (expr_kinds (e.Prefix token operator x)) in
      spread_own at (at + 1) hi token Other (expr_events x)
      (spread_wider (at + 1) (at + 1 + length (expr_kinds x)) (at + 1) hi (expr_events x) (expr_spread x (at + 1) s.1 p.1) (omega arith) (omega arith))
      (omega (arith, p.0)) (omega (arith, p.0)) (omega arith)
  expr_spread (e.SizeOfType token b stars) at s p = spread_one at _ token Other (omega (arith, p.0)) (omega (arith, p.0))
  expr_spread (e.Postfix primary operators) at s p =
      let n : ℕ = length (expr_kinds primary) in
      let hi : ℕ = at + length (expr_kinds (e.Postfix primary operators)) in
      let long : length (expr_kinds (e.Postfix primary operators)) ≡ n + length (postfix_kinds operators) =
      length-append (expr_kinds primary) (postfix_kinds operators) in
      spread_then at (at + n) hi (expr_events primary) (postfix_events (token_of primary) operators) (expr_spread primary at s.1 p.0)
      (spread_wider (at + n) (at + n + length (postfix_kinds operators)) (at + n) hi (postfix_events (token_of primary) operators)
      (postfix_spread operators (token_of primary) (at + n) s.3 p.1) (omega arith) (omega (arith, long)))
      (omega arith) (omega (arith, long))
  expr_spread (e.Name token name) at s p = spread_one at _ token Other (omega (arith, p)) (omega (arith, p))
  expr_spread (e.Call token name arguments) at s p =
      let hi : ℕ = at + length (expr_kinds (e.Call token name arguments)) in
      let long : length (expr_kinds (e.Call token name arguments)) ≡ 3 + length (exprs_kinds arguments) = omega (arith, around (exprs_kinds arguments)) in
      spread_own at (at + 2) hi token (Calls name) (exprs_events arguments)
      (spread_wider (at + 2) (at + 2 + length (exprs_kinds arguments)) (at + 2) hi (exprs_events arguments) (exprs_spread arguments (at + 2) s p.1)
      (omega arith) (omega (arith, long)))
      (omega (arith, p.0)) (omega (arith, p.0)) (omega (arith, long))
  expr_spread (e.Constant token kind value) at s p = spread_one at _ token Other (omega (arith, p)) (omega (arith, p))
  expr_spread (e.Strings token parts) at s p = spread_one at _ token Other (omega (arith, p)) (omega (arith, p, texts_long parts s))
  expr_spread (e.Paren token inner) at s p =
      let hi : ℕ = at + length (expr_kinds (e.Paren token inner)) in
      let long : length (expr_kinds (e.Paren token inner)) ≡ length (expr_kinds inner) + 2 = around (expr_kinds inner) in
      spread_own at (at + 1) hi token Other (expr_events inner)
      (spread_wider (at + 1) (at + 1 + length (expr_kinds inner)) (at + 1) hi (expr_events inner) (expr_spread inner (at + 1) s p.1)
      (omega arith) (omega (arith, long)))
      (omega (arith, p.0)) (omega (arith, p.0)) (omega (arith, long))
  expr_spread (e.Null token) at s p = spread_one at _ token Other (omega (arith, p)) (omega (arith, p))
  expr_spread (e.EndOfFile token) at s p = spread_one at _ token Other (omega (arith, p)) (omega (arith, p))

  pub exprs_spread : (xs : ExprList) (at : ℕ) → ShapedExprs xs → ExprsAt at xs → Spread at (at + length (exprs_kinds xs)) (exprs_events xs)
  exprs_spread e.no_exprs at s p = spread_none at _
  exprs_spread (e.more_exprs x rest) at s p =
      let n : ℕ = length (expr_kinds x) in
      let hi : ℕ = at + length (exprs_kinds (e.more_exprs x rest)) in
      let long : length (exprs_kinds (e.more_exprs x rest)) ≡ n + length (more_exprs_kinds rest) = length-append (expr_kinds x) (more_exprs_kinds rest) in
      spread_then at (at + n) hi (expr_events x) (exprs_events rest) (expr_spread x at s.1 p.0) (rest_spread rest (at + n) hi s.2 p.1 (omega (arith, long)))
      (omega arith) (omega (arith, long))

  -- those behind the first, each with a comma before it
  rest_spread : (xs : ExprList) (at hi : ℕ) → ShapedExprs xs → ExprsAt (at + 1) xs → at + length (more_exprs_kinds xs) ≡ hi → Spread at hi (exprs_events xs)
  rest_spread e.no_exprs at hi s p h = spread_none at hi
  rest_spread (e.more_exprs x rest) at hi s p h =
      let n : ℕ = length (expr_kinds x) in
      let long : length (more_exprs_kinds (e.more_exprs x rest)) ≡ 1 + n + length (more_exprs_kinds rest) =
      omega (arith, length-append (expr_kinds x) (more_exprs_kinds rest)) in
      spread_then at (at + 1 + n) hi (expr_events x) (exprs_events rest)
      (spread_wider (at + 1) (at + 1 + n) at (at + 1 + n) (expr_events x) (expr_spread x (at + 1) s.1 p.0) (omega arith) (omega arith))
      (rest_spread rest (at + 1 + n) hi s.2 p.1 (omega (arith, long, h)))
      (omega arith) (omega (arith, long, h))

  links_spread : (links : LinkList) (level at : ℕ) → ShapedLinks level links → LinksAt at links
      → Spread at (at + length (link_kinds links)) (links_events links)
  links_spread e.no_links level at s p = spread_none at _
  links_spread (e.more_links token g x rest) level at s p =
      let n : ℕ = length (expr_kinds x) in
      let hi : ℕ = at + length (link_kinds (e.more_links token g x rest)) in
      let long : length (link_kinds (e.more_links token g x rest)) ≡ 1 + n + length (link_kinds rest) =
      omega (arith, length-append (expr_kinds x) (link_kinds rest)) in
      spread_assoc at hi (expr_events x) (Value token Other ∷ []) (links_events rest)
      (spread_then at (at + 1 + n) hi (expr_events x ++ Value token Other ∷ []) (links_events rest)
      (spread_own at (at + 1) (at + 1 + n) token Other (expr_events x) (expr_spread x (at + 1) s.2 p.1) (omega (arith, p.0)) (omega (arith, p.0)) (omega arith))
      (spread_wider (at + 1 + n) (at + 1 + n + length (link_kinds rest)) (at + 1 + n) hi (links_events rest) (links_spread rest level (at + 1 + n) s.3 p.2)
      (omega arith) (omega (arith, long)))
      (omega arith) (omega (arith, long)))

  postfix_spread : (operators : PostfixList) (operand at : ℕ) → ShapedPostfix operators → PostfixAt at operators
      → Spread at (at + length (postfix_kinds operators)) (postfix_events operand operators)
  postfix_spread e.no_postfix operand at s p = spread_none at _
  postfix_spread (e.index token x rest) operand at s p =
      let n : ℕ = length (expr_kinds x) in
      let hi : ℕ = at + length (postfix_kinds (e.index token x rest)) in
      let long : length (postfix_kinds (e.index token x rest)) ≡ 2 + n + length (postfix_kinds rest) =
      omega (
        arith,
        length-append (expr_kinds x ++ a_sign sign.RightBracket) (postfix_kinds rest),
        length-append (expr_kinds x) (a_sign sign.RightBracket),
      ) in
      spread_assoc at hi (expr_events x) (Value token Other ∷ []) (postfix_events token rest)
      (spread_then at (at + 1 + n) hi (expr_events x ++ Value token Other ∷ []) (postfix_events token rest)
      (spread_own at (at + 1) (at + 1 + n) token Other (expr_events x) (expr_spread x (at + 1) s.0 p.1) (omega (arith, p.0)) (omega (arith, p.0)) (omega arith))
      (spread_wider (at + 1 + n + 1) (at + 1 + n + 1 + length (postfix_kinds rest)) (at + 1 + n) hi (postfix_events token rest)
      (postfix_spread rest token (at + 1 + n + 1) s.1 p.2) (omega arith) (omega (arith, long)))
      (omega arith) (omega (arith, long)))
  postfix_spread (e.member token name rest) operand at s p =
      let hi : ℕ = at + length (postfix_kinds (e.member token name rest)) in
      spread_then at (at + 1) hi (Value token (Selects operand false name) ∷ []) (postfix_events token rest)
      (spread_one at (at + 1) token (Selects operand false name) (omega (arith, p.0)) (omega (arith, p.0)))
      (spread_wider (at + 2) (at + 2 + length (postfix_kinds rest)) (at + 1) hi (postfix_events token rest) (postfix_spread rest token (at + 2) s p.1)
      (omega arith) (omega arith)) (omega arith) (omega arith)
  postfix_spread (e.arrow token name rest) operand at s p =
      let hi : ℕ = at + length (postfix_kinds (e.arrow token name rest)) in
      spread_then at (at + 1) hi (Value token (Selects operand true name) ∷ []) (postfix_events token rest)
      (spread_one at (at + 1) token (Selects operand true name) (omega (arith, p.0)) (omega (arith, p.0)))
      (spread_wider (at + 2) (at + 2 + length (postfix_kinds rest)) (at + 1) hi (postfix_events token rest) (postfix_spread rest token (at + 2) s p.1)
      (omega arith) (omega arith)) (omega arith) (omega arith)
  postfix_spread (e.increment token rest) operand at s p =
      let hi : ℕ = at + length (postfix_kinds (e.increment token rest)) in
      spread_then at (at + 1) hi (Value token Other ∷ []) (postfix_events token rest)
      (spread_one at (at + 1) token Other (omega (arith, p.0)) (omega (arith, p.0)))
      (spread_wider (at + 1) (at + 1 + length (postfix_kinds rest)) (at + 1) hi (postfix_events token rest) (postfix_spread rest token (at + 1) s p.1)
      (omega arith) (omega arith)) (omega arith) (omega arith)
  postfix_spread (e.decrement token rest) operand at s p =
      let hi : ℕ = at + length (postfix_kinds (e.decrement token rest)) in
      spread_then at (at + 1) hi (Value token Other ∷ []) (postfix_events token rest)
      (spread_one at (at + 1) token Other (omega (arith, p.0)) (omega (arith, p.0)))
      (spread_wider (at + 1) (at + 1 + length (postfix_kinds rest)) (at + 1) hi (postfix_events token rest) (postfix_spread rest token (at + 1) s p.1)
      (omega arith) (omega arith)) (omega arith) (omega arith)

-- an expression has an own token within its span
pub expr_has : (x : ExprTree) → (k : ℕ) × Among k (expr_events x)
expr_has (e.Comma token operands) = (token, among_right token (exprs_events operands) (Value token Other ∷ []) (inl refl))
expr_has (e.Assign token g target value) = (
  token,
  among_right token (expr_events target) (expr_events value ++ Value token Other ∷ [])
      (among_right token (expr_events value) (Value token Other ∷ []) (inl refl)),
)
expr_has (e.Conditional token condition first second) =
    let h : (k : ℕ) × Among k (expr_events condition) = expr_has condition in
    (h.0, among_left h.0 (expr_events condition) (expr_events first ++ (expr_events second ++ Value token Other ∷ [])) h.1)
expr_has (e.Chain level first links) =
    let h : (k : ℕ) × Among k (expr_events first) = expr_has first in (h.0, among_left h.0 (expr_events first) (links_events links) h.1)
expr_has (e.Cast token b stars x) = (token, among_right token (expr_events x) (Value token Other ∷ []) (inl refl))
expr_has (e.Prefix token operator x) = (token, among_right token (expr_events x) (Value token Other ∷ []) (inl refl))
expr_has (e.SizeOfType token b stars) = (token, inl refl)
expr_has (e.Postfix primary operators) =
    let h : (k : ℕ) × Among k (expr_events primary) = expr_has primary in
    (h.0, among_left h.0 (expr_events primary) (postfix_events (token_of primary) operators) h.1)
expr_has (e.Name token name) = (token, inl refl)
expr_has (e.Call token name arguments) = (token, among_right token (exprs_events arguments) (Value token (Calls name) ∷ []) (inl refl))
expr_has (e.Constant token kind value) = (token, inl refl)
expr_has (e.Strings token parts) = (token, inl refl)
expr_has (e.Paren token inner) = (token, among_right token (expr_events inner) (Value token Other ∷ []) (inl refl))
expr_has (e.Null token) = (token, inl refl)
expr_has (e.EndOfFile token) = (token, inl refl)
