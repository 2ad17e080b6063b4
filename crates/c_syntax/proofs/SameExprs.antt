-- Two expressions have equal trees exactly where they are the same but for where they lie.
use Rattle.std.proofs.Common.{◌≡◌, ◌↔◌, List, [], ◌∷◌, map, refl, sym, ◌∙◌}
use Rattle.c_syntax.specs.declared.expr.Expr.{Expr}
use Rattle.c_syntax.specs.declared.expr.Expr.TheFolds.{map-Expr, map-PostfixOperator, fold_out-Expr, fold_out-PostfixOperator}
use Rattle.c_syntax.specs.declared.expr.Expr.TheOpen.{Expr-F, PostfixOperator-F}
use Rattle.c_syntax.specs.declared.expr.Expr.TheOpen as layer
use Rattle.c_syntax.specs.declared.expr.Expr.TheViews.{out-Expr, out-PostfixOperator}
use Rattle.c_syntax.specs.declared.expr.Link.{Link}
use Rattle.c_syntax.specs.declared.expr.PostfixOperator.{PostfixOperator}
use Rattle.c_syntax.specs.ExprTree as e
use Rattle.c_syntax.specs.ExprTree.{ExprTree, LinkList, PostfixList}
use Rattle.c_syntax.specs.Plain.{plain_expr, plain_link, plain_postfix, plain_links, plain_operators, expr_level, postfix_level, link_level, expr_list}
use Rattle.c_syntax.specs.Same.{LinksAlike, OperatorsAlike, SameExprLayer, SameExpr, SameLink, SamePostfixLayer, SamePostfix}
use Rattle.c_syntax.proofs.PlainExprs.{plain_link_before}

-- lists with equal trees have items with equal trees
exprs-apart : (xs ys : List ExprTree) → expr_list xs ≡ expr_list ys → xs ≡ ys
exprs-apart [] [] h = refl
exprs-apart [] (y ∷ ys) h = cc
exprs-apart (x ∷ xs) [] h = cc
exprs-apart (x ∷ xs) (y ∷ ys) h = let head : x ≡ y = cc in let rest : expr_list xs ≡ expr_list ys = cc in λ i. head i ∷ exprs-apart xs ys rest i

links-apart : (xs ys : List Link) → plain_links xs ≡ plain_links ys → LinksAlike xs ys
links-apart [] [] h = refl
links-apart [] (y ∷ ys) h = let more = plain_link_before y (plain_links ys) in let e : e.no_links ≡ e.more_links y.token y.sign (plain_expr y.operand) (plain_links ys) = h ∙ more in cc
links-apart (x ∷ xs) [] h =
    let more = plain_link_before x (plain_links xs) in let e : e.no_links ≡ e.more_links x.token x.sign (plain_expr x.operand) (plain_links xs) = sym h ∙ more in cc
links-apart (x ∷ xs) (y ∷ ys) h =
    let both : e.more_links x.token x.sign (plain_expr x.operand) (plain_links xs) ≡ e.more_links y.token y.sign (plain_expr y.operand) (plain_links ys) =
    sym (plain_link_before x (plain_links xs)) ∙ h ∙ plain_link_before y (plain_links ys) in
    let token : x.token ≡ y.token = cc in
    let is_sign : x.sign ≡ y.sign = cc in
    let operand : plain_expr x.operand ≡ plain_expr y.operand = cc in
    let rest : plain_links xs ≡ plain_links ys = cc in
    let head : plain_link x e.no_links ≡ plain_link y e.no_links =
    plain_link_before x e.no_links ∙ (λ i. e.more_links (token i) (is_sign i) (operand i) e.no_links) ∙ sym (plain_link_before y e.no_links) in
    λ i. head i ∷ links-apart xs ys rest i

links-same : (xs ys : List Link) → LinksAlike xs ys → plain_links xs ≡ plain_links ys
links-same [] [] h = refl
links-same [] (y ∷ ys) h = cc
links-same (x ∷ xs) [] h = cc
links-same (x ∷ xs) (y ∷ ys) h =
    let head : plain_link x e.no_links ≡ plain_link y e.no_links = cc in
    let rest : LinksAlike xs ys = cc in
    let both : e.more_links x.token x.sign (plain_expr x.operand) e.no_links ≡ e.more_links y.token y.sign (plain_expr y.operand) e.no_links =
    sym (plain_link_before x e.no_links) ∙ head ∙ plain_link_before y e.no_links in
    let token : x.token ≡ y.token = cc in
    let is_sign : x.sign ≡ y.sign = cc in
    let operand : plain_expr x.operand ≡ plain_expr y.operand = cc in
    plain_link_before x (plain_links xs) ∙ (λ i. e.more_links (token i) (is_sign i) (operand i) (links-same xs ys rest i)) ∙ sym (plain_link_before y (plain_links ys))

pub same-link : (x y : Link) → (plain_link x e.no_links ≡ plain_link y e.no_links) ↔ SameLink x y
same-link x y = (
  λ h.
      let both : e.more_links x.token x.sign (plain_expr x.operand) e.no_links ≡ e.more_links y.token y.sign (plain_expr y.operand) e.no_links =
      sym (plain_link_before x e.no_links) ∙ h ∙ plain_link_before y e.no_links in
      (cc, cc, cc),
  λ h. plain_link_before x e.no_links ∙ (λ i. e.more_links (h.0 i) (h.1 i) (h.2 i) e.no_links) ∙ sym (plain_link_before y e.no_links),
)

-- one operator before others
abbrev operator : PostfixOperator-F Expr PostfixOperator Link → PostfixList → PostfixList
operator a = postfix_level (map-PostfixOperator Expr PostfixOperator Link ExprTree (PostfixList → PostfixList) (LinkList → LinkList) plain_expr plain_postfix plain_link a)

operator-is : (x : PostfixOperator) (rest : PostfixList) → plain_postfix x rest ≡ operator (out-PostfixOperator x) rest
operator-is x rest = λ i. fold_out-PostfixOperator ExprTree (PostfixList → PostfixList) (LinkList → LinkList) expr_level postfix_level link_level x i rest

operators-apart : (a b : PostfixOperator-F Expr PostfixOperator Link) (p q : PostfixList) → operator a p ≡ operator b q → SamePostfixLayer a b × (p ≡ q)
operators-apart (layer.Index t x) (layer.Index u y) p q h = ((cc, cc), cc)
operators-apart (layer.Member t n) (layer.Member u m) p q h = ((cc, cc), cc)
operators-apart (layer.Arrow t n) (layer.Arrow u m) p q h = ((cc, cc), cc)
operators-apart (layer.Increment t) (layer.Increment u) p q h = (cc, cc)
operators-apart (layer.Decrement t) (layer.Decrement u) p q h = (cc, cc)
operators-apart _ _ p q h = cc

operators-join : (a b : PostfixOperator-F Expr PostfixOperator Link) (p q : PostfixList) → SamePostfixLayer a b → p ≡ q → operator a p ≡ operator b q
operators-join (layer.Index t x) (layer.Index u y) p q h r = λ i. e.index (h.0 i) (h.1 i) (r i)
operators-join (layer.Member t n) (layer.Member u m) p q h r = λ i. e.member (h.0 i) (h.1 i) (r i)
operators-join (layer.Arrow t n) (layer.Arrow u m) p q h r = λ i. e.arrow (h.0 i) (h.1 i) (r i)
operators-join (layer.Increment t) (layer.Increment u) p q h r = λ i. e.increment (h i) (r i)
operators-join (layer.Decrement t) (layer.Decrement u) p q h r = λ i. e.decrement (h i) (r i)
operators-join _ _ p q h r = absurd h

pub same-postfix : (x y : PostfixOperator) → (plain_postfix x e.no_postfix ≡ plain_postfix y e.no_postfix) ↔ SamePostfix x y
same-postfix x y = (
  λ h. (operators-apart (out-PostfixOperator x) (out-PostfixOperator y) e.no_postfix e.no_postfix (sym (operator-is x e.no_postfix) ∙ h ∙ operator-is y e.no_postfix)).0,
  λ h. operator-is x e.no_postfix ∙ operators-join (out-PostfixOperator x) (out-PostfixOperator y) e.no_postfix e.no_postfix h refl ∙ sym (operator-is y e.no_postfix),
)

some-operator : (a : PostfixOperator-F Expr PostfixOperator Link) (p : PostfixList) → operator a p ≡ e.no_postfix → ⊥
some-operator (layer.Index t x) p h = cc
some-operator (layer.Member t n) p h = cc
some-operator (layer.Arrow t n) p h = cc
some-operator (layer.Increment t) p h = cc
some-operator (layer.Decrement t) p h = cc

operator-lists-apart : (xs ys : List PostfixOperator) → plain_operators xs ≡ plain_operators ys → OperatorsAlike xs ys
operator-lists-apart [] [] h = refl
operator-lists-apart [] (y ∷ ys) h = absurd (some-operator (out-PostfixOperator y) (plain_operators ys) (sym (operator-is y (plain_operators ys)) ∙ sym h))
operator-lists-apart (x ∷ xs) [] h = absurd (some-operator (out-PostfixOperator x) (plain_operators xs) (sym (operator-is x (plain_operators xs)) ∙ h))
operator-lists-apart (x ∷ xs) (y ∷ ys) h =
    let apart = operators-apart (out-PostfixOperator x) (out-PostfixOperator y) (plain_operators xs) (plain_operators ys)
    (sym (operator-is x (plain_operators xs)) ∙ h ∙ operator-is y (plain_operators ys)) in
    let head = (same-postfix x y).1 apart.0 in
    λ i. head i ∷ operator-lists-apart xs ys apart.1 i

operator-lists-same : (xs ys : List PostfixOperator) → OperatorsAlike xs ys → plain_operators xs ≡ plain_operators ys
operator-lists-same [] [] h = refl
operator-lists-same [] (y ∷ ys) h = cc
operator-lists-same (x ∷ xs) [] h = cc
operator-lists-same (x ∷ xs) (y ∷ ys) h =
    let head : plain_postfix x e.no_postfix ≡ plain_postfix y e.no_postfix = cc in
    let rest : OperatorsAlike xs ys = cc in
    operator-is x (plain_operators xs) ∙
    operators-join (out-PostfixOperator x) (out-PostfixOperator y) (plain_operators xs) (plain_operators ys) ((same-postfix x y).0 head) (operator-lists-same xs ys rest) ∙
    sym (operator-is y (plain_operators ys))

-- one level of an expression
abbrev level : Expr-F Expr PostfixOperator Link → ExprTree
level a = expr_level (map-Expr Expr PostfixOperator Link ExprTree (PostfixList → PostfixList) (LinkList → LinkList) plain_expr plain_postfix plain_link a)

level-is : (x : Expr) → plain_expr x ≡ level (out-Expr x)
level-is x = fold_out-Expr ExprTree (PostfixList → PostfixList) (LinkList → LinkList) expr_level postfix_level link_level x

levels-apart : (a b : Expr-F Expr PostfixOperator Link) → level a ≡ level b → SameExprLayer a b
levels-apart (layer.Comma t xs) (layer.Comma u ys) h = (cc, exprs-apart (map plain_expr xs.items) (map plain_expr ys.items) cc)
levels-apart (layer.Assign t p a b) (layer.Assign u q c d) h = (cc, cc, cc, cc)
levels-apart (layer.Conditional t a b c) (layer.Conditional u d f g) h = (cc, cc, cc, cc)
levels-apart (layer.Chain m a xs) (layer.Chain n b ys) h = (cc, cc, links-apart xs.items ys.items cc)
levels-apart (layer.Cast t b m x) (layer.Cast u c n y) h = (cc, cc, cc, cc)
levels-apart (layer.Prefix t o x) (layer.Prefix u p y) h = (cc, cc, cc)
levels-apart (layer.SizeOfType t b m) (layer.SizeOfType u c n) h = (cc, cc, cc)
levels-apart (layer.Postfix x xs) (layer.Postfix y ys) h = (cc, operator-lists-apart xs.items ys.items cc)
levels-apart (layer.Name t n) (layer.Name u m) h = (cc, cc)
levels-apart (layer.Call t n xs) (layer.Call u m ys) h = (cc, cc, exprs-apart (map plain_expr xs.items) (map plain_expr ys.items) cc)
levels-apart (layer.Constant t k v) (layer.Constant u l w) h = (cc, cc, cc)
levels-apart (layer.Strings t xs) (layer.Strings u ys) h = (cc, cc)
levels-apart (layer.Paren t x) (layer.Paren u y) h = (cc, cc)
levels-apart (layer.Null t) (layer.Null u) h = cc
levels-apart (layer.EndOfFile t) (layer.EndOfFile u) h = cc
levels-apart _ _ h = cc

levels-join : (a b : Expr-F Expr PostfixOperator Link) → SameExprLayer a b → level a ≡ level b
levels-join (layer.Comma t xs) (layer.Comma u ys) h = λ i. e.Comma (h.0 i) (expr_list (h.1 i))
levels-join (layer.Assign t p a b) (layer.Assign u q c d) h = λ i. e.Assign (h.0 i) (h.1 i) (h.2 i) (h.3 i)
levels-join (layer.Conditional t a b c) (layer.Conditional u d f g) h = λ i. e.Conditional (h.0 i) (h.1 i) (h.2 i) (h.3 i)
levels-join (layer.Chain m a xs) (layer.Chain n b ys) h = λ i. e.Chain (h.0 i) (h.1 i) (links-same xs.items ys.items h.2 i)
levels-join (layer.Cast t b m x) (layer.Cast u c n y) h = λ i. e.Cast (h.0 i) (h.1 i) (h.2 i) (h.3 i)
levels-join (layer.Prefix t o x) (layer.Prefix u p y) h = λ i. e.Prefix (h.0 i) (h.1 i) (h.2 i)
levels-join (layer.SizeOfType t b m) (layer.SizeOfType u c n) h = λ i. e.SizeOfType (h.0 i) (h.1 i) (h.2 i)
levels-join (layer.Postfix x xs) (layer.Postfix y ys) h = λ i. e.Postfix (h.0 i) (operator-lists-same xs.items ys.items h.1 i)
levels-join (layer.Name t n) (layer.Name u m) h = λ i. e.Name (h.0 i) (h.1 i)
levels-join (layer.Call t n xs) (layer.Call u m ys) h = λ i. e.Call (h.0 i) (h.1 i) (expr_list (h.2 i))
levels-join (layer.Constant t k v) (layer.Constant u l w) h = λ i. e.Constant (h.0 i) (h.1 i) (h.2 i)
levels-join (layer.Strings t xs) (layer.Strings u ys) h = λ i. e.Strings (h.0 i) (h.1 i)
levels-join (layer.Paren t x) (layer.Paren u y) h = λ i. e.Paren (h.0 i) (h.1 i)
levels-join (layer.Null t) (layer.Null u) h = λ i. e.Null (h i)
levels-join (layer.EndOfFile t) (layer.EndOfFile u) h = λ i. e.EndOfFile (h i)
levels-join _ _ h = absurd h

pub same-expr : (x y : Expr) → (plain_expr x ≡ plain_expr y) ↔ SameExpr x y
same-expr x y = (
  λ h. levels-apart (out-Expr x) (out-Expr y) (sym (level-is x) ∙ h ∙ level-is y),
  λ h. level-is x ∙ levels-join (out-Expr x) (out-Expr y) h ∙ sym (level-is y),
)
