-- The tokens of expressions and of declarations: none of them is a word of a statement.
use Rattle.std.proofs.Common.{◌≡◌, ℕ, ◌+◌, ◌≤◌, Bool, true, false, if◌then◌else◌, List, [], ◌∷◌, ◌++◌, Option, Some, None, refl, sym, ◌∙◌, arith}
use Rattle.std.specs.Prelude.{IfSome, IsTrue, cond, count_by, zero, suc}
use Rattle.std.specs.List.{AllByRecursion, flat_map}
use Rattle.std.proofs.lemmas.Bool.{false≢true}
use Rattle.std.proofs.lemmas.List.Sums.{sum_by-append}
use Rattle.c_syntax.specs.declared.expr.PrefixOperator.{PrefixOperator}
use Rattle.c_syntax.specs.declared.expr.PrefixOperator.TheVariants as prefix
use Rattle.c_syntax.specs.declared.parts.Base.{Base}
use Rattle.c_syntax.specs.declared.parts.Base.TheVariants as base
use Rattle.c_syntax.specs.declared.parts.Bound.{Bound}
use Rattle.c_syntax.specs.declared.parts.Declarator.{Declarator}
use Rattle.c_syntax.specs.declared.parts.Param.{Param}
use Rattle.c_syntax.specs.declared.parts.ParamName.{ParamName}
use Rattle.c_syntax.specs.declared.parts.Params.{Params}
use Rattle.c_syntax.specs.declared.parts.Params.TheVariants as params
use Rattle.c_syntax.specs.declared.token.Sign.{Sign}
use Rattle.c_syntax.specs.declared.token.Sign.TheVariants as sign
use Rattle.c_syntax.specs.declared.token.TokenKind.{TokenKind}
use Rattle.c_syntax.specs.declared.token.TokenKind.TheVariants as kind
use Rattle.c_syntax.specs.declared.token.Word.TheVariants as word
use Rattle.c_syntax.specs.ExprTree as e
use Rattle.c_syntax.specs.StatementTree as s
use Rattle.c_syntax.specs.Words.{ExprTree, ExprList, LinkList, PostfixList, InitialTree, StartTree}
use Rattle.c_syntax.specs.Shape.{HasOne, ShapedExpr, ShapedExprs, ShapedInitial, ShapedLinks, ShapedPostfix, ShapedStart, is_assignment, level_of}
use Rattle.c_syntax.specs.Spelling.{Kinds, after_commas, base_kinds, bound_kinds, constant_kinds, declarator_kinds, expr_kinds, exprs_kinds, initial_kinds}
use Rattle.c_syntax.specs.Spelling.{int_kinds, link_kinds, more_exprs_kinds, optional_kinds, param_kinds, param_name_kinds, params_kinds, postfix_kinds}
use Rattle.c_syntax.specs.Spelling.{prefix_kinds, star_kinds, start_kinds, text_kinds, type_kinds, with_commas}

-- neither a word of a statement nor a semicolon
abbrev pub is_plain : TokenKind → Bool
is_plain (kind.Word word.If) = false
is_plain (kind.Word word.While) = false
is_plain (kind.Word word.Do) = false
is_plain (kind.Word word.For) = false
is_plain (kind.Punctuator sign.Semicolon) = false
is_plain other = true

abbrev pub Plain : Kinds → Type 0
Plain [] = Unit {0}
Plain (k ∷ ks) = (is_plain k ≡ true) × Plain ks

pub both : (xs ys : Kinds) → Plain xs → Plain ys → Plain (xs ++ ys)
both [] ys h g = g
both (x ∷ xs) ys h g = (h.0, both xs ys h.1 g)

-- none of them is counted
pub none_of : (q : TokenKind → Bool) → ((k : TokenKind) → is_plain k ≡ true → q k ≡ false) → (ks : Kinds) → Plain ks → count_by q ks ≡ 0
none_of q none [] h = refl
none_of q none (k ∷ ks) h =
    sum_by-append (λ (y : TokenKind). cond (q y) 1 0) (k ∷ []) ks ∙ by (q k) (none k h.0) (none_of q none ks h.1)
  where
    by : (b : Bool) → b ≡ false → count_by q ks ≡ 0 → 0 + cond b 1 0 + count_by q ks ≡ 0
    by true e g = absurd (false≢true (sym e))
    by false e g = omega (arith, g)

-- a piece before or behind a plain sign
before_sign : (ks : Kinds) (x : Sign) → Plain ks → is_plain (kind.Punctuator x) ≡ true → Plain (ks ++ kind.Punctuator x ∷ [])
before_sign ks x h e = both ks (kind.Punctuator x ∷ []) h (e, tt)

pub parenthesized : (ks : Kinds) → Plain ks → Plain (kind.Punctuator sign.LeftParen ∷ ks ++ kind.Punctuator sign.RightParen ∷ [])
parenthesized ks h = (refl, before_sign ks sign.RightParen h refl)

assigns : (x : Sign) → IsTrue (is_assignment x) → is_plain (kind.Punctuator x) ≡ true
assigns sign.Semicolon h = absurd (false≢true h)
assigns x h = refl

joins : (x : Sign) (level : ℕ) → level_of x ≡ level → 1 ≤ level → is_plain (kind.Punctuator x) ≡ true
joins sign.Semicolon level h g = absurd (omega (arith, h, g))
joins x level h g = refl

prefixes : (o : PrefixOperator) → Plain (prefix_kinds o)
prefixes prefix.Increment = (refl, tt)
prefixes prefix.Decrement = (refl, tt)
prefixes prefix.SizeOf = (refl, tt)
prefixes prefix.Address = (refl, tt)
prefixes prefix.Indirection = (refl, tt)
prefixes prefix.Plus = (refl, tt)
prefixes prefix.Minus = (refl, tt)
prefixes prefix.Complement = (refl, tt)
prefixes prefix.Not = (refl, tt)

texts : (parts : List (List ℕ)) → Plain (text_kinds parts)
texts [] = tt
texts (x ∷ xs) = (refl, texts xs)

-- types

stars_plain : (n : ℕ) → Plain (star_kinds n)
stars_plain zero = tt
stars_plain (suc n) = (refl, stars_plain n)

ints : (int : Bool) → Plain (int_kinds int)
ints true = (refl, tt)
ints false = tt

pub base_plain : (b : Base) → Plain (base_kinds b)
base_plain (base.Void token) = (refl, tt)
base_plain (base.Char token) = (refl, tt)
base_plain (base.Int token) = (refl, tt)
base_plain (base.Unsigned token int) = (refl, ints int)
base_plain (base.Struct token tag) = (refl, (refl, tt))

pub type_plain : (b : Base) (n : ℕ) → Plain (type_kinds b n)
type_plain b n = both (base_kinds b) (star_kinds n) (base_plain b) (stars_plain n)

-- expressions

mutual
  pub expr_plain : (x : ExprTree) → ShapedExpr x → Plain (expr_kinds x)
  expr_plain (e.Comma token operands) h = exprs_plain operands h.1
  expr_plain (e.Assign token x target value) h =
      both (expr_kinds target ++ kind.Punctuator x ∷ []) (expr_kinds value)
      (before_sign (expr_kinds target) x (expr_plain target h.2) (assigns x h.0)) (expr_plain value h.4)
  expr_plain (e.Conditional token condition first second) h =
      both (expr_kinds condition ++ kind.Punctuator sign.Question ∷ [] ++ expr_kinds first ++ kind.Punctuator sign.Colon ∷ []) (expr_kinds second)
      (before_sign (expr_kinds condition ++ kind.Punctuator sign.Question ∷ [] ++ expr_kinds first) sign.Colon
      (both (expr_kinds condition ++ kind.Punctuator sign.Question ∷ []) (expr_kinds first)
      (before_sign (expr_kinds condition) sign.Question (expr_plain condition h.1) refl) (expr_plain first h.2)) refl)
      (expr_plain second h.4)
  expr_plain (e.Chain level first links) h = both (expr_kinds first) (link_kinds links) (expr_plain first h.3) (links_plain level links h.0 h.5)
  expr_plain (e.Cast token b stars operand) h =
      both (kind.Punctuator sign.LeftParen ∷ type_kinds b stars ++ kind.Punctuator sign.RightParen ∷ []) (expr_kinds operand)
      (parenthesized (type_kinds b stars) (type_plain b stars)) (expr_plain operand h.1)
  expr_plain (e.Prefix token operator operand) h = both (prefix_kinds operator) (expr_kinds operand) (prefixes operator) (expr_plain operand h.1)
  expr_plain (e.SizeOfType token b stars) h = (refl, parenthesized (type_kinds b stars) (type_plain b stars))
  expr_plain (e.Postfix primary operators) h =
      both (expr_kinds primary) (postfix_kinds operators) (expr_plain primary h.1) (postfix_plain operators h.3)
  expr_plain (e.Name token name) h = (refl, tt)
  expr_plain (e.Call token name arguments) h = (refl, parenthesized (exprs_kinds arguments) (exprs_plain arguments h))
  expr_plain (e.Constant token k value) h = (refl, tt)
  expr_plain (e.Strings token parts) h = texts parts
  expr_plain (e.Paren token inner) h = parenthesized (expr_kinds inner) (expr_plain inner h)
  expr_plain (e.Null token) h = (refl, tt)
  expr_plain (e.EndOfFile token) h = (refl, tt)

  pub exprs_plain : (xs : ExprList) → ShapedExprs xs → Plain (exprs_kinds xs)
  exprs_plain e.no_exprs h = tt
  exprs_plain (e.more_exprs x rest) h = both (expr_kinds x) (more_exprs_kinds rest) (expr_plain x h.1) (more_plain rest h.2)

  more_plain : (xs : ExprList) → ShapedExprs xs → Plain (more_exprs_kinds xs)
  more_plain e.no_exprs h = tt
  more_plain (e.more_exprs x rest) h =
      both (kind.Punctuator sign.Comma ∷ expr_kinds x) (more_exprs_kinds rest) (refl, expr_plain x h.1) (more_plain rest h.2)

  links_plain : (level : ℕ) (links : LinkList) → 1 ≤ level → ShapedLinks level links → Plain (link_kinds links)
  links_plain level e.no_links some h = tt
  links_plain level (e.more_links token x operand rest) some h =
      both (kind.Punctuator x ∷ expr_kinds operand) (link_kinds rest) (joins x level h.0 some, expr_plain operand h.2) (links_plain level rest some h.3)

  postfix_plain : (operators : PostfixList) → ShapedPostfix operators → Plain (postfix_kinds operators)
  postfix_plain e.no_postfix h = tt
  postfix_plain (e.index token x rest) h =
      both (kind.Punctuator sign.LeftBracket ∷ expr_kinds x ++ kind.Punctuator sign.RightBracket ∷ []) (postfix_kinds rest)
      (refl, before_sign (expr_kinds x) sign.RightBracket (expr_plain x h.0) refl) (postfix_plain rest h.1)
  postfix_plain (e.member token name rest) h = (refl, (refl, postfix_plain rest h))
  postfix_plain (e.arrow token name rest) h = (refl, (refl, postfix_plain rest h))
  postfix_plain (e.increment token rest) h = (refl, postfix_plain rest h)
  postfix_plain (e.decrement token rest) h = (refl, postfix_plain rest h)

-- an expression has a token

some_before : {A : Type 0} (xs ys : List A) → HasOne xs → HasOne (xs ++ ys)
some_before [] ys h = absurd h
some_before (x ∷ xs) ys h = tt

mutual
  pub expr_some : (x : ExprTree) → ShapedExpr x → HasOne (expr_kinds x)
  expr_some (e.Comma token e.no_exprs) h = absurd h.0
  expr_some (e.Comma token (e.more_exprs x rest)) h = some_before (expr_kinds x) (more_exprs_kinds rest) (expr_some x h.1.1)
  expr_some (e.Assign token x target value) h =
      some_before (expr_kinds target ++ kind.Punctuator x ∷ []) (expr_kinds value)
      (some_before (expr_kinds target) (kind.Punctuator x ∷ []) (expr_some target h.2))
  expr_some (e.Conditional token condition first second) h =
      some_before (expr_kinds condition ++ kind.Punctuator sign.Question ∷ [] ++ expr_kinds first ++ kind.Punctuator sign.Colon ∷ []) (expr_kinds second)
      (some_before (expr_kinds condition ++ kind.Punctuator sign.Question ∷ [] ++ expr_kinds first) (kind.Punctuator sign.Colon ∷ [])
      (some_before (expr_kinds condition ++ kind.Punctuator sign.Question ∷ []) (expr_kinds first)
      (some_before (expr_kinds condition) (kind.Punctuator sign.Question ∷ []) (expr_some condition h.1))))
  expr_some (e.Chain level first links) h = some_before (expr_kinds first) (link_kinds links) (expr_some first h.3)
  expr_some (e.Cast token b stars operand) h = tt
  expr_some (e.Prefix token operator operand) h = tt
  expr_some (e.SizeOfType token b stars) h = tt
  expr_some (e.Postfix primary operators) h = some_before (expr_kinds primary) (postfix_kinds operators) (expr_some primary h.1)
  expr_some (e.Name token name) h = tt
  expr_some (e.Call token name arguments) h = tt
  expr_some (e.Constant token k value) h = tt
  expr_some (e.Strings token []) h = absurd h
  expr_some (e.Strings token (x ∷ xs)) h = tt
  expr_some (e.Paren token inner) h = tt
  expr_some (e.Null token) h = tt
  expr_some (e.EndOfFile token) h = tt

-- declarations, up to their semicolon

pub optional_plain : {A : Type 0} (f : A → Kinds) (P : A → Type 0) → ((x : A) → P x → Plain (f x)) → (o : Option A) → IfSome o P → Plain (optional_kinds f o)
optional_plain f P each None h = tt
optional_plain f P each (Some x) h = each x h

flat_plain : {A : Type 0} (f : A → Kinds) (P : A → Type 0) → ((x : A) → P x → Plain (f x)) → (xs : List A) → AllByRecursion P xs → Plain (flat_map f xs)
flat_plain f P each [] h = tt
flat_plain f P each (x ∷ xs) h = both (f x) (flat_map f xs) (each x h.0) (flat_plain f P each xs h.1)

pub commas_plain : {A : Type 0} (f : A → Kinds) (P : A → Type 0) → ((x : A) → P x → Plain (f x)) → (xs : List A) → AllByRecursion P xs
    → Plain (with_commas f xs)
commas_plain f P each [] h = tt
commas_plain f P each (x ∷ xs) h =
    both (f x) (after_commas f xs) (each x h.0) (flat_plain (λ y. kind.Punctuator sign.Comma ∷ f y) P (λ y k. (refl, each y k)) xs h.1)

bound_plain : (b : Bound) → Plain (bound_kinds b)
bound_plain b = by b.length
  where
    by : (o : Option _) → Plain (kind.Punctuator sign.LeftBracket ∷ [] ++ optional_kinds constant_kinds o ++ kind.Punctuator sign.RightBracket ∷ [])
    by None = (refl, (refl, tt))
    by (Some c) = (refl, (refl, (refl, tt)))

bounds_plain : (bs : List Bound) → Plain (flat_map bound_kinds bs)
bounds_plain [] = tt
bounds_plain (b ∷ bs) = both (bound_kinds b) (flat_map bound_kinds bs) (bound_plain b) (bounds_plain bs)

pub declarator_plain : (d : Declarator) → Plain (declarator_kinds d)
declarator_plain d = both (star_kinds d.stars ++ kind.Name d.name ∷ []) (flat_map bound_kinds d.bounds)
    (both (star_kinds d.stars) (kind.Name d.name ∷ []) (stars_plain d.stars) (refl, tt)) (bounds_plain d.bounds)

commas_end : (comma : Bool) → Plain (if comma then kind.Punctuator sign.Comma ∷ [] else [])
commas_end true = (refl, tt)
commas_end false = tt

initial_plain : (x : InitialTree) → ShapedInitial x → Plain (kind.Punctuator sign.Equal ∷ initial_kinds x)
initial_plain (s.Value value) h = (refl, expr_plain value h.1)
initial_plain (s.Braced token items comma) h = (
  refl,
  (
    refl,
    before_sign (exprs_kinds items ++ (if comma then kind.Punctuator sign.Comma ∷ [] else [])) sign.RightBrace
        (both (exprs_kinds items) (if comma then kind.Punctuator sign.Comma ∷ [] else []) (exprs_plain items h.1) (commas_end comma)) refl,
  ),
)

pub start_plain : (x : StartTree) → ShapedStart x → Plain (start_kinds x)
start_plain x h = both (declarator_kinds x.declarator) (optional_kinds (λ y. kind.Punctuator sign.Equal ∷ initial_kinds y) x.initial)
    (declarator_plain x.declarator) (optional_plain (λ y. kind.Punctuator sign.Equal ∷ initial_kinds y) ShapedInitial initial_plain x.initial h)

-- parameters

param_name_plain : (n : ParamName) → Plain (param_name_kinds n)
param_name_plain n = by n.bound
  where
    by : (o : Option Bound) → Plain (kind.Name n.name ∷ [] ++ optional_kinds bound_kinds o)
    by None = (refl, tt)
    by (Some b) = (refl, bound_plain b)

param_plain : (p : Param) → Plain (param_kinds p)
param_plain p = by p.name
  where
    by : (o : Option ParamName) → Plain (type_kinds p.base p.stars ++ optional_kinds param_name_kinds o)
    by None = both (type_kinds p.base p.stars) [] (type_plain p.base p.stars) tt
    by (Some n) = both (type_kinds p.base p.stars) (param_name_kinds n) (type_plain p.base p.stars) (param_name_plain n)

params_by : (list : List Param) → Plain (flat_map (λ y. kind.Punctuator sign.Comma ∷ param_kinds y) list)
params_by [] = tt
params_by (p ∷ ps) = both (kind.Punctuator sign.Comma ∷ param_kinds p) (flat_map (λ y. kind.Punctuator sign.Comma ∷ param_kinds y) ps)
    (refl, param_plain p) (params_by ps)

pub params_plain : (ps : Params) → Plain (params_kinds ps)
params_plain params.Empty = tt
params_plain params.Void = (refl, tt)
params_plain (params.List []) = tt
params_plain (params.List (p ∷ ps)) = both (param_kinds p) (flat_map (λ y. kind.Punctuator sign.Comma ∷ param_kinds y) ps) (param_plain p) (params_by ps)
