-- Which tokens an expression begins with.
use Rattle.std.proofs.Common.{◌≡◌, ℕ, ◌+◌, ◌≤◌, Bool, true, false, [], ◌∷◌, ◌++◌, Option, Some, None, refl, sym, ap, ◌∙◌, subst}
use Rattle.std.proofs.Common.{append_assoc, arith}
use Rattle.c_syntax.specs.declared.token.Sign.TheVariants as sign
use Rattle.c_syntax.specs.declared.token.Word.TheVariants as word
use Rattle.c_syntax.specs.declared.token.TokenKind.{TokenKind}
use Rattle.c_syntax.specs.declared.token.TokenKind.TheVariants as kind
use Rattle.c_syntax.specs.declared.expr.PrefixOperator.{PrefixOperator}
use Rattle.c_syntax.specs.declared.expr.PrefixOperator.TheVariants as prefix
use Rattle.c_syntax.specs.ExprTree as e
use Rattle.c_syntax.specs.Words.{ExprTree, LinkList, Kinds, expr_kinds, postfix_kinds, prefix_kinds, prefix_kind, prefix_of, expression_rank}
use Rattle.c_syntax.specs.Words.{ShapedExpr}
use Rattle.c_parser_expressions.specs.Reading.{SameUpTo, kinds_behind_first}
use Rattle.c_parser_expressions.specs.ExpressionParser.{prefix_at}

abbrev pub starts : TokenKind → Bool
starts (kind.Name name) = true
starts (kind.Constant k value) = true
starts (kind.Text bytes) = true
starts (kind.Word word.Sizeof) = true
starts (kind.Word word.Null) = true
starts (kind.Word word.EndOfFile) = true
starts (kind.Word _) = false
starts (kind.Punctuator sign.LeftParen) = true
starts (kind.Punctuator sign.PlusPlus) = true
starts (kind.Punctuator sign.MinusMinus) = true
starts (kind.Punctuator sign.Ampersand) = true
starts (kind.Punctuator sign.Star) = true
starts (kind.Punctuator sign.Plus) = true
starts (kind.Punctuator sign.Minus) = true
starts (kind.Punctuator sign.Tilde) = true
starts (kind.Punctuator sign.Exclamation) = true
starts (kind.Punctuator _) = false

abbrev pub StartsAt : Kinds → Type 0
StartsAt [] = ⊥
StartsAt (x ∷ xs) = starts x ≡ true

pub starts-more : (a b : Kinds) → StartsAt a → StartsAt (a ++ b)
starts-more [] b h = absurd h
starts-more (x ∷ xs) b h = h

pub starts-same : (last at : ℕ) (x : TokenKind) (xs k : Kinds) → StartsAt k → SameUpTo last at (x ∷ xs) k → starts x ≡ true
starts-same last at x xs [] h same = absurd h
starts-same last at x xs (y ∷ ys) h same = ap starts same.0 ∙ h

starts-prefix : (o : PrefixOperator) → StartsAt (prefix_kinds o)
starts-prefix prefix.Increment = refl
starts-prefix _ = refl

pub starts-expr : (x : ExprTree) → ShapedExpr x → StartsAt (expr_kinds x)
starts-expr (e.Comma token e.no_exprs) h = absurd h.0
starts-expr (e.Comma token (e.more_exprs x rest)) h = starts-more (expr_kinds x) _ (starts-expr x h.1.1)
starts-expr (e.Assign token s x y) h = starts-more _ _ (starts-more (expr_kinds x) _ (starts-expr x h.2))
starts-expr (e.Conditional token x y z) h = starts-more _ _ (starts-more _ _ (starts-more _ _ (starts-more (expr_kinds x) _ (starts-expr x h.1))))
starts-expr (e.Chain level x links) h = starts-more (expr_kinds x) _ (starts-expr x h.3)
starts-expr (e.Prefix token o x) h = starts-more (prefix_kinds o) (expr_kinds x) (starts-prefix o)
starts-expr (e.Postfix x operators) h = starts-more (expr_kinds x) _ (starts-expr x h.1)
starts-expr (e.Strings token []) h = absurd h
starts-expr x h = refl

-- the first token of an expression that no operator joins
abbrev pub first_of : ExprTree → Option TokenKind
first_of (e.Name token name) = Some (kind.Name name)
first_of (e.Call token name xs) = Some (kind.Name name)
first_of (e.Constant token k value) = Some (kind.Constant k value)
first_of (e.Strings token (p ∷ ps)) = Some (kind.Text p)
first_of (e.Paren token x) = Some (kind.Punctuator sign.LeftParen)
first_of (e.Null token) = Some (kind.Word word.Null)
first_of (e.EndOfFile token) = Some (kind.Word word.EndOfFile)
first_of _ = None

abbrev pub begins_primary : TokenKind → Bool
begins_primary (kind.Name name) = true
begins_primary (kind.Constant k value) = true
begins_primary (kind.Text bytes) = true
begins_primary (kind.Word word.Null) = true
begins_primary (kind.Word word.EndOfFile) = true
begins_primary (kind.Word _) = false
begins_primary (kind.Punctuator sign.LeftParen) = true
begins_primary (kind.Punctuator _) = false

-- a chain stands below casts
pub chain-low : (l : ℕ) (x : ExprTree) (ls : LinkList) → 13 ≤ l + 2 → ShapedExpr (e.Chain l x ls) → ⊥
chain-low l x ls r h = let most = h.1 in omega arith

pub primary-first : (x : ExprTree) (last at : ℕ) (t : TokenKind) (ks k : Kinds) → 16 ≤ expression_rank x → ShapedExpr x → SameUpTo last at (t ∷ ks) (expr_kinds x ++ k)
    → first_of x ≡ Some t
primary-first (e.Name token name) last at t ks k r h same = ap Some (sym same.0)
primary-first (e.Call token name xs) last at t ks k r h same = ap Some (sym same.0)
primary-first (e.Constant token c value) last at t ks k r h same = ap Some (sym same.0)
primary-first (e.Strings token []) last at t ks k r h same = absurd h
primary-first (e.Strings token (p ∷ ps)) last at t ks k r h same = ap Some (sym same.0)
primary-first (e.Paren token x) last at t ks k r h same = ap Some (sym same.0)
primary-first (e.Null token) last at t ks k r h same = ap Some (sym same.0)
primary-first (e.EndOfFile token) last at t ks k r h same = ap Some (sym same.0)
primary-first (e.Chain l x ls) last at t ks k r h same = absurd (chain-low l x ls (omega arith) h)
primary-first _ last at t ks k r h same = absurd (omega arith)

begins-of : (x : ExprTree) (t : TokenKind) → first_of x ≡ Some t → begins_primary t ≡ true
begins-of (e.Name token name) t h = let s : kind.Name name ≡ t = cc in ap begins_primary (sym s)
begins-of (e.Call token name xs) t h = let s : kind.Name name ≡ t = cc in ap begins_primary (sym s)
begins-of (e.Constant token c value) t h = let s : kind.Constant c value ≡ t = cc in ap begins_primary (sym s)
begins-of (e.Strings token []) t h = cc
begins-of (e.Strings token (p ∷ ps)) t h = let s : kind.Text p ≡ t = cc in ap begins_primary (sym s)
begins-of (e.Paren token x) t h = let s : kind.Punctuator sign.LeftParen ≡ t = cc in ap begins_primary (sym s)
begins-of (e.Null token) t h = let s : kind.Word word.Null ≡ t = cc in ap begins_primary (sym s)
begins-of (e.EndOfFile token) t h = let s : kind.Word word.EndOfFile ≡ t = cc in ap begins_primary (sym s)
begins-of _ t h = cc

pub primary-begins : (x : ExprTree) (last at : ℕ) (t : TokenKind) (ks k : Kinds) → 16 ≤ expression_rank x → ShapedExpr x → SameUpTo last at (t ∷ ks) (expr_kinds x ++ k)
    → begins_primary t ≡ true
primary-begins x last at t ks k r h same = begins-of x t (primary-first x last at t ks k r h same)

-- with postfix operators it begins with the same tokens
pub postfix-begins : (x : ExprTree) (last at : ℕ) (t : TokenKind) (ks k : Kinds) → 15 ≤ expression_rank x → ShapedExpr x → SameUpTo last at (t ∷ ks) (expr_kinds x ++ k)
    → begins_primary t ≡ true
postfix-begins (e.Postfix x ops) last at t ks k r h same =
    primary-begins x last at t ks (postfix_kinds ops ++ k) h.0 h.1 (subst (λ (v : Kinds). SameUpTo last at (t ∷ ks) v)
    (append_assoc (expr_kinds x) (postfix_kinds ops) k) same)
postfix-begins (e.Comma token xs) last at t ks k r h same = absurd (omega arith)
postfix-begins (e.Assign token s x y) last at t ks k r h same = absurd (omega arith)
postfix-begins (e.Conditional token x y z) last at t ks k r h same = absurd (omega arith)
postfix-begins (e.Chain l x ls) last at t ks k r h same = absurd (chain-low l x ls (omega arith) h)
postfix-begins (e.Cast token b stars x) last at t ks k r h same = absurd (omega arith)
postfix-begins (e.Prefix token o x) last at t ks k r h same = absurd (omega arith)
postfix-begins (e.SizeOfType token b stars) last at t ks k r h same = absurd (omega arith)
postfix-begins x last at t ks k r h same = primary-begins x last at t ks k (omega arith) h same

-- no such token is a prefix operator
pub primary-no_prefix : (t : TokenKind) → begins_primary t ≡ true → prefix_of t ≡ None
primary-no_prefix (kind.Name name) h = refl
primary-no_prefix (kind.Constant k value) h = refl
primary-no_prefix (kind.Text bytes) h = refl
primary-no_prefix (kind.Word word.Null) h = refl
primary-no_prefix (kind.Word word.EndOfFile) h = refl
primary-no_prefix (kind.Punctuator sign.LeftParen) h = refl
primary-no_prefix _ h = cc

pub prefix-back : (o : PrefixOperator) → prefix_of (prefix_kind o) ≡ Some o
prefix-back prefix.Increment = refl
prefix-back _ = refl

pub prefix-same : (o p : PrefixOperator) → prefix_kind o ≡ prefix_kind p → o ≡ p
prefix-same o p h = let s : Some o ≡ Some p = sym (prefix-back o) ∙ ap prefix_of h ∙ prefix-back p in cc

prefix-token : (t : TokenKind) (o : PrefixOperator) → prefix_of t ≡ Some o → t ≡ prefix_kind o
prefix-token (kind.Punctuator sign.PlusPlus) o h = let s : prefix.Increment ≡ o = cc in ap prefix_kind s
prefix-token (kind.Punctuator sign.MinusMinus) o h = let s : prefix.Decrement ≡ o = cc in ap prefix_kind s
prefix-token (kind.Word word.Sizeof) o h = let s : prefix.SizeOf ≡ o = cc in ap prefix_kind s
prefix-token (kind.Punctuator sign.Ampersand) o h = let s : prefix.Address ≡ o = cc in ap prefix_kind s
prefix-token (kind.Punctuator sign.Star) o h = let s : prefix.Indirection ≡ o = cc in ap prefix_kind s
prefix-token (kind.Punctuator sign.Plus) o h = let s : prefix.Plus ≡ o = cc in ap prefix_kind s
prefix-token (kind.Punctuator sign.Minus) o h = let s : prefix.Minus ≡ o = cc in ap prefix_kind s
prefix-token (kind.Punctuator sign.Tilde) o h = let s : prefix.Complement ≡ o = cc in ap prefix_kind s
prefix-token (kind.Punctuator sign.Exclamation) o h = let s : prefix.Not ≡ o = cc in ap prefix_kind s
prefix-token _ o h = cc

pub prefix-head : (k : Kinds) (o : PrefixOperator) → prefix_at k ≡ Some o → k ≡ prefix_kind o ∷ kinds_behind_first k
prefix-head [] o h = cc
prefix-head (t ∷ ks) o h = ap (λ (v : TokenKind). v ∷ ks) (prefix-token t o h)
