-- The rules of declarators, members, parameters and declarations say what the walks say.
use Rattle.std.proofs.Common.{◌≡◌, ℕ, ◌+◌, ◌≤◌, List, [], ◌∷◌, ◌++◌, length, Option, Some, None, refl, sym, subst, length-append, arith}
use Rattle.std.proofs.lemmas.List.{length-replicate}
use Rattle.std.specs.Option.{IfSome}
use Rattle.std.specs.List.{AllByRecursion, flat_map}
use Rattle.c_syntax.specs.declared.token.Sign.TheVariants as sign
use Rattle.c_syntax.specs.declared.token.Word.TheVariants as word
use Rattle.c_syntax.specs.declared.token.TokenKind.TheVariants as kind
use Rattle.c_syntax.specs.declared.parts.Base.{Base}
use Rattle.c_syntax.specs.declared.parts.Base.TheVariants as base
use Rattle.c_syntax.specs.declared.parts.Bound.{Bound}
use Rattle.c_syntax.specs.declared.parts.Constant.{Constant}
use Rattle.c_syntax.specs.declared.parts.Declarator.{Declarator}
use Rattle.c_syntax.specs.declared.parts.Members.{Members}
use Rattle.c_syntax.specs.declared.parts.Param.{Param}
use Rattle.c_syntax.specs.declared.parts.ParamName.{ParamName}
use Rattle.c_syntax.specs.declared.parts.Params.{Params}
use Rattle.c_syntax.specs.declared.parts.Params.TheVariants as params
use Rattle.c_syntax.specs.ExprTree as e
use Rattle.c_syntax.specs.StatementTree as s
use Rattle.c_syntax.specs.Words.{a_name, a_sign, base_kinds, bound_kinds, comma_kinds, constant_kinds, declaration_kinds, declaration_nesting, DeclarationAt}
use Rattle.c_syntax.specs.Words.{DeclarationTree, declarator_kinds, declarator_nesting, DeclaratorAt, ExprAt, expr_kinds, expr_nesting}
use Rattle.c_syntax.specs.Words.{ExprTree, for_start_kinds, for_start_nesting, ForStartAt, ForStartTree, initial_kinds, initial_nesting, InitialAt, InitialTree}
use Rattle.c_syntax.specs.Words.{members_kinds, members_nesting, MembersAt, name_nesting, NameAt, optional_kinds, optional_nesting, param_kinds, param_name_kinds, param_nesting}
use Rattle.c_syntax.specs.Words.{ParamAt, params_kinds, params_nesting, ParamsAt, ShapedDeclaration, ShapedExpr, ShapedForStart, ShapedInitial, ShapedMembers, ShapedParam}
use Rattle.c_syntax.specs.Words.{ShapedParamOf, ShapedParams, ShapedStart, star_kinds, start_kinds, start_nesting, StartAt, StartTree, type_kinds, with_commas}
use Rattle.c_grammar.specs.Rule.{deeper_by, any_number, at_most_one, sign_token, these_tokens, word_token, ◌▸◌}
use Rattle.c_grammar.specs.Grammar.{bound_rule, declaration_rule, declarator_rule, expr_rule, for_start_rule, initial_rule, members_rule, param_rule, param_name_rule, params_rule, start_rule, stars_rule, base_rule}
use Rattle.c_grammar.proofs.Says.{join-three, Says, says-as, says-braced, says-deeper, says-joined, says-name, says-never, says-only, says-own, says-sign, says-then, says-these}
use Rattle.c_grammar.proofs.Says.{says-word}
use Rattle.c_grammar.proofs.Lists.{says-listed, says-optional}
use Rattle.c_grammar.proofs.Expressions.{says-base, says-expr, says-inner}

says-stars : (n : ℕ) → Says (stars_rule n) (star_kinds n) (λ at. Unit {0}) (Unit {0}) 0
says-stars n = says-these (star_kinds n)

says-length : (o : Option Constant) →
    Says (at_most_one (λ c. these_tokens (kind.Constant c.kind c.value ∷ [])) o) (optional_kinds constant_kinds o) (λ at. Unit {0}) (Unit {0}) 0
says-length None = says-these []
says-length (Some c) = says-these (constant_kinds c)

says-bound : (b : Bound) → Says (bound_rule b) (bound_kinds b) (λ at. Unit {0}) (Unit {0}) 0
says-bound b =
    says-as (says-then (says-sign sign.LeftBracket) (says-then (says-length b.length) (says-sign sign.RightBracket))) (λ at h. tt) (λ at h. (tt, (tt, tt)))
    (λ s. tt) (λ s. (tt, (tt, tt))) (omega arith)

says-bounds : (bs : List Bound) → Says (any_number bound_rule bs) (flat_map bound_kinds bs) (λ at. Unit {0}) (Unit {0}) 0
says-bounds [] = says-these []
says-bounds (b ∷ bs) = says-as (says-then (says-bound b) (says-bounds bs)) (λ at h. tt) (λ at h. (tt, tt)) (λ s. tt) (λ s. (tt, tt)) (omega arith)

pub says-declarator : (d : Declarator) → Says (declarator_rule d) (declarator_kinds d) (λ at. DeclaratorAt at d) (Unit {0}) (declarator_nesting d)
says-declarator d =
    says-joined (join-three (star_kinds d.stars) (a_name d.name) (flat_map bound_kinds d.bounds))
    (says-as
    (says-deeper (d.stars + length d.bounds)
    (says-own d.token (says-then (says-stars d.stars) (says-then (says-own d.name_token (says-name d.name)) (says-bounds d.bounds)))))
    (λ at h. (h.0, subst (λ n. d.name_token ≡ at + n) (length-replicate d.stars (kind.Punctuator sign.Star)) h.1.1.0.0))
    (λ at h. (h.0, (tt, ((subst (λ n. d.name_token ≡ at + n) (sym (length-replicate d.stars (kind.Punctuator sign.Star))) h.1, tt), tt))))
    (λ s. tt)
    (λ s. (tt, (tt, tt)))
    (omega arith))

units : {X : Type 0} (xs : List X) → AllByRecursion (λ x. Unit {0}) xs
units [] = tt
units (x ∷ xs) = (tt, units xs)

unit-if-some : {X : Type 0} (o : Option X) → IfSome o (λ x. Unit {0})
unit-if-some None = tt
unit-if-some (Some x) = tt

pub says-members : (m : Members) → Says (members_rule m) (members_kinds m) (λ at. MembersAt at m) (ShapedMembers m) (members_nesting m)
says-members m =
    says-joined (join-three (base_kinds m.base) (with_commas declarator_kinds m.declarators) (a_sign sign.Semicolon))
    (says-as
    (says-own m.token (says-then (says-base m.base) (says-then
    (says-listed declarator_rule declarator_kinds DeclaratorAt (λ d. Unit {0}) declarator_nesting says-declarator m.declarators) (says-sign sign.Semicolon))))
    (λ at h. (h.0, h.1.0, h.1.1.0))
    (λ at h. (h.0, (h.1, (h.2, tt))))
    (λ s. s.1.0.0)
    (λ s. (tt, ((s, units m.declarators), tt)))
    (omega arith))

says-name-bound : (o : Option Bound) →
    Says (at_most_one (λ b. deeper_by 1 (bound_rule b)) o) (optional_kinds bound_kinds o) (λ at. Unit {0}) (Unit {0}) (optional_nesting (λ b. 1) o)
says-name-bound None = says-these []
says-name-bound (Some b) = says-deeper 1 (says-bound b)

says-param-name : (n : ParamName) → Says (param_name_rule n) (param_name_kinds n) (λ at. NameAt at n) (Unit {0}) (name_nesting n)
says-param-name n =
    says-as (says-own n.token (says-then (says-name n.name) (says-name-bound n.bound))) (λ at h. h.0) (λ at h. (h, (tt, tt))) (λ s. tt) (λ s. (tt, tt)) (omega arith)

abbrev StarIfVoid : Base → ℕ → Type 0
StarIfVoid b n = (base_rule b).kinds ≡ (word_token word.Void).kinds → 1 ≤ n

star-needed : (b : Base) (n : ℕ) → StarIfVoid b n → ShapedParamOf b n
star-needed (base.Void token) n h = h refl
star-needed (base.Char token) n h = tt
star-needed (base.Int token) n h = tt
star-needed (base.Unsigned token int) n h = tt
star-needed (base.Struct token tag) n h = tt

star-given : (b : Base) (n : ℕ) → ShapedParamOf b n → StarIfVoid b n
star-given (base.Void token) n h = λ same. h
star-given (base.Char token) n h = λ same. cc
star-given (base.Int token) n h = λ same. cc
star-given (base.Unsigned token int) n h = λ same. cc
star-given (base.Struct token tag) n h = λ same. cc

behind-type : (p : Param) (at : ℕ) → at + length (base_kinds p.base) + length (star_kinds p.stars) ≡ at + length (type_kinds p.base p.stars)
behind-type p at = omega (arith, length-append (base_kinds p.base) (star_kinds p.stars))

pub says-param : (p : Param) → Says (param_rule p) (param_kinds p) (λ at. ParamAt at p) (ShapedParam p) (param_nesting p)
says-param p =
    says-joined (join-three (base_kinds p.base) (star_kinds p.stars) (optional_kinds param_name_kinds p.name))
    (says-as
    (says-only (StarIfVoid p.base p.stars) (says-deeper p.stars (says-own p.token (says-then (says-base p.base) (says-then (says-stars p.stars)
    (says-optional param_name_rule param_name_kinds NameAt (λ n. Unit {0}) name_nesting says-param-name p.name))))))
    (λ at h. (h.0, h.1.0, subst (λ n. IfSome p.name (NameAt n)) (behind-type p at) h.1.1.1))
    (λ at h. (h.0, (h.1, (tt, subst (λ n. IfSome p.name (NameAt n)) (sym (behind-type p at)) h.2))))
    (λ s. star-needed p.base p.stars s.0)
    (λ s. (star-given p.base p.stars s, (tt, (tt, unit-if-some p.name))))
    (omega arith))

pub says-params : (ps : Params) → Says (params_rule ps) (params_kinds ps) (λ at. ParamsAt at ps) (ShapedParams ps) (params_nesting ps)
says-params params.Empty = says-these []
says-params params.Void = says-word word.Void
says-params (params.List list) = says-listed param_rule param_kinds ParamAt ShapedParam param_nesting says-param list

pub says-initial : (x : InitialTree) → Says (initial_rule x) (initial_kinds x) (λ at. InitialAt at x) (ShapedInitial x) (initial_nesting x)
says-initial (s.Value value) = says-expr value 1
says-initial (s.Braced token e.no_exprs comma) = says-never _ _ _ _ (λ s. s.0)
says-initial (s.Braced token (e.more_exprs x rest) comma) =
    says-as (says-own token (says-braced (says-then (says-inner (e.more_exprs x rest)) (says-these (comma_kinds comma)))))
    (λ at h. (h.0, h.1.0))
    (λ at h. (h.0, (h.1, tt)))
    (λ s. (tt, s.0))
    (λ s. (s.1, tt))
    (omega arith)

says-equal : (by : ℕ) (x : InitialTree) → Says (sign_token sign.Equal ▸ deeper_by by (initial_rule x)) (a_sign sign.Equal ++ initial_kinds x) (λ at. InitialAt (at + 1) x)
    (ShapedInitial x) (by + initial_nesting x)
says-equal by x =
    says-as (says-then (says-sign sign.Equal) (says-deeper by (says-initial x))) (λ at h. h.1) (λ at h. (tt, h)) (λ s. s.1) (λ s. (tt, s)) (omega arith)

pub says-start : (by : ℕ) (x : StartTree) → Says (start_rule by x) (start_kinds x) (λ at. StartAt at x) (ShapedStart x) (start_nesting by x)
says-start by x =
    says-as (says-own x.token (says-then (says-declarator x.declarator)
    (says-optional (λ y. sign_token sign.Equal ▸ deeper_by by (initial_rule y)) (λ y. a_sign sign.Equal ++ initial_kinds y) (λ at y. InitialAt (at + 1) y) ShapedInitial
    (λ y. by + initial_nesting y) (says-equal by) x.initial)))
    (λ at h. (h.0, h.1.0, h.1.1))
    (λ at h. (h.0, (h.1, h.2)))
    (λ s. s.1)
    (λ s. (tt, s))
    refl

pub says-declaration : (by : ℕ) (d : DeclarationTree) →
    Says (declaration_rule by d) (declaration_kinds d) (λ at. DeclarationAt at d) (ShapedDeclaration d) (declaration_nesting by d)
says-declaration by d =
    says-joined (join-three (base_kinds d.base) (with_commas start_kinds d.starts) (a_sign sign.Semicolon))
    (says-as
    (says-own d.token (says-then (says-base d.base) (says-then
    (says-listed (start_rule by) start_kinds StartAt ShapedStart (start_nesting by) (says-start by) d.starts) (says-sign sign.Semicolon))))
    (λ at h. (h.0, h.1.0, h.1.1.0))
    (λ at h. (h.0, (h.1, (h.2, tt))))
    (λ s. s.1.0)
    (λ s. (tt, (s, tt)))
    (omega arith))

-- an expression by any of the rules
pub says-whole : (x : ExprTree) → Says (expr_rule 0 x) (expr_kinds x) (λ at. ExprAt at x) (ShapedExpr x) (expr_nesting x)
says-whole x = says-as (says-expr x 0) (λ at h. h) (λ at h. h) (λ s. s.1) (λ s. (omega arith, s)) refl

pub says-computed : (o : Option ExprTree) → Says (at_most_one (expr_rule 0) o) (optional_kinds expr_kinds o) (λ at. IfSome o (ExprAt at)) (IfSome o ShapedExpr)
    (optional_nesting expr_nesting o)
says-computed = says-optional (expr_rule 0) expr_kinds ExprAt ShapedExpr expr_nesting says-whole

pub says-for-start : (x : ForStartTree) → Says (for_start_rule x) (for_start_kinds x) (λ at. ForStartAt at x) (ShapedForStart x) (for_start_nesting x)
says-for-start (s.Declares d) = says-deeper 1 (says-declaration 0 d)
says-for-start (s.Computes x) =
    says-as (says-then (says-computed x) (says-sign sign.Semicolon)) (λ at h. h.0) (λ at h. (h, tt)) (λ s. s.0) (λ s. (s, tt)) (omega arith)
