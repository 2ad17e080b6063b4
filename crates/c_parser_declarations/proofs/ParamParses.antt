-- Parameters.
use Rattle.std.proofs.Common.{◌≡◌, ℕ, zero, suc, ◌+◌, ◌-◌, ◌≤◌, ◌==◌, true, false, ◌&&◌, inl, inr, List, [], ◌∷◌, ◌++◌, length, Option, Some, None, refl, sym, ap, ◌∙◌, subst, arith}
use Rattle.std.proofs.lemmas.Bool.{cases_Bool}
use Rattle.std.specs.Prelude.{IfSome}
use Rattle.c_syntax.specs.declared.token.Sign.{Sign}
use Rattle.c_syntax.specs.declared.token.Sign.TheVariants as sign_is
use Rattle.c_syntax.specs.declared.token.Word.{Word}
use Rattle.c_syntax.specs.declared.token.Word.TheVariants as word_is
use Rattle.c_syntax.specs.declared.token.TokenKind.{TokenKind}
use Rattle.c_syntax.specs.declared.token.TokenKind.TheVariants as kind
use Rattle.c_syntax.specs.declared.parts.Base.{Base}
use Rattle.c_syntax.specs.declared.parts.Base.TheVariants as base_is
use Rattle.c_syntax.specs.declared.parts.Bound.{Bound}
use Rattle.c_syntax.specs.declared.parts.Param.{Param}
use Rattle.c_syntax.specs.declared.parts.ParamName.{ParamName}
use Rattle.c_syntax.specs.Words.{Kinds, a_sign, a_name, optional_kinds, bound_kinds, param_name_kinds, optional_nesting, name_nesting, ShapedParamOf, NameAt}
use Rattle.c_parser_expressions.specs.Reading.{Cursor, SameUpTo, Found, Outcome, sequence_rule, next_cursor, kinds_behind_first, sign_at, word_at, name_at}
use Rattle.c_parser_expressions.specs.Marks.{begins_with_sign}
use Rattle.c_parser_declarations.specs.Lists.{Separates, comma, closed}
use Rattle.c_parser_expressions.specs.Expressions.{EndsType, type_name}
use Rattle.c_parser_expressions.specs.ExpressionParser.{the_type}
use Rattle.c_parser_declarations.specs.Declarations.{bound_end, NoBracket}
use Rattle.c_parser_declarations.specs.DeclarationParser.{the_bound}
use Rattle.c_parser_declarations.specs.Parts.{IsParamName, bound_or_none, param_name, shaped_name, param}
use Rattle.c_parser_declarations.specs.PartParser.{one_bound, param_name_of, param_name_by, is_void_base, param_of, param_by}
use Rattle.c_parser_expressions.proofs.Heads.{sign-head, name-head, same-sign, same-name, sign-same, stands-sign, sign-stands}
use Rattle.c_parser_expressions.proofs.Laws.{Leads, leads-here, leads-fails, leads-trans, part, finish}
use Rattle.c_parser_expressions.proofs.Tokens.{fails-here}
use Rattle.c_parser_expressions.proofs.TypeNames.{type-parses}
use Rattle.c_parser_declarations.proofs.Declarators.{bound-parses}

-- what can stand behind a parameter

separates-sign : (k : Kinds) (x : Sign) → Separates sign_is.RightParen k → sign_at k ≡ Some x → (x ≡ sign_is.Comma → ⊥) → (x ≡ sign_is.RightParen → ⊥) → ⊥
separates-sign k x (comma h) e not_comma not_closed = not_comma (let t : Some x ≡ Some sign_is.Comma = sym e ∙ h in cc)
separates-sign k x (closed h) e not_comma not_closed = not_closed (let t : Some x ≡ Some sign_is.RightParen = sym e ∙ h in cc)

sign-no_word : (k : Kinds) (x : Sign) (w : Word) → sign_at k ≡ Some x → word_at k ≡ Some w → ⊥
sign-no_word [] x w h e = cc
sign-no_word (kind.Punctuator y ∷ k) x w h e = cc
sign-no_word (_ ∷ k) x w h e = cc

pub sign-no_name : (k : Kinds) (x : Sign) (n : List ℕ) → sign_at k ≡ Some x → name_at k ≡ Some n → ⊥
sign-no_name [] x n h e = cc
sign-no_name (kind.Punctuator y ∷ k) x n h e = cc
sign-no_name (_ ∷ k) x n h e = cc

separates-bracket : (k : Kinds) → Separates sign_is.RightParen k → NoBracket k
separates-bracket k ends = record { not = λ t. separates-sign k sign_is.LeftBracket ends t (λ e. cc) (λ e. cc) }

separates-type : (k : Kinds) → Separates sign_is.RightParen k → EndsType k
separates-type k (comma h) = record {
  no_star = record { not = λ t. (let e : Some sign_is.Comma ≡ Some sign_is.Star = sym h ∙ t in cc) };
  no_int = record { not = λ t. sign-no_word k sign_is.Comma word_is.Int h t };
}
separates-type k (closed h) = record {
  no_star = record { not = λ t. (let e : Some sign_is.RightParen ≡ Some sign_is.Star = sym h ∙ t in cc) };
  no_int = record { not = λ t. sign-no_word k sign_is.RightParen word_is.Int h t };
}

-- a bound, or none

bracket-back : (most at last : ℕ) (ks k : Kinds) (o : Option Bound) → NoBracket k
    → SameUpTo last at (kind.Punctuator sign_is.LeftBracket ∷ ks) (optional_kinds bound_kinds o ++ k) → (x : Bound) × (o ≡ Some x)
bracket-back most at last ks k None ends same = absurd (ends.not (sign-same last at k ks sign_is.LeftBracket same))
bracket-back most at last ks k (Some x) ends same = (x, refl)

bracket-leads : (most : ℕ) (c : Cursor) → sign_at c.rest ≡ Some sign_is.LeftBracket → Leads (bound_or_none (suc most)) bound_end c (next_cursor c) Some
bracket-leads most c h =
    let whole : c.rest ≡ kind.Punctuator sign_is.LeftBracket ∷ kinds_behind_first c.rest = sign-head c.rest sign_is.LeftBracket h in
    record {
      front = a_sign sign_is.LeftBracket;
      whole = whole;
      moved = refl;
      build = λ x is. omega arith;
      spelled = λ x. refl;
      back = λ o k last is ends le same.
          (let b = bracket-back most c.at last (kinds_behind_first c.rest) k o ends (subst (λ (v : Kinds). SameUpTo last c.at v (optional_kinds bound_kinds o ++ k)) whole same) in
          (b.0, b.1, tt, record {}));
    }

bare-found : (most : ℕ) (c : Cursor) → ((o : Option Bound) (k : Kinds) (last : ℕ) → optional_nesting (λ b. 1) o ≤ most → SameUpTo last c.at c.rest (optional_kinds bound_kinds o ++ k)
    → o ≡ None) → Found (bound_or_none most) c None c
bare-found most c only = record {
  is = omega arith;
  spelled = refl;
  moved = (let e : c.at ≡ c.at + length {A = TokenKind} [] = omega arith in e);
  only = λ o k last is ends le same. only o k last is same;
}

no-bound : (o : Option Bound) → optional_nesting (λ b. 1) o ≤ 0 → o ≡ None
no-bound None h = refl
no-bound (Some x) h = absurd (omega arith)

no-bracket : (at last : ℕ) (ks k : Kinds) (o : Option Bound) → (sign_at ks ≡ Some sign_is.LeftBracket → ⊥) → SameUpTo last at ks (optional_kinds bound_kinds o ++ k)
    → o ≡ None
no-bracket at last ks k None other same = refl
no-bracket at last ks k (Some x) other same = absurd (other (same-sign last at ks _ sign_is.LeftBracket same))

bound-parses-or : (most : ℕ) (c : Cursor) → Outcome (bound_or_none most) c (one_bound most c)
unfolding one_bound
bound-parses-or zero c = bare-found 0 c (λ o k last is same. no-bound o is)
bound-parses-or (suc most) c = elim (cases_Bool (begins_with_sign sign_is.LeftBracket c.rest)) [
  | inl t ↦ rw t (finish (bound_or_none (suc most)) bound_end c (next_cursor c) Some (the_bound (next_cursor c))
      (bracket-leads most c (stands-sign sign_is.LeftBracket c.rest (omega arith) t)) (bound-parses (next_cursor c)))
  | inr f ↦ rw f (bare-found (suc most) c (λ o k last is same. no-bracket c.at last c.rest k o (λ e. let t = sign-stands sign_is.LeftBracket c.rest e in
      cc) same))
]

-- a name, or none

abbrev named : (token : ℕ) (name : List ℕ) → Option Bound → Option ParamName
named token name o = Some (record { token = token; name = name; bound = o })

name-unlike : (last at : ℕ) (ks k : Kinds) (name : List ℕ) (x : Sign) → sign_at k ≡ Some x → SameUpTo last at (kind.Name name ∷ ks) k → ⊥
name-unlike last at ks [] name x h same = same
name-unlike last at ks (t ∷ k) name x h same = let e : sign_at (kind.Name name ∷ k) ≡ Some x = ap (λ (v : TokenKind). sign_at (v ∷ k)) same.0 ∙ h in cc

name-back : (most at last : ℕ) (ks k : Kinds) (name : List ℕ) (o : Option ParamName) → (param_name most).Is at o → Separates sign_is.RightParen k
    → SameUpTo last at (kind.Name name ∷ ks) (optional_kinds param_name_kinds o ++ k)
    → (b : Option Bound) × (o ≡ named at name b) × (optional_nesting (λ x. 1) b ≤ most)
name-back most at last ks k name None is (comma h) same = absurd (name-unlike last at ks k name sign_is.Comma h same)
name-back most at last ks k name None is (closed h) same = absurd (name-unlike last at ks k name sign_is.RightParen h same)
name-back most at last ks k name (Some x) is ends same =
    let h : kind.Name name ≡ kind.Name x.name = same.0 in
    let e : x.name ≡ name = cc in
    (x.bound, (λ i. Some (record { token = is.placed i; name = e i; bound = x.bound })), is.nests)

name-leads : (most : ℕ) (c : Cursor) (name : List ℕ) → name_at c.rest ≡ Some name → Leads (param_name most) (bound_or_none most) c (next_cursor c) (named c.at name)
name-leads most c name h =
    let whole : c.rest ≡ kind.Name name ∷ kinds_behind_first c.rest = name-head c.rest name h in
    record {
      front = a_name name;
      whole = whole;
      moved = refl;
      build = λ o is. record { nests = is; placed = refl };
      spelled = λ o. refl;
      back = λ o k last is ends le same.
          (let b = name-back most c.at last (kinds_behind_first c.rest) k name o is ends
          (subst (λ (v : Kinds). SameUpTo last c.at v (optional_kinds param_name_kinds o ++ k)) whole same) in (b.0, b.1, b.2, separates-bracket k ends));
    }

no-name : (most at last : ℕ) (ks k : Kinds) (o : Option ParamName) → name_at ks ≡ None → SameUpTo last at ks (optional_kinds param_name_kinds o ++ k) → o ≡ None
no-name most at last ks k None h same = refl
no-name most at last ks k (Some x) h same = absurd (let e : None ≡ Some x.name = sym h ∙ same-name last at ks _ x.name same in cc)

name-of : (most : ℕ) (c : Cursor) (o : Option (List ℕ)) → name_at c.rest ≡ o → Outcome (param_name most) c (param_name_of most c o)
name-of most c None h = record {
  is = tt;
  spelled = refl;
  moved = (let e : c.at ≡ c.at + length {A = TokenKind} [] = omega arith in e);
  only = λ o k last is ends le same. no-name most c.at last c.rest k o h same;
}
name-of most c (Some name) h = finish (param_name most) (bound_or_none most) c (next_cursor c) (named c.at name) (one_bound most (next_cursor c)) (name-leads most c name h)
    (bound-parses-or most (next_cursor c))

pub param_name-parses : (most : ℕ) (c : Cursor) → Outcome (param_name most) c (param_name_by most c)
unfolding param_name_by
param_name-parses most c = name-of most c (name_at c.rest) refl

-- a parameter

abbrev pub param_tree : ℕ → (Base × ℕ) × Option ParamName → Param
param_tree token p = record { token = token; base = p.0.0; stars = p.0.1; name = p.1 }

name-nests : (d n at : ℕ) (o : Option ParamName) → n ≤ d → IfSome o (IsParamName (d - n) at) → n + optional_nesting name_nesting o ≤ d
name-nests d n at None le is = omega arith
name-nests d n at (Some x) le is = let m = is.nests in omega arith

name-placed : (d n at : ℕ) (o : Option ParamName) → IfSome o (IsParamName (d - n) at) → IfSome o (NameAt at)
name-placed d n at None is = tt
name-placed d n at (Some x) is = is.placed

name-is : (d n at : ℕ) (o : Option ParamName) → n + optional_nesting name_nesting o ≤ d → IfSome o (NameAt at) → IfSome o (IsParamName (d - n) at)
name-is d n at None nests placed = tt
name-is d n at (Some x) nests placed = record { nests = omega arith; placed = placed }

pub param-leads : (d : ℕ) (c : Cursor) → Leads (param d) (sequence_rule (type_name d) (shaped_name d)) c c (param_tree c.at)
param-leads d c = leads-here (param d) (sequence_rule (type_name d) (shaped_name d)) c (param_tree c.at)
    (λ p is. record { shaped = is.1.0; nests = name-nests d p.0.1 _ p.1 is.0.1 is.1.1; placed = (refl, is.0.0, name-placed d p.0.1 _ p.1 is.1.1) })
    (λ p. refl)
    (λ x k last is ends le same.
    (let nests = is.nests in (
      ((x.base, x.stars), x.name),
      (λ i. record { token = is.placed.0 i; base = x.base; stars = x.stars; name = x.name }),
      ((is.placed.1, let few : x.stars ≤ d = omega arith in few), (is.shaped, name-is d x.stars _ x.name nests is.placed.2)),
      ends,
    )))

pub type-follow : (d : ℕ) (t : Base × ℕ) (o : Option ParamName) (k : Kinds) → Separates sign_is.RightParen k → EndsType ((shaped_name d t).spell o ++ k)
type-follow d t None k ends = separates-type k ends
type-follow d t (Some x) k ends = record { no_star = record { not = λ e. cc }; no_int = record { not = λ e. cc } }

pub shaped-type : (b : Base) (n : ℕ) → (is_void_base b && (n == 0)) ≡ false → ShapedParamOf b n
shaped-type (base_is.Void t) n h = let e : (n == 0) ≡ false = h in grind arith
shaped-type b n h = tt

pub unshaped-type : (b : Base) (n : ℕ) → (is_void_base b && (n == 0)) ≡ true → ShapedParamOf b n → ⊥
unshaped-type (base_is.Void t) n h shaped = let e : (n == 0) ≡ true = h in grind arith
unshaped-type b n h shaped = cc

pub shaped-leads : (d : ℕ) (t : Base × ℕ) (c : Cursor) → ShapedParamOf t.0 t.1 → Leads (shaped_name d t) (param_name (d - t.1)) c c (λ o. o)
shaped-leads d t c shaped = leads-here (shaped_name d t) (param_name (d - t.1)) c (λ o. o) (λ o is. (shaped, is)) (λ o. refl)
    (λ o k last is ends le same. (o, refl, is.1, ends))

pub param-parses : (d : ℕ) (c : Cursor) → Outcome (param d) c (param_by d c)
unfolding param_by param_of
param-parses d c =
    part (param d) (type_name d) (shaped_name d) c c (param_tree c.at) (the_type d c) (λ t. param_of d c.at t.0 t.1)
    (λ at v y k v_is y_is ends. type-follow d v y k ends) (param-leads d c) (type-parses d c)
    (λ t to found l. elim (cases_Bool (is_void_base t.0 && (t.1 == 0))) [
      | inl h ↦ rw h (leads-fails (param d) (shaped_name d t) c to (λ o. param_tree c.at (t, o)) to.at l
          (fails-here (shaped_name d t) to (λ o k is ends same. unshaped-type t.0 t.1 h is.0)))
      | inr h ↦ rw h (finish (param d) (param_name (d - t.1)) c to (λ o. param_tree c.at (t, o)) (param_name_by (d - t.1) to)
          (leads-trans (param d) (shaped_name d t) (param_name (d - t.1)) c to to (λ o. param_tree c.at (t, o)) (λ o. o) l
          (shaped-leads d t to (shaped-type t.0 t.1 h))) (param_name-parses (d - t.1) to))
    ])
