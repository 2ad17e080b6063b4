-- Bounds and declarators.
use Rattle.std.proofs.Common.{◌≡◌, ℕ, zero, suc, ◌+◌, ◌-◌, ◌≤◌, inl, inr, List, [], ◌∷◌, ◌++◌, length, Option, Some, None, Ok, refl, sym, ap, ◌∙◌, subst, append_assoc, arith}
use Rattle.std.proofs.lemmas.Bool.{cases_Bool}
use Rattle.std.specs.Prelude.{flat_map}
use Rattle.c_parser_expressions.proofs.Primary.{first-head}
use Rattle.cbi_base.specs.declared.scalar.Kind.{Kind}
use Rattle.c_syntax.specs.declared.token.Sign.TheVariants as sign_is
use Rattle.c_syntax.specs.declared.token.TokenKind.{TokenKind}
use Rattle.c_syntax.specs.declared.token.TokenKind.TheVariants as kind
use Rattle.c_syntax.specs.declared.parts.Bound.{Bound}
use Rattle.c_syntax.specs.declared.parts.Constant.{Constant}
use Rattle.c_syntax.specs.declared.parts.Declarator.{Declarator}
use Rattle.c_syntax.specs.Spelling.{Kinds, a_sign, a_name, optional_kinds, constant_kinds, bound_kinds, star_kinds}
use Rattle.c_parser_expressions.specs.Reading.{Cursor, SameUpTo, Rule, Found, Outcome, sequence_rule, sign_rule, name_rule, first_kind, next_cursor, kinds_behind_first, sign_at}
use Rattle.c_parser_expressions.specs.Marks.{begins_with_sign}
use Rattle.c_parser_expressions.specs.Steps.{◌>>=◌, the_sign, the_name}
use Rattle.c_parser_expressions.specs.Expressions.{stars, EndsType}
use Rattle.c_parser_expressions.specs.ExpressionParser.{the_stars}
use Rattle.c_parser_declarations.specs.Declarations.{bound_end, NoBracket, bounds, declarator}
use Rattle.c_parser_declarations.specs.DeclarationParser.{constant_of, past_constant, the_bound, the_bounds, declarator_by, the_declarator}
use Rattle.c_parser_expressions.proofs.Heads.{sign-head, same-sign, sign-same, stands-sign, sign-stands}
use Rattle.c_parser_expressions.proofs.Laws.{Leads, leads-here, leads-trans, leads-wrap, seq-leads, part, finish}
use Rattle.c_parser_expressions.proofs.Tokens.{sign-parses, name-parses}
use Rattle.c_parser_expressions.proofs.TypeNames.{stars-found}

-- behind a bracket

constant-back : (last at : ℕ) (ks k : Kinds) (m : Kind) (v : _) (o : Option Constant)
    → SameUpTo last at (kind.Constant m v ∷ ks) ((optional_kinds constant_kinds o ++ a_sign sign_is.RightBracket) ++ k) → o ≡ Some (record { kind = m; value = v })
constant-back last at ks k m v None same = let h = same.0 in cc
constant-back last at ks k m v (Some x) same =
    let h : kind.Constant m v ≡ kind.Constant x.kind x.value = same.0 in
    let m_is : x.kind ≡ m = cc in
    let v_is : x.value ≡ v = cc in
    λ i. Some (record { kind = m_is i; value = v_is i })

no-constant : (last at : ℕ) (ks k : Kinds) (o : Option Constant) → constant_of (first_kind ks) ≡ None
    → SameUpTo last at ks ((optional_kinds constant_kinds o ++ a_sign sign_is.RightBracket) ++ k) → o ≡ None
no-constant last at ks k None h same = refl
no-constant last at [] k (Some x) h same = absurd same
no-constant last at (y ∷ ks) k (Some x) h same =
    let e : constant_of (Some y) ≡ constant_of (Some (kind.Constant x.kind x.value)) = ap (λ (t : TokenKind). constant_of (Some t)) same.0 in cc

constant-leads : (c : Cursor) (m : Kind) (v : _) → first_kind c.rest ≡ Some (kind.Constant m v)
    → Leads bound_end (sign_rule sign_is.RightBracket) c (next_cursor c) (λ u. record { length = Some (record { kind = m; value = v }) })
constant-leads c m v h =
    let whole : c.rest ≡ kind.Constant m v ∷ kinds_behind_first c.rest = first-head c.rest (kind.Constant m v) h in
    record {
      front = kind.Constant m v ∷ [];
      whole = whole;
      moved = refl;
      build = λ u is. tt;
      spelled = λ u. refl;
      back = λ x k last is ends le same.
          (let e = constant-back last c.at (kinds_behind_first c.rest) k m v x.length (subst
          (λ (t : Kinds). SameUpTo last c.at t ((optional_kinds constant_kinds x.length ++ a_sign sign_is.RightBracket) ++ k)) whole same) in
          (tt, λ i. record { length = e i }, tt, record {}));
    }

bare-leads : (c : Cursor) → constant_of (first_kind c.rest) ≡ None → Leads bound_end (sign_rule sign_is.RightBracket) c c (λ u. record { length = None })
bare-leads c h = leads-here bound_end (sign_rule sign_is.RightBracket) c (λ u. record { length = None }) (λ u is. tt) (λ u. refl)
    (λ x k last is ends le same. (let e = no-constant last c.at c.rest k x.length h same in (tt, λ i. record { length = e i }, tt, record {})))

bound-of : (c : Cursor) (t : Option TokenKind) → first_kind c.rest ≡ t
    → Outcome bound_end c (the_sign sign_is.RightBracket (past_constant (constant_of t) c) >>= (λ y. Ok (record { length = constant_of t }, y.1)))
bound-of c (Some (kind.Constant m v)) h =
    finish bound_end (sign_rule sign_is.RightBracket) c (next_cursor c) (λ u. record { length = Some (record { kind = m; value = v }) })
    (the_sign sign_is.RightBracket (next_cursor c)) (constant-leads c m v h) (sign-parses sign_is.RightBracket (next_cursor c) (omega arith))
bound-of c t h =
    finish bound_end (sign_rule sign_is.RightBracket) c c (λ u. record { length = None }) (the_sign sign_is.RightBracket c) (bare-leads c (ap constant_of h))
    (sign-parses sign_is.RightBracket c (omega arith))

pub bound-parses : (c : Cursor) → Outcome bound_end c (the_bound c)
unfolding the_bound
bound-parses c = bound-of c (first_kind c.rest) refl

-- bounds

bounds-back : (most at last : ℕ) (ks k : Kinds) (xs : List Bound) → length xs ≤ suc most → NoBracket k
    → SameUpTo last at (kind.Punctuator sign_is.LeftBracket ∷ ks) (flat_map bound_kinds xs ++ k)
    → (p : Bound × List Bound) × (xs ≡ p.0 ∷ p.1) × (length p.1 ≤ most)
bounds-back most at last ks k [] is ends same = absurd (ends.not (sign-same last at k ks sign_is.LeftBracket same))
bounds-back most at last ks k (x ∷ xs) is ends same = ((x, xs), refl, omega arith)

bounds-leads : (most : ℕ) (c : Cursor) → sign_at c.rest ≡ Some sign_is.LeftBracket
    → Leads (bounds (suc most)) (sequence_rule bound_end (λ x. bounds most)) c (next_cursor c) (λ p. p.0 ∷ p.1)
bounds-leads most c h =
    let whole : c.rest ≡ kind.Punctuator sign_is.LeftBracket ∷ kinds_behind_first c.rest = sign-head c.rest sign_is.LeftBracket h in
    record {
      front = a_sign sign_is.LeftBracket;
      whole = whole;
      moved = refl;
      build = λ p is. (let few : length p.1 ≤ most = is.1 in omega arith);
      spelled = λ p. refl;
      back = λ xs k last is ends le same.
          (let b = bounds-back most c.at last (kinds_behind_first c.rest) k xs is ends (subst (λ (v : Kinds). SameUpTo last c.at v (flat_map bound_kinds xs ++ k)) whole same) in
          (b.0, b.1, (tt, b.2), ends));
    }

no-bounds : (xs : List Bound) → length xs ≤ 0 → xs ≡ []
no-bounds [] h = refl
no-bounds (x ∷ xs) h = absurd (omega arith)

no-bracket : (at last : ℕ) (ks k : Kinds) (xs : List Bound) → (sign_at ks ≡ Some sign_is.LeftBracket → ⊥) → SameUpTo last at ks (flat_map bound_kinds xs ++ k)
    → xs ≡ []
no-bracket at last ks k [] other same = refl
no-bracket at last ks k (x ∷ xs) other same = absurd (other (same-sign last at ks _ sign_is.LeftBracket same))

bounds-none : (most : ℕ) (c : Cursor) → ((xs : List Bound) (k : Kinds) (last : ℕ) → length xs ≤ most → NoBracket k → c.at ≤ last
    → SameUpTo last c.at c.rest (flat_map bound_kinds xs ++ k) → xs ≡ []) → Found (bounds most) c [] c
bounds-none most c only = record {
  is = omega arith;
  spelled = refl;
  moved = (let e : c.at ≡ c.at + length {A = TokenKind} [] = omega arith in e);
  only = only;
}

pub bounds-parses : (most : ℕ) (c : Cursor) → Outcome (bounds most) c (the_bounds most c)
unfolding the_bounds
bounds-parses zero c = bounds-none 0 c (λ xs k last is ends le same. no-bounds xs is)
bounds-parses (suc most) c = elim (cases_Bool (begins_with_sign sign_is.LeftBracket c.rest)) [
  | inl t ↦ rw t (part (bounds (suc most)) bound_end (λ x. bounds most) c (next_cursor c) (λ p. p.0 ∷ p.1) (the_bound (next_cursor c))
      (λ x. the_bounds most x.1 >>= (λ xs. Ok (x.0 ∷ xs.0, xs.1)))
      (λ at v y k v_is y_is ends. record {}) (bounds-leads most c (stands-sign sign_is.LeftBracket c.rest (omega arith) t)) (bound-parses (next_cursor c))
      (λ x to found l. finish (bounds (suc most)) (bounds most) c to (λ xs. x ∷ xs) (the_bounds most to) l (bounds-parses most to)))
  | inr f ↦ rw f (bounds-none (suc most) c (λ xs k last is ends le same. no-bracket c.at last c.rest k xs
      (λ e. let t = sign-stands sign_is.LeftBracket c.rest e in cc) same))
]

-- declarators

pub length-stars : (n : ℕ) → length (star_kinds n) ≡ n
length-stars zero = refl
length-stars (suc n) = let e = length-stars n in omega arith

abbrev pub named : (token stars name_token : ℕ) → List ℕ × List Bound → Declarator
named token stars name_token p = record { token = token; stars = stars; name_token = name_token; name = p.0; bounds = p.1 }

abbrev pub behind_stars : (d n : ℕ) → Rule (List ℕ × List Bound)
behind_stars d n = sequence_rule name_rule (λ x. bounds (d - n))

pub declarator-leads : (d : ℕ) (c : Cursor) → Leads (declarator d) (sequence_rule (stars d) (behind_stars d)) c c (λ p. named c.at p.0 (c.at + p.0) p.1)
declarator-leads d c = leads-here (declarator d) (sequence_rule (stars d) (behind_stars d)) c (λ p. named c.at p.0 (c.at + p.0) p.1)
    (λ p is. (let n : p.0 ≤ d = is.0 in let few : length p.1.1 ≤ d - p.0 = is.1.1 in record { nests = omega arith; placed = (refl, refl) }))
    (λ p. append_assoc (star_kinds p.0) (a_name p.1.0) (flat_map bound_kinds p.1.1))
    (λ x k last is ends le same.
    (let nests = is.nests in (
      (x.stars, (x.name, x.bounds)),
      (λ i. record { token = is.placed.0 i; stars = x.stars; name_token = is.placed.1 i; name = x.name; bounds = x.bounds }),
      (let n : x.stars ≤ d = omega arith in n, (tt, let few : length x.bounds ≤ d - x.stars = omega arith in few)),
      ends,
    )))

stars-before : (d at n : ℕ) (p : List ℕ × List Bound) (k : Kinds) → EndsType ((behind_stars d n).spell p ++ k)
stars-before d at n p k = record { no_star = record { not = λ e. cc }; no_int = record { not = λ e. cc } }

named-leads : (d : ℕ) (c to : Cursor) (n : ℕ) → Found (stars d) c n to → Leads (declarator d) (behind_stars d n) c to (named c.at n to.at)
named-leads d c to n found =
    let moved : to.at ≡ c.at + n = found.moved ∙ ap (λ (m : ℕ). c.at + m) (length-stars n) in
    leads-wrap (declarator d) (behind_stars d n) c to (named c.at n (c.at + n)) (named c.at n to.at) (λ p. ap (λ (m : ℕ). named c.at n m p) (sym moved))
    (leads-trans (declarator d) (sequence_rule (stars d) (behind_stars d)) (behind_stars d n) c c to (λ p. named c.at p.0 (c.at + p.0) p.1) (λ y. (n, y))
    (declarator-leads d c)
    (seq-leads (stars d) (behind_stars d) c to n (λ at v y k v_is y_is ends. stars-before d at v y k) found))

named-parses : (d : ℕ) (c : Cursor) (s : ℕ × Cursor) → Found (stars d) c s.0 s.1 → Outcome (declarator d) c (declarator_by d c.at s)
unfolding declarator_by
named-parses d c s found =
    part (declarator d) name_rule (λ x. bounds (d - s.0)) c s.1 (named c.at s.0 s.1.at) (the_name s.1)
    (λ x. the_bounds (d - s.0) x.1 >>= (λ y. Ok (record { token = c.at; stars = s.0; name_token = s.1.at; name = x.0; bounds = y.0 }, y.1)))
    (λ at v y k v_is y_is ends. record {}) (named-leads d c s.1 s.0 found) (name-parses s.1)
    (λ x to name_found l. finish (declarator d) (bounds (d - s.0)) c to (λ y. named c.at s.0 s.1.at (x, y)) (the_bounds (d - s.0) to) l
    (bounds-parses (d - s.0) to))

pub declarator-parses : (d : ℕ) (c : Cursor) → Outcome (declarator d) c (the_declarator d c)
unfolding the_declarator
declarator-parses d c = named-parses d c (the_stars d c) (stars-found d c)
