-- Expressions of statements, with the signs around them.
use Rattle.std.proofs.Common.{◌≡◌, ℕ, ◌+◌, ◌-◌, ◌≤◌, true, false, inl, inr, [], ◌∷◌, ◌++◌, Option, Some, None, Ok, refl, sym, ap, ◌∙◌, subst, append_assoc, arith}
use Rattle.std.proofs.lemmas.Bool.{cases_Bool}
use Rattle.std.specs.Prelude.{IfSome}
use Rattle.c_syntax.specs.declared.token.Sign.{Sign}
use Rattle.c_syntax.specs.declared.token.Sign.TheVariants as sign_is
use Rattle.c_syntax.specs.declared.token.Word.TheVariants as word_is
use Rattle.c_syntax.specs.declared.token.TokenKind.{TokenKind}
use Rattle.c_syntax.specs.declared.token.TokenKind.TheVariants as kind
use Rattle.c_syntax.specs.Words.{ExprTree, ForStartTree, DeclarationTree, Kinds, a_sign, optional_kinds, base_kinds, expr_kinds, for_start_kinds, declaration_kinds}
use Rattle.c_syntax.specs.Words.{with_commas, start_kinds, optional_nesting, expr_nesting, ShapedExpr, ExprAt}
use Rattle.c_syntax.specs.StatementTree as s
use Rattle.c_parser_expressions.specs.Reading.{Cursor, SameUpTo, Rule, Outcome, sequence_rule, rule_before_sign, sign_rule, word_rule, kinds_behind_first, sign_at, kind_word}
use Rattle.c_parser_expressions.specs.Marks.{sign_mark, begins_with_sign}
use Rattle.c_parser_expressions.specs.Steps.{◌>>=◌, the_sign, the_word}
use Rattle.c_parser_expressions.specs.Expressions.{sign_binds, IsExpr, expression}
use Rattle.c_parser_expressions.specs.ExpressionParser.{is_base_word, begins_type, closed_by, whole_by, deeper_than}
use Rattle.c_parser_declarations.specs.Declarations.{IsDeclaration, declaration}
use Rattle.c_parser_declarations.specs.DeclarationParser.{declaration_by}
use Rattle.c_parser_statements.specs.Statements.{condition, ended_by, do_loop_end, IsForStart, for_start, for_header}
use Rattle.c_parser_statements.specs.StatementParser.{optional_by, condition_by, until_by, for_start_by, Header, header_by}
use Rattle.c_parser_expressions.proofs.Heads.{sign-head, same-sign, stands-sign, sign-stands}
use Rattle.c_parser_expressions.proofs.Laws.{Leads, leads-here, leads-outcome, part, finish}
use Rattle.c_parser_expressions.proofs.Tokens.{token-found, sign-parses, word-parses, before-parses}
use Rattle.c_parser_expressions.proofs.Starts.{starts, starts-expr, starts-same, starts-more}
use Rattle.c_parser_expressions.proofs.TypeNames.{base-begins}
use Rattle.c_parser_declarations.proofs.Initials.{ReadsAssignments, ReadsInner}
use Rattle.c_parser_declarations.proofs.Declaring.{declaration-parses}

-- what is known of expressions
abbrev pub ReadsWhole : Type 0
ReadsWhole = (d : ℕ) (c : Cursor) → Outcome (expression 0 d) c ((whole_by d (deeper_than d)) c)

-- an expression and a sign behind it
pub closed-parses : ReadsWhole → (d : ℕ) (x : Sign) (c : Cursor) → 1 ≤ sign_mark x → sign_binds x ≡ 0
    → Outcome (rule_before_sign (expression 0 d) x) c (closed_by (whole_by d (deeper_than d)) x c)
unfolding closed_by
closed-parses reads d x c marked none = before-parses (expression 0 d) x c ((whole_by d (deeper_than d)) c) marked (λ v k. record { by = omega arith })
    (reads d c)

condition-leads : (d : ℕ) (c : Cursor) → Leads (condition d) (sequence_rule (sign_rule sign_is.LeftParen) (λ u. rule_before_sign (expression 0 d) sign_is.RightParen)) c c (λ p. p.1)
condition-leads d c = leads-here (condition d) (sequence_rule (sign_rule sign_is.LeftParen) (λ u. rule_before_sign (expression 0 d) sign_is.RightParen)) c (λ p. p.1) (λ p is. is.1)
    (λ p. refl)
    (λ x k last is ends le same. ((tt, x), refl, (tt, is), record {}))

pub condition-parses : ReadsWhole → (d : ℕ) (c : Cursor) → Outcome (condition d) c (condition_by d c)
unfolding condition_by
condition-parses reads d c =
    part (condition d) (sign_rule sign_is.LeftParen) (λ u. rule_before_sign (expression 0 d) sign_is.RightParen) c c (λ p. p.1) (the_sign sign_is.LeftParen c)
    (λ y. closed_by (whole_by d (deeper_than d)) sign_is.RightParen y.1)
    (λ at v y k v_is y_is ends. record {}) (condition-leads d c) (sign-parses sign_is.LeftParen c (omega arith))
    (λ u to found l. leads-outcome (condition d) (rule_before_sign (expression 0 d) sign_is.RightParen) c to
    (closed_by (whole_by d (deeper_than d)) sign_is.RightParen to) l (closed-parses reads d sign_is.RightParen to (omega arith) refl))

-- an expression or none

none-only : (d at last : ℕ) (x : Sign) (ks k : Kinds) (o : Option ExprTree) → starts (kind.Punctuator x) ≡ false → sign_at ks ≡ Some x
    → IfSome o (IsExpr 0 d at) → SameUpTo last at ks ((optional_kinds expr_kinds o ++ a_sign x) ++ k) → o ≡ None
none-only d at last x ks k None other h is same = refl
none-only d at last x ks k (Some v) other h is same =
    let head : SameUpTo last at (kind.Punctuator x ∷ kinds_behind_first ks) ((expr_kinds v ++ a_sign x) ++ k) =
    subst (λ (t : Kinds). SameUpTo last at t ((expr_kinds v ++ a_sign x) ++ k)) (sign-head ks x h) same in
    let begins = starts-same last at (kind.Punctuator x) (kinds_behind_first ks) ((expr_kinds v ++ a_sign x) ++ k)
    (starts-more (expr_kinds v ++ a_sign x) k (starts-more (expr_kinds v) (a_sign x) (starts-expr v is.shaped))) head in
    absurd (let e : true ≡ false = sym begins ∙ other in cc)

some-back : (d at last : ℕ) (x : Sign) (ks k : Kinds) (o : Option ExprTree) → (sign_at ks ≡ Some x → ⊥) → IfSome o (IsExpr 0 d at)
    → SameUpTo last at ks ((optional_kinds expr_kinds o ++ a_sign x) ++ k) → (v : ExprTree) × (o ≡ Some v) × IsExpr 0 d at v
some-back d at last x ks k None other is same = absurd (other (same-sign last at ks k x same))
some-back d at last x ks k (Some v) other is same = (v, refl, is)

some-leads : (d : ℕ) (x : Sign) (c : Cursor) → (sign_at c.rest ≡ Some x → ⊥) → Leads (ended_by d x) (rule_before_sign (expression 0 d) x) c c Some
some-leads d x c other = leads-here (ended_by d x) (rule_before_sign (expression 0 d) x) c Some (λ v is. is) (λ v. refl)
    (λ o k last is ends le same. (let b = some-back d c.at last x c.rest k o other is same in (b.0, b.1, b.2, record {})))

pub ended-parses : ReadsWhole → (d : ℕ) (x : Sign) (c : Cursor) → 1 ≤ sign_mark x → sign_binds x ≡ 0 → starts (kind.Punctuator x) ≡ false
    → Outcome (ended_by d x) c (optional_by d x c)
unfolding optional_by
ended-parses reads d x c marked none other = elim (cases_Bool (begins_with_sign x c.rest)) [
  | inl t ↦
      (let h = stands-sign x c.rest marked t in
      rw t (token-found (ended_by d x) c (kind.Punctuator x) None tt refl (sign-head c.rest x h)
      (λ o k last is ends le same. none-only d c.at last x c.rest k o other h is same)))
  | inr f ↦
      rw f (finish (ended_by d x) (rule_before_sign (expression 0 d) x) c c Some (closed_by (whole_by d (deeper_than d)) x c)
      (some-leads d x c (λ h. let t = sign-stands x c.rest h in cc)) (closed-parses reads d x c marked none))
]

-- behind the body of a `do`

until-leads : (d : ℕ) (c : Cursor) → Leads (do_loop_end d) (sequence_rule (word_rule word_is.While) (λ w. sequence_rule (condition d) (λ x. sign_rule sign_is.Semicolon))) c c (λ p. p.1.0)
until-leads d c =
    let at : c.at + 1 + 1 ≡ c.at + 2 = omega arith in
    leads-here (do_loop_end d) (sequence_rule (word_rule word_is.While) (λ w. sequence_rule (condition d) (λ x. sign_rule sign_is.Semicolon))) c (λ p. p.1.0)
    (λ p is. subst (λ (n : ℕ). IsExpr 0 d n p.1.0) at is.1.0) (λ p. refl)
    (λ x k last is ends le same. ((tt, (x, tt)), refl, (tt, (subst (λ (n : ℕ). IsExpr 0 d n x) (sym at) is, tt)), record {}))

pub until-parses : ReadsWhole → (d : ℕ) (c : Cursor) → Outcome (do_loop_end d) c (until_by d c)
unfolding until_by
until-parses reads d c =
    part (do_loop_end d) (word_rule word_is.While) (λ w. sequence_rule (condition d) (λ x. sign_rule sign_is.Semicolon)) c c (λ p. p.1.0) (the_word word_is.While c)
    (λ w. condition_by d w.1 >>= (λ x. the_sign sign_is.Semicolon x.1 >>= (λ y. Ok (x.0, y.1))))
    (λ at v y k v_is y_is ends. record {}) (until-leads d c) (word-parses word_is.While c (omega arith))
    (λ w to found l. part (do_loop_end d) (condition d) (λ x. sign_rule sign_is.Semicolon) c to (λ p. p.0) (condition_by d to)
    (λ x. the_sign sign_is.Semicolon x.1 >>= (λ y. Ok (x.0, y.1)))
    (λ at v y k v_is y_is ends. record {}) l (condition-parses reads d to)
    (λ x mid x_found l2. finish (do_loop_end d) (sign_rule sign_is.Semicolon) c mid (λ y. x) (the_sign sign_is.Semicolon mid) l2
    (sign-parses sign_is.Semicolon mid (omega arith))))

-- the parentheses of a `for`

pub type-no_sign : (last at : ℕ) (ks k : Kinds) (x : Sign) → begins_type ks ≡ true → SameUpTo last at ks (kind.Punctuator x ∷ k) → ⊥
type-no_sign last at [] k x h same = same
type-no_sign last at (t ∷ ks) k x h same = let e : is_base_word (kind_word t) ≡ false =
    ap (λ (v : TokenKind). is_base_word (kind_word v)) same.0 in let f : true ≡ false = sym h ∙ e in cc

type-no_start : (t : TokenKind) → is_base_word (kind_word t) ≡ true → starts t ≡ false
type-no_start (kind.Word word_is.Void) h = refl
type-no_start (kind.Word word_is.Char) h = refl
type-no_start (kind.Word word_is.Int) h = refl
type-no_start (kind.Word word_is.Unsigned) h = refl
type-no_start (kind.Word word_is.Struct) h = refl
type-no_start _ h = cc

pub type-no_expr : (last at : ℕ) (ks k : Kinds) (v : ExprTree) → ShapedExpr v → begins_type ks ≡ true → SameUpTo last at ks (expr_kinds v ++ k) → ⊥
type-no_expr last at [] k v shaped h same = cc
type-no_expr last at (t ∷ ks) k v shaped h same =
    let begins = starts-same last at t ks (expr_kinds v ++ k) (starts-more (expr_kinds v) k (starts-expr v shaped)) same in
    let other = type-no_start t h in
    let e : true ≡ false = sym begins ∙ other in cc

pub opt-shaped : (d at : ℕ) (o : Option ExprTree) → IfSome o (IsExpr 0 d at) → IfSome o ShapedExpr
opt-shaped d at None is = tt
opt-shaped d at (Some v) is = is.shaped

pub opt-nests : (d at : ℕ) (o : Option ExprTree) → IfSome o (IsExpr 0 d at) → optional_nesting expr_nesting o ≤ d
opt-nests d at None is = omega arith
opt-nests d at (Some v) is = is.nests

pub opt-placed : (d at : ℕ) (o : Option ExprTree) → IfSome o (IsExpr 0 d at) → IfSome o (ExprAt at)
opt-placed d at None is = tt
opt-placed d at (Some v) is = is.placed

pub opt-is : (d at : ℕ) (o : Option ExprTree) → IfSome o ShapedExpr → optional_nesting expr_nesting o ≤ d → IfSome o (ExprAt at) → IfSome o (IsExpr 0 d at)
opt-is d at None shaped nests placed = tt
opt-is d at (Some v) shaped nests placed = record { ranks = omega arith; shaped = shaped; nests = nests; placed = placed }

declares-back : (d at last : ℕ) (ks k : Kinds) (x : ForStartTree) → begins_type ks ≡ true → IsForStart d at x → SameUpTo last at ks (for_start_kinds x ++ k)
    → (v : DeclarationTree) × (x ≡ s.Declares v) × IsDeclaration 0 (d - 1) at v
declares-back d at last ks k (s.Declares v) h is same = let nests = is.nests in
    (v, refl, record { shaped = is.shaped; nests = omega arith; placed = is.placed })
declares-back d at last ks k (s.Computes None) h is same = absurd (type-no_sign last at ks k sign_is.Semicolon h same)
declares-back d at last ks k (s.Computes (Some v)) h is same =
    absurd (type-no_expr last at ks (a_sign sign_is.Semicolon ++ k) v is.shaped h
    (subst (λ (t : Kinds). SameUpTo last at ks t) (append_assoc (expr_kinds v) (a_sign sign_is.Semicolon) k) same))

declares-leads : (d : ℕ) (c : Cursor) → 1 ≤ d → begins_type c.rest ≡ true → Leads (for_start d) (declaration 0 (d - 1)) c c s.Declares
declares-leads d c positive h = leads-here (for_start d) (declaration 0 (d - 1)) c s.Declares
    (λ v is. (let nests = is.nests in record { shaped = is.shaped; nests = omega arith; placed = is.placed })) (λ v. refl)
    (λ x k last is ends le same. (let b = declares-back d c.at last c.rest k x h is same in (b.0, b.1, b.2, record {})))

pub declaration-begins : (last at : ℕ) (ks k : Kinds) (v : DeclarationTree) → SameUpTo last at ks (declaration_kinds v ++ k) → begins_type ks ≡ true
declaration-begins last at ks k v same =
    base-begins last at ks (with_commas start_kinds v.starts ++ (a_sign sign_is.Semicolon ++ k)) v.base
    (subst (λ (t : Kinds). SameUpTo last at ks t) (append_assoc (base_kinds v.base ++ with_commas start_kinds v.starts) (a_sign sign_is.Semicolon) k
    ∙ append_assoc (base_kinds v.base) (with_commas start_kinds v.starts) (a_sign sign_is.Semicolon ++ k)) same)

computes-back : (d at last : ℕ) (ks k : Kinds) (x : ForStartTree) → begins_type ks ≡ false → IsForStart d at x → SameUpTo last at ks (for_start_kinds x ++ k)
    → (o : Option ExprTree) × (x ≡ s.Computes o) × IfSome o (IsExpr 0 d at)
computes-back d at last ks k (s.Declares v) h is same = absurd (let t = declaration-begins last at ks k v same in let e : true ≡ false = sym t ∙ h in cc)
computes-back d at last ks k (s.Computes o) h is same = (o, refl, opt-is d at o is.shaped is.nests is.placed)

computes-leads : (d : ℕ) (c : Cursor) → begins_type c.rest ≡ false → Leads (for_start d) (ended_by d sign_is.Semicolon) c c s.Computes
computes-leads d c h = leads-here (for_start d) (ended_by d sign_is.Semicolon) c s.Computes
    (λ o is. record { shaped = opt-shaped d c.at o is; nests = opt-nests d c.at o is; placed = opt-placed d c.at o is }) (λ o. refl)
    (λ x k last is ends le same. (let b = computes-back d c.at last c.rest k x h is same in (b.0, b.1, b.2, record {})))

pub for_start-parses : ReadsWhole → ReadsAssignments → ReadsInner → (d : ℕ) → 1 ≤ d → (c : Cursor) → Outcome (for_start d) c (for_start_by d c)
unfolding for_start_by
for_start-parses reads assigns inside d positive c = elim (cases_Bool (begins_type c.rest)) [
  | inl t ↦ rw t (finish (for_start d) (declaration 0 (d - 1)) c c s.Declares (declaration_by 0 (d - 1) c) (declares-leads d c positive t)
      (declaration-parses assigns inside 0 (d - 1) (omega arith) c))
  | inr f ↦ rw f (finish (for_start d) (ended_by d sign_is.Semicolon) c c s.Computes (optional_by d sign_is.Semicolon c) (computes-leads d c f)
      (ended-parses reads d sign_is.Semicolon c (omega arith) refl refl))
]

abbrev HeaderParts : Type 0
HeaderParts = Unit {0} × (ForStartTree × (Option ExprTree × Option ExprTree))

abbrev header_of : HeaderParts → Header
header_of p = record { start = p.1.0; condition = p.1.1.0; step = p.1.1.1 }

abbrev header_parts : (d : ℕ) → Rule HeaderParts
header_parts d = sequence_rule (sign_rule sign_is.LeftParen) (λ u. sequence_rule (for_start d) (λ x. sequence_rule (ended_by d sign_is.Semicolon) (λ y. ended_by d sign_is.RightParen)))

header-leads : (d : ℕ) (c : Cursor) → Leads (for_header d) (header_parts d) c c header_of
header-leads d c = leads-here (for_header d) (header_parts d) c header_of (λ p is. record { start = is.1.0; condition = is.1.1.0; step = is.1.1.1 }) (λ p. refl)
    (λ h k last is ends le same. ((tt, (h.start, (h.condition, h.step))), refl, (tt, (is.start, (is.condition, is.step))), record {}))

pub header-parses : ReadsWhole → ReadsAssignments → ReadsInner → (d : ℕ) → 1 ≤ d → (c : Cursor) → Outcome (for_header d) c (header_by d c)
unfolding header_by
header-parses reads assigns inside d positive c =
    part (for_header d) (sign_rule sign_is.LeftParen) (λ u. sequence_rule (for_start d) (λ x. sequence_rule (ended_by d sign_is.Semicolon) (λ y. ended_by d sign_is.RightParen))) c c header_of
    (the_sign sign_is.LeftParen c)
    (λ u. for_start_by d u.1 >>= (λ x. optional_by d sign_is.Semicolon x.1 >>=
    (λ y. optional_by d sign_is.RightParen y.1 >>= (λ z. Ok (record { start = x.0; condition = y.0; step = z.0 }, z.1)))))
    (λ at v y k v_is y_is ends. record {}) (header-leads d c) (sign-parses sign_is.LeftParen c (omega arith))
    (λ u to found l. part (for_header d) (for_start d) (λ x. sequence_rule (ended_by d sign_is.Semicolon) (λ y. ended_by d sign_is.RightParen)) c to (λ p. header_of (tt, p))
    (for_start_by d to)
    (λ x. optional_by d sign_is.Semicolon x.1 >>= (λ y. optional_by d sign_is.RightParen y.1 >>=
    (λ z. Ok (record { start = x.0; condition = y.0; step = z.0 }, z.1))))
    (λ at v y k v_is y_is ends. record {}) l (for_start-parses reads assigns inside d positive to)
    (λ x mid x_found l2. part (for_header d) (ended_by d sign_is.Semicolon) (λ y. ended_by d sign_is.RightParen) c mid (λ p. header_of (tt, (x, p)))
    (optional_by d sign_is.Semicolon mid)
    (λ y. optional_by d sign_is.RightParen y.1 >>= (λ z. Ok (record { start = x; condition = y.0; step = z.0 }, z.1)))
    (λ at v y k v_is y_is ends. record {}) l2 (ended-parses reads d sign_is.Semicolon mid (omega arith) refl refl)
    (λ y end y_found l3. finish (for_header d) (ended_by d sign_is.RightParen) c end (λ z. header_of (tt, (x, (y, z)))) (optional_by d sign_is.RightParen end) l3
    (ended-parses reads d sign_is.RightParen end (omega arith) refl refl))))
