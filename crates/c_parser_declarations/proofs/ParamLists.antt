-- What stands between the parentheses of a function.
use Rattle.std.proofs.Common.{◌≡◌, ℕ, zero, suc, ◌+◌, ◌-◌, ◌<◌, ◌≤◌, ◌==◌, true, false, ◌&&◌, inl, inr, List, [], ◌∷◌, ◌++◌, length, Option, Some, Ok, Err, refl, sym, ap, ◌∙◌, subst, append_assoc, length-append, arith}
use Rattle.std.proofs.lemmas.Bool.{cases_Bool, and_parts}
use Rattle.std.specs.List.{AllByRecursion}
use Rattle.c_syntax.specs.declared.token.Sign.TheVariants as sign_is
use Rattle.c_syntax.specs.declared.token.Word.{Word}
use Rattle.c_syntax.specs.declared.token.Word.TheVariants as word_is
use Rattle.c_syntax.specs.declared.token.TokenKind.TheVariants as kind
use Rattle.c_syntax.specs.declared.parts.Base.{Base}
use Rattle.c_syntax.specs.declared.parts.Base.TheVariants as base_is
use Rattle.c_syntax.specs.declared.parts.Param.{Param}
use Rattle.c_syntax.specs.declared.parts.ParamName.{ParamName}
use Rattle.c_syntax.specs.declared.parts.Params.{Params}
use Rattle.c_syntax.specs.declared.parts.Params.TheVariants as params_is
use Rattle.c_syntax.specs.Words.{Kinds, a_sign, a_word, base_kinds, star_kinds, type_kinds, param_kinds, after_commas, deepest_nesting, param_nesting, ShapedParamOf}
use Rattle.c_syntax.specs.Words.{ShapedParam, EachAt, ParamAt}
use Rattle.c_parser_expressions.specs.Reading.{Cursor, SameUpTo, Rule, Found, Fails, Read, Outcome, sequence_rule, next_cursor, kinds_behind_first, sign_at, word_at}
use Rattle.c_parser_expressions.specs.Marks.{begins_with_sign}
use Rattle.c_parser_expressions.specs.Steps.{◌>>=◌, with_front, all_of, the_sign}
use Rattle.c_parser_declarations.specs.Lists.{EachBehindComma, parts_behind_commas}
use Rattle.c_parser_expressions.specs.Expressions.{EndsType, type_name}
use Rattle.c_parser_expressions.specs.ExpressionParser.{begins_type, the_type}
use Rattle.c_parser_declarations.specs.Parts.{param_name, shaped_name, IsParam, param, AreParams, params}
use Rattle.c_parser_declarations.specs.PartParser.{is_void_base, param_name_by, param_of, param_by, param_step, param_list_by, is_void_word, only_void, params_by}
use Rattle.c_parser_expressions.proofs.Heads.{sign-head, word-head, same-sign, same-word, stands-sign, sign-stands}
use Rattle.c_parser_expressions.proofs.Laws.{Leads, leads-here, leads-fails, leads-trans, bind, part}
use Rattle.c_parser_expressions.proofs.Tokens.{token-found, fails-here}
use Rattle.c_parser_expressions.proofs.TypeNames.{base-begins, type-parses}
use Rattle.c_parser_declarations.proofs.Lists.{commas-follow, commas-closing, list-behind, put-list}
use Rattle.c_parser_declarations.proofs.ParamParses.{param_tree, param-leads, type-follow, shaped-type, unshaped-type, param_name-parses, param-parses}

-- the parameters and the list of them

pub record AreBehind (d at : ℕ) (xs : List Param) : Type 0 where
  pub shaped : AllByRecursion ShapedParam xs
  pub nests : deepest_nesting param_nesting xs ≤ d
  pub placed : EachAt ParamAt param_kinds 1 (at + 1) xs

params-are : (d at : ℕ) (xs : List Param) → EachBehindComma (param d) at xs → AreBehind d at xs
params-are d at [] is = record { shaped = tt; nests = omega arith; placed = tt }
params-are d at (x ∷ xs) is =
    let rest = params-are d (at + 1 + length (param_kinds x)) xs is.1 in
    let n1 = is.0.nests in
    let n2 = rest.nests in
    record { shaped = (is.0.shaped, rest.shaped); nests = omega arith; placed = (is.0.placed, rest.placed) }

params-each : (d at : ℕ) (xs : List Param) → AllByRecursion ShapedParam xs → deepest_nesting param_nesting xs ≤ d → EachAt ParamAt param_kinds 1 (at + 1) xs
    → EachBehindComma (param d) at xs
params-each d at [] shaped nests placed = tt
params-each d at (x ∷ xs) shaped nests placed =
    (record { shaped = shaped.0; nests = omega arith; placed = placed.0 }, params-each d (at + 1 + length (param_kinds x)) xs shaped.1 (omega arith) placed.1)

abbrev param_list : (d : ℕ) → Rule (Param × List Param)
param_list d = sequence_rule (param d) (λ x. parts_behind_commas (param d) sign_is.RightParen)

-- a list of one parameter at least is a list of parameters
list-are : (d at : ℕ) (p : Param × List Param) → (param_list d).Is at p → AreParams d at (params_is.List (p.0 ∷ p.1))
list-are d at p is =
    let rest = params-are d (at + length (param_kinds p.0)) p.1 is.1 in
    let n1 = is.0.nests in
    let n2 = rest.nests in
    record { shaped = (tt, (is.0.shaped, rest.shaped)); nests = omega arith; placed = (is.0.placed, rest.placed) }

list-is : (d at : ℕ) (x : Param) (xs : List Param) → AreParams d at (params_is.List (x ∷ xs)) → (param_list d).Is at (x, xs)
list-is d at x xs is =
    let nests = is.nests in (
      record { shaped = is.shaped.1.0; nests = omega arith; placed = is.placed.0 },
      params-each d (at + length (param_kinds x)) xs is.shaped.1.1
          (omega arith) is.placed.1,
    )

list-spelled : (d : ℕ) (p : Param × List Param) → (params d).spell (params_is.List (p.0 ∷ p.1)) ≡ (param_list d).spell p
list-spelled d p = append_assoc (param_kinds p.0) (after_commas param_kinds p.1) (a_sign sign_is.RightParen)

-- `void` and the parenthesis
abbrev OnlyVoid : Kinds → Type 0
OnlyVoid k = (word_at k ≡ Some word_is.Void) × (sign_at (kinds_behind_first k) ≡ Some sign_is.RightParen)

void-same : (last at : ℕ) (ks k : Kinds) → at < last → SameUpTo last at ks ((a_word word_is.Void ++ a_sign sign_is.RightParen) ++ k) → OnlyVoid ks
void-same last at [] k less same = absurd same
void-same last at (t ∷ ks) k less same = (same-word last at (t ∷ ks) _ word_is.Void same, same-sign last (at + 1) ks k sign_is.RightParen (same.1 less))

empty-same : (last at : ℕ) (ks k : Kinds) → SameUpTo last at ks (a_sign sign_is.RightParen ++ k) → sign_at ks ≡ Some sign_is.RightParen
empty-same last at ks k same = same-sign last at ks k sign_is.RightParen same

-- behind the type of the first parameter

abbrev ListParts : Type 0
ListParts = Option ParamName × List Param

abbrev behind_type : (d : ℕ) → Base × ℕ → Rule ListParts
behind_type d t = sequence_rule (shaped_name d t) (λ o. parts_behind_commas (param d) sign_is.RightParen)

abbrev list_tree : ℕ → Base × ℕ → ListParts → Params
list_tree token t p = params_is.List (param_tree token (t, p.0) ∷ p.1)

type-length : (b : Base) (n : ℕ) → 1 ≤ length (type_kinds b n)
type-length (base_is.Void t) n = omega arith
type-length (base_is.Char t) n = omega arith
type-length (base_is.Int t) n = omega arith
type-length (base_is.Unsigned t i) n = omega arith
type-length (base_is.Struct t name) n = omega arith

-- the first parameter begins with its type
pub record FirstType (d : ℕ) (c : Cursor) (x : Param) (xs : List Param) (k : Kinds) (last : ℕ) : Type 0 where
  pub type : Base × ℕ
  pub name : Option ParamName
  pub is : x ≡ param_tree c.at (type, name)
  pub type_is : (type_name d).Is c.at type
  pub name_is : (shaped_name d type).Is (c.at + length (type_kinds type.0 type.1)) name
  pub ends : EndsType (((behind_type d type).spell (name, xs)) ++ k)
  pub same : SameUpTo last c.at c.rest (type_kinds type.0 type.1 ++ ((behind_type d type).spell (name, xs) ++ k))

first-type : (d : ℕ) (c : Cursor) (x : Param) (xs : List Param) (k : Kinds) (last : ℕ) → IsParam d c.at x → c.at ≤ last
    → SameUpTo last c.at c.rest ((param_list d).spell (x, xs) ++ k) → FirstType d c x xs k last
first-type d c x xs k last is le same =
    let lead = param-leads d c in
    let more = after_commas param_kinds xs ++ a_sign sign_is.RightParen in
    let follow = commas-follow (param d) sign_is.RightParen xs k in
    let b = lead.back x (more ++ k) last is follow le (subst (λ (v : Kinds). SameUpTo last c.at c.rest v) (append_assoc (param_kinds x) more k) same) in
    let split : (param_list d).spell (x, xs) ++ k ≡ type_kinds b.0.0.0 b.0.0.1 ++ ((behind_type d b.0.0).spell (b.0.1, xs) ++ k) =
    ap (λ (v : Param). (param_kinds v ++ more) ++ k) b.1
    ∙ ap (λ (v : Kinds). v ++ k) (append_assoc (type_kinds b.0.0.0 b.0.0.1) ((shaped_name d b.0.0).spell b.0.1) more)
    ∙ append_assoc (type_kinds b.0.0.0 b.0.0.1) ((shaped_name d b.0.0).spell b.0.1 ++ more) k in
    record {
      type = b.0.0;
      name = b.0.1;
      is = b.1;
      type_is = b.2.0;
      name_is = b.2.1;
      ends = subst EndsType (sym (append_assoc ((shaped_name d b.0.0).spell b.0.1) more k)) (type-follow d b.0.0 b.0.1 (more ++ k) follow);
      same = subst (λ (v : Kinds). SameUpTo last c.at c.rest v) split same;
    }

first-back : (d : ℕ) (c to : Cursor) (t : Base × ℕ) (x : Param) (xs : List Param) (k : Kinds) (last : ℕ) → Found (type_name d) c t to
    → (param_list d).Is c.at (x, xs) → to.at ≤ last
    → SameUpTo last c.at c.rest ((param_list d).spell (x, xs) ++ k) → (p : ListParts) × (params_is.List (x ∷ xs) ≡ list_tree c.at t p)
    × (behind_type d t).Is to.at p
first-back d c to t x xs k last f is le same =
    let moved = f.moved in
    let b = first-type d c x xs k last is.0 (omega arith) same in
    let e : b.type ≡ t = f.only b.type ((behind_type d b.type).spell (b.name, xs) ++ k) last b.type_is b.ends le b.same in
    let at_type : c.at + length (type_kinds b.type.0 b.type.1) ≡ to.at = ap (λ (v : Base × ℕ). c.at + length (type_kinds v.0 v.1)) e ∙ sym f.moved in
    let name_is : (shaped_name d t).Is to.at b.name =
    subst (λ (v : Base × ℕ). (shaped_name d v).Is to.at b.name) e (subst (λ (n : ℕ). (shaped_name d b.type).Is n b.name) at_type b.name_is) in
    let whole : x ≡ param_tree c.at (t, b.name) = b.is ∙ ap (λ (v : Base × ℕ). param_tree c.at (v, b.name)) e in
    let at_rest : c.at + length (param_kinds x) ≡ to.at + length ((shaped_name d t).spell b.name) =
    ap (λ (v : Param). c.at + length (param_kinds v)) whole ∙ (let l = length-append (type_kinds t.0 t.1) ((shaped_name d t).spell b.name) in omega arith) in
    ((b.name, xs), ap (λ (v : Param). params_is.List (v ∷ xs)) whole, (name_is, subst (λ (n : ℕ). EachBehindComma (param d) n xs) at_rest is.1))

list-back : (d : ℕ) (c to : Cursor) (t : Base × ℕ) (x : Params) (k : Kinds) (last : ℕ) → Found (type_name d) c t to
    → (sign_at c.rest ≡ Some sign_is.RightParen → ⊥) → (OnlyVoid c.rest → ⊥) → AreParams d c.at x → to.at ≤ last
    → SameUpTo last c.at c.rest ((params d).spell x ++ k) → (p : ListParts) × (x ≡ list_tree c.at t p) × (behind_type d t).Is to.at p
list-back d c to t params_is.Empty k last f not_empty not_void is le same = absurd (not_empty (empty-same last c.at c.rest k same))
list-back d c to t params_is.Void k last f not_empty not_void is le same =
    let moved = f.moved in let some = type-length t.0 t.1 in absurd (not_void (void-same last c.at c.rest k (omega arith) same))
list-back d c to t (params_is.List []) k last f not_empty not_void is le same = absurd is.shaped.0
list-back d c to t (params_is.List (x ∷ xs)) k last f not_empty not_void is le same =
    first-back d c to t x xs k last f (list-is d c.at x xs is) le (subst (λ (v : Kinds). SameUpTo last c.at c.rest (v ++ k)) (list-spelled d (x, xs)) same)

list-leads : (d : ℕ) (c to : Cursor) (t : Base × ℕ) → Found (type_name d) c t to → (sign_at c.rest ≡ Some sign_is.RightParen → ⊥) → (OnlyVoid c.rest → ⊥)
    → Leads (params d) (behind_type d t) c to (list_tree c.at t)
list-leads d c to t f not_empty not_void = record {
  front = type_kinds t.0 t.1;
  whole = f.spelled;
  moved = f.moved;
  build = λ p is.
      (let moved = f.moved in
      let l = length-append (type_kinds t.0 t.1) ((shaped_name d t).spell p.0) in
      let at_rest : to.at + length ((shaped_name d t).spell p.0) ≡ c.at + length (param_kinds (param_tree c.at (t, p.0))) = omega arith in
      let x_is : IsParam d c.at (param_tree c.at (t, p.0)) = (param-leads d c).build (t, p.0)
      (f.is, subst (λ (n : ℕ). (shaped_name d t).Is n p.0) f.moved is.0) in
      list-are d c.at (param_tree c.at (t, p.0), p.1) (x_is, subst (λ (n : ℕ). EachBehindComma (param d) n p.1) at_rest is.1));
  spelled = λ p. list-spelled d (param_tree c.at (t, p.0), p.1) ∙ append_assoc (type_kinds t.0 t.1) ((shaped_name d t).spell p.0)
      (after_commas param_kinds p.1 ++ a_sign sign_is.RightParen);
  back = λ x k last is ends le same. (let b = list-back d c to t x k last f not_empty not_void is le same in (b.0, b.1, b.2, record {}));
}

type-none : (d : ℕ) (c : Cursor) (last : ℕ) → (sign_at c.rest ≡ Some sign_is.RightParen → ⊥) → Fails (type_name d) c last → (x : Params) (k : Kinds)
    → AreParams d c.at x → SameUpTo last c.at c.rest ((params d).spell x ++ k) → ⊥
type-none d c last not_empty f params_is.Empty k is same = not_empty (empty-same last c.at c.rest k same)
type-none d c last not_empty f params_is.Void k is same =
    f.none (base_is.Void c.at, 0) (a_sign sign_is.RightParen ++ k) (refl, let z : 0 ≤ d = omega arith in z)
    (record { no_star = record { not = λ e. cc }; no_int = record { not = λ e. cc } }) same
type-none d c last not_empty f (params_is.List []) k is same = absurd is.shaped.0
type-none d c last not_empty f (params_is.List (x ∷ xs)) k is same =
    let b = first-type d c x xs k last (list-is d c.at x xs is).0 f.from
    (subst (λ (v : Kinds). SameUpTo last c.at c.rest (v ++ k)) (list-spelled d (x, xs)) same) in
    f.none b.type ((behind_type d b.type).spell (b.name, xs) ++ k) b.type_is b.ends b.same

type-fails : (d : ℕ) (c : Cursor) (last : ℕ) → (sign_at c.rest ≡ Some sign_is.RightParen → ⊥) → Fails (type_name d) c last → Fails (params d) c last
type-fails d c last not_empty f = record { from = f.from; within = f.within; none = λ x k is ends same. type-none d c last not_empty f x k is same }

-- reading the list

shaped-list : (d : ℕ) (t : Base × ℕ) (c : Cursor) → (is_void_base t.0 && (t.1 == 0)) ≡ false
    → Leads (behind_type d t) (sequence_rule (param_name (d - t.1)) (λ o. parts_behind_commas (param d) sign_is.RightParen)) c c (λ p. p)
shaped-list d t c h = leads-here (behind_type d t) (sequence_rule (param_name (d - t.1)) (λ o. parts_behind_commas (param d) sign_is.RightParen)) c (λ p. p)
    (λ p is. ((shaped-type t.0 t.1 h, is.0), is.1)) (λ p. refl)
    (λ p k last is ends le same. (p, refl, (is.0.1, is.1), ends))

pub assoc : {A B C : Type 0} (r : Read A) (f : A × Cursor → Read B) (g : B × Cursor → Read C)
    → ◌≡◌ {A = Read C} (◌>>=◌ {A = B × Cursor} {B = C × Cursor} (◌>>=◌ {A = A × Cursor} {B = B × Cursor} r f) g)
    (◌>>=◌ {A = A × Cursor} {B = C × Cursor} r (λ x. ◌>>=◌ {A = B × Cursor} {B = C × Cursor} (f x) g))
assoc (Ok p) f g = refl
assoc (Err i) f g = refl

abbrev rest_by : (d : ℕ) → Param × Cursor → Read Params
rest_by d x = with_front (x.0 ∷ []) (all_of (param_step d) x.1) >>= (λ xs. the_sign sign_is.RightParen xs.1 >>= (λ y. Ok (params_is.List xs.0, y.1)))

behind-parses : (d : ℕ) (c to : Cursor) (t : Base × ℕ) → Leads (params d) (behind_type d t) c to (list_tree c.at t)
    → Outcome (params d) c (param_of d c.at t to >>= rest_by d)
unfolding param_of param_step
behind-parses d c to t l = elim (cases_Bool (is_void_base t.0 && (t.1 == 0))) [
  | inl h ↦ rw h (leads-fails (params d) (behind_type d t) c to (list_tree c.at t) to.at l
      (fails-here (behind_type d t) to (λ p k is ends same. unshaped-type t.0 t.1 h is.0.0)))
  | inr h ↦
      (let named = leads-trans (params d) (behind_type d t) (sequence_rule (param_name (d - t.1)) (λ o. parts_behind_commas (param d) sign_is.RightParen)) c to to (list_tree c.at t)
      (λ p. p) l (shaped-list d t to h) in
      rw h (subst (λ (r : Read Params). Outcome (params d) c r) (sym (assoc (param_name_by (d - t.1) to) (λ o. Ok (param_tree c.at (t, o.0), o.1))
      (rest_by d)))
      (part (params d) (param_name (d - t.1)) (λ o. parts_behind_commas (param d) sign_is.RightParen) c to (list_tree c.at t) (param_name_by (d - t.1) to)
      (λ o. rest_by d (param_tree c.at (t, o.0), o.1))
      (λ at v y k v_is y_is ends. commas-follow (param d) sign_is.RightParen y k) named (param_name-parses (d - t.1) to)
      (λ o mid found l2. list-behind (params d) (parts_behind_commas (param d) sign_is.RightParen) (param_step d) c mid (λ xs. list_tree c.at t (o, xs)) (λ y ys. y ∷ ys)
      (the_sign sign_is.RightParen) (λ u. [])
      (λ xs u. params_is.List xs) (param_tree c.at (t, o))
      (commas-closing (param d) sign_is.RightParen (param_by d) (param_step d) (omega arith) (λ e. cc) (λ at v k v_is ends. ends) (λ k. refl)
      (λ k. param-parses d k))
      l2 (λ xs u. ap (λ (ys : List Param). list_tree c.at t (o, ys)) (put-list xs))))))
]

list-parses : (d : ℕ) (c : Cursor) → (sign_at c.rest ≡ Some sign_is.RightParen → ⊥) → (OnlyVoid c.rest → ⊥) → Outcome (params d) c (param_list_by d c)
unfolding param_list_by param_by
list-parses d c not_empty not_void =
    subst (λ (r : Read Params). Outcome (params d) c r) (sym (assoc (the_type d c) (λ t. param_of d c.at t.0 t.1) (rest_by d)))
    (bind (params d) (type_name d) c c (the_type d c) (λ t. param_of d c.at t.0 t.1 >>= rest_by d) (type-parses d c)
    (λ t to found. behind-parses d c to t (list-leads d c to t found not_empty not_void)) (λ last fails. type-fails d c last not_empty fails))

-- no parameters

paren-no_type : (ks : Kinds) → sign_at ks ≡ Some sign_is.RightParen → begins_type ks ≡ true → ⊥
paren-no_type [] h t = cc
paren-no_type (kind.Punctuator x ∷ ks) h t = cc
paren-no_type (_ ∷ ks) h t = cc

paren-no_word : (ks : Kinds) (w : Word) → sign_at ks ≡ Some sign_is.RightParen → word_at ks ≡ Some w → ⊥
paren-no_word [] w h t = cc
paren-no_word (kind.Punctuator x ∷ ks) w h t = cc
paren-no_word (_ ∷ ks) w h t = cc

empty-only : (d : ℕ) (c : Cursor) (x : Params) (k : Kinds) (last : ℕ) → sign_at c.rest ≡ Some sign_is.RightParen → AreParams d c.at x → c.at ≤ last
    → SameUpTo last c.at c.rest ((params d).spell x ++ k) → x ≡ params_is.Empty
empty-only d c params_is.Empty k last h is le same = refl
empty-only d c params_is.Void k last h is le same = absurd (paren-no_word c.rest word_is.Void h (same-word last c.at c.rest _ word_is.Void same))
empty-only d c (params_is.List []) k last h is le same = absurd is.shaped.0
empty-only d c (params_is.List (x ∷ xs)) k last h is le same =
    let b = first-type d c x xs k last (list-is d c.at x xs is).0 le (subst (λ (v : Kinds). SameUpTo last c.at c.rest (v ++ k)) (list-spelled d (x, xs)) same) in
    absurd (paren-no_type c.rest h (base-begins last c.at c.rest _ b.type.0
    (subst (λ (v : Kinds). SameUpTo last c.at c.rest v) (append_assoc (base_kinds b.type.0) (star_kinds b.type.1) _) b.same)))

-- `void` alone

void-stars : (last at : ℕ) (ks k : Kinds) (b : Base) (n : ℕ) → OnlyVoid ks → at < last → (is_void_base b && (n == 0)) ≡ false → SameUpTo last at ks (type_kinds b n ++ k)
    → ⊥
void-stars last at [] k b n h less shaped same = let w = h.0 in cc
void-stars last at (t ∷ ks) k (base_is.Void u) zero h less shaped same = cc
void-stars last at (t ∷ ks) k (base_is.Void u) (suc n) h less shaped same =
    let e : sign_at ks ≡ Some sign_is.Star = same-sign last (at + 1) ks _ sign_is.Star (same.1 less) in let f : Some sign_is.Star ≡ Some sign_is.RightParen =
    sym e ∙ h.1 in cc
void-stars last at (t ∷ ks) k b n h less shaped same = let e = same.0 in let w = h.0 in cc

shape-test : (b : Base) (n : ℕ) → ShapedParamOf b n → (is_void_base b && (n == 0)) ≡ false
shape-test b n shaped = elim (cases_Bool (is_void_base b && (n == 0))) [ inl t ↦ absurd (unshaped-type b n t shaped) | inr f ↦ f ]

void-only : (d : ℕ) (c : Cursor) (x : Params) (k : Kinds) (last : ℕ) → OnlyVoid c.rest → AreParams d c.at x → c.at + 2 ≤ last
    → SameUpTo last c.at c.rest ((params d).spell x ++ k) → x ≡ params_is.Void
void-only d c params_is.Empty k last h is le same = absurd (paren-no_word c.rest word_is.Void (empty-same last c.at c.rest k same) h.0)
void-only d c params_is.Void k last h is le same = refl
void-only d c (params_is.List []) k last h is le same = absurd is.shaped.0
void-only d c (params_is.List (x ∷ xs)) k last h is le same =
    let b = first-type d c x xs k last (list-is d c.at x xs is).0 (omega arith)
    (subst (λ (v : Kinds). SameUpTo last c.at c.rest (v ++ k)) (list-spelled d (x, xs)) same) in
    absurd (void-stars last c.at c.rest _ b.type.0 b.type.1 h (omega arith) (shape-test b.type.0 b.type.1 b.name_is.0) b.same)

void-found : (d : ℕ) (c : Cursor) → OnlyVoid c.rest → Found (params d) c params_is.Void (next_cursor (next_cursor c))
void-found d c h = record {
  is = record { shaped = tt; nests = omega arith; placed = tt };
  spelled = word-head c.rest word_is.Void h.0 ∙ ap (λ (v : Kinds). kind.Word word_is.Void ∷ v) (sign-head (kinds_behind_first c.rest) sign_is.RightParen h.1);
  moved = omega arith;
  only = λ x k last is ends le same. void-only d c x k last h is (omega arith) same;
}

void-word : (o : Option Word) → is_void_word o ≡ true → o ≡ Some word_is.Void
void-word (Some word_is.Void) h = refl
void-word _ h = cc

pub params-parses : (d : ℕ) (c : Cursor) → Outcome (params d) c (params_by d c)
unfolding params_by
params-parses d c = elim (cases_Bool (begins_with_sign sign_is.RightParen c.rest)) [
  | inl t ↦
      (let h = stands-sign sign_is.RightParen c.rest (omega arith) t in
      rw t (token-found (params d) c (kind.Punctuator sign_is.RightParen) params_is.Empty (record { shaped = tt; nests = omega arith; placed = tt }) refl
      (sign-head c.rest sign_is.RightParen h)
      (λ x k last is ends le same. empty-only d c x k last h is (omega arith) same)))
  | inr f ↦
      rw f (elim (cases_Bool (only_void c.rest)) [
        | inl t ↦
            (let tests = and_parts (is_void_word (word_at c.rest)) (begins_with_sign sign_is.RightParen (kinds_behind_first c.rest)) t in
            rw t (void-found d c (void-word (word_at c.rest) tests.0, stands-sign sign_is.RightParen (kinds_behind_first c.rest) (omega arith) tests.1)))
        | inr g ↦
            rw g (list-parses d c (λ h. let t = sign-stands sign_is.RightParen c.rest h in cc)
            (λ h. let w : is_void_word (word_at c.rest) ≡ true = ap is_void_word h.0 in let r = sign-stands sign_is.RightParen (kinds_behind_first c.rest) h.1 in
            let e : (only_void c.rest) ≡ true = rw (w, r) refl in let z : true ≡ false = sym e ∙ g in cc))
      ])
]
