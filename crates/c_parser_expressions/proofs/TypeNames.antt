-- Bases of types, and types' names.
use Rattle.std.proofs.Common.{◌≡◌, ℕ, zero, suc, ◌+◌, ◌≤◌, ◌<◌, inl, inr, true, false, List, [], ◌∷◌, ◌++◌, length, Option, Some, Ok}
use Rattle.std.proofs.Common.{refl, sym, ap, ◌∙◌, subst, add-one, arith}
use Rattle.std.proofs.lemmas.Bool.{cases_Bool}
use Rattle.c_syntax.specs.declared.token.Sign.TheVariants as sign_is
use Rattle.c_syntax.specs.declared.token.Word.{Word}
use Rattle.c_syntax.specs.declared.token.Word.TheVariants as word_is
use Rattle.c_syntax.specs.declared.token.TokenKind.{TokenKind}
use Rattle.c_syntax.specs.declared.token.TokenKind.TheVariants as kind
use Rattle.c_syntax.specs.declared.parts.Base.{Base}
use Rattle.c_syntax.specs.declared.parts.Base.TheVariants as base_is
use Rattle.c_syntax.specs.Words.{Kinds, a_sign, a_word, base_kinds, star_kinds, BaseAt}
use Rattle.c_parser_expressions.specs.Reading.{Cursor, SameUpTo, Found, Outcome, kinds_behind_first, next_cursor, sign_at, word_at, kind_word, sequence_rule, rule_before_sign, name_rule}
use Rattle.c_parser_expressions.specs.Marks.{begins_with_sign, begins_with_word}
use Rattle.c_parser_expressions.specs.Steps.{the_name}
use Rattle.c_parser_expressions.specs.Expressions.{type_base, NoInt, EndsType, stars, type_name}
use Rattle.c_parser_expressions.specs.ExpressionParser.{is_base_word, begins_type, the_unsigned, the_struct, base_of, the_base, the_stars, the_type, closed_type}
use Rattle.c_parser_expressions.proofs.Heads.{sign-head, word-head, same-sign, same-word, sign-same, word-same, stands-sign, sign-stands, says-word, word-says}
use Rattle.c_parser_expressions.proofs.Laws.{Leads, leads-here, leads-found, part, finish}
use Rattle.c_parser_expressions.proofs.Tokens.{token-found, fails-here, name-parses, before-parses}

-- a base begins with one of five words
pub base-begins : (last at : ℕ) (ks k : Kinds) (b : Base) → SameUpTo last at ks (base_kinds b ++ k) → begins_type ks ≡ true
base-begins last at [] k (base_is.Void t) same = absurd same
base-begins last at [] k (base_is.Char t) same = absurd same
base-begins last at [] k (base_is.Int t) same = absurd same
base-begins last at [] k (base_is.Unsigned t i) same = absurd same
base-begins last at [] k (base_is.Struct t n) same = absurd same
base-begins last at (x ∷ ks) k (base_is.Void t) same = ap (λ (v : TokenKind). is_base_word (kind_word v)) same.0
base-begins last at (x ∷ ks) k (base_is.Char t) same = ap (λ (v : TokenKind). is_base_word (kind_word v)) same.0
base-begins last at (x ∷ ks) k (base_is.Int t) same = ap (λ (v : TokenKind). is_base_word (kind_word v)) same.0
base-begins last at (x ∷ ks) k (base_is.Unsigned t i) same = ap (λ (v : TokenKind). is_base_word (kind_word v)) same.0
base-begins last at (x ∷ ks) k (base_is.Struct t n) same = ap (λ (v : TokenKind). is_base_word (kind_word v)) same.0

only-void : (last at : ℕ) (ks k : Kinds) (b : Base) → BaseAt at b → SameUpTo last at (kind.Word word_is.Void ∷ ks) (base_kinds b ++ k) → b ≡ base_is.Void at
only-void last at ks k (base_is.Void t) is same = ap base_is.Void is
only-void last at ks k _ is same = let h = same.0 in cc

only-char : (last at : ℕ) (ks k : Kinds) (b : Base) → BaseAt at b → SameUpTo last at (kind.Word word_is.Char ∷ ks) (base_kinds b ++ k) → b ≡ base_is.Char at
only-char last at ks k (base_is.Char t) is same = ap base_is.Char is
only-char last at ks k _ is same = let h = same.0 in cc

only-int : (last at : ℕ) (ks k : Kinds) (b : Base) → BaseAt at b → SameUpTo last at (kind.Word word_is.Int ∷ ks) (base_kinds b ++ k) → b ≡ base_is.Int at
only-int last at ks k (base_is.Int t) is same = ap base_is.Int is
only-int last at ks k _ is same = let h = same.0 in cc

only-unsigned-int : (last at : ℕ) (ks k : Kinds) (b : Base) → BaseAt at b → NoInt k → at < last → word_at ks ≡ Some word_is.Int
    → SameUpTo last at (kind.Word word_is.Unsigned ∷ ks) (base_kinds b ++ k) → b ≡ base_is.Unsigned at true
only-unsigned-int last at ks k (base_is.Unsigned t true) is ends below next same = ap (λ (n : ℕ). base_is.Unsigned n true) is
only-unsigned-int last at ks k (base_is.Unsigned t false) is ends below next same =
    let rest : SameUpTo last (at + 1) (kind.Word word_is.Int ∷ kinds_behind_first ks) k =
    subst (λ (v : Kinds). SameUpTo last (at + 1) v k) (word-head ks word_is.Int next) (same.1 below) in
    absurd (ends.not (word-same last (at + 1) k (kinds_behind_first ks) word_is.Int rest))
only-unsigned-int last at ks k _ is ends below next same = let h = same.0 in cc

only-unsigned : (last at : ℕ) (ks k : Kinds) (b : Base) → BaseAt at b → at < last → (word_at ks ≡ Some word_is.Int → ⊥)
    → SameUpTo last at (kind.Word word_is.Unsigned ∷ ks) (base_kinds b ++ k) → b ≡ base_is.Unsigned at false
only-unsigned last at ks k (base_is.Unsigned t false) is below next same = ap (λ (n : ℕ). base_is.Unsigned n false) is
only-unsigned last at ks k (base_is.Unsigned t true) is below next same = absurd (next (same-word last (at + 1) ks k word_is.Int (same.1 below)))
only-unsigned last at ks k _ is below next same = let h = same.0 in cc

only-struct : (last at : ℕ) (ks k : Kinds) (b : Base) → BaseAt at b → SameUpTo last at (kind.Word word_is.Struct ∷ ks) (base_kinds b ++ k)
    → (tag : List ℕ) × (b ≡ base_is.Struct at tag)
only-struct last at ks k (base_is.Struct t tag) is same = (tag, ap (λ (n : ℕ). base_is.Struct n tag) is)
only-struct last at ks k _ is same = let h = same.0 in cc

word-found : (c : Cursor) (w : Word) (b : Base) → word_at c.rest ≡ Some w → BaseAt c.at b → base_kinds b ≡ a_word w
    → ((last : ℕ) (k : Kinds) (y : Base) → BaseAt c.at y → SameUpTo last c.at (kind.Word w ∷ kinds_behind_first c.rest) (base_kinds y ++ k) → y ≡ b)
    → Found type_base c b (next_cursor c)
word-found c w b h is spelled only =
    token-found type_base c (kind.Word w) b is spelled (word-head c.rest w h)
    (λ y k last y_is ends le same. only last k y y_is (subst (λ (v : Kinds). SameUpTo last c.at v (base_kinds y ++ k)) (word-head c.rest w h) same))

unsigned-int : (c : Cursor) → word_at c.rest ≡ Some word_is.Unsigned → word_at (kinds_behind_first c.rest) ≡ Some word_is.Int
    → Found type_base c (base_is.Unsigned c.at true) (next_cursor (next_cursor c))
unsigned-int c h next =
    let whole : c.rest ≡ kind.Word word_is.Unsigned ∷ kinds_behind_first c.rest = word-head c.rest word_is.Unsigned h in
    record {
      is = refl;
      spelled = whole ∙ ap (λ (v : Kinds). kind.Word word_is.Unsigned ∷ v) (word-head (kinds_behind_first c.rest) word_is.Int next);
      moved = omega arith;
      only =
          λ y k last is ends le same. only-unsigned-int last c.at (kinds_behind_first c.rest) k y is ends (omega arith) next
          (subst (λ (v : Kinds). SameUpTo last c.at v (base_kinds y ++ k)) whole same);
    }

unsigned-parses : (c : Cursor) → word_at c.rest ≡ Some word_is.Unsigned → Outcome type_base c (the_unsigned c.at (next_cursor c))
unfolding the_unsigned
unsigned-parses c h = elim (cases_Bool (begins_with_word word_is.Int (kinds_behind_first c.rest))) [
  | inl t ↦ rw t (unsigned-int c h (says-word word_is.Int (kinds_behind_first c.rest) (omega arith) t))
  | inr f ↦ rw f (token-found type_base c (kind.Word word_is.Unsigned) (base_is.Unsigned c.at false) refl refl (word-head c.rest word_is.Unsigned h)
      (λ y k last is ends le same. only-unsigned last c.at (kinds_behind_first c.rest) k y is (omega arith) (λ e. let t = word-says word_is.Int (kinds_behind_first c.rest) e in cc)
      (subst (λ (v : Kinds). SameUpTo last c.at v (base_kinds y ++ k)) (word-head c.rest word_is.Unsigned h) same)))
]

struct-leads : (c : Cursor) → word_at c.rest ≡ Some word_is.Struct → Leads type_base name_rule c (next_cursor c) (base_is.Struct c.at)
struct-leads c h =
    let whole : c.rest ≡ kind.Word word_is.Struct ∷ kinds_behind_first c.rest = word-head c.rest word_is.Struct h in
    record {
      front = a_word word_is.Struct;
      whole = whole;
      moved = refl;
      build = λ y is. refl;
      spelled = λ y. refl;
      back = λ b k last is ends le same.
          (let s = only-struct last c.at (kinds_behind_first c.rest) k b is (subst (λ (v : Kinds). SameUpTo last c.at v (base_kinds b ++ k)) whole same) in
          (s.0, s.1, tt, record {}));
    }

struct-parses : (c : Cursor) → word_at c.rest ≡ Some word_is.Struct → Outcome type_base c (the_struct c.at (next_cursor c))
unfolding the_struct
struct-parses c h = finish type_base name_rule c (next_cursor c) (base_is.Struct c.at) (the_name (next_cursor c)) (struct-leads c h) (name-parses (next_cursor c))

base-of : (c : Cursor) (o : Option Word) → word_at c.rest ≡ o → Outcome type_base c (base_of c o)
base-of c (Some word_is.Void) h =
    word-found c word_is.Void (base_is.Void c.at) h refl refl (λ last k y is same. only-void last c.at (kinds_behind_first c.rest) k y is same)
base-of c (Some word_is.Char) h =
    word-found c word_is.Char (base_is.Char c.at) h refl refl (λ last k y is same. only-char last c.at (kinds_behind_first c.rest) k y is same)
base-of c (Some word_is.Int) h = word-found c word_is.Int (base_is.Int c.at) h refl refl (λ last k y is same. only-int last c.at (kinds_behind_first c.rest) k y is same)
base-of c (Some word_is.Unsigned) h = unsigned-parses c h
base-of c (Some word_is.Struct) h = struct-parses c h
base-of c o h = fails-here type_base c (λ y k is ends same. let b : is_base_word o ≡ true = ap is_base_word (sym h) ∙ base-begins c.at c.at c.rest k y same in cc)

pub base-parses : (c : Cursor) → Outcome type_base c (the_base c)
unfolding the_base
base-parses c = base-of c (word_at c.rest) refl

star-back : (most at last : ℕ) (ks k : Kinds) (n : ℕ) → n ≤ suc most → EndsType k → SameUpTo last at (kind.Punctuator sign_is.Star ∷ ks) (star_kinds n ++ k)
    → (m : ℕ) × (n ≡ m + 1) × (m ≤ most)
star-back most at last ks k zero is ends same = absurd (ends.no_star.not (sign-same last at k ks sign_is.Star same))
star-back most at last ks k (suc n) is ends same = (n, sym (add-one n), omega arith)

star-leads : (most : ℕ) (c : Cursor) → sign_at c.rest ≡ Some sign_is.Star → Leads (stars (suc most)) (stars most) c (next_cursor c) (λ n. n + 1)
star-leads most c h =
    let whole : c.rest ≡ kind.Punctuator sign_is.Star ∷ kinds_behind_first c.rest = sign-head c.rest sign_is.Star h in
    record {
      front = a_sign sign_is.Star;
      whole = whole;
      moved = refl;
      build = λ n is. (let m : n ≤ most = is in omega arith);
      spelled = λ n. ap star_kinds (add-one n);
      back = λ n k last is ends le same.
          (let b = star-back most c.at last (kinds_behind_first c.rest) k n is ends (subst (λ (v : Kinds). SameUpTo last c.at v (star_kinds n ++ k)) whole same) in
          (b.0, b.1, b.2, ends));
    }

no-star : (most at last : ℕ) (ks k : Kinds) (n : ℕ) → (sign_at ks ≡ Some sign_is.Star → ⊥) → SameUpTo last at ks (star_kinds n ++ k) → n ≡ 0
no-star most at last ks k zero other same = refl
no-star most at last ks k (suc n) other same = absurd (other (same-sign last at ks (star_kinds n ++ k) sign_is.Star same))

stars-none : (most : ℕ) (c : Cursor)
    → ((n : ℕ) (k : Kinds) (last : ℕ) → n ≤ most → EndsType k → c.at ≤ last → SameUpTo last c.at c.rest (star_kinds n ++ k) → n ≡ 0) → Found (stars most) c 0 c
stars-none most c only = record {
  is = omega arith;
  spelled = refl;
  moved = (let e : c.at ≡ c.at + length {A = TokenKind} [] = omega arith in e);
  only = only;
}

pub stars-found : (most : ℕ) (c : Cursor) → Found (stars most) c (the_stars most c).0 (the_stars most c).1
unfolding the_stars
stars-found zero c = stars-none 0 c (λ n k last is ends le same. omega arith)
stars-found (suc most) c = elim (cases_Bool (begins_with_sign sign_is.Star c.rest)) [
  | inl t ↦ rw t (leads-found (stars (suc most)) (stars most) c (next_cursor c) (the_stars most (next_cursor c)).1 (λ n. n + 1) (the_stars most (next_cursor c)).0
      (star-leads most c (stands-sign sign_is.Star c.rest (omega arith) t)) (stars-found most (next_cursor c)))
  | inr f ↦ rw f (stars-none (suc most) c (λ n k last is ends le same. no-star (suc most) c.at last c.rest k n
      (λ e. let t = sign-stands sign_is.Star c.rest e in cc) same))
]

stars-follow : (n : ℕ) (k : Kinds) → EndsType k → NoInt (star_kinds n ++ k)
stars-follow zero k ends = ends.no_int
stars-follow (suc n) k ends = record { not = λ e. cc }

type-leads : (d : ℕ) (c : Cursor) → Leads (type_name d) (sequence_rule type_base (λ b. stars d)) c c (λ p. p)
type-leads d c = leads-here (type_name d) (sequence_rule type_base (λ b. stars d)) c (λ p. p) (λ p is. is) (λ p. refl) (λ x k last is ends le same. (x, refl, is, ends))

pub type-parses : (d : ℕ) (c : Cursor) → Outcome (type_name d) c (the_type d c)
unfolding the_type
type-parses d c =
    part (type_name d) type_base (λ b. stars d) c c (λ p. p) (the_base c) (λ b. Ok ((b.0, (the_stars d b.1).0), (the_stars d b.1).1))
    (λ at v y k v_is y_is ends. stars-follow y k ends) (type-leads d c) (base-parses c)
    (λ x to found l. leads-found (type_name d) (stars d) c to (the_stars d to).1 (λ n. (x, n)) (the_stars d to).0 l (stars-found d to))

pub closed-type-parses : (d : ℕ) (c : Cursor) → Outcome (rule_before_sign (type_name d) sign_is.RightParen) c (closed_type d c)
unfolding closed_type
closed-type-parses d c =
    before-parses (type_name d) sign_is.RightParen c (the_type d c) (omega arith)
    (λ v k. record { no_star = record { not = λ e. cc }; no_int = record { not = λ e. cc } }) (type-parses d c)
