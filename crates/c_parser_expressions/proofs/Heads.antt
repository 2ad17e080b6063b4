-- What stands first in a list of tokens.
use Rattle.std.proofs.Common.{◌≡◌, ℕ, ◌≤◌, ◌==◌, cond, ◌↔◌, IsTrue, inl, inr, Bool, true, false, List, [], ◌∷◌, Option, Some}
use Rattle.std.proofs.Common.{None, refl, sym, ap, ◌∙◌, arith}
use Rattle.std.specs.Option.{IsSome}
use Rattle.std.proofs.lemmas.Bool.{cases_Bool}
use Rattle.c_syntax.specs.declared.token.Sign.{Sign}
use Rattle.c_syntax.specs.declared.token.Sign.TheVariants as sign
use Rattle.c_syntax.specs.declared.token.Word.{Word}
use Rattle.c_syntax.specs.declared.token.Word.TheVariants as word
use Rattle.c_syntax.specs.declared.token.TokenKind.TheVariants as kind
use Rattle.c_syntax.specs.Spelling.{Kinds}
use Rattle.c_parser_expressions.specs.Reading.{SameUpTo, first_kind, kinds_behind_first, sign_at, word_at, name_at, text_at}
use Rattle.c_parser_expressions.specs.Marks.{sign_mark, mark_of, begins_with_sign, word_mark, word_mark_of, begins_with_word}

pub sign-head : (k : Kinds) (s : Sign) → sign_at k ≡ Some s → k ≡ kind.Punctuator s ∷ kinds_behind_first k
sign-head [] s e = cc
sign-head (kind.Punctuator t ∷ k) s e = cc
sign-head (_ ∷ k) s e = cc

pub word-head : (k : Kinds) (w : Word) → word_at k ≡ Some w → k ≡ kind.Word w ∷ kinds_behind_first k
word-head [] w e = cc
word-head (kind.Word t ∷ k) w e = cc
word-head (_ ∷ k) w e = cc

pub name-head : (k : Kinds) (n : List ℕ) → name_at k ≡ Some n → k ≡ kind.Name n ∷ kinds_behind_first k
name-head [] n e = cc
name-head (kind.Name t ∷ k) n e = cc
name-head (_ ∷ k) n e = cc

-- what agrees with a list that begins with a sign, a word or a name begins with it
pub same-sign : (last at : ℕ) (k more : Kinds) (s : Sign) → SameUpTo last at k (kind.Punctuator s ∷ more) → sign_at k ≡ Some s
same-sign last at [] more s same = absurd same
same-sign last at (kind.Punctuator t ∷ k) more s same = let e : kind.Punctuator t ≡ kind.Punctuator s = same.0 in cc
same-sign last at (_ ∷ k) more s same = cc

pub same-word : (last at : ℕ) (k more : Kinds) (w : Word) → SameUpTo last at k (kind.Word w ∷ more) → word_at k ≡ Some w
same-word last at [] more w same = absurd same
same-word last at (kind.Word t ∷ k) more w same = let e : kind.Word t ≡ kind.Word w = same.0 in cc
same-word last at (_ ∷ k) more w same = cc

pub same-name : (last at : ℕ) (k more : Kinds) (n : List ℕ) → SameUpTo last at k (kind.Name n ∷ more) → name_at k ≡ Some n
same-name last at [] more n same = absurd same
same-name last at (kind.Name t ∷ k) more n same = let e : kind.Name t ≡ kind.Name n = same.0 in cc
same-name last at (_ ∷ k) more n same = cc

-- .. and the other way round
pub sign-same : (last at : ℕ) (k more : Kinds) (s : Sign) → SameUpTo last at (kind.Punctuator s ∷ more) k → sign_at k ≡ Some s
sign-same last at [] more s same = absurd same
sign-same last at (kind.Punctuator t ∷ k) more s same = let e : kind.Punctuator s ≡ kind.Punctuator t = same.0 in cc
sign-same last at (_ ∷ k) more s same = cc

pub word-same : (last at : ℕ) (k more : Kinds) (w : Word) → SameUpTo last at (kind.Word w ∷ more) k → word_at k ≡ Some w
word-same last at [] more w same = absurd same
word-same last at (kind.Word t ∷ k) more w same = let e : kind.Word w ≡ kind.Word t = same.0 in cc
word-same last at (_ ∷ k) more w same = cc

-- the marks tell the marked signs apart
sign_marked : ℕ → Sign
sign_marked n =
    cond (n == 1) sign.LeftBrace (cond (n == 2) sign.RightBrace (cond (n == 3) sign.LeftParen
    (cond (n == 4) sign.RightParen (cond (n == 5) sign.LeftBracket (cond (n == 6) sign.RightBracket
    (cond (n == 7) sign.Semicolon (cond (n == 8) sign.Comma (cond (n == 9) sign.Question
    (cond (n == 10) sign.Colon (cond (n == 11) sign.Equal sign.Star))))))))))

marked-sign : (s : Sign) → 1 ≤ sign_mark s → sign_marked (sign_mark s) ≡ s
unfolding sign_marked
marked-sign sign.LeftBrace h = refl
marked-sign sign.RightBrace h = refl
marked-sign sign.LeftParen h = refl
marked-sign sign.RightParen h = refl
marked-sign sign.LeftBracket h = refl
marked-sign sign.RightBracket h = refl
marked-sign sign.Semicolon h = refl
marked-sign sign.Comma h = refl
marked-sign sign.Question h = refl
marked-sign sign.Colon h = refl
marked-sign sign.Equal h = refl
marked-sign sign.Star h = refl
marked-sign _ h = absurd (omega arith)

mark-some : (o : Option Sign) (s : Sign) → 1 ≤ sign_mark s → mark_of o ≡ sign_mark s → o ≡ Some s
mark-some None s h e = absurd (omega arith)
mark-some (Some t) s h e = ap Some (sym (marked-sign t (omega arith)) ∙ ap sign_marked e ∙ marked-sign s h)

-- the sign stands there exactly where the test says so
pub stands-sign : (s : Sign) (k : Kinds) → 1 ≤ sign_mark s → begins_with_sign s k ≡ true → sign_at k ≡ Some s
stands-sign s k h e = mark-some (sign_at k) s h (grind arith)

pub sign-stands : (s : Sign) (k : Kinds) → sign_at k ≡ Some s → begins_with_sign s k ≡ true
sign-stands s k e = let m : mark_of (sign_at k) ≡ sign_mark s = ap mark_of e in grind arith

pub stands_iff : (s : Sign) (k : Kinds) (b : Bool) → 1 ≤ sign_mark s → (IsTrue b ↔ (sign_at k ≡ Some s)) → b ≡ begins_with_sign s k
stands_iff s k true h i = sym (sign-stands s k (i.0 refl))
stands_iff s k false h i = elim (cases_Bool (begins_with_sign s k)) [ inl t ↦ (let no_yes : false ≡ true = i.1 (stands-sign s k h t) in cc) | inr f ↦ sym f ]

pub stands_some : (s : Sign) (k : Kinds) → 1 ≤ sign_mark s → begins_with_sign s k ≡ true → IsSome (first_kind k)
stands_some s [] h e = let n : ◌≡◌ {A = Option Sign} None (Some s) = stands-sign s [] h e in cc
stands_some s (x ∷ k) h e = refl

word_marked : ℕ → Word
word_marked n = cond (n == 1) word.Else (cond (n == 2) word.While word.Int)

marked-word : (w : Word) → 1 ≤ word_mark w → word_marked (word_mark w) ≡ w
unfolding word_marked
marked-word word.Else h = refl
marked-word word.While h = refl
marked-word word.Int h = refl
marked-word _ h = absurd (omega arith)

word-some : (o : Option Word) (w : Word) → 1 ≤ word_mark w → word_mark_of o ≡ word_mark w → o ≡ Some w
word-some None w h e = absurd (omega arith)
word-some (Some t) w h e = ap Some (sym (marked-word t (omega arith)) ∙ ap word_marked e ∙ marked-word w h)

pub says-word : (w : Word) (k : Kinds) → 1 ≤ word_mark w → begins_with_word w k ≡ true → word_at k ≡ Some w
says-word w k h e = word-some (word_at k) w h (grind arith)

pub word-says : (w : Word) (k : Kinds) → word_at k ≡ Some w → begins_with_word w k ≡ true
word-says w k e = let m : word_mark_of (word_at k) ≡ word_mark w = ap word_mark_of e in grind arith

pub says_iff : (w : Word) (k : Kinds) (b : Bool) → 1 ≤ word_mark w → (IsTrue b ↔ (word_at k ≡ Some w)) → b ≡ begins_with_word w k
says_iff w k true h i = sym (word-says w k (i.0 refl))
says_iff w k false h i = elim (cases_Bool (begins_with_word w k)) [ inl t ↦ (let no_yes : false ≡ true = i.1 (says-word w k h t) in cc) | inr f ↦ sym f ]

pub says_some : (w : Word) (k : Kinds) → 1 ≤ word_mark w → begins_with_word w k ≡ true → IsSome (first_kind k)
says_some w [] h e = let n : ◌≡◌ {A = Option Word} None (Some w) = says-word w [] h e in cc
says_some w (x ∷ k) h e = refl

-- where a sign or a word stands there is a token
pub sign_first : (k : Kinds) (s : Sign) → sign_at k ≡ Some s → IsSome (first_kind k)
sign_first [] s h = cc
sign_first (x ∷ k) s h = refl

pub word_first : (k : Kinds) (w : Word) → word_at k ≡ Some w → IsSome (first_kind k)
word_first [] w h = cc
word_first (x ∷ k) w h = refl

pub text_some : (k : Kinds) (bytes : List ℕ) → text_at k ≡ Some bytes → IsSome (first_kind k)
text_some [] bytes h = cc
text_some (x ∷ k) bytes h = refl
