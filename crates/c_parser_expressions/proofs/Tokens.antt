-- Rules of one token.
use Rattle.std.proofs.Common.{◌≡◌, ℕ, ◌+◌, ◌≤◌, inl, inr, List, [], ◌∷◌, ◌++◌, length, Option, Some, None, Ok}
use Rattle.std.proofs.Common.{refl, sym, ap, ◌∙◌, arith}
use Rattle.std.proofs.lemmas.Bool.{cases_Bool}
use Rattle.c_syntax.specs.declared.token.Sign.{Sign}
use Rattle.c_syntax.specs.declared.token.Word.{Word}
use Rattle.c_syntax.specs.declared.token.TokenKind.{TokenKind}
use Rattle.c_syntax.specs.declared.token.TokenKind.TheVariants as kind
use Rattle.c_syntax.specs.Spelling.{Kinds, a_sign}
use Rattle.c_parser_expressions.specs.Reading.{Cursor, SameUpTo, Rule, Found, Fails, Read, Outcome, kinds_behind_first, next_cursor, sign_at, name_at, sequence_rule, rule_before_sign, sign_rule, word_rule, name_rule}
use Rattle.c_parser_expressions.specs.Marks.{sign_mark, begins_with_sign, word_mark, begins_with_word}
use Rattle.c_parser_expressions.specs.Steps.{◌>>=◌, the_sign, the_word, the_name, pass_if}
use Rattle.c_parser_expressions.proofs.Laws.{Leads, leads-here, part, finish}
use Rattle.c_parser_expressions.proofs.Heads.{sign-head, word-head, name-head, same-sign, same-word, same-name, stands-sign, sign-stands, says-word, word-says}

-- what is read by one token, where no other part begins with it
pub token-found : {A : Type 0} (R : Rule A) (c : Cursor) (t : TokenKind) (x : A) → R.Is c.at x → R.spell x ≡ t ∷ [] → c.rest ≡ t ∷ kinds_behind_first c.rest
    → ((y : A) (k : Kinds) (last : ℕ) → R.Is c.at y → R.Ends y k → c.at + 1 ≤ last → SameUpTo last c.at c.rest (R.spell y ++ k) → y ≡ x) → Found R c x (next_cursor c)
token-found R c t x is spelled whole only = record {
  is = is;
  spelled = whole ∙ ap (λ (s : Kinds). s ++ kinds_behind_first c.rest) (sym spelled);
  moved = (let e : length (R.spell x) ≡ length (t ∷ []) = ap length spelled in omega arith);
  only = only;
}

pub fails-here : {A : Type 0} (R : Rule A) (c : Cursor) → ((y : A) (k : Kinds) → R.Is c.at y → R.Ends y k → SameUpTo c.at c.at c.rest (R.spell y ++ k) → ⊥)
    → Fails R c c.at
fails-here R c none = record { from = omega arith; within = omega arith; none = none }

pub sign-found : (s : Sign) (c : Cursor) → sign_at c.rest ≡ Some s → Found (sign_rule s) c tt (next_cursor c)
sign-found s c e = token-found (sign_rule s) c (kind.Punctuator s) tt tt refl (sign-head c.rest s e) (λ y k last is ends le same. refl)

pub sign-fails : (s : Sign) (c : Cursor) → (sign_at c.rest ≡ Some s → ⊥) → Fails (sign_rule s) c c.at
sign-fails s c other = fails-here (sign_rule s) c (λ y k is ends same. other (same-sign c.at c.at c.rest k s same))

pub sign-parses : (s : Sign) (c : Cursor) → 1 ≤ sign_mark s → Outcome (sign_rule s) c (the_sign s c)
unfolding the_sign
sign-parses s c marked = elim (cases_Bool (begins_with_sign s c.rest)) [
  | inl t ↦ rw t (sign-found s c (stands-sign s c.rest marked t))
  | inr f ↦ rw f (sign-fails s c (λ e. let t = sign-stands s c.rest e in cc))
]

pub word-parses : (w : Word) (c : Cursor) → 1 ≤ word_mark w → Outcome (word_rule w) c (the_word w c)
unfolding the_word
word-parses w c marked = elim (cases_Bool (begins_with_word w c.rest)) [
  | inl t ↦ rw t (token-found (word_rule w) c (kind.Word w) tt tt refl (word-head c.rest w (says-word w c.rest marked t)) (λ y k last is ends le same. refl))
  | inr f ↦ rw f (fails-here (word_rule w) c (λ y k is ends same. let t = word-says w c.rest (same-word c.at c.at c.rest k w same) in cc))
]

name-of : (c : Cursor) (o : Option (List ℕ)) → name_at c.rest ≡ o → Outcome name_rule c (pass_if c o)
name-of c (Some n) e = token-found name_rule c (kind.Name n) n tt refl (name-head c.rest n e)
    (λ y k last is ends le same. let h : name_at c.rest ≡ Some y = same-name last c.at c.rest k y same in let s : Some y ≡ Some n = sym h ∙ e in cc)
name-of c None e =
    fails-here name_rule c (λ y k is ends same. let h : name_at c.rest ≡ Some y = same-name c.at c.at c.rest k y same in let s : None ≡ Some y = sym e ∙ h in cc)

pub name-parses : (c : Cursor) → Outcome name_rule c (the_name c)
unfolding the_name
name-parses c = name-of c (name_at c.rest) refl

-- a part and the sign behind it
before-leads : {A : Type 0} (R : Rule A) (s : Sign) (c : Cursor) → Leads (rule_before_sign R s) (sequence_rule R (λ x. sign_rule s)) c c (λ p. p.0)
before-leads R s c =
    leads-here (rule_before_sign R s) (sequence_rule R (λ x. sign_rule s)) c (λ p. p.0) (λ p is. is.0) (λ p. refl) (λ x k last is ends le same. ((x, tt), refl, (is, tt), record {}))

pub before-parses : {A : Type 0} (R : Rule A) (s : Sign) (c : Cursor) (r : Read A) → 1 ≤ sign_mark s → ((v : A) (k : Kinds) → R.Ends v (a_sign s ++ k))
    → Outcome R c r
    → Outcome (rule_before_sign R s) c (r >>= (λ x. the_sign s x.1 >>= (λ y. Ok (x.0, y.1))))
before-parses R s c r marked ends o =
    part (rule_before_sign R s) R (λ x. sign_rule s) c c (λ p. p.0) r (λ x. the_sign s x.1 >>= (λ y. Ok (x.0, y.1))) (λ at v y k v_is y_is y_ends. ends v k)
    (before-leads R s c) o
    (λ x to found l. finish (rule_before_sign R s) (sign_rule s) c to (λ y. x) (the_sign s to) l (sign-parses s to marked))
