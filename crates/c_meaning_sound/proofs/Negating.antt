-- A constant that is no less than the least `char`, and lies in its kind, may have a `-` before it.
use Rattle.std.proofs.Common.{◌≡◌, arith, ℤ, pos, neg_ℤ, true, ◌&&◌, [], ◌∷◌}
use Rattle.std.specs.Prelude.{int_le}
use Rattle.std.specs.List.{AllByRecursion}
use Rattle.std.proofs.lemmas.Int.{ints}
use Rattle.std.proofs.lemmas.Bool.{false≢true, and_from, and_parts}
use Rattle.cbi_base.specs.declared.scalar.Kind.{Kind}
use Rattle.cbi_base.specs.declared.scalar.Kind.TheVariants as kind
use Rattle.cbi_base.specs.Kind.{greatest_of, least_of, lies_in}
use Rattle.c_syntax.specs.declared.token.TokenKind.TheVariants as token
use Rattle.c_syntax.specs.Words.{Kinds, AtLeastChar, ConstantFits, IsAtLeastChar, KindFits}
use Rattle.c_meaning_laws.specs.TypedText.{Negates}
use Rattle.c_meaning_sound.specs.Accepted.{IsNegatable}

int_negates : (value : ℤ) → int_le (neg_ℤ (pos 128)) value ≡ true → int_le value (pos 2147483647) ≡ true → lies_in kind.Int (neg_ℤ value) ≡ true
int_negates value low high = and_from (int_le (least_of kind.Int) (neg_ℤ value)) (int_le (neg_ℤ value) (greatest_of kind.Int)) (grind (arith, ints, low, high))
    (grind (arith, ints, low, high))

pub constant_negates : (k : Kind) (value : ℤ) → ConstantFits k value → AtLeastChar value → Negates k value
constant_negates kind.Int value h low = int_negates value low (and_parts (int_le (least_of kind.Int) value) (int_le value (greatest_of kind.Int)) h.1).1
constant_negates kind.Unsigned value h low = tt
constant_negates kind.Char value h low = absurd (false≢true h.0)

-- tokens as the lexer makes them
pub tokens_negate : (ks : Kinds) → AllByRecursion KindFits ks → AllByRecursion IsAtLeastChar ks → AllByRecursion IsNegatable ks
tokens_negate [] h k = tt
tokens_negate (token.Constant kind value ∷ ks) h k = (constant_negates kind value h.0 k.0, tokens_negate ks h.1 k.1)
tokens_negate (token.Name name ∷ ks) h k = (tt, tokens_negate ks h.1 k.1)
tokens_negate (token.Word word ∷ ks) h k = (tt, tokens_negate ks h.1 k.1)
tokens_negate (token.Text bytes ∷ ks) h k = (tt, tokens_negate ks h.1 k.1)
tokens_negate (token.Punctuator sign ∷ ks) h k = (tt, tokens_negate ks h.1 k.1)
