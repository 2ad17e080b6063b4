-- A tree as a parser gives it, through whose types the walk comes, is a whole text.
use Rattle.std.proofs.Common.{◌≡◌, ℤ, pos, neg_ℤ, true, [], ◌∷◌, arith}
use Rattle.std.specs.Prelude.{int_le}
use Rattle.std.specs.List.{AllByRecursion}
use Rattle.std.proofs.lemmas.Bool.{and_from, and_parts, false≢true}
use Rattle.std.proofs.lemmas.Int.{ints}
use Rattle.cbi_base.specs.declared.scalar.Kind.{Kind}
use Rattle.cbi_base.specs.declared.scalar.Kind.TheVariants as kind
use Rattle.cbi_base.specs.Kind.{greatest_of, least_of}
use Rattle.c_syntax.specs.declared.token.TokenKind.{TokenKind}
use Rattle.c_syntax.specs.declared.token.TokenKind.TheVariants as token
use Rattle.c_syntax.specs.Words.{SourceTree, IsKeptTree, Kinds, tree_kinds, AtLeastChar, ConstantFits, IsAtLeastChar, KindFits, NameFits}
use Rattle.c_types_expressions.specs.declared.walk.Walk.{Walk}
use Rattle.c_types_expressions.specs.Walked.{Fine}
use Rattle.c_types.specs.Fault.{walk_tree}
use Rattle.flow.specs.Sites.{is_constant}
use Rattle.c_meaning_sound.specs.Sited.{IsSitedToken}
use Rattle.c_meaning_sound.proofs.Negating.{tokens_negate}
use Rattle.lower_fits.specs.Ready.{IsWholeText}

-- the greatest `int` is less than the greatest `unsigned`
int_within : (value : ℤ) → int_le value (greatest_of kind.Int) ≡ true → int_le value (greatest_of kind.Unsigned) ≡ true
int_within value high = grind (arith, ints, high)

-- a constant that lies in its kind, and is no less than the least `char`
constant_kept : (k : Kind) (value : ℤ) → ConstantFits k value → AtLeastChar value → is_constant value ≡ true
constant_kept kind.Int value h low = and_from (int_le (neg_ℤ (pos 128)) value) (int_le value (greatest_of kind.Unsigned)) low
    (int_within value (and_parts (int_le (least_of kind.Int) value) (int_le value (greatest_of kind.Int)) h.1).1)
constant_kept kind.Unsigned value h low = and_from (int_le (neg_ℤ (pos 128)) value) (int_le value (greatest_of kind.Unsigned)) low
    (and_parts (int_le (least_of kind.Unsigned) value) (int_le value (greatest_of kind.Unsigned)) h.1).1
constant_kept kind.Char value h low = absurd (false≢true h.0)

token_kept : (k : TokenKind) → KindFits k → IsAtLeastChar k → NameFits k → IsSitedToken k
token_kept (token.Constant kind value) fits low named = constant_kept kind value fits low
token_kept (token.Name name) fits low named = named
token_kept k fits low named = tt

tokens_kept : (ks : Kinds) → AllByRecursion KindFits ks → AllByRecursion IsAtLeastChar ks → AllByRecursion NameFits ks → AllByRecursion IsSitedToken ks
tokens_kept [] fits low named = tt
tokens_kept (k ∷ ks) fits low named = (token_kept k fits.0 low.0 named.0, tokens_kept ks fits.1 low.1 named.1)

pub kept_whole : (tree : SourceTree) (walk : Walk) → IsKeptTree tree → walk_tree tree ≡ Fine tt walk → IsWholeText tree walk
kept_whole tree walk k walked = record {
  accepted = record {
    formed = k.formed;
    walked = walked;
    short = omega (arith, k.text);
    constants = tokens_negate (tree_kinds tree) k.constants k.least;
  };
  sited = record {
    tokens = tokens_kept (tree_kinds tree) k.constants k.least k.names;
    lines = k.lines;
    few = omega (arith, k.formed.shaped.lines, k.few);
  };
  constants = k.constants;
  bytes = k.bytes;
  short = k.few;
}
