-- A tree keeps what the tokens keep of which it is the tree.
use Rattle.std.proofs.Common.{◌≡◌, ◌+◌, ◌<◌, length, sum_by, List, [], ◌∷◌, Result, Ok, Err, refl, sym, ap, ◌∙◌, subst, arith}
use Rattle.std.specs.Prelude.{All, IfOk}
use Rattle.std.specs.List.{AllByRecursion}
use Rattle.std.proofs.lemmas.List.{length-map}
use Rattle.std.proofs.lemmas.List.Elements.{recursion_from_All}
use Rattle.std.proofs.lemmas.List.Sums.{sum_by-cons}
use Rattle.c_syntax.specs.declared.token.Token.{Token}
use Rattle.c_syntax.specs.declared.token.TokenKind.{TokenKind}
use Rattle.c_syntax.specs.declared.tree.Tree.{Tree}
use Rattle.c_syntax.specs.Words.{SourceTree, IsKeptTree, IsLineOfText, most_bytes, plain_tree, tree_kinds, IsAtLeastChar, IsOfBytes, IsTokens, KindFits}
use Rattle.c_syntax.specs.Words.{NameFits, kind_text_len, kinds_of, lines_of, text_len}
use Rattle.c_parser.specs.declared.error.ParseError.{ParseError}
use Rattle.c_parser.specs.Parsed.{IsParsed, IsTreeOf}

sum_of_kinds : (ts : List Token) → sum_by kind_text_len (kinds_of ts) ≡ sum_by text_len ts
sum_of_kinds [] = refl
sum_of_kinds (t ∷ ts) =
    sum_by-cons kind_text_len t.kind (kinds_of ts) ∙ ap (λ n. kind_text_len t.kind + n) (sum_of_kinds ts) ∙ sym (sum_by-cons text_len t ts)

-- what each token is, each token of the tree is
each-kept : (P : TokenKind → Type 0) (ts : List Token) (t : SourceTree) → IsTreeOf ts t → All P (kinds_of ts) → AllByRecursion P (tree_kinds t)
each-kept P ts t is all = subst (AllByRecursion P) (sym is.kinds) (recursion_from_All P (kinds_of ts) all)

pub kept-tree : (ts : List Token) (t : SourceTree) → IsTokens ts → IsTreeOf ts t → IsKeptTree t
kept-tree ts t keeps is = record {
  formed = is.well_formed;
  few = omega (arith, ap length is.kinds, length-map ts (λ (x : Token). x.kind), keeps.few);
  text = subst (λ ks. sum_by kind_text_len ks < most_bytes) (sym is.kinds) (subst (λ n. n < most_bytes) (sym (sum_of_kinds ts)) keeps.text);
  constants = each-kept KindFits ts t is keeps.constants;
  least = each-kept IsAtLeastChar ts t is keeps.least;
  names = each-kept NameFits ts t is keeps.names;
  bytes = each-kept IsOfBytes ts t is keeps.bytes;
  lines = subst (AllByRecursion IsLineOfText) (sym is.lines) (recursion_from_All IsLineOfText (lines_of ts)
      (λ i d within. (keeps.from_one i d within, keeps.within i d within)));
}

-- so does the tree that is read
pub kept-if : (ts : List Token) (r : Result Tree ParseError) → IsTokens ts → IsParsed ts r → IfOk r (λ t. IsKeptTree (plain_tree t))
kept-if ts (Ok tree) keeps p = kept-tree ts (plain_tree tree) keeps p
kept-if ts (Err e) keeps p = tt
