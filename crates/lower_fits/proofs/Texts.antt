-- The strings of an accepted text: few, of bytes, and of few bytes together.
use Rattle.std.proofs.Common.{◌≡◌, ℕ, ◌≤◌, ◌<◌, ◌+◌, refl, ap, sym, ◌∙◌, arith, Bool, true, false, List, [], ◌∷◌, length, length-append}
use Rattle.std.specs.Prelude.{nat_le}
use Rattle.std.specs.List.{All, AllByRecursion, flat_map, sum_by}
use Rattle.std.proofs.lemmas.Bool.{leb-false, lt-leb, true≢false}
use Rattle.std.proofs.lemmas.List.{length-map}
use Rattle.std.proofs.lemmas.List.Elements.{All-from_recursion, All-map, recursion_from_All}
use Rattle.std.proofs.lemmas.List.Sums.{sum_by-append, sum_by-cons}
use Rattle.c_syntax.specs.declared.token.TokenKind.{TokenKind}
use Rattle.c_syntax.specs.declared.token.TokenKind.TheVariants as kind
use Rattle.c_syntax.specs.Words.{SourceTree, Kinds, text_kinds, tree_kinds, IsOfBytes, kind_text_len}
use Rattle.c_types_expressions.specs.declared.walk.Walk.{Walk}
use Rattle.c_meaning.specs.Words.{facts_of, Literal, string_literals, texts_of}
use Rattle.flow.specs.declared.program.Text.{Text}
use Rattle.flow.specs.Words.{byte_limit, text_limit, AreTexts}
use Rattle.c_meaning_sound.specs.Accepted.{IsAcceptedTree}
use Rattle.c_meaning_sound.specs.Sited.{IsSited}
use Rattle.c_meaning_sound.proofs.Rising.{Rise, items_rise}
use Rattle.lower_fits.proofs.Strings.{items_fewer}

-- the bytes of a string
abbrev bytes_of : Literal → List ℕ
bytes_of s = s.bytes

-- the text of a program that a string is
abbrev text_of : Literal → Text
text_of s = record { bytes = s.bytes }

-- strings whose tokens rise are no more than there are tokens
rise_long : (lo hi : ℕ) (xs : List Literal) → Rise lo hi xs → lo + length xs ≤ hi
rise_long lo hi [] r = omega (arith, r)
rise_long lo hi (s ∷ xs) r = omega (arith, r.0, rise_long (s.token + 1) hi xs r.1)

-- an accepted text has at most as many strings as tokens
few_strings : (tree : SourceTree) (z : Walk) → IsAcceptedTree tree z → IsSited tree → length (string_literals tree) ≤ 100000
few_strings tree z a s = omega (
  arith,
  rise_long 0 _ (string_literals tree) (items_rise tree.items 0 a.formed.shaped.items a.formed.shaped.placed).by,
  a.formed.shaped.lines,
  s.few,
)

-- the bytes of a string are those of its tokens
string_long : (parts : List (List ℕ)) → length (flat_map (λ bytes. bytes) parts) ≤ sum_by kind_text_len (text_kinds parts)
string_long [] = omega arith
string_long (p ∷ parts) = omega (
  arith,
  string_long parts,
  length-append p (flat_map (λ bytes. bytes) parts),
  sum_by-cons kind_text_len (kind.Text p) (text_kinds parts),
)

-- all strings together have no more bytes than all tokens
all_bytes : (tree : SourceTree) → sum_by (λ s. length (bytes_of s)) (string_literals tree) ≤ sum_by kind_text_len (tree_kinds tree)
all_bytes tree = items_fewer (λ s. length (bytes_of s)) kind_text_len (λ token parts. string_long parts) tree.items

-- the texts have as many bytes as the strings
texts_sum : (xs : List Literal) → sum_by (λ (t : Text). length t.bytes) (texts_of xs) ≡ sum_by (λ s. length (bytes_of s)) xs
texts_sum [] = refl
texts_sum (x ∷ xs) =
    sum_by-cons (λ (t : Text). length t.bytes) (text_of x) (texts_of xs) ∙ ap (λ n. length x.bytes + n) (texts_sum xs)
    ∙ sym (sum_by-cons (λ s. length (bytes_of s)) x xs)

-- one, or none
abbrev one_if : Bool → ℕ
one_if true = 1
one_if false = 0

-- whether the number is no byte
abbrev one_large : ℕ → ℕ
one_large b = one_if (nat_le 256 b)

-- how many of these numbers are no bytes
abbrev large : List ℕ → ℕ
large bytes = sum_by one_large bytes

-- how many numbers of a token are no bytes
abbrev kind_large : TokenKind → ℕ
kind_large (kind.Text bytes) = large bytes
kind_large token = 0

-- what does not count is a byte
if_small : (c : Bool) (b : ℕ) → nat_le 256 b ≡ c → one_if c ≡ 0 → b < 256
if_small true b e h = absurd (omega (arith, h))
if_small false b e h = leb-false 256 b e

-- a byte does not count
if_none : (c : Bool) (b : ℕ) → nat_le 256 b ≡ c → b < 256 → one_if c ≡ 0
if_none true b e h = absurd (true≢false (sym e ∙ lt-leb 256 b h))
if_none false b e h = refl

-- of bytes none counts
none_large : (bytes : List ℕ) → AllByRecursion (λ b. b < 256) bytes → large bytes ≡ 0
none_large [] h = refl
none_large (b ∷ bytes) h = omega (arith, sum_by-cons one_large b bytes, if_none (nat_le 256 b) b refl h.0, none_large bytes h.1)

-- where none counts, all are bytes
all_small : (bytes : List ℕ) → large bytes ≡ 0 → AllByRecursion (λ b. b < 256) bytes
all_small [] h = tt
all_small (b ∷ bytes) h =
    let parts : large (b ∷ bytes) ≡ one_large b + large bytes = sum_by-cons one_large b bytes in
    (if_small (nat_le 256 b) b refl (omega (arith, h, parts)), all_small bytes (omega (arith, h, parts)))

-- the numbers of a string are those of its tokens
string_large : (parts : List (List ℕ)) → large (flat_map (λ bytes. bytes) parts) ≤ sum_by kind_large (text_kinds parts)
string_large [] = omega arith
string_large (p ∷ parts) = omega (
  arith,
  string_large parts,
  sum_by-append one_large p (flat_map (λ bytes. bytes) parts),
  sum_by-cons kind_large (kind.Text p) (text_kinds parts),
)

-- of a token of bytes none counts
one_none : (k : TokenKind) → IsOfBytes k → kind_large k ≡ 0
one_none (kind.Text bytes) h = none_large bytes (recursion_from_All (λ b. b < 256) bytes h)
one_none k h = refl

-- nor of all such tokens
tokens_none : (ks : Kinds) → AllByRecursion IsOfBytes ks → sum_by kind_large ks ≡ 0
tokens_none [] h = refl
tokens_none (k ∷ ks) h = omega (arith, sum_by-cons kind_large k ks, one_none k h.0, tokens_none ks h.1)

-- where none counts in all strings, each is of bytes
each_small : (xs : List Literal) → sum_by (λ s. large (bytes_of s)) xs ≡ 0 → AllByRecursion (λ s. All (λ b. b < 256) (bytes_of s)) xs
each_small [] h = tt
each_small (x ∷ xs) h =
    let parts : sum_by (λ s. large (bytes_of s)) (x ∷ xs) ≡ large x.bytes + sum_by (λ s. large (bytes_of s)) xs =
    sum_by-cons (λ s. large (bytes_of s)) x xs in (
      All-from_recursion (λ b. b < 256) x.bytes (all_small x.bytes (omega (arith, h, parts))),
      each_small xs (omega (arith, h, parts)),
    )

-- a program can have so many texts
pub few_texts : (tree : SourceTree) (z : Walk) → IsAcceptedTree tree z → IsSited tree → length (facts_of tree z).statics.texts ≤ text_limit
few_texts tree z a s = omega (arith, few_strings tree z a s, length-map (string_literals tree) text_of)

-- and so many bytes together
pub total_bytes : (tree : SourceTree) (z : Walk) → IsAcceptedTree tree z → sum_by (λ (t : Text). length t.bytes) (facts_of tree z).statics.texts ≤ byte_limit
total_bytes tree z a = omega (arith, texts_sum (string_literals tree), all_bytes tree, a.short)

-- the strings of an accepted text are texts of a program, where its tokens are of bytes
pub texts_fit : (tree : SourceTree) (z : Walk) → IsAcceptedTree tree z → IsSited tree → AllByRecursion IsOfBytes (tree_kinds tree)
    → AreTexts (facts_of tree z).statics.texts
texts_fit tree z a s b =
    let none : sum_by (λ s. large (bytes_of s)) (string_literals tree) ≡ 0 = omega (
      arith,
      items_fewer (λ s. large (bytes_of s)) kind_large (λ token parts. string_large parts) tree.items,
      tokens_none (tree_kinds tree) b,
    ) in
    record {
      few = few_texts tree z a s;
      bytes = All-map (λ (t : Text). All (λ b. b < 256) t.bytes) text_of (string_literals tree)
          (All-from_recursion (λ s. All (λ b. b < 256) (bytes_of s)) (string_literals tree) (each_small (string_literals tree) none));
      total = total_bytes tree z a;
    }
