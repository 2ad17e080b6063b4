-- A whole text: its tree, where it has one, or its refusal.
use Rattle.std.proofs.Common.{◌≡◌, ℕ, zero, suc, ◌+◌, ◌≤◌, ◌<◌, ◌⊎◌, inl, inr, List, [], ◌∷◌, ◌++◌, length, map, take, drop}
use Rattle.std.proofs.Common.{refl, sym, ap, ◌∙◌, subst, length-append, arith}
use Rattle.std.proofs.lemmas.List.{append-nil, length-map, length-take-le, take-append-drop}
use Rattle.std.proofs.Math.Seq.{take-append_seam}
use Rattle.c_syntax.specs.declared.token.Token.{Token}
use Rattle.c_syntax.specs.declared.token.TokenKind.{TokenKind}
use Rattle.c_syntax.specs.Words.{ItemTree, SourceTree, Kinds, tree_kinds, HasOne, kinds_of, lines_of, IsWellFormed}
use Rattle.c_parser_expressions.specs.Reading.{Cursor, SameUpTo, Found, Fails}
use Rattle.c_parser_items.specs.Items.{item, AreItems, items}
use Rattle.c_parser.specs.Parsed.{IsTreeOf, FirstHaveTree, IsDead, Refuses}
use Rattle.c_parser_expressions.proofs.Laws.{same-all}
use Rattle.c_parser.proofs.Texts.{kinds, Reached, reached-end, reached-fails, reached-longest, reached-good}

abbrev pub beginning : List Token → Cursor
beginning ts = record { at = 0; rest = kinds_of ts }

-- tokens that begin as others do agree with them so far
begin-same : (n at : ℕ) (ks more : Kinds) → n < length ks → SameUpTo (at + n) at ks (take (n + 1) ks ++ more)
begin-same n at [] more h = absurd (omega arith)
begin-same zero at (x ∷ ks) more h = (refl, λ below. absurd (omega arith))
begin-same (suc n) at (x ∷ ks) more h =
    let one : suc n + 1 ≡ suc (n + 1) = omega arith in
    let here : at + 1 + n ≡ at + suc n = omega arith in
    let tail : SameUpTo (at + 1 + n) (at + 1) ks (take (n + 1) ks ++ more) = begin-same n (at + 1) ks more (omega arith) in
    let tail2 : SameUpTo (at + suc n) (at + 1) ks (take (n + 1) ks ++ more) = subst (λ (m : ℕ). SameUpTo m (at + 1) ks (take (n + 1) ks ++ more)) here tail in
    let whole : SameUpTo (at + suc n) at (x ∷ ks) (take (suc (n + 1)) (x ∷ ks) ++ more) = (refl, λ below. tail2) in
    subst (λ (m : ℕ). SameUpTo (at + suc n) at (x ∷ ks) (take m (x ∷ ks) ++ more)) (sym one) whole

items-of : (t : SourceTree) → IsWellFormed t → AreItems 200 0 t.items
items-of t w = record { shaped = w.shaped.items; nests = w.nests; placed = w.shaped.placed }

-- a list of items is a tree, with any lines
tree-of : (xs : List ItemTree) (lines : List ℕ) → HasOne xs → AreItems 200 0 xs → length lines ≡ length (kinds xs)
    → IsWellFormed (record { items = xs; lines = lines })
tree-of xs lines some are long = record { shaped = record { has_item = some; items = are.shaped; placed = are.placed; lines = long }; nests = are.nests }

-- no tree has the tokens
none-has : (ts : List Token) (last : ℕ) → Fails (items 200) (beginning ts) last → (t : SourceTree) → IsWellFormed t → tree_kinds t ≡ kinds_of ts → ⊥
none-has ts last f t w h =
    let same : SameUpTo last 0 (kinds_of ts) (tree_kinds t ++ []) =
    subst (λ (v : Kinds). SameUpTo last 0 (kinds_of ts) v) (sym h ∙ sym (append-nil (tree_kinds t))) (same-all last 0 (kinds_of ts)) in
    f.none t.items [] (items-of t w) (record { none = refl }) same

-- nor begins with those up to the index
dead-at : (ts : List Token) (index : ℕ) → Fails (items 200) (beginning ts) index → index < length ts → IsDead ts index
dead-at ts index f low = record {
  none = λ t more w h.
      (let few : index < length (kinds_of ts) = omega (arith, length-map ts (λ (t : Token). t.kind)) in
      let same : SameUpTo (0 + index) 0 (kinds_of ts) (take (index + 1) (kinds_of ts) ++ more) = begin-same index 0 (kinds_of ts) more few in
      let here : 0 + index ≡ index = omega arith in
      let same2 : SameUpTo index 0 (kinds_of ts) (take (index + 1) (kinds_of ts) ++ more) =
      subst (λ (m : ℕ). SameUpTo m 0 (kinds_of ts) (take (index + 1) (kinds_of ts) ++ more)) here same in
      f.none t.items [] (items-of t w) (record { none = refl }) (subst (λ (v : Kinds). SameUpTo index 0 (kinds_of ts) v)
      (sym h ∙ sym (append-nil (tree_kinds t))) same2));
}

good-of : (ts : List Token) (now : Cursor) (xs : List ItemTree) → AreItems 200 0 xs → kinds_of ts ≡ kinds xs ++ now.rest → now.at ≡ 0 + length (kinds xs)
    → (now.at ≡ 0) ⊎ FirstHaveTree ts now.at
good-of ts now [] are whole at = inl (omega arith)
good-of ts now (x ∷ xs) are whole at =
    let lines : List ℕ = map (λ (t : TokenKind). 1) (kinds (x ∷ xs)) in
    let all : take (length (kinds (x ∷ xs))) (kinds_of ts) ≡ kinds (x ∷ xs) =
    ap (take (length (kinds (x ∷ xs)))) whole ∙ take-append_seam (kinds (x ∷ xs)) now.rest in
    let here : length (kinds (x ∷ xs)) ≡ now.at = omega arith in
    inr (
      record { items = x ∷ xs; lines = lines },
      tree-of (x ∷ xs) lines tt are (length-map (kinds (x ∷ xs)) (λ (t : TokenKind). 1)),
      sym all ∙ ap
          (λ (n : ℕ). take n (kinds_of ts)) here,
    )

most-of : (ts : List Token) (now : Cursor) (xs : List ItemTree) (last : ℕ) → Reached 200 (beginning ts) now xs → Fails (item 200) now last → (m : ℕ)
    → now.at < m → m ≤ length ts → FirstHaveTree ts m → ⊥
most-of ts now xs last r f m low high tree =
    let few : m ≤ length (kinds_of ts) = omega (arith, length-map ts (λ (t : Token). t.kind)) in
    let whole : kinds_of ts ≡ kinds tree.0.items ++ drop m (kinds_of ts) =
    sym (take-append-drop m (kinds_of ts)) ∙ ap (λ (v : Kinds). v ++ drop m (kinds_of ts)) (sym tree.2) in
    let long : length (kinds tree.0.items) ≡ m = ap length tree.2 ∙ length-take-le m (kinds_of ts) few in
    let most : 0 + length (kinds tree.0.items) ≤ now.at =
    reached-longest 200 (beginning ts) now xs last r f tree.0.items (drop m (kinds_of ts)) (items-of tree.0 tree.1) whole in
    omega arith

pub refuses : (ts : List Token) (now : Cursor) (xs : List ItemTree) (index : ℕ) → Reached 200 (beginning ts) now xs → (now.rest ≡ [] → ⊥)
    → Fails (item 200) now index → Refuses ts index now.at
refuses ts now xs index r some f =
    let fails : Fails (items 200) (beginning ts) index = reached-fails 200 (beginning ts) now xs index r some f in
    let good = reached-good 200 (beginning ts) now xs r in
    let sum : length (kinds_of ts) ≡ length (kinds xs) + length now.rest = ap length good.1 ∙ length-append (kinds xs) now.rest in
    let long : length (kinds_of ts) ≡ length ts = length-map ts (λ (t : Token). t.kind) in
    let at = good.2 in
    let within = fails.within in
    record {
      none = none-has ts index fails;
      longest = record { within = omega arith; good = good-of ts now xs good.0 good.1 good.2; most = most-of ts now xs index r f };
      from = f.from;
      within = omega arith;
      dead = dead-at ts index fails;
    }

-- what was read to the end is a tree
pub reads-tree : (ts : List Token) (now : Cursor) (xs : List ItemTree) → Reached 200 (beginning ts) now xs → now.rest ≡ [] → HasOne xs
    → IsTreeOf ts (record { items = xs; lines = lines_of ts })
reads-tree ts now xs r end some =
    let f : Found (items 200) (beginning ts) xs now = reached-end 200 (beginning ts) now xs r end in
    let whole : kinds_of ts ≡ kinds xs = f.spelled ∙ ap (λ (v : Kinds). kinds xs ++ v) end ∙ append-nil (kinds xs) in
    let long : length (lines_of ts) ≡ length (kinds xs) =
    length-map ts (λ (t : Token). t.line) ∙ sym (length-map ts (λ (t : Token). t.kind)) ∙ ap length whole in
    record { well_formed = tree-of xs (lines_of ts) some f.is long; kinds = sym whole; lines = refl }

pub nothing-read : (ts : List Token) (now : Cursor) → Reached 200 (beginning ts) now [] → now.rest ≡ [] → length ts ≡ 0
nothing-read ts now r end =
    let f : Found (items 200) (beginning ts) [] now = reached-end 200 (beginning ts) now [] r end in
    let whole : kinds_of ts ≡ [] = f.spelled ∙ end in
    sym (length-map ts (λ (t : Token). t.kind)) ∙ ap length whole
