use Rattle.std.proofs.Common.{◌≡◌, ◌≢◌, ℕ, zero, suc, ◌+◌, ◌-◌, ◌<◌, ◌≤◌, Bool, true, IsFalse, List, [], ◌∷◌, ◌++◌, length, take, drop, get_or, ap, sym, subst, ◌∙◌, refl, append_assoc, length-append, arith}
use Rattle.std.specs.List.{slice_split, AllWithin}
use Rattle.std.proofs.lemmas.Bool.{false≢true}
use Rattle.std.proofs.lemmas.List.{append-nil, get_or-drop, get_or_append_left, length-drop}
use Rattle.std.proofs.Math.Seq.{get_or-append_seam}
use Rattle.std.proofs.lemmas.List.Elements.{All-from_recursion}
use Rattle.std.proofs.lemmas.List.Splits.{slice_split_none, slice_split_at, length-slice_split}
use Rattle.base_lists.proofs.Lists.{take_from}
use Rattle.cbi_base.specs.Text.{Lacks, AreLines, fields_of, is_newline, is_space, line_with_newline, text_of, IsLineEnd}

-- a list that lacks the mark is one piece
pub split-lacks : (p : ℕ → Bool) (xs : List ℕ) → Lacks p xs → slice_split p xs ≡ xs ∷ []
split-lacks p xs lacks = slice_split_none p xs (All-from_recursion (λ b. IsFalse (p b)) xs lacks)

-- the first piece ends at the first mark
pub split-at : (p : ℕ → Bool) (front : List ℕ) (mark : ℕ) (rest : List ℕ) → Lacks p front → p mark ≡ true → slice_split p (front ++ mark ∷ rest) ≡ front ∷ slice_split p rest
split-at p front mark rest lacks is = slice_split_at p front mark rest (All-from_recursion (λ b. IsFalse (p b)) front lacks) is

-- two texts that are cut at a mark, which neither first part has, are cut alike
pub cut-once : (p : ℕ → Bool) (mark : ℕ) → p mark ≡ true → (a b x y : List ℕ) → Lacks p a → Lacks p b → a ++ mark ∷ x ≡ b ++ mark ∷ y → (a ≡ b) × (x ≡ y)
cut-once p mark is [] [] x y la lb e = (refl, cc)
cut-once p mark is [] (c ∷ cs) x y la lb e = let h : mark ≡ c = cc in absurd (false≢true (sym lb.0 ∙ ap p (sym h) ∙ is))
cut-once p mark is (c ∷ cs) [] x y la lb e = let h : c ≡ mark = cc in absurd (false≢true (sym la.0 ∙ ap p h ∙ is))
cut-once p mark is (c ∷ cs) (d ∷ ds) x y la lb e =
    let more : cs ++ mark ∷ x ≡ ds ++ mark ∷ y = cc in
    let rest = cut-once p mark is cs ds x y la.1 lb.1 more in
    let head : c ≡ d = cc in
    (cc (head, rest.0), rest.1)

-- what has a mark doesn't lack it
pub lacks-mark : (p : ℕ → Bool) (mark : ℕ) → p mark ≡ true → (a x : List ℕ) → Lacks p (a ++ mark ∷ x) → ⊥
lacks-mark p mark is [] x l = false≢true (sym l.0 ∙ is)
lacks-mark p mark is (c ∷ cs) x l = lacks-mark p mark is cs x l.1

-- a line has a field
pub fields_of-some : (line : List ℕ) → fields_of line ≡ [] → ⊥
fields_of-some line none = let e : length (slice_split is_space line) ≡ 0 = ap length none in omega (arith, length-slice_split is_space line)

-- one more line
pub text_of-more : (lines : List (List ℕ)) (line rest : List ℕ) → text_of lines ++ (line ++ 10 ∷ rest) ≡ text_of (lines ++ line ∷ []) ++ rest
text_of-more [] line rest = simp append_assoc
text_of-more (l ∷ ls) line rest =
    append_assoc (line_with_newline l) (text_of ls) (line ++ 10 ∷ rest) ∙ ap (λ t. line_with_newline l ++ t) (text_of-more ls line rest) ∙ sym (append_assoc (line_with_newline l) (text_of (ls ++ line ∷ [])) rest)

pub AreLines-more : (lines : List (List ℕ)) (line : List ℕ) → AreLines lines → Lacks is_newline line → AreLines (lines ++ line ∷ [])
AreLines-more [] line all l = (l, tt)
AreLines-more (x ∷ xs) line all l = (all.0, AreLines-more xs line all.1 l)

-- a list that lacks newlines has none at any place
lacks-at : (bytes : List ℕ) → Lacks is_newline bytes → (k d : ℕ) → k < length bytes → get_or bytes k d ≢ 10
lacks-at [] lacks k d h = absurd (omega arith)
lacks-at (b ∷ bs) lacks zero d h = λ is. false≢true (sym lacks.0 ∙ ap is_newline is)
lacks-at (b ∷ bs) lacks (suc k) d h = lacks-at bs lacks.1 k d (omega arith)

-- from a place on, the bytes begin with a list that lacks newlines
pub lacks-within : (bytes line rest : List ℕ) (from : ℕ) → drop from bytes ≡ line ++ rest → Lacks is_newline line → AllWithin (λ b. b ≢ 10) bytes from (from + length line)
lacks-within bytes line rest from is lacks = λ k d low high.
    let place : from + (k - from) ≡ k = omega arith in
    let near : k - from < length line = omega arith in
    let same : get_or bytes k d ≡ get_or line (k - from) d = sym (get_or-drop from bytes (k - from) d ∙ ap (λ i. get_or bytes i d) place) ∙ ap (λ l. get_or l (k - from) d) is ∙ get_or_append_left line rest d (k - from) near in
    λ ten. lacks-at line lacks (k - from) d near (sym same ∙ ten)

pub lacks-to-end : (bytes : List ℕ) (from : ℕ) → from ≤ length bytes → Lacks is_newline (take (length bytes - from) (drop from bytes)) → AllWithin (λ b. b ≢ 10) bytes from (length bytes)
lacks-to-end bytes from h lacks =
    let whole : from + length (drop from bytes) ≡ length bytes = omega (arith, length-drop from bytes) in
    let tail : Lacks is_newline (drop from bytes) = subst (Lacks is_newline) (take_from bytes from) lacks in
    subst (AllWithin (λ b. b ≢ 10) bytes from) whole (lacks-within bytes (drop from bytes) [] from (sym (append-nil (drop from bytes))) tail)

pub IsLineEnd-cut : (bytes line rest : List ℕ) (from : ℕ) → from ≤ length bytes → take (length bytes - from) (drop from bytes) ≡ line ++ 10 ∷ rest → Lacks is_newline line → IsLineEnd bytes from (from + length line)
IsLineEnd-cut bytes line rest from h cut lacks =
    let is : drop from bytes ≡ line ++ 10 ∷ rest = sym (take_from bytes from) ∙ cut in record {
      after = omega arith;
      inside = omega (arith, length-drop from bytes, ap length is, length-append line (10 ∷ rest));
      stands = sym (get_or-drop from bytes (length line) 0) ∙ ap (λ l. get_or l (length line) 0) is ∙ get_or-append_seam line 10 rest 0;
      first = lacks-within bytes line (10 ∷ rest) from is lacks;
    }
