-- What a file of reports holds, by how its text begins.
use Rattle.std.specs.Prelude.{MatchBool}
use Rattle.std.proofs.Common.{◌≡◌, ◌≤◌, inr, ℕ, ◌+◌, ◌-◌, true, false, List, [], ◌∷◌, ◌++◌, length, get_or, take, drop, Option, ap, sym, subst, ◌∙◌, arith, append-nil, append_assoc}
use Rattle.std.proofs.lemmas.List.{take_all}
use Rattle.cbi_base.specs.Store.{Held}
use Rattle.cbi_base.specs.declared.refusal.Refusal.{Refusal}
use Rattle.collector.specs.declared.collection.Bundle.{Bundle}
use Rattle.collector.specs.Merging.{IsBundle}
use Rattle.collector.specs.Spelling.{SpellsBundle}
use Rattle.command_collect.specs.Collect.{AreBundles, AreReadOf, AreSpelled, RefusesFiles, SpellsFile, SpellsOne, is_collection}

pub bundle-file : (text : List ℕ) (b : Bundle) → is_collection text ≡ true → SpellsBundle text b → SpellsFile text b
bundle-file text b is h = subst (λ t. MatchBool t (SpellsBundle text b) (SpellsOne text b)) (sym is) h

pub file-bundle : (text : List ℕ) (b : Bundle) → is_collection text ≡ true → SpellsFile text b → SpellsBundle text b
file-bundle text b is h = subst (λ t. MatchBool t (SpellsBundle text b) (SpellsOne text b)) is h

pub one-file : (text : List ℕ) (b : Bundle) → is_collection text ≡ false → SpellsOne text b → SpellsFile text b
one-file text b is h = subst (λ t. MatchBool t (SpellsBundle text b) (SpellsOne text b)) (sym is) h

pub file-one : (text : List ℕ) (b : Bundle) → is_collection text ≡ false → SpellsFile text b → SpellsOne text b
file-one text b is h = subst (λ t. MatchBool t (SpellsBundle text b) (SpellsOne text b)) is h

-- the texts from one on, where the rest is that
only-step : (texts after : List (List ℕ)) (text : List ℕ) (bundles : List Bundle) (bundle : Bundle)
    → ((others : List Bundle) → AreSpelled texts others → (more : List Bundle) × (others ≡ bundles ++ more) × AreSpelled (text ∷ after) more)
    → ((b : Bundle) → SpellsFile text b → b ≡ bundle)
    → (others : List Bundle) → AreSpelled texts others → (more : List Bundle) × (others ≡ (bundles ++ bundle ∷ []) ++ more) × AreSpelled after more
only-step texts after text bundles bundle all once others are = ends (all others are)
  where
    ends : (more : List Bundle) × (others ≡ bundles ++ more) × AreSpelled (text ∷ after) more → (more : List Bundle) × (others ≡ (bundles ++ bundle ∷ []) ++ more) × AreSpelled after more
    ends ([], is, left) = absurd left
    ends (b ∷ more, is, left) = (more, is ∙ ap (λ x. bundles ++ x ∷ more) (once b left.0) ∙ sym (append_assoc bundles (bundle ∷ []) more), left.1)

-- what is read so far, and one more
pub record ReadSoFar (texts rest : List (List ℕ)) (bundles : List Bundle) (number : ℕ) : Type 0 where
  pub spelled : (more : List Bundle) → AreSpelled rest more → AreSpelled texts (bundles ++ more)
  pub only : (others : List Bundle) → AreSpelled texts others → (more : List Bundle) × (others ≡ bundles ++ more) × AreSpelled rest more
  pub are_bundles : (more : List Bundle) → AreBundles more → AreBundles (bundles ++ more)
  pub fault : (refusal : Refusal) → RefusesFiles (number + 1) rest refusal → RefusesFiles 1 texts refusal
  pub counted : number + length rest ≡ length texts

one-more-text : (texts after : List (List ℕ)) (text : List ℕ) (bundles : List Bundle) (bundle : Bundle) (number : ℕ) → ReadSoFar texts (text ∷ after) bundles number
    → SpellsFile text bundle → IsBundle bundle → ((b : Bundle) → SpellsFile text b → b ≡ bundle) → ReadSoFar texts after (bundles ++ bundle ∷ []) (number + 1)
one-more-text texts after text bundles bundle number so spells is once = record {
  spelled = λ more h. subst (AreSpelled texts) (sym (append_assoc bundles (bundle ∷ []) more)) (so.spelled (bundle ∷ more) (spells, h));
  only = only-step texts after text bundles bundle so.only once;
  are_bundles = λ more h. subst AreBundles (sym (append_assoc bundles (bundle ∷ []) more)) (so.are_bundles (bundle ∷ more) (is, h));
  fault = λ refusal h. so.fault refusal (inr (record { bundle = bundle; spells = spells }, h));
  counted = omega (arith, so.counted);
}

-- the same where the rest is a list that begins with the text
pub one-more : (texts rest : List (List ℕ)) (text : List ℕ) (bundles now : List Bundle) (bundle : Bundle) (number : ℕ) → 1 ≤ length rest → text ≡ get_or rest 0 text → ReadSoFar texts rest bundles number
    → now ≡ bundles ++ bundle ∷ [] → SpellsFile text bundle → IsBundle bundle → ((b : Bundle) → SpellsFile text b → b ≡ bundle) → ReadSoFar texts (take (length rest - 1) (drop 1 rest)) now (number + 1)
one-more texts [] text bundles now bundle number some first so pushed spells is once = absurd (omega (arith, some))
one-more texts (x ∷ xs) text bundles now bundle number some first so pushed spells is once =
    subst (λ bs. ReadSoFar texts (take (length (x ∷ xs) - 1) xs) bs (number + 1)) (sym pushed)
    (subst (λ rest. ReadSoFar texts rest (bundles ++ bundle ∷ []) (number + 1)) (sym (take_all (length (x ∷ xs) - 1) xs (omega arith)))
    (one-more-text texts xs text bundles bundle number (subst (λ y. ReadSoFar texts (y ∷ xs) bundles number) (sym first) so) spells is once))

-- all is read
pub all-spelled : (texts rest : List (List ℕ)) (bundles : List Bundle) (number : ℕ) → length rest ≡ 0 → ReadSoFar texts rest bundles number → AreSpelled texts bundles
all-spelled texts [] bundles number none so = subst (AreSpelled texts) (append-nil bundles) (so.spelled [] tt)
all-spelled texts (x ∷ rest) bundles number none so = absurd (omega (arith, none))

pub all-only : (texts rest : List (List ℕ)) (bundles others : List Bundle) (number : ℕ) → length rest ≡ 0 → ReadSoFar texts rest bundles number → AreSpelled texts others → others ≡ bundles
all-only texts [] bundles others number none so are = ends (so.only others are)
  where
    ends : (more : List Bundle) × (others ≡ bundles ++ more) × AreSpelled [] more → others ≡ bundles
    ends ([], is, left) = is ∙ append-nil bundles
    ends (b ∷ more, is, left) = absurd left
all-only texts (x ∷ rest) bundles others number none so are = absurd (omega (arith, none))

pub all-bundles : (texts rest : List (List ℕ)) (bundles : List Bundle) (number : ℕ) → ReadSoFar texts rest bundles number → AreBundles bundles
all-bundles texts rest bundles number so = subst AreBundles (append-nil bundles) (so.are_bundles [] tt)

-- the texts of the names, where none is left
pub all-read : (held : Option Held) (names rest texts : List (List ℕ)) → length rest ≡ 0 → ((more : List (List ℕ)) → AreReadOf held rest more → AreReadOf held names (texts ++ more)) → AreReadOf held names texts
all-read held names [] texts none all = subst (AreReadOf held names) (append-nil texts) (all [] tt)
all-read held names (x ∷ rest) texts none all = absurd (omega (arith, none))
