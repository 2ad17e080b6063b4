-- What is added to a list, one part after another.
use Rattle.std.proofs.Common.{◌≡◌, ℕ, ◌+◌, ◌<◌, List, ◌∷◌, ◌++◌, length, get_or, drop, Result, OnOk, sym, ap, ◌∙◌, append_assoc, add-one}
use Rattle.std.proofs.lemmas.Result.{IfOk-equal}
use Rattle.base_lists.proofs.Lists.{first_left}

pub both_added : {Y : Type 0} (before between after a b : List Y) → between ≡ before ++ a → after ≡ between ++ b → after ≡ before ++ (a ++ b)
both_added before between after a b e f = f ∙ ap (λ l. l ++ b) e ∙ append_assoc before a b

-- the same, where the second part is added by a call whose result is given back
pub last_added : {Y T E : Type 0} (r : Result T E) (before between after a b : List Y) → between ≡ before ++ a → OnOk r (after ≡ between ++ b) →
    OnOk r (after ≡ before ++ (a ++ b))
last_added r before between after a b e f = IfOk-equal r after (between ++ b) (before ++ (a ++ b)) f (ap (λ l. l ++ b) e ∙ append_assoc before a b)

-- what there is with what is left to be added comes to the same, after one more
pub part_added : {X Y : Type 0} (all : List X → List Y) (xs : List X) (i : ℕ) (x : X) (part before now total : List Y) → ((rest : List X) → all (x ∷ rest) ≡ part ++ all rest) →
    i < length xs → x ≡ get_or xs i x → now ≡ before ++ part → before ++ all (drop i xs) ≡ total → now ++ all (drop (i + 1) xs) ≡ total
part_added all xs i x part before now total splits inside is e h =
    ap (λ l. l ++ all (drop (i + 1) xs)) e
    ∙ append_assoc before part (all (drop (i + 1) xs))
    ∙ ap (λ l. before ++ l) (sym (splits (drop (i + 1) xs)))
    ∙ ap (λ k. before ++ all (x ∷ drop k xs)) (add-one i)
    ∙ ap (λ l. before ++ all l) (sym (first_left xs i x inside is))
    ∙ h

-- the same, where each of them has a part of its own
pub next_added : {X Y : Type 0} (all : List X → List Y) (one : X → List Y) → ((x : X) (xs : List X) → all (x ∷ xs) ≡ one x ++ all xs) →
    (xs : List X) (i : ℕ) (x : X) (before now total : List Y) → i < length xs → x ≡ get_or xs i x → now ≡ before ++ one x →
    before ++ all (drop i xs) ≡ total → now ++ all (drop (i + 1) xs) ≡ total
next_added all one splits xs i x before now total inside is e h = part_added all xs i x (one x) before now total (splits x) inside is e h
