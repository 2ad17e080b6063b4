-- Made numbers: one after another, and in one way alone.
use Rattle.std.proofs.Common.{◌≡◌, ℕ, ◌+◌, ◌-◌, ◌<◌, ◌≤◌, inl, inr, List, [], ◌∷◌, ◌++◌, length, sum, refl, sym, ap, subst, ◌∙◌, arith}
use Rattle.std.specs.Prelude.{All}
use Rattle.std.proofs.lemmas.Bool.{cases_lt}
use Rattle.std.proofs.lemmas.List.Elements.{All-cons, All-nil}
use Rattle.std.proofs.lemmas.List.Sums.{sum_by-cons, sum_by_push}
use Rattle.rand_pcg.specs.Lcg.{Lcg}
use Rattle.countdown_bank.specs.Bank.{BankState, IsCountdown, bank_of}
use Rattle.countdown_bank.specs.MadeBank.{IsMadeNumber, AreMade, IsMadeBank, after_words, word_after, bound_of}
use Rattle.countdown_bank.proofs.Words.{word_after-add}

-- words that are the same make the same
pub IsMadeNumber-same : (words others : ℕ → ℕ) (bound n : ℕ) → ((k : ℕ) → words k ≡ others k) → IsMadeNumber words bound n → IsMadeNumber others bound n
IsMadeNumber-same words others bound n same m = record {
  some = m.some;
  few = m.few;
  none_before = λ k before. subst (λ w. bound ≤ w) (same k) (m.none_before k before);
  stops = elim m.stops [ inl below ↦ inl (subst (λ w. w < bound) (same (n - 1)) below) | inr last ↦ inr last ];
}

pub AreMade-same : (words others : ℕ → ℕ) (bound : ℕ) (ns : List ℕ) → ((k : ℕ) → words k ≡ others k) → AreMade words bound ns → AreMade others bound ns
AreMade-same words others bound [] same made = tt
AreMade-same words others bound (n ∷ ns) same made =
    (IsMadeNumber-same words others bound n same made.0, AreMade-same (λ k. words (n + k)) (λ k. others (n + k)) bound ns (λ k. same (n + k)) made.1)

-- one more number, from the words that the others leave
pub AreMade-push : (words : ℕ → ℕ) (bound : ℕ) (ns : List ℕ) (n : ℕ) → AreMade words bound ns → IsMadeNumber (λ k. words (sum ns + k)) bound n → AreMade words bound (ns ++ n ∷ [])
AreMade-push words bound [] n made next =
    let same : (k : ℕ) → words (sum [] + k) ≡ words k = λ k. let e : sum [] + k ≡ k = omega arith in ap words e in
    (IsMadeNumber-same (λ k. words (sum [] + k)) words bound n same next, tt)
AreMade-push words bound (m ∷ ns) n made next =
    let whole : sum (m ∷ ns) ≡ m + sum ns = sum_by-cons (λ x. x) m ns in
    let same : (k : ℕ) → words (sum (m ∷ ns) + k) ≡ words (m + (sum ns + k)) = λ k. let e : sum (m ∷ ns) + k ≡ m + (sum ns + k) = omega (arith, whole) in ap words e in
    (made.0, AreMade-push (λ k. words (m + k)) bound ns n made.1 (IsMadeNumber-same (λ k. words (sum (m ∷ ns) + k)) (λ k. words (m + (sum ns + k))) bound n same next))

-- a made number is one that a bank can have
pub IsMadeNumber-countdown : (words : ℕ → ℕ) (bound n : ℕ) → IsMadeNumber words bound n → IsCountdown n
IsMadeNumber-countdown words bound n made = (made.some, omega (arith, made.few))

pub AreMade-countdowns : (words : ℕ → ℕ) (bound : ℕ) (ns : List ℕ) → AreMade words bound ns → All IsCountdown ns
AreMade-countdowns words bound [] made = All-nil IsCountdown
AreMade-countdowns words bound (n ∷ ns) made =
    All-cons IsCountdown n ns (IsMadeNumber-countdown words bound n made.0) (AreMade-countdowns (λ k. words (n + k)) bound ns made.1)

-- of two numbers made from the same words the first is not the smaller
not-smaller : (words : ℕ → ℕ) (bound m n : ℕ) → IsMadeNumber words bound m → IsMadeNumber words bound n → m < n → ⊥
not-smaller words bound m n a b less =
    let before : m - 1 + 1 < n = omega (arith, a.some) in
    elim a.stops [ inl below ↦ omega (arith, b.none_before (m - 1) before) | inr last ↦ omega (arith, b.few) ]

pub IsMadeNumber-once : (words : ℕ → ℕ) (bound m n : ℕ) → IsMadeNumber words bound m → IsMadeNumber words bound n → m ≡ n
IsMadeNumber-once words bound m n a b =
    let left = not-smaller words bound m n a b in
    let right = not-smaller words bound n m b a in
    elim (cases_lt m n) [ inl less ↦ absurd (left less) | inr rest ↦ elim (cases_lt n m) [ inl less ↦ absurd (right less) | inr more ↦ omega arith ] ]

pub AreMade-once : (words : ℕ → ℕ) (bound : ℕ) (ms ns : List ℕ) → length ms ≡ length ns → AreMade words bound ms → AreMade words bound ns → ms ≡ ns
AreMade-once words bound [] [] same a b = refl
AreMade-once words bound [] (n ∷ ns) same a b = absurd (omega arith)
AreMade-once words bound (m ∷ ms) [] same a b = absurd (omega arith)
AreMade-once words bound (m ∷ ms) (n ∷ ns) same a b =
    let head = IsMadeNumber-once words bound m n a.0 b.0 in
    let rest : AreMade (λ k. words (m + k)) bound ns = subst (λ (i : ℕ). AreMade (λ k. words (i + k)) bound ns) (sym head) b.1 in
    let as_long : length ms ≡ length ns = omega arith in
    let tail = AreMade-once (λ k. words (m + k)) bound ms ns as_long a.1 rest in
    cc (head, tail)

pub IsMadeBank-once : (g : Lcg) (rate count : ℕ) (a b : BankState) → IsMadeBank g rate count a → IsMadeBank g rate count b → a ≡ b
IsMadeBank-once g rate count a b x y =
    let same = AreMade-once (word_after g) (bound_of rate) a.numbers b.numbers (x.as_many ∙ sym y.as_many) x.made y.made in
    x.bank ∙ ap bank_of same ∙ sym y.bank

pub sum-push : (ns : List ℕ) (n : ℕ) → sum (ns ++ n ∷ []) ≡ sum ns + n
sum-push ns n = sum_by_push (λ x. x) ns n

-- one more number, from the generator that the others leave
pub AreMade-next : (g now : Lcg) (bound n : ℕ) (ns more : List ℕ) → now ≡ after_words (sum ns) g → AreMade (word_after g) bound ns → IsMadeNumber (word_after now) bound n → more ≡ ns ++ n ∷ [] → AreMade (word_after g) bound more
AreMade-next g now bound n ns more moved made next is =
    let same : (k : ℕ) → word_after now k ≡ word_after g (sum ns + k) = λ k. ap (λ (h : Lcg). word_after h k) moved ∙ word_after-add (sum ns) k g in
    subst (AreMade (word_after g) bound) (sym is) (AreMade-push (word_after g) bound ns n made (IsMadeNumber-same (word_after now) (λ k. word_after g (sum ns + k)) bound n same next))
