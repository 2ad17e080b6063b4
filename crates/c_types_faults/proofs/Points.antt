-- The tokens at which expressions and initialisers stand: within the span of their part, and each once.
use Rattle.std.proofs.Common.{◌⊎◌, inl, inr, ⊎_elim, ◌≡◌, ℕ, ◌≤◌, ◌<◌, List, [], ◌∷◌, ◌++◌, subst, append_assoc, arith}
use Rattle.c_types_faults.specs.Events.{Construct, Event, Value, Initialises}

abbrev pub IsAt : ℕ → Event → Type 0
IsAt k (Value token construct) = k ≡ token
IsAt k (Initialises token) = k ≡ token
IsAt k event = ⊥

-- one of the events stands there
abbrev pub Among : ℕ → List Event → Type 0
Among k [] = ⊥
Among k (event ∷ events) = IsAt k event ⊎ Among k events

-- no two of them stand at one token
abbrev pub Once : List Event → Type 0
Once [] = Unit {0}
Once (event ∷ events) = ((k : ℕ) → IsAt k event → Among k events → ⊥) × Once events

pub among_parts : (k : ℕ) (xs ys : List Event) → Among k (xs ++ ys) → Among k xs ⊎ Among k ys
among_parts k [] ys h = inr h
among_parts k (x ∷ xs) ys (inl h) = inl (inl h)
among_parts k (x ∷ xs) ys (inr h) = ⊎_elim (λ i. inl (inr i)) (λ i. inr i) (among_parts k xs ys h)

pub among_left : (k : ℕ) (xs ys : List Event) → Among k xs → Among k (xs ++ ys)
among_left k [] ys h = absurd h
among_left k (x ∷ xs) ys (inl h) = inl h
among_left k (x ∷ xs) ys (inr h) = inr (among_left k xs ys h)

pub among_right : (k : ℕ) (xs ys : List Event) → Among k ys → Among k (xs ++ ys)
among_right k [] ys h = h
among_right k (x ∷ xs) ys h = inr (among_right k xs ys h)

pub once_both : (xs ys : List Event) → Once xs → Once ys → ((k : ℕ) → Among k xs → Among k ys → ⊥) → Once (xs ++ ys)
once_both [] ys h g apart = g
once_both (x ∷ xs) ys h g apart = (
  λ k i j. ⊎_elim (λ l. h.0 k i l) (λ l. apart k (inl i) l) (among_parts k xs ys j),
  once_both xs ys h.1 g (λ k i j. apart k (inr i) j),
)

abbrev pub Within : ℕ → ℕ → List Event → Type 0
Within lo hi es = (k : ℕ) → Among k es → (lo ≤ k) × (k < hi)

pub within_both : (lo hi : ℕ) (xs ys : List Event) → Within lo hi xs → Within lo hi ys → Within lo hi (xs ++ ys)
within_both lo hi xs ys h g k i = ⊎_elim (λ l. h k l) (λ l. g k l) (among_parts k xs ys i)

-- expressions alone
abbrev pub IsValue : Event → Type 0
IsValue (Value token construct) = Unit {0}
IsValue event = ⊥

abbrev pub AreValues : List Event → Type 0
AreValues [] = Unit {0}
AreValues (event ∷ events) = IsValue event × AreValues events

values_both : (xs ys : List Event) → AreValues xs → AreValues ys → AreValues (xs ++ ys)
values_both [] ys h g = g
values_both (x ∷ xs) ys h g = (h.0, values_both xs ys h.1 g)

-- expressions, each at a token of its own between these two
pub record Spread (lo hi : ℕ) (es : List Event) : Type 0 where
  pub within : Within lo hi es
  pub once : Once es
  pub values : AreValues es

pub spread_none : (lo hi : ℕ) → Spread lo hi []
spread_none lo hi = record { within = λ k h. absurd h; once = tt; values = tt }

pub spread_one : (lo hi token : ℕ) (c : Construct) → lo ≤ token → token < hi → Spread lo hi (Value token c ∷ [])
spread_one lo hi token c low high = record {
  within = λ k h. ⊎_elim (λ e. (omega (arith, e, low), omega (arith, e, high))) (λ e. absurd e) h;
  once = (λ k i j. j, tt);
  values = (tt, tt);
}

-- one part behind another
pub spread_then : (lo mid hi : ℕ) (xs ys : List Event) → Spread lo mid xs → Spread mid hi ys → lo ≤ mid → mid ≤ hi → Spread lo hi (xs ++ ys)
spread_then lo mid hi xs ys h g low high = record {
  within = λ k i. ⊎_elim
      (λ l. (omega (arith, (h.within k l).0), omega (arith, (h.within k l).1, high)))
      (λ l. (omega (arith, (g.within k l).0, low), omega (arith, (g.within k l).1))) (among_parts k xs ys i);
  once = once_both xs ys h.once g.once (λ k i j. absurd (omega (arith, (h.within k i).1, (g.within k j).0)));
  values = values_both xs ys h.values g.values;
}

pub spread_wider : (lo hi l h : ℕ) (es : List Event) → Spread lo hi es → l ≤ lo → hi ≤ h → Spread l h es
spread_wider lo hi l h es s low high = record {
  within = λ k i. (omega (arith, (s.within k i).0, low), omega (arith, (s.within k i).1, high));
  once = s.once;
  values = s.values;
}

-- parts, and then a whole whose own token stands before them
pub spread_own : (lo mid hi token : ℕ) (c : Construct) (es : List Event) → Spread mid hi es → lo ≤ token → token < mid → mid ≤ hi
    → Spread lo hi (es ++ Value token c ∷ [])
spread_own lo mid hi token c es s low less high = record {
  within = λ k i. ⊎_elim
      (λ l. (omega (arith, (s.within k l).0, low, less), omega (arith, (s.within k l).1)))
      (λ l. ⊎_elim (λ e. (omega (arith, e, low), omega (arith, e, less, high))) (λ e. absurd e) l) (among_parts k es (Value token c ∷ []) i);
  once = once_both es (Value token c ∷ []) s.once (λ k i j. j, tt)
      (λ k i j. ⊎_elim (λ e. absurd (omega (arith, e, less, (s.within k i).0))) (λ e. e) j);
  values = values_both es (Value token c ∷ []) s.values (tt, tt);
}

pub spread_assoc : (lo hi : ℕ) (xs ys zs : List Event) → Spread lo hi ((xs ++ ys) ++ zs) → Spread lo hi (xs ++ (ys ++ zs))
spread_assoc lo hi xs ys zs s = subst (Spread lo hi) (append_assoc xs ys zs) s
