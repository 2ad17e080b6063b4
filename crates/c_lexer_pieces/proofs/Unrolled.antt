-- A bounded reading after some of its turns.
use Rattle.std.proofs.Common.{◌≡◌, ◌+◌, ◌-◌, ◌≤◌, ◌<◌, ℕ, suc, length, List, ◌++◌, Option, Some, None, ap, ◌∙◌, arith}

-- after some turns g goes on with rest, and h makes the answer for all the bytes out of that for rest
pub record Unrolled {B : Type 0} (g : ℕ → List ℕ → B) (h : B → B) (bytes rest : List ℕ) : Type 0 where
  pub turns : ℕ
  pub within : turns + length rest ≤ length bytes
  pub same : (n : ℕ) → g (n + turns) bytes ≡ h (g n rest)

pub unrolled-turn : {B : Type 0} (g : ℕ → List ℕ → B) (h k : B → B) (bytes rest after : List ℕ) → Unrolled g h bytes rest → length after < length rest → ((n : ℕ) → h (g (suc n) rest) ≡ k (g n after)) → Unrolled g k bytes after
unrolled-turn g h k bytes rest after u less turn = record {
  turns = u.turns + 1;
  within = omega (arith, u.within);
  same = λ n. let e : n + (u.turns + 1) ≡ suc n + u.turns = omega arith in ap (λ m. g m bytes) e ∙ u.same (suc n) ∙ turn n;
}

pub unrolled-end : {B : Type 0} (g : ℕ → List ℕ → B) (h : B → B) (bytes rest : List ℕ) (y : B) → Unrolled g h bytes rest → ((n : ℕ) → h (g (suc n) rest) ≡ y) → g (length bytes + 1) bytes ≡ y
unrolled-end g h bytes rest y u over =
    let n = length bytes - u.turns in
    let within = u.within in
    let e : length bytes + 1 ≡ suc n + u.turns = omega arith in
    ap (λ m. g m bytes) e ∙ u.same (suc n) ∙ over n

-- what was read before, in front of what is read now
abbrev pub with_front : {A C : Type 0} → List A → Option (List A × C) → Option (List A × C)
with_front front None = None
with_front front (Some x) = Some (front ++ x.0, x.1)
