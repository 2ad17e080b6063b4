-- A rule that is broken first is one: of one kind, at one token.
use Rattle.std.proofs.Common.{◌⊎◌, inl, inr, ◌≡◌, ℕ, subst, sym, ◌∙◌}
use Rattle.c_types_rules.specs.declared.fault.FaultKind.{FaultKind}
use Rattle.c_types_faults.specs.Least.{IsLeast}
use Rattle.c_types_faults.proofs.Least.{least_one}

abbrev pub Single : (FaultKind → ℕ → Type 0) → Type 0
Single B = (i j : FaultKind) (a b : ℕ) → B i a → B j b → (i ≡ j) × (a ≡ b)

abbrev pub OneKind : (FaultKind → Type 0) → Type 0
OneKind R = (i j : FaultKind) → R i → R j → i ≡ j

pub none_single : Single (λ j at. ⊥)
none_single i j a b h g = absurd h

pub at_single : (R : FaultKind → Type 0) (token : ℕ) → OneKind R → Single (λ j at. (at ≡ token) × R j)
at_single R token f i j a b h g = (f i j h.1 g.1, h.0 ∙ sym g.0)

pub kind_single : (P : Type 0) (token : ℕ) (kind : FaultKind) → Single (λ j at. (at ≡ token) × (j ≡ kind) × P)
kind_single P token kind i j a b h g = (h.1 ∙ sym g.1, h.0 ∙ sym g.0)

pub least_single : (R : FaultKind → Type 0) (token : ℕ) → Single (λ j at. (at ≡ token) × IsLeast R j)
least_single R token = at_single (λ j. IsLeast R j) token (λ i j h g. least_one R i j h g)

-- A part, and what follows where it is this. A part that is this breaks no rule.
module _ {A : Type 0} (P : A → Type 0) (B : FaultKind → ℕ → Type 0) (N : A → FaultKind → ℕ → Type 0) where
  abbrev pub Then : FaultKind → ℕ → Type 0
  Then j at = B j at ⊎ ((x : A) × (P x × N x j at))

  pub then_single : ((x y : A) → P x → P y → x ≡ y) → ((x : A) (j : FaultKind) (at : ℕ) → P x → B j at → ⊥) → Single B → ((x : A) → P x → Single (N x))
      → Single Then
  then_single one silent first rest i j a b (inl h) (inl g) = first i j a b h g
  then_single one silent first rest i j a b (inl h) (inr (y, g)) = absurd (silent y i a g.0 h)
  then_single one silent first rest i j a b (inr (x, h)) (inl g) = absurd (silent x j b h.0 g)
  then_single one silent first rest i j a b (inr (x, h)) (inr (y, g)) =
      rest x h.0 i j a b h.1 (subst (λ z. N z j b) (one y x g.0 h.0) g.1)

-- a part, and what follows where it keeps the rules
module _ (P : Type 0) (B N : FaultKind → ℕ → Type 0) where
  abbrev pub Next : FaultKind → ℕ → Type 0
  Next j at = B j at ⊎ (P × N j at)

  pub next_single : ((j : FaultKind) (at : ℕ) → P → B j at → ⊥) → Single B → (P → Single N) → Single Next
  next_single silent first rest i j a b (inl h) (inl g) = first i j a b h g
  next_single silent first rest i j a b (inl h) (inr g) = absurd (silent i a g.0 h)
  next_single silent first rest i j a b (inr h) (inl g) = absurd (silent j b h.0 g)
  next_single silent first rest i j a b (inr h) (inr g) = rest h.0 i j a b h.1 g.1
