-- The best of suspects, and that there is one.
use Rattle.std.proofs.Common.{◌≡◌, ◌⊎◌, ℕ, ◌+◌, ◌<◌, inl, inr, ⊎_elim, List, length, get_or, take, sym, subst}
use Rattle.std.specs.Prelude.{All, Contains}
use Rattle.std.proofs.lemmas.Bool.{cases_eq}
use Rattle.std.proofs.lemmas.List.Elements.{All-contains, All-more, All-weaker, Contains-get_or}
use Rattle.association.specs.declared.suspect.Suspect.{Suspect}
use Rattle.association.specs.Order.{IsBetter}
use Rattle.association.proofs.Ordered.{better-never-itself, better-or, better-through}
use Rattle.suspicious_lines.specs.Listing.{IsBest}
use Rattle.suspicious_lines.proofs.Finding.{AreDistinct}

-- the best of the first so many
pub record IsBestOfFirst (failing successful : ℕ) (suspects : List Suspect) (count : ℕ) (s : Suspect) : Type 0 where
  pub is_one : Contains suspects s
  pub best : All (λ (t : Suspect). IsBetter failing successful t s → ⊥) (take count suspects)

abbrev pub IsBetterOf : ℕ → ℕ → Suspect → Suspect → Suspect → Type 0
IsBetterOf failing successful best next new =
    ((new ≡ best) × (IsBetter failing successful next best → ⊥)) ⊎ ((new ≡ next) × IsBetter failing successful next best)

pub best-more : (failing successful : ℕ) (suspects : List Suspect) (i : ℕ) (d best new : Suspect) → i < length suspects → IsBestOfFirst failing successful suspects i best → IsBetterOf failing successful best (get_or suspects i d) new
    → IsBestOfFirst failing successful suspects (i + 1) new
best-more failing successful suspects i d best new less so_far or =
    let next = get_or suspects i d in
    ⊎_elim
    (λ (kept : (new ≡ best) × (IsBetter failing successful next best → ⊥)).
    subst (IsBestOfFirst failing successful suspects (i + 1)) (sym kept.0)
    (record { is_one = so_far.is_one; best = All-more (λ (t : Suspect). IsBetter failing successful t best → ⊥) suspects i d less so_far.best kept.1 }))
    (λ (taken : (new ≡ next) × IsBetter failing successful next best).
    let others : All (λ (t : Suspect). IsBetter failing successful t next → ⊥) (take i suspects) =
    All-weaker (λ (t : Suspect). IsBetter failing successful t best → ⊥) (λ (t : Suspect). IsBetter failing successful t next → ⊥) (λ t none better. none (better-through failing successful t next best better taken.1)) (take i suspects) so_far.best in
    subst (IsBestOfFirst failing successful suspects (i + 1)) (sym taken.0)
    (record { is_one = Contains-get_or suspects i d less; best = All-more (λ (t : Suspect). IsBetter failing successful t next → ⊥) suspects i d less others (better-never-itself failing successful next) }))
    or

pub best-all : (failing successful : ℕ) (suspects : List Suspect) (count : ℕ) (s : Suspect) → take count suspects ≡ suspects → IsBestOfFirst failing successful suspects count s → IsBest failing successful suspects s
best-all failing successful suspects count s all so_far = record { is_one = so_far.is_one; best = subst (All (λ (t : Suspect). IsBetter failing successful t s → ⊥)) all so_far.best }

-- there is one best
pub one-best : (failing successful : ℕ) (suspects : List Suspect) (s t : Suspect) → AreDistinct suspects → IsBest failing successful suspects s → IsBest failing successful suspects t → s ≡ t
one-best failing successful suspects s t distinct a b =
    elim (cases_eq s.predicate t.predicate) [
      | inl same ↦ distinct.same s t a.is_one b.is_one same
      | inr other ↦
          absurd (⊎_elim (λ (better : IsBetter failing successful s t). All-contains (λ (x : Suspect). IsBetter failing successful x t → ⊥) suspects s b.best a.is_one better)
          (λ (better : IsBetter failing successful t s). All-contains (λ (x : Suspect). IsBetter failing successful x s → ⊥) suspects t a.best b.is_one better) (better-or failing successful s t other))
    ]
