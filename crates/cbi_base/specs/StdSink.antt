-- A sink over a writer of the library.
use Rattle.std.specs.Prelude.{ℕ, refl}
use Rattle.std.specs.Coded.{Coded, code_by, coded×, coded_ℕ}

-- a sink over a writer
pub record SinkOver (W : Type 0) : Type 0 where
  pub to : W
  pub faults : ℕ

-- it is stored as the pair of its fields
abbrev pub coded_sink : {W : Type 0} → Coded W → Coded (SinkOver W)
coded_sink {W} writer = code_by (W × ℕ) (coded× writer coded_ℕ) (λ s. (s.to, s.faults)) (λ p. record { to = p.0; faults = p.1 }) (λ _. refl)
