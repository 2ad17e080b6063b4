-- Where each way of one path is one of another path: what this comes to for paths made of paths.
use Rattle.std.proofs.Common.{ℕ, inl, inr}
use Rattle.lower_relation.specs.Paths.{Path, ◌then◌, Ways, Exits, Emitted, Either, OneOf, SwappedWays}
use Rattle.lower_relation.specs.Statements.{StatementSequence}

-- each way of the one path is one of the other
pub record Into {K : Type 0} (R S : Path K) : Type 0 where
  pub leads : (at : ℕ) (k : K) → R at k → S at k

-- the same for each path of an expression
pub record EmittedInto (m n : Emitted) : Type 0 where
  pub value : Into m.value n.value
  pub place : Into m.place n.place
  pub effect : Into m.effect n.effect
  pub truth : Into m.truth n.truth

-- a path leads into itself
pub same : {K : Type 0} {R : Path K} → Into R R
same = record { leads = λ at k h. h }

-- one path and then another one
pub then_into : {K : Type 0} {R R' : Path ℕ} {S S' : Path K} → Into R R' → Into S S' → Into (R then S) (R' then S')
then_into a b = record { leads = λ at k h. (h.0, a.leads at h.0 h.1, b.leads h.0 k h.2) }

-- one of two paths, as a condition says
pub either_into : {K : Type 0} {D D' : Path Ways} {R R' S S' : Path K} → Into D D' → Into R R' → Into S S' → Into (Either D R S) (Either D' R' S')
either_into d a b = record { leads = λ at k h. (h.0, h.1, d.leads at _ h.2, a.leads h.0 k h.3, b.leads h.1 k h.4) }

-- one of two paths, whichever
pub one_of_into : {K : Type 0} {R R' S S' : Path K} → Into R R' → Into S S' → Into (OneOf R S) (OneOf R' S')
one_of_into a b = record { leads = λ at k h. elim h [ inl y ↦ inl (a.leads at k y) | inr y ↦ inr (b.leads at k y) ] }

-- a condition the other way round
pub turned_into : {D D' : Path Ways} → Into D D' → Into (SwappedWays D) (SwappedWays D')
turned_into d = record { leads = λ at k h. d.leads at _ h }

-- one statement before another
pub before_into : {R R' S S' : Path Exits} → Into R R' → Into S S' → Into (StatementSequence R S) (StatementSequence R' S')
before_into a b = record { leads = λ at k h. (h.0, a.leads at _ h.1, b.leads h.0 k h.2) }
