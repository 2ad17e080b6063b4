-- A fact at a place, as of a predicate in a run: whether it is true there, and whether anything is known of it there.
use Rattle.std.specs.Prelude.{ℕ, Bool, true, false, not, ◌&&◌, ◌||◌, List, count_by, zip}

pub record Fact : Type 0 where
  pub truth : Bool
  pub known : Bool

abbrev pub no_fact : Fact
no_fact = record { truth = false; known = false }

-- the fact with one more sight of it
abbrev pub fact_seen : Bool → Fact → Fact
fact_seen truth f = record { truth = f.truth || truth; known = true }

-- it is known not to be true
abbrev pub is_refuted : Fact → Bool
is_refuted f = f.known && not f.truth

-- two facts together are true where both are, and false where one of them is
abbrev pub both_hold : Fact → Fact → Bool
both_hold f g = f.truth && g.truth

abbrev pub one_is_refuted : Fact → Fact → Bool
one_is_refuted f g = is_refuted f || is_refuted g

-- in how many places both hold, and in how many it is known whether they do
abbrev pub both_hold_count : List Fact → List Fact → ℕ
both_hold_count left right = count_by (λ (p : Fact × Fact). both_hold p.0 p.1) (zip left right)

abbrev pub decided_count : List Fact → List Fact → ℕ
decided_count left right = count_by (λ (p : Fact × Fact). both_hold p.0 p.1 || one_is_refuted p.0 p.1) (zip left right)
