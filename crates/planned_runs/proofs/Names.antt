-- The names that are read for one number stand among those of all.
use Rattle.std.proofs.Common.{◌≡◌, ◌<◌, ◌+◌, ◌-◌, ℕ, zero, suc, List, [], ◌++◌, Option, ap, ap₂, sym, subst, ◌∙◌, arith, append_assoc}
use Rattle.cbi_base.specs.Store.{Held}
use Rattle.command_base.specs.Names.{AreHeld, IsFirstMissing, IsOneOf}
use Rattle.command_base.proofs.NameLemmas.{held-both, held-first, held-rest, missing-in-first, missing-in-rest, one-in-first, one-in-rest}
use Rattle.planned_runs.specs.Runs.{names_from}

-- the names of some first numbers, and those of the others
pub names_split : (names : ℕ → List (List ℕ)) (number some rest : ℕ)
    → names_from names number (some + rest) ≡ names_from names number some ++ names_from names (number + some) rest
names_split names number zero rest = ap₂ (λ n c. names_from names n c) (omega arith) (omega arith)
names_split names number (suc some) rest =
    let count : suc some + rest ≡ suc (some + rest) = omega arith in
    let later : suc number + some ≡ number + suc some = omega arith in
    ap (names_from names number) count
    ∙ ap (λ more. names number ++ more) (names_split names (suc number) some rest ∙ ap (λ n. names_from names (suc number) some ++ names_from names n rest) later)
    ∙ sym (append_assoc (names number) (names_from names (suc number) some) (names_from names (number + suc some) rest))

-- so they are before, at and behind a number
pub names_around : (names : ℕ → List (List ℕ)) (first done count : ℕ) → done < count
    → names_from names first count ≡ names_from names first done ++ (names (first + done) ++ names_from names (suc (first + done)) (count - suc done))
names_around names first done count more =
    let all : count ≡ done + suc (count - suc done) = omega arith in
    ap (names_from names first) all ∙ names_split names first done (suc (count - suc done))

module _ (names : ℕ → List (List ℕ)) (first done count : ℕ) (more : done < count) where
  pub one-of-all : (name : List ℕ) → IsOneOf (names (first + done)) name → IsOneOf (names_from names first count) name
  one-of-all name h =
      subst (λ all. IsOneOf all name) (sym (names_around names first done count more))
      (one-in-rest (names_from names first done) _ name (one-in-first (names (first + done)) _ name h))

  pub missing-of-all : (held : Option Held) (name : List ℕ) → AreHeld held (names_from names first done) → IsFirstMissing held (names (first + done)) name
      → IsFirstMissing held (names_from names first count) name
  missing-of-all held name are h =
      subst (λ all. IsFirstMissing held all name) (sym (names_around names first done count more))
      (missing-in-rest held (names_from names first done) _ name are (missing-in-first held (names (first + done)) _ name h))

  pub held-of-all : (held : Option Held) → AreHeld held (names_from names first count) → AreHeld held (names (first + done))
  held-of-all held are =
      held-first held (names (first + done)) (names_from names (suc (first + done)) (count - suc done)) (held-rest held (names_from names first done) _
      (subst (AreHeld held) (names_around names first done count more) are))

-- those of one number more are held
pub held-more : (names : ℕ → List (List ℕ)) (first done : ℕ) (held : Option Held) → AreHeld held (names_from names first done) → AreHeld held (names (first + done))
    → AreHeld held (names_from names first (done + 1))
held-more names first done held are next =
    let nil : AreHeld held (names_from names (first + done) 1) = held-both held (names (first + done)) [] next tt in
    subst (AreHeld held) (sym (names_split names first done 1)) (held-both held (names_from names first done) (names_from names (first + done) 1) are nil)
