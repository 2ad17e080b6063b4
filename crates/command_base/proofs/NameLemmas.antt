-- One of the names, names that are held, and the first that isn't, in a list and one after it.
use Rattle.std.proofs.Common.{inl, inr, ℕ, List, [], ◌∷◌, ◌++◌, Option}
use Rattle.cbi_base.specs.Store.{Held}
use Rattle.command_base.specs.declared.fault.Fault.{Fault}
use Rattle.command_base.specs.declared.fault.Fault.TheVariants.{Read}
use Rattle.command_base.specs.Faults.{IfReadFault}
use Rattle.command_base.specs.Names.{AreHeld, IsFirstMissing, IsOneOf}

pub one-in-first : (xs ys : List (List ℕ)) (name : List ℕ) → IsOneOf xs name → IsOneOf (xs ++ ys) name
one-in-first [] ys name h = absurd h
one-in-first (x ∷ xs) ys name (inl h) = inl h
one-in-first (x ∷ xs) ys name (inr h) = inr (one-in-first xs ys name h)

pub one-in-rest : (xs ys : List (List ℕ)) (name : List ℕ) → IsOneOf ys name → IsOneOf (xs ++ ys) name
one-in-rest [] ys name h = h
one-in-rest (x ∷ xs) ys name h = inr (one-in-rest xs ys name h)

pub missing-in-first : (held : Option Held) (xs ys : List (List ℕ)) (name : List ℕ) → IsFirstMissing held xs name → IsFirstMissing held (xs ++ ys) name
missing-in-first held [] ys name h = absurd h
missing-in-first held (x ∷ xs) ys name (inl h) = inl h
missing-in-first held (x ∷ xs) ys name (inr h) = inr (h.0, missing-in-first held xs ys name h.1)

pub missing-in-rest : (held : Option Held) (xs ys : List (List ℕ)) (name : List ℕ) → AreHeld held xs → IsFirstMissing held ys name → IsFirstMissing held (xs ++ ys) name
missing-in-rest held [] ys name are h = h
missing-in-rest held (x ∷ xs) ys name are h = inr (are.0, missing-in-rest held xs ys name are.1 h)

pub held-first : (held : Option Held) (xs ys : List (List ℕ)) → AreHeld held (xs ++ ys) → AreHeld held xs
held-first held [] ys are = tt
held-first held (x ∷ xs) ys are = (are.0, held-first held xs ys are.1)

pub held-rest : (held : Option Held) (xs ys : List (List ℕ)) → AreHeld held (xs ++ ys) → AreHeld held ys
held-rest held [] ys are = are
held-rest held (x ∷ xs) ys are = held-rest held xs ys are.1

pub held-both : (held : Option Held) (xs ys : List (List ℕ)) → AreHeld held xs → AreHeld held ys → AreHeld held (xs ++ ys)
held-both held [] ys first rest = rest
held-both held (x ∷ xs) ys first rest = (first.0, held-both held xs ys first.1 rest)

pub of-read-as : (e : Fault) (P Q : List ℕ → Type 0) → IfReadFault e P → ((name : List ℕ) → P name → Q name) → IfReadFault e Q
of-read-as (Read name) P Q h k = k name h
of-read-as e P Q h k = tt
