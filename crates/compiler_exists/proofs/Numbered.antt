-- Functions that are made of names and signatures, one after another by their numbers.
use Rattle.std.proofs.Common.{◌≡◌, ℕ, zero, suc, ◌+◌, ◌<◌, ◌≤◌, refl, ap, ap₂, arith, List, [], ◌∷◌, length, map, Option, Some, None, option_map, slice_get}
use Rattle.std.specs.List.{sum_by}
use Rattle.std.proofs.lemmas.List.Sums.{sum_by-cons}
use Rattle.c_syntax.specs.StatementTree.{EntryList}
use Rattle.flow.specs.declared.program.Function.{Function}
use Rattle.c_meaning.specs.Facts.{Signature, Sites}
use Rattle.lower_relation.specs.Room.{function_room, functions_room}

-- a name before the end of the list
pub name_within : (names : List (List ℕ)) (i : ℕ) (name : List ℕ) → slice_get names i ≡ Some name → i < length names
name_within [] i name at = absurd (cc)
name_within (x ∷ names) zero name at = omega arith
name_within (x ∷ names) (suc i) name at = omega (arith, name_within names i name at)

-- no name behind it
pub name_past : (names : List (List ℕ)) (i : ℕ) → slice_get names i ≡ None → length names ≤ i
name_past [] i at = omega arith
name_past (x ∷ names) zero at = absurd (cc)
name_past (x ∷ names) (suc i) at = omega (arith, name_past names i at)

module _ (signature : ℕ → Option Signature) (make : ℕ → List ℕ → Option Signature → Function) where
  -- functions with these names, from this number on
  abbrev pub functions_from : ℕ → List (List ℕ) → List Function
  functions_from number [] = []
  functions_from number (name ∷ names) = make number name (signature number) ∷ functions_from (suc number) names

  pub their_names : ((number : ℕ) (name : List ℕ) (s : Option Signature) → (make number name s).name ≡ name) → (number : ℕ) (names : List (List ℕ)) →
      map (λ (f : Function). f.name) (functions_from number names) ≡ names
  their_names is number [] = refl
  their_names is number (name ∷ names) = ap₂ (λ n ns. n ∷ ns) (is number name (signature number)) (their_names is (suc number) names)

  -- the function with a number
  pub found : (names : List (List ℕ)) (first i number : ℕ) → number ≡ first + i →
      slice_get (functions_from first names) i ≡ option_map (λ name. make number name (signature number)) (slice_get names i)
  found [] first i number e = refl
  found (name ∷ names) first zero number e =
      let same : first ≡ number = omega (arith, e) in
      ap (λ n. Some (make n name (signature n))) same
  found (name ∷ names) first (suc i) number e = found names (suc first) i number (omega (arith, e))

  abbrev node_count : Function → ℕ
  node_count f = length f.nodes

  module _ (sites : Sites) (body : ℕ → Option EntryList) (few : (number : ℕ) (name : List ℕ) (s : Option Signature) →
      length (make number name s).nodes ≤ function_room sites (body number)) where
    few_from : (names : List (List ℕ)) (number : ℕ) →
        functions_room sites body number + sum_by node_count (functions_from number names) ≤ functions_room sites body (number + length names)
    few_from [] number =
        let same : number ≡ number + length {A = List ℕ} [] = omega arith in
        let room : functions_room sites body number ≡ functions_room sites body (number + length {A = List ℕ} []) = ap (functions_room sites body) same in
        omega (arith, room)
    few_from (name ∷ names) number =
        let f : Function = make number name (signature number) in
        let same : suc number + length names ≡ number + suc (length names) = omega arith in
        let room : functions_room sites body (suc number + length names) ≡ functions_room sites body (number + suc (length names)) =
        ap (functions_room sites body) same in
        omega (arith, room, sum_by-cons node_count f (functions_from (suc number) names), few_from names (suc number), few number name (signature number))

    -- they have no more nodes than there is room for
    pub few_nodes : (names : List (List ℕ)) → sum_by node_count (functions_from 0 names) ≤ functions_room sites body (length names)
    few_nodes names =
        let same : 0 + length names ≡ length names = omega arith in
        let room : functions_room sites body (0 + length names) ≡ functions_room sites body (length names) = ap (functions_room sites body) same in
        omega (arith, room, few_from names 0)
