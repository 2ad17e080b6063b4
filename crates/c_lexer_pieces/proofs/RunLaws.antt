-- Runs of a class of bytes.
use Rattle.std.proofs.Common.{◌≡◌, ◌≤◌, length, ℕ, ◌+◌, true, false, cond, ◌&&◌, List, [], ◌∷◌, ◌++◌, take, drop, refl, ap}
use Rattle.std.specs.List.{prefix_len, list_all}
use Rattle.std.proofs.lemmas.List.Sums.{prefix_len-le-length}
use Rattle.std.proofs.Math.Numerals.{one-add}
use Rattle.c_lexer_pieces.specs.declared.bytes.Class.{Class}
use Rattle.c_lexer_pieces.specs.Bytes.{is_of_class, run_of_class, bytes_past_run, begins_with}
use Rattle.c_lexer_pieces.specs.Pieces.{AllOf, RunEnds}

pub run_is_front : (k : Class) (bytes : List ℕ) → take (prefix_len (is_of_class k) bytes) bytes ≡ run_of_class k bytes
run_is_front k [] = refl
run_is_front k (b ∷ bs) =
    elim (is_of_class k b) as (λ v. take (cond v (1 + prefix_len (is_of_class k) bs) 0) (b ∷ bs) ≡ cond v (b ∷ run_of_class k bs) []) [
      | true ↦ rw one-add (ap (λ xs. b ∷ xs) (run_is_front k bs))
      | false ↦ refl
    ]

pub past_is_rest : (k : Class) (bytes : List ℕ) → drop (prefix_len (is_of_class k) bytes) bytes ≡ bytes_past_run k bytes
past_is_rest k [] = refl
past_is_rest k (b ∷ bs) =
    elim (is_of_class k b) as (λ v. drop (cond v (1 + prefix_len (is_of_class k) bs) 0) (b ∷ bs) ≡ cond v (bytes_past_run k bs) (b ∷ bs)) [
      | true ↦ rw one-add (past_is_rest k bs)
      | false ↦ refl
    ]

pub prefix_len_within : (k : Class) (bytes : List ℕ) → prefix_len (is_of_class k) bytes ≤ length bytes
prefix_len_within k bytes = prefix_len-le-length (is_of_class k) bytes

-- a run and what follows it are the whole
pub run-past : (k : Class) (bytes : List ℕ) → run_of_class k bytes ++ bytes_past_run k bytes ≡ bytes
run-past k [] = refl
run-past k (b ∷ bs) =
    elim (is_of_class k b) as (λ v. cond v (b ∷ run_of_class k bs) [] ++ cond v (bytes_past_run k bs) (b ∷ bs) ≡ b ∷ bs) [
      | true ↦ ap (λ xs. b ∷ xs) (run-past k bs)
      | false ↦ refl
    ]

pub run-AllOf : (k : Class) (bytes : List ℕ) → AllOf k (run_of_class k bytes)
run-AllOf k [] = refl
run-AllOf k (b ∷ bs) =
    elim (is_of_class k b) as (λ v. is_of_class k b ≡ v → list_all (is_of_class k) (cond v (b ∷ run_of_class k bs) []) ≡ true) [
      | true ↦ λ e. rw e (run-AllOf k bs)
      | false ↦ λ e. refl
    ] refl

pub past-RunEnds : (k : Class) (bytes : List ℕ) → RunEnds k (bytes_past_run k bytes)
past-RunEnds k [] = refl
past-RunEnds k (b ∷ bs) =
    elim (is_of_class k b) as (λ v. is_of_class k b ≡ v → begins_with k (cond v (bytes_past_run k bs) (b ∷ bs)) ≡ false) [
      | true ↦ λ e. past-RunEnds k bs
      | false ↦ λ e. e
    ] refl

-- the first of a run passes, and so do the others
pub all_of_first : (k : Class) (b : ℕ) (bs : List ℕ) → AllOf k (b ∷ bs) → (is_of_class k b ≡ true) × AllOf k bs
all_of_first k b bs =
    elim (is_of_class k b) as (λ v. is_of_class k b ≡ v → (v && list_all (is_of_class k) bs) ≡ true → (is_of_class k b ≡ true) × AllOf k bs) [
      | true ↦ λ e h. (e, h)
      | false ↦ λ e h. cc
    ] refl

-- what follows a run is no part of it
pub run-append : (k : Class) (bytes after : List ℕ) → AllOf k bytes → RunEnds k after → run_of_class k (bytes ++ after) ≡ bytes
run-append k [] [] h stops = refl
run-append k [] (c ∷ cs) h stops = rw stops refl
run-append k (b ∷ bs) after h stops =
    let first = all_of_first k b bs h in
    rw first.0 (ap (λ xs. b ∷ xs) (run-append k bs after first.1 stops))

pub past-append : (k : Class) (bytes after : List ℕ) → AllOf k bytes → RunEnds k after → bytes_past_run k (bytes ++ after) ≡ after
past-append k [] [] h stops = refl
past-append k [] (c ∷ cs) h stops = rw stops refl
past-append k (b ∷ bs) after h stops =
    let first = all_of_first k b bs h in
    rw first.0 (past-append k bs after first.1 stops)
