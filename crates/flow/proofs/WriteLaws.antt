-- What is written in parts is written as a whole.
use Rattle.std.proofs.Common.{◌≡◌, ℕ, ◌+◌, ◌-◌, ◌≤◌, ◌<◌, ◌⊎◌, inl, inr, List, ◌++◌, length, take, Bool, true, false, cond, nat_le, refl, sym, ap, ◌∙◌, arith, append_assoc, length-append}
use Rattle.std.proofs.lemmas.List.{take-append-le}
use Rattle.std.proofs.Math.Seq.{take-append-add}
use Rattle.std.proofs.lemmas.Bool.Decides.{nat_tests}
use Rattle.cbi_base.specs.Limits.{output_limit}
use Rattle.cbi_base.specs.declared.outcome.Outcome.TheVariants.{CutOutput}
use Rattle.flow.specs.Now.{Now, Effect, Stops, write_bytes_then}

-- the bytes have room, or they have none
there_is : (bytes : List ℕ) (d : Now) (k : Now → Effect) → length d.output + length bytes ≤ output_limit → write_bytes_then bytes d k ≡ k (record d { output = d.output ++ bytes })
there_is bytes d k h =
    let t : nat_le (length d.output + length bytes) output_limit ≡ true = grind (arith, nat_tests) in
    ap (λ (b : Bool). cond b (k (record d { output = d.output ++ bytes })) (Stops CutOutput (d.output ++ take (output_limit - length d.output) bytes))) t

there_is_none : (bytes : List ℕ) (d : Now) (k : Now → Effect) → output_limit < length d.output + length bytes →
    write_bytes_then bytes d k ≡ Stops CutOutput (d.output ++ take (output_limit - length d.output) bytes)
there_is_none bytes d k h =
    let t : nat_le (length d.output + length bytes) output_limit ≡ false = grind (arith, nat_tests) in
    ap (λ (b : Bool). cond b (k (record d { output = d.output ++ bytes })) (Stops CutOutput (d.output ++ take (output_limit - length d.output) bytes))) t

split_by : (a b : ℕ) (t : Bool) → nat_le a b ≡ t → (a ≤ b) ⊎ (b < a)
split_by a b true e = inl (grind (arith, nat_tests))
split_by a b false e = inr (grind (arith, nat_tests))

split : (a b : ℕ) → (a ≤ b) ⊎ (b < a)
split a b = split_by a b (nat_le a b) refl

all_fit : (first second : List ℕ) (d : Now) (k : Now → Effect) → length d.output + length (first ++ second) ≤ output_limit →
    write_bytes_then (first ++ second) d k ≡ write_bytes_then first d (λ e. write_bytes_then second e k)
all_fit first second d k h =
    let n = length-append first second in
    let m = length-append d.output first in
    there_is (first ++ second) d k h
    ∙ ap (λ (xs : List ℕ). k (record d { output = xs })) (sym (append_assoc d.output first second))
    ∙ sym (there_is second (record d { output = d.output ++ first }) k (omega (arith, n, m, h)))
    ∙ sym (there_is first d (λ e. write_bytes_then second e k) (omega (arith, n, h)))

first_fit : (first second : List ℕ) (d : Now) (k : Now → Effect) → output_limit < length d.output + length (first ++ second) →
    length d.output + length first ≤ output_limit → write_bytes_then (first ++ second) d k ≡ write_bytes_then first d (λ e. write_bytes_then second e k)
first_fit first second d k over h =
    let n = length-append first second in
    let m = length-append d.output first in
    let room : output_limit - length d.output ≡ length first + (output_limit - length (d.output ++ first)) = omega (arith, m, h) in
    there_is_none (first ++ second) d k over
    ∙ ap (λ (i : ℕ). Stops CutOutput (d.output ++ take i (first ++ second))) room
    ∙ ap (λ (xs : List ℕ). Stops CutOutput (d.output ++ xs)) (take-append-add first second (output_limit - length (d.output ++ first)))
    ∙ ap (Stops CutOutput) (sym (append_assoc d.output first (take (output_limit - length (d.output ++ first)) second)))
    ∙ sym (there_is_none second (record d { output = d.output ++ first }) k (omega (arith, n, m, over)))
    ∙ sym (there_is first d (λ e. write_bytes_then second e k) h)

none_fit : (first second : List ℕ) (d : Now) (k : Now → Effect) → output_limit < length d.output + length first →
    write_bytes_then (first ++ second) d k ≡ write_bytes_then first d (λ e. write_bytes_then second e k)
none_fit first second d k h =
    let n = length-append first second in
    there_is_none (first ++ second) d k (omega (arith, n, h))
    ∙ ap (λ (xs : List ℕ). Stops CutOutput (d.output ++ xs)) (take-append-le (output_limit - length d.output) first second (omega (arith, h)))
    ∙ sym (there_is_none first d (λ e. write_bytes_then second e k) h)

-- by where the room ends
pub joins : (first second : List ℕ) (d : Now) (k : Now → Effect) → write_bytes_then (first ++ second) d k ≡ write_bytes_then first d (λ e. write_bytes_then second e k)
joins first second d k = elim (split (length d.output + length (first ++ second)) output_limit) [
  | inl h ↦ all_fit first second d k h
  | inr over ↦ elim (split (length d.output + length first) output_limit) [
    | inl h ↦ first_fit first second d k over h
    | inr h ↦ none_fit first second d k h
  ]
]
