-- What the loops over runs and sizes keep.
use Rattle.std.proofs.Common.{◌≡◌, ◌+◌, ◌-◌, ◌==◌, ℕ, suc, List, [], ◌∷◌, ◌++◌, Option, None, Some, ap, sym, ◌∙◌, refl, append_assoc}
use Rattle.std.specs.Option.{option_map}
use Rattle.cbi_base.specs.Words.{Lacks, number_of, greatest_u32}
use Rattle.program_lines.specs.Rows.{sizes_of}
use Rattle.program_lines.specs.CellRuns.{cut_at_colon}

pub cut-none : (bytes : List ℕ) → Lacks (λ b. b == 58) bytes → cut_at_colon bytes ≡ None
cut-none [] l = refl
cut-none (b ∷ bs) l = rw (l.0, cut-none bs l.1) refl

pub cut-some : (front rest : List ℕ) → Lacks (λ b. b == 58) front → cut_at_colon (front ++ 58 ∷ rest) ≡ Some (front, rest)
cut-some [] rest l = refl
cut-some (b ∷ bs) rest l = rw (l.0, cut-some bs rest l.1) refl

-- in front of what is left
abbrev pub with_front : {A : Type 0} → List A → Option (List A) → Option (List A)
with_front front rest = option_map (λ items. front ++ items) rest

with_front-twice : {A : Type 0} (front more : List A) (o : Option (List A)) → with_front front (option_map (λ items. more ++ items) o) ≡ with_front (front ++ more) o
with_front-twice front more None = refl
with_front-twice front more (Some xs) = ap Some (sym (append_assoc front more xs))

pub sizes-next : (count : ℕ) (front : List ℕ) (field : List ℕ) (fields : List (List ℕ)) (answer : Option (List ℕ)) (size : ℕ) →
    answer ≡ with_front front (sizes_of (suc count) (field ∷ fields)) → Some size ≡ number_of greatest_u32 field → answer ≡ with_front (front ++ size ∷ []) (sizes_of count fields)
sizes-next count front field fields answer size is reads =
    is ∙ ap (with_front front) (rw (sym reads) refl) ∙ with_front-twice front (size ∷ []) (sizes_of count fields)
