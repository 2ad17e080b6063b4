-- What stands after several pieces were appended, one after another.
use Rattle.std.proofs.Common.{◌≡◌, ℕ, List, ◌++◌, length, take, drop, Result, Ok, Err, sym, ap, ◌∙◌, append_assoc}
use Rattle.std.specs.Prelude.{OnOk, OnErr}
use Rattle.std.proofs.lemmas.List.{take-append-drop}
use Rattle.std.proofs.lemmas.Result.{on_ok_weaker}
use Rattle.std.proofs.Math.Seq.{take-append_seam}
use Rattle.cbi_base.specs.Refusal.{BeginsAs}

-- what begins as more begins as less
begins-before : (before more mid now : List ℕ) → mid ≡ before ++ more → BeginsAs mid now → BeginsAs before now
begins-before before more mid now is begins =
    let rest : List ℕ = drop (length mid) now in
    let whole : now ≡ before ++ (more ++ rest) = sym (take-append-drop (length mid) now) ∙ ap (λ front. front ++ rest) (begins ∙ is) ∙ append_assoc before more rest in
    ap (take (length before)) whole ∙ take-append_seam before (more ++ rest)

-- three pieces, one after another
three : (o a s m o1 o2 o3 : List ℕ) → o1 ≡ o ++ a → o2 ≡ o1 ++ s → o3 ≡ o2 ++ m → o3 ≡ o ++ a ++ s ++ m
three o a s m o1 o2 o3 h1 h2 h3 = h3 ∙ ap (λ l. l ++ m) (h2 ∙ ap (λ l. l ++ s) h1)

pub begins-before-three : {E : Type 0} (r : Result Unit E) (o a s m o1 o2 o3 now : List ℕ)
    → o1 ≡ o ++ a → o2 ≡ o1 ++ s → o3 ≡ o2 ++ m → BeginsAs o3 now → OnErr r (BeginsAs o now)
begins-before-three (Ok _) o a s m o1 o2 o3 now h1 h2 h3 begins = tt
begins-before-three (Err _) o a s m o1 o2 o3 now h1 h2 h3 begins =
    begins-before o (a ++ s ++ m) o3 now (three o a s m o1 o2 o3 h1 h2 h3 ∙ simp append_assoc) begins

pub joined : {E : Type 0} (r : Result Unit E) (o a d s m t e o1 o2 o3 o4 now : List ℕ)
    → o1 ≡ o ++ (a ++ d) → o2 ≡ o1 ++ s → o3 ≡ o2 ++ m → o4 ≡ o3 ++ t
    → OnOk r (now ≡ o4 ++ e) → OnOk r (now ≡ o ++ (a ++ d ++ s ++ m ++ t ++ e))
joined r o a d s m t e o1 o2 o3 o4 now h1 h2 h3 h4 h =
    let all : o4 ≡ o ++ (a ++ d) ++ s ++ m ++ t = h4 ∙ ap (λ l. l ++ t) (three o (a ++ d) s m o1 o2 o3 h1 h2 h3) in
    on_ok_weaker r (λ (same : now ≡ o4 ++ e). same ∙ ap (λ l. l ++ e) all ∙ simp append_assoc) h
