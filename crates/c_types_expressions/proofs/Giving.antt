-- Where the walk goes on: what holds of its value, and of what is known after it.
use Rattle.c_types_expressions.specs.declared.walk.Walk.{Walk}
use Rattle.c_types_expressions.specs.Walked.{Walked, Fine, Faulty, ◌>>=◌}

-- where the walk goes on, its value and what is known after it are as wanted
abbrev pub Gives : {A : Type 0} → (A → Walk → Type 0) → Walked A → Type 0
Gives P (Fine x v) = P x v
Gives P (Faulty kind token) = Unit {0}

pub gives_then : {A B : Type 0} (P : A → Walk → Type 0) (Q : B → Walk → Type 0) (r : Walked A) (next : A → Walk → Walked B) → Gives P r →
    ((x : A) (v : Walk) → P x v → Gives Q (next x v)) → Gives Q (r >>= next)
gives_then P Q (Fine x v) next h k = k x v h
gives_then P Q (Faulty kind token) next h k = tt

pub gives_more : {A : Type 0} (P Q : A → Walk → Type 0) (r : Walked A) → ((x : A) (v : Walk) → P x v → Q x v) → Gives P r → Gives Q r
gives_more P Q (Fine x v) k h = k x v h
gives_more P Q (Faulty kind token) k h = tt
