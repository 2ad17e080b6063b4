-- How one part of the walk comes after another.
use Rattle.std.proofs.Common.{◌≡◌, ℕ, ◌≤◌, ◌<◌, refl, ◌∙◌, arith, Some, Ok, Bool, true, false}
use Rattle.std.specs.Prelude.{if◌then◌else◌}
use Rattle.c_types_expressions.proofs.Giving.{Gives as GivesIn}
use Rattle.c_types_expressions.proofs.Given.{Gives, and_then, looks, weaker}
use Rattle.c_types.proofs.Replaced.{noted_same}
use Rattle.base_lists.proofs.Lists.{Stays}
use Rattle.c_types_rules.specs.declared.fault.FaultKind.{FaultKind}
use Rattle.c_types_rules.specs.declared.operand.Operand.{Operand}
use Rattle.c_types_rules.specs.Faults.{OperandOrFault}
use Rattle.c_types_expressions.specs.declared.walk.Walk.{Walk}
use Rattle.c_types.specs.Answers.{note_at}
use Rattle.c_types_expressions.specs.Words.{operand_noted, Walked, Fine, Faulty, ◌>>=◌, with_type}
use Rattle.c_types_laws.proofs.Scenes.{scene}
use Rattle.c_types_laws.proofs.Steps.{Part, Ready, mark, marked, nothing_noted, ready_after, rightwards, so}
use Rattle.c_types_laws.proofs.Steps.{sound_later, type_marks, wider}

-- where nothing is declared and no scope ends, names mean the same
abbrev pub Still : Bool → Walk → Walk → Type 0
Still true w v = scene v ≡ scene w
Still false w v = Unit {0}

still_by : (still : Bool) (w v : Walk) → scene v ≡ scene w → Still still w v
still_by true w v h = h
still_by false w v h = tt

still_then : (still : Bool) (w u v : Walk) → Still still w u → Still still u v → Still still w v
still_then true w u v h k = k ∙ h
still_then false w u v h k = tt

module _ (z : Walk) (still : Bool) where
  -- a part of the walk, and what holds of its value
  pub record Leads {A : Type 0} (lo hi : ℕ) (w : Walk) (P : A → Type 0) (a : A) (v : Walk) : Type 0 where
    pub part : Part z lo hi w v (P a)
    pub kept : Still still w v

module _ {z : Walk} {still : Bool} where
  pub widely : {A : Type 0} {m : Walked A} {P : A → Type 0} {lo hi : ℕ} {w : Walk} (l h : ℕ) → Gives m (Leads z still lo hi w P) → l ≤ lo → hi ≤ h
      → Gives m (Leads z still l h w P)
  widely l h g low high = weaker g (λ a v k. record { part = wider l h k.part low high; kept = k.kept })

  pub leads_so : {A : Type 0} {m : Walked A} {P Q : A → Type 0} {lo hi : ℕ} {w : Walk} → Gives m (Leads z still lo hi w P) → ((a : A) → P a → Q a)
      → Gives m (Leads z still lo hi w Q)
  leads_so g f = weaker g (λ a v k. record { part = so k.part (f a); kept = k.kept })

  -- an expression among statements
  pub at_large : {A : Type 0} {m : Walked A} {P : A → Type 0} {lo hi : ℕ} {w : Walk} → Gives m (Leads z still lo hi w P) → Gives m (Leads z false lo hi w P)
  at_large g = weaker g (λ a v k. record { part = k.part; kept = tt })

  -- one part, and then another
  pub seq : {A B : Type 0} {m : Walked A} {k : A → Walk → Walked B} {P : A → Type 0} {Q : A → B → Type 0} {R : B → Type 0} {lo hi : ℕ} {w : Walk} (mid : ℕ)
      → Ready lo hi w → lo ≤ mid → mid ≤ hi → Gives m (Leads z still lo mid w P)
      → ((a : A) (v : Walk) → Ready mid hi v → Gives (k a v) (Leads z still mid hi v (Q a)))
      → ((a : A) (b : B) → P a → Q a b → R b) → Gives (m >>= k) (Leads z still lo hi w R)
  seq {hi = hi} {w = w} mid r low high first next join = and_then first (λ a v g.
      weaker (next a v (ready_after r g.part mid hi (omega arith) (omega arith))) (λ b u h. record {
        part = so (rightwards g.part h.part low high) (λ c. join a b c.0 c.1);
        kept = still_then still w v u g.kept h.kept;
      }))

  -- what is noted at the token alone
  pub leaf : {R : Operand → Type 0} {lo hi : ℕ} {w : Walk} (token : ℕ) (rule : OperandOrFault) → Ready lo hi w → lo ≤ token → token < hi
      → ((d : Operand) → Stays w.structs z.structs → rule ≡ Ok d → note_at z.types token ≡ Some d.ctype → R d)
      → Gives (operand_noted token rule w) (Leads z still lo hi w R)
  leaf {lo = lo} {hi = hi} {w = w} token rule r low high f = looks token rule w (λ d h. record {
    part = wider lo hi (mark (sound_later low r.sound) (type_marks token d.ctype w)
        (λ g. f d g.later.structs h ((g.notes token (omega arith) (omega arith)).types ∙ noted_same w.types token d.ctype (omega (arith, r.types, high)))))
        low (omega (arith, high));
    kept = still_by still w (with_type token d.ctype w) refl;
  })

  -- a part, and then what is noted at a token before it
  pub look : {A : Type 0} {m : Walked A} {P : A → Type 0} {R : Operand → Type 0} {mid hi : ℕ} {w : Walk} (lo token : ℕ) (rule : A → Walk → OperandOrFault)
      → Ready lo hi w → lo ≤ token → token < mid → mid ≤ hi → Gives m (Leads z still mid hi w P)
      → ((a : A) (v : Walk) (d : Operand) → Stays v.structs z.structs → rule a v ≡ Ok d → P a → note_at z.types token ≡ Some d.ctype → R d)
      → Gives (m >>= λ a v. operand_noted token (rule a v) v) (Leads z still lo hi w R)
  look {mid = mid} {hi = hi} {w = w} lo token rule r low less high inner f = and_then inner (λ a v g.
      looks token (rule a v) v (λ d h. record {
        part = so (marked {Q = Stays v.structs z.structs × (note_at z.types token ≡ Some d.ctype)} lo g.part (type_marks token d.ctype v) low less high (λ c. (
          c.later.structs,
          (c.notes token low (omega (arith, less, high))).types ∙ noted_same v.types token d.ctype (omega (arith, r.types, g.part.types, less, high)),
        ))) (λ c. f a v d c.1.0 h c.0 c.1.1);
        kept = still_then still w v (with_type token d.ctype v) g.kept (still_by still v (with_type token d.ctype v) refl);
      }))

  -- two parts, and then what is noted at a token before them
  pub look_both : {A B : Type 0} {m : Walked A} {k : A → Walk → Walked B} {P : A → Type 0} {Q : A → B → Type 0} {R : Operand
      → Type 0} {from mid hi : ℕ} {w : Walk}
      (lo token : ℕ) (rule : A → B → Walk → OperandOrFault) → Ready lo hi w → lo ≤ token → token < from → from ≤ mid → mid ≤ hi → Gives m (Leads z still from mid w P)
      → ((a : A) (v : Walk) → Ready mid hi v → Gives (k a v) (Leads z still mid hi v (Q a)))
      → ((a : A) (b : B) (u : Walk) (d : Operand) → Stays u.structs z.structs → rule a b u ≡ Ok d → P a → Q a b → note_at z.types token ≡ Some d.ctype → R d)
      → Gives (m >>= λ a v. k a v >>= λ b u. operand_noted token (rule a b u) u) (Leads z still lo hi w R)
  look_both {mid = mid} {hi = hi} {w = w} lo token rule r low less step high first next f = and_then first (λ a v g.
      and_then (next a v (ready_after r g.part mid hi (omega arith) (omega arith))) (λ b u h.
      looks token (rule a b u) u (λ d i. record {
        part = so (marked {Q = Stays u.structs z.structs × (note_at z.types token ≡ Some d.ctype)} lo (rightwards g.part h.part step high)
            (type_marks token d.ctype u) low less
            (omega (arith, step, high)) (λ c. (
              c.later.structs,
              (c.notes token low (omega (arith, less, step, high))).types
                  ∙ noted_same u.types token d.ctype (omega (arith, r.types, g.part.types, h.part.types, less, step, high)),
            ))) (λ c. f a b u d c.1.0 i c.0.0 c.0.1 c.1.1);
        kept = still_then still w u (with_type token d.ctype u) (still_then still w v u g.kept h.kept) (still_by still u (with_type token d.ctype u) refl);
      })))

  -- a part that nothing follows
  pub nothing : {A : Type 0} {P : A → Type 0} {lo hi top : ℕ} {w : Walk} (a : A) → Ready lo top w → lo ≤ hi → P a → Gives (Fine a w) (Leads z still lo hi w P)
  nothing {lo = lo} {hi = hi} {w = w} a r h p = record { by = record { part = nothing_noted lo hi w h r.sound p; kept = still_by still w w refl } }

refused_in : {A : Type 0} (Q : A → Walk → Type 0) (b : Bool) (kind : FaultKind) (token : ℕ) (m : Walked A) → ((b ≡ false) → GivesIn Q m)
    → GivesIn Q (if b then Faulty kind token else m)
refused_in Q true kind token m h = tt
refused_in Q false kind token m h = h refl

-- what is refused, and else a part
pub refused : {A : Type 0} {Q : A → Walk → Type 0} (b : Bool) (kind : FaultKind) (token : ℕ) (m : Walked A) → ((b ≡ false) → Gives m Q)
    → Gives (if b then Faulty kind token else m) Q
refused {Q = Q} b kind token m h = record { by = refused_in Q b kind token m (λ e. (h e).by) }

allowed_in : {A : Type 0} (Q : A → Walk → Type 0) (b : Bool) (kind : FaultKind) (token : ℕ) (m : Walked A) → ((b ≡ true) → GivesIn Q m)
    → GivesIn Q (if b then m else Faulty kind token)
allowed_in Q true kind token m h = h refl
allowed_in Q false kind token m h = tt

pub allowed : {A : Type 0} {Q : A → Walk → Type 0} (b : Bool) (kind : FaultKind) (token : ℕ) (m : Walked A) → ((b ≡ true) → Gives m Q)
    → Gives (if b then m else Faulty kind token) Q
allowed {Q = Q} b kind token m h = record { by = allowed_in Q b kind token m (λ e. (h e).by) }

assoc_in : {A B C : Type 0} (Q : C → Walk → Type 0) (m : Walked A) (f : A → Walk → Walked B) (g : B → Walk → Walked C) → GivesIn Q ((m >>= f) >>= g)
    → GivesIn Q (m >>= λ a v. f a v >>= g)
assoc_in Q (Fine a v) f g h = h
assoc_in Q (Faulty kind token) f g h = h

-- first one part, and then two that belong together
pub onwards : {A B C : Type 0} {Q : C → Walk → Type 0} (m : Walked A) (f : A → Walk → Walked B) (g : B → Walk → Walked C) → Gives ((m >>= f) >>= g) Q
    → Gives (m >>= λ a v. f a v >>= g) Q
onwards {Q = Q} m f g h = record { by = assoc_in Q m f g h.by }

assoc_back : {A B C : Type 0} (Q : C → Walk → Type 0) (m : Walked A) (f : A → Walk → Walked B) (g : B → Walk → Walked C) → GivesIn Q (m >>= λ a v. f a v >>= g)
    → GivesIn Q ((m >>= f) >>= g)
assoc_back Q (Fine a v) f g h = h
assoc_back Q (Faulty kind token) f g h = h

pub together : {A B C : Type 0} {Q : C → Walk → Type 0} (m : Walked A) (f : A → Walk → Walked B) (g : B → Walk → Walked C) → Gives (m >>= λ a v. f a v >>= g) Q
    → Gives ((m >>= f) >>= g) Q
together {Q = Q} m f g h = record { by = assoc_back Q m f g h.by }

either_in : {A : Type 0} (Q : A → Walk → Type 0) (b : Bool) (m n : Walked A) → GivesIn Q m → GivesIn Q n → GivesIn Q (if b then m else n)
either_in Q true m n h k = h
either_in Q false m n h k = k

pub either : {A : Type 0} {Q : A → Walk → Type 0} (b : Bool) (m n : Walked A) → Gives m Q → Gives n Q → Gives (if b then m else n) Q
either {Q = Q} b m n h k = record { by = either_in Q b m n h.by k.by }

anything_in : {A : Type 0} (m : Walked A) → GivesIn (λ a v. Unit {0}) m
anything_in (Fine a v) = tt
anything_in (Faulty kind token) = tt

pub anything : {A : Type 0} (m : Walked A) → Gives m (λ a v. Unit {0})
anything m = record { by = anything_in m }
