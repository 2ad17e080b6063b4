-- How one part of a run follows another one.
use Rattle.std.proofs.Common.{◌≡◌, refl, subst}
use Rattle.c_meaning.specs.World.{World, Out, Go, Stop, bind}

-- a part that goes on with what it has
pub bind_go : {A : Type 0} (out : Out A) → bind out (λ x. Go x) ≡ out
bind_go (Go x w) = refl
bind_go (Stop outcome w) = refl

-- what each step goes on to can be done behind them all
pub bind_behind : {A B C : Type 0} (out : Out A) (f : A → World → Out B) (g : A → World → Out C) (last : B → World → Out C)
    → ((x : A) (w : World) → g x w ≡ bind (f x w) last) → bind out g ≡ bind (bind out f) last
bind_behind (Go x w) f g last h = h x w
bind_behind (Stop outcome w) f g last h = refl

pub bind_alike : {A B : Type 0} (out : Out A) (f g : A → World → Out B) → ((x : A) (w : World) → f x w ≡ g x w) → bind out f ≡ bind out g
bind_alike (Go x w) f g h = h x w
bind_alike (Stop outcome w) f g h = refl

-- whatever a part goes on with, this holds of it
abbrev pub Ends : {A : Type 0} → (A → World → Type 0) → Out A → Type 0
Ends P (Go x w) = P x w
Ends P (Stop outcome w) = Unit {0}

pub ends_bind : {A B : Type 0} → (P : A → World → Type 0) (Q : B → World → Type 0) (out : Out A) (f : A → World → Out B) → Ends P out
    → ((x : A) (w : World) → P x w → Ends Q (f x w)) → Ends Q (bind out f)
ends_bind P Q (Go x w) f h next = next x w h
ends_bind P Q (Stop outcome w) f h next = tt

pub ends_go : {A : Type 0} → (P : A → World → Type 0) (out : Out A) (x : A) (u : World) → Ends P out → out ≡ Go x u → P x u
ends_go P out x u h same = subst (Ends P) same h

-- what a part is known to go on with
pub ends_known : {A : Type 0} → (P : A → World → Type 0) (out : Out A) → ((x : A) (u : World) → out ≡ Go x u → P x u) → Ends P out
ends_known P (Go x w) h = h x w refl
ends_known P (Stop outcome w) h = tt

pub anything : {A : Type 0} (out : Out A) → Ends (λ _ _. Unit {0}) out
anything (Go x w) = tt
anything (Stop outcome w) = tt
