-- Parts of a run that come to no trap Internal, and do the same with sites as without, but for what was seen: how they are put together.
use Rattle.std.proofs.Common.{◌≡◌, ℕ, zero, suc, refl, ap, ◌∙◌, Ok, Err, Bool, true, false}
use Rattle.std.specs.Prelude.{Result, [], if◌then◌else◌}
use Rattle.std.proofs.lemmas.Bool.{false≢true}
use Rattle.cbi_base.specs.declared.outcome.Outcome.{Outcome}
use Rattle.cbi_base.specs.declared.outcome.Outcome.TheVariants.{Trapped}
use Rattle.cbi_base.specs.declared.trap.Trap.{Trap}
use Rattle.cbi_base.specs.declared.trap.Trap.TheVariants as trap
use Rattle.cbi_base.specs.Objects.{◌>>=◌}
use Rattle.c_meaning.specs.World.{World, Out, Go, Stop, bind, answer_or_trap, chosen_part, value_discarded, one_turn_spent}

-- any trap but Internal
abbrev pub IsPlain : Trap → Type 0
IsPlain trap.Internal = ⊥
IsPlain other = Unit {0}

abbrev pub IsPlainEnd : Outcome → Type 0
IsPlainEnd (Trapped t) = IsPlain t
IsPlainEnd other = Unit {0}

-- a result of which this holds, or a trap but Internal
abbrev pub Calm : {A : Type 0} → (A → Type 0) → Result A Trap → Type 0
Calm P (Ok x) = P x
Calm P (Err t) = IsPlain t

abbrev pub Ending : {A : Type 0} → (A → Type 0) → Out A → Type 0
Ending P (Go x w) = P x
Ending P (Stop o w) = IsPlainEnd o

-- a world of which nothing was seen
abbrev pub plain : World → World
plain w = record w { seen = [] }

abbrev pub unseen : {A : Type 0} → Out A → Out A
unseen (Go x w) = Go x (plain w)
unseen (Stop o w) = Stop o (plain w)

-- A part with sites, and the same without: the first comes to no trap Internal, of what it gives P holds, and but for what was seen the second
-- does the same.
pub record Safe {A : Type 0} (P : A → Type 0) (m m0 : World → Out A) : Type 0 where
  pub at : (w : World) → Ending P (m w)
  pub same : (w : World) → unseen (m w) ≡ m0 (plain w)

abbrev pub Any : {A : Type 0} → A → Type 0
Any x = Unit {0}

ends_bind : {A B : Type 0} (P : A → Type 0) (Q : B → Type 0) (m : Out A) (f f0 : A → World → Out B) → Ending P m → ((x : A) → P x → Safe Q (f x) (f0 x))
    → Ending Q (bind m f)
ends_bind P Q (Go x w) f f0 h k = (k x h).at w
ends_bind P Q (Stop o w) f f0 h k = h

same_bind : {A B : Type 0} (P : A → Type 0) (Q : B → Type 0) (m : Out A) (f f0 : A → World → Out B) → Ending P m → ((x : A) → P x → Safe Q (f x) (f0 x))
    → unseen (bind m f) ≡ bind (unseen m) f0
same_bind P Q (Go x w) f f0 h k = (k x h).same w
same_bind P Q (Stop o w) f f0 h k = refl

-- one part, and then another one
pub seq : {A B : Type 0} {P : A → Type 0} {Q : B → Type 0} {m m0 : World → Out A} {f f0 : A → World → Out B}
    → Safe P m m0 → ((x : A) → P x → Safe Q (f x) (f0 x)) → Safe Q (λ w. bind (m w) f) (λ w. bind (m0 w) f0)
seq {P = P} {Q = Q} {m = m} {f = f} {f0 = f0} h k = record {
  at = λ w. ends_bind P Q (m w) f f0 (h.at w) k;
  same = λ w. same_bind P Q (m w) f f0 (h.at w) k ∙ ap (λ o. bind o f0) (h.same w);
}

ends_answered : {A : Type 0} (P : A → Type 0) (r : Result A Trap) (w : World) → Calm P r → Ending P (answer_or_trap r w)
ends_answered P (Ok x) w h = h
ends_answered P (Err t) w h = h

same_answered : {A : Type 0} (r : Result A Trap) (w : World) → unseen (answer_or_trap r w) ≡ answer_or_trap r (plain w)
same_answered (Ok x) w = refl
same_answered (Err t) w = refl

-- the answer of an operation on what no site sees
pub answers : {A : Type 0} {P : A → Type 0} (r : World → Result A Trap) → ((w : World) → r w ≡ r (plain w)) → ((w : World) → Calm P (r w))
    → Safe P (λ w. answer_or_trap (r w) w) (λ w. answer_or_trap (r w) w)
answers {P = P} r e h = record {
  at = λ w. ends_answered P (r w) w (h w);
  same = λ w. same_answered (r w) w ∙ ap (λ q. answer_or_trap q (plain w)) (e w);
}

pub gives : {A : Type 0} {P : A → Type 0} (x : A) → P x → Safe P (λ w. Go x w) (λ w. Go x w)
gives x h = record { at = λ w. h; same = λ w. refl }

-- a part that ends the run
pub stops : {A : Type 0} {P : A → Type 0} (o : Outcome) → IsPlainEnd o → Safe P (λ w. Stop o w) (λ w. Stop o w)
stops o h = record { at = λ w. h; same = λ w. refl }

pub chosen : {A : Type 0} {P : A → Type 0} {f f0 g g0 : World → Out A} (b : Bool) → Safe P f f0 → Safe P g g0 → Safe P (chosen_part b f g) (chosen_part b f0 g0)
chosen true h k = h
chosen false h k = k

pub chosen_true : {A : Type 0} {P : A → Type 0} {f f0 : World → Out A} (g g0 : World → Out A) (b : Bool) → b ≡ true → Safe P f f0
    → Safe P (chosen_part b f g) (chosen_part b f0 g0)
chosen_true g g0 true e h = h
chosen_true g g0 false e h = absurd (false≢true e)

ends_map : {A : Type 0} (P Q : A → Type 0) (m : Out A) → ((x : A) → P x → Q x) → Ending P m → Ending Q m
ends_map P Q (Go x w) f h = f x h
ends_map P Q (Stop o w) f h = h

pub weaker : {A : Type 0} {P Q : A → Type 0} {m m0 : World → Out A} → ((x : A) → P x → Q x) → Safe P m m0 → Safe Q m m0
weaker {P = P} {Q = Q} {m = m} f h = record { at = λ w. ends_map P Q (m w) f (h.at w); same = h.same }

pub done_safe : {A : Type 0} {P : A → Type 0} {m m0 : World → Out A} → Safe P m m0 → Safe Any (λ w. value_discarded (m w)) (λ w. value_discarded (m0 w))
done_safe h = seq h (λ x p. gives tt tt)

-- results
pub calm_bind : {A B : Type 0} (P : A → Type 0) (Q : B → Type 0) (r : Result A Trap) (f : A → Result B Trap) → Calm P r → ((x : A) → P x → Calm Q (f x))
    → Calm Q (r >>= f)
calm_bind P Q (Ok x) f h k = k x h
calm_bind P Q (Err t) f h k = h

pub calm_if : {A : Type 0} (P : A → Type 0) (b : Bool) (x y : Result A Trap) → Calm P x → Calm P y → Calm P (if b then x else y)
calm_if P true x y h k = h
calm_if P false x y h k = k

pub calm_map : {A : Type 0} (P Q : A → Type 0) (r : Result A Trap) → ((x : A) → P x → Q x) → Calm P r → Calm Q r
calm_map P Q (Ok x) f h = f x h
calm_map P Q (Err t) f h = h

spent : {A : Type 0} (P : A → Type 0) (turns : ℕ) (u : World) (go go0 : World → Out A) → Safe P go go0
    → Ending P (one_turn_spent turns u go) × (unseen (one_turn_spent turns u go) ≡ one_turn_spent turns (plain u) go0)
spent P zero u go go0 h = (tt, refl)
spent P (suc turns) u go go0 h = (h.at (record u { turns = turns }), h.same (record u { turns = turns }))

-- a part behind a turn that is spent
pub spends : {A : Type 0} {P : A → Type 0} (go go0 : World → Out A) → Safe P go go0 → Safe P (λ w. one_turn_spent w.turns w go) (λ w. one_turn_spent w.turns w go0)
spends {P = P} go go0 h = record { at = λ w. (spent P w.turns w go go0 h).0; same = λ w. (spent P w.turns w go go0 h).1 }
