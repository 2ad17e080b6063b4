-- Parts for as long as one begins.
use Rattle.std.proofs.Common.{◌≡◌, ℕ, zero, suc, ◌+◌, ◌<◌, ◌≤◌, List, [], ◌∷◌, ◌++◌, length, map, Some, None, Ok, Err, refl, sym, ap, ◌∙◌}
use Rattle.std.proofs.Common.{subst, append_assoc, length-append, arith}
use Rattle.std.proofs.lemmas.List.{append-nil, map-append}
use Rattle.c_syntax.specs.Spelling.{Kinds}
use Rattle.c_parser_expressions.specs.declared.stop.Stop.{Stop}
use Rattle.c_parser_expressions.specs.declared.stop.Stop.TheVariants as stop
use Rattle.c_parser_expressions.specs.Reading.{Cursor, Rule, Found, Fails, Read, Outcome, sequence_rule}
use Rattle.c_parser_expressions.specs.Steps.{◌>>=◌, Gives, Step, with_front, parts_within_turns, parts_from_step, all_of, Advances}
use Rattle.c_parser_expressions.proofs.Laws.{Leads, leads-found, leads-fails, leads-trans, seq-leads, seq-fails, found-shorter}

-- more turns than tokens change nothing
enough : {A : Type 0} (step : Cursor → Step A) → Advances step → (n m : ℕ) (c : Cursor) → length c.rest < n → length c.rest < m
    → parts_within_turns n step c ≡ parts_within_turns m step c
unfolding parts_within_turns
enough step adv zero m c a b = absurd (omega arith)
enough step adv (suc n) zero c a b = absurd (omega arith)
enough {A} step adv (suc n) (suc m) c a b =
    let go : (r : Step A) → step c ≡ r → parts_from_step (parts_within_turns n step) c r ≡ parts_from_step (parts_within_turns m step) c r =
    λ r. elim r as (λ v. step c ≡ v → parts_from_step (parts_within_turns n step) c v ≡ parts_from_step (parts_within_turns m step) c v) [
      | None ↦ λ h. refl
      | Some q ↦ elim q as (λ w. step c ≡ Some w → parts_from_step (parts_within_turns n step) c (Some w) ≡ parts_from_step (parts_within_turns m step) c (Some w)) [
        | Err i ↦ λ h. refl
        | Ok p ↦ λ h. (let less : length p.1.rest < length c.rest = adv.less c p.0 p.1 h in ap (with_front (p.0 ∷ []))
            (enough step adv n m p.1 (omega arith) (omega arith)))
      ]
    ] in
    go (step c) refl

pub all_more : {A : Type 0} (step : Cursor → Step A) (c to : Cursor) (x : A) → Advances step → step c ≡ Some (Ok (x, to))
    → all_of step c ≡ with_front (x ∷ []) (all_of step to)
unfolding all_of parts_within_turns
all_more step c to x adv h =
    let less = adv.less c x to h in
    let one : length c.rest + 1 ≡ suc (length c.rest) = omega arith in
    ap (λ (n : ℕ). parts_within_turns n step c) one ∙ ap (parts_from_step (parts_within_turns (length c.rest) step) c) h ∙ ap (with_front (x ∷ []))
    (enough step adv (length c.rest) (length to.rest + 1) to (omega arith) (omega arith))

pub all_none : {A : Type 0} (step : Cursor → Step A) (c : Cursor) → step c ≡ None → all_of step c ≡ Ok ([], c)
unfolding all_of parts_within_turns
all_none step c h =
    let one : length c.rest + 1 ≡ suc (length c.rest) = omega arith in
    ap (λ (n : ℕ). parts_within_turns n step c) one ∙ ap (parts_from_step (parts_within_turns (length c.rest) step) c) h

pub all_err : {A : Type 0} (step : Cursor → Step A) (c : Cursor) (i : ℕ) → step c ≡ Some (Err i) → all_of step c ≡ Err i
unfolding all_of parts_within_turns
all_err step c i h =
    let one : length c.rest + 1 ≡ suc (length c.rest) = omega arith in
    ap (λ (n : ℕ). parts_within_turns n step c) one ∙ ap (parts_from_step (parts_within_turns (length c.rest) step) c) h

pub front_more : {A : Type 0} (xs : List A) (x : A) (r : Read (List A)) → with_front (xs ++ x ∷ []) r ≡ with_front xs (with_front (x ∷ []) r)
front_more {A} xs x (Ok p) = ap {B = Read (List A)} (λ (v : List A). Ok (v, p.1)) (append_assoc xs (x ∷ []) p.0)
front_more xs x (Err i) = refl

-- What a loop keeps: what it has read, before what is still to be read, is what it is to give.
pub record Front {A : Type 0} (step : Cursor → Step A) (whole : Read (List A)) (now : Cursor) (xs : List A) : Type 0 where
  pub all : with_front xs (all_of step now) ≡ whole

front-nil : {A : Type 0} (r : Read (List A)) → with_front [] r ≡ r
front-nil (Ok p) = refl
front-nil (Err i) = refl

pub front_start : {A : Type 0} (step : Cursor → Step A) (c : Cursor) → Front step (all_of step c) c []
front_start step c = record { all = front-nil (all_of step c) }

pub front_next : {A : Type 0} (step : Cursor → Step A) (whole : Read (List A)) (c to : Cursor) (xs : List A) (x : A) → Advances step → Front step whole c xs
    → step c ≡ Some (Ok (x, to)) → Front step whole to (xs ++ x ∷ [])
front_next step whole c to xs x adv inv h =
    record { all = front_more xs x (all_of step to) ∙ ap (with_front xs) (sym (all_more step c to x adv h)) ∙ inv.all }

pub front_done : {A : Type 0} (step : Cursor → Step A) (whole : Read (List A)) (c : Cursor) (xs : List A) → Front step whole c xs → step c ≡ None
    → whole ≡ Ok (xs, c)
front_done {A} step whole c xs inv h =
    sym inv.all ∙ ap (with_front xs) (all_none step c h) ∙ ap {B = Read (List A)} (λ (v : List A). Ok (v, c)) (append-nil xs)

pub front_failed : {A : Type 0} (step : Cursor → Step A) (whole : Read (List A)) (c : Cursor) (xs : List A) (i : ℕ) → Front step whole c xs
    → step c ≡ Some (Err i) → whole ≡ Err i
front_failed step whole c xs i inv h = sym inv.all ∙ ap (with_front xs) (all_err step c i h)

-- a refusal within a step is one of the whole
pub front_err : {A B U W : Type 0} (view : U → List A) (part : W → B) (step : Cursor
    → Step A) (whole : Read (List A)) (c later end : Cursor) (xs : List A) (w : Stop) (r : Read B) → Front step whole c xs
    → ((i : ℕ) → r ≡ Err i → step c ≡ Some (Err i)) → Gives part (Err w) later r → Gives view (Err w) end whole
front_err view part step whole c later end xs (stop.Refused i) r inv is h = front_failed step whole c xs i inv (is i h)
front_err view part step whole c later end xs stop.Memory r inv is h = tt

-- one more in the list that a loop fills
pub front_push : {A V : Type 0} (view : V → A) (step : Cursor → Step A) (whole : Read (List A)) (c to : Cursor) (vs ws : List V) (v : V) → Advances step
    → Front step whole c (map view vs)
    → step c ≡ Some (Ok (view v, to)) → ws ≡ vs ++ v ∷ [] → Front step whole to (map view ws)
front_push {A} view step whole c to vs ws v adv inv h pushed =
    subst (λ (xs : List A). Front step whole to xs) (sym (ap (map view) pushed ∙ map-append view vs (v ∷ [])))
    (front_next step whole c to (map view vs) (view v) adv inv h)

-- What a step does to a list of the rule: it ends the list, refuses, or leads on behind a token at least.
abbrev pub StepIs : {A L : Type 0} → Rule L → (A → L → L) → L → Cursor → Step A → Type 0
StepIs R add none c None = Found R c none c
StepIs R add none c (Some (Err i)) = Fails R c i
StepIs R add none c (Some (Ok p)) = Leads R R c p.1 (add p.0) × (length p.1.rest < length c.rest)

pub record Listing {A L : Type 0} (R : Rule L) (step : Cursor → Step A) (add : A → L → L) (none : L) : Type 0 where
  pub is : (c : Cursor) → StepIs R add none c (step c)

pub listing-advances : {A L : Type 0} (R : Rule L) (step : Cursor → Step A) (add : A → L → L) (none : L) → Listing R step add none → Advances step
listing-advances {A} R step add none list = record { less = λ c x to h. (subst (λ (s : Step A). StepIs R add none c s) h (list.is c)).1 }

-- parts before others
abbrev pub put : {A L : Type 0} → (A → L → L) → List A → L → L
put add [] more = more
put add (x ∷ xs) more = add x (put add xs more)

abbrev pub put_all : {A L : Type 0} → (A → L → L) → L → Read (List A) → Read L
put_all add none (Ok p) = Ok (put add p.0 none, p.1)
put_all add none (Err i) = Err i

pub put-front : {A L : Type 0} (R : Rule L) (c to : Cursor) (add : A → L → L) (none : L) (x : A) (r : Read (List A)) → Leads R R c to (add x)
    → Outcome R to (put_all add none r) → Outcome R c (put_all add none (with_front (x ∷ []) r))
put-front R c to add none x (Ok p) l o = leads-found R R c to p.1 (add x) (put add p.0 none) l o
put-front R c to add none x (Err i) l o = leads-fails R R c to (add x) i l o

many-parses : {A L : Type 0} (R : Rule L) (step : Cursor → Step A) (add : A → L → L) (none : L) → Listing R step add none → (n : ℕ) (c : Cursor)
    → length c.rest < n → Outcome R c (put_all add none (parts_within_turns n step c))
unfolding parts_within_turns
many-parses R step add none list zero c less = absurd (omega arith)
many-parses {A} R step add none list (suc n) c less =
    let go : (r : Step A) → StepIs R add none c r → Outcome R c (put_all add none (parts_from_step (parts_within_turns n step) c r)) =
    λ r. elim r as (λ v. StepIs R add none c v → Outcome R c (put_all add none (parts_from_step (parts_within_turns n step) c v))) [
      | None ↦ λ h. h
      | Some q ↦ elim q as (λ w. StepIs R add none c (Some w) → Outcome R c (put_all add none (parts_from_step (parts_within_turns n step) c (Some w)))) [
        | Err i ↦ λ h. h
        | Ok p ↦ λ h. (let fewer : length p.1.rest < length c.rest = h.1 in
            put-front R c p.1 add none p.0 (parts_within_turns n step p.1) h.0 (many-parses R step add none list n p.1 (omega arith)))
      ]
    ] in
    go (step c) (list.is c)

pub all-parses : {A L : Type 0} (R : Rule L) (step : Cursor → Step A) (add : A → L → L) (none : L) → Listing R step add none → (c : Cursor)
    → Outcome R c (put_all add none (all_of step c))
unfolding all_of
all-parses R step add none list c = many-parses R step add none list (length c.rest + 1) c (omega arith)

-- Reading a list whose first part begins here. What it is joined to need only be right for a list with a token.
list-some : {A L X : Type 0} (R : Rule X) (T : Rule L) (c mid to : Cursor) (join some : L → X) (add : A → L → L) (none : L) (tidy : List A
    → L) (x : A) (r : Read (List A))
    → Leads R T c mid join → ((l : L) → 1 ≤ length (T.spell l) → join l ≡ some l) → ((xs : List A) → put add xs none ≡ tidy xs)
    → Leads T T mid to (add x) → length to.rest < length mid.rest
    → Outcome T mid (put_all add none (with_front (x ∷ []) r)) → Outcome R c (with_front (x ∷ []) r >>= (λ p. Ok (some (tidy p.0), p.1)))
list-some {A} {L} {X} R T c mid to join some add none tidy x (Ok p) l joined tidied step less o =
    let rest = put add p.0 none in
    let whole : length mid.rest ≡ length step.front + length to.rest = ap length step.whole ∙ length-append step.front to.rest in
    let long : length (T.spell (add x rest)) ≡ length step.front + length (T.spell rest) =
    ap length (step.spelled rest) ∙ length-append step.front (T.spell rest) in
    let made : join (add x rest) ≡ some (tidy (x ∷ p.0)) = joined (add x rest) (omega arith) ∙ ap some (tidied (x ∷ p.0)) in
    subst (λ (v : X). Found R c v p.1) made (leads-found R T c mid p.1 join (add x rest) l o)
list-some R T c mid to join some add none tidy x (Err i) l joined tidied step less o = leads-fails R T c mid join i l o

pub list-parses : {A L X : Type 0} (R : Rule X) (T : Rule L) (step : Cursor → Step A) (c mid : Cursor) (join some : L → X) (add : A → L
    → L) (none : L) (tidy : List A → L) (r : Read A)
    → Listing T step add none → Leads R T c mid join → ((l : L) → 1 ≤ length (T.spell l) → join l ≡ some l) → ((xs : List A) → put add xs none ≡ tidy xs)
    → step mid ≡ Some r → Outcome R c (all_of step mid >>= (λ p. Ok (some (tidy p.0), p.1)))
list-parses {A} {L} {X} R T step c mid join some add none tidy (Ok p) list l joined tidied h =
    let more : all_of step mid ≡ with_front (p.0 ∷ []) (all_of step p.1) = all_more step mid p.1 p.0 (listing-advances T step add none list) h in
    let one : Leads T T mid p.1 (add p.0) × (length p.1.rest < length mid.rest) = subst (λ (s : Step A). StepIs T add none mid s) h (list.is mid) in
    subst (λ (r : Read (List A)). Outcome R c (r >>= (λ q. Ok (some (tidy q.0), q.1)))) (sym more)
    (list-some R T c mid p.1 join some add none tidy p.0 (all_of step p.1) l joined tidied one.0 one.1
    (subst (λ (r : Read (List A)). Outcome T mid (put_all add none r)) more (all-parses T step add none list mid)))
list-parses {A} {L} {X} R T step c mid join some add none tidy (Err i) list l joined tidied h =
    let failed : all_of step mid ≡ Err i = all_err step mid i h in
    subst (λ (r : Read (List A)). Outcome R c (r >>= (λ q. Ok (some (tidy q.0), q.1)))) (sym failed)
    (leads-fails R T c mid join i l (subst (λ (s : Step A). StepIs T add none mid s) h (list.is mid)))

-- where none begins
pub list-none : {A L X : Type 0} (R : Rule X) (T : Rule L) (step : Cursor → Step A) (c mid : Cursor) (join : L → X) (add : A → L → L) (none : L)
    → Listing T step add none → Leads R T c mid join → step mid ≡ None → Found R c (join none) mid
list-none {A} R T step c mid join add none list l h = leads-found R T c mid mid join none l (subst (λ (s : Step A). StepIs T add none mid s) h (list.is mid))

-- a step of one part, and then the list again
pub link-part : {A B L : Type 0} (R : Rule L) (P : Rule B) (c d : Cursor) (add : A → L → L) (none : L) (make : B → A) (r : Read B)
    → ((at : ℕ) (v : B) (y : L) (k : Kinds) → P.Is at v → R.Is (at + length (P.spell v)) y → R.Ends y k → P.Ends v (R.spell y ++ k))
    → Leads R (sequence_rule P (λ x. R)) c d (λ p. add (make p.0) p.1) → length d.rest < length c.rest → Outcome P d r
    → StepIs R add none c (Some (r >>= (λ p. Ok (make p.0, p.1))))
link-part R P c d add none make (Ok p) follows l less o = (
  leads-trans R (sequence_rule P (λ x. R)) R c d p.1 (λ q. add (make q.0) q.1) (λ y. (p.0, y)) l (seq-leads P (λ x. R) d p.1 p.0 follows o),
  (let le = found-shorter P d p.1 p.0 o in omega arith),
)
link-part R P c d add none make (Err i) follows l less o =
    leads-fails R (sequence_rule P (λ x. R)) c d (λ q. add (make q.0) q.1) i l (seq-fails P (λ x. R) d i follows o)
