-- Loops whose turns are steps.
use Rattle.std.proofs.Common.{◌≡◌, ◌<◌, List, [], ◌∷◌, ◌++◌, length, map, Some, None, Ok, Err, sym, ◌∙◌, subst}
use Rattle.c_parser_expressions.specs.declared.stop.Stop.{Stop}
use Rattle.c_parser_expressions.specs.declared.stop.Stop.TheVariants as stop
use Rattle.c_parser_expressions.specs.Reading.{Cursor, Read}
use Rattle.c_parser_expressions.specs.Steps.{Gives, Step, Advances}
use Rattle.c_parser_declarations.specs.Turns.{GivesStep}
use Rattle.c_parser_expressions.proofs.Many.{Front, front_next, front_done, front_failed, front_push}

pub same_push : {A : Type 0} (step : Cursor → Step A) (whole : Read (List A)) (c to : Cursor) (vs ws : List A) (v : A) → Advances step → Front step whole c vs
    → step c ≡ Some (Ok (v, to)) → ws ≡ vs ++ v ∷ [] → Front step whole to ws
same_push {A} step whole c to vs ws v adv inv h pushed = subst (λ (xs : List A). Front step whole to xs) (sym pushed) (front_next step whole c to vs v adv inv h)

pub same_done : {A : Type 0} (step : Cursor → Step A) (whole : Read (List A)) (c to : Cursor) (vs : List A) → Front step whole c vs → (step c ≡ None) × (to ≡ c)
    → whole ≡ Ok (vs, to)
same_done {A} step whole c to vs inv h = subst (λ (d : Cursor). whole ≡ Ok (vs, d)) (sym h.1) (front_done step whole c vs inv h.0)

-- a part more
pub turn_push : {A V : Type 0} (view : V → A) (step : Cursor → Step A) (whole : Read (List A)) (c to : Cursor) (vs ws : List V) (v : V) → Advances step
    → Front step whole c (map view vs)
    → GivesStep view (Ok (Some v)) c to (step c) → ws ≡ vs ++ v ∷ [] → Front step whole to (map view ws)
turn_push view step whole c to vs ws v adv inv h pushed = front_push view step whole c to vs ws v adv inv h pushed

pub turn_less : {A V : Type 0} (view : V → A) (step : Cursor → Step A) (c to : Cursor) (v : V) → Advances step → GivesStep view (Ok (Some v)) c to (step c)
    → length to.rest < length c.rest
turn_less view step c to v adv h = adv.less c (view v) to h

-- no part more
pub turn_done : {A V : Type 0} (view : V → A) (step : Cursor → Step A) (whole : Read (List A)) (c to : Cursor) (vs : List V)
    → Front step whole c (map view vs) → GivesStep view (Ok None) c to (step c) → whole ≡ Ok (map view vs, to)
turn_done {A} view step whole c to vs inv h =
    subst (λ (d : Cursor). whole ≡ Ok (map view vs, d)) (sym h.1) (front_done step whole c (map view vs) inv h.0)

-- a refusal
pub turn_err : {A U V : Type 0} (outer : U → List A) (view : V → A) (step : Cursor
    → Step A) (whole : Read (List A)) (c later end : Cursor) (xs : List A) (w : Stop) → Front step whole c xs → GivesStep view (Err w) c later (step c)
    → Gives outer (Err w) end whole
turn_err outer view step whole c later end xs (stop.Refused i) inv h = front_failed step whole c xs i inv h
turn_err outer view step whole c later end xs stop.Memory inv h = tt
