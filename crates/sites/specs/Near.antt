-- The variables that are looked at for the pairs of a body: those whose scope may hold one of its tokens.
use Rattle.std.specs.Prelude.{◌≡◌, ℕ, suc, nat_le, Bool, false, ◌&&◌, ◌||◌, if◌then◌else◌, List, [], ◌∷◌, ◌++◌, drop, filter, Option, Some, None, slice_get}
use Rattle.std.specs.List.{range_with_len}
use Rattle.std.specs.Str.{bytes_eq}
use Rattle.c_types_rules.specs.TypeTree.{TypeTree}
use Rattle.c_types_expressions.specs.declared.walk.VariableEntry.{VariableEntry}
use Rattle.c_types_expressions.specs.declared.walk.Walk.{Walk}
use Rattle.c_types.specs.Answers.{scope_holds}
use Rattle.flow.specs.declared.site.Partner.{Partner}
use Rattle.flow.specs.declared.site.Partner.TheVariants as partner
use Rattle.sites.specs.Visible.{is_clear, is_hidden, is_partner, least_token, slot_of, variable_partners}

-- whether the variable's scope begins behind this token or a later one
abbrev pub begins_from : ℕ → Option VariableEntry → Bool
begins_from token None = false
begins_from token (Some v) = nat_le token v.from

-- whether the scope of the variable at the place isn't over at the token: it is still to begin, or holds the token
abbrev pub has_scope_left : Walk → ℕ → ℕ → Bool
has_scope_left w token place = begins_from token (slice_get w.variables place) || scope_holds w place token

-- of the first `count` places those of variables whose scope isn't over at the token
abbrev pub places_with_scope_left : Walk → ℕ → ℕ → List ℕ
places_with_scope_left w token count = filter (has_scope_left w token) (range_with_len 0 count)

-- the least token behind which the scope of one of these variables begins
abbrev pub first_from : List VariableEntry → Option ℕ
first_from [] = None
first_from (v ∷ later) = Some (least_token v.from (first_from later))

-- for each of these variables that token for it and those behind it
abbrev pub all_firsts : List VariableEntry → List ℕ
all_firsts [] = []
all_firsts (v ∷ later) = least_token v.from (first_from later) ∷ all_firsts later

-- whether what is noted of a variable's name tells that no scope of a later one with the name begins before the token
abbrev pub clear_by : ℕ → Option (Option ℕ) → Bool
clear_by token None = false
clear_by token (Some again) = is_clear token again

abbrev pub is_variable_named : List ℕ → Option VariableEntry → Bool
is_variable_named name None = false
is_variable_named name (Some v) = bytes_eq v.name name

-- whether the variable at one of these places has the name, and its scope holds the token
abbrev pub hidden_among : Walk → ℕ → List ℕ → List ℕ → Bool
hidden_among w token name [] = false
hidden_among w token name (place ∷ later) =
    (is_variable_named name (slice_get w.variables place) && scope_holds w place token) || hidden_among w token name later

-- the variable at the place, if a new value of the one at the place `target` is compared with it
abbrev pub partner_at : Walk → ℕ → ℕ → TypeTree → ℕ → Option VariableEntry → List Partner
partner_at w token target t place None = []
partner_at w token target t place (Some v) =
    if is_partner w token target t place v (drop (suc place) w.variables) then partner.Variable v.name (slot_of v.variable) ∷ [] else []

-- those at these places, in their order
abbrev pub partners_among : Walk → ℕ → ℕ → TypeTree → List ℕ → List Partner
partners_among w token target t [] = []
partners_among w token target t (place ∷ later) =
    partner_at w token target t place (slice_get w.variables place) ++ partners_among w token target t later

-- A look at these places tells whether a name is hidden as a look at all places behind this one does.
pub record TellsBehind (w : Walk) (token place : ℕ) (later : List ℕ) : Type 0 where
  pub hidden : (name : List ℕ) → hidden_among w token name later ≡ is_hidden w token name (suc place) (drop (suc place) w.variables)

-- of each of these places those behind it do
abbrev pub TellEach : Walk → ℕ → List ℕ → Type 0
TellEach w token [] = Unit {0}
TellEach w token (place ∷ later) = TellsBehind w token place later × TellEach w token later

-- At the token these places tell what all tell.
pub record AreEnough (w : Walk) (places : List ℕ) (token : ℕ) : Type 0 where
  pub each : TellEach w token places
  pub partners : (target : ℕ) (t : TypeTree) → partners_among w token target t places ≡ variable_partners w token target t 0 w.variables
