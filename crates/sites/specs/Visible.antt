-- The variables that are visible at a token, and those of them that a new value is compared with.
use Rattle.std.specs.Prelude.{ℕ, suc, nat_lt, nat_le, Bool, true, false, not, ◌&&◌, ◌||◌, ◌==◌, if◌then◌else◌, List, [], ◌∷◌, Option, Some, None}
use Rattle.std.specs.Str.{bytes_eq}
use Rattle.c_types_rules.specs.TypeTree.{TypeTree, same_type}
use Rattle.c_types_expressions.specs.declared.walk.Variable.{Variable}
use Rattle.c_types_expressions.specs.declared.walk.Variable.TheVariants as variable
use Rattle.c_types_expressions.specs.declared.walk.VariableEntry.{VariableEntry}
use Rattle.c_types_expressions.specs.declared.walk.Walk.{Walk}
use Rattle.c_types.specs.Answers.{declared_at, scope_holds}
use Rattle.flow.specs.declared.site.Partner.{Partner}
use Rattle.flow.specs.declared.site.Partner.TheVariants as partner
use Rattle.flow.specs.declared.site.Slot.{Slot}
use Rattle.flow.specs.declared.site.Slot.TheVariants as slot

abbrev pub slot_of : Variable → Slot
slot_of (variable.Global index) = slot.Global index
slot_of (variable.Local index) = slot.Local index

-- whether one of these variables, the first of which has this place among all, has the name, and the token in its scope
abbrev pub is_hidden : Walk → ℕ → List ℕ → ℕ → List VariableEntry → Bool
is_hidden w token name place [] = false
is_hidden w token name place (v ∷ later) = (bytes_eq v.name name && scope_holds w place token) || is_hidden w token name (suc place) later

-- the least of the tokens, of which one may be left out
abbrev pub least_token : ℕ → Option ℕ → ℕ
least_token token None = token
least_token token (Some other) = if nat_lt other token then other else token

-- the least token behind which the scope of one of these variables with the name begins, if one has it
abbrev pub declared_again : List ℕ → List VariableEntry → Option ℕ
declared_again name [] = None
declared_again name (v ∷ later) = if bytes_eq v.name name then Some (least_token v.from (declared_again name later)) else declared_again name later

-- for each of these variables that token for its name and the variables behind it
abbrev pub all_again : List VariableEntry → List (Option ℕ)
all_again [] = []
all_again (v ∷ later) = declared_again v.name later ∷ all_again later

-- whether no such scope begins before the token
abbrev pub is_clear : ℕ → Option ℕ → Bool
is_clear token None = true
is_clear token (Some first) = nat_le token first

-- A variable is visible where its scope holds the token and none that is declared later hides its name (C99 6.2.1p4).
abbrev pub is_visible : Walk → ℕ → ℕ → VariableEntry → List VariableEntry → Bool
is_visible w token place v later = scope_holds w place token && not (is_hidden w token v.name (suc place) later)

abbrev pub is_type : TypeTree → Option TypeTree → Bool
is_type t None = false
is_type t (Some other) = same_type other t

-- a visible variable of the type, other than the one at the place `target`
abbrev pub is_partner : Walk → ℕ → ℕ → TypeTree → ℕ → VariableEntry → List VariableEntry → Bool
is_partner w token target t place v later = not (place == target) && is_type t (declared_at w v.from) && is_visible w token place v later

-- Those of these variables, the first of which has this place among all, with which a new value of the variable at the place `target` is
-- compared, in order of declaration.
abbrev pub variable_partners : Walk → ℕ → ℕ → TypeTree → ℕ → List VariableEntry → List Partner
variable_partners w token target t place [] = []
variable_partners w token target t place (v ∷ later) =
    if is_partner w token target t place v later
    then partner.Variable v.name (slot_of v.variable) ∷ variable_partners w token target t (suc place) later
    else variable_partners w token target t (suc place) later
