-- The variables that a new value is compared with, by the scopes that the tree says (C99 6.2.1p4).
use Rattle.std.specs.Prelude.{ℕ, suc, Bool, false, not, ◌&&◌, ◌||◌, ◌==◌, if◌then◌else◌, List, [], ◌∷◌, Some}
use Rattle.std.specs.Str.{bytes_eq}
use Rattle.c_types_rules.specs.TypeTree.{TypeTree}
use Rattle.c_types_expressions.specs.declared.walk.VariableEntry.{VariableEntry}
use Rattle.c_types_expressions.specs.declared.walk.Walk.{Walk}
use Rattle.c_types.specs.Answers.{declared_at}
use Rattle.c_types_faults.specs.Scopes.{Scope, lies_in_scope}
use Rattle.flow.specs.declared.site.Partner.{Partner}
use Rattle.flow.specs.declared.site.Partner.TheVariants as partner
use Rattle.sites.specs.Visible.{is_type, slot_of}

-- whether one of these variables, which have these scopes, has the name, and the token in its scope
abbrev pub is_name_hidden : ℕ → List ℕ → List VariableEntry → List Scope → Bool
is_name_hidden token name (v ∷ vs) (scope ∷ scopes) = (bytes_eq v.name name && lies_in_scope token (Some scope)) || is_name_hidden token name vs scopes
is_name_hidden token name vs scopes = false

-- Of these variables, in their order, those of the type whose scope holds the token and whose name no later one hides there, but for the one
-- at the place `target`. The first of them has this place among all.
abbrev pub partners_in : Walk → ℕ → ℕ → TypeTree → ℕ → List VariableEntry → List Scope → List Partner
partners_in w token target t place (v ∷ vs) (scope ∷ scopes) =
    if not (place == target) && is_type t (declared_at w v.from) && (lies_in_scope token (Some scope) && not (is_name_hidden token v.name vs scopes))
    then partner.Variable v.name (slot_of v.variable) ∷ partners_in w token target t (suc place) vs scopes
    else partners_in w token target t (suc place) vs scopes
partners_in w token target t place vs scopes = []
