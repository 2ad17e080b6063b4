-- A name that no later variable takes again before the token is hidden by none.
use Rattle.std.proofs.Common.{◌≡◌, ℕ, suc, zero, Bool, true, false, ◌||◌, if◌then◌else◌, List, [], ◌∷◌, drop, Option, Some, None, refl, ap, ◌∙◌, arith}
use Rattle.std.specs.Prelude.{◌&&◌, nat_lt, nat_le, slice_get}
use Rattle.std.proofs.lemmas.Bool.Decides.{nat_tests}
use Rattle.std.specs.Str.{bytes_eq}
use Rattle.c_types_expressions.specs.declared.walk.VariableEntry.{VariableEntry}
use Rattle.c_types_expressions.specs.declared.walk.Walk.{Walk}
use Rattle.c_types.specs.Answers.{ends_behind, scope_holds, span_holds}
use Rattle.sites.specs.Visible.{declared_again, is_clear, is_hidden, least_token}

-- the first of what is left stands at its place, and the others are left behind it
pub left_at : (xs : List VariableEntry) (n : ℕ) (v : VariableEntry) (later : List VariableEntry) → v ∷ later ≡ drop n xs →
    (slice_get xs n ≡ Some v) × (later ≡ drop (suc n) xs)
left_at [] zero v later is = absurd (grind (arith, is))
left_at [] (suc n) v later is = absurd (grind (arith, is))
left_at (x ∷ xs) zero v later is = (grind (arith, is), grind (arith, is))
left_at (x ∷ xs) (suc n) v later is = left_at xs n v later is

pub unheld : (token : ℕ) (v : VariableEntry) (end : Option (Option ℕ)) → nat_lt v.from token ≡ false → span_holds token (Some v) end ≡ false
unheld token v None is = refl
unheld token v (Some end) is = ap (λ b. b && ends_behind token end) is

either : (token from other : ℕ) (c : Bool) → nat_lt other from ≡ c → nat_le token (if c then other else from) ≡ true →
    (nat_lt from token ≡ false) × (nat_le token other ≡ true)
either token from other true less is = (grind (arith, nat_tests), is)
either token from other false less is = (grind (arith, nat_tests), grind (arith, nat_tests))

pub behind : (token from : ℕ) (rest : Option ℕ) → nat_le token (least_token from rest) ≡ true → (nat_lt from token ≡ false) × (is_clear token rest ≡ true)
behind token from None is = (grind (arith, nat_tests), refl)
behind token from (Some other) is = either token from other (nat_lt other from) refl is

step : (named held hidden : Bool) (token from : ℕ) (rest : Option ℕ) → (nat_lt from token ≡ false → held ≡ false) →
    (is_clear token rest ≡ true → hidden ≡ false) → is_clear token (if named then Some (least_token from rest) else rest) ≡ true →
    ((named && held) || hidden) ≡ false
step true held hidden token from rest out further clear =
    let parts = behind token from rest clear in
    ap (λ b. b || hidden) (out parts.0) ∙ further parts.1
step false held hidden token from rest out further clear = further clear

pub not_hidden : (w : Walk) (token : ℕ) (name : List ℕ) (place : ℕ) (later : List VariableEntry) → later ≡ drop place w.variables →
    is_clear token (declared_again name later) ≡ true → is_hidden w token name place later ≡ false
not_hidden w token name place [] is clear = refl
not_hidden w token name place (v ∷ later) is clear =
    let at = left_at w.variables place v later is in
    step (bytes_eq v.name name) (scope_holds w place token) (is_hidden w token name (suc place) later) token v.from (declared_again name later)
    (λ out. ap (λ o. span_holds token o (slice_get w.ends place)) at.0 ∙ unheld token v (slice_get w.ends place) out)
    (λ rest. not_hidden w token name (suc place) later at.1 rest) clear
