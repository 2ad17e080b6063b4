-- The partners of a new value are those whose scopes hold its token.
use Rattle.std.proofs.Common.{◌≡◌, ℕ, suc, zero, ◌+◌, ℤ, arith, Bool, true, not, ◌&&◌, ◌||◌, ◌==◌, if◌then◌else◌, List, [], ◌∷◌, ◌++◌, length, map, Some, refl, sym, ap, ◌∙◌}
use Rattle.std.specs.Prelude.{slice_get}
use Rattle.std.specs.Str.{bytes_eq}
use Rattle.std.proofs.lemmas.List.{length-map}
use Rattle.c_syntax.specs.Words.{SourceTree, IsShaped}
use Rattle.c_types_rules.specs.TypeTree.{TypeTree}
use Rattle.c_types.specs.Answers.{declared_at, scope_holds}
use Rattle.c_types.specs.Fault.{walk_tree}
use Rattle.c_types_expressions.specs.Walked.{Fine}
use Rattle.c_types_expressions.specs.declared.walk.VariableEntry.{VariableEntry}
use Rattle.c_types_expressions.specs.declared.walk.Walk.{Walk}
use Rattle.c_types_faults.specs.Events.{is_point}
use Rattle.c_types_faults.specs.Scopes.{Scope, lies_in_scope, scope_name, scopes_of, start_of}
use Rattle.c_types_faults.proofs.Scopes.{scopes_are_named, scopes_hold}
use Rattle.flow.specs.declared.site.Partner.{Partner}
use Rattle.flow.specs.declared.site.Partner.TheVariants as partner
use Rattle.sites.specs.SitesAt.{partners_of}
use Rattle.sites.specs.Visible.{is_hidden, is_type, slot_of, variable_partners}
use Rattle.sites_laws.specs.Partners.{is_name_hidden, partners_in}

-- the scopes from a place on hold the token as these do
abbrev Hold : Walk → ℕ → ℕ → List Scope → Type 0
Hold w token place scopes = (k : ℕ) → scope_holds w (k + place) token ≡ lies_in_scope token (slice_get scopes k)

hold_rest : (w : Walk) (token place : ℕ) (scope : Scope) (scopes : List Scope) → Hold w token place (scope ∷ scopes) → Hold w token (suc place) scopes
hold_rest w token place scope scopes h k = ap (λ n. scope_holds w n token) (omega arith) ∙ h (suc k)

none_more : (n : ℕ) → n ≡ 0 + n
none_more n = omega arith

hold_first : (w : Walk) (token place : ℕ) (scope : Scope) (scopes : List Scope) → Hold w token place (scope ∷ scopes)
    → scope_holds w place token ≡ lies_in_scope token (Some scope)
hold_first w token place scope scopes h = ap (λ n. scope_holds w n token) (none_more place) ∙ h zero

module _ (w : Walk) (token : ℕ) where
  hidden_alike : (name : List ℕ) (place : ℕ) (vs : List VariableEntry) (scopes : List Scope) → length vs ≡ length scopes → Hold w token place scopes
      → is_hidden w token name place vs ≡ is_name_hidden token name vs scopes
  hidden_alike name place [] [] long h = refl
  hidden_alike name place [] (scope ∷ scopes) long h = refl
  hidden_alike name place (v ∷ vs) [] long h = absurd (omega (arith, long))
  hidden_alike name place (v ∷ vs) (scope ∷ scopes) long h =
      ap (λ b. (bytes_eq v.name name && b) || is_hidden w token name (suc place) vs) (hold_first w token place scope scopes h)
      ∙ ap (λ b. (bytes_eq v.name name && lies_in_scope token (Some scope)) || b)
      (hidden_alike name (suc place) vs scopes (omega (arith, long)) (hold_rest w token place scope scopes h))

  module _ (target : ℕ) (t : TypeTree) where
    with_one : (b c : Bool) (p : Partner) (ps qs : List Partner) → b ≡ c → ps ≡ qs → (if b then p ∷ ps else ps) ≡ (if c then p ∷ qs else qs)
    with_one b c p ps qs h k = ap (λ d. if d then p ∷ ps else ps) h ∙ ap (λ rs. if c then p ∷ rs else rs) k

    partners_alike : (place : ℕ) (vs : List VariableEntry) (scopes : List Scope) → length vs ≡ length scopes → Hold w token place scopes
        → variable_partners w token target t place vs ≡ partners_in w token target t place vs scopes
    partners_alike place [] [] long h = refl
    partners_alike place [] (scope ∷ scopes) long h = refl
    partners_alike place (v ∷ vs) [] long h = absurd (omega (arith, long))
    partners_alike place (v ∷ vs) (scope ∷ scopes) long h =
        let rest : Hold w token (suc place) scopes = hold_rest w token place scope scopes h in
        with_one _ _ (partner.Variable v.name (slot_of v.variable)) (variable_partners w token target t (suc place) vs)
        (partners_in w token target t (suc place) vs scopes)
        (ap (λ b. not (place == target) && is_type t (declared_at w v.from) && (b && not (is_hidden w token v.name (suc place) vs))) (hold_first w token place scope scopes h)
        ∙ ap (λ b. not (place == target) && is_type t (declared_at w v.from) && (lies_in_scope token (Some scope) && not b))
        (hidden_alike v.name (suc place) vs scopes (omega (arith, long)) rest))
        (partners_alike (suc place) vs scopes (omega (arith, long)) rest)

pub partners_are : (t : SourceTree) (z : Walk) → IsShaped t → walk_tree t ≡ Fine tt z → (constants : List ℤ) (token place : ℕ) (of : TypeTree)
    → is_point t token ≡ true → partners_of z constants token place of ≡ partners_in z token place of 0 z.variables (scopes_of t) ++ map partner.Constant constants
unfolding partners_of
partners_are t z s w constants token place of h =
    ap (λ ps. ps ++ map partner.Constant constants)
    (partners_alike z token place of 0 z.variables (scopes_of t)
    (sym (length-map z.variables start_of) ∙ ap length (scopes_are_named t z s w) ∙ length-map (scopes_of t) scope_name)
    (λ k. ap (λ n. scope_holds z n token) (omega arith) ∙ scopes_hold t z s w k token h))
