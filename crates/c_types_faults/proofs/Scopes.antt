-- A scope holds the points of its span.
use Rattle.std.proofs.Common.{◌⊎◌, inl, inr, ⊎_elim, ◌≡◌, ℕ, zero, suc, ◌==◌, ◌-◌, ◌≤◌, ◌<◌, nat_le, nat_lt, true, false, ◌&&◌, ◌||◌, List, [], ◌∷◌, length, map, Option, Some, None, refl, sym, ap, ◌∙◌, arith}
use Rattle.std.specs.Prelude.{slice_get}
use Rattle.std.specs.List.{list_any}
use Rattle.std.proofs.lemmas.Bool.Decides.{nat_tests}
use Rattle.std.proofs.lemmas.Bool.{or_cases}
use Rattle.base_lists.proofs.Numbers.{less_is, more_is, most_is, same_number}
use Rattle.c_syntax.specs.Words.{SourceTree, IsShaped}
use Rattle.c_types.specs.Answers.{scope_holds, span_holds}
use Rattle.c_types.specs.Fault.{walk_tree}
use Rattle.c_types_expressions.specs.Walked.{Fine}
use Rattle.c_types_expressions.specs.declared.walk.VariableEntry.{VariableEntry}
use Rattle.c_types_expressions.specs.declared.walk.Walk.{Walk}
use Rattle.c_types_faults.specs.Events.{Event, Value, Initialises, Variable, Opens, Closes, Struct, Names, Defines, events_of, is_point, is_point_at}
use Rattle.c_types_faults.specs.Scopes.{Scope, lies_in_scope, scope_name, scopes_of, start_of}
use Rattle.c_types_faults.proofs.Leaving.{Begun, Left, Match, Settled}
use Rattle.c_types_faults.proofs.Paths.{view}
use Rattle.c_types_faults.proofs.Points.{Among}
use Rattle.c_types_faults.proofs.NotedTexts.{before, text_left}

among_points : (k : ℕ) (es : List Event) → list_any (is_point_at k) es ≡ true → Among k es
among_points k [] h = absurd (cc)
among_points k (Value own c ∷ es) h =
    ⊎_elim (λ e. inl (sym (same_number own k e))) (λ e. inr (among_points k es e)) (or_cases (own == k) (list_any (is_point_at k) es) h)
among_points k (Initialises own ∷ es) h =
    ⊎_elim (λ e. inl (sym (same_number own k e))) (λ e. inr (among_points k es e)) (or_cases (own == k) (list_any (is_point_at k) es) h)
among_points k (Variable token ∷ es) h = inr (among_points k es h)
among_points k (Opens ∷ es) h = inr (among_points k es h)
among_points k (Closes ∷ es) h = inr (among_points k es h)
among_points k (Struct ∷ es) h = inr (among_points k es h)
among_points k (Names name ∷ es) h = inr (among_points k es h)
among_points k (Defines ∷ es) h = inr (among_points k es h)

lt_no : (m n : ℕ) → n ≤ m → nat_lt m n ≡ false
lt_no m n h = grind (arith, nat_tests, h)

-- behind the name is behind the declarator
begins_alike : (lo hi k : ℕ) (es : List Event) (scope : Scope) → Begun lo hi es scope → Among k es → nat_lt scope.name k ≡ nat_le scope.first k
begins_alike lo hi k es scope b i =
    ⊎_elim (λ h. lt_no scope.name k h ∙ sym (more_is scope.first k (omega (arith, h, b.name))))
    (λ h. less_is scope.name k (omega (arith, h, b.name)) ∙ sym (most_is scope.first k h)) (b.apart k i)

-- up to where it was noted to end is up to the end of its part
ends_alike : (start hi k end : ℕ) (es : List Event) (scope : Scope) → Settled start hi es scope end → Among k es → nat_le k end ≡ nat_le k scope.last
ends_alike start hi k end es scope s i =
    ⊎_elim (λ h. most_is k end h ∙ sym (most_is k scope.last (omega (arith, h, s.inside))))
    (λ h. more_is k end (omega (arith, h, s.inside)) ∙ sym (more_is k scope.last h)) (s.apart k i)

first_is : (x y : ℕ) (xs ys : List ℕ) → x ∷ xs ≡ y ∷ ys → x ≡ y
first_is x y xs ys h = cc

rest_is : (x y : ℕ) (xs ys : List ℕ) → x ∷ xs ≡ y ∷ ys → xs ≡ ys
rest_is x y xs ys h = cc

module _ (start lo hi last k : ℕ) (es : List Event) (i : Among k es) (least : k ≤ last) where
  holds_alike : (place : ℕ) (vs : List VariableEntry) (scopes : List Scope) (ends : List (Option ℕ)) → map start_of vs ≡ map scope_name scopes
      → Match start lo hi last es scopes ends → span_holds k (slice_get vs place) (slice_get ends place) ≡ lies_in_scope k (slice_get scopes place)
  holds_alike place [] [] [] e m = refl
  holds_alike place [] (scope ∷ scopes) ends e m = absurd (cc)
  holds_alike place (v ∷ vs) [] ends e m = absurd (cc)
  holds_alike place [] [] (end ∷ ends) e m = absurd m
  holds_alike place (v ∷ vs) (scope ∷ scopes) [] e m = absurd m
  holds_alike zero (v ∷ vs) (scope ∷ scopes) (None ∷ ends) e m =
      let same : v.from ≡ scope.name = first_is v.from scope.name (map start_of vs) (map scope_name scopes) e in
      ap (λ n. nat_lt n k && true) same ∙ ap (λ b. b && true) (begins_alike lo hi k es scope m.1 i)
      ∙ ap (λ b. nat_le scope.first k && b) (sym (most_is k scope.last (omega (arith, least, m.0))))
  holds_alike zero (v ∷ vs) (scope ∷ scopes) (Some end ∷ ends) e m =
      let same : v.from ≡ scope.name = first_is v.from scope.name (map start_of vs) (map scope_name scopes) e in
      ap (λ n. nat_lt n k && nat_le k end) same ∙ ap (λ b. b && nat_le k end) (begins_alike lo hi k es scope m.1 i)
      ∙ ap (λ b. nat_le scope.first k && b) (ends_alike start hi k end es scope m.0 i)
  holds_alike (suc place) (v ∷ vs) (scope ∷ scopes) (None ∷ ends) e m = holds_alike place vs scopes ends (rest_is v.from scope.name (map start_of vs) (map scope_name scopes) e) m.2
  holds_alike (suc place) (v ∷ vs) (scope ∷ scopes) (Some end ∷ ends) e m = holds_alike place vs scopes ends (rest_is v.from scope.name (map start_of vs) (map scope_name scopes) e) m.2

pub scopes_hold : (t : SourceTree) (z : Walk) → IsShaped t → walk_tree t ≡ Fine tt z → (place token : ℕ) → is_point t token ≡ true
    → scope_holds z place token ≡ lies_in_scope token (slice_get (scopes_of t) place)
scopes_hold t z s w place token h =
    let n : ℕ = length t.lines in
    let l : Left false 0 n (n - 1) (events_of t) (scopes_of t) (before t) (view z) = text_left t z s w in
    let i : Among token (events_of t) = among_points token (events_of t) h in
    ap (λ ends. span_holds token (slice_get z.variables place) (slice_get ends place)) (l.ends refl)
    ∙ holds_alike 0 0 n (n - 1) token (events_of t) i (omega (arith, (l.within token i).1)) place z.variables (scopes_of t) l.own l.starts (l.matched (omega arith))

pub scopes_are_named : (t : SourceTree) (z : Walk) → IsShaped t → walk_tree t ≡ Fine tt z → map start_of z.variables ≡ map scope_name (scopes_of t)
scopes_are_named t z s w = (text_left t z s w).starts
