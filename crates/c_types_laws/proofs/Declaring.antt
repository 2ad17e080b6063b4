-- A variable that is declared, and a scope that ends.
use Rattle.std.proofs.Common.{◌⊎◌, inl, inr, ⊎_elim, ◌≡◌, ℕ, ◌≤◌, ◌<◌, refl, ap, subst, sym, ◌∙◌, arith, List, [], ◌∷◌, ◌++◌, Some, None, Bool}
use Rattle.std.proofs.Common.{true, false, length, length-append}
use Rattle.std.specs.Prelude.{slice_get, MatchOption}
use Rattle.std.proofs.lemmas.Bool.{cases_lt}
use Rattle.std.proofs.lemmas.Option.{slice_get_past, slice_get_within}
use Rattle.c_types.proofs.Replaced.{noted_other, noted_same}
use Rattle.c_types.proofs.Noted.{length_replaced}
use Rattle.base_lists.proofs.Lists.{get_before, get_either, get_last, Stays}
use Rattle.c_types_rules.specs.TypeTree.{TypeTree}
use Rattle.c_types_expressions.specs.declared.names.Meaning.TheVariants as meaning
use Rattle.c_types_expressions.specs.declared.names.ScopeEntry.TheVariants as entry
use Rattle.c_types_expressions.specs.declared.walk.Variable.{Variable}
use Rattle.c_types_expressions.specs.declared.walk.VariableEntry.{VariableEntry}
use Rattle.c_types_expressions.specs.declared.walk.Walk.{Walk}
use Rattle.c_types.specs.Answers.{note_at}
use Rattle.c_types_expressions.specs.Words.{names_after_scope, ended_scopes, next_variable, scope_opened, item_replaced, with_variable}
use Rattle.c_types_laws.specs.Naming.{BeginsAt, DeclaresVariable, IsNamed}
use Rattle.c_types_laws.proofs.Scenes.{EndsOn, IsBefore, Scene, Sound, closes_ended, ended_long, ends_ended, ends_here, opens_ended}
use Rattle.c_types_laws.proofs.Scenes.{scene, some_none, stack_ended, stack_same}
use Rattle.c_types_laws.proofs.Steps.{IsFlat, Later, Part, Ready, Same, later_then, sound_later}

-- a list with one more item

pub more_stays : {A : Type 0} (xs : List A) (x : A) → Stays xs (xs ++ x ∷ [])
more_stays xs x = λ i y h. get_before xs x i (slice_get_within xs i y h) ∙ h

-- the scene with one more variable
abbrev pub more : ℕ → List ℕ → Variable → Scene → Scene
more token name number s = record {
  names = entry.Declares name (meaning.Variable (length s.variables)) ∷ s.names;
  variables = s.variables ++ record { name = name; variable = number; from = token } ∷ [];
  ends = s.ends ++ None ∷ [];
  functions = s.functions;
  structs = s.structs;
}

more_sound : (at token l : ℕ) (name : List ℕ) (number : Variable) (s : Scene) → token < at → Sound at l s → Sound at l (more token name number s)
more_sound at token l name number s less h =
    let v : VariableEntry = record { name = name; variable = number; from = token } in
    record {
      stack = (
        omega (arith, length-append s.variables (v ∷ [])),
        subst (IsNamed name) (sym (get_last s.variables v)) refl,
        subst (IsBefore at) (sym (get_last s.variables v)) less,
        subst (λ n. slice_get (s.ends ++ None ∷ []) n ≡ Some None) h.long (get_last s.ends None),
        stack_same s.functions s.functions s.variables (s.variables ++ v ∷ []) s.ends (s.ends ++ None ∷ []) at (length s.variables) s.names (λ i x k. k)
            (λ q k. get_before s.variables v q k) (λ q k. get_before s.ends None q (omega (arith, k, h.long))) h.stack,
      );
      opens = λ q k. ⊎_elim (λ e. inr (h.opens q e)) (λ e. inl (e.0 ∙ h.long)) (get_either s.ends None q None k);
      closes = λ q e k. ⊎_elim (λ i. h.closes q e i) (λ i. some_none e (sym (ap Some i.1))) (get_either s.ends None q (Some e) k);
      long = omega (arith, h.long, length-append s.ends (None ∷ []), length-append s.variables (v ∷ []));
      latest = h.latest;
    }

more_later : (at token l : ℕ) (name : List ℕ) (number : Variable) (s : Scene) → at ≤ token → length s.ends ≡ length s.variables
    → Later at s l (more token name number s) l
more_later at token l name number s low long =
    let v : VariableEntry = record { name = name; variable = number; from = token } in
    record {
      variables = more_stays s.variables v;
      behind = λ q e h. ⊎_elim (λ i. inl i) (λ i. inr (subst (λ (x : VariableEntry). at ≤ x.from) i.1 low)) (get_either s.variables v q e h);
      ends = λ q. ⊎_elim (λ h. subst (λ o. EndsOn l (slice_get s.ends q) o) (sym (get_before s.ends None q h)) (ends_here l (slice_get s.ends q)))
          (λ h. subst (λ o. EndsOn l o (slice_get (s.ends ++ None ∷ []) q)) (sym (slice_get_past s.ends q h)) tt) (cases_lt q (length s.ends));
      latest = omega arith;
      structs = λ i x h. h;
      functions = λ i x h. h;
    }

-- what is known where the latest scope has ended
abbrev pub left : Walk → Walk
left w = record w { names = names_after_scope w.names; ends = ended_scopes w.latest w.names w.ends }

left_later : (at : ℕ) (w : Walk) → Sound at w.latest (scene w) → (lo : ℕ) → Later lo (scene w) w.latest (scene (left w)) w.latest
left_later at w s lo = record {
  variables = λ i x h. h;
  behind = λ i x h. inl h;
  ends = ends_ended w.functions w.variables at w.latest (length w.variables) w.names w.ends s.stack;
  latest = omega arith;
  structs = λ i x h. h;
  functions = λ i x h. h;
}

left_sound : (at : ℕ) (w : Walk) → Sound at w.latest (scene w) → Sound at w.latest (scene (left w))
left_sound at w s = record {
  stack = stack_ended w.functions w.variables at w.latest (length w.variables) w.names w.ends s.stack;
  opens = opens_ended w.functions w.variables at w.latest w.names w.ends s.opens;
  closes = closes_ended w.functions w.variables at w.latest w.names w.ends s.latest s.closes;
  long = ended_long w.latest w.names w.ends ∙ s.long;
  latest = s.latest;
}

-- before the parts of a scope
pub ready_opened : {lo hi : ℕ} {w : Walk} → Ready lo hi w → Ready lo hi (scope_opened w)
ready_opened r = record {
  types = r.types;
  variables_at = r.variables_at;
  functions_at = r.functions_at;
  sound = record { stack = r.sound.stack; opens = r.sound.opens; closes = r.sound.closes; long = r.sound.long; latest = r.sound.latest };
}

module _ {z : Walk} where
  -- a variable's declaration
  declared_by : (lo hi token : ℕ) (name : List ℕ) (number : Variable) (w v : Walk) → Ready lo hi w → lo ≤ token → token < hi
      → v.types ≡ w.types → v.functions_at ≡ w.functions_at → v.variables_at ≡ item_replaced w.variables_at token (Some (length w.variables))
      → scene v ≡ more token name number (scene w) → v.latest ≡ w.latest → Part z lo hi w v (DeclaresVariable z token name)
  declared_by lo hi token name number w v r low high t f n s l =
      let entry : VariableEntry = record { name = name; variable = number; from = token } in
      record {
        types = ap (λ xs. length xs) t;
        variables_at = ap (λ xs. length xs) n ∙ length_replaced w.variables_at token (Some (length w.variables));
        functions_at = ap (λ xs. length xs) f;
        below = λ q h. same q (λ e. omega (arith, e, low, h));
        above = λ q h. same q (λ e. omega (arith, e, high, h));
        scope = ap (λ (x : Scene). names_after_scope x.names) s;
        flat = λ h. subst (λ (x : Scene). IsFlat x.names) (sym s) h;
        later = subst (λ x. Later lo (scene w) w.latest x v.latest) (sym s)
            (subst (λ m. Later lo (scene w) w.latest (more token name number (scene w)) m) (sym l)
            (more_later lo token w.latest name number (scene w) low r.sound.long));
        sound = subst (λ x. Sound hi v.latest x) (sym s) (subst (λ m. Sound hi m (more token name number (scene w))) (sym l)
            (more_sound hi token w.latest name number (scene w) high (sound_later (omega (arith, low, high)) r.sound)));
        holds = λ g. subst (λ o. MatchOption o ⊥ (λ place. BeginsAt token name (slice_get z.variables place)))
            (sym ((g.notes token low high).variables ∙ ap (λ xs. note_at xs token) n
            ∙ noted_same w.variables_at token (length w.variables) (omega (arith, high, r.variables_at))))
            (subst (BeginsAt token name) (sym
            (g.later.variables (length w.variables) entry (ap (λ (x : Scene). slice_get x.variables (length w.variables)) s ∙ get_last w.variables entry)))
            (refl, refl));
      }
    where
      same : (q : ℕ) → (token ≡ q → ⊥) → Same w v q
      same q h = record {
        types = ap (λ xs. note_at xs q) t;
        variables = ap (λ xs. note_at xs q) n ∙ noted_other w.variables_at token q (Some (length w.variables)) h;
        functions = ap (λ xs. note_at xs q) f;
      }

  pub declared : (lo hi : ℕ) (global : Bool) (token : ℕ) (name : List ℕ) (t : TypeTree) (w : Walk) → Ready lo hi w → lo ≤ token → token < hi
      → Part z lo hi w (with_variable global token name t w) (DeclaresVariable z token name)
  declared lo hi true token name t w r low high =
      declared_by lo hi token name (next_variable true w) w (with_variable true token name t w) r low high refl refl refl refl refl
  declared lo hi false token name t w r low high =
      declared_by lo hi token name (next_variable false w) w (with_variable false token name t w) r low high refl refl refl refl refl

  -- the parts of a scope, which ends behind them
  pub enclosed : {lo hi : ℕ} {w u : Walk} {P : Type 0} → Part z lo hi (scope_opened w) u P → Part z lo hi w (left u) P
  enclosed {lo = lo} {hi = hi} {w = w} {u = u} a = record {
    types = a.types;
    variables_at = a.variables_at;
    functions_at = a.functions_at;
    below = λ token h. same (a.below token h);
    above = λ token h. same (a.above token h);
    scope = ap names_after_scope a.scope;
    flat = λ h. subst IsFlat (sym a.scope) h;
    later = later_then (opens_later a.later) (left_later hi u a.sound lo) (omega arith);
    sound = left_sound hi u a.sound;
    holds = λ g. a.holds (record {
      notes = λ token p q. let s = g.notes token p q in record { types = s.types; variables = s.variables; functions = s.functions };
      later = later_then (left_later hi u a.sound hi) g.later (omega arith);
    });
  }
    where
      same : {token : ℕ} → Same (scope_opened w) u token → Same w (left u) token
      same s = record { types = s.types; variables = s.variables; functions = s.functions }

      opens_later : Later lo (scene (scope_opened w)) w.latest (scene u) u.latest → Later lo (scene w) w.latest (scene u) u.latest
      opens_later s = record { variables = s.variables; behind = s.behind; ends = s.ends; latest = s.latest; structs = s.structs; functions = s.functions }
