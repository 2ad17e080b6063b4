-- The calls that the walk notes are those of the tree, each of a function with its name.
use Rattle.std.proofs.Common.{◌⊎◌, inl, inr, ⊎_elim, ◌≡◌, ℕ, ◌<◌, ◌≤◌, refl, ap, subst, sym, ◌∙◌, arith, List, [], ◌∷◌, ◌++◌, length, Option, Some}
use Rattle.std.proofs.Common.{None, Bool, true, false, option_map}
use Rattle.std.proofs.lemmas.Bool.{cases_eq, cases_lt, ltb-true}
use Rattle.std.specs.Prelude.{slice_get, slice_set, nat_lt, if◌then◌else◌}
use Rattle.std.proofs.lemmas.Option.{same_Some}
use Rattle.c_types.proofs.Replaced.{noted_other, noted_same}
use Rattle.c_types_rules.specs.declared.library.Library.{Library}
use Rattle.c_types_rules.specs.Library.{library_named}
use Rattle.c_types.specs.Answers.{note_at}
use Rattle.c_types.proofs.Noted.{Gives}
use Rattle.c_types_expressions.specs.declared.names.Meaning.{Meaning}
use Rattle.c_types_expressions.specs.declared.names.Meaning.TheVariants as meaning
use Rattle.c_types_expressions.specs.declared.walk.Walk.{Walk}
use Rattle.c_types_expressions.specs.Words.{declared_meaning, meaning_of, or_before, Walked, Fine, Faulty, item_replaced}
use Rattle.c_types_rules.specs.declared.fault.FaultKind.{FaultKind}
use Rattle.c_types_faults.specs.Events.{Calls, Selects, Other, Event, Value, Initialises, Variable, Opens, Closes, Struct, Names, Defines}
use Rattle.c_types_faults.proofs.Noting.{FoundAs, Named, found_is, path_onward, step_onward}
use Rattle.c_types_faults.proofs.Paths.{CalledAs, Path, Step, View}
use Rattle.c_types_faults.specs.Texts.{HasCall}
use Rattle.c_types_faults.proofs.Telling.{Tells, TellsIn}

pub has_left : (token : ℕ) (name : List ℕ) (xs ys : List Event) → HasCall token name xs → HasCall token name (xs ++ ys)
has_left token name [] ys h = absurd h
has_left token name (Value own (Calls other) ∷ xs) ys (inl h) = inl h
has_left token name (Value own (Calls other) ∷ xs) ys (inr h) = inr (has_left token name xs ys h)
has_left token name (Value own (Selects operand behind of) ∷ xs) ys h = has_left token name xs ys h
has_left token name (Value own Other ∷ xs) ys h = has_left token name xs ys h
has_left token name (Initialises own ∷ xs) ys h = has_left token name xs ys h
has_left token name (Variable own ∷ xs) ys h = has_left token name xs ys h
has_left token name (Opens ∷ xs) ys h = has_left token name xs ys h
has_left token name (Closes ∷ xs) ys h = has_left token name xs ys h
has_left token name (Struct ∷ xs) ys h = has_left token name xs ys h
has_left token name (Names other ∷ xs) ys h = has_left token name xs ys h
has_left token name (Defines ∷ xs) ys h = has_left token name xs ys h

pub has_right : (token : ℕ) (name : List ℕ) (xs ys : List Event) → HasCall token name ys → HasCall token name (xs ++ ys)
has_right token name [] ys h = h
has_right token name (Value own (Calls other) ∷ xs) ys h = inr (has_right token name xs ys h)
has_right token name (Value own (Selects operand behind of) ∷ xs) ys h = has_right token name xs ys h
has_right token name (Value own Other ∷ xs) ys h = has_right token name xs ys h
has_right token name (Initialises own ∷ xs) ys h = has_right token name xs ys h
has_right token name (Variable own ∷ xs) ys h = has_right token name xs ys h
has_right token name (Opens ∷ xs) ys h = has_right token name xs ys h
has_right token name (Closes ∷ xs) ys h = has_right token name xs ys h
has_right token name (Struct ∷ xs) ys h = has_right token name xs ys h
has_right token name (Names other ∷ xs) ys h = has_right token name xs ys h
has_right token name (Defines ∷ xs) ys h = has_right token name xs ys h

-- what is noted at a token was noted before, or is of a call there
abbrev pub CallsIn : List Event → List (Option ℕ) → List (Option ℕ) → List (List ℕ) → Type 0
CallsIn es before after functions = (token index : ℕ) → note_at after token ≡ Some index → (note_at before token ≡ Some index)
    ⊎ ((name : List ℕ) × (HasCall token name es × (slice_get functions index ≡ Some name)))

noted_either : (notes : List (Option ℕ)) (own index token i : ℕ) → note_at (item_replaced notes own (Some index)) token ≡ Some i
    → (note_at notes token ≡ Some i) ⊎ ((own ≡ token) × (index ≡ i))
noted_either notes own index token i h = ⊎_elim (λ e. within e (cases_lt own (length notes)))
    (λ n. inl (sym (noted_other notes own token (Some index) n) ∙ h)) (cases_eq own token)
  where
    unchanged : (b : Bool) → nat_lt own (length notes) ≡ b → (b ≡ true → ⊥) → item_replaced notes own (Some index) ≡ notes
    unchanged true e f = absurd (f refl)
    unchanged false e f = ap (λ b. if b then slice_set notes own (Some index) else notes) e

    within : own ≡ token → ((own < length notes) ⊎ (length notes ≤ own)) → (note_at notes token ≡ Some i) ⊎ ((own ≡ token) × (index ≡ i))
    within e (inl l) = inr (e, same_Some index i (sym (noted_same notes own index l) ∙ ap (note_at (item_replaced notes own (Some index))) e ∙ h))
    within e (inr l) = inl (ap (λ ns. note_at ns token) (sym (unchanged (nat_lt own (length notes)) refl
        (λ t. omega (arith, l, ltb-true own (length notes) t)))) ∙ h)

pub function_by : (o : Option Meaning) (l : Option Library) (index : ℕ) → or_before o (option_map meaning.Library l) ≡ Some (meaning.Function index)
    → o ≡ Some (meaning.Function index)
function_by None None index h = absurd (cc)
function_by None (Some g) index h = absurd (cc)
function_by (Some m) l index h = h

module _ (a b : View) where
  no_call : (es : List Event) → b.calls ≡ a.calls → CallsIn es a.calls b.calls b.functions
  no_call es e token index h = inl (ap (λ ns. note_at ns token) (sym e) ∙ h)

  one_call : (own : ℕ) (name : List ℕ) → Named a → (m : Option Meaning) → meaning_of name a.names ≡ m → CalledAs own m a b
      → CallsIn (Value own (Calls name) ∷ []) a.calls b.calls b.functions
  one_call own name n (Some (meaning.Library f)) e c = no_call (Value own (Calls name) ∷ []) (ap (λ (v : View). v.calls) c.1)
  one_call own name n (Some (meaning.Function i)) e c = λ token index h. ⊎_elim (λ k. inl k) (λ k. inr (
    name,
    (
      inl (k.0, refl),
      ap (λ (v : View). slice_get v.functions index) c.1 ∙ n.by name index
          (subst (λ m. FoundAs name m a.names)
          (function_by (declared_meaning name a.names) (library_named name) i e ∙ ap (λ j. Some (meaning.Function j)) k.1) (found_is name a.names n.own)),
    ),
  ))
      (noted_either a.calls own i token index (ap (λ (v : View). note_at v.calls token) (sym c.1) ∙ h))
  one_call own name n m e c = absurd c

  step_calls : (event : Event) → Named a → Step event a b → CallsIn (event ∷ []) a.calls b.calls b.functions
  step_calls (Value own Other) n h = no_call (Value own Other ∷ []) (ap (λ (v : View). v.calls) h.1)
  step_calls (Value own (Calls name)) n h = one_call own name n (meaning_of name a.names) refl h
  step_calls (Value own (Selects operand behind name)) n h = no_call (Value own (Selects operand behind name) ∷ []) (ap (λ (v : View). v.calls) h.to)
  step_calls (Initialises own) n h = no_call (Initialises own ∷ []) (ap (λ (v : View). v.calls) h)
  step_calls (Variable own) n h = no_call (Variable own ∷ []) (ap (λ (v : View). v.calls) h.1)
  step_calls Opens n h = no_call (Opens ∷ []) (ap (λ (v : View). v.calls) h)
  step_calls Closes n h = no_call (Closes ∷ []) (ap (λ (v : View). v.calls) h)
  step_calls Struct n h = no_call (Struct ∷ []) (ap (λ (v : View). v.calls) h.1)
  step_calls (Names name) n (inl h) = no_call (Names name ∷ []) (ap (λ (v : View). v.calls) h)
  step_calls (Names name) n (inr h) = no_call (Names name ∷ []) (ap (λ (v : View). v.calls) h)
  step_calls Defines n h = no_call (Defines ∷ []) (ap (λ (v : View). v.calls) h.1)

pub calls_then : (xs ys : List Event) (before middle after : List (Option ℕ)) (fs gs : List (List ℕ))
    → ((i : ℕ) (name : List ℕ) → slice_get fs i ≡ Some name → slice_get gs i ≡ Some name) → CallsIn xs before middle fs → CallsIn ys middle after gs
    → CallsIn (xs ++ ys) before after gs
calls_then xs ys before middle after fs gs stays f g token index h = ⊎_elim
    (λ k. ⊎_elim (λ l. inl l) (λ l. inr (l.0, (has_left token l.0 xs ys l.1.0, stays index l.0 l.1.1))) (f token index k))
    (λ k. inr (k.0, (has_right token k.0 xs ys k.1.0, k.1.1))) (g token index h)

pub path_calls : (es : List Event) (a c : View) → Named a → Path es a c → CallsIn es a.calls c.calls c.functions
path_calls [] a c n h = no_call a c [] (ap (λ (v : View). v.calls) h)
path_calls (event ∷ es) a c n (b, h) = calls_then (event ∷ []) es a.calls b.calls c.calls b.functions c.functions
    (λ i name k. (path_onward es b c h.1).functions i name k) (step_calls a b event n h.0)
    (path_calls es b c ((step_onward event a b h.0).named n) h.1)

-- both that the walk tells this, and that it gives that
pub both_tell : {A : Type 0} (Q P : A → Walk → Type 0) (B : FaultKind → ℕ → Type 0) (m : Walked A) → Tells m Q B → Gives P m
    → Tells m (λ a v. Q a v × P a v) B
both_tell {A = A} Q P B m t g = record { by = by m t.by g }
  where
    by : (m : Walked A) → TellsIn Q B m → Gives P m → TellsIn (λ a v. Q a v × P a v) B m
    by (Fine a v) t g = (t, g)
    by (Faulty kind at) t g = t
