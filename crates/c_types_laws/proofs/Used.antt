-- What a name means where it is used, said of what is known at the end.
use Rattle.std.proofs.Common.{⊎_elim, ◌≡◌, ℕ, ◌≤◌, ◌<◌, ◌-◌, refl, subst, sym, ◌∙◌, arith, List, [], ◌∷◌, Some, None, ◌+◌, true, length}
use Rattle.std.specs.Prelude.{Option, slice_get}
use Rattle.std.proofs.lemmas.Bool.{false≢true}
use Rattle.std.proofs.lemmas.Bool.Decides.{nat_tests}
use Rattle.std.proofs.lemmas.Option.{slice_get_within}
use Rattle.base_lists.proofs.Lists.{item_there, Stays}
use Rattle.base_lists.proofs.Options.{none_some}
use Rattle.c_types_expressions.specs.declared.walk.VariableEntry.{VariableEntry}
use Rattle.c_types_expressions.specs.declared.walk.Walk.{Walk}
use Rattle.c_types.specs.Answers.{scope_holds, span_holds}
use Rattle.c_types_laws.specs.Naming.{IsInnermost, IsNamed, NamesNone}
use Rattle.c_types_laws.proofs.Scenes.{EndsOn, IsBefore, IsTop, NoneOn, OnStack, Scene, Sound, scene}
use Rattle.c_types_laws.proofs.Steps.{Later}

named_stays : (name : List ℕ) (place : ℕ) (vs us : List VariableEntry) → Stays vs us → (v : Option VariableEntry) → slice_get vs place ≡ v → IsNamed name v
    → IsNamed name (slice_get us place)
named_stays name place vs us h None e k = absurd k
named_stays name place vs us h (Some v) e k = subst (IsNamed name) (sym (h place v e)) k

-- a scope that began before the token and has no end yet holds it
span_by : (token l : ℕ) (v : VariableEntry) (e : Option (Option ℕ)) → v.from < token → token ≤ l → EndsOn l (Some None) e → span_holds token (Some v) e ≡ true
span_by token l v None n h k = absurd k
span_by token l v (Some None) n h k = grind (arith, nat_tests, n)
span_by token l v (Some (Some e)) n h k = grind (arith, nat_tests, n, h, k)

-- one that ended before the token doesn't
span_past : (token e : ℕ) (v : VariableEntry) → span_holds token (Some v) (Some (Some e)) ≡ true → e ≤ token - 1 → ⊥
span_past token e v h k = grind (arith, nat_tests, h, k)

-- nor does one that begins behind it
span_before : (token : ℕ) (v : VariableEntry) (e : Option (Option ℕ)) → span_holds token (Some v) e ≡ true → v.from < token
span_before token v None h = absurd (false≢true h)
span_before token v (Some e) h = grind (arith, nat_tests, h)

-- Before the token `s` was known, and behind it `r`, with this latest token of an expression. `z` is known at the end.
module _ {token l n m : ℕ} {s r : Scene} (z : Walk) (sound : Sound token n s) (same : r ≡ s) (past : token ≤ l)
    (later : Later (token + 1) r l (scene z) m) where
  after : Later (token + 1) s l (scene z) m
  after = subst (λ x. Later (token + 1) x l (scene z) m) same later

  holds_open : (place : ℕ) (v : Option VariableEntry) → slice_get s.variables place ≡ v → IsBefore token v → slice_get s.ends place ≡ Some None
      → scope_holds z place token ≡ true
  holds_open place None e h k = absurd h
  holds_open place (Some v) e h k =
      subst (λ o. span_holds token o (slice_get z.ends place) ≡ true) (sym (after.variables place v e))
      (span_by token l v (slice_get z.ends place) h past (subst (λ o. EndsOn l o (slice_get z.ends place)) k (after.ends place)))

  -- a variable whose scope holds the token is one of those in scope before it
  open_is : (name : List ℕ) (q : ℕ) (v : VariableEntry) (e : Option (Option ℕ)) → slice_get z.variables q ≡ Some v → slice_get s.variables q ≡ Some v
      → slice_get s.ends q ≡ e → scope_holds z q token ≡ true → OnStack q s.names
  open_is name q v None i j k h =
      absurd (no_end q (omega (arith, slice_get_within s.variables q v j, sound.long)) k)
    where
      no_end : (q : ℕ) → q < length s.ends → slice_get s.ends q ≡ None → ⊥
      no_end q less none = let there = item_there s.ends q less in none_some (sym none ∙ there.1)
  open_is name q v (Some None) i j k h = sound.opens q k
  open_is name q v (Some (Some e)) i j k h =
      absurd (span_past token e v
      (subst (λ o. span_holds token (Some v) o ≡ true) (subst (λ o. EndsOn l o (slice_get z.ends q)) k (after.ends q))
      (subst (λ o. span_holds token o (slice_get z.ends q) ≡ true) i h)) (sound.closes q e k))

  pub on_stack : (name : List ℕ) (q : ℕ) (v : Option VariableEntry) → slice_get z.variables q ≡ v → IsNamed name v → scope_holds z q token ≡ true
      → OnStack q s.names × IsNamed name (slice_get s.variables q)
  on_stack name q None e h k = absurd h
  on_stack name q (Some v) e h k = ⊎_elim
      (λ i. (open_is name q v (slice_get s.ends q) e i refl k, subst (IsNamed name) (sym i) h))
      (λ i. absurd (behind_it (span_before token v (slice_get z.ends q) (subst (λ o. span_holds token o (slice_get z.ends q) ≡ true) e k)) i))
      (after.behind q v e)
    where
      behind_it : v.from < token → token + 1 ≤ v.from → ⊥
      behind_it a b = absurd (omega (arith, a, b))

  pub innermost : (name : List ℕ) (place : ℕ) → IsTop s.functions s.variables s.ends token name place s.names → IsInnermost z token name place
  innermost name place h = record {
    named = named_stays name place s.variables z.variables after.variables (slice_get s.variables place) refl h.0;
    holds = holds_open place (slice_get s.variables place) refl h.1 h.2;
    inner = λ q i k. let o = on_stack name q (slice_get z.variables q) refl i k in h.3 q o.0 o.1;
  }

  pub names_none : (name : List ℕ) → NoneOn s.functions s.variables s.ends token name s.names → NamesNone z token name
  names_none name h = λ q i k. let o = on_stack name q (slice_get z.variables q) refl i k in h q o.0 o.1
