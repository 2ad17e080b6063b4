-- What is kept of each name, after a change at one name.
use Rattle.std.proofs.Common.{◌≡◌, ℕ, ◌-◌, take, Bool, true, false, List, [], ◌∷◌, ◌++◌, if◌then◌else◌, Vec, Some, None, Result, Ok, Err, OnErr, refl, sym, ap, ◌∙◌, subst, ⊎_elim}
use Rattle.std.proofs.lemmas.Bool.{cases_Bool, cond-true, cond-false}
use Rattle.std.specs.Cmp.Lexicographic.{bytes_decides, nat_list_eq_equiv}
use Rattle.std.specs.Global.{Global}
use Rattle.std.specs.HashMap.{HashMap, UpdatesBy}
use Rattle.std.specs.Str.{bytes_eq}
use Rattle.std.specs.Map.{lookup}
use Rattle.base_lists.proofs.Maps.{other_entries}
use Rattle.base_lists.proofs.Lists.{bytes_apart}
use Rattle.c_types_expressions.specs.declared.index.ScopedMeaning.{ScopedMeaning}
use Rattle.c_types_expressions.specs.Indexed.{IsPopped, IsPushed, IsSame, but_last, is_key, stack_in, stack_of}

pub on_err : {A E P : Type 0} (r : Result A E) → P → OnErr r P
on_err (Ok x) p = tt
on_err (Err e) p = p

-- at the name itself a value may be written by that name or by its equal
pub at_name : {A : Type 0} (name other : List ℕ) (f : List ℕ → A) (x y : A) → x ≡ f name → (if bytes_eq name other then x else y) ≡ (if bytes_eq name other then f other else y)
at_name name other f x y is =
    ⊎_elim
    (λ t. cond-true (bytes_eq name other) x y t ∙ is ∙ ap f ((bytes_decides name other).0 t) ∙ sym (cond-true (bytes_eq name other) (f other) y t))
    (λ n. cond-false (bytes_eq name other) x y n ∙ sym (cond-false (bytes_eq name other) (f other) y n))
    (cases_Bool (bytes_eq name other))

either_way : {A : Type 0} (b : Bool) (x : A) → (if b then x else x) ≡ x
either_way true x = refl
either_way false x = refl

-- a stack was written at the name
abbrev pub Updated : {S : Type 0} → List ℕ → HashMap (Vec ℕ Global) (Vec ScopedMeaning Global) S → HashMap (Vec ℕ Global) (Vec ScopedMeaning Global) S → Vec ScopedMeaning Global → Type 0
Updated name m n w = UpdatesBy (λ x y. bytes_eq x.items y.items) (is_key name) m n (Some w)

module _ {S : Type 0} (name : List ℕ) (m n : HashMap (Vec ℕ Global) (Vec ScopedMeaning Global) S) (w : Vec ScopedMeaning Global) where
  written : Updated name m n w → (other : List ℕ) → stack_of n.entries other ≡ (if bytes_eq name other then w.items else stack_of m.entries other)
  written h other =
      ⊎_elim
      (λ t. subst (λ o. stack_of n.entries o ≡ w.items) ((bytes_decides name other).0 t) (ap stack_in h.1) ∙ sym (cond-true (bytes_eq name other) w.items (stack_of m.entries other) t))
      (λ f. ap stack_in (other_entries _ _ _ _ h.3 (is_key other) (λ x y. nat_list_eq_equiv.congr other x.items y.items) (λ k. bytes_apart name other k.items f))
      ∙ sym (cond-false (bytes_eq name other) w.items (stack_of m.entries other) f))
      (cases_Bool (bytes_eq name other))

  pushed : (d : ScopedMeaning) → Updated name m n w → w.items ≡ stack_of m.entries name ++ d ∷ [] → IsPushed name d m.entries n.entries
  pushed d h is = λ other. written h other ∙ at_name name other (λ o. stack_of m.entries o ++ d ∷ []) w.items (stack_of m.entries other) is

  module _ (v : Vec ScopedMeaning Global) (was : Some v ≡ lookup (is_key name) m.entries) where
    pub pushed_on : (d : ScopedMeaning) → Updated name m n w → w.items ≡ v.items ++ d ∷ [] → IsPushed name d m.entries n.entries
    pushed_on d h is = pushed d h (is ∙ ap (λ s. stack_in s ++ d ∷ []) was)

    pub popped : Updated name m n w → w.items ≡ take (v.len - 1) v.items → IsPopped name m.entries n.entries
    popped h is = λ other.
        written h other
        ∙ at_name name other (λ o. but_last (stack_of m.entries o)) w.items (stack_of m.entries other)
        (is ∙ ap (λ k. take (k - 1) v.items) v.ok.0 ∙ ap (λ s. but_last (stack_in s)) was)

    pub kept : Updated name m n w → w.items ≡ v.items → IsSame m.entries n.entries
    kept h is = λ other.
        written h other ∙ at_name name other (stack_of m.entries) w.items (stack_of m.entries other) (is ∙ ap stack_in was)
        ∙ either_way (bytes_eq name other) (stack_of m.entries other)

-- the name comes in, by a key of its own
pub pushed_first : {S : Type 0} (key : Vec ℕ Global) (name : List ℕ) (m n : HashMap (Vec ℕ Global) (Vec ScopedMeaning Global) S) (w : Vec ScopedMeaning Global) (d : ScopedMeaning) →
    key.items ≡ name → None ≡ lookup (is_key name) m.entries → Updated key.items m n w → w.items ≡ d ∷ [] → IsPushed name d m.entries n.entries
pushed_first key name m n w d same was h is =
    subst (λ b. IsPushed b d m.entries n.entries) same
    (pushed key.items m n w d h (is ∙ ap (λ s. stack_in s ++ d ∷ []) (was ∙ ap (λ b. lookup (is_key b) m.entries) (sym same))))
