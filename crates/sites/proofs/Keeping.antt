-- What is kept of each name, after a token was written at one name, and while the variables are gone through.
use Rattle.std.proofs.Common.{◌≡◌, ℕ, List, if◌then◌else◌, Vec, Some, sym, ap, ◌∙◌, subst, ⊎_elim}
use Rattle.std.proofs.lemmas.Bool.{cases_Bool, cond-true, cond-false}
use Rattle.std.specs.Cmp.Lexicographic.{bytes_decides, nat_list_eq_equiv}
use Rattle.std.specs.Global.{Global}
use Rattle.std.specs.HashMap.{HashMap, UpdatesBy}
use Rattle.std.specs.Str.{bytes_eq}
use Rattle.c_types_expressions.proofs.Stacks.{at_name}
use Rattle.base_lists.proofs.Maps.{other_entries}
use Rattle.base_lists.proofs.Lists.{bytes_apart}
use Rattle.c_types_expressions.specs.Indexed.{is_key}
use Rattle.sites.specs.Noted.{IsNoted, first_in}
use Rattle.sites.specs.Visible.{least_token}

module _ {S : Type 0} (name : List ℕ) (m n : HashMap (Vec ℕ Global) ℕ S) (x : ℕ) where
  written : UpdatesBy (λ a b. bytes_eq a.items b.items) (is_key name) m n (Some x) →
      (other : List ℕ) → first_in n.entries other ≡ (if bytes_eq name other then Some x else first_in m.entries other)
  written h other =
      ⊎_elim
      (λ t. subst (λ o. first_in n.entries o ≡ Some x) ((bytes_decides name other).0 t) h.1 ∙ sym (cond-true (bytes_eq name other) (Some x) (first_in m.entries other) t))
      (λ f. other_entries _ _ _ _ h.3 (is_key other) (λ a b. nat_list_eq_equiv.congr other a.items b.items) (λ k. bytes_apart name other k.items f)
      ∙ sym (cond-false (bytes_eq name other) (Some x) (first_in m.entries other) f))
      (cases_Bool (bytes_eq name other))

-- the token is kept by a key of its own
pub kept : {S : Type 0} (key : Vec ℕ Global) (name : List ℕ) (m n : HashMap (Vec ℕ Global) ℕ S) (from x : ℕ) → key.items ≡ name →
    x ≡ least_token from (first_in m.entries name) → UpdatesBy (λ a b. bytes_eq a.items b.items) (is_key key.items) m n (Some x) → IsNoted name from m.entries n.entries
kept key name m n from x same is h =
    subst (λ b. IsNoted b from m.entries n.entries) same
    (λ other. written key.items m n x h other
    ∙ at_name key.items other (λ o. Some (least_token from (first_in m.entries o))) (Some x) (first_in m.entries other)
    (ap (λ (k : ℕ). Some k) (is ∙ ap (λ b. least_token from (first_in m.entries b)) (sym same))))
