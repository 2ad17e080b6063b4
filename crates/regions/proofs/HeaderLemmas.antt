-- Where regions begin, as it is found node after node.
use Rattle.std.proofs.Common.{◌≡◌, inl, inr, ℕ, ◌+◌, ◌<◌, Bool, true, false, if◌then◌else◌, List, length, set, replicate, Option, Some, None, slice_get, refl, sym, ap, ◌∙◌, subst, arith, length-set}
use Rattle.std.specs.List.{Contains}
use Rattle.std.proofs.lemmas.Bool.{cases_lt}
use Rattle.std.proofs.lemmas.List.{length-replicate}
use Rattle.std.proofs.lemmas.Option.{slice_get_within}
use Rattle.flow.specs.declared.node.Node.{Node}
use Rattle.flow.specs.declared.node.View.{View}
use Rattle.flow.specs.declared.node.View.TheVariants.{Turns, Calls}
use Rattle.flow.specs.Words.{view_at, led_to}
use Rattle.regions.specs.Flags.{AreFlags, is_in}
use Rattle.regions.specs.Headers.{IsHeader, Entry, After, begun_after}
use Rattle.regions.specs.Weighty.{views_of}
use Rattle.regions.proofs.FlagLemmas.{none_set, set_kept, set_only, set_same}

-- what the flags say once the first nodes were looked at, so many of them
pub record Begun (weighty : ℕ → Bool) (at : ℕ → View) (n count : ℕ) (flags : List Bool) : Type 0 where
  pub few : length flags ≡ n
  pub entry : is_in flags 0 ≡ true
  pub after : (place next : ℕ) → place < count → begun_after weighty (at place) ≡ Some next → is_in flags next ≡ true
  pub right : (next : ℕ) → is_in flags next ≡ true → IsHeader weighty at next

pub begun_entry : (weighty : ℕ → Bool) (at : ℕ → View) (n : ℕ) → 0 < n → Begun weighty at n 0 (set (replicate n false) 0 true)
begun_entry weighty at n l =
    let inside : 0 < length (replicate n false) = omega (arith, l, length-replicate n false) in
    record {
      few = length-set (replicate n false) 0 true ∙ length-replicate n false;
      entry = set_same (replicate n false) 0 0 refl inside;
      after = λ place next lt e. absurd (omega arith);
      right = λ next h. elim (set_only (replicate n false) 0 next h) [
        | inl e ↦ subst (IsHeader weighty at) (sym e) Entry
        | inr old ↦ absurd (none_set n next old)
      ];
    }

-- a node after which a region begins
pub begun_more : (weighty : ℕ → Bool) (at : ℕ → View) (n i x : ℕ) (flags : List Bool) → Begun weighty at n i flags → begun_after weighty (at i) ≡ Some x → x < n →
    Begun weighty at n (i + 1) (set flags x true)
begun_more weighty at n i x flags b e l =
    let inside : x < length flags = omega (arith, b.few) in
    record {
      few = length-set flags x true ∙ b.few;
      entry = set_kept flags x 0 inside b.entry;
      after = λ place next lt f. elim (cases_lt place i) [
        | inl before ↦ set_kept flags x next inside (b.after place next before f)
        | inr here ↦
            let same : place ≡ i = omega arith in
            let g : begun_after weighty (at i) ≡ Some next = ap (λ (k : ℕ). begun_after weighty (at k)) (sym same) ∙ f in
            set_same flags x next (cc) inside
      ];
      right = λ next h. elim (set_only flags x next h) [ inl f ↦ subst (IsHeader weighty at) (sym f) (After i e) | inr old ↦ b.right next old ];
    }

-- any other node
pub begun_same : (weighty : ℕ → Bool) (at : ℕ → View) (n i : ℕ) (flags : List Bool) → Begun weighty at n i flags → begun_after weighty (at i) ≡ None →
    Begun weighty at n (i + 1) flags
begun_same weighty at n i flags b e = record {
  few = b.few;
  entry = b.entry;
  after = λ place next lt f. elim (cases_lt place i) [
    | inl before ↦ b.after place next before f
    | inr here ↦
        let same : place ≡ i = omega arith in
        let g : begun_after weighty (at i) ≡ Some next = ap (λ (k : ℕ). begun_after weighty (at k)) (sym same) ∙ f in
        cc
  ];
  right = b.right;
}

complete : (weighty : ℕ → Bool) (at : ℕ → View) (n : ℕ) (flags : List Bool) → Begun weighty at n n flags → ((place next : ℕ) → begun_after weighty (at place) ≡ Some next → place < n) →
    {x : ℕ} → IsHeader weighty at x → is_in flags x ≡ true
complete weighty at n flags b within Entry = b.entry
complete weighty at n flags b within (After {next} place e) = b.after place next (within place next e) e

begun_there : (weighty : ℕ → Bool) (nodes : List Node) (place next : ℕ) (found : Option Node) → slice_get nodes place ≡ found → begun_after weighty (view_at found) ≡ Some next → place < length nodes
begun_there weighty nodes place next None e f = cc
begun_there weighty nodes place next (Some n) e f = slice_get_within nodes place n e

pub begun_all : (weighty : ℕ → Bool) (nodes : List Node) (flags : List Bool) → Begun weighty (views_of nodes) (length nodes) (length nodes) flags →
    AreFlags (length nodes) (IsHeader weighty (views_of nodes)) flags
begun_all weighty nodes flags b = record {
  few = b.few;
  each = λ x. (b.right x, λ h. complete weighty (views_of nodes) (length nodes) flags b (λ place next e. begun_there weighty nodes place next (slice_get nodes place) refl e) h);
}

call_leads : (b : Bool) (next x : ℕ) → (if b then Some next else None) ≡ Some x → x ≡ next
call_leads true next x e = cc
call_leads false next x e = cc

-- a region begins only at a node to which the one before leads
pub begun_leads : (weighty : ℕ → Bool) (v : View) (x : ℕ) → begun_after weighty v ≡ Some x → Contains (led_to v) x
begun_leads weighty (Turns next) x e = (0, omega arith, cc)
begun_leads weighty (Calls function next) x e = (0, omega arith, sym (call_leads (weighty function) next x e))
begun_leads weighty v x e = cc
