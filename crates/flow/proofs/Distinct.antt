-- Names that are looked up in a map of those that came before.
use Rattle.std.proofs.Common.{◌≡◌, ℕ, ◌+◌, ◌<◌, ◌≤◌, ◌⊎◌, inl, inr, Bool, true, false, cond, List, Option, Some, None, length, slice_get, refl, sym, ◌∙◌, ap, arith, below_more}
use Rattle.std.specs.Str.{bytes_eq}
use Rattle.std.specs.Map.{update}
use Rattle.std.proofs.lemmas.Slice.Eq.{bytes_eq-Decides}
use Rattle.std.proofs.lemmas.Option.{slice_get_within}
use Rattle.std.specs.Prelude.{is_some, option_copied}
use Rattle.std.specs.Ordering.{nat_cmp}
use Rattle.std.specs.Borrow.{Bor}
use Rattle.std.specs.BTreeMap.{BTreeMap, get_by}
use Rattle.std.specs.Cmp.Lexicographic.{slice_cmp}
use Rattle.flow.specs.declared.program.Function.{Function}
use Rattle.flow.specs.Program.{AreDistinct}

-- whether the map has a name
abbrev pub has : BTreeMap (Bor (List ℕ)) Unit → List ℕ → Bool
has known name = is_some (get_by (λ k. slice_cmp nat_cmp name k.now) known)

-- what a look-up found
pub has_is : (name : List ℕ) (known : BTreeMap (Bor (List ℕ)) Unit) (found : Option (Bor Unit)) (b : Bool) →
    option_copied found ≡ get_by (λ k. slice_cmp nat_cmp name k.now) known → is_some found ≡ b → has known name ≡ b
has_is name known None b p q = ap is_some (sym p) ∙ q
has_is name known (Some x) b p q = ap is_some (sym p) ∙ q

-- the map has the names of the functions before this place and no others, and these are distinct
pub record KnowsNames (known : BTreeMap (Bor (List ℕ)) Unit) (functions : List Function) (place : ℕ) : Type 0 where
  pub knows : (i : ℕ) (f : Function) → i < place → slice_get functions i ≡ Some f → has known f.name ≡ true
  pub only : (name : List ℕ) → has known name ≡ true → (i : ℕ) × (f : Function) × (i < place) × (slice_get functions i ≡ Some f) × (f.name ≡ name)
  pub distinct : (i j : ℕ) (f g : Function) → i < place → j < place → slice_get functions i ≡ Some f → slice_get functions j ≡ Some g → f.name ≡ g.name → i ≡ j

-- the map `new` is `known` with one more name
pub record OneMore (name : List ℕ) (known new : BTreeMap (Bor (List ℕ)) Unit) : Type 0 where
  pub each : (q : List ℕ) → get_by (λ k. slice_cmp nat_cmp q k.now) new ≡ update bytes_eq (λ p. get_by (λ k. slice_cmp nat_cmp p k.now) known) name (Some tt) q

still : (b : Bool) (old : Option Unit) → is_some old ≡ true → is_some (cond b (Some tt) old) ≡ true
still true old h = refl
still false old h = h

either : (b : Bool) (old : Option Unit) → is_some (cond b (Some tt) old) ≡ true → (b ≡ true) ⊎ (is_some old ≡ true)
either true old h = inl refl
either false old h = inr h

reached : (b : Bool) (old : Option Unit) → b ≡ true → is_some (cond b (Some tt) old) ≡ true
reached true old h = refl
reached false old h = cc

module _ (name : List ℕ) (known new : BTreeMap (Bor (List ℕ)) Unit) (more : OneMore name known new) where
  has_old : (q : List ℕ) → has known q ≡ true → has new q ≡ true
  has_old q h = ap is_some (more.each q) ∙ still (bytes_eq name q) (get_by (λ k. slice_cmp nat_cmp q k.now) known) h

  has_name : (q : List ℕ) → name ≡ q → has new q ≡ true
  has_name q e = ap is_some (more.each q) ∙ reached (bytes_eq name q) (get_by (λ k. slice_cmp nat_cmp q k.now) known) ((bytes_eq-Decides name q).1 e)

  has_either : (q : List ℕ) → has new q ≡ true → (name ≡ q) ⊎ (has known q ≡ true)
  has_either q h =
      elim (either (bytes_eq name q) (get_by (λ k. slice_cmp nat_cmp q k.now) known) (ap is_some (sym (more.each q)) ∙ h)) [
        | inl b ↦ inl ((bytes_eq-Decides name q).0 b)
        | inr o ↦ inr o
      ]

same_function : (f g : Function) (found : Option Function) → found ≡ Some f → found ≡ Some g → f ≡ g
same_function f g found p q = cc

-- one more function, whose name isn't known yet
pub one_more : (name : List ℕ) (known new : BTreeMap (Bor (List ℕ)) Unit) (functions : List Function) (place : ℕ) (f : Function) →
    OneMore name known new → KnowsNames known functions place → slice_get functions place ≡ Some f → f.name ≡ name → has known name ≡ false →
    KnowsNames new functions (place + 1)
one_more name known new functions place f more before at e fresh =
    let no : (i : ℕ) (g : Function) → i < place → slice_get functions i ≡ Some g → g.name ≡ f.name → ⊥ =
    λ i g l there same. let h = before.knows i g l there in let t = ap (has known) (same ∙ e) in cc
    in
    record {
      knows = λ i g l there. below_more (λ j. (h : Function) → slice_get functions j ≡ Some h → has new h.name ≡ true) place
          (λ j m h at_j. has_old name known new more h.name (before.knows j h m at_j))
          (λ h at_j. has_name name known new more h.name (sym e ∙ ap (λ (x : Function). x.name) (same_function f h (slice_get functions place) at at_j)))
          i l g there;
      only = λ q h. elim (has_either name known new more q h) [
        | inl same ↦ (place, f, omega arith, at, e ∙ same)
        | inr old ↦ let o = before.only q old in (o.0, o.1, omega (arith, o.2), o.3, o.4)
      ];
      distinct = λ i j g h l m at_i at_j same. below_more
          (λ a. (x : Function) → slice_get functions a ≡ Some x → x.name ≡ h.name → a ≡ j) place
          (λ a n x at_a named. below_more (λ b. (y : Function) → slice_get functions b ≡ Some y → x.name ≡ y.name → a ≡ b) place
          (λ b o y at_b alike. before.distinct a b x y n o at_a at_b alike)
          (λ y at_b alike. absurd (no a x n at_a (alike ∙ ap (λ (z : Function). z.name) (same_function y f (slice_get functions place) at_b at))))
          j m h at_j named)
          (λ x at_a named. below_more (λ b. (y : Function) → slice_get functions b ≡ Some y → x.name ≡ y.name → place ≡ b) place
          (λ b o y at_b alike. absurd (no b y o at_b (sym alike ∙ ap (λ (z : Function). z.name) (same_function x f (slice_get functions place) at_a at))))
          (λ y at_b alike. refl)
          j m h at_j named)
          i l g at_i same;
    }

-- after the last one all are distinct
pub all_distinct : (known : BTreeMap (Bor (List ℕ)) Unit) (functions : List Function) (place : ℕ) → length functions ≤ place → KnowsNames known functions place → AreDistinct functions
all_distinct known functions place past k = record {
  each = λ i j f g at_i at_j same.
      let l = slice_get_within functions i f at_i in
      let m = slice_get_within functions j g at_j in
      k.distinct i j f g (omega (arith, l, past)) (omega (arith, m, past)) at_i at_j same;
}

-- a function whose name is known isn't distinct from those before it
pub not_distinct : (known : BTreeMap (Bor (List ℕ)) Unit) (functions : List Function) (place : ℕ) (f : Function) →
    KnowsNames known functions place → slice_get functions place ≡ Some f → has known f.name ≡ true → AreDistinct functions → ⊥
not_distinct known functions place f k at h are =
    let o = k.only f.name h in
    let same = are.each o.0 place o.1 f o.3 at o.4 in
    let before = o.2 in
    omega arith
