-- Strengths over the same runs compare as they do without the totals that they share.
use Rattle.std.proofs.Common.{◌≡◌, ℕ, ◌-◌, ◌*◌, ◌<◌, ◌≤◌, inl, inr, cond, refl, sym, ap, ◌∙◌, arith}
use Rattle.std.specs.Prelude.{◌==◌}
use Rattle.std.specs.Ordering.{nat_cmp}
use Rattle.std.specs.declared.cmp.Ordering.TheVariants.{Less, Equal, Greater}
use Rattle.std.proofs.lemmas.Bool.{cases_eq, cases_order, eq-eqb, le-ltb, lt-ltb, ne_eqb}
use Rattle.std.proofs.Math.Nat.{mul-lt-mul_of_pos_left, mul-pos}
use Rattle.fractions.specs.declared.fraction.Fraction.{Fraction}
use Rattle.fractions.specs.Fraction.{fraction_cmp}
use Rattle.association.specs.declared.contingency.Contingency.{Contingency}
use Rattle.association.specs.Strength.{AreOfOneList, IsContingency, excess_of, share_of, truth_margin_of, strength_of}

cmp-less : (x y : ℕ) → x < y → nat_cmp x y ≡ Less
cmp-less x y less = ap (λ b. cond b Less (cond (x == y) Equal Greater)) (lt-ltb x y less)

cmp-equal : (x y : ℕ) → x ≡ y → nat_cmp x y ≡ Equal
cmp-equal x y same = ap (λ b. cond b Less (cond (x == y) Equal Greater)) (le-ltb x y (omega (arith, same))) ∙ ap (λ b. cond b Equal Greater) (eq-eqb x y same)

not-same : (x y : ℕ) → y < x → x ≡ y → ⊥
not-same x y more same = omega arith

cmp-greater : (x y : ℕ) → y < x → nat_cmp x y ≡ Greater
cmp-greater x y more = ap (λ b. cond b Less (cond (x == y) Equal Greater)) (le-ltb x y (omega (arith, more))) ∙ ap (λ b. cond b Equal Greater) (ne_eqb x y (not-same x y more))

-- two numbers compare as they do times a positive one
cmp-scaled : (k x y : ℕ) → 0 < k → nat_cmp x y ≡ nat_cmp (k * x) (k * y)
cmp-scaled k x y positive =
    elim (cases_order x y) [
      | inl same ↦ cmp-equal x y same ∙ sym (cmp-equal (k * x) (k * y) (ap (λ n. k * n) same))
      | inr (inl less) ↦ cmp-less x y less ∙ sym (cmp-less (k * x) (k * y) (mul-lt-mul_of_pos_left less positive))
      | inr (inr more) ↦ cmp-greater x y more ∙ sym (cmp-greater (k * x) (k * y) (mul-lt-mul_of_pos_left more positive))
    ]

cmp-same : (x y u v : ℕ) → x ≡ u → y ≡ v → nat_cmp x y ≡ nat_cmp u v
cmp-same x y u v one other = ap (λ n. nat_cmp n y) one ∙ ap (nat_cmp u) other

-- a square over a number, and 0 where that is 0
abbrev pub part : ℕ → ℕ → Fraction
part e d = cond (d == 0) (record { top = 0; bottom = 1 }) (record { top = e * e; bottom = d })

abbrev none : Fraction
none = record { top = 0; bottom = 1 }

abbrev over : ℕ → ℕ → Fraction
over e d = record { top = e * e; bottom = d }

pub part-none : (e d : ℕ) → d ≡ 0 → part e d ≡ none
part-none e d zero_is = ap (λ b. cond b none (over e d)) (eq-eqb d 0 zero_is)

pub part-some : (e d : ℕ) → 0 < d → part e d ≡ over e d
part-some e d some = ap (λ b. cond b none (over e d)) (ne_eqb d 0 (not-same d 0 some))

both : (x y u v : Fraction) → x ≡ u → y ≡ v → fraction_cmp x y ≡ fraction_cmp u v
both x y u v one other = ap (λ n. fraction_cmp n y) one ∙ ap (fraction_cmp u) other

-- where the factor is 0 both tops are
zero-top : (d : ℕ) → (part 0 d).top ≡ 0
zero-top d =
    elim (cases_eq d 0) [
      | inl zero_is ↦ ap (λ (f : Fraction). f.top) (part-none 0 d zero_is)
      | inr some ↦ ap (λ (f : Fraction). f.top) (part-some 0 d (omega (arith, some)))
    ]

zero-cmp : (d g : ℕ) → fraction_cmp (part 0 d) (part 0 g) ≡ Equal
zero-cmp d g =
    let one : (part 0 d).top * (part 0 g).bottom ≡ 0 = ap (λ n. n * (part 0 g).bottom) (zero-top d) ∙ omega arith in
    let other : (part 0 g).top * (part 0 d).bottom ≡ 0 = ap (λ n. n * (part 0 d).bottom) (zero-top g) ∙ omega arith in
    cmp-equal ((part 0 d).top * (part 0 g).bottom) ((part 0 g).top * (part 0 d).bottom) (one ∙ sym other)

zero-part : (k e d f g : ℕ) → e ≡ 0 → f ≡ 0 → fraction_cmp (part e d) (part f g) ≡ fraction_cmp (part e (k * d)) (part f (k * g))
zero-part k e d f g one other =
    both (part e d) (part f g) (part 0 d) (part 0 g) (ap (λ n. part n d) one) (ap (λ n. part n g) other)
    ∙ zero-cmp d g ∙ sym (zero-cmp (k * d) (k * g))
    ∙ sym (both (part e (k * d)) (part f (k * g)) (part 0 (k * d)) (part 0 (k * g)) (ap (λ n. part n (k * d)) one) (ap (λ n. part n (k * g)) other))

some-part : (k e d f g : ℕ) → 0 < k → fraction_cmp (part e d) (part f g) ≡ fraction_cmp (part e (k * d)) (part f (k * g))
some-part k e d f g positive =
    elim (cases_eq d 0) [
      | inl d_none ↦
          let kd_none : k * d ≡ 0 = ap (λ n. k * n) d_none ∙ omega arith in
          elim (cases_eq g 0) [
            | inl g_none ↦
                let kg_none : k * g ≡ 0 = ap (λ n. k * n) g_none ∙ omega arith in
                both (part e d) (part f g) none none (part-none e d d_none) (part-none f g g_none)
                ∙ sym (both (part e (k * d)) (part f (k * g)) none none (part-none e (k * d) kd_none) (part-none f (k * g) kg_none))
            | inr g_some ↦
                let g_more : 0 < g = omega (arith, g_some) in
                both (part e d) (part f g) none (over f g) (part-none e d d_none) (part-some f g g_more)
                ∙ cmp-same (0 * g) (f * f * 1) (0 * (k * g)) (f * f * 1) (omega arith) refl
                ∙ sym (both (part e (k * d)) (part f (k * g)) none (over f (k * g)) (part-none e (k * d) kd_none) (part-some f (k * g) (mul-pos positive g_more)))
          ]
      | inr d_some ↦
          let d_more : 0 < d = omega (arith, d_some) in
          elim (cases_eq g 0) [
            | inl g_none ↦
                let kg_none : k * g ≡ 0 = ap (λ n. k * n) g_none ∙ omega arith in
                both (part e d) (part f g) (over e d) none (part-some e d d_more) (part-none f g g_none)
                ∙ cmp-same (e * e * 1) (0 * d) (e * e * 1) (0 * (k * d)) refl (omega arith)
                ∙ sym (both (part e (k * d)) (part f (k * g)) (over e (k * d)) none (part-some e (k * d) (mul-pos positive d_more)) (part-none f (k * g) kg_none))
            | inr g_some ↦
                let g_more : 0 < g = omega (arith, g_some) in
                both (part e d) (part f g) (over e d) (over f g) (part-some e d d_more) (part-some f g g_more)
                ∙ cmp-scaled k (e * e * g) (f * f * d) positive
                ∙ cmp-same (k * (e * e * g)) (k * (f * f * d)) (e * e * (k * g)) (f * f * (k * d)) (omega arith) (omega arith)
                ∙ sym (both (part e (k * d)) (part f (k * g)) (over e (k * d)) (over f (k * g)) (part-some e (k * d) (mul-pos positive d_more)) (part-some f (k * g) (mul-pos positive g_more)))
          ]
    ]

parts-compare : (k e d f g : ℕ) → (k ≡ 0 → e ≡ 0) → (k ≡ 0 → f ≡ 0) → fraction_cmp (part e d) (part f g) ≡ fraction_cmp (part e (k * d)) (part f (k * g))
parts-compare k e d f g one other =
    elim (cases_eq k 0) [
      | inl zero_is ↦ zero-part k e d f g (one zero_is) (other zero_is)
      | inr some ↦ some-part k e d f g (omega (arith, some))
    ]

-- without failing or without successful runs there is no excess
excess-none : (a b f s : ℕ) → a ≤ f → b ≤ s → f * s ≡ 0 → a * s - b * f ≡ 0
excess-none a b f s one other none_is =
    elim (cases_eq f 0) [
      | inl zero_is ↦ let a_none : a ≡ 0 = omega (arith, one, zero_is) in ap (λ n. n * s - b * f) a_none ∙ omega arith
      | inr some ↦
          elim (cases_eq s 0) [
            | inl zero_is ↦ ap (λ n. a * n - b * f) zero_is ∙ omega arith
            | inr more ↦
                let f_more : 0 < f = omega (arith, some) in
                let s_more : 0 < s = omega (arith, more) in
                absurd (not-same (f * s) 0 (mul-pos f_more s_more) none_is)
          ]
    ]

pub shares-compare : (t u : Contingency) → IsContingency t → IsContingency u → AreOfOneList t u → fraction_cmp (share_of t) (share_of u) ≡ fraction_cmp (strength_of t) (strength_of u)
shares-compare t u one other list =
    let same : t.failing * t.successful ≡ u.failing * u.successful = ap (λ n. n * t.successful) list.failing ∙ ap (λ n. u.failing * n) list.successful in
    parts-compare (t.failing * t.successful) (excess_of t) (truth_margin_of t) (excess_of u) (truth_margin_of u)
    (excess-none t.a t.b t.failing t.successful one.some_failing one.some_successful)
    (λ zero_is. excess-none u.a u.b u.failing u.successful other.some_failing other.some_successful (sym same ∙ zero_is))
    ∙ ap (λ n. fraction_cmp (strength_of t) (part (excess_of u) (n * truth_margin_of u))) same
