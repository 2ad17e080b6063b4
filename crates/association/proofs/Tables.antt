-- The strength of a table by its four cells.
use Rattle.std.proofs.Common.{◌≡◌, ℕ, ◌+◌, ◌-◌, ◌*◌, ◌<◌, ◌≤◌, inl, inr, refl, sym, ap, subst, ◌∙◌, arith}
use Rattle.std.proofs.lemmas.Bool.{cases_eq, cases_lt}
use Rattle.std.proofs.Math.Nat.{mul-le-mul, mul-le-mul_left, mul-lt-mul_of_pos_right, mul-pos, mul_comm}
use Rattle.fractions.specs.declared.fraction.Fraction.{Fraction}
use Rattle.association.specs.declared.contingency.Contingency.{Contingency}
use Rattle.association.specs.Laws.{IsPerfect, roles_changed, sides_changed}
use Rattle.association.specs.Strength.{IsContingency, excess_of, margins_of, truth_margin_of, strength_of}
use Rattle.association.proofs.Shares.{part, part-none, part-some}

-- the table with these cells: failing runs in which it is true and in which it isn't are a and y, successful ones b and w
abbrev cells : ℕ → ℕ → ℕ → ℕ → Contingency
cells a b y w = record { a = a; b = b; failing = a + y; successful = b + w }

table-is : (t : Contingency) → IsContingency t → t ≡ cells t.a t.b (t.failing - t.a) (t.successful - t.b)
table-is t is =
    let make : ℕ → ℕ → Contingency = λ f s. record { a = t.a; b = t.b; failing = f; successful = s } in
    let f : t.failing ≡ t.a + (t.failing - t.a) = omega (arith, is.some_failing) in
    let s : t.successful ≡ t.b + (t.successful - t.b) = omega (arith, is.some_successful) in
    ap (λ n. make n t.successful) f ∙ ap (make (t.a + (t.failing - t.a))) s

parts-same : (e d f g : ℕ) → e ≡ f → d ≡ g → part e d ≡ part f g
parts-same e d f g one other = ap (λ n. part n d) one ∙ ap (part f) other

excess-cells : (a b y w : ℕ) → a * (b + w) - b * (a + y) ≡ a * w - b * y
excess-cells a b y w = omega arith

rest-cells : (a b y w : ℕ) → (a + y) + (b + w) - (a + b) ≡ y + w
rest-cells a b y w = omega arith

spread-cells : (a b y w : ℕ) → truth_margin_of (cells a b y w) ≡ (a + b) * (y + w)
spread-cells a b y w = ap (λ n. (a + b) * n) (rest-cells a b y w)

roles-excess : (a b y w : ℕ) → excess_of (roles_changed (cells a b y w)) ≡ excess_of (cells a b y w)
roles-excess a b y w =
    let gone : (a + y) - a ≡ y = omega arith in
    let turned : a * (y + w) - y * (a + b) ≡ a * (b + w) - b * (a + y) = omega arith in
    ap (λ n. a * n - ((a + y) - a) * (a + b)) (rest-cells a b y w) ∙ ap (λ n. a * (y + w) - n * (a + b)) gone ∙ turned

roles-spread : (a b y w : ℕ) → truth_margin_of (roles_changed (cells a b y w)) ≡ (a + y) * (b + w)
roles-spread a b y w =
    let gone : (a + y) - a ≡ y = omega arith in
    let rest : (a + b) + (y + w) - (a + y) ≡ b + w = omega arith in
    ap (λ n. (a + n) * ((a + b) + ((a + y) + (b + w) - (a + b)) - (a + n))) gone ∙ ap (λ n. (a + y) * ((a + b) + n - (a + y))) (rest-cells a b y w) ∙ ap (λ n. (a + y) * n) rest

roles-margins : (a b y w : ℕ) → margins_of (roles_changed (cells a b y w)) ≡ margins_of (cells a b y w)
roles-margins a b y w =
    ap (λ n. (a + b) * ((a + y) + (b + w) - (a + b)) * n) (roles-spread a b y w) ∙ mul_comm ((a + b) * ((a + y) + (b + w) - (a + b))) ((a + y) * (b + w))

roles-cells : (a b y w : ℕ) → strength_of (roles_changed (cells a b y w)) ≡ strength_of (cells a b y w)
roles-cells a b y w =
    parts-same (excess_of (roles_changed (cells a b y w))) (margins_of (roles_changed (cells a b y w))) (excess_of (cells a b y w)) (margins_of (cells a b y w)) (roles-excess a b y w) (roles-margins a b y w)

pub roles-same : (t : Contingency) → IsContingency t → strength_of (roles_changed t) ≡ strength_of t
roles-same t is =
    let whole : t ≡ cells t.a t.b (t.failing - t.a) (t.successful - t.b) = table-is t is in
    subst (λ (x : Contingency). strength_of (roles_changed x) ≡ strength_of x) (sym whole) (roles-cells t.a t.b (t.failing - t.a) (t.successful - t.b))

sides-excess : (a b y w : ℕ) → excess_of (sides_changed (cells a b y w)) ≡ excess_of (cells a b y w)
sides-excess a b y w =
    let one : (b + w) - b ≡ w = omega arith in
    let other : (a + y) - a ≡ y = omega arith in
    let turned : w * (a + y) - y * (b + w) ≡ a * (b + w) - b * (a + y) = omega arith in
    ap (λ n. n * (a + y) - ((a + y) - a) * (b + w)) one ∙ ap (λ n. w * (a + y) - n * (b + w)) other ∙ turned

sides-spread : (a b y w : ℕ) → truth_margin_of (sides_changed (cells a b y w)) ≡ (a + b) * (y + w)
sides-spread a b y w =
    let one : (b + w) - b ≡ w = omega arith in
    let other : (a + y) - a ≡ y = omega arith in
    let rest : (b + w) + (a + y) - (w + y) ≡ a + b = omega arith in
    ap (λ n. (n + ((a + y) - a)) * ((b + w) + (a + y) - (n + ((a + y) - a)))) one ∙ ap (λ n. (w + n) * ((b + w) + (a + y) - (w + n))) other
    ∙ ap (λ n. (w + y) * n) rest ∙ omega arith

sides-margins : (a b y w : ℕ) → margins_of (sides_changed (cells a b y w)) ≡ margins_of (cells a b y w)
sides-margins a b y w =
    ap (λ n. (b + w) * (a + y) * n) (sides-spread a b y w) ∙ ap (λ n. n * ((a + b) * (y + w))) (mul_comm (b + w) (a + y))
    ∙ sym (ap (λ n. (a + y) * (b + w) * n) (spread-cells a b y w))

sides-cells : (a b y w : ℕ) → strength_of (sides_changed (cells a b y w)) ≡ strength_of (cells a b y w)
sides-cells a b y w =
    parts-same (excess_of (sides_changed (cells a b y w))) (margins_of (sides_changed (cells a b y w))) (excess_of (cells a b y w)) (margins_of (cells a b y w)) (sides-excess a b y w) (sides-margins a b y w)

pub sides-same : (t : Contingency) → IsContingency t → strength_of (sides_changed t) ≡ strength_of t
sides-same t is =
    let whole : t ≡ cells t.a t.b (t.failing - t.a) (t.successful - t.b) = table-is t is in
    subst (λ (x : Contingency). strength_of (sides_changed x) ≡ strength_of x) (sym whole) (sides-cells t.a t.b (t.failing - t.a) (t.successful - t.b))

-- the excess is at most both factors of the margins
excess-totals : (a b y w : ℕ) → a * (b + w) - b * (a + y) ≤ (a + y) * (b + w)
excess-totals a b y w = omega arith

excess-spread : (a b y w : ℕ) → a * (b + w) - b * (a + y) ≤ (a + b) * (y + w)
excess-spread a b y w = omega arith

square-most : (a b y w : ℕ) → excess_of (cells a b y w) * excess_of (cells a b y w) ≤ margins_of (cells a b y w)
square-most a b y w =
    subst (λ n. excess_of (cells a b y w) * excess_of (cells a b y w) ≤ (a + y) * (b + w) * n) (sym (spread-cells a b y w)) (mul-le-mul (excess-totals a b y w) (excess-spread a b y w))

at-most-cells : (a b y w : ℕ) → (strength_of (cells a b y w)).top ≤ (strength_of (cells a b y w)).bottom
at-most-cells a b y w =
    let e = excess_of (cells a b y w) in
    let m = margins_of (cells a b y w) in
    elim (cases_eq m 0) [
      | inl zero_is ↦ subst (λ (f : Fraction). f.top ≤ f.bottom) (sym (part-none e m zero_is)) (omega arith)
      | inr some ↦ subst (λ (f : Fraction). f.top ≤ f.bottom) (sym (part-some e m (omega (arith, some)))) (square-most a b y w)
    ]

pub none-above-one : (t : Contingency) → IsContingency t → (strength_of t).top ≤ (strength_of t).bottom
none-above-one t is =
    let whole : t ≡ cells t.a t.b (t.failing - t.a) (t.successful - t.b) = table-is t is in
    subst (λ (x : Contingency). (strength_of x).top ≤ (strength_of x).bottom) (sym whole) (at-most-cells t.a t.b (t.failing - t.a) (t.successful - t.b))

perfect-cells : (f s : ℕ) → 0 < f → 0 < s → (strength_of (record { a = f; b = 0; failing = f; successful = s })).top ≡ (strength_of (record { a = f; b = 0; failing = f; successful = s })).bottom
perfect-cells f s one other =
    let t : Contingency = record { a = f; b = 0; failing = f; successful = s } in
    let e : f * s - 0 * f ≡ f * s = omega arith in
    let left : f + s - (f + 0) ≡ s = omega arith in
    let m : f * s * ((f + 0) * (f + s - (f + 0))) ≡ f * s * (f * s) = ap (λ n. f * s * ((f + 0) * n)) left ∙ omega arith in
    let some : 0 < f * s * (f * s) = mul-pos (mul-pos one other) (mul-pos one other) in
    let is = parts-same (f * s - 0 * f) (f * s * ((f + 0) * (f + s - (f + 0)))) (f * s) (f * s * (f * s)) e m ∙ part-some (f * s) (f * s * (f * s)) some in
    subst (λ (x : Fraction). x.top ≡ x.bottom) (sym is) refl

pub perfect-is-one : (t : Contingency) → IsPerfect t → (strength_of t).top ≡ (strength_of t).bottom
perfect-is-one t is =
    let make : ℕ → ℕ → Contingency = λ a b. record { a = a; b = b; failing = t.failing; successful = t.successful } in
    let whole : t ≡ make t.failing 0 = ap (λ n. make n t.b) is.all_failing ∙ ap (make t.failing) is.no_other in
    subst (λ (x : Contingency). (strength_of x).top ≡ (strength_of x).bottom) (sym whole) (perfect-cells t.failing t.successful is.some_fail is.some_succeed)

-- a square that is the product of two numbers, which are at least its side and positive, has the first as its side
side-is : (e x z : ℕ) → e ≤ x → e ≤ z → 0 < z → e * e ≡ x * z → e ≡ x
side-is e x z one other positive square =
    elim (cases_lt e x) [
      | inl less ↦ absurd (omega (arith, square, mul-le-mul_left e other, mul-lt-mul_of_pos_right less positive))
      | inr most ↦ omega (arith, one, most)
    ]

-- a product is positive only where its factors are
factors : (x z : ℕ) → 0 < x * z → (0 < x) × (0 < z)
factors x z some =
    elim (cases_eq x 0) [
      | inl none ↦ absurd (omega (arith, some, ap (λ n. n * z) none))
      | inr x_some ↦
          elim (cases_eq z 0) [
            | inl none ↦ absurd (omega (arith, some, ap (λ n. x * n) none))
            | inr z_some ↦ (omega (arith, x_some), omega (arith, z_some))
          ]
    ]

no-product : (x z : ℕ) → 0 < x → x * z ≡ 0 → z ≡ 0
no-product x z some none =
    elim (cases_eq z 0) [
      | inl zero_is ↦ zero_is
      | inr more ↦
          let z_some : 0 < z = omega (arith, more) in
          absurd (omega (arith, none, mul-pos some z_some))
    ]

perfect-by : (a b y w : ℕ) → 0 < (a + y) * (b + w) → a * (b + w) - b * (a + y) ≡ (a + y) * (b + w) → (y ≡ 0) × (b ≡ 0)
perfect-by a b y w some all =
    let both = factors (a + y) (b + w) some in
    let least : a * w - b * y ≡ (a + y) * (b + w) = sym (excess-cells a b y w) ∙ all in
    let products : a * b + y * b + y * w ≡ 0 = omega (arith, least) in
    let b_none : b ≡ 0 = no-product (a + y) b both.0 (omega (arith, products)) in
    let w_some : 0 < w = omega (arith, both.1, b_none) in
    let y_none : y ≡ 0 = no-product w y w_some (omega (arith, products)) in
    (y_none, b_none)

only-some : (a b y w : ℕ) → 0 < margins_of (cells a b y w) → excess_of (cells a b y w) * excess_of (cells a b y w) ≡ margins_of (cells a b y w) → IsPerfect (cells a b y w)
only-some a b y w some all =
    let parts = factors ((a + y) * (b + w)) (truth_margin_of (cells a b y w)) some in
    let totals = factors (a + y) (b + w) parts.0 in
    let below : excess_of (cells a b y w) ≤ truth_margin_of (cells a b y w) = subst (λ n. excess_of (cells a b y w) ≤ n) (sym (spread-cells a b y w)) (excess-spread a b y w) in
    let side = side-is (excess_of (cells a b y w)) ((a + y) * (b + w)) (truth_margin_of (cells a b y w)) (excess-totals a b y w) below parts.1 all in
    let gone = perfect-by a b y w parts.0 side in record {
      some_fail = totals.0;
      some_succeed = totals.1;
      all_failing = omega (arith, gone.0);
      no_other = gone.1;
    }

only-cells : (a b y w : ℕ) → (strength_of (cells a b y w)).top ≡ (strength_of (cells a b y w)).bottom → IsPerfect (cells a b y w)
only-cells a b y w one =
    let e = excess_of (cells a b y w) in
    let m = margins_of (cells a b y w) in
    elim (cases_eq m 0) [
      | inl zero_is ↦
          let bad : ◌≡◌ {A = ℕ} 0 1 = subst (λ (f : Fraction). f.top ≡ f.bottom) (part-none e m zero_is) one in
          absurd (omega (arith, bad))
      | inr some ↦
          let more : 0 < m = omega (arith, some) in
          only-some a b y w more (subst (λ (f : Fraction). f.top ≡ f.bottom) (part-some e m more) one)
    ]

pub only-perfect : (t : Contingency) → IsContingency t → (strength_of t).top ≡ (strength_of t).bottom → IsPerfect t
only-perfect t is =
    let whole : t ≡ cells t.a t.b (t.failing - t.a) (t.successful - t.b) = table-is t is in
    subst (λ (x : Contingency). (strength_of x).top ≡ (strength_of x).bottom → IsPerfect x) (sym whole) (only-cells t.a t.b (t.failing - t.a) (t.successful - t.b))
