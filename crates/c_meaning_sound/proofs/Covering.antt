-- Sites that look at new values stand where a variable that holds a number gets one.
use Rattle.std.proofs.Common.{◌⊎◌, inl, inr, ⊎_elim, ◌≡◌, ℕ, ◌≤◌, ◌<◌, refl, ap, subst, sym, ◌∙◌, arith, List, [], ◌∷◌, ◌++◌, Some, None, Bool, true, false}
use Rattle.std.specs.Prelude.{Option, if◌then◌else◌}
use Rattle.std.specs.List.{AllByRecursion}
use Rattle.std.specs.Option.{option_map}
use Rattle.std.proofs.lemmas.Bool.{false≢true}
use Rattle.std.proofs.lemmas.Option.{same_Some}
use Rattle.c_meaning_laws.proofs.Assigned.{taken_scalar}
use Rattle.base_lists.proofs.Every.{all_so}
use Rattle.c_syntax.specs.Words.{SourceTree, ExprTree}
use Rattle.c_syntax.specs.ExprTree as e
use Rattle.c_types_rules.proofs.Same.{equal}
use Rattle.c_types_rules.specs.TypeTree as t
use Rattle.c_types_rules.specs.Words.{TypeTree, is_arithmetic, is_scalar}
use Rattle.c_types_expressions.specs.declared.walk.Walk.{Walk}
use Rattle.c_types.specs.Answers.{declared_at, type_at}
use Rattle.flow.specs.declared.site.Slot.{Slot}
use Rattle.flow.specs.declared.site.Slot.TheVariants as slot
use Rattle.c_meaning.specs.declared.value_type.ValueType.{ValueType}
use Rattle.c_meaning.specs.declared.value_type.ValueType.TheVariants as type
use Rattle.c_meaning.specs.Words.{is_null_as, Sites, computed_type, facts_of, Assignment, Plain, By, type_of}
use Rattle.c_meaning_laws.specs.Rules.{Assigns, IsNumberType, IsScalar}
use Rattle.c_meaning_laws.specs.Typed.{AllLookAt, HasSlot, LooksAt, PairsFit, Typed, variable_named}
use Rattle.c_meaning_laws.specs.TypedStatements.{IsLocal}
use Rattle.c_meaning_sound.proofs.Noting.{facts, is_of, is_same, none, slot_named}
use Rattle.sites.specs.declared.spots.Spot.{Spot}
use Rattle.sites.specs.declared.spots.Spot.TheVariants as spot
use Rattle.sites.specs.Spots.{change_spots, named_token}
use Rattle.sites.proofs.Rises.{Rises}

-- a variable that gets a new value at the token, and of whose name's token this holds
abbrev pub Has : (ℕ → Type 0) → ℕ → List Spot → Type 0
Has P token [] = ⊥
Has P token (spot.Change own target ∷ rest) = ((own ≡ token) × P target) ⊎ Has P token rest
Has P token (spot.Branch own word ∷ rest) = Has P token rest
Has P token (spot.Call own name ∷ rest) = Has P token rest
Has P token (spot.Constant value ∷ rest) = Has P token rest

pub has_within : (P : ℕ → Type 0) (token low high : ℕ) (xs : List Spot) → Rises low high xs → Has P token xs → (low ≤ token) × (token < high)
has_within P token low high [] r h = absurd h
has_within P token low high (spot.Change own target ∷ rest) r h = ⊎_elim (λ x. (omega (arith, x.0, r.0), omega (arith, x.0, r.1)))
    (λ k. let q : (own ≤ token) × (token < high) = has_within P token own high rest r.2 k in (omega (arith, q.0, r.0), q.1)) h
has_within P token low high (spot.Branch own word ∷ rest) r h =
    let q : (own ≤ token) × (token < high) = has_within P token own high rest r.2 h in (omega (arith, q.0, r.0), q.1)
has_within P token low high (spot.Call own name ∷ rest) r h =
    let q : (own ≤ token) × (token < high) = has_within P token own high rest r.2 h in (omega (arith, q.0, r.0), q.1)
has_within P token low high (spot.Constant value ∷ rest) r h = has_within P token low high rest r h

pub has_either : (P : ℕ → Type 0) (token : ℕ) (xs ys : List Spot) → Has P token (xs ++ ys) → Has P token xs ⊎ Has P token ys
has_either P token [] ys h = inr h
has_either P token (spot.Change own target ∷ rest) ys h =
    ⊎_elim (λ x. inl (inl x)) (λ k. ⊎_elim (λ a. inl (inr a)) (λ b. inr b) (has_either P token rest ys k)) h
has_either P token (spot.Branch own word ∷ rest) ys h = has_either P token rest ys h
has_either P token (spot.Call own name ∷ rest) ys h = has_either P token rest ys h
has_either P token (spot.Constant value ∷ rest) ys h = has_either P token rest ys h

-- of two parts the one within whose tokens it stands
pub has_first : (P : ℕ → Type 0) (token c d : ℕ) (xs ys : List Spot) → Rises c d ys → token < c → Has P token (xs ++ ys) → Has P token xs
has_first P token c d xs ys r l h = ⊎_elim (λ a. a) (λ b. absurd (omega (arith, l, (has_within P token c d ys r b).0))) (has_either P token xs ys h)

pub has_second : (P : ℕ → Type 0) (token a b : ℕ) (xs ys : List Spot) → Rises a b xs → b ≤ token → Has P token (xs ++ ys) → Has P token ys
has_second P token a b xs ys r l h = ⊎_elim (λ k. absurd (omega (arith, l, (has_within P token a b xs r k).1))) (λ k. k) (has_either P token xs ys h)

module _ (tree : SourceTree) (z : Walk) (s : Sites) where
  -- the site looks at the variable whose name stands at this token, and which holds a number
  pub record Shows (target number : ℕ) : Type 0 where
    pub slot : Slot
    pub named : (facts_of tree z).slot_at target ≡ Some slot
    pub looks : LooksAt slot (s.site number)
    pub of : TypeTree
    pub declared : declared_at z target ≡ Some of
    pub arithmetic : is_arithmetic of ≡ true

  -- the sites among these tokens look at the new values of these spots
  abbrev pub Covers : ℕ → ℕ → List Spot → Type 0
  Covers lo hi xs = (token : ℕ) → lo ≤ token → token < hi → AllByRecursion (λ n. Has (λ target. Shows target n) token xs) (s.pairs_at token)

  pub narrow : (lo hi l h : ℕ) (xs ys : List Spot) → Covers lo hi xs → lo ≤ l → h ≤ hi
      → ((P : ℕ → Type 0) (token : ℕ) → l ≤ token → token < h → Has P token xs → Has P token ys) → Covers l h ys
  narrow lo hi l h xs ys k a b f token p q =
      all_so (λ n. Has (λ target. Shows target n) token xs) (λ n. Has (λ target. Shows target n) token ys) (s.pairs_at token)
      (λ n x. f (λ target. Shows target n) token p q x) (k token (omega (arith, a, p)) (omega (arith, b, q)))

  pub pairs_none : (v : Option Slot) (of : Option ValueType) (token : ℕ) (ns : List ℕ) → AllByRecursion (λ n. Has (λ target. Shows target n) token []) ns
      → PairsFit s v of ns
  pairs_none v of token [] h = tt
  pairs_none v of token (n ∷ ns) h = absurd h.0

  lone : (P : ℕ → Type 0) (own token target : ℕ) → Has P token (spot.Change own target ∷ []) → P target
  lone P own token target h = ⊎_elim (λ x. x.1) (λ b. absurd b) h

  all_look : (target own token : ℕ) (v : Slot) (ns : List ℕ) → (facts_of tree z).slot_at target ≡ Some v
      → AllByRecursion (λ n. Has (λ target. Shows target n) token (spot.Change own target ∷ [])) ns → AllLookAt s v ns
  all_look target own token v [] e h = tt
  all_look target own token v (n ∷ ns) e h =
      let k : Shows target n = lone (λ target. Shows target n) own token target h.0 in
      (subst (λ u. LooksAt u (s.site n)) (same_Some k.slot v (sym k.named ∙ e)) k.looks, all_look target own token v ns e h.1)

  pub pairs_named : (target own token : ℕ) (of : Option ValueType) (ns : List ℕ)
      → ((u : TypeTree) → declared_at z target ≡ Some u → is_arithmetic u ≡ true → IsNumberType of)
      → AllByRecursion (λ n. Has (λ target. Shows target n) token (spot.Change own target ∷ [])) ns → PairsFit s ((facts_of tree z).slot_at target) of ns
  pairs_named target own token of [] f h = tt
  pairs_named target own token of (n ∷ ns) f h =
      let k : Shows target n = lone (λ target. Shows target n) own token target h.0 in
      subst (λ v. PairsFit s v of (n ∷ ns)) (sym k.named) (f k.of k.declared k.arithmetic, all_look target own token k.slot (n ∷ ns) k.named h)

  -- a number's type
  pub arithmetic_number : (of : TypeTree) → is_arithmetic of ≡ true → IsNumberType (Some (computed_type z.structs of))
  arithmetic_number t.Char h = tt
  arithmetic_number t.Int h = tt
  arithmetic_number t.Unsigned h = tt
  arithmetic_number of h = absurd (false≢true h)

  pub declared_number : (target : ℕ) (u : TypeTree) → declared_at z target ≡ Some u → is_arithmetic u ≡ true → IsNumberType ((facts_of tree z).declared_at target)
  declared_number target u e h = subst IsNumberType (sym (ap (option_map (computed_type z.structs)) e)) (arithmetic_number u h)

  -- a variable is named with its own type
  module _ (c : ℕ) where
    if_slot : (b : Bool) (v : Option Slot) → HasSlot (facts tree z) none c (if b then v else None) → (b ≡ true) × HasSlot (facts_of tree z) s c v
    if_slot false v h = absurd h
    if_slot true None h = absurd h
    if_slot true (Some (slot.Local index)) h = (refl, h)
    if_slot true (Some (slot.Global index)) h = (refl, tt)

    real_slot : (v : Option Slot) → HasSlot (facts tree z) none c v → HasSlot (facts_of tree z) s c v
    real_slot None h = h
    real_slot (Some (slot.Local index)) h = h
    real_slot (Some (slot.Global index)) h = h

    pub has_slot : (of own : Option TypeTree) (v : Option Slot) → HasSlot (facts tree z) none c (slot_named of own v) → HasSlot (facts_of tree z) s c v
    has_slot None own v h = real_slot v h
    has_slot (Some of) own v h = (if_slot (is_of of own) v h).1

    if_local : (b : Bool) (v : Option Slot) → IsLocal (facts tree z) none c (if b then v else None) → IsLocal (facts_of tree z) s c v
    if_local false v h = absurd h
    if_local true v h = local_real v h
      where
        local_real : (v : Option Slot) → IsLocal (facts tree z) none c v → IsLocal (facts_of tree z) s c v
        local_real None h = h
        local_real (Some (slot.Local index)) h = h
        local_real (Some (slot.Global index)) h = h

    pub is_local : (of own : Option TypeTree) (v : Option Slot) → IsLocal (facts tree z) none c (slot_named of own v) → IsLocal (facts_of tree z) s c v
    is_local None own v h = if_local true v h
    is_local (Some of) own v h = if_local (is_of of own) v h

    same_by : (of : TypeTree) (own : Option TypeTree) → is_same of own ≡ true → own ≡ Some of
    same_by of None h = absurd (false≢true h)
    same_by of (Some u) h = ap (λ x. Some x) (equal u of h)

    own_by : (of : TypeTree) (own : Option TypeTree) (b : Bool) → b ≡ true → (if b then is_same of own else true) ≡ true → own ≡ Some of
    own_by of own true e h = same_by of own h
    own_by of own false e h = absurd (false≢true e)

    of_number : (of u : TypeTree) (own : Option TypeTree) → is_scalar of ≡ true → is_of of own ≡ true → own ≡ Some u → is_arithmetic u ≡ true
        → IsNumberType (Some (computed_type z.structs of))
    of_number of u own k h e a =
        let same : u ≡ of = same_Some u of (sym e ∙ own_by of own (is_scalar of) k h) in
        arithmetic_number of (subst (λ x. is_arithmetic x ≡ true) same a)

    scalar_by : (of : TypeTree) → IsScalar (Some (computed_type z.structs of)) → is_scalar of ≡ true
    scalar_by t.Void h = absurd h
    scalar_by (t.Array element size) h = absurd h
    scalar_by (t.Struct tag) h = absurd h
    scalar_by of h = refl

    pub name_number : (token : ℕ) (of : Option TypeTree) (v : Option Slot) → IsScalar (option_map (computed_type z.structs) of)
        → HasSlot (facts tree z) none c (slot_named of (declared_at z token) v)
        → (u : TypeTree) → declared_at z token ≡ Some u → is_arithmetic u ≡ true → IsNumberType (option_map (computed_type z.structs) of)
    name_number token None v k h u e a = absurd k
    name_number token (Some of) v k h u e a = of_number of u (declared_at z token) (scalar_by of k) (if_slot (is_of of (declared_at z token)) v h).0 e a

    nameless : (x : ExprTree) (token : ℕ) (ns : List ℕ) → AllByRecursion (λ n. Has (λ target. Shows target n) token []) ns
        → PairsFit s (variable_named (facts_of tree z) x) (type_of (facts_of tree z) x) ns
    nameless x token ns q = pairs_none (variable_named (facts_of tree z) x) (type_of (facts_of tree z) x) token ns q

    -- the sites at a new value of what an expression names
    pub target_fits : (x : ExprTree) (token : ℕ) (ns : List ℕ) → Typed (facts tree z) none c x → IsScalar (type_of (facts_of tree z) x)
        → AllByRecursion (λ n. Has (λ target. Shows target n) token (change_spots token (named_token x))) ns
        → PairsFit s (variable_named (facts_of tree z) x) (type_of (facts_of tree z) x) ns
    target_fits (e.Name own name) token ns h k q = pairs_named own token token (type_of (facts_of tree z) (e.Name own name)) ns
        (λ u d a. name_number own (type_at z own) _ k h.1 u d a) q
    target_fits x token ns h k q = nameless x token ns q

    pub assigns_scalar : (a : Assignment) (left : Option ValueType) (x : ExprTree) → Assigns (facts tree z) a left x → IsScalar left
    assigns_scalar Plain left x h = taken_scalar (is_null_as left x) left (type_of (facts tree z) x) h
    assigns_scalar (By o) left x h = h.0
