-- Where blocks begin, as it is found node after node.
use Rattle.std.proofs.Common.{◌≡◌, ◌⊎◌, inl, inr, ℕ, ◌+◌, ◌<◌, ◌≤◌, Bool, true, false, ◌||◌, cond, List, [], ◌∷◌, length, set, replicate, refl, sym, ap, ◌∙◌, subst, arith, length-set}
use Rattle.std.specs.List.{Contains}
use Rattle.std.proofs.lemmas.Bool.{cases_eq, cases_lt}
use Rattle.std.proofs.lemmas.List.{length-replicate}
use Rattle.base_lists.proofs.Every.{first_in, none_in, only_in, second_in, two_in}
use Rattle.flow.specs.declared.node.View.{View}
use Rattle.flow.specs.declared.node.View.TheVariants.{Row, Forks, Turns, Calls, Marks, Skips, Tests, Picks, Imports, Exports}
use Rattle.flow.specs.Nodes.{led_to}
use Rattle.regions.specs.Blocks.{IsStart, Entry, After, Joins, NodeLeadsTo, ends_block}
use Rattle.regions.specs.Flags.{AreFlags, is_in}
use Rattle.regions.specs.Noted.{Sets, at_entry, successor_noted, noted_all}
use Rattle.regions.proofs.FlagLemmas.{none_set, set_kept, set_only, set_same}

-- what the sets say of a set of steps from one node to another
pub record Known (at : ℕ → View) (Steps : ℕ → ℕ → Type 0) (s : Sets) : Type 0 where
  pub has : (place next : ℕ) → Steps place next → is_in s.led_to next ≡ true
  pub only : (next : ℕ) → is_in s.led_to next ≡ true → (place : ℕ) × Steps place next
  pub entry : is_in s.starts 0 ≡ true
  pub after : (place next : ℕ) → Steps place next → ends_block (at place) ≡ true → is_in s.starts next ≡ true
  pub joins : (one other next : ℕ) → one < other → Steps one next → Steps other next → is_in s.starts next ≡ true
  pub right : (next : ℕ) → is_in s.starts next ≡ true → IsStart at next

pub known_same : (at : ℕ → View) (E F : ℕ → ℕ → Type 0) (s : Sets) → Known at E s → ((place next : ℕ) → F place next → E place next) →
    ((place next : ℕ) → E place next → F place next) → Known at F s
known_same at E F s k to from = record {
  has = λ place next e. k.has place next (to place next e);
  only = λ next h. let r = k.only next h in (r.0, from r.0 next r.1);
  entry = k.entry;
  after = λ place next e. k.after place next (to place next e);
  joins = λ one other next l e f. k.joins one other next l (to one next e) (to other next f);
  right = k.right;
}

-- the steps that were noted, and one from this place
abbrev pub OneMore : (ℕ → ℕ → Type 0) → ℕ → ℕ → ℕ → ℕ → Type 0
OneMore E here x place next = E place next ⊎ ((place ≡ here) × (next ≡ x))

-- the steps that were noted are the graph's, from no later place; where one is from this place, its block ends there
pub record Earlier (at : ℕ → View) (E : ℕ → ℕ → Type 0) (here : ℕ) : Type 0 where
  pub leads : (place next : ℕ) → E place next → NodeLeadsTo at place next
  pub before : (place next : ℕ) → E place next → place ≤ here
  pub ends : (place next : ℕ) → E place next → place ≡ here → ends_block (at here) ≡ true

-- a step to a node where a block begins
known_start : (at : ℕ → View) (E : ℕ → ℕ → Type 0) (here x : ℕ) (led starts : List Bool) → Known at E (record { led_to = led; starts = starts }) → Earlier at E here →
    NodeLeadsTo at here x → x < length led → x < length starts → (ends_block (at here) ≡ true) ⊎ (is_in led x ≡ true) →
    Known at (OneMore E here x) (record { led_to = set led x true; starts = set starts x true })
known_start at E here x led starts k earlier lead in_led in_starts cause =
    let begins : IsStart at x =
    elim cause [
      | inl ends ↦ After here ends lead
      | inr seen ↦
          let from = k.only x seen in
          elim (cases_eq from.0 here) [
            | inl e ↦ After here (earlier.ends from.0 x from.1 e) lead
            | inr ne ↦ let l = earlier.before from.0 x from.1 in Joins from.0 here (omega arith) (earlier.leads from.0 x from.1) lead
          ]
    ]
    in
    record {
      has = λ place next e. elim e [ inl a ↦ set_kept led x next in_led (k.has place next a) | inr b ↦ set_same led x next b.1 in_led ];
      only = λ next h. elim (set_only led x next h) [ inl e ↦ (here, inr (refl, e)) | inr old ↦ let r = k.only next old in (r.0, inl r.1) ];
      entry = set_kept starts x 0 in_starts k.entry;
      after = λ place next e ends. elim e [
        | inl a ↦ set_kept starts x next in_starts (k.after place next a ends)
        | inr b ↦ set_same starts x next b.1 in_starts
      ];
      joins = λ one other next l e f. elim e [
        | inl a ↦ elim f [
          | inl c ↦ set_kept starts x next in_starts (k.joins one other next l a c)
          | inr c ↦ set_same starts x next c.1 in_starts
        ]
        | inr a ↦ set_same starts x next a.1 in_starts
      ];
      right = λ next h. elim (set_only starts x next h) [ inl e ↦ subst (IsStart at) (sym e) begins | inr old ↦ k.right next old ];
    }

-- a step within a block
known_inside : (at : ℕ → View) (E : ℕ → ℕ → Type 0) (here x : ℕ) (led starts : List Bool) → Known at E (record { led_to = led; starts = starts }) → Earlier at E here →
    x < length led → ends_block (at here) ≡ false → is_in led x ≡ false →
    Known at (OneMore E here x) (record { led_to = set led x true; starts = starts })
known_inside at E here x led starts k earlier in_led unended unseen = record {
  has = λ place next e. elim e [ inl a ↦ set_kept led x next in_led (k.has place next a) | inr b ↦ set_same led x next b.1 in_led ];
  only = λ next h. elim (set_only led x next h) [ inl e ↦ (here, inr (refl, e)) | inr old ↦ let r = k.only next old in (r.0, inl r.1) ];
  entry = k.entry;
  after = λ place next e ends. elim e [
    | inl a ↦ k.after place next a ends
    | inr b ↦ let same = ap (λ (n : ℕ). ends_block (at n)) b.0 in cc
  ];
  joins = λ one other next l e f. elim e [
    | inl a ↦ elim f [
      | inl c ↦ k.joins one other next l a c
      | inr c ↦ let seen = k.has one next a in let same = ap (λ (n : ℕ). is_in led n) c.1 in cc
    ]
    | inr a ↦ elim f [
      | inl c ↦ let late = earlier.before other next c in let first = a.0 in absurd (omega arith)
      | inr c ↦ let first = a.0 in let second = c.0 in absurd (omega arith)
    ]
  ];
  right = k.right;
}

-- both sets have a flag for each node
pub record Sized (n : ℕ) (s : Sets) : Type 0 where
  pub led_to : length s.led_to ≡ n
  pub starts : length s.starts ≡ n

by_flag : (at : ℕ → View) (E : ℕ → ℕ → Type 0) (here x : ℕ) (led starts : List Bool) (ends seen : Bool) → Known at E (record { led_to = led; starts = starts }) →
    Earlier at E here → NodeLeadsTo at here x → x < length led → x < length starts → ends_block (at here) ≡ ends → is_in led x ≡ seen →
    Known at (OneMore E here x) (record { led_to = set led x true; starts = cond (ends || seen) (set starts x true) starts })
by_flag at E here x led starts true seen k earlier lead in_led in_starts e f = known_start at E here x led starts k earlier lead in_led in_starts (inl e)
by_flag at E here x led starts false true k earlier lead in_led in_starts e f = known_start at E here x led starts k earlier lead in_led in_starts (inr f)
by_flag at E here x led starts false false k earlier lead in_led in_starts e f = known_inside at E here x led starts k earlier in_led e f

-- one step more
pub known_more : (at : ℕ → View) (E : ℕ → ℕ → Type 0) (here x n : ℕ) (s : Sets) → Known at E s → Sized n s → Earlier at E here → NodeLeadsTo at here x → x < n →
    Known at (OneMore E here x) (successor_noted (ends_block (at here)) x s)
known_more at E here x n s k sized earlier lead l =
    by_flag at E here x s.led_to s.starts (ends_block (at here)) (is_in s.led_to x) k earlier lead (omega (arith, sized.led_to)) (omega (arith, sized.starts)) refl refl

sized_by : (n x : ℕ) (b : Bool) (led starts : List Bool) → length led ≡ n → length starts ≡ n →
    Sized n (record { led_to = set led x true; starts = cond b (set starts x true) starts })
sized_by n x true led starts e f = record { led_to = length-set led x true ∙ e; starts = length-set starts x true ∙ f }
sized_by n x false led starts e f = record { led_to = length-set led x true ∙ e; starts = f }

pub sized_more : (n x : ℕ) (ends : Bool) (s : Sets) → Sized n s → Sized n (successor_noted ends x s)
sized_more n x ends s z = sized_by n x (ends || is_in s.led_to x) s.led_to s.starts z.led_to z.starts

starts_length : (b : Bool) (x : ℕ) (starts : List Bool) → length (cond b (set starts x true) starts) ≡ length starts
starts_length true x starts = length-set starts x true
starts_length false x starts = refl

pub noted_length : (ends : Bool) (x : ℕ) (s : Sets) → length (successor_noted ends x s).starts ≡ length s.starts
noted_length ends x s = starts_length (ends || is_in s.led_to x) x s.starts

-- the steps from the first nodes, so many of them
abbrev pub Before : (ℕ → View) → ℕ → ℕ → ℕ → Type 0
Before at count place next = (place < count) × NodeLeadsTo at place next

-- a node leads nowhere, to one node, or to two where it ends its block
pub shape : (v : View) → (led_to v ≡ []) ⊎ (((a : ℕ) × (led_to v ≡ a ∷ [])) ⊎ ((a b : ℕ) × (led_to v ≡ a ∷ b ∷ []) × (ends_block v ≡ true)))
shape (Row op next) = inr (inl (next, refl))
shape (Forks when_true when_false) = inr (inr (when_true, when_false, refl, refl))
shape (Turns next) = inr (inl (next, refl))
shape (Calls function next) = inr (inl (next, refl))
shape (Marks site next) = inr (inl (next, refl))
shape (Skips by next) = inr (inl (next, refl))
shape (Tests site next) = inr (inl (next, refl))
shape (Picks weight fast slow) = inr (inr (fast, slow, refl, refl))
shape (Imports next) = inr (inl (next, refl))
shape (Exports next) = inr (inl (next, refl))
shape v = inl refl

-- one node more
pub known_node : (at : ℕ → View) (i n : ℕ) (s : Sets) → Known at (Before at i) s → Sized n s → ((next : ℕ) → NodeLeadsTo at i next → next < n) →
    Known at (Before at (i + 1)) (noted_all (ends_block (at i)) (led_to (at i)) s) × Sized n (noted_all (ends_block (at i)) (led_to (at i)) s)
known_node at i n s k sized within =
    let earlier : Earlier at (Before at i) i = record {
      leads = λ place next e. e.1;
      before = λ place next e. let l = e.0 in omega arith;
      ends = λ place next e same. let l = e.0 in absurd (omega arith);
    }
    in
    let is_old : (place next : ℕ) → Before at i place next → Before at (i + 1) place next = λ place next e. let l = e.0 in (omega arith, e.1) in
    let split : (place next : ℕ) → Before at (i + 1) place next → Before at i place next ⊎ ((place ≡ i) × Contains (led_to (at i)) next) =
    λ place next e. elim (cases_lt place i) [
      | inl l ↦ inl (l, e.1)
      | inr l ↦ let w = e.0 in let same : place ≡ i = omega arith in inr (same, subst (λ (x : ℕ). NodeLeadsTo at x next) same e.1)
    ]
    in
    elim (shape (at i)) [
      | inl e ↦
          let steps : (place next : ℕ) → Before at (i + 1) place next → Before at i place next = λ place next b. elim (split place next b) [
            | inl x ↦ x
            | inr x ↦ absurd (none_in next (subst (λ (xs : List ℕ). Contains xs next) e x.1))
          ]
          in
          rw e (known_same at (Before at i) (Before at (i + 1)) s k steps is_old, sized)
      | inr (inl (a, e)) ↦
          let lead : NodeLeadsTo at i a = rw e (first_in a []) in
          let one = known_more at (Before at i) i a n s k sized earlier lead (within a lead) in
          let to : (place next : ℕ) → Before at (i + 1) place next → OneMore (Before at i) i a place next = λ place next b. elim (split place next b) [
            | inl x ↦ inl x
            | inr x ↦ inr (x.0, only_in a next (subst (λ (xs : List ℕ). Contains xs next) e x.1))
          ]
          in
          let from : (place next : ℕ) → OneMore (Before at i) i a place next → Before at (i + 1) place next = λ place next b. elim b [
            | inl x ↦ is_old place next x
            | inr x ↦ let same = x.0 in (omega arith, rw (x.0, x.1) lead)
          ]
          in
          rw e (known_same at (OneMore (Before at i) i a) (Before at (i + 1)) (successor_noted (ends_block (at i)) a s) one to from, sized_more n a (ends_block (at i)) s sized)
      | inr (inr (a, b, e, ends)) ↦
          let lead : NodeLeadsTo at i a = rw e (first_in a (b ∷ [])) in
          let lead' : NodeLeadsTo at i b = rw e (second_in a b []) in
          let one = known_more at (Before at i) i a n s k sized earlier lead (within a lead) in
          let sized' = sized_more n a (ends_block (at i)) s sized in
          let earlier' : Earlier at (OneMore (Before at i) i a) i = record {
            leads = λ place next o. elim o [ inl x ↦ x.1 | inr x ↦ rw (x.0, x.1) lead ];
            before = λ place next o. elim o [ inl x ↦ (let l = x.0 in omega arith) | inr x ↦ (let same = x.0 in omega arith) ];
            ends = λ place next o same. ends;
          }
          in
          let two = known_more at (OneMore (Before at i) i a) i b n (successor_noted (ends_block (at i)) a s) one sized' earlier' lead' (within b lead') in
          let to : (place next : ℕ) → Before at (i + 1) place next → OneMore (OneMore (Before at i) i a) i b place next = λ place next o. elim (split place next o) [
            | inl x ↦ inl (inl x)
            | inr x ↦ elim (two_in a b next (subst (λ (xs : List ℕ). Contains xs next) e x.1)) [ inl y ↦ inl (inr (x.0, y)) | inr y ↦ inr (x.0, y) ]
          ]
          in
          let from : (place next : ℕ) → OneMore (OneMore (Before at i) i a) i b place next → Before at (i + 1) place next = λ place next o. elim o [
            | inl (inl x) ↦ is_old place next x
            | inl (inr x) ↦ let same = x.0 in (omega arith, rw (x.0, x.1) lead)
            | inr x ↦ let same = x.0 in (omega arith, rw (x.0, x.1) lead')
          ]
          in
          rw e (
            known_same at (OneMore (OneMore (Before at i) i a) i b) (Before at (i + 1)) (successor_noted (ends_block (at i)) b (successor_noted (ends_block (at i)) a s)) two to from,
            sized_more n b (ends_block (at i)) (successor_noted (ends_block (at i)) a s) sized',
          )
    ]

pub known_entry : (at : ℕ → View) (n : ℕ) → 0 < n → Known at (Before at 0) (at_entry n) × Sized n (at_entry n)
known_entry at n l =
    let inside : 0 < length (replicate n false) = omega (arith, l, length-replicate n false) in (
      record {
        has = λ place next e. absurd (omega (arith, e.0));
        only = λ next h. absurd (none_set n next h);
        entry = set_same (replicate n false) 0 0 refl inside;
        after = λ place next e ends. absurd (omega (arith, e.0));
        joins = λ one other next lt e f. absurd (omega (arith, e.0));
        right = λ next h. elim (set_only (replicate n false) 0 next h) [
          | inl e ↦ subst (IsStart at) (sym e) Entry
          | inr old ↦ absurd (none_set n next old)
        ];
      },
      record { led_to = length-replicate n false; starts = length-set (replicate n false) 0 true ∙ length-replicate n false },
    )

complete : (at : ℕ → View) (n : ℕ) (s : Sets) → Known at (Before at n) s → ((place next : ℕ) → NodeLeadsTo at place next → place < n) → {x : ℕ} → IsStart at x → is_in s.starts x ≡ true
complete at n s k within Entry = k.entry
complete at n s k within (After {next} place ends lead) = k.after place next (within place next lead, lead) ends
complete at n s k within (Joins {next} one other l lead lead') = k.joins one other next l (within one next lead, lead) (within other next lead', lead')

-- after all nodes
pub known_all : (at : ℕ → View) (n : ℕ) (s : Sets) → Known at (Before at n) s → Sized n s → ((place next : ℕ) → NodeLeadsTo at place next → place < n) →
    AreFlags n (IsStart at) s.starts
known_all at n s k sized within = record { few = sized.starts; each = λ x. (k.right x, λ h. complete at n s k within h) }
