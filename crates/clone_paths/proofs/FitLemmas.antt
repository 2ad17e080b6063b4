-- The nodes of a sampled function name what exists, and lead to later nodes.
use Rattle.std.proofs.Common.{◌≡◌, ◌⊎◌, inl, inr, ℕ, zero, suc, ◌+◌, ◌<◌, ◌≤◌, Bool, true, false, ◌&&◌, ◌||◌, nat_lt, nat_le, if◌then◌else◌, List, [], ◌∷◌, slice_get, slice_index, refl, sym, ap, arith}
use Rattle.std.specs.List.{Contains, list_all}
use Rattle.std.proofs.lemmas.Bool.Decides.{nat_tests}
use Rattle.std.proofs.lemmas.Bool.{and_from, or_right}
use Rattle.base_lists.proofs.Numbers.{less_is}
use Rattle.base_lists.proofs.Every.{none_in, only_in}
use Rattle.flow.specs.declared.node.Node.{Node}
use Rattle.flow.specs.declared.node.Node.TheVariants.{Push}
use Rattle.flow.specs.declared.node.View.{View}
use Rattle.flow.specs.declared.node.View.TheVariants.{Row, Halts, Forks, Turns, Calls, Gives, Quits, Marks, Skips, Tests, Picks, Imports, Exports, Nowhere}
use Rattle.flow.specs.declared.scope.Bounds.{Bounds}
use Rattle.flow.specs.declared.scope.Names.{Names}
use Rattle.flow.specs.Words.{node_limit, is_again, is_own, led_to, leads_rightly, names_fit, view, IsPlain}
use Rattle.weights.specs.Paths.{mark_count}
use Rattle.copied_nodes.specs.declared.label.CopyLabel.{CopyLabel}
use Rattle.copied_nodes.specs.declared.label.CopyLabel.TheVariants.{Enter, Gate, Back, In, Out}
use Rattle.copied_nodes.specs.declared.label.Side.{Side}
use Rattle.copied_nodes.specs.declared.label.Side.TheVariants.{Fast, Slow}
use Rattle.clone_paths.specs.Form.{is_last, is_outlet}
use Rattle.clone_paths.specs.Layout.{place_in_copy}
use Rattle.clone_paths.specs.Made.{Tables, made_node, made_free, made_in, made_out, made_same, made_visit}
use Rattle.clone_paths.specs.Parts.{is_debt_paid}

-- what a node names exists, by its view
abbrev pub view_names : Names → Bounds → View → Bool
view_names names bounds (Row op next) = names_fit names bounds op
view_names names bounds (Calls function next) = nat_lt function names.functions
view_names names bounds (Marks site next) = is_own bounds (slice_get names.owners site)
view_names names bounds (Tests site next) = is_own bounds (slice_get names.owners site)
view_names names bounds (Skips by next) = nat_le 1 by && nat_le by node_limit
view_names names bounds (Picks weight fast slow) = nat_le weight node_limit
view_names names bounds other = true

pub names_view : (names : Names) (bounds : Bounds) (n : Node) → names_fit names bounds n ≡ view_names names bounds (view n)
unfolding names_fit
names_view names bounds (Push kind value next) = refl
names_view names bounds other = refl

-- how many nodes the function has doesn't matter
pub names_bounds : (names : Names) (bounds : Bounds) (m : ℕ) (n : Node) → names_fit names (record bounds { nodes = m }) n ≡ names_fit names bounds n
unfolding names_fit
names_bounds names bounds m (Push kind value next) = refl
names_bounds names bounds m other = refl

by_ok : (k : ℕ) → 1 ≤ k → k ≤ node_limit → (nat_le 1 k && nat_le k node_limit) ≡ true
by_ok k l m = grind (arith, nat_tests)

most_ok : (k : ℕ) → k ≤ node_limit → nat_le k node_limit ≡ true
most_ok k m = grind (arith, nat_tests)

same_names : (names : Names) (bounds : Bounds) (t : Tables) (side : Side) (v : View) → view_names names bounds v ≡ true → view_names names bounds (made_same t side v) ≡ true
same_names names bounds t side (Forks a b) h = refl
same_names names bounds t side (Turns next) h = refl
same_names names bounds t side v h = h

free_names : (names : Names) (bounds : Bounds) (t : Tables) (side : Side) (place : ℕ) (v : View) (b : Bool) → view_names names bounds v ≡ true →
    view_names names bounds (if b then Exports (place + 1) else made_same t side v) ≡ true
free_names names bounds t side place v true h = refl
free_names names bounds t side place v false h = same_names names bounds t side v h

paid_names : (names : Names) (bounds : Bounds) (t : Tables) (side : Side) (owed place : ℕ) (v : View) (b : Bool) → view_names names bounds v ≡ true → (b ≡ true → 1 ≤ owed) → owed < node_limit →
    view_names names bounds (if b then Skips owed (place + 1) else made_free t side place v) ≡ true
paid_names names bounds t side owed place v true h some few = by_ok owed (some refl) (omega arith)
paid_names names bounds t side owed place v false h some few = free_names names bounds t side place v (is_outlet t.weighty v) h

some_owed : (owed : ℕ) (b : Bool) → (nat_lt 0 owed && b) ≡ true → 1 ≤ owed
some_owed owed b e = grind (arith, nat_tests)

pays_some : (starts : ℕ → Bool) (owed : ℕ) (v : View) → is_debt_paid starts owed v ≡ true → 1 ≤ owed
pays_some starts owed (Marks site next) e = cc
pays_some starts owed (Row op next) e = some_owed owed (starts next) e
pays_some starts owed (Forks a b) e = some_owed owed (starts a || is_last starts (b ∷ [])) e
pays_some starts owed (Turns next) e = some_owed owed (starts next) e
pays_some starts owed (Calls function next) e = some_owed owed (starts next) e
pays_some starts owed (Skips by next) e = some_owed owed (starts next) e
pays_some starts owed (Tests site next) e = some_owed owed (starts next) e
pays_some starts owed (Picks weight fast slow) e = some_owed owed (starts fast || is_last starts (slow ∷ [])) e
pays_some starts owed (Imports next) e = some_owed owed (starts next) e
pays_some starts owed (Exports next) e = some_owed owed (starts next) e
pays_some starts owed v e = some_owed owed true e

visit_names : (names : Names) (bounds : Bounds) (t : Tables) (side : Side) (owed site next : ℕ) → view_names names bounds (Marks site next) ≡ true → owed < node_limit →
    view_names names bounds (made_visit t.sheet side owed site next) ≡ true
visit_names names bounds t Slow owed site next h few = h
visit_names names bounds t Fast owed site next h few = by_ok (owed + 1) (omega arith) (omega arith)

in_names : (names : Names) (bounds : Bounds) (t : Tables) (side : Side) (owed place : ℕ) (v : View) → view_names names bounds v ≡ true → owed < node_limit →
    view_names names bounds (made_in t side owed place v) ≡ true
in_names names bounds t side owed place (Marks site next) h few = visit_names names bounds t side owed site next h few
in_names names bounds t side owed place v h few = paid_names names bounds t side owed place v (is_debt_paid t.starts owed v) h (pays_some t.starts owed v) few

out_names : (names : Names) (bounds : Bounds) (place : ℕ) (v : View) → view_names names bounds v ≡ true → view_names names bounds (made_out place v) ≡ true
out_names names bounds place (Calls function next) h = h
out_names names bounds place other h = h

-- the node with a label names what exists
pub made_names : (names : Names) (bounds : Bounds) (t : Tables) (place : ℕ) (l : CopyLabel) → ((i : ℕ) → view_names names bounds (t.at i) ≡ true) → ((i : ℕ) → t.weight i ≤ node_limit) →
    ((side : Side) (i owed : ℕ) → l ≡ In side i owed → owed < node_limit) → view_names names bounds (made_node t place l) ≡ true
made_names names bounds t place Enter orig weights few = refl
made_names names bounds t place (Gate i) orig weights few = most_ok (t.weight i) (weights i)
made_names names bounds t place (Back i) orig weights few = refl
made_names names bounds t place (In side i owed) orig weights few = in_names names bounds t side owed place (t.at i) (orig i) (few side i owed refl)
made_names names bounds t place (Out side i) orig weights few = out_names names bounds place (t.at i) (orig i)

-- where the node at a place leads in a copy: to the next place, or to what stands for a node to which the original one leads
abbrev pub Stands : Tables → ℕ → ℕ → Type 0
Stands t y x = (x ≡ place_in_copy t.sheet Fast y) ⊎ ((x ≡ place_in_copy t.sheet Slow y) ⊎ (x ≡ slice_index t.sheet.gates y))

stands_in : (t : Tables) (side : Side) (y x : ℕ) → x ≡ place_in_copy t.sheet side y → Stands t y x
stands_in t Fast y x e = inl e
stands_in t Slow y x e = inr (inl e)

pub record Onward (t : Tables) (v q : View) (x : ℕ) : Type 0 where
  pub to : ℕ
  pub leads : Contains (led_to v) to
  pub stands : Stands t to x
  pub again : (next : ℕ) → v ≡ Turns next → is_again q ≡ true

onward_one : (t : Tables) (side : Side) (v q : View) (next x : ℕ) → Contains (led_to v) next → ((k : ℕ) → v ≡ Turns k → is_again q ≡ true) → Contains (place_in_copy t.sheet side next ∷ []) x → Onward t v q x
onward_one t side v q next x lead again c = record { to = next; leads = lead; stands = stands_in t side next x (only_in (place_in_copy t.sheet side next) x c); again = again }

onward_fork : (t : Tables) (side : Side) (a b x : ℕ) → Contains (place_in_copy t.sheet side a ∷ place_in_copy t.sheet side b ∷ []) x →
    Onward t (Forks a b) (Forks (place_in_copy t.sheet side a) (place_in_copy t.sheet side b)) x
onward_fork t side a b x (zero, l, e) = record { to = a; leads = (0, omega arith, refl); stands = stands_in t side a x (sym e); again = λ k c. cc }
onward_fork t side a b x (suc k, l, e) =
    let r = only_in (place_in_copy t.sheet side b) x (k, omega arith, e) in
    record { to = b; leads = (1, omega arith, refl); stands = stands_in t side b x r; again = λ k c. cc }

same_onward : (t : Tables) (side : Side) (v : View) (x : ℕ) → IsPlain v → mark_count v ≡ 0 → Contains (led_to (made_same t side v)) x → Onward t v (made_same t side v) x
same_onward t side (Row op next) x p m c = onward_one t side (Row op next) (Row op (place_in_copy t.sheet side next)) next x (0, omega arith, refl) (λ k e. cc) c
same_onward t side (Forks a b) x p m c = onward_fork t side a b x c
same_onward t side (Turns next) x p m c =
    record { to = next; leads = (0, omega arith, refl); stands = inr (inr (only_in (slice_index t.sheet.gates next) x c)); again = λ k e. refl }
same_onward t side (Calls f next) x p m c = onward_one t side (Calls f next) (Calls f (place_in_copy t.sheet side next)) next x (0, omega arith, refl) (λ k e. cc) c
same_onward t side (Marks site next) x p m c = absurd (omega arith)
same_onward t side (Halts op) x p m c = absurd (none_in x c)
same_onward t side Gives x p m c = absurd (none_in x c)
same_onward t side Quits x p m c = absurd (none_in x c)
same_onward t side Nowhere x p m c = absurd (none_in x c)
same_onward t side v x p m c = absurd p

-- control goes on at the next place, where what is owed is paid or before an outlet
abbrev pub NextCause : Tables → ℕ → View → Type 0
NextCause t owed v = (is_debt_paid t.starts owed v ≡ true) ⊎ ((is_debt_paid t.starts owed v ≡ false) × (is_outlet t.weighty v ≡ true))

abbrev pub GoesOn : Tables → ℕ → ℕ → View → View → ℕ → Type 0
GoesOn t owed place v q x = ((x ≡ place + 1) × NextCause t owed v) ⊎ Onward t v q x

free_on : (t : Tables) (side : Side) (owed place : ℕ) (v : View) (x : ℕ) (b : Bool) → IsPlain v → mark_count v ≡ 0 → is_debt_paid t.starts owed v ≡ false → is_outlet t.weighty v ≡ b →
    Contains (led_to (if b then Exports (place + 1) else made_same t side v)) x → GoesOn t owed place v (if b then Exports (place + 1) else made_same t side v) x
free_on t side owed place v x true p m unpaid o c = inl (only_in (place + 1) x c, inr (unpaid, o))
free_on t side owed place v x false p m unpaid o c = inr (same_onward t side v x p m c)

paid_on : (t : Tables) (side : Side) (owed place : ℕ) (v : View) (x : ℕ) (b : Bool) → IsPlain v → mark_count v ≡ 0 → is_debt_paid t.starts owed v ≡ b →
    Contains (led_to (if b then Skips owed (place + 1) else made_free t side place v)) x → GoesOn t owed place v (if b then Skips owed (place + 1) else made_free t side place v) x
paid_on t side owed place v x true p m e c = inl (only_in (place + 1) x c, inl e)
paid_on t side owed place v x false p m e c = free_on t side owed place v x (is_outlet t.weighty v) p m e refl c

visit_on : (t : Tables) (side : Side) (owed place site next x : ℕ) → Contains (led_to (made_visit t.sheet side owed site next)) x →
    GoesOn t owed place (Marks site next) (made_visit t.sheet side owed site next) x
visit_on t Slow owed place site next x c =
    inr (onward_one t Slow (Marks site next) (Tests site (place_in_copy t.sheet Slow next)) next x (0, omega arith, refl) (λ k e. cc) c)
visit_on t Fast owed place site next x c =
    inr (onward_one t Fast (Marks site next) (Skips (owed + 1) (place_in_copy t.sheet Fast next)) next x (0, omega arith, refl) (λ k e. cc) c)

pub in_on : (t : Tables) (side : Side) (owed place : ℕ) (v : View) (x : ℕ) → IsPlain v → Contains (led_to (made_in t side owed place v)) x → GoesOn t owed place v (made_in t side owed place v) x
in_on t side owed place (Marks site next) x p c = visit_on t side owed place site next x c
in_on t side owed place (Skips by next) x p c = absurd p
in_on t side owed place (Tests site next) x p c = absurd p
in_on t side owed place (Picks w f s) x p c = absurd p
in_on t side owed place (Imports next) x p c = absurd p
in_on t side owed place (Exports next) x p c = absurd p
in_on t side owed place v x p c = paid_on t side owed place v x (is_debt_paid t.starts owed v) p refl refl c

-- an outlet goes on at the next place, where it is a call
pub out_on : (w : ℕ → Bool) (place : ℕ) (v : View) (x : ℕ) → is_outlet w v ≡ true → Contains (led_to (made_out place v)) x →
    (x ≡ place + 1) × ((function next : ℕ) × (v ≡ Calls function next) × (w function ≡ true))
out_on w place (Calls function next) x o c = (only_in (place + 1) x c, (function, next, refl, o))
out_on w place Gives x o c = absurd (none_in x c)
out_on w place Quits x o c = absurd (none_in x c)
out_on w place v x o c = cc

-- a node leads to nodes, to later ones but by a turn
abbrev pub Goes : ℕ → ℕ → View → Type 0
Goes place total q = (x : ℕ) → Contains (led_to q) x → (x < total) × ((is_again q ≡ true) ⊎ (place < x))

each_passes : (p : ℕ → Bool) (xs : List ℕ) → ((x : ℕ) → Contains xs x → p x ≡ true) → list_all p xs ≡ true
each_passes p [] h = refl
each_passes p (y ∷ ys) h =
    let first = h y (0, omega arith, refl) in
    let rest = each_passes p ys (λ x c. h x (suc c.0, omega (arith, c.1), c.2)) in
    and_from (p y) (list_all p ys) first rest

way_ok : (x total place : ℕ) (again : Bool) → x < total → (again ≡ true) ⊎ (place < x) → (nat_lt x total && (again || nat_lt place x)) ≡ true
way_ok x total place again l (inl e) = let f : (again || nat_lt place x) ≡ true = ap (λ (b : Bool). b || nat_lt place x) e in and_from (nat_lt x total) (again || nat_lt place x) (less_is x total l) f
way_ok x total place again l (inr m) = and_from (nat_lt x total) (again || nat_lt place x) (less_is x total l) (or_right again (nat_lt place x) (less_is place x m))

pub goes_rightly : (bounds : Bounds) (place : ℕ) (q : View) → Goes place bounds.nodes q → leads_rightly bounds place q ≡ true
unfolding leads_rightly
goes_rightly bounds place q g =
    each_passes (λ next. nat_lt next bounds.nodes && (is_again q || nat_lt place next)) (led_to q)
    (λ x c. let r = g x c in way_ok x bounds.nodes place (is_again q) r.0 r.1)
