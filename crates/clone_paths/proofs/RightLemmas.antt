-- Each node is what its label says.
use Rattle.std.proofs.Common.{◌≡◌, ◌⊎◌, inl, inr, ℕ, zero, suc, ◌+◌, ◌<◌, Bool, true, false, ◌&&◌, if◌then◌else◌, nat_lt, [], ◌∷◌, Option, Some, slice_index, refl, sym, ap, ◌∙◌, subst, arith}
use Rattle.std.specs.Bool.{MatchBool}
use Rattle.std.specs.List.{Contains}
use Rattle.std.proofs.lemmas.Bool.Decides.{nat_tests}
use Rattle.std.proofs.lemmas.Bool.{not-false}
use Rattle.base_lists.proofs.Every.{first_in, second_in}
use Rattle.flow.specs.declared.node.View.{View}
use Rattle.flow.specs.declared.node.View.TheVariants.{Row, Halts, Forks, Turns, Calls, Gives, Quits, Marks, Skips, Tests, Picks, Imports, Exports, Nowhere}
use Rattle.flow.specs.Words.{led_to, IsPlain}
use Rattle.regions.specs.Blocks.{IsStart, After, NodeLeadsTo, ends_block}
use Rattle.regions.specs.Headers.{IsHeader, begun_after}
use Rattle.regions.specs.Headers as region
use Rattle.weights.specs.Paths.{mark_count}
use Rattle.weights.specs.Weight.{IsWeight}
use Rattle.copied_nodes.specs.declared.label.CopyLabel.{CopyLabel}
use Rattle.copied_nodes.specs.declared.label.CopyLabel.TheVariants.{Gate, In, Out}
use Rattle.copied_nodes.specs.declared.label.Side.{Side}
use Rattle.copied_nodes.specs.declared.label.Side.TheVariants.{Fast, Slow}
use Rattle.clone_paths.specs.Form.{Cloning, StandsForNode, Here, IsOwingNothing, IsNodeInCopy, IsOwing, IsSame, is_last, is_outlet}
use Rattle.clone_paths.specs.Layout.{place_in_copy}
use Rattle.clone_paths.specs.Made.{Tables, made_free, made_in, made_paid, made_same}
use Rattle.clone_paths.specs.Parts.{is_inside, is_debt_paid}

abbrev pub cloning : Tables → (ℕ → Option CopyLabel) → Cloning
cloning t label = record { weighty = t.weighty; at = t.at; starts = t.starts; label = label }

-- what is known of a function, and of where its labels stand
pub record Known (t : Tables) (n : ℕ) (debt : ℕ → ℕ) (header : ℕ → Bool) (label : ℕ → Option CopyLabel) : Type 0 where
  pub plain : (i : ℕ) → IsPlain (t.at i)
  pub there : (i : ℕ) → i < n → t.at i ≡ Nowhere → ⊥
  pub begins : (x : ℕ) → IsStart t.at x → t.starts x ≡ true
  pub within : (place next : ℕ) → NodeLeadsTo t.at place next → next < n
  pub entry : 0 < n
  pub heads : (x : ℕ) → IsHeader t.weighty t.at x → header x ≡ true
  pub none : (x : ℕ) → t.starts x ≡ true → debt x ≡ 0
  pub more : (place next : ℕ) → NodeLeadsTo t.at place next → t.starts next ≡ false → debt next ≡ debt place + mark_count (t.at place)
  pub weights : (i : ℕ) → i < n → IsWeight t.weighty t.at i (t.weight i)
  pub head_starts : (x : ℕ) → header x ≡ true → t.starts x ≡ true
  pub gate : (i : ℕ) → i < n → header i ≡ true → label (slice_index t.sheet.gates i) ≡ Some (Gate i)
  pub slow : (i : ℕ) → i < n → label (place_in_copy t.sheet Slow i) ≡ Some (In Slow i 0)
  pub fast : (i : ℕ) → i < n → StandsForNode (cloning t label) Fast (place_in_copy t.sheet Fast i) i (debt i)

-- what a copy owes before a node
abbrev pub owed_by : (ℕ → ℕ) → Side → ℕ → ℕ
owed_by debt Fast i = debt i
owed_by debt Slow i = 0

labelled : (t : Tables) (n : ℕ) (debt : ℕ → ℕ) (header : ℕ → Bool) (label : ℕ → Option CopyLabel) → Known t n debt header label → (side : Side) (i : ℕ) → i < n →
    StandsForNode (cloning t label) side (place_in_copy t.sheet side i) i (owed_by debt side i)
labelled t n debt header label k Fast i l = k.fast i l
labelled t n debt header label k Slow i l = Here (k.slow i l)

-- the node at the place leads to these
leads : (t : Tables) (node x : ℕ) (v : View) → t.at node ≡ v → Contains (led_to v) x → NodeLeadsTo t.at node x
leads t node x v e c = subst (λ (w : View). Contains (led_to w) x) (sym e) c

one_leads : (t : Tables) (n : ℕ) (debt : ℕ → ℕ) (header : ℕ → Bool) (label : ℕ → Option CopyLabel) → Known t n debt header label → (side : Side) (owed node x : ℕ) →
    ((y : ℕ) → NodeLeadsTo t.at node y → owed_by debt side y ≡ owed) → NodeLeadsTo t.at node x → StandsForNode (cloning t label) side (place_in_copy t.sheet side x) x owed
one_leads t n debt header label k side owed node x flow lead =
    subst (λ (d : ℕ). StandsForNode (cloning t label) side (place_in_copy t.sheet side x) x d) (flow x lead) (labelled t n debt header label k side x (k.within node x lead))

same_right : (t : Tables) (n : ℕ) (debt : ℕ → ℕ) (header : ℕ → Bool) (label : ℕ → Option CopyLabel) → Known t n debt header label → (side : Side) (owed node : ℕ) (v : View) →
    t.at node ≡ v → node < n → ((y : ℕ) → NodeLeadsTo t.at node y → owed_by debt side y ≡ owed) → is_outlet t.weighty v ≡ false → mark_count v ≡ 0 →
    IsSame (cloning t label) side owed v (made_same t side v)
same_right t n debt header label k side owed node (Row op next) e l flow o m =
    (place_in_copy t.sheet side next, refl, one_leads t n debt header label k side owed node next flow (leads t node next (Row op next) e (first_in next [])))
same_right t n debt header label k side owed node (Halts op) e l flow o m = refl
same_right t n debt header label k side owed node (Forks a b) e l flow o m = (
  place_in_copy t.sheet side a,
  place_in_copy t.sheet side b,
  refl,
  one_leads t n debt header label k side owed node a flow (leads t node a (Forks a b) e (first_in a (b ∷ []))),
  one_leads t n debt header label k side owed node b flow (leads t node b (Forks a b) e (second_in a b [])),
)
same_right t n debt header label k side owed node (Turns next) e l flow o m =
    let inside = k.within node next (leads t node next (Turns next) e (first_in next [])) in
    (slice_index t.sheet.gates next, refl, k.gate next inside (k.heads next (region.After node (ap (begun_after t.weighty) e))))
same_right t n debt header label k side owed node (Calls function next) e l flow o m =
    (place_in_copy t.sheet side next, refl, one_leads t n debt header label k side owed node next flow (leads t node next (Calls function next) e (first_in next [])))
same_right t n debt header label k side owed node Gives e l flow o m = cc
same_right t n debt header label k side owed node Quits e l flow o m = cc
same_right t n debt header label k side owed node (Marks site next) e l flow o m = absurd (omega arith)
same_right t n debt header label k side owed node (Skips by next) e l flow o m = subst IsPlain e (k.plain node)
same_right t n debt header label k side owed node (Tests site next) e l flow o m = subst IsPlain e (k.plain node)
same_right t n debt header label k side owed node (Picks weight fast slow) e l flow o m = subst IsPlain e (k.plain node)
same_right t n debt header label k side owed node (Imports next) e l flow o m = subst IsPlain e (k.plain node)
same_right t n debt header label k side owed node (Exports next) e l flow o m = subst IsPlain e (k.plain node)
same_right t n debt header label k side owed node Nowhere e l flow o m = absurd (k.there node l e)

-- where nothing is owed
free_by : (t : Tables) (label : ℕ → Option CopyLabel) (side : Side) (node place : ℕ) (v : View) (b : Bool) → (b ≡ true → label (place + 1) ≡ Some (Out side node)) →
    (b ≡ false → IsSame (cloning t label) side 0 v (made_same t side v)) →
    MatchBool b ((m : ℕ) × ((if b then Exports (place + 1) else made_same t side v) ≡ Exports m) × (label m ≡ Some (Out side node)))
    (IsSame (cloning t label) side 0 v (if b then Exports (place + 1) else made_same t side v))
free_by t label side node place v true out same = (place + 1, refl, out refl)
free_by t label side node place v false out same = same refl

-- where something is owed
owing_by : (t : Tables) (label : ℕ → Option CopyLabel) (side : Side) (node owed place : ℕ) (v : View) (b : Bool) → (b ≡ true → label (place + 1) ≡ Some (In side node 0)) →
    (b ≡ false → IsSame (cloning t label) side (suc owed) v (made_free t side place v)) →
    MatchBool b ((m : ℕ) × ((if b then Skips (suc owed) (place + 1) else made_free t side place v) ≡ Skips (suc owed) m) × StandsForNode (cloning t label) side m node 0)
    (IsSame (cloning t label) side (suc owed) v (if b then Skips (suc owed) (place + 1) else made_free t side place v))
owing_by t label side node owed place v true pay same = (place + 1, refl, Here (pay refl))
owing_by t label side node owed place v false pay same = same refl

no_debt : (b : Bool) → (nat_lt 0 0 && b) ≡ false
no_debt b = refl

some_debt : (owed : ℕ) (b : Bool) → (nat_lt 0 (suc owed) && b) ≡ b
some_debt owed b = grind (arith, nat_tests)

pub pays_is : (starts : ℕ → Bool) (owed : ℕ) (v : View) → mark_count v ≡ 0 → is_debt_paid starts owed v ≡ (nat_lt 0 owed && is_last starts (led_to v))
pays_is starts owed (Marks site next) m = absurd (omega arith)
pays_is starts owed v m = refl

pub pays_zero : (starts : ℕ → Bool) (v : View) → is_debt_paid starts 0 v ≡ false
pays_zero starts (Marks site next) = refl
pays_zero starts (Row op next) = refl
pays_zero starts (Halts op) = refl
pays_zero starts (Forks a b) = refl
pays_zero starts (Turns next) = refl
pays_zero starts (Calls function next) = refl
pays_zero starts Gives = refl
pays_zero starts Quits = refl
pays_zero starts (Skips by next) = refl
pays_zero starts (Tests site next) = refl
pays_zero starts (Picks weight fast slow) = refl
pays_zero starts (Imports next) = refl
pays_zero starts (Exports next) = refl
pays_zero starts Nowhere = refl

-- an outlet is the last node of its block
not_outlet : (t : Tables) (n : ℕ) (debt : ℕ → ℕ) (header : ℕ → Bool) (label : ℕ → Option CopyLabel) → Known t n debt header label → (node : ℕ) (v : View) → t.at node ≡ v →
    is_last t.starts (led_to v) ≡ false → is_outlet t.weighty v ≡ false
not_outlet t n debt header label k node Gives e last = cc
not_outlet t n debt header label k node Quits e last = cc
not_outlet t n debt header label k node (Calls function next) e last =
    let begins = k.begins next (After node (ap ends_block e) (leads t node next (Calls function next) e (first_in next []))) in cc
not_outlet t n debt header label k node v e last = refl

-- what a copy owes at a node and after it agree: what it owes is what its block owes, or it was paid at the end of the block
pub record Agrees (t : Tables) (debt : ℕ → ℕ) (label : ℕ → Option CopyLabel) (side : Side) (node owed place : ℕ) : Type 0 where
  pub flow : (owed ≡ 0) ⊎ (is_last t.starts (led_to (t.at node)) ≡ false) → mark_count (t.at node) ≡ 0 → (y : ℕ) → NodeLeadsTo t.at node y → owed_by debt side y ≡ owed
  pub pay : is_debt_paid t.starts owed (t.at node) ≡ true → label (place + 1) ≡ Some (In side node 0)
  pub out : owed ≡ 0 → is_outlet t.weighty (t.at node) ≡ true → label (place + 1) ≡ Some (Out side node)
  pub last : side ≡ Fast → is_inside t.starts (t.at node) ≡ false

owing_right : (t : Tables) (n : ℕ) (debt : ℕ → ℕ) (header : ℕ → Bool) (label : ℕ → Option CopyLabel) → Known t n debt header label → (side : Side) (node owed place : ℕ) (v : View) →
    t.at node ≡ v → node < n → mark_count v ≡ 0 → Agrees t debt label side node owed place → IsOwing (cloning t label) side node owed v (made_paid t side owed place v)
owing_right t n debt header label k side node zero place v e l m a =
    let none : is_debt_paid t.starts 0 v ≡ false = pays_is t.starts 0 v m ∙ no_debt (is_last t.starts (led_to v)) in
    let q : made_paid t side 0 place v ≡ made_free t side place v = ap (λ (b : Bool). if b then Skips 0 (place + 1) else made_free t side place v) none in
    let free : IsOwingNothing (cloning t label) side node v (made_free t side place v) =
    free_by t label side node place v (is_outlet t.weighty v) (λ o. a.out refl (ap (is_outlet t.weighty) e ∙ o))
    (λ o. same_right t n debt header label k side 0 node v e l (a.flow (inl refl) (ap mark_count e ∙ m)) o m)
    in
    subst (λ (w : View). IsOwingNothing (cloning t label) side node v w) (sym q) free
owing_right t n debt header label k side node (suc owed) place v e l m a =
    let is : is_debt_paid t.starts (suc owed) v ≡ is_last t.starts (led_to v) = pays_is t.starts (suc owed) v m ∙ some_debt owed (is_last t.starts (led_to v)) in
    let q : made_paid t side (suc owed) place v ≡ (if is_last t.starts (led_to v) then Skips (suc owed) (place + 1) else made_free t side place v) =
    ap (λ (b : Bool). if b then Skips (suc owed) (place + 1) else made_free t side place v) is
    in
    let owing = owing_by t label side node owed place v (is_last t.starts (led_to v))
    (λ h. a.pay (ap (is_debt_paid t.starts (suc owed)) e ∙ is ∙ h))
    (λ h.
    let o = not_outlet t n debt header label k node v e h in
    let f : made_free t side place v ≡ made_same t side v = ap (λ (b : Bool). if b then Exports (place + 1) else made_same t side v) o in
    let h' : is_last t.starts (led_to (t.at node)) ≡ false = ap (λ (w : View). is_last t.starts (led_to w)) e ∙ h in
    subst (λ (w : View). IsSame (cloning t label) side (suc owed) v w) (sym f)
    (same_right t n debt header label k side (suc owed) node v e l (a.flow (inr h') (ap mark_count e ∙ m)) o m))
    in
    subst (λ (w : View). IsOwing (cloning t label) side node (suc owed) v w) (sym q) owing

visit_right : (t : Tables) (n : ℕ) (debt : ℕ → ℕ) (header : ℕ → Bool) (label : ℕ → Option CopyLabel) → Known t n debt header label → (side : Side) (node owed place site next : ℕ) →
    t.at node ≡ Marks site next → node < n → Agrees t debt label side node owed place → IsNodeInCopy (cloning t label) side node owed (Marks site next) (made_in t side owed place (Marks site next))
visit_right t n debt header label k Slow node owed place site next e l a =
    let inside = k.within node next (leads t node next (Marks site next) e (first_in next [])) in
    (place_in_copy t.sheet Slow next, refl, Here (k.slow next inside))
visit_right t n debt header label k Fast node owed place site next e l a =
    let inside = k.within node next (leads t node next (Marks site next) e (first_in next [])) in
    let begins : t.starts next ≡ true = not-false (t.starts next) (ap (is_inside t.starts) (sym e) ∙ a.last refl) in (
      place_in_copy t.sheet Fast next,
      begins,
      refl,
      subst (λ (d : ℕ). StandsForNode (cloning t label) Fast (place_in_copy t.sheet Fast next) next d) (k.none next begins) (k.fast next inside),
    )

pub in_right : (t : Tables) (n : ℕ) (debt : ℕ → ℕ) (header : ℕ → Bool) (label : ℕ → Option CopyLabel) → Known t n debt header label → (side : Side) (node owed place : ℕ) (v : View) →
    t.at node ≡ v → node < n → Agrees t debt label side node owed place → IsNodeInCopy (cloning t label) side node owed v (made_in t side owed place v)
in_right t n debt header label k side node owed place (Marks site next) e l a = visit_right t n debt header label k side node owed place site next e l a
in_right t n debt header label k side node owed place v e l a = owing_right t n debt header label k side node owed place v e l refl a
