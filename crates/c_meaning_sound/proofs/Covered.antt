-- The site table of a tree looks at the new values of its bodies.
use Rattle.std.proofs.Common.{inl, inr, ⊎_elim, ◌≡◌, ℕ, zero, suc, ◌≤◌, ◌<◌, refl, ap, subst, sym, ◌∙◌, arith, List, [], ◌∷◌, ◌++◌, Some, None, ◌+◌, Bool, true}
use Rattle.std.proofs.Common.{false, length}
use Rattle.std.specs.Prelude.{Option, ◌&&◌, ◌==◌, if◌then◌else◌, map, slice_get}
use Rattle.std.specs.List.{AllByRecursion, flat_map}
use Rattle.std.specs.Option.{option_and_then, option_map}
use Rattle.std.proofs.lemmas.Bool.{false≢true, and_parts}
use Rattle.std.proofs.lemmas.List.{append_assoc}
use Rattle.base_lists.proofs.Numbers.{same_number}
use Rattle.base_lists.proofs.Every.{all_join, all_so}
use Rattle.c_syntax.specs.Words.{EntryList, ItemTree, SourceTree, EachAt, ItemAt, entry_kinds, item_kinds, params_kinds, type_kinds}
use Rattle.c_syntax.specs.ItemTree as item
use Rattle.c_types_rules.specs.Words.{TypeTree, is_arithmetic}
use Rattle.c_types_expressions.specs.declared.walk.Variable.{Variable}
use Rattle.c_types_expressions.specs.declared.walk.Variable.TheVariants as variable
use Rattle.c_types_expressions.specs.declared.walk.VariableEntry.{VariableEntry}
use Rattle.c_types_expressions.specs.declared.walk.Walk.{Walk}
use Rattle.c_types.specs.Answers.{declared_at, place_at, variable_of}
use Rattle.flow.specs.declared.site.BranchWord.{BranchWord}
use Rattle.flow.specs.declared.site.Partner.{Partner}
use Rattle.flow.specs.declared.site.Site.{Site}
use Rattle.flow.specs.declared.site.SiteKind.TheVariants as kind
use Rattle.flow.specs.declared.site.Slot.{Slot}
use Rattle.c_meaning.specs.Words.{Signature, Sites, body_of_item, facts_of, is_pair, sites_from, sites_by_table}
use Rattle.c_meaning.specs.Known as known
use Rattle.c_meaning_laws.specs.Typed.{IsTarget, LooksAt}
use Rattle.c_meaning_laws.specs.TypedSource.{TypedBody}
use Rattle.c_meaning_sound.proofs.Accepting.{body_long}
use Rattle.c_meaning_sound.proofs.Covering.{Covers, Has, Shows}
use Rattle.c_meaning_sound.proofs.LiftingBodies.{lift_entries}
use Rattle.c_meaning_sound.proofs.Noting.{facts, none}
use Rattle.sites.specs.declared.ground.Stand.{Stand}
use Rattle.flow.specs.declared.choice.Schemes.{Schemes}
use Rattle.sites.specs.declared.spots.Spot.{Spot}
use Rattle.sites.specs.declared.spots.Spot.TheVariants as spot
use Rattle.sites.specs.Bodies.{entries_spots}
use Rattle.sites.specs.Rising.{RisesWithin}
use Rattle.sites.specs.SitesAt.{Body, change_sites, is_observed, named_pairs, pair_on, pairs_of, pairs_on, partners_of, site_on, sites_at, sites_in}
use Rattle.sites.specs.SitesAt.{sites_standing, stand_on}
use Rattle.sites.specs.Table as table
use Rattle.defined_functions.specs.Functions.{defined_by}
use Rattle.sites.specs.Table.{body_with, item_sites, items_sites}
use Rattle.sites.specs.Visible.{slot_of}
use Rattle.sites.proofs.RisesTable.{rises-item}

has_so : (P Q : ℕ → Type 0) (token : ℕ) (xs : List Spot) → ((target : ℕ) → P target → Q target) → Has P token xs → Has Q token xs
has_so P Q token [] f h = h
has_so P Q token (spot.Change own target ∷ rest) f h = ⊎_elim (λ x. inl (x.0, f target x.1)) (λ k. inr (has_so P Q token rest f k)) h
has_so P Q token (spot.Branch own word ∷ rest) f h = has_so P Q token rest f h
has_so P Q token (spot.Call own name ∷ rest) f h = has_so P Q token rest f h
has_so P Q token (spot.Constant value ∷ rest) f h = has_so P Q token rest f h

has_more : (P : ℕ → Type 0) (token : ℕ) (x : Spot) (xs : List Spot) → Has P token xs → Has P token (x ∷ xs)
has_more P token (spot.Change own target) xs h = inr h
has_more P token x xs h = h

-- tokens of sites
abbrev Between : ℕ → ℕ → Site → Type 0
Between low high s = (low ≤ s.token) × (s.token < high)

rising_between : (low high : ℕ) (xs : List Site) → RisesWithin low high xs → AllByRecursion (Between low high) xs
rising_between low high [] r = tt
rising_between low high (s ∷ rest) r = (
  (r.0, r.1),
  all_so (Between s.token high) (Between low high) rest (λ t h. (omega (arith, r.0, h.0), h.1)) (rising_between s.token high rest r.2),
)

abbrev Found : (Site → Type 0) → List Site → ℕ → Type 0
Found Q whole n = (s : Site) × (slice_get whole n ≡ Some s) × Q s

one_number : (Q : Site → Type 0) (whole : List Site) (k token : ℕ) (x : Site) (rest : List ℕ) (b : Bool) → (x.token == token && is_pair x.kind) ≡ b
    → slice_get whole k ≡ Some x → (x.token ≡ token → is_pair x.kind ≡ true → Q x) → AllByRecursion (Found Q whole) rest
    → AllByRecursion (Found Q whole) (if b then k ∷ rest else rest)
one_number Q whole k token x rest true e h f r =
    let parts : ((x.token == token) ≡ true) × (is_pair x.kind ≡ true) = and_parts (x.token == token) (is_pair x.kind) e in
    ((x, h, f (same_number x.token token parts.0) parts.1), r)
one_number Q whole k token x rest false e h f r = r

numbers_found : (Q : Site → Type 0) (whole suffix : List Site) (k token : ℕ)
    → ((i : ℕ) (s : Site) → slice_get suffix i ≡ Some s → slice_get whole (k + i) ≡ Some s)
    → AllByRecursion (λ s. s.token ≡ token → is_pair s.kind ≡ true → Q s) suffix → AllByRecursion (Found Q whole) (sites_from k is_pair token suffix)
numbers_found Q whole [] k token f h = tt
numbers_found Q whole (x ∷ xs) k token f h =
    one_number Q whole k token x (sites_from (suc k) is_pair token xs) (x.token == token && is_pair x.kind) refl
    (subst (λ n. slice_get whole n ≡ Some x) (omega arith) (f zero x refl)) h.0
    (numbers_found Q whole xs (suc k) token (λ i s e. subst (λ n. slice_get whole n ≡ Some s) (omega arith) (f (suc i) s e)) h.1)

module _ (tree : SourceTree) (z : Walk) where
  -- the site looks at the variable whose name stands at this token, and which holds a number
  record Pairs (target : ℕ) (s : Site) : Type 0 where
    slot : Slot
    named : (facts_of tree z).slot_at target ≡ Some slot
    looks : IsTarget slot s.kind
    of : TypeTree
    declared : declared_at z target ≡ Some of
    arithmetic : is_arithmetic of ≡ true

  same_slot : (v : Variable) → known.slot_of v ≡ slot_of v
  same_slot (variable.Global index) = refl
  same_slot (variable.Local index) = refl

  -- a site of a pair is at a new value of these spots
  abbrev Hosted : List Spot → Site → Type 0
  Hosted xs s = is_pair s.kind ≡ true → Has (λ target. Pairs target s) s.token xs

  hosted_if : (b : Bool) (xs : List Spot) (ss : List Site) → AllByRecursion (Hosted xs) ss → AllByRecursion (Hosted xs) (if b then ss else [])
  hosted_if true xs ss h = h
  hosted_if false xs ss h = tt

  pairs_hosted : (st : Stand) (target : ℕ) (xs : List Spot) (v : VariableEntry) (of : TypeTree) (ps : List Partner) → (facts_of tree z).slot_at target ≡ Some
      (slot_of v.variable)
      → declared_at z target ≡ Some of → is_arithmetic of ≡ true
      → AllByRecursion (Hosted (spot.Change st.token target ∷ xs)) (map (pair_on st v.name (slot_of v.variable)) ps)
  pairs_hosted st target xs v of [] e d a = tt
  pairs_hosted st target xs v of (p ∷ ps) e d a = (
    (λ q. inl (refl, record { slot = slot_of v.variable; named = e; looks = refl; of = of; declared = d; arithmetic = a })),
    pairs_hosted st target xs v of ps e d a,
  )

  module _ (b : Body) (own : b.known ≡ z) where
    entry_hosted : (st : Stand) (target place : ℕ) (xs : List Spot) (of : TypeTree) (o : Option VariableEntry) → place_at z target ≡ Some place
        → slice_get z.variables place ≡ o → declared_at z target ≡ Some of → is_arithmetic of ≡ true
        → AllByRecursion (Hosted (spot.Change st.token target ∷ xs)) (pairs_of b st place of o)
    entry_hosted st target place xs of None e k d a = tt
    entry_hosted st target place xs of (Some v) e k d a = pairs_hosted st target xs v of (partners_of b.known b.constants st.token place of)
        (ap (λ o. option_map known.slot_of (option_and_then (λ i. option_map variable_of (slice_get z.variables i)) o)) e
        ∙ ap (λ o. option_map known.slot_of (option_map variable_of o)) k ∙ ap (λ u. Some u) (same_slot v.variable)) d a

    typed_hosted : (st : Stand) (target place : ℕ) (xs : List Spot) (of : TypeTree) (c : Bool) → is_arithmetic of ≡ c → place_at z target ≡ Some place
        → declared_at z target ≡ Some of
        → AllByRecursion (Hosted (spot.Change st.token target ∷ xs)) (if c then pairs_of b st place of (slice_get b.known.variables place) else [])
    typed_hosted st target place xs of false a e d = tt
    typed_hosted st target place xs of true a e d =
        entry_hosted st target place xs of (slice_get b.known.variables place) e (ap (λ (w : Walk). slice_get w.variables place) (sym own)) d a

    place_hosted : (st : Stand) (target : ℕ) (xs : List Spot) (o : Option ℕ) (q : Option TypeTree) → place_at z target ≡ o → declared_at z target ≡ q
        → AllByRecursion (Hosted (spot.Change st.token target ∷ xs)) (pairs_on b st o q)
    place_hosted st target xs (Some place) (Some of) e d = typed_hosted st target place xs of (is_arithmetic of) refl e d
    place_hosted st target xs None None e d = tt
    place_hosted st target xs None (Some of) e d = tt
    place_hosted st target xs (Some place) None e d = tt

    change_hosted : (st : Stand) (target : ℕ) (xs : List Spot) → AllByRecursion (Hosted (spot.Change st.token target ∷ xs)) (change_sites b st target)
    change_hosted st target xs = hosted_if b.schemes.pairs (spot.Change st.token target ∷ xs) (named_pairs b st target)
        (place_hosted st target xs (place_at b.known target) (declared_at b.known target) (ap (λ w. place_at w target) (sym own))
        (ap (λ w. declared_at w target) (sym own)))

    change_standing : (token target : ℕ) (xs : List Spot) (o : Option ℕ)
        → AllByRecursion (Hosted (spot.Change token target ∷ xs)) (sites_standing b (spot.Change token target) (option_map (stand_on b.function token) o))
    change_standing token target xs None = tt
    change_standing token target xs (Some line) = change_hosted (stand_on b.function token line) target xs

    branch_standing : (token : ℕ) (word : BranchWord) (xs : List Spot) (o : Option ℕ)
        → AllByRecursion (Hosted xs) (sites_standing b (spot.Branch token word) (option_map (stand_on b.function token) o))
    branch_standing token word xs None = tt
    branch_standing token word xs (Some line) =
        hosted_if b.schemes.branches xs (site_on (stand_on b.function token line) (kind.Branch word) ∷ []) ((λ q. absurd (false≢true q)), tt)

    call_standing : (token : ℕ) (name : List ℕ) (xs : List Spot) (o : Option ℕ)
        → AllByRecursion (Hosted xs) (sites_standing b (spot.Call token name) (option_map (stand_on b.function token) o))
    call_standing token name xs None = tt
    call_standing token name xs (Some line) = hosted_if (b.schemes.returns && is_observed b.known token name) xs
        (site_on (stand_on b.function token line) (kind.Return name) ∷ []) ((λ q. absurd (false≢true q)), tt)

    sites_hosted : (xs : List Spot) → AllByRecursion (Hosted xs) (sites_in b xs)
    sites_hosted [] = tt
    sites_hosted (x ∷ xs) = all_join (Hosted (x ∷ xs)) (sites_at b x) (sites_in b xs) (own_hosted x)
        (all_so (Hosted xs) (Hosted (x ∷ xs)) (sites_in b xs) (λ s h q. has_more (λ target. Pairs target s) s.token x xs (h q)) (sites_hosted xs))
      where
        own_hosted : (x : Spot) → AllByRecursion (Hosted (x ∷ xs)) (sites_at b x)
        own_hosted (spot.Change token target) = change_standing token target xs (slice_get b.lines token)
        own_hosted (spot.Branch token word) = branch_standing token word (spot.Branch token word ∷ xs) (slice_get b.lines token)
        own_hosted (spot.Call token name) = call_standing token name (spot.Call token name ∷ xs) (slice_get b.lines token)
        own_hosted (spot.Constant value) = tt

  -- each body's new values are covered
  module _ (s : Sites) where
    abbrev pub ItemCovers : ℕ → ItemTree → Type 0
    ItemCovers at (item.Function token b stars name ps (Some body)) =
        Covers tree z s (at + length (type_kinds b stars) + 2 + length (params_kinds ps) + 2)
        (at + length (type_kinds b stars) + 2 + length (params_kinds ps) + 2 + length (entry_kinds body)) (entries_spots body)
    ItemCovers at x = Unit {0}

    abbrev pub ItemsCover : ℕ → List ItemTree → Type 0
    ItemsCover at [] = Unit {0}
    ItemsCover at (x ∷ xs) = ItemCovers at x × ItemsCover (at + length (item_kinds x) + 0) xs

    abbrev Lifts : List EntryList → Type 0
    Lifts ys = (number : ℕ) (f : Signature) → TypedBody (facts tree z) none f (slice_get ys number) → TypedBody (facts_of tree z) s f (slice_get ys number)

    one_lift : (body : EntryList) (ys : List EntryList) →
        ((f : Signature) → TypedBody (facts tree z) none f (Some body) → TypedBody (facts_of tree z) s f (Some body))
        → Lifts ys → Lifts (body ∷ ys)
    one_lift body ys h k zero f t = h f t
    one_lift body ys h k (suc number) f t = k number f t

    item_lift : (x : ItemTree) (at : ℕ) (ys : List EntryList) → ItemAt at x → ItemCovers at x → Lifts ys → Lifts (body_of_item x ++ ys)
    item_lift (item.Function token b stars name ps (Some body)) at ys p k h = one_lift body ys
        (λ f t. lift_entries tree z s (length f.locals) f.result body false (at + length (type_kinds b stars) + 2 + length (params_kinds ps) + 2) p.3 k t) h
    item_lift x at ys p k h = h

    pub items_lift : (xs : List ItemTree) (at : ℕ) → EachAt ItemAt item_kinds 0 at xs → ItemsCover at xs → Lifts (flat_map body_of_item xs)
    items_lift [] at p k = λ number f h. h
    items_lift (x ∷ xs) at p k =
        item_lift x at (flat_map body_of_item xs) p.0 k.0 (items_lift xs (at + length (item_kinds x) + 0) p.1 k.1)

  -- no sites
  item_none : (x : ItemTree) (at : ℕ) → ItemCovers (sites_by_table []) at x
  item_none (item.Function token b stars name ps (Some body)) at = λ token l h. tt
  item_none x at = tt

  pub items_none : (xs : List ItemTree) (at : ℕ) → ItemsCover (sites_by_table []) at xs
  items_none [] at = tt
  items_none (x ∷ xs) at = (item_none x at, items_none xs (at + length (item_kinds x) + 0))

  -- the table of the tree
  module _ (lines : List ℕ) (schemes : Schemes) where
    behind_at : (xs : List ItemTree) (number at : ℕ) → EachAt ItemAt item_kinds 0 at xs → AllByRecursion (λ s. at ≤ s.token)
        (items_sites z lines schemes number xs)
    behind_at [] number at p = tt
    behind_at (x ∷ xs) number at p =
        let next : ℕ = number + length (defined_by x) in
        all_join (λ s. at ≤ s.token) (item_sites z lines schemes number x) (items_sites z lines schemes next xs)
        (all_so (Between at (at + length (item_kinds x))) (λ s. at ≤ s.token) (item_sites z lines schemes number x) (λ s h. h.0)
        (rising_between at (at + length (item_kinds x)) (item_sites z lines schemes number x) (rises-item z lines schemes number at x p.0)))
        (all_so (λ s. at + length (item_kinds x) + 0 ≤ s.token) (λ s. at ≤ s.token) (items_sites z lines schemes next xs) (λ s h. omega (arith, h))
        (behind_at xs next (at + length (item_kinds x) + 0) p.1))

    shown : (whole : List Site) (token n : ℕ) (xs : List Spot) → Found (λ s. Has (λ target. Pairs target s) token xs) whole n
        → Has (λ target. Shows tree z (sites_by_table whole) target n) token xs
    shown whole token n xs h = has_so (λ target. Pairs target h.0) (λ target. Shows tree z (sites_by_table whole) target n) token xs
        (λ target p. record {
          slot = p.slot;
          named = p.named;
          looks = subst (LooksAt p.slot) (sym h.1) p.looks;
          of = p.of;
          declared = p.declared;
          arithmetic = p.arithmetic;
        }) h.2

    -- sites before and behind an item stand elsewhere
    body_covered : (before rest whole : List Site) (number at from to : ℕ) (xs : List Spot) → whole ≡ before ++
        (table.body_sites z lines schemes number xs ++ rest)
        → AllByRecursion (λ s. s.token < at) before → AllByRecursion (λ s. to ≤ s.token) rest → at ≤ from → Covers tree z (sites_by_table whole) from to xs
    body_covered before rest whole number at from to xs e l h m token p q =
        let b : Body = body_with z lines schemes number xs in
        let Q : Site → Type 0 = λ s. Has (λ target. Pairs target s) token xs in
        let all : AllByRecursion (λ s. s.token ≡ token → is_pair s.kind ≡ true → Q s) (before ++ (sites_in b xs ++ rest)) =
        all_join (λ s. s.token ≡ token → is_pair s.kind ≡ true → Q s) before (sites_in b xs ++ rest)
        (all_so (λ s. s.token < at) (λ s. s.token ≡ token → is_pair s.kind ≡ true → Q s) before (λ s u i j. absurd (omega (arith, u, i, m, p))) l)
        (all_join (λ s. s.token ≡ token → is_pair s.kind ≡ true → Q s) (sites_in b xs) rest
        (all_so (Hosted xs) (λ s. s.token ≡ token → is_pair s.kind ≡ true → Q s) (sites_in b xs)
        (λ s u i j. subst (λ n. Has (λ target. Pairs target s) n xs) i (u j)) (sites_hosted b refl xs))
        (all_so (λ s. to ≤ s.token) (λ s. s.token ≡ token → is_pair s.kind ≡ true → Q s) rest (λ s u i j. absurd (omega (arith, u, i, q))) h)) in
        all_so (Found Q whole) (λ n. Has (λ target. Shows tree z (sites_by_table whole) target n) token xs) (sites_from 0 is_pair token whole)
        (λ n f. shown whole token n xs f)
        (numbers_found Q whole whole 0 token (λ i s f. subst (λ n. slice_get whole n ≡ Some s) (omega arith) f)
        (subst (AllByRecursion (λ s. s.token ≡ token → is_pair s.kind ≡ true → Q s)) (sym e) all))

    item_covered : (x : ItemTree) (before rest whole : List Site) (number at : ℕ) → whole ≡ before ++ (item_sites z lines schemes number x ++ rest)
        → AllByRecursion (λ s. s.token < at) before → AllByRecursion (λ s. at + length (item_kinds x) + 0 ≤ s.token) rest → ItemCovers (sites_by_table whole) at x
    item_covered (item.Function token b stars name ps (Some body)) before rest whole number at e l h =
        let lo : ℕ = at + length (type_kinds b stars) + 2 + length (params_kinds ps) + 2 in
        body_covered before rest whole number at lo (lo + length (entry_kinds body)) (entries_spots body) e l
        (all_so (λ s. at + length (item_kinds (item.Function token b stars name ps (Some body))) + 0 ≤ s.token)
        (λ s. lo + length (entry_kinds body) ≤ s.token) rest
        (λ s k. omega (arith, k, body_long tree z b stars name ps token body)) h) (omega arith)
    item_covered x before rest whole number at e l h = tt

    pub items_covered : (xs : List ItemTree) (before whole : List Site) (number at : ℕ) → whole ≡ before ++ items_sites z lines schemes number xs
        → AllByRecursion (λ s. s.token < at) before → EachAt ItemAt item_kinds 0 at xs → ItemsCover (sites_by_table whole) at xs
    items_covered [] before whole number at e l p = tt
    items_covered (x ∷ xs) before whole number at e l p =
        let next : ℕ = number + length (defined_by x) in
        let hi : ℕ = at + length (item_kinds x) + 0 in
        let here : List Site = item_sites z lines schemes number x in (
          item_covered x before (items_sites z lines schemes next xs) whole number at e l (behind_at xs next hi p.1),
          items_covered xs (before ++ here) whole next hi (e ∙ sym (append_assoc before here (items_sites z lines schemes next xs)))
              (all_join (λ s. s.token < hi) before here (all_so (λ s. s.token < at) (λ s. s.token < hi) before (λ s h. omega (arith, h)) l)
              (all_so (Between at (at + length (item_kinds x))) (λ s. s.token < hi) here (λ s h. omega (arith, h.1))
              (rising_between at (at + length (item_kinds x)) here (rises-item z lines schemes number at x p.0)))) p.1,
        )

  pub table_covers : (schemes : Schemes) → EachAt ItemAt item_kinds 0 0 tree.items → ItemsCover (sites_by_table (table.sites_of tree z schemes)) 0 tree.items
  table_covers schemes p = items_covered tree.lines schemes tree.items [] (table.sites_of tree z schemes) 0 0 refl tt p
