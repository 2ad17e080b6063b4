-- Each site of an accepted text stands in one of its functions, at a line and a token that programs have, and looks at what is there.
use Rattle.std.proofs.Common.{◌≡◌, ℕ, zero, suc, ◌≤◌, ◌<◌, refl, ap, subst, sym, ◌∙◌, arith, List, [], ◌∷◌, ◌++◌, Some, None, ◌+◌, Bool, true, false, length}
use Rattle.std.specs.Prelude.{Option, ℤ, IsTrue, map, sum_by, slice_get, not, ◌==◌, ◌&&◌, if◌then◌else◌, option_map}
use Rattle.std.specs.List.{All, AllByRecursion, flat_map, list_any}
use Rattle.std.specs.Ordering.{int_eq}
use Rattle.std.specs.Option.{option_and_then}
use Rattle.std.proofs.lemmas.List.Elements.{All-append, All-map, All-nil, All-cons, All-weaker}
use Rattle.std.proofs.lemmas.Option.{slice_get_within}
use Rattle.std.proofs.lemmas.Bool.{and_parts}
use Rattle.base_lists.proofs.Numbers.{less_is}
use Rattle.base_lists.proofs.Lists.{get_map}
use Rattle.base_lists.proofs.Every.{all_first, all_second}
use Rattle.cbi_base.specs.Name.{IsName}
use Rattle.c_syntax.specs.declared.token.Sign.TheVariants as sign
use Rattle.c_syntax.specs.Words.{EntryList, ItemTree, SourceTree, EachAt, EntriesAt, ItemAt, a_name, a_sign, body_kinds, entry_kinds, item_kinds, params_kinds}
use Rattle.c_syntax.specs.Words.{parenthesized_kinds, tree_kinds, type_kinds, kind_text_len, IsShaped}
use Rattle.c_syntax.specs.ItemTree as item
use Rattle.c_types_rules.specs.Words.{is_arithmetic, TypeTree}
use Rattle.c_types_expressions.specs.declared.walk.Definition.{Definition}
use Rattle.c_types_expressions.specs.declared.walk.Variable.{Variable}
use Rattle.c_types_expressions.specs.declared.walk.Variable.TheVariants as variable
use Rattle.c_types_expressions.specs.declared.walk.VariableEntry.{VariableEntry}
use Rattle.c_types_expressions.specs.declared.walk.Walk.{Walk}
use Rattle.c_types.specs.Answers.{declared_at, place_at, scope_holds, type_at, variable_at, variable_of}
use Rattle.c_types_expressions.specs.Words.{empty_walk, Fine}
use Rattle.c_types.specs.Fault.{walk_tree}
use Rattle.c_types.proofs.NotedItems.{text_notes}
use Rattle.c_types.proofs.NumberLaws.{variables_are}
use Rattle.c_meaning.specs.Known.{body_of_item}
use Rattle.c_meaning.specs.Known as mean
use Rattle.flow.specs.declared.site.Partner.{Partner}
use Rattle.flow.specs.declared.site.Partner.TheVariants as partner
use Rattle.flow.specs.declared.site.Site.{Site}
use Rattle.flow.specs.declared.site.SiteKind.{SiteKind}
use Rattle.flow.specs.declared.site.SiteKind.TheVariants as kind
use Rattle.flow.specs.declared.site.Slot.{Slot}
use Rattle.flow.specs.Sites.{IsSite, KindFits, PartnerFits, is_constant, slot_fits}
use Rattle.flow.specs.declared.choice.Schemes.{Schemes}
use Rattle.sites.specs.declared.spots.Spot.{Spot}
use Rattle.sites.specs.declared.spots.Spot.TheVariants as spot
use Rattle.sites.specs.Bodies.{entries_spots}
use Rattle.sites.specs.Constants.{constants_of, new_constants}
use Rattle.sites.specs.SitesAt.{Body, is_observed, pair_on, pairs_of, pairs_on, partners_of, site_on, sites_at, sites_in, sites_standing, spot_sites, stand_on}
use Rattle.defined_functions.specs.Functions.{defined_by}
use Rattle.sites.specs.Table.{body_sites, item_sites, items_sites, sites_of}
use Rattle.sites.specs.Visible.{is_hidden, is_partner, is_type, is_visible, slot_of, variable_partners}
use Rattle.sites.proofs.Owners.{either}
use Rattle.sites.proofs.Rises as rising
use Rattle.sites.proofs.RisesBodies.{rises-entries}
use Rattle.c_meaning_laws.specs.Typed.{HasSlot}
use Rattle.c_meaning_sound.specs.Accepted.{IsAcceptedTree, IsNegatable}
use Rattle.c_meaning_sound.specs.Sited.{IsLine, IsSited, IsSitedToken, count_of, local_counts}
use Rattle.c_meaning_sound.proofs.Accepting.{begins_standing, begins_tagged, body_long}
use Rattle.c_meaning_sound.proofs.Ending.{Sums, tree_ended, tree_is, tree_sums}
use Rattle.c_meaning_sound.proofs.Extents.{AllExtend, Extended, Extends, Stands, items_extent}
use Rattle.c_meaning_sound.proofs.Forming.{Ended}
use Rattle.c_meaning_sound.proofs.Globals.{global_good}
use Rattle.c_meaning_sound.proofs.Lengths.{strings_short}
use Rattle.c_meaning_sound.proofs.NamedParts.{variable_named}
use Rattle.c_meaning_sound.proofs.Noting.{facts, is_of, none, slot_named}
use Rattle.c_meaning_sound.proofs.Reading.{all_spelled}
use Rattle.c_meaning_sound.proofs.Spanning.{InScope, Spans, global_numbered}
use Rattle.c_meaning_sound.proofs.Spotting.{Slotted, SpotsFit}
use Rattle.c_meaning_sound.proofs.SpottingBodies.{entries_fit}
use Rattle.c_meaning_sound.proofs.Stating.{body_good}

line_at : (lines : List ℕ) (token line : ℕ) → AllByRecursion IsLine lines → slice_get lines token ≡ Some line → IsLine line
line_at [] token line h e = cc
line_at (l ∷ lines) zero line h e = subst IsLine (is l line e) h.0
  where
    is : (a b : ℕ) → Some a ≡ Some b → a ≡ b
    is a b q = cc
line_at (l ∷ lines) (suc token) line h e = line_at lines token line h.1 e

-- the constants of a body
if_all : {A : Type 0} (P : A → Type 0) (b : Bool) (xs ys : List A) → All P xs → All P ys → All P (if b then xs else ys)
if_all P true xs ys h k = h
if_all P false xs ys h k = k

module _ (tree : SourceTree) (z : Walk) (locals : ℕ) where
  abbrev Fit : List Spot → Type 0
  Fit xs = SpotsFit (facts tree z) none locals xs

  constants_fit : (before : List ℤ) (xs : List Spot) → Fit xs → All (λ v. IsTrue (is_constant v)) (new_constants before xs)
  constants_fit before [] h = All-nil (λ v. IsTrue (is_constant v))
  constants_fit before (spot.Branch token word ∷ xs) h = constants_fit before xs h.1
  constants_fit before (spot.Call token name ∷ xs) h = constants_fit before xs h.1
  constants_fit before (spot.Change token target ∷ xs) h = constants_fit before xs h.1
  constants_fit before (spot.Constant value ∷ xs) h =
      if_all (λ v. IsTrue (is_constant v)) (list_any (int_eq value) before) (new_constants before xs) (value ∷ new_constants (before ++ value ∷ []) xs)
      (constants_fit before xs h.1) (All-cons (λ v. IsTrue (is_constant v)) value (new_constants (before ++ value ∷ []) xs) h.0
      (constants_fit (before ++ value ∷ []) xs h.1))

  -- the slot of a variable that gets a new value
  slot_real : (o own : Option TypeTree) (s : Option Slot) → HasSlot (facts tree z) none locals (slot_named o own s) → HasSlot (facts tree z) none locals s
  slot_real None own s h = h
  slot_real (Some of) own s h = tested (is_of of own) h
    where
      tested : (b : Bool) → HasSlot (facts tree z) none locals (if b then s else None) → HasSlot (facts tree z) none locals s
      tested true h = h
      tested false h = absurd h

  slot_is : (v : Variable) → ((index : ℕ) → v ≡ variable.Global index → index < z.globals) → HasSlot (facts tree z) none locals (Some (mean.slot_of v))
      → IsTrue (slot_fits locals z.globals (slot_of v))
  slot_is (variable.Global index) g h = less_is index z.globals (g index refl)
  slot_is (variable.Local index) g h = less_is index locals h

  target_fits : (last target place : ℕ) (entry : VariableEntry) → Spans last z → Slotted (facts tree z) none locals target → place_at z target ≡ Some place
      → slice_get z.variables place ≡ Some entry → IsTrue (slot_fits locals z.globals (slot_of entry.variable))
  target_fits last target place entry spans h e i =
      let real : HasSlot (facts tree z) none locals (option_map mean.slot_of (variable_at z target)) =
      slot_real (type_at z target) (declared_at z target) (option_map mean.slot_of (variable_at z target)) h in
      let is : option_map mean.slot_of (variable_at z target) ≡ Some (mean.slot_of entry.variable) =
      ap (λ o. option_map mean.slot_of (option_and_then (λ p. option_map variable_of (slice_get z.variables p)) o)) e
      ∙ ap (λ o. option_map mean.slot_of (option_map variable_of o)) i in
      slot_is entry.variable (λ index k. global_numbered last z spans place index entry i k) (subst (HasSlot (facts tree z) none locals) is real)

module _ (tree : SourceTree) (z : Walk) (lines : List ℕ) (schemes : Schemes) (n at hi last : ℕ) (own : Definition)
    (here : slice_get z.definitions n ≡ Some own) (scope : InScope at hi own.count z) (spans : Spans last z)
    (lined : AllByRecursion IsLine lines) (few : length lines ≤ 100000)
    (names : (i : ℕ) (x : VariableEntry) → slice_get z.variables i ≡ Some x → IsName x.name) (constants : List ℤ)
    (kept : All (λ v. IsTrue (is_constant v)) constants) where
  abbrev P : Site → Type 0
  P = IsSite (map count_of z.definitions) z.globals

  abbrev own_body : Body
  own_body = record { known = z; lines = lines; schemes = schemes; function = n; constants = constants }

  on_line : (token line : ℕ) (k : SiteKind) → slice_get lines token ≡ Some line → KindFits own.count z.globals k → P (site_on (stand_on n token line) k)
  on_line token line k e h = record {
    own = own.count;
    owner = get_map count_of z.definitions n own here;
    fits = record {
      first_line = (line_at lines token line lined e).0;
      last_line = (line_at lines token line lined e).1;
      token = omega (arith, few, slice_get_within lines token line e);
      kind = h;
    };
  }

  abbrev Beside : Partner → Type 0
  Beside p = PartnerFits own.count z.globals p

  -- variables in scope
  is_visible_in : (token target place : ℕ) (of : TypeTree) (v : VariableEntry) (later : List VariableEntry) → is_partner z token target of place v later ≡ true
      → scope_holds z place token ≡ true
  is_visible_in token target place of v later h =
      (and_parts (scope_holds z place token) (not (is_hidden z token v.name (suc place) later))
      (and_parts (not (place == target) && is_type of (declared_at z v.from)) (is_visible z token place v later) h).1).0

  beside_by : (b : Bool) (v : VariableEntry) (rest : List Partner) → (b ≡ true → Beside (partner.Variable v.name (slot_of v.variable))) → All Beside rest
      → All Beside (if b then partner.Variable v.name (slot_of v.variable) ∷ rest else rest)
  beside_by true v rest h k = All-cons Beside (partner.Variable v.name (slot_of v.variable)) rest (h refl) k
  beside_by false v rest h k = k

  variables_beside : (token target place : ℕ) (of : TypeTree) (vs : List VariableEntry) → at ≤ token → token < hi
      → ((i : ℕ) → slice_get z.variables (place + i) ≡ slice_get vs i) → All Beside (variable_partners z token target of place vs)
  variables_beside token target place of [] low high e = All-nil Beside
  variables_beside token target place of (v ∷ later) low high e =
      let is : slice_get z.variables place ≡ Some v = subst (λ p. slice_get z.variables p ≡ Some v) (omega arith) (e 0) in
      beside_by (is_partner z token target of place v later) v (variable_partners z token target of (suc place) later)
      (λ h. (names place v is, scope token low high place v is (is_visible_in token target place of v later h)))
      (variables_beside token target (suc place) of later low high (λ i. subst (λ p. slice_get z.variables p ≡ slice_get later i) (omega arith) (e (suc i))))

  partners_beside : (token place : ℕ) (of : TypeTree) → at ≤ token → token < hi → All Beside (partners_of z constants token place of)
  unfolding partners_of
  partners_beside token place of low high =
      All-append Beside (variable_partners z token place of 0 z.variables) (map partner.Constant constants)
      (variables_beside token place 0 of z.variables low high (λ i. ap (slice_get z.variables) (omega arith)))
      (All-map Beside partner.Constant constants kept)

  -- pairs
  pair_sites : (token line : ℕ) (name : List ℕ) (s : Slot) (ps : List Partner) → slice_get lines token ≡ Some line → IsName name
      → IsTrue (slot_fits own.count z.globals s) → All Beside ps → All (λ p. P (pair_on (stand_on n token line) name s p)) ps
  pair_sites token line name s ps e i f h =
      All-weaker Beside (λ p. P (pair_on (stand_on n token line) name s p)) (λ p k. on_line token line (kind.Pair name s p) e (i, f, k)) ps h

  pairs_by : (token line place target : ℕ) (of : TypeTree) (o : Option VariableEntry) → slice_get z.variables place ≡ o → slice_get lines token ≡ Some line
      → at ≤ token → token < hi → place_at z target ≡ Some place → Slotted (facts tree z) none own.count target
      → All P (pairs_of own_body (stand_on n token line) place of o)
  pairs_by token line place target of None e l low high i h = All-nil P
  pairs_by token line place target of (Some v) e l low high i h =
      All-map P (pair_on (stand_on n token line) v.name (slot_of v.variable)) (partners_of z constants token place of)
      (pair_sites token line v.name (slot_of v.variable) (partners_of z constants token place of) l (names place v e)
      (target_fits tree z own.count last target place v spans h i e) (partners_beside token place of low high))

  named_by : (token line target : ℕ) (p : Option ℕ) (o : Option TypeTree) → place_at z target ≡ p → slice_get lines token ≡ Some line → at ≤ token → token < hi
      → Slotted (facts tree z) none own.count target → All P (pairs_on own_body (stand_on n token line) p o)
  named_by token line target (Some place) (Some of) i l low high h =
      either P (is_arithmetic of) (pairs_of own_body (stand_on n token line) place of (slice_get z.variables place))
      (pairs_by token line place target of (slice_get z.variables place) refl l low high i h)
  named_by token line target None None i l low high h = All-nil P
  named_by token line target None (Some of) i l low high h = All-nil P
  named_by token line target (Some place) None i l low high h = All-nil P

  single : (x : Site) → P x → All P (x ∷ [])
  single x h = All-cons P x [] h (All-nil P)

  standing_by : (x : Spot) (token : ℕ) (o : Option ℕ) → slice_get lines token ≡ o
      → ((line : ℕ) → slice_get lines token ≡ Some line → All P (spot_sites own_body (stand_on n token line) x))
      → All P (sites_standing own_body x (option_map (stand_on n token) o))
  standing_by x token None e h = All-nil P
  standing_by x token (Some line) e h = h line e

  spots_stand : (low : ℕ) (xs : List Spot) → at ≤ low → rising.Rises low hi xs → SpotsFit (facts tree z) none own.count xs → All P (sites_in own_body xs)
  spots_stand low [] h r f = All-nil P
  spots_stand low (spot.Branch token word ∷ xs) h r f =
      All-append P (sites_at own_body (spot.Branch token word)) (sites_in own_body xs)
      (standing_by (spot.Branch token word) token (slice_get lines token) refl (λ line e.
      either P schemes.branches (site_on (stand_on n token line) (kind.Branch word) ∷ [])
      (single (site_on (stand_on n token line) (kind.Branch word)) (on_line token line (kind.Branch word) e tt))))
      (spots_stand token xs (omega (arith, h, r.0)) r.2 f.1)
  spots_stand low (spot.Call token name ∷ xs) h r f =
      All-append P (sites_at own_body (spot.Call token name)) (sites_in own_body xs)
      (standing_by (spot.Call token name) token (slice_get lines token) refl (λ line e.
      either P (schemes.returns && is_observed z token name) (site_on (stand_on n token line) (kind.Return name) ∷ [])
      (single (site_on (stand_on n token line) (kind.Return name)) (on_line token line (kind.Return name) e f.0))))
      (spots_stand token xs (omega (arith, h, r.0)) r.2 f.1)
  spots_stand low (spot.Change token target ∷ xs) h r f =
      All-append P (sites_at own_body (spot.Change token target)) (sites_in own_body xs)
      (standing_by (spot.Change token target) token (slice_get lines token) refl (λ line e.
      either P schemes.pairs (pairs_on own_body (stand_on n token line) (place_at z target) (declared_at z target))
      (named_by token line target (place_at z target) (declared_at z target) refl e (omega (arith, h, r.0)) r.1 f.0)))
      (spots_stand token xs (omega (arith, h, r.0)) r.2 f.1)
  spots_stand low (spot.Constant value ∷ xs) h r f = spots_stand low xs h r f.1

module _ (tree : SourceTree) (z : Walk) (ends : Ended tree z) (sums : Sums z) (schemes : Schemes) (last : ℕ) (spans : Spans last z)
    (lined : AllByRecursion IsLine tree.lines) (few : length tree.lines ≤ 100000)
    (names : (i : ℕ) (x : VariableEntry) → slice_get z.variables i ≡ Some x → IsName x.name) (long : length z.declared_types ≡ length z.variables) where
  abbrev Every : List Site → Type 0
  Every xs = All (IsSite (map count_of z.definitions) z.globals) xs

  abbrev Own : ℕ → ℕ → ℕ → ItemTree → Type 0
  Own n at hi x = Extends tree z ends sums (body_good tree z ends) (global_good tree z ends) long n at hi x

  body_stands : (n at hi from : ℕ) (body : EntryList) → Stands tree z ends sums (body_good tree z ends) (global_good tree z ends) long n at hi body → at ≤ from
      → from + length (entry_kinds body) ≤ hi → EntriesAt from body → AllByRecursion IsSitedToken (entry_kinds body)
      → Every (body_sites z tree.lines schemes n (entries_spots body))
  body_stands n at hi from body k low high p q =
      let fit : SpotsFit (facts tree z) none k.own.count (entries_spots body) = entries_fit (facts tree z) none k.own.count k.result false body k.typed q in
      spots_stand tree z tree.lines schemes n at hi last k.own k.here k.scope spans lined few names (constants_of (entries_spots body))
      (constants_fit tree z k.own.count [] (entries_spots body) fit) from (entries_spots body) low
      (rising.wider from (from + length (entry_kinds body)) from hi (entries_spots body) (omega arith) high (rises-entries from body p)) fit

  item_stands : (x : ItemTree) (n at : ℕ) → Own n at (at + length (item_kinds x) + 0) x → ItemAt at x → AllByRecursion IsSitedToken (item_kinds x)
      → Every (item_sites z tree.lines schemes n x)
  item_stands (item.Function token b stars name ps (Some body)) n at k p q =
      let behind = all_second IsSitedToken (type_kinds b stars ++ a_name name ++ parenthesized_kinds (params_kinds ps)) (body_kinds (Some body)) q in
      body_stands n at (at + length (item_kinds (item.Function token b stars name ps (Some body))) + 0)
      (at + length (type_kinds b stars) + 2 + length (params_kinds ps) + 2) body k (omega arith)
      (omega (arith, body_long tree z b stars name ps token body)) p.3
      (all_first IsSitedToken (entry_kinds body) (a_sign sign.RightBrace) behind.1)
  item_stands x n at k p q = All-nil (IsSite (map count_of z.definitions) z.globals)

  same_count : (x : ItemTree) → length (defined_by x) ≡ length (body_of_item x)
  same_count (item.Struct token tag members) = refl
  same_count (item.Function token b stars name ps None) = refl
  same_count (item.Function token b stars name ps (Some body)) = refl
  same_count (item.Declaration d) = refl

  items_stand : (xs : List ItemTree) (n at : ℕ) → AllExtend tree z ends sums (body_good tree z ends) (global_good tree z ends) long n at xs
      → EachAt ItemAt item_kinds 0 at xs → AllByRecursion IsSitedToken (flat_map item_kinds xs) → Every (items_sites z tree.lines schemes n xs)
  items_stand [] n at k p q = All-nil (IsSite (map count_of z.definitions) z.globals)
  items_stand (x ∷ xs) n at k p q =
      All-append (IsSite (map count_of z.definitions) z.globals) (item_sites z tree.lines schemes n x)
      (items_sites z tree.lines schemes (n + length (defined_by x)) xs)
      (item_stands x n at k.0 p.0 (all_first IsSitedToken (item_kinds x) (flat_map item_kinds xs) q))
      (subst (λ m. Every (items_sites z tree.lines schemes (n + m) xs)) (sym (same_count x))
      (items_stand xs (n + length (body_of_item x)) (at + length (item_kinds x) + 0) k.1 p.1 (all_second IsSitedToken (item_kinds x) (flat_map item_kinds xs) q)))

-- each site of an accepted text is one that a program takes
pub sites_stand : (tree : SourceTree) (z : Walk) (schemes : Schemes) → IsShaped tree → walk_tree tree ≡ Fine tt z
    → sum_by kind_text_len (tree_kinds tree) ≤ 1048575 → AllByRecursion IsNegatable (tree_kinds tree) → AllByRecursion IsSitedToken (tree_kinds tree)
    → AllByRecursion IsLine tree.lines → length tree.lines ≤ 100000
    → All (IsSite (map count_of z.definitions) z.globals) (sites_of tree z schemes)
sites_stand tree z schemes s h l q n lined few =
    let ends : Ended tree z = tree_ended tree z s h in
    let sums : Sums z = tree_sums tree z s h in
    let long : length z.declared_types ≡ length z.variables = (text_notes tree z h).1.0 in
    let k : Extended tree z ends sums (body_good tree z ends) (global_good tree z ends) long 0 (empty_walk (length tree.lines)) tree.items =
    items_extent tree z ends sums (body_good tree z ends) (global_good tree z ends) long tree.items (length tree.lines) 0 (empty_walk (length tree.lines)) tt
    s.items s.placed (all_spelled tree s.items s.placed (strings_short tree 1048575 l)) q (record { structs = tt; functions = tt })
    (begins_standing tree z (length tree.lines)) (begins_tagged tree z (length tree.lines))
    (record { long = refl; latest = λ n p q. q; past = λ i entry e. cc }) (omega (arith, s.lines)) (tree_is tree z h).items in
    items_stand tree z ends sums schemes k.last k.spans lined few
    (variable_named tree z.variables n (variables_are tree z h)) long tree.items 0 0 k.all s.placed n

pub accepted_stand : (tree : SourceTree) (walk : Walk) (schemes : Schemes) → IsAcceptedTree tree walk → IsSited tree
    → All (IsSite (local_counts walk) walk.globals) (sites_of tree walk schemes)
accepted_stand tree walk schemes a s = sites_stand tree walk schemes a.formed.shaped a.walked a.short a.constants s.tokens s.lines s.few
