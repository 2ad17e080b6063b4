-- The sites of a text are those that its tree says.
use Rattle.std.proofs.Common.{◌≡◌, ℕ, true, ◌&&◌, ◌||◌, if◌then◌else◌, List, [], ◌∷◌, ◌++◌, map, Option, Some, None, is_some, refl, sym, ap, ◌∙◌, subst}
use Rattle.std.specs.Prelude.{codes, slice_get}
use Rattle.std.specs.List.{AllByRecursion}
use Rattle.std.specs.Str.{bytes_eq}
use Rattle.c_syntax.specs.ItemTree as i
use Rattle.c_syntax.specs.Words.{ItemTree, SourceTree, IsShaped}
use Rattle.c_types_rules.specs.Words.{TypeTree, is_arithmetic}
use Rattle.c_types.specs.Answers.{declared_at, place_at, type_at}
use Rattle.c_types.specs.Fault.{walk_tree}
use Rattle.c_types_expressions.specs.Walked.{Fine}
use Rattle.c_types_expressions.specs.declared.walk.VariableEntry.{VariableEntry}
use Rattle.c_types_expressions.specs.declared.walk.Walk.{Walk}
use Rattle.c_types_walk.specs.ItemWalk.{listed_params}
use Rattle.c_types_faults.specs.NotedCalls.{number_called}
use Rattle.c_types_faults.specs.Events.{Event, Names, Opens, Closes, Defines, entries_events, events_of, is_point, item_events, items_events, params_events}
use Rattle.c_types_faults.proofs.Calls.{functions_are}
use Rattle.c_types_faults.proofs.NotedTexts.{text_left}
use Rattle.c_types_faults.specs.Scopes.{scopes_of}
use Rattle.flow.specs.declared.site.Partner.TheVariants as partner
use Rattle.flow.specs.declared.site.SiteKind.TheVariants as kind
use Rattle.sites.specs.declared.ground.Stand.{Stand}
use Rattle.sites.specs.declared.spots.Spot.{Spot}
use Rattle.sites.specs.declared.spots.Spot.TheVariants as spot
use Rattle.sites.specs.Bodies.{entries_spots}
use Rattle.sites.specs.SitesAt.{Body, gives_scalar, is_observed, pair_on, pairs_of, pairs_on, partners_of, site_on}
use Rattle.defined_functions.specs.Functions.{functions_of}
use Rattle.sites.specs.Table.{body_with}
use Rattle.sites.specs.Visible.{slot_of}
use Rattle.sites.specs.Wanted.{all_schemes}
use Rattle.sites_laws.specs.Partners.{partners_in}
use Rattle.sites_laws.specs.Told.{ItemTold, SpotTold, compared_with, is_seen, pairs_at, pairs_with}
use Rattle.sites_laws.proofs.Partners.{partners_are}
use Rattle.sites_laws.proofs.Standing.{HasCall, Stands, entries_stand, has_construct, stand_left, stand_right}
use Rattle.sites_laws.proofs.Standing as here

module _ (t : SourceTree) (z : Walk) (shaped : IsShaped t) (w : walk_tree t ≡ Fine tt z) where
  seen_alike : (token : ℕ) (name : List ℕ) → HasCall token name (events_of t) → is_observed z token name ≡ is_seen t z token name
  seen_alike token name h =
      ap (λ o. gives_scalar (type_at z token) && (is_some o || bytes_eq name (codes "getchar") || bytes_eq name (codes "malloc")))
      (functions_are t z shaped w token
      ∙ ap (number_called (functions_of t)) (has_construct token name (events_of t) (text_left t z shaped w).once h))

  -- in a body of the text, for all schemes
  module _ (b : Body) (known : b.known ≡ z) (returns : b.schemes.returns ≡ true) (pairs : b.schemes.pairs ≡ true) (branches : b.schemes.branches ≡ true) where
    pairs_alike : (s : Stand) (token : ℕ) → s.token ≡ token → is_point t token ≡ true → (place : Option ℕ) (of : Option TypeTree)
        → pairs_on b s place of ≡ pairs_at t b s place of
    pairs_alike s token at point None of = refl
    pairs_alike s token at point (Some place) None = refl
    pairs_alike s token at point (Some place) (Some of) =
        ap (λ xs. if is_arithmetic of then xs else []) (by (slice_get b.known.variables place))
      where
        partners : partners_of b.known b.constants s.token place of ≡ compared_with t b s.token place of
        partners = subst (λ v. partners_of v b.constants s.token place of
            ≡ partners_in v s.token place of 0 v.variables (scopes_of t) ++ map partner.Constant b.constants) (sym known)
            (partners_are t z shaped w b.constants s.token place of (subst (λ k. is_point t k ≡ true) (sym at) point))

        by : (o : Option VariableEntry) → pairs_of b s place of o ≡ pairs_with (compared_with t b s.token place of) s o
        by None = refl
        by (Some v) = ap (map (pair_on s v.name (slot_of v.variable))) partners

    spot_told : (x : Spot) → Stands (events_of t) x → SpotTold t b x
    spot_told (spot.Branch token word) h = λ s. ap (λ c. if c then site_on s (kind.Branch word) ∷ [] else []) branches
    spot_told (spot.Call token name) h =
        λ s at. ap (λ c. if c && is_observed b.known s.token name then site_on s (kind.Return name) ∷ [] else []) returns
        ∙ ap (λ c. if c then site_on s (kind.Return name) ∷ [] else [])
        (ap (λ k. is_observed b.known k name) at
        ∙ subst (λ v. is_observed v token name ≡ is_seen t v token name) (sym known) (seen_alike token name h))
    spot_told (spot.Change token target) h = (
      h,
      λ s at point. ap (λ c. if c then pairs_on b s (place_at b.known target) (declared_at b.known target) else []) pairs
          ∙ pairs_alike s token at point (place_at b.known target) (declared_at b.known target),
    )
    spot_told (spot.Constant value) h = λ s. refl

    spots_told : (xs : List Spot) → here.Stand (events_of t) xs → AllByRecursion (SpotTold t b) xs
    spots_told [] h = tt
    spots_told (x ∷ xs) h = (spot_told x h.0, spots_told xs h.1)

  -- the calls of a body are calls of the text
  item_told : (number : ℕ) (x : ItemTree) → ((xs : List Spot) → here.Stand (item_events x) xs → here.Stand (events_of t) xs) → ItemTold t z number x
  item_told number (i.Function token b stars name ps (Some body)) f =
      let es : List Event = params_events (listed_params ps) ++ entries_events body in
      spots_told (body_with z t.lines all_schemes number (entries_spots body)) refl refl refl refl (entries_spots body)
      (f (entries_spots body)
      (stand_right (Names name ∷ Opens ∷ []) ((es ++ Closes ∷ []) ++ Defines ∷ []) (entries_spots body)
      (stand_left (es ++ Closes ∷ []) (Defines ∷ []) (entries_spots body)
      (stand_left es (Closes ∷ []) (entries_spots body)
      (stand_right (params_events (listed_params ps)) (entries_events body) (entries_spots body) (entries_stand body))))))
  item_told number x f = tt

  items_told : (number : ℕ) (xs : List ItemTree) → ((ys : List Spot) → here.Stand (items_events xs) ys → here.Stand (events_of t) ys)
      → AllByRecursion (ItemTold t z number) xs
  items_told number [] f = tt
  items_told number (x ∷ xs) f = (
    item_told number x (λ ys h. f ys (stand_left (item_events x) (items_events xs) ys h)),
    items_told number xs (λ ys h. f ys (stand_right (item_events x) (items_events xs) ys h)),
  )

pub sites_are_told : (t : SourceTree) (z : Walk) → IsShaped t → walk_tree t ≡ Fine tt z → (number : ℕ) → AllByRecursion (ItemTold t z number) t.items
sites_are_told t z shaped w number = items_told t z shaped w number t.items (λ ys h. h)
