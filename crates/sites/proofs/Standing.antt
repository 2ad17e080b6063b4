-- The tokens of constructs that rise, and of those of items.
use Rattle.std.proofs.Common.{◌≡◌, ℕ, ◌+◌, ◌<◌, ◌≤◌, List, [], ◌∷◌, length, drop, get_or, map, Option, Some, None, suc, zero, ap, subst, sym, ◌∙◌, arith, length-append}
use Rattle.std.specs.Prelude.{IfSome}
use Rattle.std.specs.List.{flat_map}
use Rattle.std.proofs.lemmas.List.{drop_more}
use Rattle.std.proofs.lemmas.List.Concat.{flat_map-cons}
use Rattle.c_syntax.specs.ItemTree as i
use Rattle.c_syntax.specs.Words.{ItemTree, most_tokens, EachAt, ItemAt, a_name, item_kinds, parenthesized_kinds, params_kinds, type_kinds, braced_kinds, entry_kinds}
use Rattle.c_types_expressions.specs.declared.walk.Walk.{Walk}
use Rattle.sites.specs.declared.noted.Noted.{Noted}
use Rattle.flow.specs.declared.choice.Schemes.{Schemes}
use Rattle.sites.specs.declared.spots.Spot.{Spot}
use Rattle.sites.specs.declared.spots.Spot.TheVariants as spot
use Rattle.sites.specs.Noted.{IsNotedFor, IsNotedTo}
use Rattle.sites.specs.SitesAt.{spot_token}
use Rattle.sites.specs.Standing.{EachToken, IsFrom, IsToken, IsUpTo, StandAtTokens, StandFrom, begins_at, item_spots}
use Rattle.defined_functions.specs.Functions.{defined_by}
use Rattle.sites.proofs.Rises.{Rises, len4}
use Rattle.sites.proofs.RisesTable.{rises-held}

-- what holds of each token between the bounds holds of those of a list that rises there
pub risen : (P : ℕ → Type 0) (low high : ℕ) (xs : List Spot) → ((t : ℕ) → low ≤ t → t < high → P t) → Rises low high xs → EachToken P xs
risen P low high [] f r = tt
risen P low high (spot.Branch token w ∷ rest) f r =
    (f token r.0 r.1, risen P token high rest (λ t from below. f t (omega (arith, from, r.0)) below) r.2)
risen P low high (spot.Call token name ∷ rest) f r =
    (f token r.0 r.1, risen P token high rest (λ t from below. f t (omega (arith, from, r.0)) below) r.2)
risen P low high (spot.Change token target ∷ rest) f r =
    (f token r.0 r.1, risen P token high rest (λ t from below. f t (omega (arith, from, r.0)) below) r.2)
risen P low high (spot.Constant value ∷ rest) f r = (tt, risen P low high rest f r)

-- a construct at a place
pub each_at : (P : ℕ → Type 0) (xs : List Spot) (i : ℕ) (x : Spot) → i < length xs → x ≡ get_or xs i x → EachToken P xs → IfSome (spot_token x) P
each_at P [] i x low at h = absurd (omega (arith, low))
each_at P (y ∷ ys) zero x low at h = subst (λ z. IfSome (spot_token z) P) (sym at) h.0
each_at P (y ∷ ys) (suc i) x low at h = each_at P ys i x (omega (arith, low)) at h.1

-- what holds of every token
pub every : (P : ℕ → Type 0) (xs : List Spot) → ((t : ℕ) → P t) → EachToken P xs
every P [] f = tt
every P (spot.Branch token w ∷ rest) f = (f token, every P rest f)
every P (spot.Call token name ∷ rest) f = (f token, every P rest f)
every P (spot.Change token target ∷ rest) f = (f token, every P rest f)
every P (spot.Constant value ∷ rest) f = (tt, every P rest f)

-- what holds of each token of which two other things hold
pub weaker : (P Q R : ℕ → Type 0) (xs : List Spot) → ((t : ℕ) → P t → Q t → R t) → EachToken P xs → EachToken Q xs → EachToken R xs
weaker P Q R [] f p q = tt
weaker P Q R (spot.Branch token w ∷ rest) f p q = (f token p.0 q.0, weaker P Q R rest f p.1 q.1)
weaker P Q R (spot.Call token name ∷ rest) f p q = (f token p.0 q.0, weaker P Q R rest f p.1 q.1)
weaker P Q R (spot.Change token target ∷ rest) f p q = (f token p.0 q.0, weaker P Q R rest f p.1 q.1)
weaker P Q R (spot.Constant value ∷ rest) f p q = (tt, weaker P Q R rest f p.1 q.1)

-- one construct more that isn't behind a token
up_to_one : (low high : ℕ) (o : Option ℕ) → low ≤ high → IfSome o (IsUpTo low) → IfSome o (IsUpTo high)
up_to_one low high None le h = tt
up_to_one low high (Some t) le h = omega (arith, le, h)

pub up_to : (x : Spot) (o : Option ℕ) (low high : ℕ) (rest : List Spot) → o ≡ spot_token x → IfSome o (IsUpTo low) → low ≤ high → EachToken (IsUpTo high) rest →
    EachToken (IsUpTo high) (x ∷ rest)
up_to x o low high rest is h le all = (subst (λ p. IfSome p (IsUpTo high)) is (up_to_one low high o le h), all)

-- an item that defines a function has a token
one-token : (x : ItemTree) → length (defined_by x) ≤ length (item_kinds x)
one-token (i.Function token b stars name ps (Some body)) = omega (
  arith,
  len4 (type_kinds b stars) (a_name name) (parenthesized_kinds (params_kinds ps)) (braced_kinds (entry_kinds body)),
)
one-token x = omega arith

-- an item begins where it stands
begun : (at : ℕ) (x : ItemTree) → ItemAt at x → begins_at x ≡ at
begun at (i.Struct token tag members) p = p.0
begun at (i.Function token b stars name ps body) p = p.0
begun at (i.Declaration d) p = p.0

-- what is noted where one body begins is noted behind it too
noted_to : (w : Walk) (at later : ℕ) (noted : Noted) → at ≤ later → IsNotedTo w at noted → IsNotedTo w later noted
noted_to w at later noted le n =
    record { again = n.again; firsts = n.firsts; since = n.since; before = omega (arith, le, n.before); near = n.near }

noted_behind : (schemes : Schemes) (w : Walk) (at later : ℕ) (noted : Noted) → at ≤ later → IsNotedFor schemes w at noted → IsNotedFor schemes w later noted
noted_behind schemes w at later noted le h = record { wanted = λ pairs. noted_to w at later noted le (h.wanted pairs) }

-- the item at a place that is left, and those behind it
pub next_is : {X Y : Type 0} (f : X → Y) (xs : List X) (i : ℕ) (x : X) → i < length xs → x ≡ get_or xs i x → map f (drop i xs) ≡ f x ∷ map f (drop (i + 1) xs)
next_is f xs i x low at = ap (map f) (drop_more xs i x low) ∙ ap (λ y. f y ∷ map f (drop (i + 1) xs)) (sym at)

-- These items stand one behind another from an index on, which is at least the number of the functions before them, and end with a text;
-- and what pairs need is noted there.
pub record AreToCome (schemes : Schemes) (w : Walk) (noted : Noted) (functions : ℕ) (items : List ItemTree) : Type 0 where
  pub at : ℕ
  pub placed : EachAt ItemAt item_kinds 0 at items
  pub few : at + length (flat_map item_kinds items) ≤ most_tokens
  pub as_many : functions ≤ at
  pub told : IsNotedFor schemes w at noted

pub room : (schemes : Schemes) (w : Walk) (noted : Noted) (functions : ℕ) (items : List ItemTree) → AreToCome schemes w noted functions items →
    functions ≤ most_tokens
room schemes w noted functions items h = omega (arith, h.few, h.as_many)

module _ (schemes : Schemes) (w : Walk) (noted : Noted) (functions : ℕ) (x : ItemTree) (xs : List ItemTree)
    (h : AreToCome schemes w noted functions (x ∷ xs)) where
  length-items : length (flat_map item_kinds (x ∷ xs)) ≡ length (item_kinds x) + length (flat_map item_kinds xs)
  length-items = ap length (flat_map-cons item_kinds x xs) ∙ length-append (item_kinds x) (flat_map item_kinds xs)

  -- the first of them holds constructs at tokens of a text, behind where it begins
  pub tokens : StandAtTokens (item_spots x)
  tokens = record {
    each = risen IsToken h.at (h.at + length (item_kinds x)) (item_spots x) (λ t from below. omega (arith, below, h.few, length-items))
        (rises-held h.at x h.placed.0);
  }

  pub behind : StandFrom (begins_at x) (item_spots x)
  behind = record {
    each = risen (IsFrom (begins_at x)) h.at (h.at + length (item_kinds x)) (item_spots x)
        (λ t from below. omega (arith, from, begun h.at x h.placed.0)) (rises-held h.at x h.placed.0);
  }

  pub noted_there : IsNotedFor schemes w (begins_at x) noted
  noted_there = noted_behind schemes w h.at (begins_at x) noted (omega (arith, begun h.at x h.placed.0)) h.told

  -- behind it the others are to come
  pub others : (new : Noted) → IsNotedFor schemes w (begins_at x) new → AreToCome schemes w new (functions + length (defined_by x)) xs
  others new is = record {
    at = h.at + length (item_kinds x) + 0;
    placed = h.placed.1;
    few = omega (arith, h.few, length-items);
    as_many = omega (arith, h.as_many, one-token x);
    told = noted_behind schemes w (begins_at x) (h.at + length (item_kinds x) + 0) new (omega (arith, begun h.at x h.placed.0)) is;
  }
