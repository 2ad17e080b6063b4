-- What is known of the tokens of a text, where it fits what the nodes of a program may name.
use Rattle.std.specs.Prelude.{◌≡◌, ℕ, ◌≤◌, ◌<◌, List, [], ◌∷◌, length, Some, slice_get}
use Rattle.c_syntax.specs.declared.parts.Base.{Base}
use Rattle.flow.specs.declared.scope.Names.{Names}
use Rattle.flow.specs.declared.site.Slot.TheVariants as slot
use Rattle.flow.specs.Nodes.{step_limit}
use Rattle.c_meaning.specs.declared.value_type.ValueType.TheVariants as type
use Rattle.c_meaning.specs.Facts.{Facts, Signature, Sites}

-- each fact of a token is one that a node may name
pub record FactsFit (facts : Facts) (names : Names) : Type 0 where
  -- pointers and elements of arrays have sizes by which a place can be moved
  pub pointers : (token size : ℕ) → facts.type_at token ≡ Some (type.Pointer size) → size ≤ step_limit
  pub arrays : (token size : ℕ) → facts.type_at token ≡ Some (type.Array size) → size ≤ step_limit
  -- sizes are numbers
  pub cells : (token n : ℕ) → facts.cells_at token ≡ Some n → n ≤ step_limit
  pub named : (base : Base) (stars n : ℕ) → facts.named_cells base stars ≡ Some n → n ≤ step_limit
  pub offsets : (token n : ℕ) → facts.offset_at token ≡ Some n → n ≤ step_limit
  -- globals, strings and functions are there
  pub globals : (token n : ℕ) → facts.slot_at token ≡ Some (slot.Global n) → n < names.globals
  pub texts : (token n : ℕ) → facts.text_at token ≡ Some n → n < length names.conversions
  pub functions : (number : ℕ) (f : Signature) → facts.signature number ≡ Some f → number < names.functions

-- each of these sites is one of the function with this number
abbrev pub AllOwned : List ℕ → ℕ → List ℕ → Type 0
AllOwned owners number [] = Unit {0}
AllOwned owners number (site ∷ more) = (slice_get owners site ≡ Some number) × AllOwned owners number more

-- each site at a token from one on, and before another, is one of the function with this number
pub record SitesOwned (sites : Sites) (owners : List ℕ) (number lo hi : ℕ) : Type 0 where
  pub branches : (token site : ℕ) → lo ≤ token → token < hi → sites.branch_at token ≡ Some site → slice_get owners site ≡ Some number
  pub returns : (token site : ℕ) → lo ≤ token → token < hi → sites.return_at token ≡ Some site → slice_get owners site ≡ Some number
  pub pairs : (token : ℕ) → lo ≤ token → token < hi → AllOwned owners number (sites.pairs_at token)
