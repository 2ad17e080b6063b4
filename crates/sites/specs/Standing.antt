-- Where the constructs of a body and of an item stand.
use Rattle.std.specs.Prelude.{ℕ, ◌≤◌, ◌<◌, List, [], ◌∷◌, Some, IfSome}
use Rattle.c_syntax.specs.ItemTree as i
use Rattle.c_syntax.specs.Words.{ItemTree, most_tokens}
use Rattle.sites.specs.declared.spots.Spot.{Spot}
use Rattle.sites.specs.Bodies.{entries_spots}
use Rattle.sites.specs.SitesAt.{spot_token}

-- each token at which the sites of one of these constructs stand is such
abbrev pub EachToken : (ℕ → Type 0) → List Spot → Type 0
EachToken P [] = Unit {0}
EachToken P (x ∷ xs) = IfSome (spot_token x) P × EachToken P xs

-- it is the index of a token of a text
abbrev pub IsToken : ℕ → Type 0
IsToken token = token < most_tokens

-- the sites of these constructs stand at tokens of a text
pub record StandAtTokens (spots : List Spot) : Type 0 where
  pub each : EachToken IsToken spots

-- it isn't before the other, or isn't behind it
abbrev pub IsFrom : ℕ → ℕ → Type 0
IsFrom low token = low ≤ token

abbrev pub IsUpTo : ℕ → ℕ → Type 0
IsUpTo high token = token ≤ high

-- the sites of these constructs don't stand before the token
pub record StandFrom (low : ℕ) (spots : List Spot) : Type 0 where
  pub each : EachToken (IsFrom low) spots

-- the index of an item's first token
abbrev pub begins_at : ItemTree → ℕ
begins_at (i.Struct token tag members) = token
begins_at (i.Function token b stars name ps body) = token
begins_at (i.Declaration d) = d.token

-- what an item holds for sites: the body of a definition
abbrev pub item_spots : ItemTree → List Spot
item_spots (i.Function token b stars name ps (Some body)) = entries_spots body
item_spots item = []
