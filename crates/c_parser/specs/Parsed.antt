-- Which tree a list of tokens has, and where one that has none is refused.
use Rattle.std.specs.Prelude.{◌≡◌, ℕ, ◌+◌, ◌≤◌, ◌<◌, ◌⊎◌, List, ◌++◌, length, take, map, Result, Ok, Err, Vec}
use Rattle.std.specs.Global.{Global}
use Rattle.c_syntax.specs.declared.token.Token.{Token}
use Rattle.c_syntax.specs.declared.tree.Item.{Item}
use Rattle.c_syntax.specs.declared.tree.Tree.{Tree}
use Rattle.c_syntax.specs.Words.{SourceTree, Kinds, tree_kinds, kinds_of, lines_of, IsWellFormed, plain_item, plain_tree}
use Rattle.c_parser.specs.declared.error.ParseError.{ParseError}
use Rattle.c_parser.specs.declared.error.ParseError.TheVariants as error

-- a well-formed tree whose tokens are these and whose lines are theirs
pub record IsTreeOf (ts : List Token) (t : SourceTree) : Type 0 where
  pub well_formed : IsWellFormed t
  pub kinds : tree_kinds t ≡ kinds_of ts
  pub lines : t.lines ≡ lines_of ts

-- the first n tokens are those of a well-formed tree
abbrev pub FirstHaveTree : (ts : List Token) → (n : ℕ) → Type 0
FirstHaveTree ts n = (t : SourceTree) × IsWellFormed t × (tree_kinds t ≡ take n (kinds_of ts))

-- the longest front of the tokens that is empty or those of a well-formed tree
pub record IsLongest (ts : List Token) (n : ℕ) : Type 0 where
  pub within : n ≤ length ts
  pub good : (n ≡ 0) ⊎ FirstHaveTree ts n
  pub most : (m : ℕ) → n < m → m ≤ length ts → FirstHaveTree ts m → ⊥

-- no well-formed tree's tokens begin with those up to the index and with the one there
pub record IsDead (ts : List Token) (index : ℕ) : Type 0 where
  pub none : (t : SourceTree) (more : Kinds) → IsWellFormed t → tree_kinds t ≡ take (index + 1) (kinds_of ts) ++ more → ⊥

-- a refusal: no well-formed tree has these tokens
pub record Refuses (ts : List Token) (index item : ℕ) : Type 0 where
  pub none : (t : SourceTree) → IsWellFormed t → tree_kinds t ≡ kinds_of ts → ⊥
  pub longest : IsLongest ts item
  pub from : item ≤ index
  pub within : index ≤ length ts
  pub dead : index < length ts → IsDead ts index

-- what parsing may answer where the tokens are those of a tree, and where they are those of none
abbrev pub IsReadAs : SourceTree → Result Tree ParseError → Type 0
IsReadAs t (Ok tree) = plain_tree tree ≡ t
IsReadAs t (Err error.Memory) = Unit {0}
IsReadAs t (Err (error.Syntax index item)) = ⊥

abbrev pub IsRefused : Result Tree ParseError → Type 0
IsRefused (Ok tree) = ⊥
IsRefused (Err e) = Unit {0}

abbrev pub IsParsed : List Token → Result Tree ParseError → Type 0
IsParsed ts (Ok tree) = IsTreeOf ts (plain_tree tree)
IsParsed ts (Err (error.Syntax index item)) = Refuses ts index item
IsParsed ts (Err error.Memory) = Unit {0}

-- what reading the items may answer
abbrev pub AreRead : List Token → Result (Vec Item Global) ParseError → Type 0
AreRead ts (Ok v) = IsTreeOf ts (record { items = map plain_item v.items; lines = lines_of ts })
AreRead ts (Err (error.Syntax index item)) = Refuses ts index item
AreRead ts (Err error.Memory) = Unit {0}
