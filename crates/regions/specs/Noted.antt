-- What is known of the blocks of a function, one node after another.
use Rattle.std.specs.Prelude.{ℕ, List, [], ◌∷◌, Bool, true, false, ◌||◌, if◌then◌else◌, slice_set, replicate}
use Rattle.regions.specs.declared.block_starts.Starts.{Starts}
use Rattle.regions.specs.Flags.{is_in}

-- the nodes to which some node leads, and those at which a block begins
pub record Sets : Type 0 where
  pub led_to : List Bool
  pub starts : List Bool

abbrev pub sets_of : Starts → Sets
sets_of b = record { led_to = b.led_to.items; starts = b.starts.items }

-- before any node
abbrev pub at_entry : ℕ → Sets
at_entry count = record { led_to = replicate count false; starts = slice_set (replicate count false) 0 true }

-- a node that ends its block, or not, leads to the next one
abbrev pub successor_noted : Bool → ℕ → Sets → Sets
successor_noted ends next s = record {
  led_to = slice_set s.led_to next true;
  starts = if ends || is_in s.led_to next then slice_set s.starts next true else s.starts;
}

abbrev pub noted_all : Bool → List ℕ → Sets → Sets
noted_all ends [] s = s
noted_all ends (next ∷ rest) s = noted_all ends rest (successor_noted ends next s)
