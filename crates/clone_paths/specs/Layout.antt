-- The labels of a sampled function in the order of its nodes.
use Rattle.std.specs.Prelude.{ℕ, List, [], ◌∷◌, ◌++◌, length, Bool, true, false, if◌then◌else◌}
use Rattle.copied_nodes.specs.declared.label.CopyLabel.{CopyLabel}
use Rattle.copied_nodes.specs.declared.label.CopyLabel.TheVariants.{Enter, Gate, Back, In, Out}
use Rattle.copied_nodes.specs.declared.label.Side.{Side}
use Rattle.copied_nodes.specs.declared.label.Side.TheVariants.{Fast, Slow}
use Rattle.clone_paths.specs.declared.parts.Outlet.{Outlet}
use Rattle.clone_paths.specs.declared.parts.Outlet.TheVariants as outlet
use Rattle.clone_paths.specs.declared.parts.Part.{Part}
pub use Rattle.copied_nodes.specs.Sheet.{Sheet, place_in_copy, sheet_of}

-- the outlet itself, and the return from a call
abbrev pub out_labels : Side → ℕ → Outlet → List CopyLabel
out_labels side node outlet.None = []
out_labels side node outlet.Leaves = Out side node ∷ []
out_labels side node (outlet.Calls next) = Out side node ∷ Back next ∷ []

-- a node in a copy, twice where what is owed is paid before it
abbrev pub copy_labels : Side → ℕ → ℕ → Bool → Outlet → List CopyLabel
copy_labels side node owed true out = In side node owed ∷ In side node 0 ∷ out_labels side node out
copy_labels side node owed false out = In side node owed ∷ out_labels side node out

abbrev pub gate_labels : Bool → ℕ → List CopyLabel
gate_labels true node = Gate node ∷ []
gate_labels false node = []

abbrev pub fast_labels : ℕ → Part → List CopyLabel
fast_labels node part = if part.inside then [] else copy_labels Fast node part.owed part.pays part.outlet

-- all labels for a node: the choice before it, the slow copy, and the fast one
abbrev pub labels_for : Bool → ℕ → Part → List CopyLabel
labels_for header node part = (gate_labels header node ++ copy_labels Slow node 0 false part.outlet) ++ fast_labels node part

-- with the labels for one node more
abbrev pub with_node_labels : Bool → ℕ → Part → Sheet → Sheet
with_node_labels header node part s = record {
  labels = s.labels ++ labels_for header node part;
  gates = s.gates ++ length s.labels ∷ [];
  slow = s.slow ++ length (s.labels ++ gate_labels header node) ∷ [];
  fast = s.fast ++ length (s.labels ++ gate_labels header node ++ copy_labels Slow node 0 false part.outlet) ∷ [];
}

-- the entry alone
abbrev pub entry_alone : Sheet
entry_alone = record { labels = Enter ∷ []; gates = []; slow = []; fast = [] }
