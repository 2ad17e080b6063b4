-- A program and its sampled program as the machine sees them, side by side.
use Rattle.std.specs.Prelude.{◌≡◌, ℕ, Bool, true, false, Option, Some, Contains}
use Rattle.flow.specs.declared.node.View.{View}
use Rattle.flow.specs.declared.node.View.TheVariants.{Calls, Marks}
use Rattle.flow.specs.Words.{Code, led_to, BranchesFork, IsPlain}
use Rattle.regions.specs.Blocks.{ends_block}
use Rattle.copied_nodes.specs.declared.label.CopyLabel.{CopyLabel}
use Rattle.copied_nodes.specs.declared.label.CopyLabel.TheVariants.{Enter}
use Rattle.clone_paths.specs.Form.{Cloning, IsAsLabelled}

-- the code of the program, and which functions are weighty; by function, where blocks begin, what the nodes of the sampled program are labelled,
-- and their views
pub record Copies : Type 0 where
  pub full : Code
  pub weighty : ℕ → Bool
  pub starts : ℕ → ℕ → Bool
  pub label : ℕ → ℕ → Option CopyLabel
  pub at : ℕ → ℕ → View

-- the code of the sampled program: all but the nodes are the same
abbrev pub sampled_code : Copies → Code
sampled_code t = record t.full { at = t.at }

abbrev pub cloning : Copies → ℕ → Cloning
cloning t function = record { weighty = t.weighty; at = t.full.at function; starts = t.starts function; label = t.label function }

-- the sampled program is in the cloned form. A weightless function visits no site, and calls weightless functions alone.
pub record AreCopies (t : Copies) : Type 0 where
  pub plain : (function place : ℕ) → IsPlain (t.full.at function place)
  pub same : (function place : ℕ) → t.weighty function ≡ false → t.at function place ≡ t.full.at function place
  pub unmarked : (function place site next : ℕ) → t.weighty function ≡ false → t.full.at function place ≡ Marks site next → ⊥
  pub calls : (function place callee next : ℕ) → t.weighty function ≡ false → t.full.at function place ≡ Calls callee next → t.weighty callee ≡ false
  pub ends : (function place next : ℕ) → t.weighty function ≡ true → ends_block (t.full.at function place) ≡ true →
      Contains (led_to (t.full.at function place)) next → t.starts function next ≡ true
  pub entry : (function : ℕ) → t.weighty function ≡ true → t.label function 0 ≡ Some Enter
  pub each : (function place : ℕ) (l : CopyLabel) → t.weighty function ≡ true → t.label function place ≡ Some l
      → IsAsLabelled (cloning t function) l (t.at function place)
  pub branches : BranchesFork t.full.at t.full.site
