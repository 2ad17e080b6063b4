-- What the code knows of a function.
use Rattle.std.specs.Prelude.{◌<◌, ◌≤◌, List, length, Bool}
use Rattle.regions.specs.Blocks.{IsStart}
use Rattle.regions.specs.Flags.{AreFlags, is_in}
use Rattle.regions.specs.Headers.{IsHeader}
use Rattle.regions.specs.Weighty.{views_of}
use Rattle.weights.specs.Weight.{AreWeights}
use Rattle.copied_nodes.specs.declared.nodes.Source.{Source}
use Rattle.clone_paths.specs.Cloned.{cloned_limit}
use Rattle.clone_paths.specs.Parts.{HasOrder}
use Rattle.flow.specs.Ready.{ArePlain}
pub use Rattle.copied_nodes.specs.Made.{source_tables}

-- all that is known of a weighty function before it is cloned
pub record IsPrepared (s : Source) (headers : List Bool) : Type 0 where
  pub few : length s.nodes.now ≤ cloned_limit
  pub entry : 0 < length s.nodes.now
  pub order : HasOrder s.nodes.now
  pub plain : ArePlain s.nodes.now
  pub starts_are : AreFlags (length s.nodes.now) (IsStart (views_of s.nodes.now)) s.starts.now
  pub headers_are : AreFlags (length s.nodes.now) (IsHeader (is_in s.weighty.now) (views_of s.nodes.now)) headers
  pub weights_are : AreWeights (is_in s.weighty.now) s.nodes.now s.weights.now
