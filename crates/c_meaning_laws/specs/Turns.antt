-- Turns only cut a run: within more of them it does the same, and where it was cut it goes on.
use Rattle.std.specs.Prelude.{◌≡◌, ◌≢◌, ℕ, ◌≤◌, List, ◌++◌}
use Rattle.cbi_base.specs.declared.observation.Observation.{Observation}
use Rattle.cbi_base.specs.declared.outcome.Outcome.TheVariants.{CutTurns}
use Rattle.c_syntax.specs.ItemTree.{SourceTree}
use Rattle.c_types_expressions.specs.declared.walk.Walk.{Walk}
use Rattle.flow.specs.declared.site.Site.{Site}
use Rattle.c_meaning.specs.Words.{Behaviour, Source, meaning, text_meaning}

-- what the first wrote and saw begins what the second wrote and saw
pub record Begins (first second : Behaviour) : Type 0 where
  pub output : (more : List ℕ) × (second.output ≡ first.output ++ more)
  pub seen : (more : List Observation) × (second.seen ≡ first.seen ++ more)

-- A run that isn't cut by its turns is the same within any greater bound.
abbrev pub UncutStays : Type 0
UncutStays =
    (src : Source) (input : List ℕ) (turns more : ℕ) → turns ≤ more → (meaning src input turns).outcome ≢ CutTurns →
    meaning src input more ≡ meaning src input turns

-- What a run writes and sees begins what it writes and sees within any greater bound.
abbrev pub CutBegins : Type 0
CutBegins =
    (src : Source) (input : List ℕ) (turns more : ℕ) → turns ≤ more → Begins (meaning src input turns) (meaning src input more)

-- both of a text
abbrev pub UncutTextStays : Type 0
UncutTextStays =
    (tree : SourceTree) (walk : Walk) (table : List Site) (input : List ℕ) (turns more : ℕ) → turns ≤ more →
    (text_meaning tree walk table input turns).outcome ≢ CutTurns → text_meaning tree walk table input more ≡ text_meaning tree walk table input turns

abbrev pub CutTextBegins : Type 0
CutTextBegins =
    (tree : SourceTree) (walk : Walk) (table : List Site) (input : List ℕ) (turns more : ℕ) → turns ≤ more →
    Begins (text_meaning tree walk table input turns) (text_meaning tree walk table input more)
