-- Programs that do what a text means: the record that each compiled program meets.
use Rattle.std.specs.Prelude.{◌≡◌, ◌≢◌, ◌≤◌, ◌+◌, ◌*◌, ℕ, List, length, Option}
use Rattle.cbi_base.specs.declared.observation.Observation.{Observation}
use Rattle.cbi_base.specs.declared.outcome.Outcome.TheVariants.{Trapped}
use Rattle.cbi_base.specs.declared.trap.Trap.TheVariants.{Internal}
use Rattle.c_syntax.specs.Words.{SourceTree, tree_kinds}
use Rattle.c_types_expressions.specs.declared.walk.Walk.{Walk}
use Rattle.c_meaning.specs.Words.{Behaviour, text_meaning}
use Rattle.flow.specs.declared.program.ProgramParts.{ProgramParts}
use Rattle.flow.specs.declared.site.Site.{Site}
use Rattle.flow.specs.Words.{counts_of, run_result, MachineEnds, IsPositive, samples, Ending}
use Rattle.clone_paths.specs.Cloned.{Cloned}
use Rattle.lower.specs.Programs.{node_count}
use Rattle.flow.specs.declared.choice.Part.{Part}
use Rattle.compiler.specs.Kept.{kept_sites, kept_visits}

-- A run goes as the text means, and what its sites saw is this: outcome and output are the meaning's, and the counters count what was seen.
pub record GoesAs (meant : Behaviour) (seen : List Observation) (table : List Site) (ending : Ending) : Type 0 where
  pub outcome : ending.outcome ≡ meant.outcome
  pub output : ending.output ≡ meant.output
  pub seen_is : ending.seen ≡ seen
  pub counts : (run_result table ending).counts ≡ counts_of table seen

-- the machine on the program ends so
pub record EndsAs (p : ProgramParts) (input : List ℕ) (bank : ℕ → ℕ) (turns : ℕ) (meant : Behaviour) (seen : List Observation) : Type 0 where
  pub ending : Ending
  pub ends : MachineEnds p input bank turns ending
  pub goes : GoesAs meant seen p.sites ending

-- at most 16 nodes for each token of the text, and one more for each site of the table
abbrev pub HasFewNodes : SourceTree → List Site → ProgramParts → Type 0
HasFewNodes tree table p = node_count p.functions ≤ 16 * length (tree_kinds tree) + length table

module _ (tree : SourceTree) (known : Walk) (table : List Site) (part : Option Part) where
  -- On each input, with each bank and within each bound of turns the program ends as the text means, and its sites, those of the table that it
  -- keeps, see exactly the visits that the text makes of them. It has few nodes.
  pub record DoesText (p : ProgramParts) : Type 0 where
    pub sites : p.sites ≡ kept_sites part table
    pub ends : (input : List ℕ) (bank : ℕ → ℕ) (turns : ℕ) →
        EndsAs p input bank turns (text_meaning tree known table input turns) (kept_visits part (text_meaning tree known table input turns).seen)
    pub never : (input : List ℕ) (turns : ℕ) → (text_meaning tree known table input turns).outcome ≢ Trapped Internal
    pub few : HasFewNodes tree table p

  -- The program is the cloned form of one that does so. On each input, with each bank and within each bound of turns it ends as the text means, and
  -- its sites see exactly the samples of the visits that the text makes of them.
  pub record SamplesText (q : ProgramParts) : Type 0 where
    pub full : ProgramParts
    pub does : DoesText full
    pub cloned : Cloned full q
    pub sites : q.sites ≡ kept_sites part table
    pub ends : (input : List ℕ) (bank : ℕ → ℕ) (turns : ℕ) → IsPositive bank →
        EndsAs q input bank turns (text_meaning tree known table input turns) (samples bank (kept_visits part (text_meaning tree known table input turns).seen))
