-- A program in any plan ends and writes as the text does without sites.
use Rattle.std.proofs.Common.{◌≡◌, ℕ, sym, ◌∙◌, ap, List, []}
use Rattle.cbi_base.specs.declared.observation.Observation.{Observation}
use Rattle.c_syntax.specs.ItemTree.{SourceTree}
use Rattle.c_types_expressions.specs.declared.walk.Walk.{Walk}
use Rattle.c_meaning.specs.Words.{Behaviour, text_meaning}
use Rattle.flow.specs.declared.program.ProgramParts.{ProgramParts}
use Rattle.flow.specs.Words.{OneEnding, MachineEnds, IsPositive, Ending}
use Rattle.flow.specs.declared.choice.Schemes.{Schemes}
use Rattle.sites.specs.Table.{sites_of}
use Rattle.compiler.specs.Accepted.{IsAccepted}
use Rattle.compiler.specs.declared.plan.Plan.{Plan}
use Rattle.compiler.specs.declared.plan.Plan.TheVariants as plan
use Rattle.compiler.specs.Compiled.{DoesPlan, IsCompiled}
use Rattle.compiler.specs.Does.{EndsAs}
use Rattle.compiler.specs.Planned.{planned_sites}
use Rattle.compiler.proofs.Refusing.{OneKnown, OneTree, moved}

-- sites change neither how an accepted text ends nor what it writes
abbrev pub SameOutcome : Type 0
SameOutcome =
    (text : List ℕ) (tree : SourceTree) (known : Walk) (schemes : Schemes) (input : List ℕ) (turns : ℕ) → IsAccepted text tree known →
    (text_meaning tree known (sites_of tree known schemes) input turns).outcome ≡ (text_meaning tree known [] input turns).outcome

abbrev pub SameOutput : Type 0
SameOutput =
    (text : List ℕ) (tree : SourceTree) (known : Walk) (schemes : Schemes) (input : List ℕ) (turns : ℕ) → IsAccepted text tree known →
    (text_meaning tree known (sites_of tree known schemes) input turns).output ≡ (text_meaning tree known [] input turns).output

-- a run ends and writes so
record Alike (ending : Ending) (meant : Behaviour) : Type 0 where
  pub outcome : ending.outcome ≡ meant.outcome
  pub output : ending.output ≡ meant.output

module _ (one_ending : OneEnding) (same_outcome : SameOutcome) (same_output : SameOutput) where
  module _ (input : List ℕ) (bank : ℕ → ℕ) (turns : ℕ) where
    ends_as : (p : ProgramParts) (meant : Behaviour) (seen : List Observation) (x : Ending) → EndsAs p input bank turns meant seen → MachineEnds p input bank turns x → Alike x meant
    ends_as p meant seen x e ends =
        let same : x ≡ e.ending = one_ending p input bank turns x e.ending ends e.ends in
        record { outcome = ap (λ (y : Ending). y.outcome) same ∙ e.goes.outcome; output = ap (λ (y : Ending). y.output) same ∙ e.goes.output }

    as_meant : (plan : Plan) (tree : SourceTree) (known : Walk) (p : ProgramParts) (x : Ending) → DoesPlan plan tree known p → IsPositive bank → MachineEnds p input bank turns x
        → Alike x (text_meaning tree known (planned_sites plan tree known) input turns)
    as_meant plan.Plain tree known p x does positive ends = ends_as p _ _ x (does.ends input bank turns) ends
    as_meant (plan.Full schemes part) tree known p x does positive ends = ends_as p _ _ x (does.ends input bank turns) ends
    as_meant (plan.Sampled schemes part) tree known p x does positive ends = ends_as p _ _ x (does.ends input bank turns positive) ends

    without : (plan : Plan) (text : List ℕ) (tree : SourceTree) (known : Walk) (x : Ending) → IsAccepted text tree known
        → Alike x (text_meaning tree known (planned_sites plan tree known) input turns) → Alike x (text_meaning tree known [] input turns)
    without plan.Plain text tree known x accepted a = a
    without (plan.Full schemes part) text tree known x accepted a = record {
      outcome = a.outcome ∙ same_outcome text tree known schemes input turns accepted;
      output = a.output ∙ same_output text tree known schemes input turns accepted;
    }
    without (plan.Sampled schemes part) text tree known x accepted a = record {
      outcome = a.outcome ∙ same_outcome text tree known schemes input turns accepted;
      output = a.output ∙ same_output text tree known schemes input turns accepted;
    }

    as_plain : (plan : Plan) (text : List ℕ) (p : ProgramParts) (x : Ending) (c : IsCompiled text plan p) → IsPositive bank → MachineEnds p input bank turns x
        → Alike x (text_meaning c.tree c.known [] input turns)
    as_plain plan text p x c positive ends = without plan text c.tree c.known x c.accepted (as_meant plan c.tree c.known p x c.does positive ends)

  module _ (one_tree : OneTree) (one_known : OneKnown) where
    -- two runs of programs of one text
    pub record Agree (x y : Ending) : Type 0 where
      pub outcome : x.outcome ≡ y.outcome
      pub output : x.output ≡ y.output

    pub agree : (text : List ℕ) (a b : Plan) (p q : ProgramParts) → IsCompiled text a p → IsCompiled text b q → (input : List ℕ) (bank other : ℕ → ℕ) (turns : ℕ) (x y : Ending)
        → IsPositive bank → IsPositive other → MachineEnds p input bank turns x → MachineEnds q input other turns y → Agree x y
    agree text a b p q c d input bank other turns x y positive too ends ends_too =
        let one : Alike x (text_meaning c.tree c.known [] input turns) = as_plain input bank turns a text p x c positive ends in
        let two : Alike y (text_meaning c.tree c.known [] input turns) =
        moved one_tree one_known text (λ t w. Alike y (text_meaning t w [] input turns)) d.tree c.tree d.known c.known d.accepted c.accepted
        (as_plain input other turns b text q y d too ends_too) in
        record { outcome = one.outcome ∙ sym two.outcome; output = one.output ∙ sym two.output }
