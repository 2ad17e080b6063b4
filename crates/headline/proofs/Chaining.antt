-- From a written program to the meaning of its text.
use Rattle.std.proofs.Common.{◌≡◌, ℕ, ◌+◌, ◌%◌, ◌<◌, ◌≤◌, List, [], ◌∷◌, length, slice_index, sym, subst, arith}
use Rattle.std.specs.List.{All}
use Rattle.cbi_base.specs.declared.observation.Observation.{Observation}
use Rattle.c_syntax.specs.ItemTree.{SourceTree}
use Rattle.c_types_expressions.specs.declared.walk.Walk.{Walk}
use Rattle.c_meaning.specs.Runs.{Behaviour}
use Rattle.flow.specs.declared.program.ProgramParts.{ProgramParts}
use Rattle.flow.specs.Words.{OneEnding, MachineEnds, IsPositive, SpellsProgram, Ending}
use Rattle.countdown_bank.specs.Bank.{AreNumbers, BankState, IsCountdown, number_after}
use Rattle.compiler.specs.Compiled.{DoesPlan, IsCompiled}
use Rattle.compiler.specs.Does.{EndsAs, GoesAs}
use Rattle.compiler.specs.declared.plan.Plan.{Plan}
use Rattle.compiler.specs.declared.plan.Plan.TheVariants as plan
use Rattle.compiler.proofs.Refusing.{OneKnown, OneTree, moved}
use Rattle.headline.specs.Chain.{GoesAsMeant, RunsAsMeant}

-- each number of a bank is at least 1
number-some : (numbers : List ℕ) (place : ℕ) → All IsCountdown numbers → place < length numbers → 1 ≤ slice_index numbers place
number-some [] place each within = absurd (omega arith)
number-some (n ∷ more) place each within = grind arith

pub bank-positive : (bank : BankState) → AreNumbers bank.numbers → IsPositive (number_after bank)
bank-positive bank are = λ draws. number-some bank.numbers ((bank.position + draws) % length bank.numbers) are.each (omega (arith, are.some))

abbrev pub OneProgram : Type 0
OneProgram = (text : List ℕ) (p q : ProgramParts) → SpellsProgram text p → SpellsProgram text q → p ≡ q

module _ (one_ending : OneEnding) (input : List ℕ) (bank : ℕ → ℕ) (turns : ℕ) where
  -- every ending is the one that is known
  goes-so : (p : ProgramParts) (behaviour : Behaviour) (seen : List Observation) (x : Ending) → EndsAs p input bank turns behaviour seen → MachineEnds p input bank turns x → GoesAs behaviour seen p.sites x
  goes-so p behaviour seen x e ends = subst (λ y. GoesAs behaviour seen p.sites y) (sym (one_ending p input bank turns x e.ending ends e.ends)) e.goes

  goes-as-meant : (by : Plan) (tree : SourceTree) (known : Walk) (p : ProgramParts) (x : Ending) → DoesPlan by tree known p → IsPositive bank → MachineEnds p input bank turns x
      → GoesAsMeant tree known by input bank turns p x
  goes-as-meant plan.Plain tree known p x does positive ends = record { sites = does.sites; goes = goes-so p _ _ x (does.ends input bank turns) ends }
  goes-as-meant (plan.Full schemes part) tree known p x does positive ends = record { sites = does.sites; goes = goes-so p _ _ x (does.ends input bank turns) ends }
  goes-as-meant (plan.Sampled schemes part) tree known p x does positive ends = record { sites = does.sites; goes = goes-so p _ _ x (does.ends input bank turns positive) ends }

  pub runs-as-meant : OneTree → OneKnown → (text : List ℕ) (by : Plan) (p : ProgramParts) (x : Ending) → IsCompiled text by p → IsPositive bank → MachineEnds p input bank turns x
      → RunsAsMeant text by input bank turns p x
  runs-as-meant one_tree one_known text by p x compiled positive ends =
      let goes = goes-as-meant by compiled.tree compiled.known p x compiled.does positive ends in
      record {
        tree = compiled.tree;
        known = compiled.known;
        accepted = compiled.accepted;
        goes = goes;
        only = λ t w accepted.
            moved one_tree one_known text (λ a b. GoesAsMeant a b by input bank turns p x) compiled.tree t compiled.known w compiled.accepted accepted goes;
      }
