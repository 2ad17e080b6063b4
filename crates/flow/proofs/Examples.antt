-- Runs that the definition of the machine computes by itself.
use Rattle.std.proofs.Common.{◌≡◌, ℕ, ◌%◌, List, [], ◌∷◌, true, pos, codes, refl}
use Rattle.std.specs.Prelude.{slice_index}
use Rattle.cbi_base.specs.Words.{pieces_of, printed_format, bytes_printed, Objects}
use Rattle.cbi_base.specs.declared.observation.Observation.{Observation}
use Rattle.cbi_base.specs.declared.observation.Seen.TheVariants.{First}
use Rattle.cbi_base.specs.declared.outcome.Outcome.{Outcome}
use Rattle.cbi_base.specs.declared.outcome.Outcome.TheVariants.{Ended, Trapped}
use Rattle.cbi_base.specs.declared.scalar.Kind.TheVariants.{Int}
use Rattle.cbi_base.specs.declared.scalar.Scalar.TheVariants.{Number}
use Rattle.cbi_base.specs.declared.trap.Trap.TheVariants as trap
use Rattle.flow.specs.declared.node.Node.{Node}
use Rattle.flow.specs.declared.node.Node.TheVariants as node
use Rattle.flow.specs.declared.program.Function.{Function}
use Rattle.flow.specs.declared.program.ProgramParts.{ProgramParts}
use Rattle.flow.specs.declared.site.BranchWord.TheVariants as word
use Rattle.flow.specs.declared.site.Site.{Site}
use Rattle.flow.specs.declared.site.SiteKind.{SiteKind}
use Rattle.flow.specs.declared.site.SiteKind.TheVariants as kind
use Rattle.flow.specs.Machine.{MachineEnds, run, next_of, no_work}
use Rattle.flow.specs.Rows.{row_effect}
use Rattle.flow.specs.State.{Ending}
use Rattle.flow.specs.Truths.{seen_at_site}

abbrev function_of : ℕ → List ℕ → List Node → Function
function_of params locals nodes = record { name = codes "main"; value = true; params = params; locals = locals; nodes = nodes }

abbrev site_of : SiteKind → Site
site_of k = record { kind = k; function = 0; line = 1; token = 0 }

abbrev program_of : List Function → List Site → ProgramParts
program_of functions sites = record { texts = []; globals = []; functions = functions; main = 0; sites = sites }

-- a bank of ones
abbrev ones : ℕ → ℕ
ones draws = 1

abbrev ended : Outcome → List ℕ → Ending
ended outcome output = record { outcome = outcome; output = output; seen = []; work = no_work; drawn = 1 }

-- `printf` of bytes and `%`
printf_writes : (o : Objects) → printed_format (pieces_of (codes "<%c%%%c>")) (Number Int (pos 65) ∷ Number Int (pos 322) ∷ []) o ≡ bytes_printed (codes "<A%B>")
printf_writes o = refl

-- eight visits with the bank 3, 1: the visits 3, 4, 7 and 8 are observed
three_and_one : ℕ → ℕ
three_and_one draws = slice_index (3 ∷ 1 ∷ []) (draws % 2)

abbrev branch : Site
branch = site_of (kind.Branch word.If)

abbrev sees : ℕ → Observation
sees site = record { site = site; seen = First }

sampled : MachineEnds
    (program_of
    (function_of 0 []
    (node.Push Int (pos 1) 1 ∷ node.Test 0 2 ∷ node.Test 1 3 ∷ node.Test 2 4 ∷ node.Test 3 5 ∷ node.Test 4 6 ∷ node.Test 5 7 ∷ node.Test 6 8
    ∷ node.Test 7 9 ∷ node.Return ∷ [])
    ∷ [])
    (branch ∷ branch ∷ branch ∷ branch ∷ branch ∷ branch ∷ branch ∷ branch ∷ []))
    [] three_and_one 0
    (record {
      outcome = Ended (pos 1);
      output = [];
      seen = sees 2 ∷ sees 3 ∷ sees 6 ∷ sees 7 ∷ [];
      work = record { fast = 0; slow = 0; tests = 8 };
      drawn = 5;
    })
unfolding run next_of row_effect seen_at_site three_and_one
sampled = record { steps = 10; is = refl }

-- a copy is given back once
exported_twice : MachineEnds (program_of (function_of 0 [] (node.Import 1 ∷ node.Export 2 ∷ node.Export 3 ∷ []) ∷ []) []) [] ones 0
    (ended (Trapped trap.Internal) [])
unfolding run next_of
exported_twice = record { steps = 3; is = refl }
