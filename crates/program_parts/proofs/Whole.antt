-- A program beside that of a part.
use Rattle.std.proofs.Common.{◌≡◌, ℕ, List, sym, ap, ◌∙◌, subst}
use Rattle.std.specs.List.{All}
use Rattle.flow.specs.Words.{PartFits, Code, code_of, EndsFrom, MachineEnds, run_start, begin_with, program_objects, ArePlain, IsReady, Ending, Next}
use Rattle.cbi_base.specs.Words.{each_made, no_objects}
use Rattle.flow.specs.declared.program.ProgramParts.{ProgramParts}
use Rattle.flow.specs.declared.choice.Part.{Part}
use Rattle.program_parts.specs.Program.{part_program}
use Rattle.program_parts.specs.Runs.{RunsInPart, part_ending}
use Rattle.program_parts.proofs.Programs.{plain_code, same_code}
use Rattle.program_parts.proofs.Runs.{Fit, begins, from_back, from_there}
use Rattle.program_parts.proofs.Steps.{kept_next, part_code}

-- how a run of the part's program ends, seen from where the whole one begins
same_ends : (part : Part) (p : ProgramParts) (input : List ℕ) (bank : ℕ → ℕ) (turns : ℕ) (ending : Ending) → PartFits part →
    MachineEnds (part_program part p) input bank turns ending ≡ EndsFrom (part_code part (code_of p bank)) (kept_next part (run_start p input bank turns)) ending
same_ends part p input bank turns ending is =
    let made = each_made (program_objects p) no_objects in
    ap (λ (code : Code). EndsFrom code (begin_with code p.main input turns made) ending) (same_code part p bank is)
    ∙ ap (λ (n : Next). EndsFrom (part_code part (code_of p bank)) n ending) (begins part (code_of p bank) p.main turns input made)

pub runs_in_part : (part : Part) (p : ProgramParts) → PartFits part → All (λ f. ArePlain f.nodes) p.functions → IsReady p → RunsInPart part p (part_program part p)
runs_in_part part p is plain ready =
    let fit = λ (bank : ℕ → ℕ). let f : Fit part (code_of p bank) = record { is = is; ready = ready; plain = plain_code p bank plain } in f in
    record {
      there = λ input bank turns whole ends sound.
          subst (λ (T : Type 0). T) (sym (same_ends part p input bank turns (part_ending part whole) is))
          (from_there part (code_of p bank) (run_start p input bank turns) whole (fit bank) ends sound);
      back = λ input bank turns ending ends.
          let f = from_back part (code_of p bank) (run_start p input bank turns) ending (fit bank)
          (subst (λ (T : Type 0). T) (same_ends part p input bank turns ending is) ends)
          in
          record { whole = f.whole; ends = f.ends; alike = f.alike };
    }
