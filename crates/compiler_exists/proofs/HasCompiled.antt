-- From the program of an accepted text to what the text is compiled to, by a plan.
use Rattle.std.proofs.Common.{◌≡◌, ℕ, ◌≤◌, refl, ap, subst, arith, ◌∙◌, List, length, Option, Some, None, Ok}
use Rattle.flow.specs.Words.{MayPart, site_limit, IsProgram, table_of, IsReady}
use Rattle.c_syntax.specs.ItemTree.{SourceTree}
use Rattle.c_types_expressions.specs.declared.walk.Walk.{Walk}
use Rattle.flow.specs.declared.program.ProgramParts.{ProgramParts}
use Rattle.flow.specs.declared.site.TableParts.{TableParts}
use Rattle.c_meaning.specs.Texts.{source_of}
use Rattle.defined_functions.specs.Functions.{functions_of}
use Rattle.clone_paths.specs.Cloned.{MayClone}
use Rattle.sampling.specs.Runs.{SampledRuns}
use Rattle.compiler_exists.specs.Cloned.{HasClone}
use Rattle.flow.specs.declared.choice.Part.{Part}
use Rattle.program_parts.specs.Part.{part_of}
use Rattle.program_parts.specs.Program.{part_program}
use Rattle.program_parts.proofs.Programs.{names_same, nodes_kept, part_is_program, plain_functions, ready_part}
use Rattle.program_parts.proofs.Whole.{runs_in_part}
use Rattle.lower_fits.specs.Ready.{IsReadyText, IsWholeText}
use Rattle.lower.specs.Means.{MeansText}
use Rattle.lower.proofs.Graphing.{graph_means}
use Rattle.compiler_exists.specs.TextPrograms.{HasProgram}
use Rattle.compiler.specs.declared.plan.Plan.{Plan}
use Rattle.compiler.specs.declared.plan.Plan.TheVariants as plan
use Rattle.compiler.specs.Accepted.{IsAccepted}
use Rattle.compiler.specs.Compiled.{DoesPlan}
use Rattle.compiler.specs.Does.{DoesText}
use Rattle.compiler.specs.Planned.{FitsPlan, part_in, planned_sites}
use Rattle.compiler.proofs.Doing.{Never, NeverPlain, few_beside, kept_names, kept_result, looks, may_clone, sampled_does}
use Rattle.compiler.proofs.Fitting.{tree_whole}
use Rattle.compiler.proofs.Planning.{planned_are}
use Rattle.compiler_exists.specs.Compiled.{HasCompiled}

-- what each ready text has
abbrev pub AllHave : Type 0
AllHave = (tree : SourceTree) (walk : Walk) (table : TableParts) → IsReadyText tree walk table → length table.sites ≤ site_limit → HasProgram tree walk table

-- what each program that may be cloned has
abbrev pub AllClone : Type 0
AllClone = (p : ProgramParts) → IsProgram p → MayClone p → HasClone p

module _ (clones : AllClone) (sampled : SampledRuns) (all : AllHave) (never : Never) (never_plain : NeverPlain) (text : List ℕ) (by : Plan)
    (tree : SourceTree) (known : Walk) (accepted : IsAccepted text tree known) (fits : FitsPlan by tree known) where
  whole : IsWholeText tree known
  whole = tree_whole text tree known accepted

  abbrev table : TableParts
  table = record { sites = planned_sites by tree known; functions = functions_of tree }

  has : HasProgram tree known table
  has = all tree known table (record { whole = whole; sites = planned_are by tree known (planned_sites by tree known) refl; functions = refl }) fits

  means : MeansText (source_of tree known table.sites) has.program
  means = graph_means (source_of tree known table.sites) has.program has.graph

  does_all : DoesText tree known (planned_sites by tree known) None has.program
  does_all =
      looks never never_plain text tree known accepted by table has.program refl means has.table_is
      (few_beside tree table (planned_sites by tree known) has.program refl has.few)

  called : (table_of has.program).functions ≡ functions_of tree
  called = ap (λ (t : TableParts). t.functions) has.table_is

  clonable : MayClone has.program
  clonable =
      may_clone tree (planned_sites by tree known) has.program has.plain (few_beside tree table (planned_sites by tree known) has.program refl has.few)
      whole.short fits

  -- a program that keeps the part
  record Keeping (part : Option Part) : Type 0 where
    program : ProgramParts
    is_program : IsProgram program
    names : (table_of program).functions ≡ functions_of tree
    does : DoesText tree known (planned_sites by tree known) part program
    ready : IsReady program
    may_clone : MayClone program

  keeping : (part : Option Part) → MayPart part → Keeping part
  keeping None may = record { program = has.program; is_program = has.is_program; names = called; does = does_all; ready = has.ready; may_clone = clonable }
  keeping (Some part) may = record {
    program = part_program part has.program;
    is_program = part_is_program part has.program may has.plain has.is_program;
    names = names_same part has.program.functions ∙ called;
    does = kept_result {E = Unit {0}} part tree known (planned_sites by tree known) has.program (Ok (part_program part has.program)) does_all
        (ap (λ names. let t : TableParts = record { sites = part_of part has.program.sites; functions = names } in t) (names_same part has.program.functions))
        (nodes_kept part has.program.functions) (λ ready. runs_in_part part has.program may has.plain ready) has.ready;
    ready = ready_part part has.program may has.ready;
    may_clone = record {
      plain = plain_functions part has.program.functions has.plain;
      few = omega (arith, nodes_kept part has.program.functions, clonable.few);
    };
  }

  -- a program that does what the plan says
  record Planned (plan : Plan) : Type 0 where
    program : ProgramParts
    is_program : IsProgram program
    names : (table_of program).functions ≡ functions_of tree
    does : DoesPlan plan tree known program

  planned : (own : Plan) → by ≡ own → Keeping (part_in own) → Planned own
  planned plan.Plain e k =
      record {
        program = k.program;
        is_program = k.is_program;
        names = k.names;
        does = subst (λ q. DoesText tree known (planned_sites q tree known) None k.program) e k.does;
      }
  planned (plan.Full schemes part) e k =
      record {
        program = k.program;
        is_program = k.is_program;
        names = k.names;
        does = subst (λ q. DoesText tree known (planned_sites q tree known) part k.program) e k.does;
      }
  planned (plan.Sampled schemes part) e k =
      let c : HasClone k.program = clones k.program k.is_program k.may_clone in
      record {
        program = c.clone;
        is_program = c.is_program;
        names = kept_names {E = Unit {0}} k.program (Ok c.clone) c.cloned ∙ k.names;
        does = sampled_does tree known (planned_sites (plan.Sampled schemes part) tree known) part k.program c.clone
            (subst (λ q. DoesText tree known (planned_sites q tree known) part k.program) e k.does) c.cloned
            (sampled k.program c.clone k.is_program k.may_clone k.ready c.cloned);
      }

  -- what the text is compiled to
  pub has_compiled : MayPart (part_in by) → HasCompiled text by
  has_compiled may =
      let p : Planned by = planned by refl (keeping (part_in by) may) in
      record {
        program = p.program;
        is_program = p.is_program;
        compiled = record {
          tree = tree;
          known = known;
          accepted = accepted;
          fits = fits;
          names = p.names;
          does = p.does;
        };
      }
