use Rattle.std.proofs.Common.{◌≡◌, ◌∙◌, length, map, ap, sym, subst, rules}
use Rattle.std.specs.List.{All, sum_by}
use Rattle.flow.specs.declared.program.ProgramParts.{ProgramParts}
use Rattle.flow.specs.declared.site.TableParts.{TableParts}
use Rattle.flow.specs.Words.{IsProgram, table_of, ArePlain, IsReady}
use Rattle.program_parts.specs.Part.{part_of}
use Rattle.program_parts.specs.Program.{part_function, part_program}
use Rattle.program_parts.specs.Runs.{RunsInPart}
use Rattle.program_parts.proofs.Programs.{made_of, names_same, nodes_kept, part_is_program, plain_functions, ready_part}
use Rattle.program_parts.proofs.Whole.{runs_in_part}
use Rattle.program_parts.proofs.keep.keep_part.Goals as goal

pub of-requires : goal.of-requires
of-requires c =
    let p = c.args.program in
    let q = c.into_parts-texts.result in
    let part = c.args.part in
    let is : q ≡ p = c.into_parts-texts.ensures.value in
    let functions : c.in_ok-functions.functions ≡ map (part_function part) p.functions = search rules in
    let sites : c.in_ok-sites.sites ≡ part_of part p.sites = c.in_ok-sites.ensures ∙ ap (λ (r : ProgramParts). part_of part r.sites) is in
    let whole = part_is_program part p c.requires.part c.requires.plain c.into_parts-texts.ensures.is_program in
    subst IsProgram (sym (made_of part p q.texts q.globals c.in_ok-functions.functions q.main c.in_ok-sites.sites
    (ap (λ (r : ProgramParts). r.texts) is) (ap (λ (r : ProgramParts). r.globals) is) functions (ap (λ (r : ProgramParts). r.main) is) sites)) whole

-- the program that was made
made : (c : goal.In_ok-kept) → c.in_ok-kept.kept ≡ part_program c.args.part c.args.program
made c = search rules

pub returns-clause-table : goal.returns-clause-table
returns-clause-table c =
    let p = c.args.program in
    ap table_of (made c)
    ∙ ap (λ names. let t : TableParts = record { sites = part_of c.args.part p.sites; functions = names } in t) (names_same c.args.part p.functions)

pub returns-clause-plain : goal.returns-clause-plain
returns-clause-plain c =
    subst (λ (q : ProgramParts). All (λ f. ArePlain f.nodes) q.functions) (sym (made c)) (plain_functions c.args.part c.args.program.functions c.requires.plain)

pub returns-clause-nodes : goal.returns-clause-nodes
returns-clause-nodes c =
    ap (λ (q : ProgramParts). sum_by (λ f. length f.nodes) q.functions) (made c) ∙ nodes_kept c.args.part c.args.program.functions

pub returns-clause-ready : goal.returns-clause-ready
returns-clause-ready c = λ ready. subst IsReady (sym (made c)) (ready_part c.args.part c.args.program c.requires.part ready)

pub returns-clause-runs : goal.returns-clause-runs
returns-clause-runs c = λ ready.
    subst (RunsInPart c.args.part c.args.program) (sym (made c)) (runs_in_part c.args.part c.args.program c.requires.part c.requires.plain ready)
