use Rattle.std.proofs.Common.{◌≡◌, sym, subst}
use Rattle.flow.specs.declared.program.ProgramParts.{ProgramParts}
use Rattle.flow.specs.Program.{IsProgram}
use Rattle.regions.specs.Flags.{is_in}
use Rattle.clone_paths.proofs.ProgramLemmas.{keeps, kept_from, with_functions}
use Rattle.clone_paths.proofs.clones.clone_program.Goals as goal

pub of-requires : goal.of-requires
of-requires c =
    let p = c.args.program in
    let gs = c.in_ok-functions.functions in
    let e = c.in_ok-functions.ensures in
    let whole = keeps p gs c.into_parts-texts.ensures.is_program c.requires (kept_from p.functions gs (is_in c.deref.result.now) e.cloned e.fits) e.small in
    subst (λ (q : ProgramParts). IsProgram (with_functions q gs)) (sym c.into_parts-texts.ensures.value) whole
