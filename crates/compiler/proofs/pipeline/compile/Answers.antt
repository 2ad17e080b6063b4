use Rattle.std.proofs.lemmas.Result.{err_from_is_err_and}
use Rattle.compiler.proofs.Refusing.{crowded_result, fits_each, not_accepted, refused_fails}
use Rattle.compiler.proofs.pipeline.compile.Goals as goal

pub returns-in_err-checked-clause-refused : goal.returns-in_err-checked-clause-refused
returns-in_err-checked-clause-refused c =
    let p = err_from_is_err_and c.from_residual.result c.from_residual.ensures.1 in
    rw (p.1, p.2) (not_accepted c.args.plan c.args.text.now _ c.in_err-checked.ensures.refused)

pub returns-clause-compiled : goal.returns-clause-compiled
returns-clause-compiled c = c.compile_checked.ensures.compiled c.args.text.now c.in_ok-checked.ensures.accepted

pub returns-clause-fits : goal.returns-clause-fits
returns-clause-fits c =
    fits_each c.one_accepted_text.ensures.tree c.one_accepted_text.ensures.known c.args.text.now c.args.plan _ _ c.compile_checked.result
    c.in_ok-checked.ensures.accepted c.compile_checked.ensures.fits

pub returns-clause-refused : goal.returns-clause-refused
returns-clause-refused c =
    crowded_result c.args.plan c.args.text.now _ _ c.compile_checked.result c.in_ok-checked.ensures.accepted c.compile_checked.ensures.refused

pub returns-clause-refused_only : goal.returns-clause-refused_only
returns-clause-refused_only c = refused_fails c.args.plan c.args.text.now _ _ c.compile_checked.result c.in_ok-checked.ensures.accepted c.compile_checked.ensures.fits
