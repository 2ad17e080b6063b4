use Rattle.lower_fits.proofs.BegunGlobals.{few_globals, objects_there}
use Rattle.lower_fits.proofs.Constants.{globals_begun}
use Rattle.lower_fits.proofs.ProgramGlobals.{globals_fit}
use Rattle.lower_fits.proofs.globals.globals_of_an_accepted_text_fit.Goals as goal

pub returns-clause-there : goal.returns-clause-there
returns-clause-there c = λ tree walk a. objects_there tree walk a

pub returns-clause-few : goal.returns-clause-few
returns-clause-few c = λ tree walk a s. few_globals tree walk a s

pub returns-clause-fit : goal.returns-clause-fit
returns-clause-fit c = λ tree walk globals a s f e. globals_fit tree walk globals a s f e

pub returns-clause-begun : goal.returns-clause-begun
returns-clause-begun c = λ tree walk a s f. globals_begun tree walk a s f
