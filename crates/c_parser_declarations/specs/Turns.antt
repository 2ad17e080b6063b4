-- What a turn of a loop may answer.
use Rattle.std.specs.Prelude.{◌≡◌, Option, Some, None, Result, Ok, Err}
use Rattle.c_parser_expressions.specs.declared.stop.Stop.{Stop}
use Rattle.c_parser_expressions.specs.declared.stop.Stop.TheVariants as stop
use Rattle.c_parser_expressions.specs.Reading.{Cursor}
use Rattle.c_parser_expressions.specs.Steps.{Step}

-- what a function of the code returned is what the step gives, unless memory ran out: no further part, and nothing is passed, or one
abbrev pub GivesStep : {A V : Type 0} → (V → A) → Result (Option V) Stop → (old new : Cursor) → Step A → Type 0
GivesStep view (Ok None) old new step = (step ≡ None) × (new ≡ old)
GivesStep view (Ok (Some v)) old new step = step ≡ Some (Ok (view v, new))
GivesStep view (Err (stop.Refused index)) old new step = step ≡ Some (Err index)
GivesStep view (Err stop.Memory) old new step = Unit {0}
