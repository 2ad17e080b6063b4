-- The signatures of the defined functions.
use Rattle.std.specs.Prelude.{◌≤◌, List, Option, Some}
use Rattle.std.specs.List.{All}
use Rattle.c_types_rules.specs.declared.layout.StructType.{StructType}
use Rattle.c_types_rules.specs.Words.{cells_of, most_cells, TypeTree}
use Rattle.c_types_expressions.specs.declared.walk.Definition.{Definition}
use Rattle.c_types_expressions.specs.declared.walk.Walk.{Walk}
use Rattle.c_meaning.specs.Words.{Signature, signature_of}

-- the signature of the function that is defined so
abbrev pub signature_of_entry : Walk → Definition → Option Signature
signature_of_entry w d = signature_of w (Some d)

-- objects of these types are no larger than an object may be
abbrev pub AllSized : List StructType → List TypeTree → Type 0
AllSized structs types = All (λ of. cells_of structs of ≤ most_cells) types

-- so are all declared variables
abbrev pub AreSized : Walk → Type 0
AreSized w = AllSized w.structs w.declared_types
