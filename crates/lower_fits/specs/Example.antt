-- A body of which all is known that its nodes need, that of the example:
--     int main ( void ) { int x = 1 ; if ( x ) return getchar ( ) ; return x ; }
use Rattle.std.specs.Prelude.{[], ◌∷◌, slice_get}
use Rattle.cbi_base.specs.declared.scalar.Kind.TheVariants.{Int}
use Rattle.flow.specs.declared.scope.Bounds.{Bounds}
use Rattle.flow.specs.declared.scope.Names.{Names}
use Rattle.c_meaning.specs.declared.value_type.ValueType.TheVariants as type
use Rattle.c_meaning.specs.Facts.{Facts, Signature}
use Rattle.c_meaning_laws.specs.Example.{example_source, example_body, example_facts}
use Rattle.lower_fits.specs.Fitting.{FitsAsBody}

abbrev pub main_signature : Signature
main_signature = record { params = []; result = type.Number Int; locals = 1 ∷ [] }

-- the facts of the example, where `main` is the only function
abbrev pub main_facts : Facts
main_facts = record example_facts { signature = slice_get (main_signature ∷ []) }

-- it has no strings and no globals, and three sites
abbrev pub main_names : Names
main_names = record { conversions = []; globals = 0; functions = 1; owners = 0 ∷ 0 ∷ 0 ∷ [] }

abbrev pub main_bounds : Bounds
main_bounds = record { function = 0; locals = 1; nodes = 0 }

-- the first token of its body is the seventh one
abbrev pub ExampleFits : Type 0
ExampleFits = FitsAsBody main_facts example_source.sites main_names main_bounds main_signature 6 example_body
