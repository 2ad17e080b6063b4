-- An accepted text, with a site of each kind:
--     int main ( void ) { int x = 1 ; if ( x ) return getchar ( ) ; return x ; }
use Rattle.std.specs.Prelude.{[], ◌∷◌, Some, codes, replicate, unwrap_or}
use Rattle.c_syntax.specs.declared.parts.Base.TheVariants as base
use Rattle.c_syntax.specs.declared.parts.Params.TheVariants as params
use Rattle.c_syntax.specs.ItemTree as item
use Rattle.c_syntax.specs.ItemTree.{SourceTree}
use Rattle.c_types_expressions.specs.declared.walk.Walk.{Walk}
use Rattle.c_types_expressions.specs.Beginning.{empty_walk}
use Rattle.c_types.specs.Fault.{known_at_end, walk_tree}
use Rattle.c_meaning_laws.specs.Example.{example_body}

abbrev pub sample_tree : SourceTree
sample_tree = record { items = item.Function 0 (base.Int 0) 0 (codes "main") params.Void (Some example_body) ∷ []; lines = replicate 24 1 }

-- what the walk through it comes to
abbrev pub sample_walk : Walk
sample_walk = unwrap_or (known_at_end (walk_tree sample_tree)) (empty_walk 24)
