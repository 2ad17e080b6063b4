-- The objects of globals.
use Rattle.std.specs.Prelude.{List, ◌++◌, length, map, Option}
use Rattle.std.specs.Option.{option_map}
use Rattle.cbi_base.specs.Objects.{Object}
use Rattle.c_syntax.specs.StatementTree.{InitialTree, StartTree}
use Rattle.c_types_rules.specs.TypeTree.{TypeTree}
use Rattle.c_types_expressions.specs.declared.walk.Walk.{Walk}
use Rattle.flow.specs.declared.program.Global.{Global}
use Rattle.flow.specs.declared.program.Text.{Text}
use Rattle.flow.specs.Statics as statics
use Rattle.c_meaning.specs.Words.{Facts, filled_up, given_to, global_objects, static_object, zeros_of, computed_type, element_type}
use Rattle.lower_facts.specs.declared.facts.TreeFacts.{TreeFacts}
use Rattle.lower_facts.specs.Facts.{facts_in, known_in}

-- the object of a global of the type, with this initialiser
abbrev pub initial_object : Facts → Walk → TypeTree → Option InitialTree → Option Object
initial_object facts w of initial =
    option_map (λ given. static_object (filled_up (zeros_of w.structs of) given))
    (given_to facts (computed_type w.structs of) (element_type w.structs of) initial)

-- the objects that these globals of a program are
abbrev pub objects_in : TreeFacts → Option (List Global) → Option (List Object)
objects_in f globals = option_map (map (statics.object_of_global (facts_in f).statics.globals)) globals

-- the objects of the declared variables
abbrev pub all_objects : TreeFacts → List StartTree → Option (List Object)
all_objects f starts = global_objects (facts_in f) (known_in f) starts

-- the objects behind others, where there are any
abbrev pub objects_behind : List Object → Option (List Object) → Option (List Object)
objects_behind before objects = option_map (λ more. before ++ more) objects

-- the objects that these globals of a program are, and its texts behind them
abbrev pub begun_with : List Text → List Global → List Object
begun_with texts globals = map (statics.object_of_global (length globals)) globals ++ map statics.text_object texts
