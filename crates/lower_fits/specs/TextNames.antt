-- What the nodes of a text's program may name.
use Rattle.std.specs.Prelude.{List, length, map}
use Rattle.cbi_base.specs.Format.{conversions_of}
use Rattle.c_syntax.specs.ItemTree.{SourceTree}
use Rattle.c_types_expressions.specs.declared.walk.Walk.{Walk}
use Rattle.flow.specs.declared.scope.Names.{Names}
use Rattle.flow.specs.declared.site.Site.{Site}
use Rattle.c_meaning.specs.Known.{facts_of}

-- its strings, globals, functions and sites
abbrev pub names_of_text : SourceTree → Walk → List Site → Names
names_of_text tree walk table = record {
  conversions = map (λ t. conversions_of t.bytes) (facts_of tree walk).statics.texts;
  globals = walk.globals;
  functions = length walk.definitions;
  owners = map (λ s. s.function) table;
}
