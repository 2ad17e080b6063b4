-- What is known of a tree and a site table.
use Rattle.std.specs.Prelude.{ℕ, ◌+◌, List}
use Rattle.cbi_base.specs.declared.scalar.Scalar.{Scalar}
use Rattle.cbi_base.specs.declared.scalar.Scalar.TheVariants.{Place}
use Rattle.c_syntax.specs.ItemTree.{SourceTree}
use Rattle.c_types_expressions.specs.declared.walk.Walk.{Walk}
use Rattle.c_types.specs.Answers.{known_of, tree_of}
use Rattle.flow.specs.declared.site.Site.{Site}
use Rattle.c_meaning.specs.Words.{Facts, Sites, facts_of, Source, sites_by_table, source_of}
use Rattle.lower_facts.specs.declared.facts.TreeFacts.{TreeFacts}

-- the tree, what the walk through it knows at its end, and the sites of the table
abbrev pub tree_in : TreeFacts → SourceTree
tree_in f = tree_of f.checked.now

abbrev pub known_in : TreeFacts → Walk
known_in f = known_of f.checked.now

abbrev pub table_in : TreeFacts → List Site
table_in f = f.table.now.sites

-- what is known of the tokens of the tree
abbrev pub facts_in : TreeFacts → Facts
facts_in f = facts_of (tree_in f) (known_in f)

-- the sites by token
abbrev pub sites_in : TreeFacts → Sites
sites_in f = sites_by_table (table_in f)

-- the text, as its meaning sees it
abbrev pub source_in : TreeFacts → Source
source_in f = source_of (tree_in f) (known_in f) (table_in f)

-- the place of the first byte of the string with this number: the strings are the objects after the globals
abbrev pub string_place : Facts → ℕ → Scalar
string_place facts number = Place (facts.statics.globals + number) 0
