-- What a program is made of: a checked text with a site table.
use Rattle.std.specs.Prelude.{◌≡◌, ◌≤◌, ◌⊎◌, List, [], length}
use Rattle.std.specs.List.{AllByRecursion}
use Rattle.c_syntax.specs.Words.{SourceTree, most_tokens, tree_kinds, IsOfBytes, KindFits}
use Rattle.c_types_expressions.specs.declared.walk.Walk.{Walk}
use Rattle.flow.specs.declared.site.Site.{Site}
use Rattle.flow.specs.declared.site.TableParts.{TableParts}
use Rattle.flow.specs.declared.choice.Schemes.{Schemes}
use Rattle.defined_functions.specs.Functions.{functions_of}
use Rattle.sites.specs.Table.{sites_of}
use Rattle.c_meaning_sound.specs.Accepted.{IsAcceptedTree}
use Rattle.c_meaning_sound.specs.Sited.{IsSited}

-- these are the sites of the text for some schemes, or there are none
abbrev pub AreSitesOf : SourceTree → Walk → List Site → Type 0
AreSitesOf tree walk sites = (sites ≡ []) ⊎ ((schemes : Schemes) × (sites ≡ sites_of tree walk schemes))

-- the text is accepted, and its tokens are ones that a text of bytes has, and few
pub record IsWholeText (tree : SourceTree) (walk : Walk) : Type 0 where
  pub accepted : IsAcceptedTree tree walk
  pub sited : IsSited tree
  pub constants : AllByRecursion KindFits (tree_kinds tree)
  pub bytes : AllByRecursion IsOfBytes (tree_kinds tree)
  pub short : length (tree_kinds tree) ≤ most_tokens

-- the table is that of its sites, or has none, with the names of its functions
pub record IsReadyText (tree : SourceTree) (walk : Walk) (table : TableParts) : Type 0 where
  pub whole : IsWholeText tree walk
  pub sites : AreSitesOf tree walk table.sites
  pub functions : table.functions ≡ functions_of tree
