-- What a site looks at.
use Rattle.std.specs.Prelude.{Bool}
use Rattle.flow.specs.declared.site.SiteKind.{SiteKind}
use Rattle.c_meaning.specs.Texts.{is_branch, is_pair, is_return}
use Rattle.lower_trees.specs.declared.site_index.Looks.{Looks}
use Rattle.lower_trees.specs.declared.site_index.Looks.TheVariants as looks

abbrev pub is_of : Looks → SiteKind → Bool
is_of looks.Branch = is_branch
is_of looks.Return = is_return
is_of looks.Pair = is_pair
