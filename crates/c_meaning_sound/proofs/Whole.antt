-- The types of an accepted text fit, with its site table and without sites.
use Rattle.std.proofs.Common.{List, []}
use Rattle.c_syntax.specs.ItemTree.{SourceTree}
use Rattle.c_types_expressions.specs.declared.walk.Walk.{Walk}
use Rattle.flow.specs.declared.site.Site.{Site}
use Rattle.c_meaning.specs.Texts.{sites_by_table}
use Rattle.c_meaning_laws.specs.TypedText.{TypedText}
use Rattle.c_meaning_sound.specs.Accepted.{IsAcceptedTree}
use Rattle.c_meaning_sound.proofs.Bodies.{Accepted, tree_accepted}
use Rattle.c_meaning_sound.proofs.Covered.{ItemsCover, items_lift, items_none, table_covers}
use Rattle.c_meaning_sound.proofs.Mains.{main_int}
use Rattle.flow.specs.declared.choice.Schemes.{Schemes}
use Rattle.sites.specs.Table as table

covered_fits : (tree : SourceTree) (walk : Walk) (sites : List Site) → IsAcceptedTree tree walk → ItemsCover tree walk (sites_by_table sites) 0 tree.items
    → TypedText tree walk sites
covered_fits tree walk sites a k =
    let own : Accepted tree walk = tree_accepted tree walk a.formed.shaped a.walked a.short a.constants in
    record {
      functions = λ number f e. items_lift tree walk (sites_by_table sites) tree.items 0 a.formed.shaped.placed k number f (own.bodies number f e);
      main = main_int tree walk a.walked;
      globals = own.globals;
    }

pub table_fits : (tree : SourceTree) (walk : Walk) (schemes : Schemes) → IsAcceptedTree tree walk → TypedText tree walk (table.sites_of tree walk schemes)
table_fits tree walk schemes a = covered_fits tree walk (table.sites_of tree walk schemes) a (table_covers tree walk schemes a.formed.shaped.placed)

pub none_fits : (tree : SourceTree) (walk : Walk) → IsAcceptedTree tree walk → TypedText tree walk []
none_fits tree walk a = covered_fits tree walk [] a (items_none tree walk tree.items 0)
