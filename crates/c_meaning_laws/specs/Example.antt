-- A text whose types fit, with a site of each kind:
--     int main ( void ) { int x = 1 ; if ( x ) return getchar ( ) ; return x ; }
-- Each of its expressions is an `int`, and it has one variable. Its tokens are counted from 0.
use Rattle.std.specs.Prelude.{pos, List, [], ◌∷◌, Some, None, codes}
use Rattle.cbi_base.specs.declared.scalar.Kind.TheVariants.{Int}
use Rattle.c_syntax.specs.declared.parts.Base.TheVariants as base
use Rattle.c_syntax.specs.ExprTree as e
use Rattle.c_syntax.specs.StatementTree as tree
use Rattle.c_syntax.specs.StatementTree.{EntryList, StartTree}
use Rattle.flow.specs.declared.site.BranchWord.TheVariants as word
use Rattle.flow.specs.declared.site.Partner.TheVariants as partner
use Rattle.flow.specs.declared.site.Site.{Site}
use Rattle.flow.specs.declared.site.SiteKind.TheVariants.{Branch, Return, Pair}
use Rattle.flow.specs.declared.site.Slot.TheVariants as slot
use Rattle.c_meaning.specs.declared.value_type.ValueType.TheVariants as type
use Rattle.c_meaning.specs.Words.{Facts, Source, sites_by_table}

abbrev pub example_facts : Facts
example_facts = record {
  type_at = λ token. Some (type.Number Int);
  cells_at = λ token. None;
  named_cells = λ named stars. None;
  slot_at = λ token. Some (slot.Local 0);
  declared_at = λ token. Some (type.Number Int);
  element_at = λ token. None;
  offset_at = λ token. None;
  function_at = λ token. None;
  text_at = λ token. None;
  statics = record { globals = 0; texts = [] };
  signature = λ number. Some (record { params = []; result = type.Number Int; locals = 1 ∷ [] });
}

abbrev pub example_table : List Site
example_table = record { kind = Branch word.If; function = 0; line = 1; token = 11 }
    ∷ record { kind = Pair (codes "x") (slot.Local 0) (partner.Constant (pos 0)); function = 0; line = 1; token = 8 }
    ∷ record { kind = Return (codes "getchar"); function = 0; line = 1; token = 16 } ∷ []

abbrev pub example_start : StartTree
example_start = record {
  token = 7;
  declarator = record { token = 7; stars = 0; name_token = 7; name = codes "x"; bounds = [] };
  initial = Some (tree.Value (e.Constant 9 Int (pos 1)));
}

abbrev pub example_body : EntryList
example_body =
    tree.declared (record { token = 6; base = base.Int 6; starts = example_start ∷ [] })
    (tree.stated (tree.If 11 (e.Name 13 (codes "x")) (tree.Return 15 (Some (e.Call 16 (codes "getchar") e.no_exprs))))
    (tree.stated (tree.Return 20 (Some (e.Name 21 (codes "x")))) tree.no_entries))

abbrev pub example_source : Source
example_source = record { facts = example_facts; sites = sites_by_table example_table; body = λ number. Some example_body; main = 0; objects = Some [] }
