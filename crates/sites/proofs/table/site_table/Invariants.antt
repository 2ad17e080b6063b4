use Rattle.std.proofs.Common.{◌≡◌, ◌++◌, length, map, drop}
use Rattle.c_syntax.specs.Plain.{plain_item}
use Rattle.c_types.specs.Answers.{known_of, tree_of}
use Rattle.defined_functions.specs.Functions.{defined_in, functions_of}
use Rattle.sites.specs.Table.{items_sites, sites_of}
use Rattle.sites.proofs.Standing.{AreToCome}
use Rattle.sites.proofs.table.site_table.Given as goal

-- with those of the items that are left it is all of them
abbrev pub invariant-loop-item : goal.invariant-loop-item
invariant-loop-item l = record {
  sites : l.parts.sites ++ items_sites (known_of l.checked) (tree_of l.checked).lines l.schemes (length l.parts.functions) (map plain_item
      (drop l.item-index l.item-items))
      ≡ sites_of (tree_of l.checked) (known_of l.checked) l.schemes;
  functions : l.parts.functions ++ defined_in (map plain_item (drop l.item-index l.item-items)) ≡ functions_of (tree_of l.checked);
  left : AreToCome l.schemes (known_of l.checked) l.noted (length l.parts.functions) (map plain_item (drop l.item-index l.item-items));
}
