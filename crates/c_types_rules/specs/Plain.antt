-- The type that a Rust value holds.
use Rattle.c_types_rules.specs.declared.ctype.CType.{CType}
use Rattle.c_types_rules.specs.declared.ctype.CType.TheFolds.{fold-CType}
use Rattle.c_types_rules.specs.declared.ctype.CType.TheOpen.{CType-F}
use Rattle.c_types_rules.specs.declared.ctype.CType.TheOpen as layer
use Rattle.c_types_rules.specs.TypeTree as t
use Rattle.c_types_rules.specs.TypeTree.{TypeTree}

abbrev pub type_level : CType-F TypeTree → TypeTree
type_level layer.Void = t.Void
type_level layer.Char = t.Char
type_level layer.Int = t.Int
type_level layer.Unsigned = t.Unsigned
type_level (layer.Pointer to) = t.Pointer to.value
type_level (layer.Array of length) = t.Array of.value length
type_level (layer.Struct tag) = t.Struct tag

abbrev pub plain_type : CType → TypeTree
plain_type = fold-CType TypeTree type_level
