-- The type that the base of a type names (C99 6.7.2).
use Rattle.std.specs.Prelude.{◌≡◌, ℕ, Some, None}
use Rattle.c_syntax.specs.declared.parts.Base.{Base}
use Rattle.c_syntax.specs.declared.parts.Base.TheVariants as base
use Rattle.c_types_rules.specs.declared.fault.FaultKind.{FaultKind}
use Rattle.c_types_rules.specs.declared.fault.FaultKind.TheVariants as fault
use Rattle.c_types_rules.specs.TypeTree.{TypeTree, Void, Char, Int, Unsigned, Struct}
use Rattle.c_types_faults.specs.Known.{Known}

module _ (k : Known) where
  abbrev pub IsBase : Base → TypeTree → Type 0
  IsBase (base.Void token) t = t ≡ Void
  IsBase (base.Char token) t = t ≡ Char
  IsBase (base.Int token) t = t ≡ Int
  IsBase (base.Unsigned token int) t = t ≡ Unsigned
  IsBase (base.Struct token tag) t = (number : ℕ) × ((k.tags tag ≡ Some number) × (t ≡ Struct number))

  -- a tag that isn't known there: none declares an incomplete type (6.7.2.3, narrower)
  abbrev pub BaseBreaks : Base → FaultKind → ℕ → Type 0
  BaseBreaks (base.Struct token tag) kind at = (kind ≡ fault.Unknown) × (at ≡ token) × (k.tags tag ≡ None)
  BaseBreaks b kind at = ⊥
