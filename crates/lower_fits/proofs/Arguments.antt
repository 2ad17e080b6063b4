-- `printf` is called as a statement alone: what gives a value is another call.
use Rattle.std.proofs.Common.{ℕ}
use Rattle.std.specs.Prelude.{Option}
use Rattle.c_syntax.specs.ExprTree.{ExprList}
use Rattle.c_types_rules.specs.declared.library.Library.TheVariants as library
use Rattle.c_meaning.specs.declared.value_type.Called.{Called}
use Rattle.c_meaning.specs.declared.value_type.Called.TheVariants as called
use Rattle.c_meaning.specs.declared.value_type.ValueType.{ValueType}
use Rattle.c_meaning.specs.Facts.{Facts, Sites}
use Rattle.c_meaning_sound.proofs.Spotting.{CalledWith}

-- anything but `printf`
abbrev pub IsOther : Called → Type 0
IsOther (called.Library library.Printf) = ⊥
IsOther callee = Unit {0}

module _ (facts : Facts) (sites : Sites) (count : ℕ) where
  -- `printf` gives no value
  pub other_called : (callee : Called) (ys : ExprList) (t : Option ValueType) → CalledWith facts sites count callee ys t → IsOther callee
  other_called (called.Library library.Printf) ys t h = absurd h
  other_called callee ys t h = tt
