-- Which operations are shifts (C99 6.5.7).
use Rattle.std.specs.Prelude.{Bool, true, false}
use Rattle.cbi_base.specs.declared.operators.Binary.{Binary}
use Rattle.cbi_base.specs.declared.operators.Binary.TheVariants.{Shl, Shr}

abbrev pub is_shift : Binary → Bool
is_shift Shl = true
is_shift Shr = true
is_shift op = false
