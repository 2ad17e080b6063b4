-- Local variables.
use Rattle.std.specs.Prelude.{ℕ, Option, Some, None}
use Rattle.flow.specs.declared.site.Slot.{Slot}
use Rattle.flow.specs.declared.site.Slot.TheVariants.{Local}

-- the number of the local variable that a name stands for
abbrev pub local_of : Option Slot → Option ℕ
local_of (Some (Local index)) = Some index
local_of other = None
