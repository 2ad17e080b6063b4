-- What a function that reads words answers.
use Rattle.std.specs.Prelude.{◌≡◌, ℕ, List, Option, None, Some, Result, Ok, Err}
use Rattle.cbi_options.specs.declared.fault.Fault.{Fault}
use Rattle.cbi_options.specs.declared.fault.Fault.TheVariants as fault

-- The answer is what the words read as. A fault but want of memory comes where they read as nothing, and names the option whose value alone is bad.
abbrev pub ReadAs : {A : Type 0} → Result A Fault → (want : Option A) → (bad : Option (List ℕ)) → Type 0
ReadAs (Ok a) want bad = want ≡ Some a
ReadAs (Err fault.Usage) want bad = (want ≡ None) × (bad ≡ None)
ReadAs (Err (fault.BadValue option)) want bad = (want ≡ None) × (bad ≡ Some option.now)
ReadAs (Err fault.Memory) want bad = Unit {0}
