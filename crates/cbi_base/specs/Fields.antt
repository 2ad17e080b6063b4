-- The fields that are left of a line that is read field by field.
use Rattle.std.specs.Prelude.{ℕ, List, [], Option, None, Some}
use Rattle.std.specs.Borrow.{Bor}
use Rattle.cbi_base.specs.Text.{fields_of}

-- the fields of what is left of a line
abbrev pub fields_left : Option (Bor (List ℕ)) → List (List ℕ)
fields_left None = []
fields_left (Some bytes) = fields_of bytes.now
