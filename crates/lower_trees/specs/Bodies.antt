-- The bodies of the defined functions, by the items that define them.
use Rattle.std.specs.Prelude.{ℕ, suc, if◌then◌else◌, List, [], ◌∷◌, Option, Some, None, is_some, slice_get}
use Rattle.c_syntax.specs.ItemTree as item
use Rattle.c_syntax.specs.Words.{ItemTree, EntryList}

-- the body of an item, if it is a function's definition
abbrev pub body_in : Option ItemTree → Option EntryList
body_in (Some (item.Function token base stars name params (Some body))) = Some body
body_in x = None

-- the body of the item at the place
abbrev pub body_at : List ItemTree → ℕ → Option EntryList
body_at items place = body_in (slice_get items place)

-- the places of the items that define functions, where items are counted from this number on
abbrev pub definition_places : ℕ → List ItemTree → List ℕ
definition_places place [] = []
definition_places place (x ∷ items) = if is_some (body_in (Some x)) then place ∷ definition_places (suc place) items else definition_places (suc place) items
