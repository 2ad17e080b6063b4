-- The grammar of a list of names, line by line: which line may come next.
use Rattle.std.specs.Prelude.{◌≡◌, ℕ, ◌+◌, ◌<◌, ◌≤◌, List, [], ◌∷◌, ◌++◌, length}
use Rattle.std.specs.Global.{Global}
use Rattle.name_lists.specs.List.{IsFileName, greatest_run, most_names}
use Rattle.name_lists.specs.declared.draft.Draft.{Draft}

-- nothing is read yet
abbrev pub start_of_list : Global → ℕ → Draft
start_of_list alloc first = record { alloc = alloc; first = first; names = [] }

-- the line of one more name, where there is room for it and a number for its run
pub record NameFollows (d : Draft) (line : List ℕ) (after : Draft) : Type 0 where
  pub is_name : IsFileName line
  pub room : length d.names < most_names
  pub has_number : d.first + length d.names ≤ greatest_run
  pub after_is : after ≡ record d { names = d.names ++ line ∷ [] }

-- a list may end where it has a name
abbrev pub ListEnds : Draft → Type 0
ListEnds d = 1 ≤ length d.names
