-- The names of the functions that a text defines, in the order of their definitions; a function's number is its place.
use Rattle.std.specs.Prelude.{ℕ, List, [], ◌∷◌, ◌++◌, Some}
use Rattle.c_syntax.specs.ItemTree as i
use Rattle.c_syntax.specs.ItemTree.{ItemTree, SourceTree}

-- the name of the function that the item defines, if it defines one
abbrev pub defined_by : ItemTree → List (List ℕ)
defined_by (i.Function token b stars name ps (Some body)) = name ∷ []
defined_by item = []

-- the names of the defined functions
abbrev pub defined_in : List ItemTree → List (List ℕ)
defined_in [] = []
defined_in (x ∷ xs) = defined_by x ++ defined_in xs

-- the names of its functions, by their numbers
abbrev pub functions_of : SourceTree → List (List ℕ)
functions_of t = defined_in t.items
