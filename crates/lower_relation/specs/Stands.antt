-- A graph in a program, under numbers of its own.
use Rattle.std.specs.Prelude.{◌≡◌, ℕ}
use Rattle.flow.specs.declared.node.View.{View}
use Rattle.flow.specs.declared.node.View.TheVariants as view
use Rattle.flow.specs.Code.{Code}
use Rattle.c_meaning.specs.Facts.{Facts, Sites}
use Rattle.lower_relation.specs.Paths.{Graph}

-- a view of a graph with other numbers
abbrev pub renumbered_view : (ℕ → ℕ) → View → View
renumbered_view ren (view.Row op next) = view.Row op (ren next)
renumbered_view ren (view.Halts op) = view.Halts op
renumbered_view ren (view.Forks when_true when_false) = view.Forks (ren when_true) (ren when_false)
renumbered_view ren (view.Turns next) = view.Turns (ren next)
renumbered_view ren (view.Calls function next) = view.Calls function (ren next)
renumbered_view ren view.Gives = view.Gives
renumbered_view ren view.Quits = view.Quits
renumbered_view ren (view.Marks site next) = view.Marks site (ren next)
renumbered_view ren (view.Skips by next) = view.Skips by (ren next)
renumbered_view ren (view.Tests site next) = view.Tests site (ren next)
renumbered_view ren (view.Picks weight fast slow) = view.Picks weight (ren fast) (ren slow)
renumbered_view ren (view.Imports next) = view.Imports (ren next)
renumbered_view ren (view.Exports next) = view.Exports (ren next)
renumbered_view ren view.Nowhere = view.Nowhere

-- the graph stands in the code as this function, under other numbers
pub record Stands (code : Code) (function : ℕ) (graph : Graph) (ren : ℕ → ℕ) : Type 0 where
  pub at : (i : ℕ) (v : View) → graph i v → code.at function (ren i) ≡ renumbered_view ren v

-- the code has the statics and the sites that the text's meaning rests on
pub record Agrees (code : Code) (facts : Facts) (sites : Sites) : Type 0 where
  pub statics : code.statics ≡ facts.statics
  pub site : (number : ℕ) → code.site number ≡ sites.site number
