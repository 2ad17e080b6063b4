-- What it is for a graph to keep the nodes of another one, but for visits of conditions' sites that stand before no fork.
use Rattle.std.specs.Prelude.{ℕ, List, [], ◌∷◌}
use Rattle.flow.specs.declared.node.View.{View}
use Rattle.flow.specs.declared.node.View.TheVariants.{Forks, Marks, Skips, Tests, Picks, Imports, Exports}
use Rattle.c_meaning.specs.Words.{Sites, site_list}
use Rattle.lower_relation.specs.Paths.{Graph}

abbrev pub AllFree : (ℕ → Type 0) → List ℕ → Type 0
AllFree free [] = Unit {0}
AllFree free (site ∷ sites) = free site × AllFree free sites

-- what is visited after a return or an assignment is free
pub record Apart (free : ℕ → Type 0) (sites : Sites) : Type 0 where
  pub returns : (token : ℕ) → AllFree free (site_list (sites.return_at token))
  pub pairs : (token : ℕ) → AllFree free (sites.pairs_at token)

-- neither a visit nor a node of sampling
abbrev pub IsUnmarked : View → Type 0
IsUnmarked (Marks site next) = ⊥
IsUnmarked (Skips by next) = ⊥
IsUnmarked (Tests site next) = ⊥
IsUnmarked (Picks weight fast slow) = ⊥
IsUnmarked (Imports next) = ⊥
IsUnmarked (Exports next) = ⊥
IsUnmarked other = Unit {0}

-- all other nodes are kept, the visits of free sites, and those before a fork
pub record Keeps (G H : Graph) (free : ℕ → Type 0) : Type 0 where
  pub kept : (at : ℕ) (v : View) → IsUnmarked v → G at v → H at v
  pub visit : (at site next : ℕ) → free site → G at (Marks site next) → H at (Marks site next)
  pub decided : (at site next when_true when_false : ℕ) → G at (Marks site next) → G next (Forks when_true when_false) → H at (Marks site next)
