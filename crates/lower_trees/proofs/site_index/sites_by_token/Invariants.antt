use Rattle.std.proofs.Common.{◌≡◌, ◌≤◌, ℕ, ◌++◌, drop}
use Rattle.c_meaning.specs.Texts.{sites_from}
use Rattle.lower_trees.specs.Looks.{is_of}
use Rattle.lower_trees.specs.Places.{all_at}
use Rattle.lower_trees.proofs.site_index.sites_by_token.Given as goal

abbrev pub invariant-loop-site : goal.invariant-loop-site
invariant-loop-site l =
    (l.number ≤ l.site-index)
    × ((token : ℕ) → all_at l.lists.items token ++ sites_from l.number (is_of l.looks) token (drop l.site-index l.sites) ≡ sites_from 0 (is_of l.looks) token l.sites)
