use Rattle.std.proofs.Common.{◌≡◌, drop}
use Rattle.c_syntax.specs.Plain.{plain_links}
use Rattle.c_meaning.specs.Trees.{link_token}
use Rattle.lower_trees.proofs.trees.link_token.Given as goal

abbrev pub invariant-loop-link : goal.invariant-loop-link
invariant-loop-link l = link_token l.last (plain_links (drop l.link-index l.links)) ≡ link_token l.fn.token (plain_links l.links)
