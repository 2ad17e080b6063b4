use Rattle.std.proofs.Common.{◌≡◌, ◌++◌, take}
use Rattle.std.specs.List.{flat_map}
use Rattle.probes.specs.Sites.{number_field}
use Rattle.probes.proofs.sites.sites_line.Given as goal

-- the fields so far
abbrev pub invariant-loop-site : goal.invariant-loop-site
invariant-loop-site l = l.line.items ≡ l.initial.line.items ++ flat_map number_field (take l.site-index l.sites)
