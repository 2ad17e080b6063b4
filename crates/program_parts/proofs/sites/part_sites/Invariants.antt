use Rattle.std.proofs.Common.{◌≡◌, ◌+◌, ◌++◌, length}
use Rattle.std.specs.Prelude.{filter_map, reverse}
use Rattle.std.specs.List.{enumerate_from}
use Rattle.program_parts.specs.Part.{item_in, part_of}
use Rattle.program_parts.proofs.sites.part_sites.Given as goal

-- the sites of the part so far, and those of what is left
abbrev pub invariant-loop-site : goal.invariant-loop-site
invariant-loop-site l = record {
  kept : part_of l.part l.fn.sites ≡ l.kept ++ filter_map (item_in l.part) (enumerate_from l.number (reverse l.rest.items));
  number : l.number + length l.rest.items ≡ length l.fn.sites;
}

abbrev pub decreases-loop-site : goal.decreases-loop-site
decreases-loop-site l = length l.rest.items
