use Rattle.regions.proofs.region_starts.flags_of.Goals as goal

pub headers_of-requires-clause-within : goal.headers_of-requires-clause-within
headers_of-requires-clause-within c = rw c.as_slice-nodes.ensures c.requires.within
