-- The numbers of a command lie in their bounds.
use Rattle.std.specs.Prelude.{◌≤◌}
use Rattle.flow.specs.Sites.{MayPart, PartFits}
use Rattle.cbi_words.specs.declared.command.Command.{Command}
use Rattle.cbi_words.specs.declared.command.Command.TheVariants.{Transform, Run, Bank, Collect, Runs, Rank, Study, Session, Widen, Cards, Pairs, Lines, Bugs}

abbrev pub IsWithin : Command → Type 0
IsWithin (Transform words) = MayPart words.part
IsWithin (Run words) = (words.turns ≤ 100000000) × (1 ≤ words.run)
IsWithin (Bank words) = ((1 ≤ words.rate) × (words.rate ≤ 65536)) × ((1 ≤ words.count) × (words.count ≤ 65536))
IsWithin (Collect words) = Unit {0}
IsWithin (Runs words) = ((1 ≤ words.rate) × (words.rate ≤ 65536)) × (1 ≤ words.first) × (words.turns ≤ 100000000)
IsWithin (Rank words) = Unit {0}
IsWithin (Study words) = ((1 ≤ words.runs) × (words.runs ≤ 100000)) × ((1 ≤ words.rate) × (words.rate ≤ 65536)) × (words.turns ≤ 100000000)
IsWithin (Session words) = Unit {0}
IsWithin (Widen words) = PartFits words.part
IsWithin (Cards words) = Unit {0}
IsWithin (Pairs words) = Unit {0}
IsWithin (Lines words) = ((1 ≤ words.most) × (words.most ≤ 1000)) × (words.apart ≤ 100)
IsWithin (Bugs words) = ((1 ≤ words.most) × (words.most ≤ 1000)) × ((1 ≤ words.also) × (words.also ≤ 100))
