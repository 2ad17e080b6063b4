use Rattle.std.proofs.Common.{◌≡◌, ◌++◌, take}
use Rattle.cbi_options.specs.WordRule.{texts_of}
use Rattle.cbi_options.proofs.given.Given.add_positionals.Given as goal

abbrev pub invariant-loop-word : goal.invariant-loop-word
invariant-loop-word l = l.self ≡ record l.initial.self { positionals = l.initial.self.positionals ++ texts_of (take l.word-index l.words) }
