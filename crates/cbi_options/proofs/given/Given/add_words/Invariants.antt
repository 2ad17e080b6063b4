use Rattle.std.specs.Option.{option_map}
use Rattle.std.proofs.Common.{◌≡◌, None, length}
use Rattle.cbi_options.specs.WordRule.{given_by_words, texts_of}
use Rattle.cbi_options.proofs.Cutting.{after}
use Rattle.cbi_options.proofs.given.Given.add_words.Given as goal

-- what the words give is what was given so far, and then what the words that are left give
abbrev pub invariant-loop-rest : goal.invariant-loop-rest
invariant-loop-rest l = given_by_words None (texts_of l.words) ≡ option_map (after l.self) (given_by_words (option_map (λ name. name.now) l.waiting) (texts_of l.rest))

abbrev pub decreases-loop-rest : goal.decreases-loop-rest
decreases-loop-rest l = length l.rest
