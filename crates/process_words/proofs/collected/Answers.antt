use Rattle.process_words.proofs.Collecting.{all-collected}
use Rattle.process_words.proofs.collected.Goals as goal

pub returns-in-Ok-clause-words : goal.returns-in-Ok-clause-words
returns-in-Ok-clause-words c = all-collected c.args.left c.in-Ok.words c.in-Ok.ensures.ran
