use Rattle.cbi_base.proofs.LineLemmas.{bad-never}
use Rattle.program_file.specs.Draft.{IsWhole, ProgramLineFollows, empty_draft}
use Rattle.program_file.proofs.Alloc.{wrong-once}
use Rattle.program_file.proofs.Grammar.{follows-once}
use Rattle.program_file.proofs.Whole.{whole, spelled-reads}
use Rattle.program_file.proofs.read.one_wrong_line.Goals as goal

pub returns-clause-once : goal.returns-clause-once
returns-clause-once c = λ text a b p q. wrong-once text a b p q

pub returns-clause-never : goal.returns-clause-never
returns-clause-never c = λ text p line spells wrong.
    bad-never ProgramLineFollows IsWhole follows-once (empty_draft wrong.alloc) (whole wrong.alloc p) text line (spelled-reads wrong.alloc text p spells) wrong.bad
