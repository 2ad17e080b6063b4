-- The line of a text that no program spells: 1 plus the number of lines in its longest good prefix. Lines are good where each may come after
-- those before it.
use Rattle.std.specs.Prelude.{ℕ, List}
use Rattle.std.specs.declared.alloc.Global.{Global as Heap}
use Rattle.cbi_base.specs.Lines.{IsBadLine}
use Rattle.program_file.specs.Draft.{IsWhole, ProgramLineFollows, empty_draft}

pub record IsWrongAt (text : List ℕ) (line : ℕ) : Type 0 where
  pub alloc : Heap
  pub bad : IsBadLine ProgramLineFollows IsWhole (empty_draft alloc) text line
