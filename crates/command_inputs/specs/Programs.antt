-- What several commands read of program files.
use Rattle.std.specs.Prelude.{◌≡◌, ℕ, List}
use Rattle.cbi_base.specs.declared.refusal.Refusal.{Refusal}
use Rattle.cbi_base.specs.declared.refusal.Refusal.TheVariants.{BadProgram}
use Rattle.flow.specs.declared.program.ProgramParts.{ProgramParts}
use Rattle.flow.specs.Spelling.{SpellsProgram}
use Rattle.program_file.specs.WrongLine.{IsWrongAt}

-- no program spells the bytes, or one does
abbrev pub IsNoProgram : List ℕ → Type 0
IsNoProgram bytes = (p : ProgramParts) → SpellsProgram bytes p → ⊥

pub record IsSpelled (bytes : List ℕ) : Type 0 where
  pub parts : ProgramParts
  pub spells : SpellsProgram bytes parts

-- the refusal of bytes that no program spells: they go wrong at its line
pub record IsBadProgram (bytes : List ℕ) (refusal : Refusal) : Type 0 where
  pub line : ℕ
  pub refusal_is : refusal ≡ BadProgram line
  pub none : IsNoProgram bytes
  pub wrong : IsWrongAt bytes line
