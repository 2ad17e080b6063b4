-- What the command `transform` does: out takes the file of the program that a C text is compiled to.
use Rattle.std.specs.Prelude.{ℕ, List, [], ◌∷◌, Option}
use Rattle.cbi_base.specs.Store.{Held, IsReadOf}
use Rattle.cbi_base.specs.declared.refusal.Refusal.{Refusal}
use Rattle.flow.specs.declared.program.ProgramParts.{ProgramParts}
use Rattle.flow.specs.Spelling.{SpellsProgram}
use Rattle.cbi_options.specs.declared.schemes.Mode.{Mode}
use Rattle.cbi_options.specs.declared.schemes.Mode.TheVariants as mode
use Rattle.flow.specs.declared.choice.Part.{Part}
use Rattle.flow.specs.declared.choice.Schemes.{Schemes}
use Rattle.compiler.specs.declared.plan.Plan.{Plan}
use Rattle.compiler.specs.declared.plan.Plan.TheVariants as plan
use Rattle.compiler.specs.Compiled.{IsCompiled}
use Rattle.compiler.specs.Refused.{IsRefusedText, RefusesText}
use Rattle.command_base.specs.Limits.{text_limit}
use Rattle.cbi_options.specs.declared.words.TransformWords.{TransformWords}

-- what the text is compiled to; a plain program has no sites, whatever schemes and part are named
abbrev pub plan_for : Mode → Schemes → Option Part → Plan
plan_for mode.Plain s part = plan.Plain
plan_for mode.Full s part = plan.Full s part
plan_for mode.Sampled s part = plan.Sampled s part

abbrev pub plan_of : TransformWords → Plan
plan_of r = plan_for r.mode r.schemes r.part

-- the name that is read
abbrev pub transform_names : TransformWords → List (List ℕ)
transform_names r = r.text ∷ []

-- the file spells the program that these bytes are compiled to
pub record IsFileOf (words : TransformWords) (bytes file : List ℕ) : Type 0 where
  pub program : ProgramParts
  pub compiled : IsCompiled bytes (plan_of words) program
  pub spells : SpellsProgram file program

-- so does the file for the bytes that are read
pub record IsTransformed (held : Option Held) (words : TransformWords) (file : List ℕ) : Type 0 where
  pub bytes : List ℕ
  pub read : IsReadOf held words.text text_limit bytes
  pub is_file : IsFileOf words bytes file

-- the bytes read are refused, and by which refusal
pub record TransformRefused (words : TransformWords) (held : Option Held) : Type 0 where
  pub bytes : List ℕ
  pub read : IsReadOf held words.text text_limit bytes
  pub refused : IsRefusedText (plan_of words) bytes

pub record TransformRefusedBy (words : TransformWords) (held : Option Held) (refusal : Refusal) : Type 0 where
  pub bytes : List ℕ
  pub read : IsReadOf held words.text text_limit bytes
  pub refused : RefusesText (plan_of words) refusal bytes
