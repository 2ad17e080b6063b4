-- What err is told at each status of the call.
use Rattle.std.specs.Prelude.{ℕ, List, Option}
use Rattle.cbi_base.specs.Words.{refusal_line}
use Rattle.cbi_base.specs.declared.refusal.Refusal.{Refusal}
use Rattle.cbi_usage.specs.UsageText.{IsUsageText}
use Rattle.cbi_messages.specs.Done.{done_text}
use Rattle.cbi_messages.specs.Told.{read_line}
use Rattle.command_base.specs.declared.done.Done.{Done}

-- told of words that read as no command: of the option whose value alone breaks the rule, or, where there is none, how the tool is used
pub record UsageTold (bad : Option (List ℕ)) (told : List ℕ → Type 0) : Type 0 where
  pub text : List ℕ
  pub is_usage : IsUsageText bad text
  pub is : told text

-- done, and told of what is said of it
pub record DoneTold (did : Done → Type 0) (lines : List ℕ) (told : List ℕ → Type 0) : Type 0 where
  pub said : Done
  pub is_done : did said
  pub is_told : told (done_text said lines)

-- told of a file that wasn't read: a name that the command reads, and over a sound store the first of them that isn't held; this was left
pub record ReadTold (named missing_first : List ℕ → Type 0) (sound : Type 0) (left_by told : List ℕ → Type 0) : Type 0 where
  pub name : List ℕ
  pub is_named : named name
  pub missing : sound → missing_first name
  pub left : left_by name
  pub is : told (read_line name)

-- told of a refusal of the bytes read, which left this
pub record RefusalTold (refused_by left_by : Refusal → Type 0) (told : List ℕ → Type 0) : Type 0 where
  pub refusal : Refusal
  pub refused : refused_by refusal
  pub left : left_by refusal
  pub is : told (refusal_line refusal)
