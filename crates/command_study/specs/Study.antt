-- What the command `study` does: out takes the ranking of the runs of a C text, and a line that sums them up; the watchers are told what the runs see.
-- `told` is what one watcher was told.
use Rattle.std.specs.Prelude.{◌≡◌, ◌⊎◌, ℕ, List, [], ◌∷◌, ◌++◌, codes, decimal, Option}
use Rattle.cbi_base.specs.declared.observation.Observation.{Observation}
use Rattle.cbi_base.specs.declared.refusal.Refusal.{Refusal}
use Rattle.cbi_base.specs.Words.{Held, IsReadOf, line_with_newline, line_of_fields}
use Rattle.study_runs.specs.declared.plan.StudyPlan.{StudyPlan}
use Rattle.study_runs.specs.Sums.{Sums}
use Rattle.study.specs.declared.ranked.StudyFault.{StudyFault}
use Rattle.study.specs.declared.ranked.StudyFault.TheVariants as faults
use Rattle.study.specs.declared.ranked.StudyResult.{StudyResult}
use Rattle.study.specs.Studied.{IsRefusedStudy, IsStudied, LeftByStudy, RefusesStudy}
use Rattle.command_base.specs.declared.fault.Fault.{Fault}
use Rattle.command_base.specs.Faults.{LeftBy}
use Rattle.command_base.specs.Outside.{IsUnmoved, Outside, TookDue, TookWithin}
use Rattle.command_base.specs.Limits.{text_limit}
use Rattle.cbi_options.specs.declared.words.StudyWords.{StudyWords}

-- the name that is read
abbrev pub study_names : StudyWords → List (List ℕ)
study_names words = words.text ∷ []

-- which runs are made, and how they are ranked
abbrev pub plan_of : StudyWords → StudyPlan
plan_of words = record { runs = words.runs; seed = words.seed; rate = words.rate; turns = words.turns; policy = words.policy }

-- the line that sums up so many runs
abbrev pub summary_fields : (runs : ℕ) → Sums → List (List ℕ)
summary_fields runs s =
    codes "study" ∷ codes "runs" ∷ decimal runs ∷ codes "failed" ∷ decimal s.failed ∷ codes "ended" ∷ decimal s.ended ∷ codes "cut" ∷ decimal s.cut
    ∷ codes "fast" ∷ decimal s.fast ∷ codes "slow" ∷ decimal s.slow ∷ codes "tests" ∷ decimal s.tests ∷ []

abbrev pub summary_line : (runs : ℕ) → Sums → List ℕ
summary_line runs s = line_with_newline (line_of_fields (summary_fields runs s))

-- what is written of a study: the text of its ranking, and then that line
abbrev pub study_text : StudyPlan → StudyResult → List ℕ
study_text plan result = result.ranking.items ++ summary_line plan.runs result.sums

module _ {B : Type 0} (told : B → List Observation) (words : StudyWords) where
  -- The bytes that are read mean this study: its text is due, and each watcher was told what its runs saw.
  pub record IsStudyOf (before after : Outside B) (text : List ℕ) : Type 0 where
    pub bytes : List ℕ
    pub read : IsReadOf before.held words.text text_limit bytes
    pub result : StudyResult
    pub studied : IsStudied bytes (plan_of words) told before.boxes after.boxes result
    pub text_is : text ≡ study_text (plan_of words) result

  -- out took the text of that study, and no name holds anything else
  pub record StudyDone (before after : Outside B) : Type 0 where
    pub out : TookDue (IsStudyOf before after) before.out after.out
    pub held : after.held ≡ before.held

  -- out took a prefix of it
  pub record StudyTaken (before after : Outside B) : Type 0 where
    pub out : TookWithin (IsStudyOf before after) before.out after.out
    pub held : after.held ≡ before.held

  -- The study came to nothing: out took nothing, and the watchers were told what is told before this fault.
  pub record StudyLeft (fault : StudyFault) (before after : Outside B) : Type 0 where
    pub bytes : List ℕ
    pub read : IsReadOf before.held words.text text_limit bytes
    pub out : after.out ≡ before.out
    pub held : after.held ≡ before.held
    pub boxes : LeftByStudy bytes (plan_of words) told before.boxes after.boxes fault

  -- what a fault of the command leaves
  abbrev pub StudyLeftByFault : Fault → (before after : Outside B) → Type 0
  StudyLeftByFault fault before after =
      LeftBy fault (IsUnmoved before after) (StudyTaken before after) (λ refusal. StudyLeft (faults.Refused refusal) before after)
      (StudyLeft faults.Memory before after ⊎ StudyTaken before after)

-- the bytes read are refused, and by which refusal
pub record StudyRefused (words : StudyWords) (held : Option Held) : Type 0 where
  pub bytes : List ℕ
  pub read : IsReadOf held words.text text_limit bytes
  pub refused : IsRefusedStudy bytes (plan_of words)

pub record StudyRefusedBy (words : StudyWords) (held : Option Held) (refusal : Refusal) : Type 0 where
  pub bytes : List ℕ
  pub read : IsReadOf held words.text text_limit bytes
  pub refused : RefusesStudy bytes (plan_of words) refusal
