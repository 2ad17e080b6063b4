-- What is refused of a text that is studied, and what is written and left of its study.
use Rattle.std.proofs.Common.{◌≡◌, inl, inr, ℕ, List, Option, IsSome, sym, subst, ◌∙◌}
use Rattle.cbi_base.specs.declared.observation.Observation.{Observation}
use Rattle.cbi_base.specs.declared.refusal.Refusal.{Refusal}
use Rattle.cbi_base.specs.declared.refusal.Refusal.TheVariants.{TooManyMarks}
use Rattle.cbi_base.specs.Words.{Takes, TakesPrefix, Held, IsReadOf}
use Rattle.study_runs.specs.declared.plan.StudyPlan.{StudyPlan}
use Rattle.compiler.specs.Refused.{IsRefusedText, RefusesText}
use Rattle.compiler.specs.declared.plan.Plan.{Plan}
use Rattle.study.specs.declared.ranked.StudyFault.{StudyFault}
use Rattle.study.specs.declared.ranked.StudyFault.TheVariants as faults
use Rattle.study.specs.declared.ranked.StudyResult.{StudyResult}
use Rattle.study.specs.Studied.{IsRefusedStudy, IsStudied, LeftByStudy, RefusesStudy, study_form}
use Rattle.command_base.specs.Outside.{Outside}
use Rattle.command_base.specs.Limits.{text_limit}
use Rattle.command_base.proofs.ReadLemmas.{read-once}
use Rattle.cbi_options.specs.declared.words.StudyWords.{StudyWords}
use Rattle.command_study.specs.Study.{IsStudyOf, StudyDone, StudyLeft, StudyRefused, StudyTaken, plan_of, study_text}

-- the bytes are refused where any bytes read of the file are
pub same-refused-study : (held : Option Held) (words : StudyWords) (bytes slice : List ℕ) → slice ≡ bytes → IsSome held → IsReadOf held words.text text_limit bytes → StudyRefused words held
    → IsRefusedStudy slice (plan_of words)
same-refused-study held words bytes slice same tells read refused =
    subst (λ x. IsRefusedStudy x (plan_of words)) (read-once held words.text text_limit refused.bytes bytes tells refused.read read ∙ sym same) refused.refused

-- a text or a plan that a refusal speaks of is refused
refuses-study : ((plan : Plan) (refusal : Refusal) (text : List ℕ) → RefusesText plan refusal text → IsRefusedText plan text) → (refusal : Refusal) (text : List ℕ) (plan : StudyPlan) → RefusesStudy text plan refusal → IsRefusedStudy text plan
refuses-study law (TooManyMarks run) text plan h = inr (run, h)
refuses-study law refusal text plan h = inl (law study_form refusal text h)

-- a refusal that is told is one of the bytes read
pub study-refused : ((plan : Plan) (refusal : Refusal) (text : List ℕ) → RefusesText plan refusal text → IsRefusedText plan text)
    → (words : StudyWords) (held : Option Held) (bytes slice : List ℕ) (refusal : Refusal) → slice ≡ bytes → IsReadOf held words.text text_limit bytes → RefusesStudy slice (plan_of words) refusal → StudyRefused words held
study-refused law words held bytes slice refusal same read h =
    record { bytes = bytes; read = read; refused = subst (λ x. IsRefusedStudy x (plan_of words)) same (refuses-study law refusal slice (plan_of words) h) }

-- before a refusal watchers are told no more than before want of memory
refused-told : (text : List ℕ) (plan : StudyPlan) {B : Type 0} (told : B → List Observation) (before after : List B) (refusal : Refusal)
    → LeftByStudy text plan told before after (faults.Refused refusal) → LeftByStudy text plan told before after faults.Memory
refused-told text plan told before after (TooManyMarks run) h = inr h
refused-told text plan told before after refusal h = inl h

-- what a fault of the bytes that are read leaves
pub left-of : {B : Type 0} (slice bytes : List ℕ) (plan : StudyPlan) (told : B → List Observation) (before after : List B) (given fault : StudyFault)
    → slice ≡ bytes → given ≡ fault → LeftByStudy slice plan told before after given → LeftByStudy bytes plan told before after fault
left-of slice bytes plan told before after given fault same is left =
    subst (LeftByStudy bytes plan told before after) is (subst (λ x. LeftByStudy x plan told before after given) same left)

module _ {B : Type 0} (told : B → List Observation) (words : StudyWords) (before after : Outside B) where
  -- the study of the bytes that are read
  pub is-study : (bytes slice text : List ℕ) (result : StudyResult) → IsReadOf before.held words.text text_limit bytes → slice ≡ bytes
      → IsStudied slice (plan_of words) told before.boxes after.boxes result → text ≡ study_text (plan_of words) result → IsStudyOf told words before after text
  is-study bytes slice text result read same studied text_is = record {
    bytes = bytes;
    read = read;
    result = result;
    studied = subst (λ x. IsStudied x (plan_of words) told before.boxes after.boxes result) same studied;
    text_is = text_is;
  }

  -- its text was taken, or a prefix of it
  pub study-done : (text : List ℕ) → IsStudyOf told words before after text → Takes before.out after.out text → after.held ≡ before.held → StudyDone told words before after
  study-done text is took held = record { out = record { text = text; is_due = is; took = took }; held = held }

  pub study-taken : (text : List ℕ) → IsStudyOf told words before after text → TakesPrefix before.out after.out text → after.held ≡ before.held → StudyTaken told words before after
  study-taken text is took held = record { out = record { text = text; is_due = is; took = took }; held = held }

  pub refused-left : (refusal : Refusal) → StudyLeft told words (faults.Refused refusal) before after → StudyLeft told words faults.Memory before after
  refused-left refusal left = record {
    bytes = left.bytes;
    read = left.read;
    out = left.out;
    held = left.held;
    boxes = refused-told left.bytes (plan_of words) told before.boxes after.boxes refusal left.boxes;
  }
