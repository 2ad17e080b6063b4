-- What a call leaves, by where it came to its end.
use Rattle.std.proofs.Common.{◌≡◌, inl, inr, ℕ, Bool, List, length, Option, ap, sym, subst, ◌∙◌}
use Rattle.sha2.specs.Sha256.{sha256}
use Rattle.cbi_base.specs.declared.identity.ProgramId.{ProgramId}
use Rattle.cbi_base.specs.declared.observation.Observation.{Observation}
use Rattle.cbi_base.specs.Words.{Takes, TakesPrefix, Held}
use Rattle.collector.specs.declared.collection.Held.{Held as Collected}
use Rattle.collector.specs.Collecting.{IsCollection}
use Rattle.collector.specs.Spelling.{collection_text}
use Rattle.flow.specs.declared.program.ProgramParts.{ProgramParts}
use Rattle.planned_runs.specs.Left.{HavePlannedRun, LeftByPlan}
use Rattle.planned_runs.specs.Runs.{ArePlannedRuns, planned_reports}
use Rattle.report_file.specs.declared.report.Report.{Report}
use Rattle.collector.specs.Sites.{branches_of}
use Rattle.planned_runs.specs.declared.labels.LabelCounts.{LabelCounts}
use Rattle.planned_runs.specs.declared.runs.PlannedRuns.{PlannedRuns}
use Rattle.command_base.specs.declared.done.Done.{Done}
use Rattle.command_base.specs.declared.done.Done.TheVariants.{Counted}
use Rattle.command_base.specs.declared.fault.Fault.{Fault}
use Rattle.command_base.specs.declared.fault.Fault.TheVariants.{Read, Write, Refused, Memory}
use Rattle.command_base.specs.Faults.{HasCause}
use Rattle.command_base.specs.Outside.{IsUnmoved, Outside}
use Rattle.command_runs.specs.Line.{IsMadeOn, RefusesLine, names_of_line}
use Rattle.command_runs.specs.Lists.{AreListTexts, IsLinesPlan, RefusesFirst}
use Rattle.command_runs.specs.Runs.{AreListedRuns, HaveAllRun, LeftByRuns, RunsDone, RunsStopped, RunsTaken, runs_collection, said_of}
use Rattle.command_runs.specs.declared.plan.ListedPlan.{ListedPlan}
use Rattle.command_runs.specs.declared.texts.ListTexts.{ListTexts}
use Rattle.cbi_options.specs.declared.words.RunsWords.{RunsWords}

abbrev collected : ProgramId → List Bool → List Report → Collected
collected program branches reports = record { program = program; branches = branches; reports = reports }

module _ {B : Type 0} (told : B → List Observation) (r : RunsWords) (before after : Outside B) where
  -- the first texts were refused
  pub left-refused : (e : Fault) (texts : ListTexts) → AreListTexts before.held r texts → HasCause e (λ n. ⊥) ⊥ (RefusesFirst r texts) → IsUnmoved before after → LeftByRuns told r before after e
  left-refused (Read name) texts are h same = absurd h
  left-refused Write texts are h same = absurd h
  left-refused (Refused refusal) texts are h same = inl (same, record { texts = texts; are_texts = are; refused = h })
  left-refused Memory texts are h same = inl same

  -- not all runs were made
  left-of : (e : Fault) → RunsStopped told r before after e → LeftByRuns told r before after e
  left-of (Read name) s = inr s
  left-of Write s = absurd s.boxes
  left-of (Refused refusal) s = inr s
  left-of Memory s = inr (inl s)

  -- all runs were made, and out didn't take the whole text
  pub left-taken : (e : Fault) (write : Type 0) → HasCause e (λ n. ⊥) write (λ refusal. ⊥) → RunsTaken told r before after → LeftByRuns told r before after e
  left-taken (Read name) write h s = absurd h
  left-taken Write write h s = s
  left-taken (Refused refusal) write h s = absurd h
  left-taken Memory write h s = inr (inr s)

  module _ (texts : ListTexts) (parts : ProgramParts) (plan : ListedPlan) (now : Option Held) (count : ℕ) (is_plan : IsLinesPlan before.held r texts parts plan)
      (same : now ≡ before.held) (counted : count ≡ length plan.inputs) where
    pub left-stopped : (e : Fault) → after.out ≡ before.out → after.held ≡ before.held
        → LeftByPlan parts (IsMadeOn plan now) plan.first count r.turns told before.boxes after.boxes (names_of_line plan) (RefusesLine plan now) e → LeftByRuns told r before after e
    left-stopped e out held left = left-of e (record {
      texts = texts;
      parts = parts;
      plan = plan;
      is_plan = is_plan;
      out = out;
      held = held;
      boxes = subst (λ n. LeftByPlan parts (IsMadeOn plan before.held) plan.first n r.turns told before.boxes after.boxes (names_of_line plan) (RefusesLine plan before.held) e) counted
          (subst (λ h. LeftByPlan parts (IsMadeOn plan h) plan.first count r.turns told before.boxes after.boxes (names_of_line plan) (RefusesLine plan h) e) same left);
    })

    module _ (id : ProgramId) (ran : PlannedRuns) (id_is : id.bytes ≡ sha256 texts.program)
        (have : HavePlannedRun parts (IsMadeOn plan now) plan.first count r.turns told before.boxes after.boxes id ran) where
      abbrev collection_at : ProgramId → Collected
      collection_at i = record { program = i; branches = branches_of parts.sites; reports = planned_reports parts i plan.first have.runs }

      collection-is : ran.collection ≡ runs_collection texts parts plan.first have.runs
      collection-is =
          let same_id : id ≡ record { bytes = sha256 texts.program } = ap (λ b. let i : ProgramId = record { bytes = b } in i) id_is in
          let c = ran.collection in
          let first : c ≡ collection_at id = ap (λ i. collected i c.branches c.reports) have.program ∙ ap (λ b. collected id b c.reports) have.branches ∙ ap (collected id (branches_of parts.sites)) have.reports in
          first ∙ ap collection_at same_id

      listed : AreListedRuns before.held r texts parts plan have.runs
      listed = record {
        is_plan = is_plan;
        as_many = have.as_many ∙ counted;
        are = subst (λ h. ArePlannedRuns parts (IsMadeOn plan h) r.turns plan.first have.runs) same have.are;
        few = have.few;
      }

      said-is : (said : Done) → said ≡ Counted count ran.labels.failed ran.labels.succeeded ran.labels.neither → said ≡ said_of have.runs
      said-is said is = is ∙ ap (λ n. Counted n ran.labels.failed ran.labels.succeeded ran.labels.neither) (sym have.as_many) ∙ ap (λ (l : LabelCounts). Counted (length have.runs) l.failed l.succeeded l.neither) have.labels

      pub all-run : (said : Done) (text : List ℕ) → said ≡ Counted count ran.labels.failed ran.labels.succeeded ran.labels.neither → text ≡ collection_text ran.collection
          → IsCollection ran.collection → HaveAllRun told r before after said text
      all-run said text said_is text_is fits = record {
        texts = texts;
        parts = parts;
        plan = plan;
        runs = have.runs;
        are = listed;
        grew = have.grew;
        fits = subst IsCollection collection-is fits;
        text_is = text_is ∙ ap collection_text collection-is;
        said_is = said-is said said_is;
      }

  pub runs-done : (said : Done) (text : List ℕ) → HaveAllRun told r before after said text → Takes before.out after.out text → after.held ≡ before.held → RunsDone told r before after said
  runs-done said text have took held = record { out = record { text = text; is_due = have; took = took }; held = held }

  pub runs-taken : (said : Done) (text : List ℕ) → HaveAllRun told r before after said text → TakesPrefix before.out after.out text → after.held ≡ before.held → RunsTaken told r before after
  runs-taken said text have took held = record { said = said; out = record { text = text; is_due = have; took = took }; held = held }
