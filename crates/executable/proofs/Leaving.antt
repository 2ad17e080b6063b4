-- From calls to what the laws of the commands say: which runs the calls made, and which texts they left of them.
use Rattle.std.proofs.Common.{◌≡◌, ℕ, List, [], ◌∷◌, ◌++◌, Some, subst, ◌∙◌, refl}
use Rattle.cbi_options.specs.declared.words.TransformWords.{TransformWords}
use Rattle.cbi_words.specs.declared.command.Command.TheVariants.{Transform, Run, Collect, Runs}
use Rattle.command_base.specs.Limits.{text_limit}
use Rattle.command_transform.specs.Transform.{IsFileOf, IsTransformed}
use Rattle.command_run.specs.Run.{IsReported}
use Rattle.command_collect.specs.Collect.{IsCollected}
use Rattle.command_runs.specs.Runs.{HaveAllRun}
use Rattle.headline.specs.Calls.{IsLeftByRuns}
use Rattle.headline.specs.Chain.{Made}
use Rattle.headline.specs.Handed.{HoldRuns, IsLeftByCollect, IsLeftByRun}
use Rattle.headline.specs.Handed.HoldRuns.{ACollection, AReport, NoTexts}
use Rattle.headline.specs.Running.{made_of}
use Rattle.headline.proofs.ListedRanked.{have-calls}
use Rattle.executable.specs.Call.{Call, found_by_call, left_by_call}
use Rattle.executable.specs.Runs.{AllMake, AreRunsOfLines, IsRunOfCall}
use Rattle.executable.specs.Steps.{Collects, Leave, LeavesReport, RunsListed, Transforms}
use Rattle.executable.specs.Steps.Leave.{ACollect, ARun, NoCalls}
use Rattle.executable.proofs.Reading.{done-of, put-out, read-all, read-stands, read-texts}
use Rattle.executable.proofs.Telling.{as_told}

-- what `transform` put out is a file of the text
pub file-of : (words : TransformWords) (text : List ℕ) (call : Call) → Transforms words text call → IsFileOf words text call.out
file-of words text call t =
    let s = t.succeeds in
    let d = done-of (Transform words) call s in
    let is : IsTransformed (Some call.before) words call.out = put-out (IsTransformed (Some call.before) words) s.is_call.taken call.out d.1.0.out in
    subst (λ bytes. IsFileOf words bytes call.out)
    (read-all call.before words.text text is.bytes text_limit t.reads is.read is.is_file.compiled.accepted.has_tree.has_tokens.short) is.is_file

module _ (program : List ℕ) where
  -- a run, and the text that was left of it
  pub record LeftRun (call : Call) (text : List ℕ) : Type 0 where
    pub made : Made
    pub is : IsRunOfCall call made
    pub left : IsLeftByRun program made text

  run-left : (call : Call) (text : List ℕ) → LeavesReport program call text → LeftRun call text
  run-left call text r =
      let d = done-of (Run r.words) call r.succeeds in
      let is : IsReported r.words (Some call.before) (Some call.after) = d.1.0.is in
      record {
        made = made_of r.words (Some call.before) (Some call.after) is;
        is = record { asks = r.succeeds.asks; files = is.run.loaded.are_files; bank = is.run.loaded.bank_is };
        left = record {
          before = Some call.before;
          after = Some call.after;
          ran = is;
          files_are = refl;
          bank_is = refl;
          program_is = read-stands call.before r.words.program program is.files.program r.reads is.run.loaded.are_files.program_read;
          name = r.name;
          named = r.named;
          tells = refl;
          holds = r.leaves;
        };
      }

  -- the runs of a list, and the collection that was put out of them
  pub record LeftList (call : Call) : Type 0 where
    pub made : List Made
    pub are : AreRunsOfLines call made
    pub left : IsLeftByRuns program made call.out

  pub list-left : (call : Call) → RunsListed program call → LeftList call
  list-left call r =
      let s = r.succeeds in
      let d = done-of (Runs r.words) call s in
      let found = found_by_call call s.is_call.taken s.is_call.told_before in
      let left = left_by_call call s.is_call.taken s.is_call.told_after in
      let all : HaveAllRun as_told r.words found left d.0 call.out = put-out (HaveAllRun as_told r.words found left d.0) s.is_call.taken call.out d.1.out in
      let lists = all.are.is_plan in
      let same : all.texts.program ≡ program = read-stands call.before r.words.program program all.texts.program r.reads lists.are_texts.program_read in
      let calls = have-calls (Some call.before) r.words all.texts.program all.parts all.plan all.plan.first all.runs all.are.are in
      let ours : IsLeftByRuns all.texts.program calls.made call.out = record {
        held = Some call.before;
        tells = refl;
        words = r.words;
        texts = all.texts;
        parts = all.parts;
        plan = all.plan;
        runs = all.runs;
        are = all.are;
        program_is = refl;
        as_many = calls.as_many;
        calls = calls.are;
        fits = all.fits;
        text_is = all.text_is;
      } in
      record {
        made = calls.made;
        are = record {
          words = r.words;
          asks = s.asks;
          texts = all.texts;
          are_texts = lists.are_texts;
          plan = all.plan;
          lists = lists.spell.lists;
          as_many = calls.as_many ∙ all.are.as_many;
          calls = calls.are;
        };
        left = subst (λ file. IsLeftByRuns file calls.made call.out) same ours;
      }

  pub collect-left : (texts : List (List ℕ)) (call : Call) → Collects program texts call → IsLeftByCollect program texts call.out
  collect-left texts call c =
      let s = c.succeeds in
      let d = done-of (Collect c.words) call s in
      let is : IsCollected (Some call.before) c.words d.0 call.out = put-out (IsCollected (Some call.before) c.words d.0) s.is_call.taken call.out d.1.out in
      record {
        held = Some call.before;
        words = c.words;
        said = d.0;
        collected = is;
        program_is = read-stands call.before c.words.program program is.texts.program c.reads is.are_texts.program_read;
        texts_are = read-texts call.before c.words.files texts is.texts.files c.reads_texts is.are_texts.files_read;
      }

  make-both : (calls others : List Call) (made more : List Made) → AllMake calls made → AllMake others more → AllMake (calls ++ others) (made ++ more)
  make-both [] others [] more first rest = rest
  make-both [] others (one ∷ made) more first rest = absurd first
  make-both (call ∷ calls) others [] more first rest = absurd first
  make-both (call ∷ calls) others (one ∷ made) more first rest = (first.0, make-both calls others made more first.1 rest)

  -- the runs that calls made, and that the texts hold them
  pub record HeldRuns (calls : List Call) (texts : List (List ℕ)) : Type 0 where
    pub made : List Made
    pub make : AllMake calls made
    pub hold : HoldRuns program made texts

  pub held-runs : {calls : List Call} {texts : List (List ℕ)} → Leave program calls texts → HeldRuns calls texts
  held-runs NoCalls = record { made = []; make = tt; hold = NoTexts }
  held-runs (ARun {run = run} {text = text} leaves rest) =
      let one = run-left run text leaves in
      let more = held-runs rest in
      record { made = one.made ∷ more.made; make = (one.is, more.make); hold = AReport one.left more.hold }
  held-runs (ACollect {collect = collect} {inner = inner} {runs = runs} {within = within} collects leaves rest) =
      let some = held-runs leaves in
      let more = held-runs rest in
      record {
        made = some.made ++ more.made;
        make = make-both inner runs some.made more.made some.make more.make;
        hold = ACollection (collect-left within collect collects) some.hold more.hold;
      }
