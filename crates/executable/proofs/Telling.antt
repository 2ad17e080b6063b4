-- What was done with watchers of some type was done with lists of what each of them was told.
use Rattle.std.specs.Prelude.{slice_get}
use Rattle.std.proofs.Common.{◌≡◌, ℕ, zero, suc, List, [], ◌∷◌, ◌++◌, map, Option, Some, None, ap, sym, ◌∙◌, refl}
use Rattle.std.proofs.lemmas.List.{length-map}
use Rattle.std.proofs.lemmas.Option.{none-some, same_Some}
use Rattle.cbi_base.specs.declared.observation.Observation.{Observation}
use Rattle.cbi_words.specs.declared.command.Command.{Command}
use Rattle.cbi_words.specs.declared.command.Command.TheVariants.{Transform, Run, Bank, Collect, Rank, Study, Session, Widen, Cards, Pairs, Lines, Bugs, Runs}
use Rattle.cbi_options.specs.declared.words.RunsWords.{RunsWords}
use Rattle.cbi_options.specs.declared.words.StudyWords.{StudyWords}
use Rattle.command_base.specs.declared.done.Done.{Done}
use Rattle.command_base.specs.Outside.{Outside, Wrote, outside_state}
use Rattle.command_runs.specs.Runs.{HaveAllRun}
use Rattle.command_study.specs.Study.{IsStudyOf}
use Rattle.commands.specs.Commands.{Did}
use Rattle.probes.specs.Told.{AllGrew}

abbrev pub as_told : List Observation → List Observation
as_told told = told

module _ {B : Type 0} (told : B → List Observation) where
  -- the same, with what each watcher was told in its place
  abbrev pub told_in : Outside B → Outside (List Observation)
  told_in o = outside_state o.held o.out (map told o.boxes)

  mapped : (boxes : List B) (place : ℕ) (x : List Observation) → slice_get (map told boxes) place ≡ Some x → (b : B) × (slice_get boxes place ≡ Some b) × (told b ≡ x)
  mapped [] place x at = absurd (none-some x at)
  mapped (b ∷ boxes) zero x at = (b, refl, same_Some (told b) x at)
  mapped (b ∷ boxes) (suc place) x at = mapped boxes place x at

  grew-told : (more : List Observation) (old new : List B) → AllGrew told more old new → AllGrew as_told more (map told old) (map told new)
  grew-told more old new grew = record {
    same_length = simp length-map grew.same_length;
    each = λ place x y was stands.
        let p = mapped old place x was in
        let q = mapped new place y stands in
        sym q.2 ∙ grew.each place p.0 q.0 p.1 q.1 ∙ ap (λ seen. seen ++ more) p.2;
  }

  wrote-told : (due : List ℕ → Type 0) (before after : Outside B) → Wrote due before after → Wrote due (told_in before) (told_in after)
  wrote-told due before after wrote = record { out = wrote.out; held = wrote.held; boxes = ap (map told) wrote.boxes }

  study-told : (words : StudyWords) (before after : Outside B) (text : List ℕ) → IsStudyOf told words before after text → IsStudyOf as_told words (told_in before) (told_in after) text
  study-told words before after text s = record {
    bytes = s.bytes;
    read = s.read;
    result = s.result;
    studied = record { study = s.studied.study; grew = grew-told _ before.boxes after.boxes s.studied.grew };
    text_is = s.text_is;
  }

  runs-told : (words : RunsWords) (before after : Outside B) (said : Done) (text : List ℕ) → HaveAllRun told words before after said text → HaveAllRun as_told words (told_in before) (told_in after) said text
  runs-told words before after said text all = record {
    texts = all.texts;
    parts = all.parts;
    plan = all.plan;
    runs = all.runs;
    are = all.are;
    grew = grew-told _ before.boxes after.boxes all.grew;
    fits = all.fits;
    text_is = all.text_is;
    said_is = all.said_is;
  }

  pub did-told : (command : Option Command) (before after : Outside B) (said : Done) → Did told command before after said → Did as_told command (told_in before) (told_in after) said
  did-told None before after said did = absurd did
  did-told (Some (Transform words)) before after said did = (wrote-told _ before after did.0, did.1)
  did-told (Some (Run words)) before after said did =
      (record { is = did.0.is; took = did.0.took; grew = grew-told _ before.boxes after.boxes did.0.grew }, did.1)
  did-told (Some (Bank words)) before after said did = (wrote-told _ before after did.0, did.1)
  did-told (Some (Collect words)) before after said did = wrote-told _ before after did
  did-told (Some (Rank words)) before after said did = (wrote-told _ before after did.0, did.1)
  did-told (Some (Study words)) before after said did = (
    record {
      out = record { text = did.0.out.text; is_due = study-told words before after did.0.out.text did.0.out.is_due; took = did.0.out.took };
      held = did.0.held;
    },
    did.1,
  )
  did-told (Some (Session words)) before after said did = (wrote-told _ before after did.0, did.1)
  did-told (Some (Widen words)) before after said did = (wrote-told _ before after did.0, did.1)
  did-told (Some (Cards words)) before after said did = (wrote-told _ before after did.0, did.1)
  did-told (Some (Pairs words)) before after said did = (wrote-told _ before after did.0, did.1)
  did-told (Some (Lines words)) before after said did = (wrote-told _ before after did.0, did.1)
  did-told (Some (Bugs words)) before after said did = (wrote-told _ before after did.0, did.1)
  did-told (Some (Runs words)) before after said did = record {
    out = record { text = did.out.text; is_due = runs-told words before after said did.out.text did.out.is_due; took = did.out.took };
    held = did.held;
  }
