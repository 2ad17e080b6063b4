-- From the calls of a farm's machines to what the law of farms says.
use Rattle.std.proofs.Common.{ℕ, List, [], ◌∷◌, ◌++◌, Some, sym, subst, refl}
use Rattle.std.proofs.lemmas.List.{append_assoc}
use Rattle.cbi_options.specs.declared.words.RankWords.{RankWords}
use Rattle.cbi_options.specs.declared.words.TransformWords.{TransformWords}
use Rattle.cbi_words.specs.declared.command.Command.TheVariants.{Rank, Widen}
use Rattle.command_rank.specs.Rank.{IsRanked}
use Rattle.command_transform.specs.Transform.{plan_of}
use Rattle.command_widen.specs.Widen.{IsWidened}
use Rattle.headline.specs.Chain.{Made}
use Rattle.headline.specs.Farm.{AFarmIsTheElimination, HoldParts, IsLeftByWiden, PartRun, part_runs}
use Rattle.headline.specs.Farm.HoldParts.{APart, NoParts, SomeParts}
use Rattle.headline.specs.Handed.{by_number}
use Rattle.executable.specs.Call.{Call}
use Rattle.executable.specs.Runs.{AllMake}
use Rattle.executable.specs.Shares.{AreRunsOfMachines, AreWidened, IsFarmOfMeantRuns, Machine, WidensRuns}
use Rattle.executable.specs.Shares.AreRunsOfMachines.{MoreRuns, NoRuns}
use Rattle.executable.specs.Shares.AreWidened.{AMachine, NoMachines, SomeMachines}
use Rattle.executable.specs.Steps.{Collects, Ranks, Transforms}
use Rattle.executable.proofs.Accepting.{by-grammar}
use Rattle.executable.proofs.Leaving.{collect-left, file-of, held-runs}
use Rattle.executable.proofs.Reading.{done-of, put-out, read-stands}

both-runs : (others : List Machine) (rest : List PartRun) → {machines : List Machine} {runs : List PartRun} → AreRunsOfMachines machines runs → AreRunsOfMachines others rest
    → AreRunsOfMachines (machines ++ others) (runs ++ rest)
both-runs others rest NoRuns are = are
both-runs others rest (MoreRuns {machine = machine} {machines = machines} {first = first} {more = more} of_one of_more) are =
    subst (AreRunsOfMachines (machine ∷ (machines ++ others))) (sym (append_assoc first more rest)) (MoreRuns of_one (both-runs others rest of_more are))

module _ (text whole : List ℕ) where
  -- the runs of a machine, and what `widen` put out of them
  record LeftMachine (machine : Machine) (widened : List ℕ) : Type 0 where
    pub made : List Made
    pub make : AllMake machine.runs made
    pub left : IsLeftByWiden text whole machine.words machine.share made widened

  machine-left : (machine : Machine) (widened : List ℕ) → WidensRuns text whole machine widened → LeftMachine machine widened
  machine-left machine widened w =
      let held = held-runs w.transform.out w.leave in
      let call = w.widens in
      let d = done-of (Widen w.asked) w.widen call.succeeds in
      let is : IsWidened (Some w.widen.before) w.asked w.widen.out = put-out (IsWidened (Some w.widen.before) w.asked) call.succeeds.is_call.taken w.widen.out d.1.0.out in
      let ours : IsLeftByWiden text whole machine.words machine.share held.made w.widen.out = record {
        file = w.transform.out;
        is_file = file-of machine.words text w.transform w.transforms;
        collection = w.collect.out;
        is_collection = record { texts = w.texts; left = collect-left w.transform.out w.texts w.collect w.collects; hold = held.hold };
        held = Some w.widen.before;
        asked = w.asked;
        share_is = w.share_is;
        fits = w.fits;
        widened = is;
        whole_is = read-stands w.widen.before w.asked.whole whole is.texts.whole call.reads_whole is.are_texts.whole_read;
        program_is = read-stands w.widen.before w.asked.program w.transform.out is.texts.runs.program call.reads is.are_texts.runs_read.program_read;
        collection_is = read-stands w.widen.before w.asked.collection w.collect.out is.texts.runs.collection call.reads_collection is.are_texts.runs_read.collection_read;
      } in
      record { made = held.made; make = held.make; left = subst (IsLeftByWiden text whole machine.words machine.share held.made) w.out_is ours }

  -- the runs of machines, and that the texts hold them
  record HeldFarm (machines : List Machine) (texts : List (List ℕ)) : Type 0 where
    pub runs : List PartRun
    pub are : AreRunsOfMachines machines runs
    pub hold : HoldParts text whole runs texts

  held-farm : {machines : List Machine} {texts : List (List ℕ)} → AreWidened text whole machines texts → HeldFarm machines texts
  held-farm NoMachines = record { runs = []; are = NoRuns; hold = NoParts }
  held-farm (AMachine {machine = machine} {widened = widened} w rest) =
      let one = machine-left machine widened w in
      let more = held-farm rest in
      record {
        runs = part_runs machine.words machine.share (by_number one.made) ++ more.runs;
        are = MoreRuns (record { made = one.made; make = one.make; runs_are = refl }) more.are;
        hold = APart one.left more.hold;
      }
  held-farm (SomeMachines {machines = machines} {collect = collect} {within = within} collects inside rest) =
      let some = held-farm inside in
      let more = held-farm rest in
      record {
        runs = some.runs ++ more.runs;
        are = both-runs machines more.runs some.are more.are;
        hold = SomeParts (collect-left whole within collect collects) some.hold more.hold;
      }

pub farms : AFarmIsTheElimination → (text : List ℕ) (t : TransformWords) (r : RankWords) (machines : List Machine) (texts : List (List ℕ)) (transform collect rank : Call) → Transforms t text transform
    → AreWidened text transform.out machines texts → Collects transform.out texts collect → Ranks r transform.out collect.out rank → IsFarmOfMeantRuns text (plan_of t) r.policy machines rank.out
farms law text t r machines texts transform collect rank transforms widened collects call =
    let is = file-of t text transform transforms in
    let held = held-farm text transform.out widened in
    let d = done-of (Rank r) rank call.succeeds in
    let done : IsRanked (Some rank.before) r rank.out = put-out (IsRanked (Some rank.before) r) call.succeeds.is_call.taken rank.out d.1.0.out in
    record {
      tree = is.compiled.tree;
      known = is.compiled.known;
      accepted = by-grammar is.compiled.accepted;
      runs = held.runs;
      are = held.are;
      is_ranking = law t text transform.out collect.out rank.out held.runs texts (Some rank.before) r is.compiled.tree is.compiled.known is is.compiled.accepted held.hold
          (collect-left transform.out texts collect collects) done
          (read-stands rank.before r.program transform.out done.texts.program call.reads done.are_texts.program_read)
          (read-stands rank.before r.collection collect.out done.texts.collection call.reads_collection done.are_texts.collection_read);
    }
