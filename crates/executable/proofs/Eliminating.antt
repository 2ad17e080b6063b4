-- The last call: what it put out is due of the runs that the calls before it made, as the text means them.
use Rattle.std.proofs.Common.{ℕ, List, Some, map}
use Rattle.cbi_base.specs.declared.outcome.Work.{Work}
use Rattle.c_syntax.specs.ItemTree.{SourceTree}
use Rattle.c_types_expressions.specs.declared.walk.Walk.{Walk}
use Rattle.collector.specs.declared.collection.Bundle.{Bundle}
use Rattle.session_edits.specs.Spelling.{SpellsEdits}
use Rattle.affinity.specs.Text.{AreCardsOf}
use Rattle.suspicious_lines.specs.Text.{AreLinesOf}
use Rattle.bug_rounds.specs.Text.{AreBugsOf}
use Rattle.cbi_options.specs.declared.words.TransformWords.{TransformWords}
use Rattle.cbi_options.specs.declared.words.RankWords.{RankWords}
use Rattle.cbi_options.specs.declared.words.CardsWords.{CardsWords}
use Rattle.cbi_options.specs.declared.words.PairsWords.{PairsWords}
use Rattle.cbi_options.specs.declared.words.LinesWords.{LinesWords}
use Rattle.cbi_options.specs.declared.words.BugsWords.{BugsWords}
use Rattle.cbi_options.specs.declared.words.SessionWords.{SessionWords}
use Rattle.cbi_words.specs.declared.command.Command.TheVariants.{Rank, Cards, Pairs, Lines, Bugs, Session}
use Rattle.command_transform.specs.Transform.{IsFileOf, plan_of}
use Rattle.command_collect.specs.Collect.{AreSpelled, reports_in}
use Rattle.command_rank.specs.Rank.{IsRanked}
use Rattle.command_cards.specs.Cards.{IsDealt}
use Rattle.command_pairs.specs.Pairs.{IsPaired}
use Rattle.command_lines.specs.Lines.{AreLinesListed}
use Rattle.command_bugs.specs.Bugs.{AreBugsListed}
use Rattle.command_session.specs.Session.{IsReplayed, id_of}
use Rattle.headline.specs.Chain.{Made, meant_report, meant_run, meant_table}
use Rattle.headline.specs.Handed.{IsCollectionOf, by_number}
use Rattle.headline.specs.Headline.{ASessionIsTheHeadline, BugsAreOfMeantRuns, CardsAreOfMeantRuns, IsPairOf, LinesAreOfMeantRuns, PairsAreOfMeantRuns, TheCommandsAreTheHeadline, adds_and_ranks}
use Rattle.executable.specs.Call.{Call}
use Rattle.headline.specs.Listed.{TheRankingOfRunsIsTheElimination}
use Rattle.executable.specs.Closed.{IsElimination, IsEliminationOfLines, OfMeantRuns}
use Rattle.executable.specs.Steps.{Collects, Deals, Finds, Leave, ListsBugs, ListsLines, Ranks, Replays, RunsListed, Transforms}
use Rattle.executable.proofs.Accepting.{by-grammar}
use Rattle.executable.proofs.Leaving.{HeldRuns, collect-left, file-of, held-runs, list-left}
use Rattle.executable.proofs.Reading.{done-of, put-out, read-stands}

module _ (text : List ℕ) (t : TransformWords) (runs : List Call) (texts : List (List ℕ)) (transform : Call) (transforms : Transforms t text transform) (leave : Leave transform.out runs texts) where
  abbrev file : List ℕ
  file = transform.out

  -- what holds of the runs that the texts hold holds of the runs that the calls made
  of-runs : (P : SourceTree → Walk → List Made → Type 0)
      → ((is : IsFileOf t text file) (held : HeldRuns file runs texts) → P is.compiled.tree is.compiled.known (by_number held.made)) → OfMeantRuns text runs P
  of-runs P holds =
      let is = file-of t text transform transforms in
      let held = held-runs file leave in
      record {
        tree = is.compiled.tree;
        known = is.compiled.known;
        accepted = by-grammar is.compiled.accepted;
        made = held.made;
        make = held.make;
        holds = holds is held;
      }

  pub replays : ASessionIsTheHeadline → (edits : List ℕ) (s : SessionWords) (bundles : List Bundle) (session : Call) → AreSpelled texts bundles
      → SpellsEdits (id_of file) edits (adds_and_ranks (reports_in bundles)) → Replays s file edits session → OfMeantRuns text runs (IsElimination (plan_of t) s.policy session.out)
  replays law edits s bundles session spelled spells call =
      let d = done-of (Session s) session call.succeeds in
      let done : IsReplayed (Some session.before) s session.out = put-out (IsReplayed (Some session.before) s) call.succeeds.is_call.taken session.out d.1.0.out in
      of-runs _ (λ is held. law t text file edits session.out held.made texts bundles (Some session.before) s is.compiled.tree is.compiled.known is is.compiled.accepted held.hold spelled spells done
      (read-stands session.before s.program file done.texts.program call.reads done.are_texts.program_read)
      (read-stands session.before s.edits edits done.texts.edits call.reads_edits done.are_texts.edits_read))

  module _ (collect : Call) (collects : Collects file texts collect) where
    collection-of : (held : HeldRuns file runs texts) → IsCollectionOf file held.made collect.out
    collection-of held = record { texts = texts; left = collect-left file texts collect collects; hold = held.hold }

    pub ranks : TheCommandsAreTheHeadline → (r : RankWords) (rank : Call) → Ranks r file collect.out rank → OfMeantRuns text runs (IsElimination (plan_of t) r.policy rank.out)
    ranks law r rank call =
        let d = done-of (Rank r) rank call.succeeds in
        let done : IsRanked (Some rank.before) r rank.out = put-out (IsRanked (Some rank.before) r) call.succeeds.is_call.taken rank.out d.1.0.out in
        of-runs _ (λ is held. law t text file collect.out rank.out held.made (Some rank.before) r is.compiled.tree is.compiled.known is is.compiled.accepted (collection-of held) done
        (read-stands rank.before r.program file done.texts.program call.reads done.are_texts.program_read)
        (read-stands rank.before r.collection collect.out done.texts.collection call.reads_collection done.are_texts.collection_read))

    pub deals : CardsAreOfMeantRuns → (w : CardsWords) (cards : Call) (work : Work) → Deals w file collect.out cards
        → OfMeantRuns text runs (λ tree known made. AreCardsOf (meant_table tree known (plan_of t)) (map (meant_report tree known (plan_of t) file work) made) cards.out)
    deals law w cards work call =
        let d = done-of (Cards w) cards call.succeeds in
        let done : IsDealt (Some cards.before) w cards.out = put-out (IsDealt (Some cards.before) w) call.succeeds.is_call.taken cards.out d.1.0.out in
        of-runs _ (λ is held. law t text file collect.out cards.out held.made (Some cards.before) w work is.compiled.tree is.compiled.known is is.compiled.accepted (collection-of held) done
        (read-stands cards.before w.program file done.texts.program call.reads done.are_texts.program_read)
        (read-stands cards.before w.collection collect.out done.texts.collection call.reads_collection done.are_texts.collection_read))

    pub finds : PairsAreOfMeantRuns → (w : PairsWords) (pairs : Call) → Finds w file collect.out pairs
        → OfMeantRuns text runs (λ tree known made. IsPairOf (meant_table tree known (plan_of t)) (map (meant_run tree known (plan_of t)) made) pairs.out)
    finds law w pairs call =
        let d = done-of (Pairs w) pairs call.succeeds in
        let done : IsPaired (Some pairs.before) w pairs.out = put-out (IsPaired (Some pairs.before) w) call.succeeds.is_call.taken pairs.out d.1.0.out in
        of-runs _ (λ is held. law t text file collect.out pairs.out held.made (Some pairs.before) w is.compiled.tree is.compiled.known is is.compiled.accepted (collection-of held) done
        (read-stands pairs.before w.program file done.texts.program call.reads done.are_texts.program_read)
        (read-stands pairs.before w.collection collect.out done.texts.collection call.reads_collection done.are_texts.collection_read))

    pub lists-lines : LinesAreOfMeantRuns → (w : LinesWords) (lines : Call) → ListsLines w file collect.out lines
        → OfMeantRuns text runs (λ tree known made. AreLinesOf (meant_table tree known (plan_of t)) (map (meant_run tree known (plan_of t)) made) w.most w.apart lines.out)
    lists-lines law w lines call =
        let d = done-of (Lines w) lines call.succeeds in
        let done : AreLinesListed (Some lines.before) w lines.out = put-out (AreLinesListed (Some lines.before) w) call.succeeds.is_call.taken lines.out d.1.0.out in
        of-runs _ (λ is held. law t text file collect.out lines.out held.made (Some lines.before) w is.compiled.tree is.compiled.known is is.compiled.accepted (collection-of held) done
        (read-stands lines.before w.program file done.texts.program call.reads done.are_texts.program_read)
        (read-stands lines.before w.collection collect.out done.texts.collection call.reads_collection done.are_texts.collection_read))

    pub lists-bugs : BugsAreOfMeantRuns → (w : BugsWords) (bugs : Call) (work : Work) → ListsBugs w file collect.out bugs
        → OfMeantRuns text runs (λ tree known made. AreBugsOf (meant_table tree known (plan_of t)) (map (meant_report tree known (plan_of t) file work) made) w.most w.also bugs.out)
    lists-bugs law w bugs work call =
        let d = done-of (Bugs w) bugs call.succeeds in
        let done : AreBugsListed (Some bugs.before) w bugs.out = put-out (AreBugsListed (Some bugs.before) w) call.succeeds.is_call.taken bugs.out d.1.0.out in
        of-runs _ (λ is held. law t text file collect.out bugs.out held.made (Some bugs.before) w work is.compiled.tree is.compiled.known is is.compiled.accepted (collection-of held) done
        (read-stands bugs.before w.program file done.texts.program call.reads done.are_texts.program_read)
        (read-stands bugs.before w.collection collect.out done.texts.collection call.reads_collection done.are_texts.collection_read))

-- the ranking of the runs of a list
pub ranks-lines : TheRankingOfRunsIsTheElimination → (text : List ℕ) (t : TransformWords) (r : RankWords) (transform listed rank : Call) → Transforms t text transform → RunsListed transform.out listed
    → Ranks r transform.out listed.out rank → IsEliminationOfLines text (plan_of t) r.policy listed rank.out
ranks-lines law text t r transform listed rank transforms lists call =
    let is = file-of t text transform transforms in
    let left = list-left transform.out listed lists in
    let d = done-of (Rank r) rank call.succeeds in
    let done : IsRanked (Some rank.before) r rank.out = put-out (IsRanked (Some rank.before) r) call.succeeds.is_call.taken rank.out d.1.0.out in
    record {
      tree = is.compiled.tree;
      known = is.compiled.known;
      accepted = by-grammar is.compiled.accepted;
      made = left.made;
      are = left.are;
      is_ranking = law t text transform.out listed.out rank.out left.made (Some rank.before) r is.compiled.tree is.compiled.known is is.compiled.accepted left.left done
          (read-stands rank.before r.program transform.out done.texts.program call.reads done.are_texts.program_read)
          (read-stands rank.before r.collection listed.out done.texts.collection call.reads_collection done.are_texts.collection_read);
    }
