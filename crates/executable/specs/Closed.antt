-- The headline over calls of the executable: what is put out at the end, by words, files, outs and statuses alone.
use Rattle.std.specs.Prelude.{◌≡◌, ℕ, List, ◌++◌, length, map}
use Rattle.cbi_base.specs.declared.outcome.Work.{Work}
use Rattle.cbi_base.specs.declared.policy.Policy.{Policy}
use Rattle.c_syntax.specs.ItemTree.{SourceTree}
use Rattle.c_types_expressions.specs.declared.walk.Walk.{Walk}
use Rattle.collector.specs.declared.collection.Bundle.{Bundle}
use Rattle.session_edits.specs.Spelling.{SpellsEdits}
use Rattle.ranking.specs.Ranked.{IsRankingOf}
use Rattle.affinity.specs.Text.{AreCardsOf}
use Rattle.suspicious_lines.specs.Text.{AreLinesOf}
use Rattle.bug_rounds.specs.Text.{AreBugsOf}
use Rattle.compiler.specs.declared.plan.Plan.{Plan}
use Rattle.study_runs.specs.declared.plan.StudyPlan.{StudyPlan}
use Rattle.study_runs.specs.Sums.{Sums}
use Rattle.study.specs.Studied.{study_form}
use Rattle.cbi_options.specs.declared.words.TransformWords.{TransformWords}
use Rattle.cbi_options.specs.declared.words.RankWords.{RankWords}
use Rattle.cbi_options.specs.declared.words.CardsWords.{CardsWords}
use Rattle.cbi_options.specs.declared.words.PairsWords.{PairsWords}
use Rattle.cbi_options.specs.declared.words.LinesWords.{LinesWords}
use Rattle.cbi_options.specs.declared.words.BugsWords.{BugsWords}
use Rattle.cbi_options.specs.declared.words.SessionWords.{SessionWords}
use Rattle.cbi_options.specs.declared.words.StudyWords.{StudyWords}
use Rattle.command_transform.specs.Transform.{plan_of}
use Rattle.command_collect.specs.Collect.{AreSpelled, reports_in}
use Rattle.command_session.specs.Session.{id_of}
use Rattle.command_study.specs.Study as study_words
use Rattle.command_study.specs.Study.{summary_line}
use Rattle.headline.specs.Chain.{AreMadeFor, Made, meant_report, meant_run, meant_table}
use Rattle.headline.specs.Handed.{by_number}
use Rattle.headline.specs.Headline.{IsPairOf, adds_and_ranks}
use Rattle.executable.specs.Accepted.{IsAcceptedText}
use Rattle.executable.specs.Call.{Call}
use Rattle.executable.specs.Runs.{AllMake, AreRunsOfLines}
use Rattle.executable.specs.Steps.{Collects, Deals, Finds, Leave, ListsBugs, ListsLines, Ranks, Replays, RunsListed, Studies, Transforms}

-- The text is accepted, the calls made these runs, and of them, each number once, as the text means them, this holds.
pub record OfMeantRuns (text : List ℕ) (calls : List Call) (P : SourceTree → Walk → List Made → Type 0) : Type 0 where
  pub tree : SourceTree
  pub known : Walk
  pub accepted : IsAcceptedText text tree known
  pub made : List Made
  pub make : AllMake calls made
  pub holds : P tree known (by_number made)

-- this is the ranking text of the elimination of the runs, under this policy
abbrev pub IsElimination : Plan → Policy → (ranking : List ℕ) → SourceTree → Walk → List Made → Type 0
IsElimination plan policy ranking tree known made = IsRankingOf (meant_table tree known plan) policy (map (meant_run tree known plan) made) ranking

-- C text, PROG, reports, COLL, ranking: what the last call put out is the ranking text of the elimination of the runs that the calls between made.
abbrev pub TheExecutableIsTheHeadline : Type 0
TheExecutableIsTheHeadline =
    (text : List ℕ) (t : TransformWords) (r : RankWords) (runs : List Call) (texts : List (List ℕ)) (transform collect rank : Call) →
    Transforms t text transform → Leave transform.out runs texts → Collects transform.out texts collect → Ranks r transform.out collect.out rank →
    OfMeantRuns text runs (IsElimination (plan_of t) r.policy rank.out)

-- So with `cards` in place of `rank`: no card depends on a run's work.
abbrev pub TheCardsOfCallsAreOfMeantRuns : Type 0
TheCardsOfCallsAreOfMeantRuns =
    (text : List ℕ) (t : TransformWords) (w : CardsWords) (runs : List Call) (texts : List (List ℕ)) (transform collect cards : Call) (work : Work) →
    Transforms t text transform → Leave transform.out runs texts → Collects transform.out texts collect → Deals w transform.out collect.out cards →
    OfMeantRuns text runs (λ tree known made.
    AreCardsOf (meant_table tree known (plan_of t)) (map (meant_report tree known (plan_of t) transform.out work) made) cards.out)

-- So with `pairs`.
abbrev pub ThePairsOfCallsAreOfMeantRuns : Type 0
ThePairsOfCallsAreOfMeantRuns =
    (text : List ℕ) (t : TransformWords) (w : PairsWords) (runs : List Call) (texts : List (List ℕ)) (transform collect pairs : Call) →
    Transforms t text transform → Leave transform.out runs texts → Collects transform.out texts collect → Finds w transform.out collect.out pairs →
    OfMeantRuns text runs (λ tree known made. IsPairOf (meant_table tree known (plan_of t)) (map (meant_run tree known (plan_of t)) made) pairs.out)

-- So with `lines`.
abbrev pub TheLinesOfCallsAreOfMeantRuns : Type 0
TheLinesOfCallsAreOfMeantRuns =
    (text : List ℕ) (t : TransformWords) (w : LinesWords) (runs : List Call) (texts : List (List ℕ)) (transform collect lines : Call) →
    Transforms t text transform → Leave transform.out runs texts → Collects transform.out texts collect → ListsLines w transform.out collect.out lines →
    OfMeantRuns text runs (λ tree known made.
    AreLinesOf (meant_table tree known (plan_of t)) (map (meant_run tree known (plan_of t)) made) w.most w.apart lines.out)

-- So with `bugs`: no bug depends on a run's work.
abbrev pub TheBugsOfCallsAreOfMeantRuns : Type 0
TheBugsOfCallsAreOfMeantRuns =
    (text : List ℕ) (t : TransformWords) (w : BugsWords) (runs : List Call) (texts : List (List ℕ)) (transform collect bugs : Call) (work : Work) →
    Transforms t text transform → Leave transform.out runs texts → Collects transform.out texts collect → ListsBugs w transform.out collect.out bugs →
    OfMeantRuns text runs (λ tree known made.
    AreBugsOf (meant_table tree known (plan_of t)) (map (meant_report tree known (plan_of t) transform.out work) made) w.most w.also bugs.out)

-- So with `session` in place of `collect` and `rank`, where its edits add the reports of the texts, one text after another, and then ask for a ranking.
abbrev pub ASessionOfCallsIsTheHeadline : Type 0
ASessionOfCallsIsTheHeadline =
    (text edits : List ℕ) (t : TransformWords) (s : SessionWords) (runs : List Call) (texts : List (List ℕ)) (bundles : List Bundle)
    (transform session : Call) →
    Transforms t text transform → Leave transform.out runs texts → AreSpelled texts bundles →
    SpellsEdits (id_of transform.out) edits (adds_and_ranks (reports_in bundles)) → Replays s transform.out edits session →
    OfMeantRuns text runs (IsElimination (plan_of t) s.policy session.out)

-- The text is accepted, `runs` made these runs, and this is the ranking text of the elimination of them, line by line, as the text means them.
pub record IsEliminationOfLines (text : List ℕ) (plan : Plan) (policy : Policy) (listed : Call) (ranking : List ℕ) : Type 0 where
  pub tree : SourceTree
  pub known : Walk
  pub accepted : IsAcceptedText text tree known
  pub made : List Made
  pub are : AreRunsOfLines listed made
  pub is_ranking : IsElimination plan policy ranking tree known made

-- So with one call of `runs` in place of the calls of `run` and `collect`.
abbrev pub TheRunsOfAListAreTheHeadline : Type 0
TheRunsOfAListAreTheHeadline =
    (text : List ℕ) (t : TransformWords) (r : RankWords) (transform listed rank : Call) →
    Transforms t text transform → RunsListed transform.out listed → Ranks r transform.out listed.out rank →
    IsEliminationOfLines text (plan_of t) r.policy listed rank.out

-- What one call of `study` put out: the ranking text of the elimination of the runs that are made for its numbers, as the text means them, sampled with all
-- schemes, and a line that sums them up.
pub record IsStudyOfMeantRuns (text : List ℕ) (plan : StudyPlan) (out : List ℕ) : Type 0 where
  pub tree : SourceTree
  pub known : Walk
  pub accepted : IsAcceptedText text tree known
  pub made : List Made
  pub are_made : AreMadeFor plan 1 made
  pub as_many : length made ≡ plan.runs
  pub ranking : List ℕ
  pub is_ranking : IsElimination study_form plan.policy ranking tree known made
  pub sums : Sums
  pub out_is : out ≡ ranking ++ summary_line plan.runs sums

abbrev pub AStudyIsTheHeadline : Type 0
AStudyIsTheHeadline =
    (text : List ℕ) (words : StudyWords) (study : Call) → Studies words text study →
    IsStudyOfMeantRuns text (study_words.plan_of words) study.out
