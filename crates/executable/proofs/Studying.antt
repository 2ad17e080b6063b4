-- One call of `study`: the runs that are made for its numbers, as the text means them.
use Rattle.std.proofs.Common.{◌≡◌, ℕ, suc, List, [], ◌∷◌, length, map, None, ap, subst, ◌∙◌, refl}
use Rattle.c_syntax.specs.ItemTree.{SourceTree}
use Rattle.c_types_expressions.specs.declared.walk.Walk.{Walk}
use Rattle.countdown_bank.specs.BankFile.{bank_text}
use Rattle.countdown_bank.specs.Bank.{BankState}
use Rattle.ranking.specs.Ranked.{IsRankingOf}
use Rattle.study_runs.specs.declared.plan.StudyPlan.{StudyPlan}
use Rattle.study.specs.Study.{AreStudyRuns, StudyRun, labelled_run}
use Rattle.study.specs.Studied.{IsStudy, run_of, study_form}
use Rattle.study.specs.declared.ranked.StudyResult.{StudyResult}
use Rattle.study.proofs.Studying.{OneBank, OneInput}
use Rattle.cbi_options.specs.declared.words.StudyWords.{StudyWords}
use Rattle.cbi_words.specs.declared.command.Command.TheVariants.{Study}
use Rattle.command_base.specs.Limits.{text_limit}
use Rattle.command_study.specs.Study as study_words
use Rattle.command_study.specs.Study.{IsStudyOf, study_text}
use Rattle.headline.specs.Chain.{AreMadeFor, Made, meant_table}
use Rattle.headline.proofs.Ranking.{has-table}
use Rattle.headline.proofs.Studies.{all-made, length-runs}
use Rattle.executable.specs.Call.{Call, found_by_call, left_by_call}
use Rattle.executable.specs.Closed.{IsElimination, IsStudyOfMeantRuns}
use Rattle.executable.specs.Steps.{Studies}
use Rattle.executable.proofs.Accepting.{by-grammar}
use Rattle.executable.proofs.Reading.{done-of, put-out, read-all}
use Rattle.executable.proofs.Telling.{as_told}

-- the run of this number, on this bank and this input
abbrev made_for : StudyPlan → (number : ℕ) → BankState → (input : List ℕ) → Made
made_for plan number bank input = record {
  words = record { bank = None; input = None; expect = None; turns = plan.turns; run = number; report = None; program = [] };
  files = record { program = []; bank = bank_text bank; input = input; expect = None };
  bank = bank;
}

-- the runs that are made for runs of a study
record HaveMade (plan : StudyPlan) (number : ℕ) (runs : List StudyRun) : Type 0 where
  pub made : List Made
  pub are : AreMadeFor plan number made
  pub as_many : length made ≡ length runs

have-made : (tree : SourceTree) (known : Walk) (plan : StudyPlan) (number : ℕ) (runs : List StudyRun) → AreStudyRuns tree known plan number runs → HaveMade plan number runs
have-made tree known plan number [] are = record { made = []; are = tt; as_many = refl }
have-made tree known plan number (run ∷ runs) are =
    let rest = have-made tree known plan (suc number) runs are.1 in
    record {
      made = made_for plan number are.0.bank are.0.input ∷ rest.made;
      are = (record { run = refl; made_run = are.0.made; turns = refl; expect = refl }, rest.are);
      as_many = ap suc rest.as_many;
    }

-- what a study comes to, by the runs that are made for its numbers
study-means : OneBank → OneInput → (text out : List ℕ) (plan : StudyPlan) (result : StudyResult) → IsStudy text plan result → out ≡ study_text plan result → IsStudyOfMeantRuns text plan out
study-means one_bank one_input text out plan result study out_is =
    let tree = study.compiled.tree in
    let known = study.compiled.known in
    let have = have-made tree known plan 1 (map run_of study.endings) study.meant in
    let table = has-table text study_form tree known study.program study.compiled.names study.compiled.does in
    let runs = all-made one_bank one_input tree known plan 1 (map run_of study.endings) have.made study.meant have.are have.as_many in
    let ranked : IsElimination study_form plan.policy result.ranking.items tree known have.made =
    subst (λ rs. IsRankingOf (meant_table tree known study_form) plan.policy rs result.ranking.items) runs
    (subst (λ t. IsRankingOf t plan.policy (map (labelled_run t.sites) (map run_of study.endings)) result.ranking.items) table study.ranking) in
    record {
      tree = tree;
      known = known;
      accepted = by-grammar study.compiled.accepted;
      made = have.made;
      are_made = have.are;
      as_many = have.as_many ∙ length-runs study.endings ∙ study.as_many;
      ranking = result.ranking.items;
      is_ranking = ranked;
      sums = result.sums;
      out_is = out_is;
    }

pub studies : OneBank → OneInput → (text : List ℕ) (words : StudyWords) (study : Call) → Studies words text study → IsStudyOfMeantRuns text (study_words.plan_of words) study.out
studies one_bank one_input text words study call =
    let s = call.succeeds in
    let d = done-of (Study words) study s in
    let found = found_by_call study s.is_call.taken s.is_call.told_before in
    let left = left_by_call study s.is_call.taken s.is_call.told_after in
    let is : IsStudyOf as_told words found left study.out = put-out (IsStudyOf as_told words found left) s.is_call.taken study.out d.1.0.out in
    let whole : is.bytes ≡ text =
    read-all study.before words.text text is.bytes text_limit call.reads is.read is.studied.study.compiled.accepted.has_tree.has_tokens.short in
    subst (λ bytes. IsStudyOfMeantRuns bytes (study_words.plan_of words) study.out) whole
    (study-means one_bank one_input is.bytes study.out (study_words.plan_of words) is.result is.studied.study is.text_is)
