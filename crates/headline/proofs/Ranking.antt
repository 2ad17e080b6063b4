-- From the reports of runs to what the text means of them.
use Rattle.std.proofs.Common.{◌≡◌, ℕ, List, [], ◌∷◌, map, ap, subst, ◌∙◌, refl}
use Rattle.cbi_base.specs.declared.observation.Observation.{Observation}
use Rattle.cbi_base.specs.declared.outcome.Outcome.{Outcome}
use Rattle.cbi_base.specs.declared.policy.Policy.{Policy}
use Rattle.c_syntax.specs.ItemTree.{SourceTree}
use Rattle.c_types_expressions.specs.declared.walk.Walk.{Walk}
use Rattle.flow.specs.declared.program.ProgramParts.{ProgramParts}
use Rattle.flow.specs.declared.site.Site.{Site}
use Rattle.flow.specs.declared.site.TableParts.{TableParts}
use Rattle.flow.specs.Words.{counts_of, OneEnding, table_of, SpellsProgram}
use Rattle.defined_functions.specs.Functions.{functions_of}
use Rattle.countdown_bank.specs.Bank.{number_after}
use Rattle.report_file.specs.declared.report.Report.{Report}
use Rattle.report_file.specs.Label.{label_of}
use Rattle.report_file.specs.Report.{entries_of}
use Rattle.elimination_tallies.specs.declared.labelled.LabelledRun.{LabelledRun}
use Rattle.elimination_tallies.specs.Recount.{run_of_report, runs_of}
use Rattle.ranking.specs.Ranked.{IsRankingOf}
use Rattle.compiler.specs.Accepted.{IsAccepted}
use Rattle.compiler.specs.Compiled.{DoesPlan, IsCompiled}
use Rattle.compiler.specs.declared.plan.Plan.{Plan}
use Rattle.compiler.specs.declared.plan.Plan.TheVariants as plan
use Rattle.compiler.proofs.Refusing.{OneKnown, OneTree, moved}
use Rattle.command_run.specs.Run.{is_expected_output}
use Rattle.headline.specs.Chain.{AreReportsOf, GoesAsMeant, IsReportOf, Made, looked_at, meant_behaviour, meant_run, meant_sites, meant_table}
use Rattle.headline.proofs.Chaining.{OneProgram, bank-positive, runs-as-meant}

-- a run as a ranking sees it, by how it ends, what it writes and what is seen at which sites
abbrev run-of : Made → Outcome → (output : List ℕ) → List Site → List Observation → LabelledRun
run-of made outcome output sites seen = record { label = label_of outcome (is_expected_output made.files.expect output); entries = entries_of (counts_of sites seen) }

-- the sites of a plan are those of its program
has-sites : (by : Plan) (tree : SourceTree) (known : Walk) (p : ProgramParts) → DoesPlan by tree known p → p.sites ≡ meant_sites tree known by
has-sites plan.Plain tree known p does = does.sites
has-sites (plan.Full schemes part) tree known p does = does.sites
has-sites (plan.Sampled schemes part) tree known p does = does.sites

-- so is its table
is-table : (t : TableParts) (functions : List (List ℕ)) (sites : List Site) → t.functions ≡ functions → t.sites ≡ sites → t ≡ record { sites = sites; functions = functions }
is-table t functions sites same_functions same_sites =
    ap (λ names. record t { functions = names }) same_functions ∙ ap (λ others. record { sites = others; functions = functions }) same_sites

pub has-table : (text : List ℕ) (by : Plan) (tree : SourceTree) (known : Walk) (p : ProgramParts) → (table_of p).functions ≡ functions_of tree → DoesPlan by tree known p → table_of p ≡ meant_table tree known by
has-table text by tree known p names does = is-table (table_of p) (functions_of tree) (meant_sites tree known by) names (has-sites by tree known p does)

-- a run that goes as the text means it
as-meant : (made : Made) (tree : SourceTree) (known : Walk) (by : Plan) (p : ProgramParts) (outcome : Outcome) (output : List ℕ) (seen : List Observation)
    → p.sites ≡ meant_sites tree known by → outcome ≡ (meant_behaviour tree known by made.files.input made.words.turns).outcome → output ≡ (meant_behaviour tree known by made.files.input made.words.turns).output
    → seen ≡ looked_at by (number_after made.bank) (meant_behaviour tree known by made.files.input made.words.turns).seen → run-of made outcome output p.sites seen ≡ meant_run tree known by made
as-meant made tree known by p outcome output seen sites_are outcome_is output_is seen_is =
    ap (λ o. run-of made o output p.sites seen) outcome_is
    ∙ ap (λ w. run-of made (meant_behaviour tree known by made.files.input made.words.turns).outcome w p.sites seen) output_is
    ∙ ap (λ t. run-of made (meant_behaviour tree known by made.files.input made.words.turns).outcome (meant_behaviour tree known by made.files.input made.words.turns).output t seen) sites_are
    ∙ ap (λ v. run-of made (meant_behaviour tree known by made.files.input made.words.turns).outcome (meant_behaviour tree known by made.files.input made.words.turns).output (meant_sites tree known by) v) seen_is

module _ (one_ending : OneEnding) (one_program : OneProgram) (one_tree : OneTree) (one_known : OneKnown) (text file : List ℕ) (by : Plan) (p : ProgramParts) (compiled : IsCompiled text by p) (spells : SpellsProgram file p)
    (tree : SourceTree) (known : Walk) (accepted : IsAccepted text tree known) where
  -- the run of a report goes as the text means it
  pub run-goes : (made : Made) (report : Report) (is : IsReportOf file made report) → GoesAsMeant tree known by made.files.input (number_after made.bank) made.words.turns is.parts is.ending
  run-goes made report is =
      let same : p ≡ is.parts = one_program file p is.parts spells (subst (λ bytes. SpellsProgram bytes is.parts) is.program_is is.spells) in
      let runs = runs-as-meant one_ending made.files.input (number_after made.bank) made.words.turns one_tree one_known text by is.parts is.ending
      (subst (IsCompiled text by) same compiled) (bank-positive made.bank is.bank_is.numbers) is.ends in
      runs.only tree known accepted

  pub run-means : (made : Made) (report : Report) → IsReportOf file made report → run_of_report report ≡ meant_run tree known by made
  run-means made report is =
      let goes = run-goes made report is in
      ap run_of_report is.report_is
      ∙ as-meant made tree known by is.parts is.ending.outcome is.ending.output is.ending.seen goes.sites goes.goes.outcome goes.goes.output goes.goes.seen_is

  pub runs-mean : (made : List Made) (reports : List Report) → AreReportsOf file made reports → runs_of reports ≡ map (meant_run tree known by) made
  runs-mean [] [] are = refl
  runs-mean [] (report ∷ reports) are = absurd are
  runs-mean (one ∷ made) [] are = absurd are
  runs-mean (one ∷ made) (report ∷ reports) are =
      ap (λ run. run ∷ runs_of reports) (run-means one report are.0) ∙ ap (λ runs. meant_run tree known by one ∷ runs) (runs-mean made reports are.1)

  -- the table of each program that the file spells is that of the text
  pub table-means : (q : ProgramParts) → SpellsProgram file q → table_of q ≡ meant_table tree known by
  table-means q also =
      let same : p ≡ q = one_program file p q spells also in
      let whole = moved one_tree one_known text (λ t w. ((table_of q).functions ≡ functions_of t) × DoesPlan by t w q) compiled.tree tree compiled.known known compiled.accepted accepted
      (subst (λ x. ((table_of x).functions ≡ functions_of compiled.tree) × DoesPlan by compiled.tree compiled.known x) same (compiled.names, compiled.does)) in
      has-table text by tree known q whole.0 whole.1

  pub ranks-meaning : (made : List Made) (reports : List Report) (policy : Policy) (q : ProgramParts) (ranking : List ℕ) → SpellsProgram file q → AreReportsOf file made reports
      → IsRankingOf (table_of q) policy (runs_of reports) ranking → IsRankingOf (meant_table tree known by) policy (map (meant_run tree known by) made) ranking
  ranks-meaning made reports policy q ranking also are ranked =
      subst (λ t. IsRankingOf t policy (map (meant_run tree known by) made) ranking) (table-means q also)
      (subst (λ runs. IsRankingOf (table_of q) policy runs ranking) (runs-mean made reports are) ranked)
