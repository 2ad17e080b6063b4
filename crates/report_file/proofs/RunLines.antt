-- The line of a run in a collection is read as it is spelled.
use Rattle.std.proofs.Common.{◌≡◌, ℕ, true, List, [], ◌∷◌, ◌++◌, Option, Some, ap, sym, subst, ◌∙◌, refl, append_assoc}
use Rattle.std.specs.List.{AllByRecursion}
use Rattle.std.proofs.lemmas.List.{append-nil}
use Rattle.std.proofs.lemmas.Option.{option_and_then_some}
use Rattle.cbi_base.specs.Text.{IsField, line_with_newline, fields_of, line_of_fields}
use Rattle.cbi_base.specs.declared.outcome.Outcome.{Outcome}
use Rattle.cbi_base.specs.declared.outcome.Outcome.TheVariants.{Ended, Trapped, CutTurns, CutOutput}
use Rattle.cbi_base.specs.declared.outcome.Work.{Work}
use Rattle.report_file.specs.declared.label.Label.{Label}
use Rattle.report_file.specs.declared.draft.Version.{Version}
use Rattle.report_file.specs.declared.draft.Version.TheVariants.{First, Second}
use Rattle.report_file.specs.declared.run_line.RunLine.{RunLine}
use Rattle.report_file.specs.Fields.{label_at, outcome_at, run_at, work_at}
use Rattle.report_file.specs.Label.{label_of}
use Rattle.report_file.specs.Reading.{Reads}
use Rattle.report_file.specs.Report.{IsOutcome, IsWork}
use Rattle.report_file.specs.RunLine.{IsRunLine, first_run_line, run_line_fields, second_of}
use Rattle.report_file.specs.Spelling.{label_fields, outcome_fields, run_fields, work_fields}
use Rattle.report_file.proofs.FieldLemmas.{alone-is, label-spelled, label-taken, outcome-spelled, outcome_of-fields, run-spelled, run-taken, work-spelled, work-taken}
use Rattle.report_file.proofs.LineLemmas.{IsRow, line-reads, row-label, row-outcome, row-run, row-work}

fields-append : (a b : List (List ℕ)) → AllByRecursion IsField a → AllByRecursion IsField b → AllByRecursion IsField (a ++ b)
fields-append [] b all more = more
fields-append (x ∷ xs) b all more = (all.0, fields-append xs b all.1 more)

fields-outcome : (outcome : Outcome) → IsOutcome outcome → AllByRecursion IsField (outcome_fields outcome)
fields-outcome (Ended status) is = (row-outcome (Ended status) is).1
fields-outcome (Trapped t) is = (row-outcome (Trapped t) is).1
fields-outcome CutTurns is = (refl, (refl, tt))
fields-outcome CutOutput is = (refl, (refl, tt))

fields-label : (label : Label) → AllByRecursion IsField (label_fields label)
fields-label label = ((row-label label).0, (row-label label).1)

fields-work : (w : Work) → IsWork w → AllByRecursion IsField (work_fields w)
fields-work w is = ((row-work w is).0, (row-work w is).1)

pub run-row : (version : Version) (x : RunLine) → IsRunLine version x → IsRow (run_line_fields version x)
run-row First x is =
    let run = row-run x.run is.run in
    (run.0, (run.1.0, fields-append (outcome_fields x.outcome) (work_fields x.work) (fields-outcome x.outcome is.outcome) (fields-work x.work is.work)))
run-row Second x is =
    let run = row-run x.run is.run in
    (run.0, (run.1.0, fields-append (outcome_fields x.outcome) (label_fields x.label ++ work_fields x.work) (fields-outcome x.outcome is.outcome) (fields-append (label_fields x.label) (work_fields x.work) (fields-label x.label) (fields-work x.work is.work))))

first-read : (x : RunLine) → IsRunLine First x → first_run_line (run_line_fields First x) ≡ Some x
first-read x is =
    let run = run-taken x.run (outcome_fields x.outcome ++ work_fields x.work) is.run in
    let outcome = outcome_of-fields x.outcome (work_fields x.work) is.outcome in
    let work = work-taken x.work [] is.work in
    rw (run, outcome, work) (ap (λ (l : Label). Some (let y : RunLine = record { run = x.run; outcome = x.outcome; label = l; work = x.work } in y)) (sym (is.label refl)))

second-read : (x : RunLine) → IsRunLine Second x → second_of (run_line_fields Second x) ≡ Some x
second-read x is =
    let run = run-taken x.run (outcome_fields x.outcome ++ (label_fields x.label ++ work_fields x.work)) is.run in
    let outcome = outcome_of-fields x.outcome (label_fields x.label ++ work_fields x.work) is.outcome in
    let label = label-taken x.label (work_fields x.work) in
    let work = work-taken x.work [] is.work in
    rw (run, outcome, label, work) refl

pub second-not-first : Second ≡ First → ⊥
second-not-first e = cc

first-spelled : (fields : List (List ℕ)) (x : RunLine) → first_run_line fields ≡ Some x → IsRunLine First x × (fields ≡ run_line_fields First x)
first-spelled fields x h =
    option_and_then_some _ (run_at fields) x h (λ (run : ℕ × List (List ℕ)) taken_run h. option_and_then_some _ (outcome_at run.1) x h (λ (outcome : Outcome × List (List ℕ)) taken_outcome h. option_and_then_some _ (work_at outcome.1) x h (λ (work : Work × List (List ℕ)) taken_work one.
    let r = run-spelled fields run.1 run.0 taken_run in
    let o = outcome-spelled run.1 outcome.1 outcome.0 taken_outcome in
    let w = work-spelled outcome.1 work.1 work.0 taken_work in
    let y : RunLine = record { run = run.0; outcome = outcome.0; label = label_of outcome.0 true; work = work.0 } in
    let a = alone-is (y, work.1) x one in
    let f : fields ≡ run_line_fields First y =
    r.1 ∙ ap (λ rest. run_fields run.0 ++ rest) (o.1 ∙ ap (λ rest. outcome_fields outcome.0 ++ rest) (w.1 ∙ ap (λ rest. work_fields work.0 ++ rest) a.1 ∙ append-nil (work_fields work.0))) in
    subst (λ z. IsRunLine First z × (fields ≡ run_line_fields First z)) a.0 (record { run = r.0; outcome = o.0; work = w.0; label = λ _. refl }, f))))

second-spelled : (fields : List (List ℕ)) (x : RunLine) → second_of fields ≡ Some x → IsRunLine Second x × (fields ≡ run_line_fields Second x)
second-spelled fields x h =
    option_and_then_some _ (run_at fields) x h (λ (run : ℕ × List (List ℕ)) taken_run h. option_and_then_some _ (outcome_at run.1) x h (λ (outcome : Outcome × List (List ℕ)) taken_outcome h. option_and_then_some _ (label_at outcome.1) x h (λ (label : Label × List (List ℕ)) taken_label h. option_and_then_some _ (work_at label.1) x h (λ (work : Work × List (List ℕ)) taken_work one.
    let r = run-spelled fields run.1 run.0 taken_run in
    let o = outcome-spelled run.1 outcome.1 outcome.0 taken_outcome in
    let l = label-spelled outcome.1 label.1 label.0 taken_label in
    let w = work-spelled label.1 work.1 work.0 taken_work in
    let y : RunLine = record { run = run.0; outcome = outcome.0; label = label.0; work = work.0 } in
    let a = alone-is (y, work.1) x one in
    let f : fields ≡ run_line_fields Second y =
    r.1 ∙ ap (λ rest. run_fields run.0 ++ rest) (o.1 ∙ ap (λ rest. outcome_fields outcome.0 ++ rest) (l ∙ ap (λ rest. label_fields label.0 ++ rest) (w.1 ∙ ap (λ rest. work_fields work.0 ++ rest) a.1 ∙ append-nil (work_fields work.0)))) in
    subst (λ z. IsRunLine Second z × (fields ≡ run_line_fields Second z)) a.0 (record { run = r.0; outcome = o.0; work = w.0; label = λ e. absurd (second-not-first e) }, f)))))

pub first-reads : (line : List ℕ) (answer : Option RunLine) → answer ≡ first_run_line (fields_of line) → Reads (run_line_fields First) (IsRunLine First) line answer
first-reads line answer is = line-reads (run_line_fields First) (IsRunLine First) first_run_line (run-row First) first-read first-spelled line answer is

pub second-reads : (line : List ℕ) (answer : Option RunLine) → answer ≡ second_of (fields_of line) → Reads (run_line_fields Second) (IsRunLine Second) line answer
second-reads line answer is = line-reads (run_line_fields Second) (IsRunLine Second) second_of (run-row Second) second-read second-spelled line answer is

-- the parts of the line, with spaces between
run-spaced : (run : ℕ) (outcome : Outcome) (label : Label) (work : Work) → line_of_fields (run_fields run ++ (outcome_fields outcome ++ (label_fields label ++ work_fields work))) ≡ line_of_fields (run_fields run) ++ (32 ∷ (line_of_fields (outcome_fields outcome) ++ (32 ∷ (line_of_fields (label_fields label) ++ (32 ∷ line_of_fields (work_fields work))))))
run-spaced run (Ended status) label work = refl
run-spaced run (Trapped trap) label work = refl
run-spaced run CutTurns label work = refl
run-spaced run CutOutput label work = refl

apart : (out r o l w : List ℕ) → (((((((out ++ r) ++ 32 ∷ []) ++ o) ++ 32 ∷ []) ++ l) ++ 32 ∷ []) ++ w) ++ 10 ∷ [] ≡ out ++ ((r ++ (32 ∷ (o ++ (32 ∷ (l ++ (32 ∷ w)))))) ++ 10 ∷ [])
apart out r o l w = simp append_assoc

pub run-joined : (x : RunLine) (out a b c d e f g h : List ℕ) → a ≡ out ++ line_of_fields (run_fields x.run) → b ≡ a ++ 32 ∷ [] → c ≡ b ++ line_of_fields (outcome_fields x.outcome) → d ≡ c ++ 32 ∷ [] → e ≡ d ++ line_of_fields (label_fields x.label) → f ≡ e ++ 32 ∷ [] → g ≡ f ++ line_of_fields (work_fields x.work) → h ≡ g ++ 10 ∷ [] → h ≡ out ++ line_with_newline (line_of_fields (run_line_fields Second x))
run-joined x out a b c d e f g h is_a is_b is_c is_d is_e is_f is_g is_h =
    let r = line_of_fields (run_fields x.run) in
    let o = line_of_fields (outcome_fields x.outcome) in
    let l = line_of_fields (label_fields x.label) in
    let w = line_of_fields (work_fields x.work) in
    let whole : h ≡ (((((((out ++ r) ++ 32 ∷ []) ++ o) ++ 32 ∷ []) ++ l) ++ 32 ∷ []) ++ w) ++ 10 ∷ [] = cc in
    whole ∙ apart out r o l w ∙ ap (λ line. out ++ (line ++ 10 ∷ [])) (sym (run-spaced x.run x.outcome x.label x.work))
