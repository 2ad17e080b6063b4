-- The lines of edits are read as they are spelled.
use Rattle.std.proofs.Common.{◌≡◌, ◌≢◌, ℕ, List, [], ◌∷◌, ◌++◌, Option, None, Some, IfSome, codes, decimal, ap, sym, subst, ◌∙◌, refl, arith}
use Rattle.std.proofs.lemmas.Bool.{leb-true, le-leb}
use Rattle.std.proofs.lemmas.Option.{option_and_then_some}
use Rattle.base_lists.proofs.Tests.{some_choice}
use Rattle.base_lists.proofs.Options.{none_some, some_is}
use Rattle.cbi_base.specs.Words.{greatest_u32, fields_of, line_of_fields}
use Rattle.cbi_base.proofs.FieldLemmas.{IsField-decimal}
use Rattle.cbi_base.proofs.NumberLemmas.{same-word, number_of-decimal, number_of-spelled}
use Rattle.report_file.specs.declared.draft.Version.TheVariants.{Second}
use Rattle.report_file.specs.declared.run_line.RunLine.{RunLine}
use Rattle.report_file.specs.Fields.{label_in}
use Rattle.report_file.specs.Reading.{Reads}
use Rattle.report_file.specs.Report.{IsRun}
use Rattle.report_file.specs.RunLine.{IsRunLine, run_line_fields}
use Rattle.report_file.specs.Spelling.{label_word}
use Rattle.report_file.proofs.FieldLemmas.{alone-is, label_in-spelled, label_in-word}
use Rattle.report_file.proofs.LineLemmas.{IsRow, line-reads, row-label}
use Rattle.session_edits.specs.declared.edit.Edit.{Edit}
use Rattle.session_edits.specs.declared.edit.Edit.TheVariants.{Add, Remove, Relabel, Rank}
use Rattle.session_edits.specs.Fields.{change_in, relabel_in, run_in}
use Rattle.session_edits.specs.Spelling.{IsChange, add_fields, edit_fields}

behind-same : (a b : List ℕ) → codes "add " ++ a ≡ codes "add " ++ b → a ≡ b
behind-same a b is = cc

add-found : (line rest : List ℕ) (answer : Option RunLine) → line ≡ codes "add " ++ rest → IfSome answer (λ x. IsRunLine Second x × (rest ≡ line_of_fields (run_line_fields Second x))) → IfSome answer (λ x. IsRunLine Second x × (line ≡ line_of_fields (add_fields x)))
add-found line rest None is found = tt
add-found line rest (Some x) is found = (found.0, is ∙ ap (λ l. codes "add " ++ l) found.1)

pub add-reads : (line rest : List ℕ) (answer : Option RunLine) → line ≡ codes "add " ++ rest → Reads (run_line_fields Second) (IsRunLine Second) rest answer → Reads add_fields (IsRunLine Second) line answer
add-reads line rest answer is reads = record {
  found = add-found line rest answer is reads.found;
  only = λ x good line_is. reads.only x good (behind-same rest (line_of_fields (run_line_fields Second x)) (sym is ∙ line_is));
}

pub add-none : (line : List ℕ) → ((rest : List ℕ) → line ≢ codes "add " ++ rest) → Reads add_fields (IsRunLine Second) line None
add-none line never = record { found = tt; only = λ x good line_is. absurd (never (line_of_fields (run_line_fields Second x)) line_is) }

run-read : (run : ℕ) → IsRun run → run_in (decimal run) ≡ Some run
unfolding run_in
run-read run is = rw (number_of-decimal greatest_u32 run is.most (omega arith), le-leb 1 run is.least) refl

run-is : (field : List ℕ) (run : ℕ) → run_in field ≡ Some run → IsRun run × (field ≡ decimal run)
unfolding run_in
run-is field run h =
    option_and_then_some _ _ run h (λ n read is. some_choice _ _ _ run is (λ least same.
    let spelled = number_of-spelled greatest_u32 field n read in
    let e = some_is same in
    (subst IsRun e (record { least = leb-true 1 n least; most = spelled.1 }), spelled.0 ∙ ap decimal e)) (λ _ is. absurd (none_some is)))

row-change : (change : Edit) → IsChange change → IsRow (edit_fields change)
row-change (Add report) is = absurd is
row-change (Remove run) is = (refl, (IsField-decimal run (omega (arith, is.most)), tt))
row-change (Relabel run label) is = (refl, (IsField-decimal run (omega (arith, is.most)), ((row-label label).1.0, tt)))
row-change Rank is = absurd is

change-read : (change : Edit) → IsChange change → change_in (edit_fields change) ≡ Some change
change-read (Add report) is = absurd is
change-read (Remove run) is = rw (run-read run is) refl
change-read (Relabel run label) is = rw (run-read run is, label_in-word label) refl
change-read Rank is = absurd is

relabel-is : (run : ℕ) (rest : List (List ℕ)) (change : Edit) → IsRun run → relabel_in run rest ≡ Some change → IsChange change × (codes "relabel" ∷ decimal run ∷ rest ≡ edit_fields change)
relabel-is run [] change is h = absurd (none_some h)
relabel-is run (field ∷ rest) change is h =
    option_and_then_some _ (label_in field) change h (λ label read one.
    let a = alone-is (Relabel run label, rest) change one in
    subst (λ e. IsChange e × (codes "relabel" ∷ decimal run ∷ field ∷ rest ≡ edit_fields e)) a.0 (is, ap (λ f. codes "relabel" ∷ decimal run ∷ f ∷ rest) (label_in-spelled field label read) ∙ ap (λ r. codes "relabel" ∷ decimal run ∷ label_word label ∷ r) a.1))

change-is : (fields : List (List ℕ)) (change : Edit) → change_in fields ≡ Some change → IsChange change × (fields ≡ edit_fields change)
change-is [] change h = absurd (none_some h)
change-is (word ∷ []) change h = absurd (none_some h)
change-is (word ∷ number ∷ rest) change h =
    option_and_then_some _ (run_in number) change h (λ run read h.
    let is = run-is number run read in
    some_choice _ _ _ change h (λ test one.
    let a = alone-is (Remove run, rest) change one in
    subst (λ e. IsChange e × (word ∷ number ∷ rest ≡ edit_fields e)) a.0 (is.0, ap (λ w. w ∷ number ∷ rest) (same-word word (codes "remove") test) ∙ ap (λ n. codes "remove" ∷ n ∷ rest) is.1 ∙ ap (λ r. codes "remove" ∷ decimal run ∷ r) a.1)) (λ _ h.
    some_choice _ _ _ change h (λ test is_relabel.
    let s = relabel-is run rest change is.0 is_relabel in
    (s.0, ap (λ w. w ∷ number ∷ rest) (same-word word (codes "relabel") test) ∙ ap (λ n. codes "relabel" ∷ n ∷ rest) is.1 ∙ s.1)) (λ _ none. absurd (none_some none))))

pub change-reads : (line : List ℕ) (answer : Option Edit) → answer ≡ change_in (fields_of line) → Reads edit_fields IsChange line answer
change-reads line answer is = line-reads edit_fields IsChange change_in row-change change-read change-is line answer is
