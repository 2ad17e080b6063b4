-- Lines are read as they are spelled.
use Rattle.std.proofs.Common.{◌≡◌, ℕ, true, List, [], ◌∷◌, ◌++◌, Option, None, Some, IfSome, IsSome, codes, ap, sym, subst, ◌∙◌, refl, arith}
use Rattle.std.specs.List.{list_all, AllByRecursion}
use Rattle.std.proofs.lemmas.Bool.Decides.{nat_tests}
use Rattle.std.proofs.lemmas.List.{append-nil}
use Rattle.std.proofs.lemmas.List.Splits.{join_with_byte-slice_split}
use Rattle.std.proofs.lemmas.Bool.{and_parts}
use Rattle.std.proofs.lemmas.Option.{option_and_then_some}
use Rattle.base_lists.proofs.Tests.{some_choice}
use Rattle.base_lists.proofs.Options.{none_some, some_is}
use Rattle.cbi_base.specs.Numbers.{◌>>=◌}
use Rattle.cbi_base.specs.Words.{IsId, IsIdText, is_lower_digit, text_of_id, IsField, is_field_byte, fields_of, line_of_fields, trap_number}
use Rattle.cbi_base.specs.declared.identity.ProgramId.{ProgramId}
use Rattle.cbi_base.specs.declared.outcome.Outcome.{Outcome}
use Rattle.cbi_base.specs.declared.outcome.Outcome.TheVariants.{Ended, Trapped, CutTurns, CutOutput}
use Rattle.cbi_base.specs.declared.outcome.Work.{Work}
use Rattle.cbi_base.proofs.FieldLemmas.{fields_of-spaced, IsField-decimal, IsField-signed}
use Rattle.cbi_base.proofs.IdLemmas.{IsIdText-text_of_id, IsIdText-spells}
use Rattle.cbi_base.proofs.NumberLemmas.{same-word}
use Rattle.report_file.specs.declared.label.Label.{Label}
use Rattle.report_file.specs.declared.label.Label.TheVariants.{Fail, Pass, Uncounted}
use Rattle.report_file.specs.declared.report.Entry.{Entry}
use Rattle.report_file.specs.Reading.{Reads}
use Rattle.report_file.specs.Report.{IsRun, IsOutcome, IsWork, IsEntry}
use Rattle.report_file.specs.Spelling.{program_fields, run_fields, outcome_fields, outcome_line, label_fields, work_fields, site_fields}
use Rattle.report_file.specs.Fields.{run_at, outcome_at, outcome_in, label_at, work_at, entry_of_fields, program_field, value_at_end}
use Rattle.report_file.proofs.FieldLemmas.{wide, trap-small, alone-is, run-taken, run-spelled, outcome_of-fields, outcome-spelled, label-taken, label-spelled, work-taken, work-spelled, entry-taken, entry-spelled}

-- the fields of a line, of which there is one at least
abbrev pub IsRow : List (List ℕ) → Type 0
IsRow [] = ⊥
IsRow (field ∷ more) = IsField field × AllByRecursion IsField more

pub row-fields : (row : List (List ℕ)) → IsRow row → fields_of (line_of_fields row) ≡ row
row-fields [] is = absurd is
row-fields (field ∷ more) is = fields_of-spaced field more is.0 is.1

-- a body that undoes spelling, and answers nothing else, reads the lines
pub line-reads : {A : Type 0} (spell : A → List (List ℕ)) (Good : A → Type 0) (read : List (List ℕ) → Option A) → ((x : A) → Good x → IsRow (spell x)) → ((x : A) → Good x → read (spell x) ≡ Some x) → ((fields : List (List ℕ)) (x : A) → read fields ≡ Some x → Good x × (fields ≡ spell x)) → (line : List ℕ) (answer : Option A) → answer ≡ read (fields_of line) → Reads spell Good line answer
line-reads spell Good read row undoes spells line None is = record {
  found = tt;
  only = λ x good line_is. is ∙ ap read (ap fields_of line_is ∙ row-fields (spell x) (row x good)) ∙ undoes x good;
}
line-reads spell Good read row undoes spells line (Some answer) is =
    let h = spells (fields_of line) answer (sym is) in record {
      found = (h.0, sym (join_with_byte-slice_split 32 line) ∙ ap line_of_fields h.1);
      only = λ x good line_is. is ∙ ap read (ap fields_of line_is ∙ row-fields (spell x) (row x good)) ∙ undoes x good;
    }

-- what stands alone is spelled by the whole line
whole-spelled : {A : Type 0} (spell : A → List (List ℕ)) (Good : A → Type 0) (at : List (List ℕ) → Option (A × List (List ℕ))) → ((fields rest : List (List ℕ)) (x : A) → at fields ≡ Some (x, rest) → Good x × (fields ≡ spell x ++ rest)) → (fields : List (List ℕ)) (x : A) → (at fields >>= value_at_end) ≡ Some x → Good x × (fields ≡ spell x)
whole-spelled {A} spell Good at spells fields x h =
    option_and_then_some value_at_end (at fields) x h (λ p taken one.
    let s = spells fields p.1 p.0 taken in
    let a = alone-is p x one in
    (subst Good a.0 s.0, s.1 ∙ ap (λ rest. spell p.0 ++ rest) a.1 ∙ append-nil (spell p.0) ∙ ap spell a.0))

pub row-run : (run : ℕ) → IsRun run → IsRow (run_fields run)
row-run run is = (refl, (IsField-decimal run (omega (arith, is.most)), tt))

pub run-reads : (line : List ℕ) (answer : Option ℕ) → answer ≡ (run_at (fields_of line) >>= value_at_end) → Reads run_fields IsRun line answer
run-reads line answer is =
    line-reads run_fields IsRun (λ fields. run_at fields >>= value_at_end) row-run (λ run good. ap (λ o. o >>= value_at_end) (run-taken run [] good)) (whole-spelled run_fields IsRun run_at run-spelled) line answer is

pub row-outcome : (outcome : Outcome) → IsOutcome outcome → IsRow (outcome_line outcome)
row-outcome (Ended status) is = (refl, (refl, (IsField-signed status (wide status is), tt)))
row-outcome (Trapped t) is = (refl, (refl, (IsField-decimal (trap_number t) (omega (arith, trap-small t)), tt)))
row-outcome CutTurns is = (refl, (refl, (refl, tt)))
row-outcome CutOutput is = (refl, (refl, (refl, tt)))

outcome_in-spelled : (fields : List (List ℕ)) (outcome : Outcome) → outcome_in fields ≡ Some outcome → IsOutcome outcome × (fields ≡ outcome_line outcome)
outcome_in-spelled [] outcome h = absurd (none_some h)
outcome_in-spelled (word ∷ rest) outcome h =
    some_choice _ _ _ outcome h (λ test is.
    let s = whole-spelled outcome_fields IsOutcome outcome_at outcome-spelled rest outcome is in
    (s.0, ap (λ w. w ∷ rest) (same-word word (codes "outcome") test) ∙ ap (λ fields. codes "outcome" ∷ fields) s.1)) (λ _ is. absurd (none_some is))

outcome_in-line : (outcome : Outcome) → IsOutcome outcome → outcome_in (outcome_line outcome) ≡ Some outcome
outcome_in-line outcome is = ap (λ o. o >>= value_at_end) (ap outcome_at (sym (append-nil (outcome_fields outcome))) ∙ outcome_of-fields outcome [] is)

pub outcome-reads : (line : List ℕ) (answer : Option Outcome) → answer ≡ outcome_in (fields_of line) → Reads outcome_line IsOutcome line answer
outcome-reads line answer is = line-reads outcome_line IsOutcome outcome_in row-outcome outcome_in-line outcome_in-spelled line answer is

pub row-label : (label : Label) → IsRow (label_fields label)
row-label Fail = (refl, (refl, tt))
row-label Pass = (refl, (refl, tt))
row-label Uncounted = (refl, (refl, tt))

pub label-reads : (line : List ℕ) (answer : Option Label) → answer ≡ (label_at (fields_of line) >>= value_at_end) → Reads label_fields (λ _. Unit {0}) line answer
label-reads line answer is =
    line-reads label_fields (λ _. Unit {0}) (λ fields. label_at fields >>= value_at_end) (λ label _. row-label label) (λ label _. ap (λ o. o >>= value_at_end) (label-taken label [])) (whole-spelled label_fields (λ _. Unit {0}) label_at (λ fields rest label h. (tt, label-spelled fields rest label h))) line answer is

pub row-work : (w : Work) → IsWork w → IsRow (work_fields w)
row-work w is =
    (refl, (IsField-decimal w.fast (omega (arith, is.fast)), (IsField-decimal w.slow (omega (arith, is.slow)), (IsField-decimal w.tests (omega (arith, is.tests)), tt))))

pub work-reads : (line : List ℕ) (answer : Option Work) → answer ≡ (work_at (fields_of line) >>= value_at_end) → Reads work_fields IsWork line answer
work-reads line answer is =
    line-reads work_fields IsWork (λ fields. work_at fields >>= value_at_end) row-work (λ w good. ap (λ o. o >>= value_at_end) (work-taken w [] good)) (whole-spelled work_fields IsWork work_at work-spelled) line answer is

pub row-site : (e : Entry) → IsEntry e → IsRow (site_fields e)
row-site e is =
    (refl, (IsField-decimal e.site (omega (arith, is.site)), (IsField-decimal e.counts.first (omega (arith, is.counts.first)), (IsField-decimal e.counts.second (omega (arith, is.counts.second)), (IsField-decimal e.counts.third (omega (arith, is.counts.third)), tt)))))

pub entry-reads : (line : List ℕ) (answer : Option Entry) → answer ≡ entry_of_fields (fields_of line) → Reads site_fields IsEntry line answer
entry-reads line answer is = line-reads site_fields IsEntry entry_of_fields row-site entry-taken entry-spelled line answer is

-- the digits of an identity can stand in a field
digit-field : (b : ℕ) → is_lower_digit b ≡ true → is_field_byte b ≡ true
digit-field b h = grind (arith, nat_tests)

digits-field : (text : List ℕ) → list_all is_lower_digit text ≡ true → IsField text
digits-field [] h = refl
digits-field (b ∷ bs) h =
    let parts = and_parts (is_lower_digit b) (list_all is_lower_digit bs) h in
    let rest : list_all is_field_byte bs ≡ true = digits-field bs parts.1 in
    rw (digit-field b parts.0, rest) refl

pub row-program : (id : ProgramId) → IsId id → IsRow (program_fields id)
row-program id is = (refl, (digits-field (text_of_id id) (IsIdText-text_of_id id is).digits, tt))

program_field-spelled : (fields : List (List ℕ)) (text : List ℕ) → program_field fields ≡ Some text → fields ≡ codes "program" ∷ text ∷ []
program_field-spelled (word ∷ field ∷ []) text h =
    some_choice _ _ _ text h (λ test is. rw (same-word word (codes "program") test, some_is is) refl) (λ _ is. absurd (none_some is))
program_field-spelled fields text h = absurd (none_some h)

-- the text of the identity that a line spells
program-line : (line : List ℕ) (id : ProgramId) → IsId id → line ≡ line_of_fields (program_fields id) → program_field (fields_of line) ≡ Some (text_of_id id)
program-line line id is line_is = ap program_field (ap fields_of line_is ∙ row-fields (program_fields id) (row-program id is))

pub program-none : (line : List ℕ) → None ≡ program_field (fields_of line) → Reads program_fields IsId line None
program-none line none = record { found = tt; only = λ id is line_is. absurd (none_some (none ∙ program-line line id is line_is)) }

-- what the reader of identities answers
abbrev IdFound : List ℕ → Option ProgramId → Type 0
IdFound text answer = IfSome answer (λ id. IsId id × (text ≡ text_of_id id))

id-found : (text : List ℕ) (answer : Option ProgramId) → (IsSome answer → IsIdText text) → ((id : ProgramId) → IsId id → text ≡ text_of_id id → answer ≡ Some id) → IdFound text answer
id-found text None found only = tt
id-found text (Some x) found only =
    let spelled = IsIdText-spells text (found refl) in
    subst (λ id. IsId id × (text ≡ text_of_id id)) (sym (some_is (only spelled.id spelled.is spelled.text_is))) (spelled.is, spelled.text_is)

id-line : (line text : List ℕ) (answer : Option ProgramId) → fields_of line ≡ codes "program" ∷ text ∷ [] → IdFound text answer → IfSome answer (λ id. IsId id × (line ≡ line_of_fields (program_fields id)))
id-line line text None is h = tt
id-line line text (Some id) is h = (h.0, sym (join_with_byte-slice_split 32 line) ∙ ap line_of_fields (is ∙ ap (λ t. codes "program" ∷ t ∷ []) h.1))

pub program-some : (line text : List ℕ) (answer : Option ProgramId) → Some text ≡ program_field (fields_of line) → (IsSome answer → IsIdText text) → ((id : ProgramId) → IsId id → text ≡ text_of_id id → answer ≡ Some id) → Reads program_fields IsId line answer
program-some line text answer some found only = record {
  found = id-line line text answer (program_field-spelled (fields_of line) text (sym some)) (id-found text answer found only);
  only = λ id is line_is. only id is (some_is (some ∙ program-line line id is line_is));
}
