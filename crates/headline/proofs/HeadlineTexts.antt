-- What `run` left under a name, and what the texts of reports and collections hold.
use Rattle.std.specs.Option.{unwrap_or}
use Rattle.std.specs.Cmp.Lexicographic.{nat_list_cmp_total}
use Rattle.std.specs.FinMap.{get, get-insert, insert}
use Rattle.std.proofs.Common.{◌≡◌, ℕ, Bool, true, false, cond, List, [], ◌∷◌, Option, None, Some, IsSome, ap, ap₂, sym, subst, ◌∙◌, refl}
use Rattle.std.proofs.lemmas.Bool.{false≢true}
use Rattle.std.proofs.lemmas.Cmp.{eq_by_cmp_equiv}
use Rattle.base_lists.proofs.Options.{some_is}
use Rattle.cbi_base.specs.Store.{Held, Replaces}
use Rattle.flow.specs.Words.{run_result, MachineEnds, SpellsProgram}
use Rattle.countdown_bank.specs.Bank.{number_after}
use Rattle.report_file.specs.declared.report.Report.{Report}
use Rattle.report_file.specs.Report.{IsReport}
use Rattle.report_file.specs.Spelling.{SpellsReport, report_text}
use Rattle.report_file.specs.Spelling.SpellsReport.{WithLabel}
use Rattle.collector.specs.declared.collection.Bundle.{Bundle}
use Rattle.collector.specs.declared.collection.Held.{Held as Collected}
use Rattle.collector.specs.Collecting.{IsCollection, bundle_of}
use Rattle.collector.specs.Spelling.{SpellsBundle, collection_text}
use Rattle.command_run.specs.Run.{IsBankOf, Reports, report_of}
use Rattle.command_collect.specs.Collect.{AreSpelled, SpellsFile, is_collection}
use Rattle.command_collect.proofs.FileLemmas.{bundle-file, file-bundle, file-one, one-file}
use Rattle.headline.specs.Chain.{IsReportOf, Made}
use Rattle.headline.specs.Handed.{HoldsText, IsLeftByRun}

-- what a name holds behind a write is what was written
held-now : (before : Held) (name bytes : List ℕ) → get (insert before name bytes) name ≡ Some bytes
held-now before name bytes =
    get-insert nat_list_cmp_total before name bytes name ∙ ap (λ b. cond b (Some bytes) (get before name)) ((eq_by_cmp_equiv nat_list_cmp_total).refl name)

replaced-by : (before after : Option Held) (name bytes text : List ℕ) → IsSome before → Replaces before after name bytes → HoldsText after name text → text ≡ bytes
replaced-by None after name bytes text tells replaced holds = absurd (false≢true tells)
replaced-by (Some before) None name bytes text tells replaced holds = absurd holds
replaced-by (Some before) (Some after) name bytes text tells replaced holds =
    some_is (sym holds ∙ ap (λ m. get (unwrap_or m before) name) replaced ∙ held-now before name bytes)

pub reported-as : (given : Option (List ℕ)) (before after : Option Held) (name text : List ℕ) (r : Report) → given ≡ Some name → IsSome before → Reports given before after r → HoldsText after name text
    → IsReport r × (text ≡ report_text r)
reported-as given before after name text r named tells reported holds =
    let written = subst (λ g. Reports g before after r) named reported in
    (written.0, replaced-by before after name (report_text r) text tells written.1 holds)

-- the text is that of the report of the run
pub record IsReportText (file : List ℕ) (made : Made) (text : List ℕ) (report : Report) : Type 0 where
  pub is : IsReportOf file made report
  pub fits : IsReport report
  pub text_is : text ≡ report_text report

abbrev pub left_report : (file : List ℕ) (made : Made) (text : List ℕ) → IsLeftByRun file made text → Report
left_report file made text left = report_of made.words made.files (run_result left.ran.parts.sites left.ran.ending)

pub left-text : (file : List ℕ) (made : Made) (text : List ℕ) (left : IsLeftByRun file made text) → IsReportText file made text (left_report file made text left)
left-text file made text left =
    let ran = left.ran in
    let same = sym left.files_are in
    let loaded = ran.run.loaded in
    let spelled = subst (λ f. IsReport (report_of made.words f (run_result ran.parts.sites ran.ending)) × (text ≡ report_text (report_of made.words f (run_result ran.parts.sites ran.ending)))) same
    (reported-as made.words.report left.before left.after left.name text (report_of made.words ran.files (run_result ran.parts.sites ran.ending)) left.named left.tells ran.reported left.holds) in
    record {
      is = record {
        parts = ran.parts;
        ending = ran.ending;
        program_is = left.program_is;
        spells = subst (λ f. SpellsProgram f.program ran.parts) same loaded.spells;
        bank_is = subst (IsBankOf made.files.bank) (sym left.bank_is) (subst (λ f. IsBankOf f.bank ran.run.bank) same loaded.bank_is);
        ends = subst (λ b. MachineEnds ran.parts made.files.input (number_after b) made.words.turns ran.ending) (sym left.bank_is)
            (subst (λ f. MachineEnds ran.parts f.input (number_after ran.run.bank) made.words.turns ran.ending) same ran.run.ends);
        report_is = refl;
      };
      fits = spelled.0;
      text_is = spelled.1;
    }

-- a report's text isn't a collection's
report-alone : (r : Report) → is_collection (report_text r) ≡ false
report-alone r = refl

collection-titled : (c : Collected) → is_collection (collection_text c) ≡ true
collection-titled c = refl

abbrev pub OneReport : Type 0
OneReport = (bytes : List ℕ) (a b : Report) → SpellsReport bytes a → SpellsReport bytes b → a ≡ b

abbrev pub OneCollection : Type 0
OneCollection = (bytes : List ℕ) (a b : Bundle) → SpellsBundle bytes a → SpellsBundle bytes b → a ≡ b

abbrev pub WrittenCollection : Type 0
WrittenCollection = (c : Collected) → IsCollection c → SpellsBundle (collection_text c) (bundle_of c)

-- what a text holds
pub report-file : (text : List ℕ) (r : Report) → IsReport r → text ≡ report_text r → SpellsFile text (record { program = r.program; reports = r ∷ [] })
report-file text r fits same =
    one-file text (record { program = r.program; reports = r ∷ [] }) (ap is_collection same ∙ report-alone r) (record { report = r; spells = WithLabel fits same; bundle_is = refl })

pub collection-spelled : WrittenCollection → (text : List ℕ) (c : Collected) → IsCollection c → text ≡ collection_text c → SpellsBundle text (bundle_of c)
collection-spelled written text c fits same = subst (λ bytes. SpellsBundle bytes (bundle_of c)) (sym same) (written c fits)

pub collection-file : WrittenCollection → (text : List ℕ) (c : Collected) → IsCollection c → text ≡ collection_text c → SpellsFile text (bundle_of c)
collection-file written text c fits same = bundle-file text (bundle_of c) (ap is_collection same ∙ collection-titled c) (collection-spelled written text c fits same)

-- and it holds nothing else
module _ (one_report : OneReport) (one_collection : OneCollection) where
  held-once-by : (test : Bool) (text : List ℕ) (a b : Bundle) → is_collection text ≡ test → SpellsFile text a → SpellsFile text b → a ≡ b
  held-once-by true text a b is x y = one_collection text a b (file-bundle text a is x) (file-bundle text b is y)
  held-once-by false text a b is x y =
      let p = file-one text a is x in
      let q = file-one text b is y in
      p.bundle_is ∙ ap (λ (r : Report). record { program = r.program; reports = r ∷ [] }) (one_report text p.report q.report p.spells q.spells) ∙ sym q.bundle_is

  pub held-once : (text : List ℕ) (a b : Bundle) → SpellsFile text a → SpellsFile text b → a ≡ b
  held-once text a b x y = held-once-by (is_collection text) text a b refl x y

  pub spelled-once : (texts : List (List ℕ)) (xs ys : List Bundle) → AreSpelled texts xs → AreSpelled texts ys → xs ≡ ys
  spelled-once [] [] [] p q = refl
  spelled-once [] [] (b ∷ ys) p q = absurd q
  spelled-once [] (a ∷ xs) ys p q = absurd p
  spelled-once (text ∷ texts) [] ys p q = absurd p
  spelled-once (text ∷ texts) (a ∷ xs) [] p q = absurd q
  spelled-once (text ∷ texts) (a ∷ xs) (b ∷ ys) p q =
      ap₂ (λ (first : Bundle) more. first ∷ more) (held-once text a b p.0 q.0) (spelled-once texts xs ys p.1 q.1)
