-- What is refused of the texts of a program and of a collection, and what is loaded of them.
use Rattle.std.proofs.Common.{◌≡◌, refl, inl, inr, ⊎_elim, ℕ, Bool, List, [], ◌∷◌, Option, Some, IsSome, Ok, Err, ap, sym, subst, ◌∙◌}
use Rattle.base_lists.proofs.Options.{none_some, some_is}
use Rattle.sha2.specs.Sha256.{sha256}
use Rattle.cbi_base.specs.Store.{Held}
use Rattle.cbi_base.specs.declared.identity.ProgramId.{ProgramId}
use Rattle.cbi_base.specs.declared.refusal.Refusal.{Refusal}
use Rattle.cbi_base.specs.declared.refusal.Refusal.TheVariants.{BadProgram, Foreign, Conflict, TooManyReports, TooManyMarks, BadCollection, NoSite}
use Rattle.flow.specs.declared.program.ProgramParts.{ProgramParts}
use Rattle.flow.specs.declared.site.Site.{Site}
use Rattle.flow.specs.Spelling.{SpellsProgram}
use Rattle.report_file.specs.declared.report.Report.{Report}
use Rattle.collector.specs.declared.answers.AddFault.{AddFault}
use Rattle.collector.specs.declared.answers.Merged.{Merged}
use Rattle.collector.specs.declared.collection.Bundle.{Bundle}
use Rattle.collector.specs.declared.collection.Held.{Held as Collected}
use Rattle.collector.specs.Merging.{Merges}
use Rattle.collector.specs.Sites.{branches_of}
use Rattle.collector.specs.Spelling.{IsText, SpellsBundle}
use Rattle.command_base.specs.Limits.{program_limit}
use Rattle.command_base.proofs.ReadLemmas.{read-once}
use Rattle.command_inputs.specs.Programs.{IsBadProgram}
use Rattle.command_inputs.specs.declared.runs.RunsTexts.{RunsTexts}
use Rattle.command_inputs.specs.Collections.{IsBadCollection, fault_of, file_limit}
use Rattle.command_inputs.specs.Runs.{AreRunsTexts, AreRefusedRuns, HaveSites, HoldsRuns, IsFirstBad, IsOfText, RefusesRuns, SpellBoth, SpellRuns}
use Rattle.command_inputs.proofs.MergeLemmas.{TellsOfBundle, holding, merge-stops, merge-takes}

-- texts are refused where any texts that were read of the same files are
pub same-refused-runs : (held : Option Held) (program collection : List ℕ) (texts others : RunsTexts) → IsSome held → AreRunsTexts held program collection texts → AreRunsTexts held program collection others
    → AreRefusedRuns others → AreRefusedRuns texts
same-refused-runs held program collection texts others tells are others-are refused =
    let first = read-once held program program_limit _ _ tells others-are.program_read are.program_read in
    let second = read-once held collection file_limit _ _ tells others-are.collection_read are.collection_read in
    subst (λ x. AreRefusedRuns (record { program = texts.program; collection = x })) second
    (subst (λ x. AreRefusedRuns (record { program = x; collection = others.collection })) first refused)

-- a text that is no program is refused so, and behind a program one that is no collection
pub bad-program : (texts : RunsTexts) (refusal : Refusal) → IsBadProgram texts.program refusal → RefusesRuns refusal texts
bad-program texts refusal h = subst (λ r. RefusesRuns r texts) (sym h.refusal_is) (h.none, h.wrong)

pub bad-collection : (texts : RunsTexts) (parts : ProgramParts) (refusal : Refusal) → SpellsProgram texts.program parts → IsBadCollection 1 texts.collection refusal → RefusesRuns refusal texts
bad-collection texts parts refusal spells h =
    subst (λ r. RefusesRuns r texts) (sym h.told_is) (record { parts = parts; spells = spells }, (refl, (h.none, h.bad)))

-- reports of which one has a site that isn't there
first-bad : (branches : List Bool) (reports : List Report) (run site : ℕ) → IsFirstBad branches reports run site → HaveSites branches reports → ⊥
first-bad branches [] run site bad have = bad
first-bad branches (r ∷ more) run site (inl bad) have = none_some (sym have.0 ∙ bad.1)
first-bad branches (r ∷ more) run site (inr bad) have = first-bad branches more run site bad.1 have.1

-- a refusal that is told is one of the texts
pub refuses-runs : (refusal : Refusal) (texts : RunsTexts) → RefusesRuns refusal texts → AreRefusedRuns texts
refuses-runs (BadProgram line) texts h = inl h.0
refuses-runs (BadCollection file line) texts h = inr (inl h.1.1.0)
refuses-runs (Foreign ours theirs) texts h =
    inr (inr (record { parts = h.parts; bundle = h.bundle; spell = h.spell; wrong = inl (λ same. h.other (h.theirs_is ∙ same ∙ sym h.ours_is)) }))
refuses-runs (NoSite run site) texts h =
    inr (inr (record { parts = h.parts; bundle = h.bundle; spell = h.spell; wrong = inr (λ have. first-bad _ _ run site h.first have) }))
refuses-runs refusal texts h = absurd h

-- what the fault of an addition tells is the refusal of the texts
pub told-of-texts : (texts : RunsTexts) (parts : ProgramParts) (bundle : Bundle) (id : ProgramId) (f : AddFault) (refusal : Refusal) → SpellBoth texts parts bundle → id ≡ record { bytes = sha256 texts.program }
    → TellsOfBundle id (branches_of parts.sites) bundle f → fault_of refusal ≡ Some f → RefusesRuns refusal texts
told-of-texts texts parts bundle id f (Foreign ours theirs) spell id_is told is =
    let h = subst (TellsOfBundle id (branches_of parts.sites) bundle) (sym (some_is is)) told in
    record { parts = parts; bundle = bundle; spell = spell; ours_is = h.0 ∙ id_is; theirs_is = h.1.0; other = h.1.1 }
told-of-texts texts parts bundle id f (NoSite run site) spell id_is told is =
    let h = subst (TellsOfBundle id (branches_of parts.sites) bundle) (sym (some_is is)) told in
    record { parts = parts; bundle = bundle; spell = spell; of_program = h.0 ∙ id_is; first = h.1 }
told-of-texts texts parts bundle id f (Conflict run) spell id_is told is = absurd (subst (TellsOfBundle id (branches_of parts.sites) bundle) (sym (some_is is)) told)
told-of-texts texts parts bundle id f (TooManyReports run) spell id_is told is = absurd (subst (TellsOfBundle id (branches_of parts.sites) bundle) (sym (some_is is)) told)
told-of-texts texts parts bundle id f (TooManyMarks run) spell id_is told is = absurd (subst (TellsOfBundle id (branches_of parts.sites) bundle) (sym (some_is is)) told)
told-of-texts texts parts bundle id f refusal spell id_is told is = absurd (none_some is)

-- a collection that held nothing of the program, and what it comes to by the bundle
begun-is : (parts : ProgramParts) (id : ProgramId) (sites : List Site) (begun : Collected) → begun ≡ record { program = id; branches = branches_of sites; reports = [] } → sites ≡ parts.sites
    → begun ≡ holding id (branches_of parts.sites) []
begun-is parts id sites begun begun_is sites_are = begun_is ∙ ap (λ s. holding id (branches_of s) []) sites_are

id-is : (texts : RunsTexts) (id : ProgramId) → id.bytes ≡ sha256 texts.program → id ≡ record { bytes = sha256 texts.program }
id-is texts id bytes_are = ap (λ (bytes : List ℕ). let x : ProgramId = record { bytes = bytes } in x) bytes_are

-- what was found before the bundle is added
pub record IsBegun (texts : RunsTexts) (parts : ProgramParts) (bundle : Bundle) (id : ProgramId) (begun : Collected) : Type 0 where
  pub spell : SpellBoth texts parts bundle
  pub is_text : IsText bundle
  pub id_is : id ≡ record { bytes = sha256 texts.program }
  pub begun_is : begun ≡ holding id (branches_of parts.sites) []

pub begins : (texts : RunsTexts) (parts : ProgramParts) (bundle : Bundle) (id : ProgramId) (sites : List Site) (begun : Collected) → SpellsProgram texts.program parts → SpellsBundle texts.collection bundle → IsText bundle
    → id.bytes ≡ sha256 texts.program → sites ≡ parts.sites → begun ≡ record { program = id; branches = branches_of sites; reports = [] } → IsBegun texts parts bundle id begun
begins texts parts bundle id sites begun program collection is bytes_are sites_are begun_is = record {
  spell = record { program = program; collection = collection };
  is_text = is;
  id_is = id-is texts id bytes_are;
  begun_is = begun-is parts id sites begun begun_is sites_are;
}

-- the collection that has taken the bundle holds its runs
pub taken-runs : (texts : RunsTexts) (parts : ProgramParts) (bundle : Bundle) (id : ProgramId) (begun after : Collected) (m : Merged) → IsBegun texts parts bundle id begun → Merges begun bundle (Ok m) after
    → SpellRuns texts parts bundle × HoldsRuns texts parts after
taken-runs texts parts bundle id begun after m b merges =
    let taken = merge-takes id (branches_of parts.sites) bundle m after b.is_text (subst (λ c. Merges c bundle (Ok m) after) b.begun_is merges) in
    let runs : SpellRuns texts parts bundle = record { spell = b.spell; of_program = taken.same ∙ b.id_is; sites = taken.sites } in (
      runs,
      record {
        bundle = bundle;
        spell = runs;
        branches = ap (λ (c : Collected). c.branches) taken.held_is;
        reports = ap (λ (c : Collected). c.reports) taken.held_is;
      },
    )

-- the fault of the addition is a refusal of the texts
pub stopped-texts : (texts : RunsTexts) (parts : ProgramParts) (bundle : Bundle) (id : ProgramId) (begun after : Collected) (f : AddFault) (refusal : Refusal) → IsBegun texts parts bundle id begun
    → Merges begun bundle (Err f) after → fault_of refusal ≡ Some f → RefusesRuns refusal texts
stopped-texts texts parts bundle id begun after f refusal b merges is =
    told-of-texts texts parts bundle id f refusal b.spell b.id_is
    (merge-stops id (branches_of parts.sites) bundle f after b.is_text (subst (λ c. Merges c bundle (Err f) after) b.begun_is merges)) is

-- texts that spell runs aren't refused, where each is read as one value
pub runs-never-refused : (texts : RunsTexts) (parts : ProgramParts) (bundle : Bundle) → SpellRuns texts parts bundle → ((p : ProgramParts) (b : Bundle) → SpellBoth texts p b → (p ≡ parts) × (b ≡ bundle)) → AreRefusedRuns texts → ⊥
runs-never-refused texts parts bundle runs one (inl none) = none parts runs.spell.program
runs-never-refused texts parts bundle runs one (inr (inl none)) = none bundle runs.spell.collection
runs-never-refused texts parts bundle runs one (inr (inr not)) =
    let same = one not.parts not.bundle not.spell in
    ⊎_elim (λ other. other (subst (IsOfText texts.program) (sym same.1) runs.of_program))
    (λ bad. bad (subst (λ (b : Bundle). HaveSites (branches_of not.parts.sites) b.reports) (sym same.1)
    (subst (λ (p : ProgramParts). HaveSites (branches_of p.sites) bundle.reports) (sym same.0) runs.sites))) not.wrong
