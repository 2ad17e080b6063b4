-- Reports of a part's program, as a collection of the whole program holds them.
use Rattle.std.proofs.Common.{◌≡◌, ◌≤◌, Bool, List, [], ◌∷◌, length, map, Some, Ok, Err, refl, ap, sym, subst, ◌∙◌}
use Rattle.std.proofs.lemmas.List.Elements.{All-cons, All-nil}
use Rattle.flow.specs.Words.{PartFits, site_limit}
use Rattle.cbi_base.specs.declared.identity.ProgramId.{ProgramId}
use Rattle.cbi_base.specs.declared.refusal.Refusal.{Refusal}
use Rattle.cbi_base.specs.declared.refusal.Refusal.TheVariants as refusal
use Rattle.flow.specs.declared.program.ProgramParts.{ProgramParts}
use Rattle.flow.specs.declared.site.Site.{Site}
use Rattle.flow.specs.declared.site.TableParts.{TableParts}
use Rattle.report_file.specs.declared.report.Report.{Report}
use Rattle.collector.specs.declared.answers.AddFault.{AddFault}
use Rattle.collector.specs.declared.answers.AddFault.TheVariants.{Foreign, NoSite, Conflict, TooManyReports, TooManyMarks, Memory}
use Rattle.collector.specs.declared.answers.Merged.{Merged}
use Rattle.collector.specs.declared.collection.Bundle.{Bundle}
use Rattle.collector.specs.declared.collection.Held.{Held}
use Rattle.collector.specs.Collecting.{bundle_of}
use Rattle.collector.specs.Merging.{Merges}
use Rattle.collector.specs.Sites.{branches_of}
use Rattle.collector.specs.Spelling.{IsText}
use Rattle.flow.specs.declared.choice.Part.{Part}
use Rattle.site_parts.specs.Laws.{FitsWhenWidened, MayWidenWhatFits}
use Rattle.program_parts.specs.Part.{part_of}
use Rattle.site_parts.specs.Widened.{MayWiden, MayWidenAll, widened_bundle, widened_report}
use Rattle.command_inputs.specs.Collections.{fault_of}
use Rattle.command_inputs.specs.Runs.{HaveSites}
use Rattle.command_inputs.proofs.MergeLemmas.{TellsOfBundle, holding, merge-stops, merge-takes}
use Rattle.command_widen.specs.Widen.{HasPart}
use Rattle.command_widen.proofs.Checking.{none_is_bad}

-- reports of the part's sites may be widened, and then are of the whole program's
all_may : MayWidenWhatFits → (part : Part) (sites : List Site) (reports : List Report) → PartFits part → length sites ≤ site_limit → HaveSites (branches_of (part_of part sites)) reports
    → MayWidenAll part reports
all_may may part sites [] is few have = All-nil (λ (r : Report). MayWiden part r.entries)
all_may may part sites (r ∷ more) is few have =
    All-cons (λ (x : Report). MayWiden part x.entries) r more (may part sites r.entries is few have.0) (all_may may part sites more is few have.1)

all_fit : FitsWhenWidened → (whole : ProgramId) (part : Part) (sites : List Site) (reports : List Report) → PartFits part → HaveSites (branches_of (part_of part sites)) reports
    → HaveSites (branches_of sites) (map (widened_report whole part) reports)
all_fit fits whole part sites [] is have = tt
all_fit fits whole part sites (r ∷ more) is have = (fits part sites r.entries is have.0, all_fit fits whole part sites more is have.1)

sites_are : (part : Part) (whole parts : ProgramParts) → HasPart part whole parts → parts.sites ≡ part_of part whole.sites
sites_are part whole parts has = ap (λ (t : TableParts). t.sites) has

pub may_widen : MayWidenWhatFits → (part : Part) (whole parts : ProgramParts) (reports : List Report) → PartFits part → length whole.sites ≤ site_limit → HasPart part whole parts
    → HaveSites (branches_of parts.sites) reports → MayWidenAll part reports
may_widen may part whole parts reports is few has have =
    all_may may part whole.sites reports is few (subst (λ s. HaveSites (branches_of s) reports) (sites_are part whole parts has) have)

pub fit_whole : FitsWhenWidened → (id : ProgramId) (part : Part) (whole parts : ProgramParts) (bundle : Bundle) → PartFits part → HasPart part whole parts
    → HaveSites (branches_of parts.sites) bundle.reports → HaveSites (branches_of whole.sites) (widened_bundle id part bundle).reports
fit_whole fits id part whole parts bundle is has have =
    all_fit fits id part whole.sites bundle.reports is (subst (λ s. HaveSites (branches_of s) bundle.reports) (sites_are part whole parts has) have)

-- no refusal tells of want of memory
never_memory : (r : Refusal) → fault_of r ≡ Some Memory → ⊥
never_memory (refusal.Foreign ours theirs) e = absurd cc
never_memory (refusal.NoSite run site) e = absurd cc
never_memory (refusal.Conflict run) e = absurd cc
never_memory (refusal.TooManyReports run) e = absurd cc
never_memory (refusal.TooManyMarks run) e = absurd cc
never_memory r e = absurd cc

-- reports of the program and of its sites are added, but for want of memory
stops_for_memory : (id : ProgramId) (branches : List Bool) (bundle : Bundle) (f : AddFault) → bundle.program ≡ id → HaveSites branches bundle.reports → TellsOfBundle id branches bundle f → f ≡ Memory
stops_for_memory id branches bundle (Foreign ours theirs) same have told = absurd (told.1.1 (told.1.0 ∙ same ∙ sym told.0))
stops_for_memory id branches bundle (NoSite run site) same have told = absurd (none_is_bad branches bundle.reports run site have told.1)
stops_for_memory id branches bundle Memory same have told = refl
stops_for_memory id branches bundle f same have told = absurd told

pub wide_never_refused : (id : ProgramId) (branches : List Bool) (bundle : Bundle) (f : AddFault) (after : Held) (refusal : Refusal) → IsText bundle → bundle.program ≡ id → HaveSites branches bundle.reports
    → Merges (holding id branches []) bundle (Err f) after → fault_of refusal ≡ Some f → ⊥
wide_never_refused id branches bundle f after refusal is same have merges tells =
    never_memory refusal (tells ∙ ap Some (stops_for_memory id branches bundle f same have (merge-stops id branches bundle f after is merges)))

-- and then the collection holds them
pub wide_held : (id : ProgramId) (branches : List Bool) (bundle : Bundle) (m : Merged) (after : Held) → IsText bundle → Merges (holding id branches []) bundle (Ok m) after → bundle_of after ≡ bundle
wide_held id branches bundle m after is merges =
    let taken = merge-takes id branches bundle m after is merges in
    ap bundle_of taken.held_is ∙ ap (λ p. let b : Bundle = record { program = p; reports = bundle.reports } in b) (sym taken.same)
