-- What the texts spell, and the collection that is made of it.
use Rattle.std.specs.Prelude.{◌≡◌, Bool, List}
use Rattle.cbi_base.specs.declared.identity.ProgramId.{ProgramId}
use Rattle.cbi_base.specs.declared.refusal.Refusal.{Refusal}
use Rattle.cbi_base.specs.declared.refusal.Refusal.TheVariants.{NoSite}
use Rattle.flow.specs.declared.program.ProgramParts.{ProgramParts}
use Rattle.flow.specs.Spelling.{SpellsProgram}
use Rattle.report_file.specs.declared.report.Report.{Report}
use Rattle.collector.specs.declared.collection.Bundle.{Bundle}
use Rattle.collector.specs.declared.collection.Held.{Held}
use Rattle.collector.specs.Collecting.{bundle_of}
use Rattle.collector.specs.Sites.{branches_of}
use Rattle.flow.specs.declared.choice.Part.{Part}
use Rattle.site_parts.specs.Widened.{widened_bundle}
use Rattle.command_inputs.specs.Runs.{HaveSites, IsFirstBad, SpellBoth}
use Rattle.command_widen.specs.declared.loaded.Loaded.{Loaded}
use Rattle.command_widen.specs.declared.texts.WidenTexts.{WidenTexts}
use Rattle.command_widen.specs.Widen.{HasPart, SpellPart, widened_as}

pub record AreSpelled (texts : WidenTexts) (l : Loaded) : Type 0 where
  pub whole : SpellsProgram texts.whole l.whole
  pub runs : SpellBoth texts.runs l.program l.bundle

-- the refusal tells of the first entry of a site that isn't there
abbrev pub RefusesSites : List Bool → List Report → Refusal → Type 0
RefusesSites branches reports (NoSite run site) = IsFirstBad branches reports run site
RefusesSites branches reports _ = ⊥

-- the program has the part, and each entry of the reports is of a site of it
pub record IsOfPart (part : Part) (l : Loaded) : Type 0 where
  pub has_part : HasPart part l.whole l.program
  pub sites : HaveSites (branches_of l.program.sites) l.bundle.reports

-- the collection of the whole program with this identity holds the reports, widened
abbrev pub HoldsWide : Part → ProgramId → Loaded → Held → Type 0
HoldsWide part whole l c = bundle_of c ≡ widened_bundle whole part l.bundle

-- so it holds the reports that the texts spell
pub record HoldsTexts (part : Part) (texts : WidenTexts) (c : Held) : Type 0 where
  pub whole : ProgramParts
  pub parts : ProgramParts
  pub bundle : Bundle
  pub spell : SpellPart part texts whole parts bundle
  pub holds : bundle_of c ≡ widened_as texts.whole part bundle
