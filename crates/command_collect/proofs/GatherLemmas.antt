-- What is gathered of texts, and what a refusal of a file is to the command.
use Rattle.std.proofs.Common.{◌≡◌, ◌≤◌, inl, inr, ℕ, ◌+◌, ◌-◌, Option, List, [], ◌∷◌, length, refl, ap, sym, subst, ◌∙◌}
use Rattle.sha2.specs.Sha256.{sha256}
use Rattle.cbi_base.specs.declared.identity.ProgramId.{ProgramId}
use Rattle.cbi_base.specs.declared.refusal.Refusal.{Refusal}
use Rattle.cbi_base.specs.declared.refusal.Refusal.TheVariants.{BadReport, BadCollection}
use Rattle.cbi_base.specs.Store.{Held}
use Rattle.flow.specs.declared.program.ProgramParts.{ProgramParts}
use Rattle.flow.specs.declared.site.Site.{Site}
use Rattle.flow.specs.Spelling.{SpellsProgram}
use Rattle.collector.specs.declared.collection.Bundle.{Bundle}
use Rattle.collector.specs.declared.collection.Held.{Held as Collected}
use Rattle.collector.specs.Collecting.{IsCollection}
use Rattle.collector.specs.Sites.{branches_of}
use Rattle.collector.specs.Spelling.{collection_text}
use Rattle.command_base.specs.declared.done.Done.TheVariants.{Added}
use Rattle.command_inputs.specs.Programs.{IsSpelled}
use Rattle.command_collect.specs.declared.gather.Gathered.{Gathered}
use Rattle.command_collect.specs.declared.reports.CollectTexts.{CollectTexts}
use Rattle.cbi_options.specs.declared.words.CollectWords.{CollectWords}
use Rattle.command_collect.specs.Collect.{AreCollectTexts, IsCollectedText, AreSpelled, RefusesFile, RefusesFiles, RefusesTexts, TakesAll, nothing_of, reports_in}
use Rattle.command_collect.specs.Gathered.{HasGathered}
use Rattle.command_collect.proofs.Holding.{length-map, taken-whole}

-- no file is refused by a refusal of another kind
never-files : (refusal : Refusal) (number : ℕ) (texts : List (List ℕ)) → ((n : ℕ) (text : List ℕ) → RefusesFile n text refusal → ⊥) → RefusesFiles number texts refusal → ⊥
never-files refusal number [] never h = h
never-files refusal number (text ∷ more) never (inl h) = never number text h
never-files refusal number (text ∷ more) never (inr h) = never-files refusal (number + 1) more never h.1

-- the refusal of a file is one of the texts
pub files-refuse : (refusal : Refusal) (texts : CollectTexts) → IsSpelled texts.program → RefusesFiles 1 texts.files refusal → RefusesTexts refusal texts
files-refuse (BadReport file line) texts spelled h = (spelled, h)
files-refuse (BadCollection file line) texts spelled h = (spelled, h)
files-refuse refusal texts spelled h = absurd (never-files refusal 1 texts.files (λ n text no. no) h)

-- a collection that held nothing, and took all
begun-is : (texts : CollectTexts) (parts : ProgramParts) (id : ProgramId) (sites : List Site) (begun : Collected) → begun ≡ record { program = id; branches = branches_of sites; reports = [] }
    → id.bytes ≡ sha256 texts.program → sites ≡ parts.sites → begun ≡ nothing_of texts.program parts.sites
begun-is texts parts id sites begun begun_is id_is sites_are =
    begun_is ∙ ap (λ bytes. let x : Collected = record { program = record { bytes = bytes }; branches = branches_of sites; reports = [] } in x) id_is
    ∙ ap (λ s. nothing_of texts.program s) sites_are

pub begun-takes : (texts : CollectTexts) (parts : ProgramParts) (bundles : List Bundle) (id : ProgramId) (sites : List Site) (begun after : Collected) → begun ≡ record { program = id; branches = branches_of sites; reports = [] }
    → id.bytes ≡ sha256 texts.program → sites ≡ parts.sites → TakesAll begun bundles after → TakesAll (nothing_of texts.program parts.sites) bundles after
begun-takes texts parts bundles id sites begun after begun_is id_is sites_are takes =
    subst (λ c. TakesAll c bundles after) (begun-is texts parts id sites begun begun_is id_is sites_are) takes

pub all-gathered : (texts : CollectTexts) (parts : ProgramParts) (bundles : List Bundle) (after : Collected) (count : ℕ) → SpellsProgram texts.program parts → AreSpelled texts.files bundles
    → TakesAll (nothing_of texts.program parts.sites) bundles after → IsCollection after → count ≡ length (reports_in bundles)
    → HasGathered texts (record { collection = after; reports = count })
all-gathered texts parts bundles after count spells are takes fits counted =
    let whole = taken-whole (nothing_of texts.program parts.sites) after bundles refl takes in
    record {
      reports = reports_in bundles;
      gathered = record { parts = parts; bundles = bundles; spells = spells; are_spelled = are; reports_are = refl; alike = whole.alike; holds = whole.held_is; fits = fits };
      count = counted;
    }

-- at most as many runs are held as there are reports
pub said-fits : (texts : CollectTexts) (g : Gathered) → HasGathered texts g → length g.collection.reports ≤ g.reports
said-fits texts g h =
    subst (λ n. length g.collection.reports ≤ n) (sym h.count)
    (subst (λ (c : Collected). length c.reports ≤ length h.reports) (sym h.gathered.holds) (length-map h.reports))

-- the text of what was gathered is due
pub collected-text : (held : Option Held) (words : CollectWords) (texts : CollectTexts) (g : Gathered) (text : List ℕ) → AreCollectTexts held words texts → HasGathered texts g
    → text ≡ collection_text g.collection → IsCollectedText held words text
collected-text held words texts g text are h text_is = record {
  said = Added (length g.collection.reports) (length h.reports - length g.collection.reports);
  is = record { texts = texts; collection = g.collection; reports = h.reports; are_texts = are; gathered = h.gathered; text_is = text_is; said_is = refl };
}
