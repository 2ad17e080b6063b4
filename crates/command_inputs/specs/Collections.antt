-- What several commands read of collections: the text of one, and which refusal the fault of an addition is.
use Rattle.std.specs.Prelude.{◌≡◌, ℕ, List, Option, Some, None}
use Rattle.std.specs.Global.{Global}
use Rattle.cbi_base.specs.Lines.{IsBadLine}
use Rattle.cbi_base.specs.declared.refusal.Refusal.{Refusal}
use Rattle.cbi_base.specs.declared.refusal.Refusal.TheVariants as refusal
use Rattle.collector.specs.declared.answers.AddFault.{AddFault}
use Rattle.collector.specs.declared.answers.AddFault.TheVariants as fault
use Rattle.collector.specs.declared.collection.Bundle.{Bundle}
use Rattle.collector.specs.Grammar as collection
use Rattle.collector.specs.Spelling.{SpellsBundle}

-- the most bytes that are read of a file of reports
abbrev pub file_limit : ℕ
file_limit = 1073741824

-- no collection has this text
abbrev pub IsNoCollection : List ℕ → Type 0
IsNoCollection text = (bundle : Bundle) → SpellsBundle text bundle → ⊥

-- the line at which the text of a collection goes wrong
pub record IsBadCollectionLine (text : List ℕ) (line : ℕ) : Type 0 where
  pub alloc : Global
  pub bad : IsBadLine collection.BundleLineFollows collection.BundleEnds (collection.bundle_start alloc) text line

-- the refusal of a text with this number that is no collection's
pub record IsBadCollection (number : ℕ) (text : List ℕ) (told : Refusal) : Type 0 where
  pub line : ℕ
  pub told_is : told ≡ refusal.BadCollection number line
  pub none : IsNoCollection text
  pub bad : IsBadCollectionLine text line

-- the fault that a refusal tells of
abbrev pub fault_of : Refusal → Option AddFault
fault_of (refusal.Foreign ours theirs) = Some (fault.Foreign ours theirs)
fault_of (refusal.NoSite run site) = Some (fault.NoSite run site)
fault_of (refusal.Conflict run) = Some (fault.Conflict run)
fault_of (refusal.TooManyReports run) = Some (fault.TooManyReports run)
fault_of (refusal.TooManyMarks run) = Some (fault.TooManyMarks run)
fault_of _ = None
