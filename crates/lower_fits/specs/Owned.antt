-- Where the tokens of a body stand, and whose sites stand at them.
use Rattle.std.specs.Prelude.{ℕ, ◌+◌, List, length, map}
use Rattle.c_syntax.specs.Words.{EntryList, EntriesAt, ShapedEntries, entry_kinds}
use Rattle.flow.specs.declared.site.Site.{Site}
use Rattle.c_meaning.specs.Texts.{sites_by_table}
use Rattle.lower_fits.specs.FactsFit.{SitesOwned}

-- the body stands from a token on, and each site of the table that stands within it is one of the function with this number
pub record BodyOwns (table : List Site) (number : ℕ) (body : EntryList) : Type 0 where
  pub lo : ℕ
  pub shaped : ShapedEntries body
  pub placed : EntriesAt lo body
  pub owned : SitesOwned (sites_by_table table) (map (λ s. s.function) table) number lo (lo + length (entry_kinds body))
