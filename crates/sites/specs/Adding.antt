-- Sites are added to those before, up to 65,536.
use Rattle.std.specs.Prelude.{◌≡◌, ◌<◌, List, ◌++◌, length, Result, Ok, Err}
use Rattle.flow.specs.declared.site.Site.{Site}
use Rattle.flow.specs.Limits.{site_limit}
use Rattle.sites.specs.declared.schemes.SiteError.{SiteError}
use Rattle.sites.specs.declared.schemes.SiteError.TheVariants as error

-- The sites are added, or there are too many with them. For want of memory nothing is said.
abbrev pub IsAdded : List Site → List Site → Result (Unit {0}) SiteError → List Site → Type 0
IsAdded old more (Ok done) new = new ≡ old ++ more
IsAdded old more (Err error.TooManySites) new = site_limit < length (old ++ more)
IsAdded old more (Err error.Memory) new = Unit {0}
