-- Which sites the schemes want.
use Rattle.std.specs.Prelude.{Bool, true, false, List, filter}
use Rattle.flow.specs.declared.site.SiteKind.{SiteKind}
use Rattle.flow.specs.declared.site.SiteKind.TheVariants.{Branch, Return, Pair}
use Rattle.flow.specs.declared.site.Site.{Site}
use Rattle.flow.specs.declared.choice.Schemes.{Schemes}

abbrev pub all_schemes : Schemes
all_schemes = record { branches = true; returns = true; pairs = true }

abbrev pub no_schemes : Schemes
no_schemes = record { branches = false; returns = false; pairs = false }

abbrev pub is_site_wanted : Schemes → SiteKind → Bool
is_site_wanted schemes (Branch word) = schemes.branches
is_site_wanted schemes (Return callee) = schemes.returns
is_site_wanted schemes (Pair target slot partner) = schemes.pairs

-- those of the sites that are wanted
abbrev pub wanted_sites : Schemes → List Site → List Site
wanted_sites schemes sites = filter (λ s. is_site_wanted schemes s.kind) sites
