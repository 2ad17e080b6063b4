-- Site tables, and the conditions on sites.
use Rattle.std.specs.Prelude.{◌≡◌, ℕ, ◌≤◌, ◌<◌, ◌&&◌, Bool, nat_lt, Option, None, ℤ, pos, neg_ℤ, int_le, List, length, Some, IsTrue, slice_get}
use Rattle.std.specs.List.{All}
use Rattle.cbi_base.specs.Name.{IsName}
use Rattle.flow.specs.declared.choice.Part.{Part}
use Rattle.flow.specs.declared.site.Slot.{Slot}
use Rattle.flow.specs.declared.site.Slot.TheVariants.{Local, Global}
use Rattle.flow.specs.declared.site.Partner.{Partner}
use Rattle.flow.specs.declared.site.Partner.TheVariants.{Variable, Constant}
use Rattle.flow.specs.declared.site.SiteKind.{SiteKind}
use Rattle.flow.specs.declared.site.SiteKind.TheVariants.{Branch, Return, Pair}
use Rattle.flow.specs.declared.site.Site.{Site}
use Rattle.flow.specs.declared.site.TableParts.{TableParts}
use Rattle.flow.specs.Limits.{site_limit, line_limit, token_limit}

-- a variable that is there, where the site's function and the program have so many locals and globals
abbrev pub slot_fits : ℕ → ℕ → Slot → Bool
slot_fits locals globals (Local index) = nat_lt index locals
slot_fits locals globals (Global index) = nat_lt index globals

-- a value that a constant of the source text can have, as a `char`, an `int` or an `unsigned`
abbrev pub is_constant : ℤ → Bool
is_constant value = int_le (neg_ℤ (pos 128)) value && int_le value (pos 4294967295)

abbrev pub PartnerFits : ℕ → ℕ → Partner → Type 0
PartnerFits locals globals (Variable name slot) = IsName name × IsTrue (slot_fits locals globals slot)
PartnerFits locals globals (Constant value) = IsTrue (is_constant value)

-- what a site looks at is there
abbrev pub KindFits : ℕ → ℕ → SiteKind → Type 0
KindFits locals globals (Branch word) = Unit {0}
KindFits locals globals (Return callee) = IsName callee
KindFits locals globals (Pair target slot partner) = IsName target × IsTrue (slot_fits locals globals slot) × PartnerFits locals globals partner

-- a site of a function with so many locals, beside so many globals
pub record SiteFits (locals globals : ℕ) (s : Site) : Type 0 where
  pub first_line : 1 ≤ s.line
  pub last_line : s.line ≤ line_limit
  pub token : s.token ≤ token_limit
  pub kind : KindFits locals globals s.kind

-- a site that stands in one of these functions, of which each has so many locals
pub record IsSite (locals : List ℕ) (globals : ℕ) (s : Site) : Type 0 where
  pub own : ℕ
  pub owner : slice_get locals s.function ≡ Some own
  pub fits : SiteFits own globals s

-- few sites, each of them in one of so many functions
pub record OwnersFit (functions : ℕ) (sites : List Site) : Type 0 where
  pub few : length sites ≤ site_limit
  pub owners : All (λ s. s.function < functions) sites

-- a site table
abbrev pub IsTable : TableParts → Type 0
IsTable t = OwnersFit (length t.functions) t.sites

abbrev pub AreRows : List Site → List (List ℕ) → Type 0
AreRows sites functions = IsTable (record { sites = sites; functions = functions })

-- the most parts of a table
abbrev pub part_limit : ℕ
part_limit = 65536

-- the part is one of so many, and these are not too many
pub record PartFits (part : Part) : Type 0 where
  pub some : 1 ≤ part.count
  pub few : part.count ≤ part_limit
  pub index : part.index < part.count

-- so it is where a part is named
abbrev pub MayPart : Option Part → Type 0
MayPart None = Unit {0}
MayPart (Some part) = PartFits part
