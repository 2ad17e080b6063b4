-- Programs before they are sampled (PLDI 2003 section 2): no node belongs to sampling, and a condition is looked at where control forks on it.
use Rattle.std.specs.Prelude.{◌≡◌, ℕ, List, Option, None, Some, slice_get}
use Rattle.std.specs.List.{All}
use Rattle.flow.specs.declared.node.Node.{Node}
use Rattle.flow.specs.declared.node.View.{View}
use Rattle.flow.specs.declared.node.View.TheVariants.{Forks, Marks, Skips, Tests, Picks, Imports, Exports}
use Rattle.flow.specs.declared.program.ProgramParts.{ProgramParts}
use Rattle.flow.specs.declared.site.Site.{Site}
use Rattle.flow.specs.declared.site.SiteKind.{SiteKind}
use Rattle.flow.specs.declared.site.SiteKind.TheVariants.{Branch}
use Rattle.flow.specs.Code.{view_in}
use Rattle.flow.specs.View.{view}

-- a node of a program as it is before it is sampled
abbrev pub IsPlain : View → Type 0
IsPlain (Skips by next) = ⊥
IsPlain (Tests site next) = ⊥
IsPlain (Picks weight fast slow) = ⊥
IsPlain (Imports next) = ⊥
IsPlain (Exports next) = ⊥
IsPlain other = Unit {0}

abbrev pub ArePlain : List Node → Type 0
ArePlain nodes = All (λ n. IsPlain (view n)) nodes

abbrev pub IsBranchKind : SiteKind → Type 0
IsBranchKind (Branch word) = Unit {0}
IsBranchKind other = ⊥

-- the site of a condition
abbrev pub IsBranch : Option Site → Type 0
IsBranch None = ⊥
IsBranch (Some s) = IsBranchKind s.kind

-- after the visit of a condition's site control forks
abbrev pub BranchesFork : (ℕ → ℕ → View) → (ℕ → Option Site) → Type 0
BranchesFork at site_of =
    (function place site next : ℕ) → at function place ≡ Marks site next → IsBranch (site_of site) →
    (when_true when_false : ℕ) × (at function next ≡ Forks when_true when_false)

-- the visit of a condition's site stands before the fork on it
abbrev pub IsReady : ProgramParts → Type 0
IsReady p = BranchesFork (λ function place. view_in (slice_get p.functions function) place) (slice_get p.sites)
