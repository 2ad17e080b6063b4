-- A whole text whose types fit, and whose sites stand where they can look.
use Rattle.std.specs.Prelude.{◌≡◌, ℕ, Bool, false, IsSome, IsTrue, length, Option, Some, None}
use Rattle.cbi_base.specs.declared.scalar.Kind.TheVariants.{Int}
use Rattle.c_syntax.specs.StatementTree.{EntryList}
use Rattle.flow.specs.declared.site.Site.{Site}
use Rattle.flow.specs.declared.site.SiteKind.{SiteKind}
use Rattle.c_meaning.specs.declared.value_type.ValueType.TheVariants as type
use Rattle.c_meaning.specs.Words.{Facts, Signature, Sites, no_sites, Source, is_branch, is_return}
use Rattle.c_meaning_laws.specs.TypedStatements.{TypedEntries}

-- the site is there, and is of this kind
abbrev pub OfKind : (SiteKind → Bool) → Option Site → Type 0
OfKind of_kind None = ⊥
OfKind of_kind (Some site) = IsTrue (of_kind site.kind)

-- the site of a condition looks at a condition, and that of a returned value at one
pub record SitesFit (sites : Sites) : Type 0 where
  pub branches : (token number : ℕ) → sites.branch_at token ≡ Some number → OfKind is_branch (sites.site number)
  pub returns : (token number : ℕ) → sites.return_at token ≡ Some number → OfKind is_return (sites.site number)

abbrev pub TypedBody : Facts → Sites → Signature → Option EntryList → Type 0
TypedBody facts sites f None = ⊥
TypedBody facts sites f (Some body) = TypedEntries facts sites (length f.locals) f.result false body

abbrev pub GivesInt : Option Signature → Type 0
GivesInt None = ⊥
GivesInt (Some f) = f.result ≡ type.Number Int

-- Each function with a signature has a body whose types fit, `main` is one that gives an `int`, and the globals have their values.
pub record SourceFits (src : Source) : Type 0 where
  pub sites : SitesFit src.sites
  pub bodies : (number : ℕ) (f : Signature) → src.facts.signature number ≡ Some f → TypedBody src.facts src.sites f (src.body number)
  pub main : GivesInt (src.facts.signature src.main)
  pub objects : IsSome src.objects

-- the same text without sites
abbrev pub without_sites : Source → Source
without_sites src = record src { sites = no_sites }
