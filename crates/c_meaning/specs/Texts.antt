-- The meaning of a text whose types were checked, with a site table: the definition that compiled programs are held to.
use Rattle.std.specs.Prelude.{ℕ, suc, ◌==◌, ◌&&◌, Bool, true, false, List, [], ◌∷◌, if◌then◌else◌, Option, Some, None, slice_get, codes}
use Rattle.std.specs.Option.{unwrap_or}
use Rattle.c_syntax.specs.ItemTree.{SourceTree}
use Rattle.c_types_expressions.specs.declared.names.Meaning.{Meaning}
use Rattle.c_types_expressions.specs.declared.names.Meaning.TheVariants as name
use Rattle.c_types_expressions.specs.declared.walk.Walk.{Walk}
use Rattle.c_types_expressions.specs.Names.{declared_meaning}
use Rattle.flow.specs.declared.site.Site.{Site}
use Rattle.flow.specs.declared.site.SiteKind.{SiteKind}
use Rattle.flow.specs.declared.site.SiteKind.TheVariants.{Branch, Return, Pair}
use Rattle.c_meaning.specs.Facts.{Sites}
use Rattle.c_meaning.specs.Globals.{first_objects}
use Rattle.c_meaning.specs.Known.{function_bodies, facts_of}
use Rattle.c_meaning.specs.Runs.{Behaviour, Source, meaning}

abbrev pub is_branch : SiteKind → Bool
is_branch (Branch word) = true
is_branch kind = false

abbrev pub is_return : SiteKind → Bool
is_return (Return callee) = true
is_return kind = false

abbrev pub is_pair : SiteKind → Bool
is_pair (Pair target slot partner) = true
is_pair kind = false

-- the numbers of the sites at the token that are of this kind, where sites are counted from this number on
abbrev pub sites_from : ℕ → (SiteKind → Bool) → ℕ → List Site → List ℕ
sites_from number of_kind token [] = []
sites_from number of_kind token (s ∷ sites) =
    if s.token == token && of_kind s.kind then number ∷ sites_from (suc number) of_kind token sites else sites_from (suc number) of_kind token sites

abbrev pub head_site : List ℕ → Option ℕ
head_site [] = None
head_site (site ∷ more) = Some site

-- the sites of a table, by token
abbrev pub sites_by_table : List Site → Sites
sites_by_table table = record {
  branch_at = λ token. head_site (sites_from 0 is_branch token table);
  return_at = λ token. head_site (sites_from 0 is_return token table);
  pairs_at = λ token. sites_from 0 is_pair token table;
  site = slice_get table;
}

abbrev pub number_defined : Walk → Option Meaning → Option ℕ
number_defined w (Some (name.Function index)) = unwrap_or (slice_get w.defined_as index) None
number_defined w m = None

-- the number of the function `main`
abbrev pub main_of : Walk → ℕ
main_of w = unwrap_or (number_defined w (declared_meaning (codes "main") w.names)) 0

abbrev pub source_of : SourceTree → Walk → List Site → Source
source_of tree w table = record {
  facts = facts_of tree w;
  sites = sites_by_table table;
  body = slice_get (function_bodies tree);
  main = main_of w;
  objects = first_objects tree w;
}

-- what a text does on an input, where so many turns may be spent
abbrev pub text_meaning : SourceTree → Walk → List Site → List ℕ → ℕ → Behaviour
text_meaning tree w table input turns = meaning (source_of tree w table) input turns
