-- The parts made of an accepted text are few, and its sites are ones that a program takes.
use Rattle.std.proofs.Common.{◌≡◌, ℕ, ◌+◌, ◌*◌, ◌≤◌, ◌<◌, sym, subst₂, arith, inl, inr, List, [], map, length, sum_by, All}
use Rattle.std.proofs.lemmas.List.Elements.{All-nil, All-same}
use Rattle.c_syntax.specs.Words.{SourceTree, most_tokens}
use Rattle.c_types_expressions.specs.declared.walk.Definition.{Definition}
use Rattle.c_types_expressions.specs.declared.walk.Walk.{Walk}
use Rattle.flow.specs.declared.program.Function.{Function}
use Rattle.flow.specs.declared.site.Site.{Site}
use Rattle.flow.specs.Words.{function_limit, local_limit, site_limit, AreFew, AreSites, IsSite}
use Rattle.flow.specs.declared.choice.Schemes.{Schemes}
use Rattle.sites.specs.Table.{sites_of}
use Rattle.c_meaning_sound.specs.Sited.{count_of, local_counts}
use Rattle.lower_fits.specs.Ready.{AreSitesOf}
use Rattle.lower_fits.proofs.PartNumbers.{same_sums}

-- as many functions as definitions, with as many locals, and with few nodes for so many tokens and sites
pub few_functions : (functions : List Function) (definitions : List Definition) (tokens sites : ℕ) → length functions ≡ length definitions
    → map (λ f. length f.locals) functions ≡ map count_of definitions → 0 < length definitions → length definitions ≤ function_limit
    → sum_by count_of definitions ≤ local_limit → sum_by (λ f. length f.nodes) functions ≤ 16 * tokens + sites → tokens ≤ most_tokens → sites ≤ site_limit
    → AreFew functions
few_functions functions definitions tokens sites as_many counts some few together nodes short fewer = record {
  some = omega (arith, as_many, some);
  few = omega (arith, as_many, few);
  locals = omega (arith, same_sums (λ f. length f.locals) count_of functions definitions counts, together);
  nodes = omega (arith, nodes, short, fewer);
}

-- the sites of a text for some schemes stand where each table of the text does, and so do no sites
all_stand : (tree : SourceTree) (walk : Walk) (sites : List Site) → AreSitesOf tree walk sites
    → ((schemes : Schemes) → All (IsSite (local_counts walk) walk.globals) (sites_of tree walk schemes)) → All (IsSite (local_counts walk) walk.globals) sites
all_stand tree walk sites (inl e) stand = All-same (IsSite (local_counts walk) walk.globals) sites [] e (All-nil (IsSite (local_counts walk) walk.globals))
all_stand tree walk sites (inr (schemes, e)) stand =
    All-same (IsSite (local_counts walk) walk.globals) sites (sites_of tree walk schemes) e (stand schemes)

pub sites_fit : (tree : SourceTree) (walk : Walk) (sites : List Site) (counts : List ℕ) (globals : ℕ) → counts ≡ local_counts walk → globals ≡ walk.globals
    → length sites ≤ site_limit → AreSitesOf tree walk sites
    → ((schemes : Schemes) → All (IsSite (local_counts walk) walk.globals) (sites_of tree walk schemes)) → AreSites counts globals sites
sites_fit tree walk sites counts globals same count few own stand = record {
  few = few;
  each = subst₂ (λ locals many. All (IsSite locals many) sites) (sym same) (sym count) (all_stand tree walk sites own stand);
}
