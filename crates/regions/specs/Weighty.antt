-- Which functions are weighty: those from which some chain of calls, maybe of none, leads to a function with a site. Only they are sampled
-- (PLDI 2003 section 2.3).
use Rattle.std.specs.Prelude.{◌≡◌, ℕ, List, map, slice_get, Contains}
use Rattle.flow.specs.declared.node.Node.{Node}
use Rattle.flow.specs.declared.node.View.{View}
use Rattle.flow.specs.declared.node.View.TheVariants.{Calls}
use Rattle.flow.specs.declared.program.Function.{Function}
use Rattle.flow.specs.declared.program.ProgramParts.{ProgramParts}
use Rattle.flow.specs.declared.site.Site.{Site}
use Rattle.flow.specs.Code.{view_at, view_in}

-- how control goes on at each of these nodes
abbrev pub views_of : List Node → ℕ → View
views_of nodes place = view_at (slice_get nodes place)

-- some node of the one function calls the other
pub record CallsTo (functions : List Function) (caller callee : ℕ) : Type 0 where
  pub place : ℕ
  pub next : ℕ
  pub is : view_in (slice_get functions caller) place ≡ Calls callee next

-- some site stands in the function
abbrev pub HasSite : List Site → ℕ → Type 0
HasSite sites function = Contains (map (λ s. s.function) sites) function

pub data IsWeighty (p : ProgramParts) : ℕ → Type 0 where
  Own : {function : ℕ} → HasSite p.sites function → IsWeighty p function
  Through : {function callee : ℕ} → CallsTo p.functions function callee → IsWeighty p callee → IsWeighty p function
