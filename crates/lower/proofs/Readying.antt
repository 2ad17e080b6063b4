-- A program whose functions' nodes may stand is one that may be sampled.
use Rattle.std.proofs.Common.{◌≡◌, ℕ, refl, subst, List, Bool, true, false, Option, Some, None, slice_get}
use Rattle.std.specs.Prelude.{not, ◌||◌}
use Rattle.std.specs.List.{All}
use Rattle.std.proofs.lemmas.Bool.{false≢true}
use Rattle.std.proofs.lemmas.Option.{slice_get-get_or}
use Rattle.flow.specs.declared.node.Node.{Node}
use Rattle.flow.specs.declared.node.View.{View}
use Rattle.flow.specs.declared.node.View.TheVariants as view
use Rattle.flow.specs.declared.program.Function.{Function}
use Rattle.flow.specs.declared.program.ProgramParts.{ProgramParts}
use Rattle.flow.specs.declared.site.Site.{Site}
use Rattle.flow.specs.declared.site.SiteKind.{SiteKind}
use Rattle.flow.specs.declared.site.SiteKind.TheVariants as kind
use Rattle.flow.specs.Words.{view_at, view_in, view as view_of, ArePlain, IsBranch, IsBranchKind, IsPlain, IsReady}
use Rattle.c_meaning.specs.Words.{Source, is_branch}
use Rattle.lower.specs.Programs.{AreFunctionsOf}
use Rattle.lower_nodes.specs.Standing.{is_fork}
use Rattle.lower.specs.Ready.{AllMayStand, is_condition, may_stand}

plain_view : (site_of : ℕ → Option Site) (nodes : List Node) (v : View) → may_stand site_of nodes v ≡ true → IsPlain v
plain_view site_of nodes (view.Skips by next) e = false≢true e
plain_view site_of nodes (view.Tests site next) e = false≢true e
plain_view site_of nodes (view.Picks weight fast slow) e = false≢true e
plain_view site_of nodes (view.Imports next) e = false≢true e
plain_view site_of nodes (view.Exports next) e = false≢true e
plain_view site_of nodes v e = tt

plain_nodes : (site_of : ℕ → Option Site) (nodes : List Node) → AllMayStand site_of nodes → ArePlain nodes
plain_nodes site_of nodes all = λ k d l. plain_view site_of nodes (view_of _) (all.each k _ (slice_get-get_or nodes k d l))

-- no node of the program belongs to sampling
pub plain_program : (src : Source) (functions : List Function) → AreFunctionsOf src functions → All (λ f. ArePlain f.nodes) functions
plain_program src functions are = λ k d l. plain_nodes src.sites.site _ (are k _ (slice_get-get_or functions k d l)).stand

condition_kind : (k : SiteKind) → IsBranchKind k → is_branch k ≡ true
condition_kind (kind.Branch word) is = refl
condition_kind (kind.Return callee) is = absurd is
condition_kind (kind.Pair target slot partner) is = absurd is

condition_site : (s : Option Site) → IsBranch s → is_condition s ≡ true
condition_site None is = absurd is
condition_site (Some s) is = condition_kind s.kind is

-- a node that forks is a fork
pub fork_is : (v : View) → is_fork v ≡ true → (when_true when_false : ℕ) × (v ≡ view.Forks when_true when_false)
fork_is (view.Forks when_true when_false) e = (when_true, when_false, refl)
fork_is v e = absurd (false≢true e)

second_holds : (a b : Bool) → a ≡ true → (not a || b) ≡ true → b ≡ true
second_holds true b is e = e
second_holds false b is e = absurd (false≢true is)

module _ (src : Source) (site next : ℕ) (is : IsBranch (src.sites.site site)) where
  -- what stands behind the visit
  abbrev Behind : View → Type 0
  Behind v = (when_true when_false : ℕ) × (v ≡ view.Forks when_true when_false)

  at_node : (nodes : List Node) (place : ℕ) (x : Option Node) → AllMayStand src.sites.site nodes → slice_get nodes place ≡ x → view_at x ≡ view.Marks site next →
      Behind (view_at (slice_get nodes next))
  at_node nodes place None all here at = absurd (cc)
  at_node nodes place (Some x) all here at =
      fork_is (view_at (slice_get nodes next)) (second_holds (is_condition (src.sites.site site)) (is_fork (view_at (slice_get nodes next)))
      (condition_site (src.sites.site site) is) (subst (λ v. may_stand src.sites.site nodes v ≡ true) at (all.each place x here)))

  at_function : (functions : List Function) (function place : ℕ) (f : Option Function) → AreFunctionsOf src functions →
      slice_get functions function ≡ f → view_in f place ≡ view.Marks site next → Behind (view_in f next)
  at_function functions function place None are here at = absurd (cc)
  at_function functions function place (Some f) are here at = at_node f.nodes place (slice_get f.nodes place) (are function f here).stand refl at

-- the visit of a condition's site stands before the fork on it
pub ready_program : (src : Source) (p : ProgramParts) → AreFunctionsOf src p.functions → ((number : ℕ) → slice_get p.sites number ≡ src.sites.site number) → IsReady p
ready_program src p are sites function place site next at is =
    at_function src site next (subst IsBranch (sites site) is) p.functions function place (slice_get p.functions function) are refl at
