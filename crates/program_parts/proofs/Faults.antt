-- A site that can't be observed: the run meets a fault of the program itself, or the fork on the condition traps alike.
use Rattle.std.proofs.Common.{◌≡◌, ◌⊎◌, inl, inr, ℕ, Bool, true, false, List, [], ◌∷◌, Option, None, Some, Ok, Err, Result, ℤ, ap, slice_get}
use Rattle.cbi_base.specs.declared.outcome.Outcome.TheVariants.{Trapped}
use Rattle.cbi_base.specs.declared.scalar.Scalar.{Scalar}
use Rattle.cbi_base.specs.declared.trap.Trap.{Trap}
use Rattle.cbi_base.specs.declared.trap.Trap.TheVariants.{Internal}
use Rattle.cbi_base.specs.Scalars.{truth_of}
use Rattle.flow.specs.declared.site.Site.{Site}
use Rattle.flow.specs.declared.site.SiteKind.{SiteKind}
use Rattle.flow.specs.declared.site.SiteKind.TheVariants.{Branch, Return, Pair}
use Rattle.flow.specs.Words.{branch_on_truth, fork, Now, any_on, left_operands, State, run_ended, sees_now, seen_at_site, number_at, partner_number, seen_by, seen_pair, seen_truth}
use Rattle.flow.specs.Words.{IsBranch, IsBranchKind}

-- the fork on these operands stops with the trap
abbrev pub ForkTraps : List Scalar → Now → Trap → Type 0
ForkTraps operands d t = (a b : ℕ) (s : State) → fork a b (any_on operands d) s ≡ run_ended (Trapped t) s

abbrev pub Unlooked : Option Site → Now → Trap → Type 0
Unlooked site d t = (t ≡ Internal) ⊎ (IsBranch site × ForkTraps d.operands d t)

-- a condition that has no truth
truth_lacks : (truth : Result Bool Trap) (rest : Now) (t : Trap) → seen_truth truth ≡ Err t → (a b : ℕ) (s : State) → branch_on_truth a b rest truth s ≡ run_ended (Trapped t) s
truth_lacks (Ok true) rest t e = cc
truth_lacks (Ok false) rest t e = cc
truth_lacks (Err u) rest t e = λ a b s. let same : u ≡ t = cc in ap (λ (x : Trap). run_ended (Trapped x) s) same

pair_lacks : (value partner : Option ℤ) (t : Trap) → seen_pair value partner ≡ Err t → t ≡ Internal
pair_lacks None partner t e = cc
pair_lacks (Some value) None t e = cc
pair_lacks (Some value) (Some partner) t e = cc

kind_lacks : (k : SiteKind) (operands : List Scalar) (d : Now) (t : Trap) → seen_by k (slice_get operands 0) d.locals d.objects ≡ Err t → (t ≡ Internal) ⊎ (IsBranchKind k × ForkTraps operands d t)
kind_lacks (Branch word) [] d t e = inl cc
kind_lacks (Branch word) (top ∷ below) d t e = inr (tt, truth_lacks (truth_of top) (left_operands d below) t e)
kind_lacks (Return callee) [] d t e = inl cc
kind_lacks (Return callee) (top ∷ below) d t e = cc
kind_lacks (Pair target slot partner) operands d t e = inl (pair_lacks (number_at slot d.locals d.objects) (partner_number partner d.locals d.objects) t e)

pub unlooked : (site : Option Site) (d : Now) (t : Trap) → sees_now site d ≡ Err t → Unlooked site d t
unfolding seen_at_site
unlooked None d t e = inl cc
unlooked (Some s) d t e = kind_lacks s.kind d.operands d t e
