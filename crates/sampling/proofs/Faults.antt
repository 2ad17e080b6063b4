-- A site that can't be observed: the run meets a fault of the program itself, or the fork on the condition traps alike.
use Rattle.std.proofs.Common.{◌≡◌, ◌⊎◌, inl, inr, ℕ, Bool, true, false, not, List, [], ◌∷◌, Option, None, Some, Ok, Err, ℤ, ap, slice_get}
use Rattle.cbi_base.specs.declared.outcome.Outcome.TheVariants.{Trapped}
use Rattle.cbi_base.specs.declared.scalar.Scalar.{Scalar}
use Rattle.cbi_base.specs.declared.scalar.Scalar.TheVariants.{Number, Place, Null, Undefined}
use Rattle.cbi_base.specs.declared.trap.Trap.{Trap}
use Rattle.cbi_base.specs.declared.trap.Trap.TheVariants as fault
use Rattle.cbi_base.specs.Words.{is_zero, truth_of}
use Rattle.flow.specs.declared.site.Site.{Site}
use Rattle.flow.specs.declared.site.SiteKind.{SiteKind}
use Rattle.flow.specs.declared.site.SiteKind.TheVariants.{Branch, Return, Pair}
use Rattle.flow.specs.Words.{fork, Now, any_on, State, run_ended, seen_at_site, sees_now, number_at, partner_number, seen_by, seen_pair, seen_truth, IsBranch, IsBranchKind}

-- the fork on the same operands stops with the trap
abbrev pub ForkTraps : List Scalar → Now → Trap → Type 0
ForkTraps operands d t = (a b : ℕ) (u : State) → fork a b (any_on operands d) u ≡ run_ended (Trapped t) u

abbrev pub Unseen : Option Site → List Scalar → Now → Trap → Type 0
Unseen site operands d t = (t ≡ fault.Internal) ⊎ (IsBranch site × ForkTraps operands d t)

truth_seen : (b : Bool) (t : Trap) → seen_truth (Ok b) ≡ Err t → ⊥
truth_seen true t e = cc
truth_seen false t e = cc

truth_fault : (top : Scalar) (below : List Scalar) (d : Now) (t : Trap) → seen_truth (truth_of top) ≡ Err t → ForkTraps (top ∷ below) d t
truth_fault (Number kind value) below d t e = absurd (truth_seen (not (is_zero value)) t e)
truth_fault (Place object offset) below d t e = cc
truth_fault Null below d t e = cc
truth_fault Undefined below d t e = λ a b u. let same : fault.Undefined ≡ t = cc in ap (λ (x : Trap). run_ended (Trapped x) u) same

pair_fault : (value partner : Option ℤ) (t : Trap) → seen_pair value partner ≡ Err t → t ≡ fault.Internal
pair_fault None partner t e = cc
pair_fault (Some value) None t e = cc
pair_fault (Some value) (Some partner) t e = cc

kind_fault : (k : SiteKind) (operands : List Scalar) (d : Now) (t : Trap) → seen_by k (slice_get operands 0) d.locals d.objects ≡ Err t →
    (t ≡ fault.Internal) ⊎ (IsBranchKind k × ForkTraps operands d t)
kind_fault (Branch word) [] d t e = inl cc
kind_fault (Branch word) (top ∷ below) d t e = inr (tt, truth_fault top below d t e)
kind_fault (Return callee) [] d t e = inl cc
kind_fault (Return callee) (top ∷ below) d t e = cc
kind_fault (Pair target slot partner) operands d t e = inl (pair_fault (number_at slot d.locals d.objects) (partner_number partner d.locals d.objects) t e)

pub unseen : (site : Option Site) (d : Now) (t : Trap) → sees_now site d ≡ Err t → Unseen site d.operands d t
unfolding seen_at_site
unseen None d t e = inl cc
unseen (Some s) d t e = kind_fault s.kind d.operands d t e
