-- What a run observes, it sees at sites that are there.
use Rattle.std.proofs.Common.{◌≡◌, ℕ, inl, inr, Bool, true, false, List, [], ◌∷◌, Option, None, Some, Result, Ok, Err, slice_get, subst, sym}
use Rattle.std.proofs.lemmas.List.Elements.{All-nil, All-push}
use Rattle.cbi_base.specs.declared.observation.Observation.{Observation}
use Rattle.cbi_base.specs.declared.observation.Seen.{Seen}
use Rattle.cbi_base.specs.declared.observation.Seen.TheVariants.{First, Second, Third, Nothing}
use Rattle.cbi_base.specs.declared.scalar.Scalar.{Scalar}
use Rattle.cbi_base.specs.declared.trap.Trap.{Trap}
use Rattle.cbi_base.specs.Words.{truth_of, Locals, Objects}
use Rattle.flow.specs.declared.program.ProgramParts.{ProgramParts}
use Rattle.flow.specs.declared.site.Site.{Site}
use Rattle.flow.specs.declared.site.SiteKind.{SiteKind}
use Rattle.flow.specs.declared.site.SiteKind.TheVariants.{Branch, Return, Pair}
use Rattle.flow.specs.Words.{code_of, MachineEnds, run_start, Now, IsProgram, Ending, seen_at_site, seen_by, seen_truth, sees_now}
use Rattle.flow.proofs.Endings.{one_end_from}
use Rattle.machine_laws.specs.Laws.{AreSeenAt, MaySee, SeesAt}
use Rattle.machine_laws.proofs.Ends.{run_ends}
use Rattle.machine_laws.proofs.Stepping.{Sees}

truth_sees : (word : _) (truth : Result Bool Trap) (seen : Seen) → seen_truth truth ≡ Ok seen → MaySee (Branch word) seen
truth_sees word (Ok true) Third e = cc
truth_sees word (Ok true) Nothing e = cc
truth_sees word (Ok false) Third e = cc
truth_sees word (Ok false) Nothing e = cc
truth_sees word (Err t) seen e = absurd (cc)
truth_sees word (Ok true) First e = tt
truth_sees word (Ok true) Second e = tt
truth_sees word (Ok false) First e = tt
truth_sees word (Ok false) Second e = tt

kind_sees : (kind : SiteKind) (value : Option Scalar) (locals : Locals) (objects : Objects) (seen : Seen) → seen_by kind value locals objects ≡ Ok seen → MaySee kind seen
kind_sees (Branch word) None locals objects seen e = absurd (cc)
kind_sees (Branch word) (Some value) locals objects seen e = truth_sees word (truth_of value) seen e
kind_sees (Return callee) value locals objects seen e = tt
kind_sees (Pair target slot partner) value locals objects seen e = tt

site_sees : (found : Option Site) (d : Now) (seen : Seen) → sees_now found d ≡ Ok seen → SeesAt found seen
unfolding seen_at_site
site_sees None d seen e = absurd (cc)
site_sees (Some site) d seen e = kind_sees site.kind (slice_get d.operands 0) d.locals d.objects seen e

step_sees : (p : ProgramParts) (bank : ℕ → ℕ) (before after : List Observation) → Sees (code_of p bank) before after → AreSeenAt p.sites before → AreSeenAt p.sites after
step_sees p bank before after (inl same) here = subst (AreSeenAt p.sites) (sym same) here
step_sees p bank before after (inr (site, seen, d, looks, more)) here =
    subst (AreSeenAt p.sites) (sym more)
    (All-push (λ (o : Observation). SeesAt (slice_get p.sites o.site) o.seen) before (record { site = site; seen = seen }) here (site_sees (slice_get p.sites site) d seen looks))

pub sees_what_it_may : (p : ProgramParts) (input : List ℕ) (bank : ℕ → ℕ) (turns : ℕ) (ending : Ending) → IsProgram p → MachineEnds p input bank turns ending →
    AreSeenAt p.sites ending.seen
sees_what_it_may p input bank turns ending is ends =
    let nothing = All-nil (λ (o : Observation). SeesAt (slice_get p.sites o.site) o.seen) in
    let run = run_ends p input bank turns (AreSeenAt p.sites) is (record { kept = step_sees p bank }) nothing in
    subst (λ (e : Ending). AreSeenAt p.sites e.seen) (one_end_from (code_of p bank) (run_start p input bank turns) run.0 ending run.1 ends) run.2
