-- Accepted edits leave one collection, and additions alone are those of a collection.
use Rattle.std.proofs.Common.{◌≡◌, ◌≢◌, ◌+◌, ℕ, List, [], ◌∷◌, ◌++◌, Option, None, Some, IsSome, Result, Ok, Err, ap, sym, subst, ◌∙◌, refl, arith}
use Rattle.std.specs.Prelude.{map}
use Rattle.base_lists.proofs.Options.{none_some, some_is}
use Rattle.report_file.specs.declared.report.Report.{Report}
use Rattle.collector.specs.Collected.{Adds, IsOfCollection, report_at}
use Rattle.collector.specs.Sites.{first_bad}
use Rattle.collector.specs.Merging.{AddsAll}
use Rattle.collector.specs.declared.answers.Added.{Added}
use Rattle.collector.specs.declared.answers.Added.TheVariants.{New, Repeated}
use Rattle.collector.specs.declared.answers.AddFault.{AddFault}
use Rattle.collector.specs.declared.answers.AddFault.TheVariants.{Foreign, NoSite, Conflict, TooManyReports, TooManyMarks, Memory}
use Rattle.collector.specs.declared.answers.Merged.{Merged}
use Rattle.collector.specs.declared.collection.Held.{Held}
use Rattle.session_edits.specs.declared.edit.Edit.{Edit}
use Rattle.session_edits.specs.declared.edit.Edit.TheVariants.{Add, Remove, Relabel, Rank}
use Rattle.session_laws.specs.Accepted.{Accepts, IsFaulty, TakesEdit}

adds-once : (c a b : Held) (r : Report) (one other : Added) → Adds c r (Ok one) a → Adds c r (Ok other) b → a ≡ b
adds-once c a b r New New s t = s.4 ∙ sym t.4
adds-once c a b r New Repeated s t = absurd (none_some (sym s.1 ∙ t.1))
adds-once c a b r Repeated New s t = absurd (none_some (sym t.1 ∙ s.1))
adds-once c a b r Repeated Repeated s t = s.2 ∙ sym t.2

takes-once : (c a b : Held) (e : Edit) → TakesEdit c e a → TakesEdit c e b → a ≡ b
takes-once c a b (Add r) s t = adds-once c a b r s.0 t.0 s.1 t.1
takes-once c a b (Remove run) s t = s.1 ∙ sym t.1
takes-once c a b (Relabel run label) s t = s.1 ∙ sym t.1
takes-once c a b Rank s t = s ∙ sym t

pub accepts-once : (edits : List Edit) (c a b : Held) → Accepts c edits a → Accepts c edits b → a ≡ b
accepts-once [] c a b s t = s ∙ sym t
accepts-once (e ∷ more) c a b s t =
    accepts-once more s.0 a b s.2 (subst (λ (h : Held). Accepts h more b) (takes-once c t.0 s.0 e t.1 s.1) t.2)

-- a report that is refused isn't added
both-ours : (c : Held) (r : Report) (site : ℕ) → first_bad c.branches r.entries ≡ Some site → IsOfCollection c r → ⊥
both-ours c r site bad ours = none_some (sym ours.sites ∙ bad)

refused-new : (c next : Held) (r : Report) (fault : AddFault) → fault ≢ Memory → Adds c r (Err fault) c → Adds c r (Ok New) next → ⊥
refused-new c next r (Foreign ours theirs) not_memory s t = s.2 (s.0 ∙ sym t.0.program ∙ sym s.1)
refused-new c next r (NoSite run site) not_memory s t = both-ours c r site s.2 t.0
refused-new c next r (Conflict run) not_memory s t = none_some (sym t.1 ∙ sym (ap (λ n. report_at n c.reports) s.1) ∙ s.2.1)
refused-new c next r (TooManyReports run) not_memory s t = omega (arith, s.3, t.2)
refused-new c next r (TooManyMarks run) not_memory s t = omega (arith, s.4, t.3)
refused-new c next r Memory not_memory s t = not_memory refl

refused-repeated : (c next : Held) (r : Report) (fault : AddFault) → fault ≢ Memory → Adds c r (Err fault) c → Adds c r (Ok Repeated) next → ⊥
refused-repeated c next r (Foreign ours theirs) not_memory s t = s.2 (s.0 ∙ sym t.0.program ∙ sym s.1)
refused-repeated c next r (NoSite run site) not_memory s t = both-ours c r site s.2 t.0
refused-repeated c next r (Conflict run) not_memory s t = s.2.2 (some_is (sym s.2.1 ∙ ap (λ n. report_at n c.reports) s.1 ∙ t.1))
refused-repeated c next r (TooManyReports run) not_memory s t = none_some (sym s.2 ∙ ap (λ n. report_at n c.reports) s.1 ∙ t.1)
refused-repeated c next r (TooManyMarks run) not_memory s t = none_some (sym s.2 ∙ ap (λ n. report_at n c.reports) s.1 ∙ t.1)
refused-repeated c next r Memory not_memory s t = not_memory refl

refused-added : (c next : Held) (r : Report) (fault : AddFault) (what : Added) → fault ≢ Memory → Adds c r (Err fault) c → Adds c r (Ok what) next → ⊥
refused-added c next r fault New not_memory s t = refused-new c next r fault not_memory s t
refused-added c next r fault Repeated not_memory s t = refused-repeated c next r fault not_memory s t

is-not-none : (o : Option Report) → o ≡ None → IsSome o → ⊥
is-not-none None h is = cc
is-not-none (Some r) h is = none_some (sym h)

faulty-taken : (c next : Held) (e : Edit) → IsFaulty c e → TakesEdit c e next → ⊥
faulty-taken c next (Add r) f t = refused-added c next r f.0 t.0 f.1.not_memory f.1.adds t.1
faulty-taken c next (Remove run) f t = is-not-none (report_at run c.reports) f t.0
faulty-taken c next (Relabel run label) f t = is-not-none (report_at run c.reports) f t.0
faulty-taken c next Rank f t = f

pub none-faulty : (before : List Edit) (c at after : Held) (more : List Edit) (e : Edit) → Accepts c before at → IsFaulty at e → Accepts c (before ++ e ∷ more) after → ⊥
none-faulty [] c at after more e first f all = faulty-taken c all.0 e (subst (λ (h : Held). IsFaulty h e) first f) all.1
none-faulty (x ∷ xs) c at after more e first f all =
    none-faulty xs first.0 at after more e first.2 f (subst (λ (h : Held). Accepts h (xs ++ e ∷ more) after) (takes-once c all.0 first.0 x all.1 first.1) all.2)

-- edits behind others
pub accepts-more : (before : List Edit) (c at after : Held) (more : List Edit) → Accepts c before at → Accepts at more after → Accepts c (before ++ more) after
accepts-more [] c at after more first second = subst (λ (h : Held). Accepts h more after) first second
accepts-more (x ∷ xs) c at after more first second = (first.0, first.1, accepts-more xs first.0 at after more first.2 second)

-- additions alone
abbrev Counted : Held → List Report → ℕ → ℕ → Held → Type 0
Counted c reports added repeated after = (merged : Merged) × AddsAll c reports added repeated (Ok merged) after

collected-by : (r : Report) (more : List Report) (c next after : Held) (added repeated : ℕ) (what : Added) → Adds c r (Ok what) next → ((a b : ℕ) → Counted next more a b after) → Counted c (r ∷ more) added repeated after
collected-by r more c next after added repeated New adds rest = let all = rest (added + 1) repeated in (all.0, (Ok New, next, adds, all.1))
collected-by r more c next after added repeated Repeated adds rest = let all = rest added (repeated + 1) in (all.0, (Ok Repeated, next, adds, all.1))

collected : (reports : List Report) (c after : Held) (added repeated : ℕ) → Accepts c (map Add reports) after → Counted c reports added repeated after
collected [] c after added repeated accepts = (record { added = added; repeated = repeated }, (refl, accepts))
collected (r ∷ more) c after added repeated accepts = collected-by r more c accepts.0 after added repeated accepts.1.0 accepts.1.1 (λ a b. collected more accepts.0 after a b accepts.2)

pub additions-taken : (c after : Held) (reports : List Report) → Accepts c (map Add reports) after → Counted c reports 0 0 after
additions-taken c after reports accepts = collected reports c after 0 0 accepts

additions-by : (r : Report) (more : List Report) (c next after : Held) (added repeated : ℕ) (merged : Merged) (answer : Result Added AddFault) → Adds c r answer next
    → (let rest : Type 0 = elim answer [ Ok what ↦ elim what [ New ↦ AddsAll next more (added + 1) repeated (Ok merged) after | Repeated ↦ AddsAll next more added (repeated + 1) (Ok merged) after ] | Err fault ↦ (Ok merged ≡ Err fault) × (after ≡ next) ] in rest)
    → ((a b : ℕ) → AddsAll next more a b (Ok merged) after → Accepts next (map Add more) after) → Accepts c (map Add (r ∷ more)) after
additions-by r more c next after added repeated merged (Ok New) adds rest on = (next, (New, adds), on (added + 1) repeated rest)
additions-by r more c next after added repeated merged (Ok Repeated) adds rest on = (next, (Repeated, adds), on added (repeated + 1) rest)
additions-by r more c next after added repeated merged (Err fault) adds rest on = let e = rest.0 in cc

additions : (reports : List Report) (c after : Held) (added repeated : ℕ) (merged : Merged) → AddsAll c reports added repeated (Ok merged) after → Accepts c (map Add reports) after
additions [] c after added repeated merged all = all.1
additions (r ∷ more) c after added repeated merged all = additions-by r more c all.1 after added repeated merged all.0 all.2 all.3 (λ a b rest. additions more all.1 after a b merged rest)

pub additions-only : (c after : Held) (reports : List Report) (merged : Merged) → AddsAll c reports 0 0 (Ok merged) after → Accepts c (map Add reports) after
additions-only c after reports merged all = additions reports c after 0 0 merged all
