-- Additions have one answer: what was taken is refused for want of memory alone, and leaves one collection.
use Rattle.std.specs.Prelude.{is_err}
use Rattle.std.proofs.Common.{◌≡◌, inl, inr, ℕ, ◌+◌, List, [], ◌∷◌, Result, Ok, Err, Option, Some, None, refl, ap, sym, subst, ◌∙◌, arith}
use Rattle.std.proofs.lemmas.Bool.{false≢true}
use Rattle.collector.proofs.Taking.{err-is}
use Rattle.base_lists.proofs.Options.{none_some, some_is}
use Rattle.report_file.specs.declared.report.Report.{Report}
use Rattle.collector.specs.declared.answers.Added.{Added}
use Rattle.collector.specs.declared.answers.Added.TheVariants.{New, Repeated}
use Rattle.collector.specs.declared.answers.AddFault.{AddFault}
use Rattle.collector.specs.declared.answers.AddFault.TheVariants.{Foreign, NoSite, Conflict, TooManyReports, TooManyMarks, Memory}
use Rattle.collector.specs.declared.answers.Merged.{Merged}
use Rattle.collector.specs.declared.collection.Bundle.{Bundle}
use Rattle.collector.specs.declared.collection.Held.{Held}
use Rattle.collector.specs.Collected.{Adds, report_at}
use Rattle.collector.specs.Merging.{AddsAll, Merges, OfAnother, OfThis}
use Rattle.command_collect.specs.Collect.{MeetsFault, TakesAll}

both : {A : Type 0} (o : Option A) (x : A) → o ≡ None → o ≡ Some x → ⊥
both o x n s = none_some (sym n ∙ s)

ok-err : {A E : Type 0} (r : Result A E) (a : A) (e : E) → r ≡ Ok a → r ≡ Err e → ⊥
ok-err r a e p q = false≢true (ap is_err (sym p ∙ q))

-- a report that was added is refused for want of memory alone
adds-fault : (c : Held) (r : Report) (what : Added) (fault : AddFault) (n m : Held) → Adds c r (Ok what) n → Adds c r (Err fault) m → fault ≡ Memory
adds-fault c r New (Foreign ours theirs) n m a f = absurd (f.2 (f.0 ∙ sym a.0.program ∙ sym f.1))
adds-fault c r New (NoSite run site) n m a f = absurd (both _ _ a.0.sites f.2)
adds-fault c r New (Conflict run) n m a f = absurd (both _ f.2.0 a.1 (subst (λ k. report_at k c.reports ≡ Some f.2.0) f.1 f.2.1))
adds-fault c r New (TooManyReports run) n m a f = absurd (omega (arith, a.2, f.3))
adds-fault c r New (TooManyMarks run) n m a f = absurd (omega (arith, a.3, f.4))
adds-fault c r New Memory n m a f = refl
adds-fault c r Repeated (Foreign ours theirs) n m a f = absurd (f.2 (f.0 ∙ sym a.0.program ∙ sym f.1))
adds-fault c r Repeated (NoSite run site) n m a f = absurd (both _ _ a.0.sites f.2)
adds-fault c r Repeated (Conflict run) n m a f =
    absurd (f.2.2 (some_is (sym (subst (λ k. report_at k c.reports ≡ Some f.2.0) f.1 f.2.1) ∙ a.1)))
adds-fault c r Repeated (TooManyReports run) n m a f = absurd (both _ r (subst (λ k. report_at k c.reports ≡ None) f.1 f.2) a.1)
adds-fault c r Repeated (TooManyMarks run) n m a f = absurd (both _ r (subst (λ k. report_at k c.reports ≡ None) f.1 f.2) a.1)
adds-fault c r Repeated Memory n m a f = refl

-- what is held after it was added is determined
record SameAdded (what other : Added) (n m : Held) : Type 0 where
  pub what_is : what ≡ other
  pub held_is : n ≡ m

adds-once : (c : Held) (r : Report) (what other : Added) (n m : Held) → Adds c r (Ok what) n → Adds c r (Ok other) m → SameAdded what other n m
adds-once c r New New n m a b = record { what_is = refl; held_is = a.4 ∙ sym b.4 }
adds-once c r New Repeated n m a b = absurd (both _ r a.1 b.1)
adds-once c r Repeated New n m a b = absurd (both _ r b.1 a.1)
adds-once c r Repeated Repeated n m a b = record { what_is = refl; held_is = a.2 ∙ sym b.2 }

-- the same of a list of reports
all-fault : (c : Held) (reports : List Report) (a p b q : ℕ) (m : Merged) (fault : AddFault) (x y : Held) → AddsAll c reports a p (Ok m) x → AddsAll c reports b q (Err fault) y → fault ≡ Memory
all-fault c [] a p b q m fault x y took stops = absurd (ok-err _ _ _ stops.0 refl)
all-fault c (r ∷ more) a p b q m fault x y (Err f, next, adds, rest) stops = absurd (ok-err _ _ _ refl rest.0)
all-fault c (r ∷ more) a p b q m fault x y (Ok what, next, adds, rest) (Err f, other, refuses, stop) =
    err-is _ _ stop.0 ∙ adds-fault c r what f next other adds refuses
all-fault c (r ∷ more) a p b q m fault x y (Ok New, next, adds, rest) (Ok New, other, again, stop) =
    all-fault next more _ _ _ _ m fault x y rest (subst (λ h. AddsAll h more (b + 1) q (Err fault) y) (sym (adds-once c r New New next other adds again).held_is) stop)
all-fault c (r ∷ more) a p b q m fault x y (Ok Repeated, next, adds, rest) (Ok Repeated, other, again, stop) =
    all-fault next more _ _ _ _ m fault x y rest (subst (λ h. AddsAll h more b (q + 1) (Err fault) y) (sym (adds-once c r Repeated Repeated next other adds again).held_is) stop)
all-fault c (r ∷ more) a p b q m fault x y (Ok New, next, adds, rest) (Ok Repeated, other, again, stop) = absurd (both _ r adds.1 again.1)
all-fault c (r ∷ more) a p b q m fault x y (Ok Repeated, next, adds, rest) (Ok New, other, again, stop) = absurd (both _ r again.1 adds.1)

all-once : (c : Held) (reports : List Report) (a p b q : ℕ) (m l : Merged) (x y : Held) → AddsAll c reports a p (Ok m) x → AddsAll c reports b q (Ok l) y → x ≡ y
all-once c [] a p b q m l x y one two = one.1 ∙ sym two.1
all-once c (r ∷ more) a p b q m l x y (Err f, next, adds, rest) two = absurd (ok-err _ _ _ refl rest.0)
all-once c (r ∷ more) a p b q m l x y (Ok what, next, adds, rest) (Err f, other, refuses, stop) = absurd (ok-err _ _ _ refl stop.0)
all-once c (r ∷ more) a p b q m l x y (Ok New, next, adds, rest) (Ok New, other, again, go) =
    all-once next more _ _ _ _ m l x y rest (subst (λ h. AddsAll h more (b + 1) q (Ok l) y) (sym (adds-once c r New New next other adds again).held_is) go)
all-once c (r ∷ more) a p b q m l x y (Ok Repeated, next, adds, rest) (Ok Repeated, other, again, go) =
    all-once next more _ _ _ _ m l x y rest (subst (λ h. AddsAll h more b (q + 1) (Ok l) y) (sym (adds-once c r Repeated Repeated next other adds again).held_is) go)
all-once c (r ∷ more) a p b q m l x y (Ok New, next, adds, rest) (Ok Repeated, other, again, go) = absurd (both _ r adds.1 again.1)
all-once c (r ∷ more) a p b q m l x y (Ok Repeated, next, adds, rest) (Ok New, other, again, go) = absurd (both _ r again.1 adds.1)

-- the same of a bundle
merges-fault : (c : Held) (bundle : Bundle) (m : Merged) (fault : AddFault) (x y : Held) → Merges c bundle (Ok m) x → Merges c bundle (Err fault) y → fault ≡ Memory
merges-fault c bundle m fault x y (OfAnother f) stops = absurd (ok-err _ _ _ refl f.result_is)
merges-fault c bundle m fault x y (OfThis of took) (OfAnother f) = absurd (f.other of)
merges-fault c bundle m fault x y (OfThis of took) (OfThis too stops) = all-fault c bundle.reports 0 0 0 0 m fault x y took stops

merges-once : (c : Held) (bundle : Bundle) (m l : Merged) (x y : Held) → Merges c bundle (Ok m) x → Merges c bundle (Ok l) y → x ≡ y
merges-once c bundle m l x y (OfAnother f) two = absurd (ok-err _ _ _ refl f.result_is)
merges-once c bundle m l x y (OfThis of took) (OfAnother f) = absurd (ok-err _ _ _ refl f.result_is)
merges-once c bundle m l x y (OfThis of took) (OfThis too again) = all-once c bundle.reports 0 0 0 0 m l x y took again

-- bundles that are all taken stop for want of memory alone
pub taken-stops : (c : Held) (bundles : List Bundle) (after : Held) (fault : AddFault) → TakesAll c bundles after → MeetsFault c bundles fault → fault ≡ Memory
taken-stops c [] after fault takes stops = absurd stops
taken-stops c (bundle ∷ more) after fault (m, next, merges, rest) (inl (other, stops)) = merges-fault c bundle m fault next other merges stops
taken-stops c (bundle ∷ more) after fault (m, next, merges, rest) (inr (l, other, again, stops)) =
    taken-stops next more after fault rest (subst (λ h. MeetsFault h more fault) (sym (merges-once c bundle m l next other merges again)) stops)
