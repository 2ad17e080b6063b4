-- One elimination, whatever the order of the runs.
use Rattle.std.proofs.Common.{◌≡◌, ◌≢◌, ℕ, ◌+◌, ◌≤◌, Bool, true, false, not, ◌&&◌, cond, List, [], ◌∷◌, length, refl, sym, ap, subst, ◌∙◌, arith}
use Rattle.std.specs.Prelude.{All, IsPermutation, sum_by}
use Rattle.std.proofs.lemmas.List.Elements.{All-cons, All-nil}
use Rattle.std.proofs.lemmas.List.Sums.{sum_by-cons, sum_by-le-sum_by}
use Rattle.cbi_base.specs.declared.policy.Policy.{Policy}
use Rattle.cbi_base.specs.declared.policy.Policy.TheVariants.{All as Every, Failing, Relabel}
use Rattle.fractions.specs.declared.tally.Tally.{Tally}
use Rattle.fractions.specs.Tally.{Passes}
use Rattle.elimination_tallies.specs.declared.labelled.LabelledRun.{LabelledRun}
use Rattle.elimination_tallies.specs.declared.listed.Listed.{Listed}
use Rattle.elimination.specs.Elimination.{IsElimination, runs_after_leader, all_entries_taken, entries_in, is_taken, run_as_successful}
use Rattle.elimination.specs.Laws.{AreListedOnce}
use Rattle.elimination_tallies.specs.Leading.{IsLeader, Leads, NonePasses}
use Rattle.elimination_tallies.specs.Predicates.{predicates_in}
use Rattle.elimination_tallies.specs.Recount.{failing_runs, is_failing, is_true, recount}
use Rattle.elimination_tallies.proofs.RunChanges.{SameSums, any-order-sums, same-failing, same-recount}
use Rattle.elimination.proofs.EliminationLemmas.{passes-positive}
use Rattle.elimination_tallies.proofs.ScanLemmas.{leads-same}

one-predicate : (numbers : ℕ → Tally) (count failing p q : ℕ) → Leads numbers count failing p → Leads numbers count failing q → p ≡ q
one-predicate numbers count failing p q a b = omega (arith, a.first q b.is_one b.passes (b.greatest p a.is_one a.passes), b.first p a.is_one a.passes (a.greatest q b.is_one b.passes))

listed-is : (one other : Listed) → one.predicate ≡ other.predicate → one.tally ≡ other.tally → one.failing ≡ other.failing → one ≡ other
listed-is one other p t f =
    let make : ℕ → Tally → ℕ → Listed = λ a b c. record { predicate = a; tally = b; failing = c } in
    ap (λ n. make n one.tally one.failing) p ∙ ap (λ (x : Tally). make other.predicate x one.failing) t ∙ ap (λ n. make other.predicate other.tally n) f

one-leader : (branches : List Bool) (runs : List LabelledRun) (one other : Listed) → IsLeader branches runs one → IsLeader branches runs other → one ≡ other
one-leader branches runs one other a b =
    let same = one-predicate (recount branches runs) (predicates_in branches) (failing_runs runs) one.predicate other.predicate a.leads b.leads in
    listed-is one other same (a.tally ∙ ap (recount branches runs) same ∙ sym b.tally) (a.failing ∙ sym b.failing)

not-none : (branches : List Bool) (runs : List LabelledRun) (row : Listed) → NonePasses branches runs → IsLeader branches runs row → ⊥
not-none branches runs row none leads = none row.predicate leads.leads.is_one leads.leads.passes

pub one-elimination : (branches : List Bool) (policy : Policy) (runs : List LabelledRun) (one other : List Listed) → IsElimination branches policy runs one → IsElimination branches policy runs other → one ≡ other
one-elimination branches policy runs [] [] a b = refl
one-elimination branches policy runs [] (row ∷ more) a b = absurd (not-none branches runs row a b.0)
one-elimination branches policy runs (row ∷ more) [] a b = absurd (not-none branches runs row b a.0)
one-elimination branches policy runs (row ∷ more) (other ∷ rest) a b =
    let same = one-leader branches runs row other a.0 b.0 in
    let others : IsElimination branches policy (runs_after_leader branches policy row.predicate runs) rest = subst (λ (x : Listed). IsElimination branches policy (runs_after_leader branches policy x.predicate runs) rest) (sym same) b.1 in
    ap (λ (x : Listed). x ∷ more) same ∙ ap (λ xs. other ∷ xs) (one-elimination branches policy (runs_after_leader branches policy row.predicate runs) more rest a.1 others)

-- a sum over the runs that a policy leaves, as a sum over all
abbrev left_part : List Bool → Policy → ℕ → (LabelledRun → ℕ) → LabelledRun → ℕ
left_part branches Every leader f r = cond (not (is_taken branches Every leader r)) (f r) 0
left_part branches Failing leader f r = cond (not (is_taken branches Failing leader r)) (f r) 0
left_part branches Relabel leader f r = f (cond (is_taken branches Relabel leader r) (run_as_successful r) r)

keep-sum : (f : LabelledRun → ℕ) (r : LabelledRun) (rest : List LabelledRun) (keep : Bool) → sum_by f (cond keep (r ∷ rest) rest) ≡ cond keep (f r) 0 + sum_by f rest
keep-sum f r rest true = sum_by-cons f r rest
keep-sum f r rest false = omega arith

after-sum : (branches : List Bool) (policy : Policy) (leader : ℕ) (f : LabelledRun → ℕ) (runs : List LabelledRun) → sum_by f (runs_after_leader branches policy leader runs) ≡ sum_by (left_part branches policy leader f) runs
after-sum branches Every leader f (r ∷ more) =
    omega (arith, keep-sum f r (runs_after_leader branches Every leader more) (not (is_taken branches Every leader r)), after-sum branches Every leader f more, sum_by-cons (left_part branches Every leader f) r more)
after-sum branches Failing leader f (r ∷ more) =
    omega (arith, keep-sum f r (runs_after_leader branches Failing leader more) (not (is_taken branches Failing leader r)), after-sum branches Failing leader f more, sum_by-cons (left_part branches Failing leader f) r more)
after-sum branches Relabel leader f (r ∷ more) =
    omega (arith, sum_by-cons f (cond (is_taken branches Relabel leader r) (run_as_successful r) r) (runs_after_leader branches Relabel leader more), after-sum branches Relabel leader f more, sum_by-cons (left_part branches Relabel leader f) r more)
after-sum branches Every leader f [] = refl
after-sum branches Failing leader f [] = refl
after-sum branches Relabel leader f [] = refl

same-after : (branches : List Bool) (policy : Policy) (leader : ℕ) (xs ys : List LabelledRun) → SameSums xs ys → SameSums (runs_after_leader branches policy leader xs) (runs_after_leader branches policy leader ys)
same-after branches policy leader xs ys same = record {
  sums = λ f. after-sum branches policy leader f xs ∙ same.sums (left_part branches policy leader f) ∙ sym (after-sum branches policy leader f ys);
}

same-leader : (branches : List Bool) (xs ys : List LabelledRun) (row : Listed) → SameSums xs ys → IsLeader branches xs row → IsLeader branches ys row
same-leader branches xs ys row same leads = record {
  leads = subst (λ (n : ℕ). Leads (recount branches ys) (predicates_in branches) n row.predicate) (same-failing xs ys same)
      (leads-same (recount branches xs) (recount branches ys) (predicates_in branches) (failing_runs xs) row.predicate (λ q _. same-recount branches xs ys q same) leads.leads);
  tally = leads.tally ∙ same-recount branches xs ys row.predicate same;
  failing = leads.failing ∙ same-failing xs ys same;
}

same-elimination : (branches : List Bool) (policy : Policy) (xs ys : List LabelledRun) (rows : List Listed) → SameSums xs ys → IsElimination branches policy xs rows → IsElimination branches policy ys rows
same-elimination branches policy xs ys [] same none = λ q less passes. none q less (subst Passes (sym (same-recount branches xs ys q same)) passes)
same-elimination branches policy xs ys (row ∷ more) same is =
    (same-leader branches xs ys row same is.0, same-elimination branches policy (runs_after_leader branches policy row.predicate xs) (runs_after_leader branches policy row.predicate ys) more (same-after branches policy row.predicate xs ys same) is.1)

pub any-order : (branches : List Bool) (policy : Policy) (runs others : List LabelledRun) (rows : List Listed) → IsPermutation runs others → IsElimination branches policy runs rows → IsElimination branches policy others rows
any-order branches policy runs others rows order is = same-elimination branches policy runs others rows (any-order-sums runs others order) is

-- the failing runs in which a predicate was true, among those left
abbrev true_fails : List Bool → ℕ → LabelledRun → ℕ
true_fails branches p r = cond (is_failing r.label && is_true branches p r) 1 0

kept-less : (n : ℕ) (keep : Bool) → cond keep n 0 ≤ n
kept-less n true = omega arith
kept-less n false = omega arith

passed-less : (branches : List Bool) (p : ℕ) (r : LabelledRun) (taken : Bool) → true_fails branches p (cond taken (run_as_successful r) r) ≤ true_fails branches p r
passed-less branches p r true = omega arith
passed-less branches p r false = omega arith

part-less : (branches : List Bool) (policy : Policy) (leader p : ℕ) (r : LabelledRun) → left_part branches policy leader (true_fails branches p) r ≤ true_fails branches p r
part-less branches Every leader p r = kept-less (true_fails branches p r) (not (is_taken branches Every leader r))
part-less branches Failing leader p r = kept-less (true_fails branches p r) (not (is_taken branches Failing leader r))
part-less branches Relabel leader p r = passed-less branches p r (is_taken branches Relabel leader r)

pub true-falls : (branches : List Bool) (policy : Policy) (leader p : ℕ) (runs : List LabelledRun) → (recount branches (runs_after_leader branches policy leader runs) p).a ≤ (recount branches runs p).a
true-falls branches policy leader p runs =
    omega (arith, after-sum branches policy leader (true_fails branches p) runs, sum_by-le-sum_by (left_part branches policy leader (true_fails branches p)) (true_fails branches p) runs (part-less branches policy leader p))

none-all : (f t : Bool) → ◌≡◌ {A = ℕ} (cond (not t) (cond (f && t) 1 0) 0) 0
none-all true true = refl
none-all true false = refl
none-all false true = refl
none-all false false = refl

none-failing : (f t : Bool) → ◌≡◌ {A = ℕ} (cond (not (f && t)) (cond (f && t) 1 0) 0) 0
none-failing true true = refl
none-failing true false = refl
none-failing false true = refl
none-failing false false = refl

none-relabelled : (branches : List Bool) (leader : ℕ) (r : LabelledRun) (taken : Bool) → (is_failing r.label && is_true branches leader r) ≡ taken → true_fails branches leader (cond taken (run_as_successful r) r) ≡ 0
none-relabelled branches leader r true is = refl
none-relabelled branches leader r false is = ap (λ b. cond b 1 0) is

part-none : (branches : List Bool) (policy : Policy) (leader : ℕ) (r : LabelledRun) → left_part branches policy leader (true_fails branches leader) r ≡ 0
part-none branches Every leader r = none-all (is_failing r.label) (is_true branches leader r)
part-none branches Failing leader r = none-failing (is_failing r.label) (is_true branches leader r)
part-none branches Relabel leader r = none-relabelled branches leader r (is_failing r.label && is_true branches leader r) refl

sum-none : (f : LabelledRun → ℕ) (runs : List LabelledRun) → ((r : LabelledRun) → f r ≡ 0) → sum_by f runs ≡ 0
sum-none f [] none = refl
sum-none f (r ∷ more) none = omega (arith, sum_by-cons f r more, none r, sum-none f more none)

leader-gone : (branches : List Bool) (policy : Policy) (leader : ℕ) (runs : List LabelledRun) → (recount branches (runs_after_leader branches policy leader runs) leader).a ≡ 0
leader-gone branches policy leader runs = after-sum branches policy leader (true_fails branches leader) runs ∙ sum-none (left_part branches policy leader (true_fails branches leader)) runs (part-none branches policy leader)

never-again : (branches : List Bool) (policy : Policy) (p : ℕ) (runs : List LabelledRun) (rows : List Listed) → (recount branches runs p).a ≡ 0 → IsElimination branches policy runs rows → All (λ (row : Listed). row.predicate ≢ p) rows
never-again branches policy p runs [] none is = All-nil (λ (row : Listed). row.predicate ≢ p)
never-again branches policy p runs (row ∷ more) none is =
    All-cons (λ (x : Listed). x.predicate ≢ p) row more (λ same. omega (arith, none, passes-positive (recount branches runs row.predicate) is.0.leads.passes, ap (λ n. (recount branches runs n).a) same))
    (never-again branches policy p (runs_after_leader branches policy row.predicate runs) more (omega (arith, true-falls branches policy row.predicate p runs, none)) is.1)

pub listed-once : (branches : List Bool) (policy : Policy) (runs : List LabelledRun) (rows : List Listed) → IsElimination branches policy runs rows → AreListedOnce rows
listed-once branches policy runs [] is = tt
listed-once branches policy runs (row ∷ more) is =
    (never-again branches policy row.predicate (runs_after_leader branches policy row.predicate runs) more (leader-gone branches policy row.predicate runs) is.1, listed-once branches policy (runs_after_leader branches policy row.predicate runs) more is.1)

-- the entries that a policy can still take
abbrev takeable : Policy → LabelledRun → ℕ
takeable Every r = length r.entries
takeable Failing r = cond (is_failing r.label) (length r.entries) 0
takeable Relabel r = cond (is_failing r.label) (length r.entries) 0

abbrev taken_part : List Bool → Policy → ℕ → LabelledRun → ℕ
taken_part branches policy leader r = cond (is_taken branches policy leader r) (length r.entries) 0

take-all : (n : ℕ) (t : Bool) → cond t n 0 + cond (not t) n 0 ≤ n
take-all n true = omega arith
take-all n false = omega arith

take-failing : (n : ℕ) (f t : Bool) → cond (f && t) n 0 + cond (not (f && t)) (cond f n 0) 0 ≤ cond f n 0
take-failing n true true = omega arith
take-failing n true false = omega arith
take-failing n false t = omega arith

take-relabelled : (r : LabelledRun) (n : ℕ) (f t : Bool) → is_failing r.label ≡ f → n ≡ length r.entries → cond (f && t) n 0 + takeable Relabel (cond (f && t) (run_as_successful r) r) ≤ cond f n 0
take-relabelled r n true true is len = omega arith
take-relabelled r n true false is len = omega (arith, len, ap (λ b. cond b (length r.entries) 0) is)
take-relabelled r n false t is len = omega (arith, ap (λ b. cond b (length r.entries) 0) is)

take-part : (branches : List Bool) (policy : Policy) (leader : ℕ) (r : LabelledRun) → taken_part branches policy leader r + left_part branches policy leader (takeable policy) r ≤ takeable policy r
take-part branches Every leader r = take-all (length r.entries) (is_true branches leader r)
take-part branches Failing leader r = take-failing (length r.entries) (is_failing r.label) (is_true branches leader r)
take-part branches Relabel leader r = take-relabelled r (length r.entries) (is_failing r.label) (is_true branches leader r) refl refl

sum-both : (f g h : LabelledRun → ℕ) (runs : List LabelledRun) → ((r : LabelledRun) → f r + g r ≤ h r) → sum_by f runs + sum_by g runs ≤ sum_by h runs
sum-both f g h [] less = omega arith
sum-both f g h (r ∷ more) less = omega (arith, sum_by-cons f r more, sum_by-cons g r more, sum_by-cons h r more, less r, sum-both f g h more less)

takes-most : (branches : List Bool) (policy : Policy) (runs : List LabelledRun) (rows : List Listed) → all_entries_taken branches policy runs rows ≤ sum_by (takeable policy) runs
takes-most branches policy runs [] = omega arith
takes-most branches policy runs (row ∷ more) =
    omega (arith, takes-most branches policy (runs_after_leader branches policy row.predicate runs) more, after-sum branches policy row.predicate (takeable policy) runs, sum-both (taken_part branches policy row.predicate) (left_part branches policy row.predicate (takeable policy)) (takeable policy) runs (take-part branches policy row.predicate))

takeable-most : (policy : Policy) (r : LabelledRun) → takeable policy r ≤ length r.entries
takeable-most Every r = omega arith
takeable-most Failing r = kept-less (length r.entries) (is_failing r.label)
takeable-most Relabel r = kept-less (length r.entries) (is_failing r.label)

pub taken-once : (branches : List Bool) (policy : Policy) (runs : List LabelledRun) (rows : List Listed) → all_entries_taken branches policy runs rows ≤ entries_in runs
taken-once branches policy runs rows = omega (arith, takes-most branches policy runs rows, sum_by-le-sum_by (takeable policy) (λ (r : LabelledRun). length r.entries) runs (takeable-most policy))
