-- Of each number the first, beside reports that have these numbers as their runs.
use Rattle.std.specs.Prelude.{nat_lt}
use Rattle.std.proofs.Common.{◌≡◌, ℕ, Bool, true, false, cond, ◌==◌, List, [], ◌∷◌, ◌++◌, subst}
use Rattle.report_file.specs.declared.report.Report.{Report}
use Rattle.collector.specs.Collected.{with_report}
use Rattle.collector.specs.Order.{map_of}
use Rattle.collector.proofs.Ordering.{with_by}
use Rattle.headline.specs.Chain.{AreEach}
use Rattle.headline.specs.Handed.{firsts_by_number, with_first}

module _ {A : Type 0} (R : A → Report → Type 0) where
  pub each-both : (a b : List A) (xs ys : List Report) → AreEach R a xs → AreEach R b ys → AreEach R (a ++ b) (xs ++ ys)
  each-both [] b [] ys first second = second
  each-both [] b (x ∷ xs) ys first second = absurd first
  each-both (one ∷ a) b [] ys first second = absurd first
  each-both (one ∷ a) b (x ∷ xs) ys first second = (first.0, each-both a b xs ys first.1 second)

  placed-by : (p q : Bool) (one x : A) (r y : Report) (more rest : List A) (reports others : List Report) → R one r → AreEach R (x ∷ more) (y ∷ reports) → AreEach R rest others
      → AreEach R (cond p (one ∷ x ∷ more) (cond q (one ∷ more) (x ∷ rest))) (with_by p q r y reports others)
  placed-by true q one x r y more rest reports others is are left = (is, are)
  placed-by false true one x r y more rest reports others is are left = (is, are.1)
  placed-by false false one x r y more rest reports others is are left = (are.0, left)

  module _ (number : A → ℕ) (numbered : (one : A) (r : Report) → R one r → number one ≡ r.run) where
    pub placed : (one : A) (r : Report) (more : List A) (reports : List Report) → R one r → AreEach R more reports → AreEach R (with_first number one more) (with_report r reports)
    placed one r [] [] is are = (is, tt)
    placed one r [] (y ∷ reports) is are = absurd are
    placed one r (x ∷ more) [] is are = absurd are
    placed one r (x ∷ more) (y ∷ reports) is are =
        let others = with_report r reports in
        let goes = placed-by (nat_lt (number one) (number x)) (number one == number x) one x r y more (with_first number one more) reports others is are (placed one r more reports is are.1) in
        subst (λ n. AreEach R (with_first number one (x ∷ more)) (with_by (nat_lt n y.run) (n == y.run) r y reports others)) (numbered one r is)
        (subst (λ n. AreEach R (with_first number one (x ∷ more)) (with_by (nat_lt (number one) n) (number one == n) r y reports others)) (numbered x y are.0) goes)

    pub each-first : (all : List A) (reports : List Report) → AreEach R all reports → AreEach R (firsts_by_number number all) (map_of reports)
    each-first [] [] are = tt
    each-first [] (r ∷ reports) are = absurd are
    each-first (one ∷ all) [] are = absurd are
    each-first (one ∷ all) (r ∷ reports) are = placed one r (firsts_by_number number all) (map_of reports) are.0 (each-first all reports are.1)
