-- How many arguments there are, and what calls do behind them.
use Rattle.std.proofs.Common.{◌≡◌, ◌≤◌, arith, ℕ, suc, ◌∙◌, ap, subst, refl, List, [], ◌∷◌, ◌++◌, length, Option, Some, None}
use Rattle.c_types_rules.specs.declared.library.Library.{Library}
use Rattle.c_types_rules.specs.declared.library.Library.TheVariants as library
use Rattle.c_syntax.specs.Words.{ExprList, plain_exprs}
use Rattle.c_syntax.specs.declared.expr.Expr.{Expr}
use Rattle.flow.specs.declared.node.Node.{Node}
use Rattle.flow.specs.declared.node.Node.TheVariants as node
use Rattle.flow.specs.declared.node.View.TheVariants as view
use Rattle.flow.specs.View.{view as view_of}
use Rattle.c_meaning.specs.declared.value_type.Called.TheVariants as called
use Rattle.c_meaning.specs.Words.{Facts, expression_count}
use Rattle.lower_nodes.specs.Made.{Made}
use Rattle.lower_nodes.proofs.Building.{nothing_made, one_made, view_made}
use Rattle.lower_operators.specs.Passing.{Acts, Formats, LibraryActs, library_node, number_of_first, arguments_after_first}

-- how many expressions there are
pub counted : (xs : List Expr) → expression_count (plain_exprs xs) ≡ length xs
counted [] = refl
counted (x ∷ xs) = ap suc (counted xs)

-- those behind the first one are no more
pub others_fewer : (xs : List Expr) → expression_count (arguments_after_first (plain_exprs xs)) ≤ length xs
others_fewer [] = omega arith
others_fewer (x ∷ xs) = omega (arith, counted xs)

same_node : (x y : Node) → Some x ≡ Some y → view_of x ≡ view_of y
same_node x y e = let same : x ≡ y = cc in ap view_of same

pub library_acted : (f : Library) (number : Option ℕ) (n : ℕ) (x : Node) (n0 n1 : List Node) (i k : ℕ) → Some x ≡ library_node f k →
    i ≡ length n0 → n1 ≡ n0 ++ x ∷ [] → Made (λ G. LibraryActs G f number n) n0 n1 i k
library_acted library.Getchar number n x n0 n1 i k e at is = one_made (node.Get 0) x n0 n1 i k (same_node x (node.Get k) e) at is
library_acted library.Putchar number n x n0 n1 i k e at is = one_made (node.Put 0) x n0 n1 i k (same_node x (node.Put k) e) at is
library_acted library.Puts number n x n0 n1 i k e at is = one_made (node.Puts 0) x n0 n1 i k (same_node x (node.Puts k) e) at is
library_acted library.Malloc number n x n0 n1 i k e at is = one_made (node.Alloc 0) x n0 n1 i k (same_node x (node.Alloc k) e) at is
library_acted library.Free number n x n0 n1 i k e at is = one_made (node.Free 0) x n0 n1 i k (same_node x (node.Free k) e) at is
library_acted library.Exit number n x n0 n1 i k e at is =
    view_made (λ k. view.Halts node.Exit) x n0 n1 i k (same_node x node.Exit e) at is (λ all b. tt) (λ s l same like. record { same = refl; visits = λ h. h; fork = λ f. f })
library_acted library.Abort number n x n0 n1 i k e at is =
    view_made (λ k. view.Halts node.Abort) x n0 n1 i k (same_node x node.Abort e) at is (λ all b. tt) (λ s l same like. record { same = refl; visits = λ h. h; fork = λ f. f })
library_acted library.Assert number n x n0 n1 i k e at is = one_made (node.Check 0) x n0 n1 i k (same_node x (node.Check k) e) at is
library_acted library.Printf number n x n0 n1 i k e at is = cc

pub printf_acted : (f : Library) (number : Option ℕ) (n : ℕ) (n0 n1 : List Node) (i k : ℕ) → None ≡ library_node f k →
    Made (λ G. Formats G number n) n0 n1 i k → Made (λ G. LibraryActs G f number n) n0 n1 i k
printf_acted library.Printf number n n0 n1 i k e made = made
printf_acted f number n n0 n1 i k e made = cc

module _ (facts : Facts) (xs : ExprList) where
  pub function_acted : (number : ℕ) (n0 n1 : List Node) (i k : ℕ) → i ≡ length n0 → n1 ≡ n0 ++ node.Call number k ∷ [] →
      Made (λ G. Acts G facts (called.Function number) xs) n0 n1 i k
  function_acted number n0 n1 i k at is =
      view_made (λ k. view.Calls number k) (node.Call number k) n0 n1 i k refl at is (λ all b. b) (λ s l same like. record { same = refl; visits = λ h. h; fork = λ f. f })

  pub call_acted : (f : Library) (number : Option ℕ) (ys : ExprList) (m : ℕ) (n0 n1 : List Node) (i k : ℕ) → number ≡ number_of_first facts xs →
      ys ≡ arguments_after_first xs → m ≡ expression_count ys → Made (λ G. LibraryActs G f number m) n0 n1 i k → Made (λ G. Acts G facts (called.Library f) xs) n0 n1 i k
  call_acted f number ys m n0 n1 i k is are counts made =
      subst (λ q. Made (λ G. LibraryActs G f (number_of_first facts xs) q) n0 n1 i k) (counts ∙ ap expression_count are)
      (subst (λ o. Made (λ G. LibraryActs G f o m) n0 n1 i k) is made)

  pub unknown_acted : (n : List Node) (k : ℕ) → Made (λ G. Acts G facts called.Unknown xs) n n k k
  unknown_acted n k = nothing_made n k

pub ruleset library_made = (library_acted, printf_acted)

pub ruleset acts_made = (function_acted, call_acted, unknown_acted)
