-- Where the tokens of a part of a body stand: within the body's tokens, and with constants that lie in their kinds.
use Rattle.std.proofs.Common.{◌≡◌, ℕ, ◌≤◌, ◌<◌, ◌+◌, refl, arith, List, ◌∷◌, ◌++◌, Some, None, length, length-append}
use Rattle.std.specs.Prelude.{Option, slice_get}
use Rattle.std.specs.List.{AllByRecursion}
use Rattle.base_lists.proofs.Every.{all_first, all_second}
use Rattle.c_syntax.specs.declared.token.Sign.TheVariants as sign
use Rattle.c_syntax.specs.declared.token.TokenKind.{TokenKind}
use Rattle.c_syntax.specs.ExprTree as e
use Rattle.c_syntax.specs.Words.{ExprTree, ExprList, Kinds, a_sign, expr_kinds, exprs_kinds, more_exprs_kinds, parenthesized_kinds, KindFits}
use Rattle.flow.specs.declared.scope.Bounds.{Bounds}
use Rattle.flow.specs.declared.scope.Names.{Names}
use Rattle.flow.specs.Nodes.{step_limit}
use Rattle.c_meaning.specs.Words.{Facts, Sites, expression_count, site_list}
use Rattle.lower_fits.specs.FactsFit.{AllOwned, FactsFit, SitesOwned}
use Rattle.lower_fits.specs.Fitting.{TextsNamed}

-- the token is one from `lo` on, and before `hi`
pub record Inside (lo hi token : ℕ) : Type 0 where
  pub from : lo ≤ token
  pub before : token < hi

-- tokens of these kinds, of which the first one is `at`, are from `lo` on, and before `hi`
pub record Lies (lo hi at : ℕ) (kinds : Kinds) : Type 0 where
  pub from : lo ≤ at
  pub before : at + length kinds ≤ hi
  pub constants : AllByRecursion KindFits kinds

module _ (lo hi : ℕ) where
  -- the first one of some tokens
  pub inside : (at token : ℕ) (kind : TokenKind) (kinds : Kinds) → token ≡ at → Lies lo hi at (kind ∷ kinds) → Inside lo hi token
  inside at token kind kinds e l = record { from = omega (arith, l.from); before = omega (arith, l.before) }

  -- the front of some tokens
  pub front : (at : ℕ) (xs ys : Kinds) → Lies lo hi at (xs ++ ys) → Lies lo hi at xs
  front at xs ys l = record {
    from = l.from;
    before = omega (arith, l.before, length-append xs ys);
    constants = all_first KindFits xs ys l.constants;
  }

  -- those behind the front
  pub back : (at behind : ℕ) (xs ys : Kinds) → behind ≡ at + length xs → Lies lo hi at (xs ++ ys) → Lies lo hi behind ys
  back at behind xs ys e l = record {
    from = omega (arith, l.from);
    before = omega (arith, l.before, length-append xs ys);
    constants = all_second KindFits xs ys l.constants;
  }

  -- those behind the first one
  pub after : (at behind : ℕ) (kind : TokenKind) (kinds : Kinds) → behind ≡ at + 1 → Lies lo hi at (kind ∷ kinds) → Lies lo hi behind kinds
  after at behind kind kinds e l = record {
    from = omega (arith, l.from);
    before = omega (arith, l.before);
    constants = l.constants.1;
  }

  -- those within parentheses
  pub enclosed : (at behind : ℕ) (xs : Kinds) → behind ≡ at + 1 → Lies lo hi at (parenthesized_kinds xs) → Lies lo hi behind xs
  enclosed at behind xs e l = front behind xs (a_sign sign.RightParen) (after at behind _ (xs ++ a_sign sign.RightParen) e l)

  -- expressions with commas between them, if there are any
  abbrev pub AllLie : ℕ → ExprList → Type 0
  AllLie at e.no_exprs = Unit {0}
  AllLie at (e.more_exprs x rest) = Lies lo hi at (exprs_kinds (e.more_exprs x rest))

  -- if there are none, nothing has to be known
  pub all_lie : (at : ℕ) (xs : ExprList) → Lies lo hi at (exprs_kinds xs) → AllLie at xs
  all_lie at e.no_exprs l = tt
  all_lie at (e.more_exprs x rest) l = l

  -- those behind the first one
  pub rest_lie : (at : ℕ) (x : ExprTree) (rest : ExprList) → Lies lo hi at (exprs_kinds (e.more_exprs x rest)) → AllLie (at + length (expr_kinds x) + 1) rest
  rest_lie at x e.no_exprs l = tt
  rest_lie at x (e.more_exprs y rest) l =
      after (at + length (expr_kinds x)) (at + length (expr_kinds x) + 1) _ (expr_kinds y ++ more_exprs_kinds rest) (omega arith)
      (back at (at + length (expr_kinds x)) (expr_kinds x) (more_exprs_kinds (e.more_exprs y rest)) (omega arith) l)

-- each expression but the first has its comma
more_counted : (xs : ExprList) → expression_count xs ≤ length (more_exprs_kinds xs)
more_counted e.no_exprs = omega arith
more_counted (e.more_exprs x rest) = omega (arith, more_counted rest, length-append (expr_kinds x) (more_exprs_kinds rest))

-- there are no more expressions than tokens, and one
pub counted : (xs : ExprList) → expression_count xs ≤ length (exprs_kinds xs) + 1
counted e.no_exprs = omega arith
counted (e.more_exprs x rest) = omega (arith, more_counted rest, length-append (expr_kinds x) (more_exprs_kinds rest))

-- what is known of a body's tokens and sites
pub record Known (names : Names) (bounds : Bounds) (facts : Facts) (sites : Sites) (lo hi : ℕ) : Type 0 where
  pub facts_fit : FactsFit facts names
  pub texts : TextsNamed facts names
  pub owned : SitesOwned sites names.owners bounds.function lo hi
  pub few : hi ≤ lo + step_limit

-- the sites of one function, if there is one
listed_owned : (owners : List ℕ) (number : ℕ) (o : Option ℕ) → ((site : ℕ) → o ≡ Some site → slice_get owners site ≡ Some number) → AllOwned owners number (site_list o)
listed_owned owners number None h = tt
listed_owned owners number (Some site) h = (h site refl, tt)

module _ (names : Names) (bounds : Bounds) (facts : Facts) (sites : Sites) (lo hi : ℕ) (known : Known names bounds facts sites lo hi) where
  -- the site of a condition is the function's
  pub branch_owned : (token : ℕ) → Inside lo hi token → AllOwned names.owners bounds.function (site_list (sites.branch_at token))
  branch_owned token i =
      listed_owned names.owners bounds.function (sites.branch_at token) (λ site e. known.owned.branches token site i.from i.before e)

  -- and so is that of a returned value
  pub return_owned : (token : ℕ) → Inside lo hi token → AllOwned names.owners bounds.function (site_list (sites.return_at token))
  return_owned token i =
      listed_owned names.owners bounds.function (sites.return_at token) (λ site e. known.owned.returns token site i.from i.before e)
