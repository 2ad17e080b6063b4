-- Measures of what stands in a part of a text, which are no greater than those of its tokens.
use Rattle.std.proofs.Common.{ℕ, ◌≤◌, arith, List, [], ◌++◌}
use Rattle.std.specs.List.{sum_by}
use Rattle.std.proofs.lemmas.List.Sums.{sum_by-append}
use Rattle.c_syntax.specs.declared.token.TokenKind.{TokenKind}
use Rattle.c_syntax.specs.declared.token.Sign.TheVariants as sign
use Rattle.c_syntax.specs.Spelling.{Kinds, a_sign, parenthesized_kinds}

module _ {A : Type 0} (f : A → ℕ) (g : TokenKind → ℕ) where
  -- these things together measure no more than these tokens
  abbrev pub Within : List A → Kinds → Type 0
  Within xs ks = sum_by f xs ≤ sum_by g ks

  -- nothing measures nothing
  pub nothing : (ks : Kinds) → Within [] ks
  nothing ks = omega arith

  -- some things among some tokens, and others among the tokens behind them
  pub join : (xs ys : List A) (ks ls : Kinds) → Within xs ks → Within ys ls → Within (xs ++ ys) (ks ++ ls)
  join xs ys ks ls h k = omega (arith, h, k, sum_by-append f xs ys, sum_by-append g ks ls)

  -- more tokens may stand behind
  pub behind : (xs : List A) (ks ls : Kinds) → Within xs ks → Within xs (ks ++ ls)
  behind xs ks ls h = omega (arith, h, sum_by-append g ks ls)

  -- more tokens may stand before
  pub before : (xs : List A) (ks ls : Kinds) → Within xs ls → Within xs (ks ++ ls)
  before xs ks ls h = omega (arith, h, sum_by-append g ks ls)

  -- more tokens may stand on both sides
  pub between : (xs : List A) (ks ls ms : Kinds) → Within xs ls → Within xs (ks ++ ls ++ ms)
  between xs ks ls ms h = behind xs (ks ++ ls) ms (before xs ks ls h)

  -- so may parentheses
  pub enclosed : (xs : List A) (ks : Kinds) → Within xs ks → Within xs (parenthesized_kinds ks)
  enclosed xs ks h = between xs (a_sign sign.LeftParen) ks (a_sign sign.RightParen) h
