-- The strings of an expression are among its tokens.
use Rattle.std.proofs.Common.{◌≡◌, ℕ, ◌+◌, ◌≤◌, List, [], ◌∷◌, ◌++◌, length, sum_by, arith}
use Rattle.std.proofs.lemmas.List.Sums.{sum_by-append, sum_by-cons}
use Rattle.c_syntax.specs.declared.token.TokenKind.TheVariants as kind
use Rattle.c_syntax.specs.ExprTree as e
use Rattle.c_syntax.specs.Words.{ExprTree, ExprList, LinkList, PostfixList, Kinds, expr_kinds, exprs_kinds, link_kinds, more_exprs_kinds, postfix_kinds}
use Rattle.c_syntax.specs.Words.{text_kinds, kind_text_len}
use Rattle.c_types_expressions.specs.Room.{expr_text, exprs_text, links_text, postfix_text}

-- how many bytes the strings among some tokens have
abbrev pub bytes_in : Kinds → ℕ
bytes_in ks = sum_by kind_text_len ks

pub bytes_both : (ks ls : Kinds) → bytes_in (ks ++ ls) ≡ bytes_in ks + bytes_in ls
bytes_both ks ls = sum_by-append kind_text_len ks ls

parts_bytes : (parts : List (List ℕ)) → sum_by length parts ≤ bytes_in (text_kinds parts)
parts_bytes [] = omega arith
parts_bytes (p ∷ ps) = omega (arith, parts_bytes ps, sum_by-cons length p ps, sum_by-cons kind_text_len (kind.Text p) (text_kinds ps))

mutual
  pub expr_bytes : (x : ExprTree) → expr_text x ≤ bytes_in (expr_kinds x)
  expr_bytes (e.Comma token operands) = exprs_bytes operands
  expr_bytes (e.Assign token x target value) = simp bytes_both (omega (arith, expr_bytes target, expr_bytes value))
  expr_bytes (e.Conditional token condition first second) =
      simp bytes_both (omega (arith, expr_bytes condition, expr_bytes first, expr_bytes second))
  expr_bytes (e.Chain level first links) = simp bytes_both (omega (arith, expr_bytes first, links_bytes links))
  expr_bytes (e.Cast token b stars operand) = simp bytes_both (omega (arith, expr_bytes operand))
  expr_bytes (e.Prefix token operator operand) = simp bytes_both (omega (arith, expr_bytes operand))
  expr_bytes (e.Postfix primary operators) = simp bytes_both (omega (arith, expr_bytes primary, postfix_bytes operators))
  expr_bytes (e.Call token name arguments) = simp bytes_both (omega (arith, exprs_bytes arguments))
  expr_bytes (e.Strings token parts) = parts_bytes parts
  expr_bytes (e.Paren token inner) = simp bytes_both (omega (arith, expr_bytes inner))
  expr_bytes x = omega arith

  pub exprs_bytes : (xs : ExprList) → exprs_text xs ≤ bytes_in (exprs_kinds xs)
  exprs_bytes e.no_exprs = omega arith
  exprs_bytes (e.more_exprs x rest) = simp bytes_both (omega (arith, expr_bytes x, more_exprs_bytes rest))

  more_exprs_bytes : (xs : ExprList) → exprs_text xs ≤ bytes_in (more_exprs_kinds xs)
  more_exprs_bytes e.no_exprs = omega arith
  more_exprs_bytes (e.more_exprs x rest) = simp bytes_both (omega (arith, expr_bytes x, more_exprs_bytes rest))

  links_bytes : (links : LinkList) → links_text links ≤ bytes_in (link_kinds links)
  links_bytes e.no_links = omega arith
  links_bytes (e.more_links token x operand rest) = simp bytes_both (omega (arith, expr_bytes operand, links_bytes rest))

  postfix_bytes : (operators : PostfixList) → postfix_text operators ≤ bytes_in (postfix_kinds operators)
  postfix_bytes e.no_postfix = omega arith
  postfix_bytes (e.index token x rest) = simp bytes_both (omega (arith, expr_bytes x, postfix_bytes rest))
  postfix_bytes (e.member token name rest) = simp bytes_both (omega (arith, postfix_bytes rest))
  postfix_bytes (e.arrow token name rest) = simp bytes_both (omega (arith, postfix_bytes rest))
  postfix_bytes (e.increment token rest) = simp bytes_both (omega (arith, postfix_bytes rest))
  postfix_bytes (e.decrement token rest) = simp bytes_both (omega (arith, postfix_bytes rest))
