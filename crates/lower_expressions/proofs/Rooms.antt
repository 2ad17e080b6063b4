-- How much room the parts of a list have.
use Rattle.std.specs.Prelude.{IfOk}
use Rattle.std.proofs.Common.{◌≡◌, ℕ, zero, suc, [], Result, Ok, Err, ◌+◌, ◌<◌, ◌≤◌, ◌∙◌, ap, refl, sym, arith, List, ◌∷◌, length, take, drop, get_or, true}
use Rattle.std.proofs.lemmas.List.{drop_more}
use Rattle.c_syntax.specs.ExprTree as e
use Rattle.c_syntax.specs.Words.{ExprTree, ExprList, PostfixList, plain_expr, plain_exprs, plain_links, plain_operators, plain_postfix}
use Rattle.c_syntax.specs.declared.expr.Expr.{Expr}
use Rattle.c_syntax.specs.declared.expr.Link.{Link}
use Rattle.c_syntax.specs.declared.expr.PostfixOperator.{PostfixOperator}
use Rattle.c_syntax.specs.declared.expr.PostfixOperator.TheVariants as postfix
use Rattle.c_syntax.proofs.PlainExprs.{plain_arrow_before, plain_decrement_before, plain_increment_before, plain_index_before, plain_member_before}
use Rattle.c_types_rules.specs.declared.library.Library.TheVariants as library
use Rattle.c_meaning.specs.declared.value_type.Called.{Called}
use Rattle.c_meaning.specs.declared.value_type.Called.TheVariants as called
use Rattle.c_meaning.specs.Facts.{Sites}
use Rattle.lower_relation.specs.Room.{branch_visits, expr_room, exprs_room, links_room, postfix_room}
use Rattle.lower_expressions.proofs.Chaining.{links_split}
use Rattle.lower_operators.specs.Passing.{arguments_after_first, arguments_passed}
use Rattle.lower_operators.specs.Spots.{is_nowhere}

-- what fits in some room fits in more
pub wider : {E : Type 0} (r : Result ℕ E) (grown old few more : ℕ) → IfOk r (λ i. grown ≤ old + few) → few ≤ more → IfOk r (λ i. grown ≤ old + more)
wider (Ok i) grown old few more fits less = omega (arith, fits, less)
wider (Err e) grown old few more fits less = tt

module _ (sites : Sites) where
  -- an expression before others
  pub exprs_more : (each : ℕ) (xs : List Expr) (m j : ℕ) (d : Expr) → m ≡ j + 1 → j < length xs → d ≡ get_or xs j d →
      each + expr_room sites (plain_expr d) + exprs_room sites each (plain_exprs (drop m xs)) ≡ exprs_room sites each (plain_exprs (drop j xs))
  exprs_more each xs m j d e low at = rw e (sym (ap (λ l. exprs_room sites each (plain_exprs l)) (drop_more xs j d low ∙ ap (λ z. z ∷ drop (j + 1) xs) (sym at))))

  -- an operator of a chain before others
  pub links_more : (links : List Link) (m j : ℕ) (d : Link) → m ≡ j + 1 → j < length links → d ≡ get_or links j d →
      7 + branch_visits sites d.token + expr_room sites (plain_expr d.operand) + links_room sites (plain_links (drop m links)) ≡ links_room sites (plain_links (drop j links))
  links_more links m j d e low at = rw e (sym (ap (links_room sites) (links_split links j d low at)))

  both : (x : PostfixOperator) (rest : PostfixList) →
      postfix_room sites (plain_postfix x rest) ≡ postfix_room sites (plain_postfix x e.no_postfix) + postfix_room sites rest
  both (postfix.Index token i) rest = rw (plain_index_before token i rest, plain_index_before token i e.no_postfix) (omega arith)
  both (postfix.Member token name) rest = rw (plain_member_before token name rest, plain_member_before token name e.no_postfix) (omega arith)
  both (postfix.Arrow token name) rest = rw (plain_arrow_before token name rest, plain_arrow_before token name e.no_postfix) (omega arith)
  both (postfix.Increment token) rest = rw (plain_increment_before token rest, plain_increment_before token e.no_postfix) (omega arith)
  both (postfix.Decrement token) rest = rw (plain_decrement_before token rest, plain_decrement_before token e.no_postfix) (omega arith)

  -- an operator behind an operand before others
  pub postfix_more : (xs : List PostfixOperator) (m j : ℕ) (d : PostfixOperator) → m ≡ j + 1 → j < length xs → d ≡ get_or xs j d →
      postfix_room sites (plain_postfix d e.no_postfix) + postfix_room sites (plain_operators (drop m xs)) ≡ postfix_room sites (plain_operators (drop j xs))
  postfix_more xs m j d e low at =
      rw e (sym (ap (λ l. postfix_room sites (plain_operators l)) (drop_more xs j d low ∙ ap (λ z. z ∷ drop (j + 1) xs) (sym at)) ∙ both d (plain_operators (drop (j + 1) xs))))

  -- what is put from the first one on is all
  pub exprs_all : (each : ℕ) (xs : List Expr) (m : ℕ) → m ≡ 0 → exprs_room sites each (plain_exprs (drop m xs)) ≡ exprs_room sites each (plain_exprs xs)
  exprs_all each xs m e = rw e refl

  pub links_all : (links : List Link) (m : ℕ) → m ≡ 0 → links_room sites (plain_links (drop m links)) ≡ links_room sites (plain_links links)
  links_all links m e = rw e refl

  pub postfix_all : (xs : List PostfixOperator) (m : ℕ) → m ≡ 0 → postfix_room sites (plain_operators (drop m xs)) ≡ postfix_room sites (plain_operators xs)
  postfix_all xs m e = rw e refl

  -- what stands from a place on has no more room than all
  pub exprs_rest : (each : ℕ) (xs : List Expr) (m : ℕ) → exprs_room sites each (plain_exprs (drop m xs)) ≤ exprs_room sites each (plain_exprs xs)
  exprs_rest each xs zero = omega arith
  exprs_rest each [] (suc m) = omega arith
  exprs_rest each (x ∷ xs) (suc m) = omega (arith, exprs_rest each xs m)

  pub links_rest : (links : List Link) (m : ℕ) → links_room sites (plain_links (drop m links)) ≤ links_room sites (plain_links links)
  links_rest links zero = omega arith
  links_rest [] (suc m) = omega arith
  links_rest (x ∷ links) (suc m) = omega (arith, links_more (x ∷ links) 1 0 x (omega arith) (omega arith) refl, links_rest links m)

  -- those before a place, and those from it on, have the room of all
  pub links_front : (links : List Link) (j : ℕ) →
      links_room sites (plain_links (take j links)) + links_room sites (plain_links (drop j links)) ≡ links_room sites (plain_links links)
  links_front links zero = omega arith
  links_front [] (suc j) = omega arith
  links_front (x ∷ links) (suc j) =
      omega (arith, links_more (x ∷ take j links) 1 0 x (omega arith) (omega arith) refl, links_more (x ∷ links) 1 0 x (omega arith) (omega arith) refl, links_front links j)

  -- so have those up to an operator, with that
  pub links_last : (links : List Link) (j : ℕ) (d : Link) → j < length links → d ≡ get_or links j d →
      7 + branch_visits sites d.token + expr_room sites (plain_expr d.operand) + links_room sites (plain_links (take j links)) ≡ links_room sites (plain_links (take (j + 1) links))
  links_last links j d low at = omega (arith, links_front links j, links_front links (j + 1), links_more links (j + 1) j d refl low at)

  pub postfix_rest : (xs : List PostfixOperator) (m : ℕ) → postfix_room sites (plain_operators (drop m xs)) ≤ postfix_room sites (plain_operators xs)
  postfix_rest xs zero = omega arith
  postfix_rest [] (suc m) = omega arith
  postfix_rest (x ∷ xs) (suc m) = omega (arith, both x (plain_operators xs), postfix_rest xs m)

  -- each of several expressions has room
  pub exprs_long : (xs : List Expr) → length xs ≤ exprs_room sites 3 (plain_exprs xs)
  exprs_long [] = omega arith
  exprs_long (x ∷ xs) = omega (arith, exprs_long xs)

  others_room : (xs : ExprList) → exprs_room sites 3 (arguments_after_first xs) ≤ exprs_room sites 3 xs
  others_room e.no_exprs = omega arith
  others_room (e.more_exprs x rest) = omega arith

  -- the arguments that are passed have no more room than all
  pub passed_room : (c : Called) (xs : ExprList) → exprs_room sites 3 (arguments_passed c xs) ≤ exprs_room sites 3 xs
  passed_room (called.Library library.Printf) xs = others_room xs
  passed_room c xs = omega arith

  -- an expression that is a value by its form has room for the nodes that no run comes to
  pub nowhere_room : (x : ExprTree) → is_nowhere x ≡ true → 2 ≤ expr_room sites x
  nowhere_room (e.Paren token inner) h = cc
  nowhere_room x h = omega arith
