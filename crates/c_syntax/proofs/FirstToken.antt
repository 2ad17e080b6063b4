-- The first token of an expression that stands at an index has this index.
use Rattle.std.proofs.Common.{◌≡◌, ℕ}
use Rattle.c_syntax.specs.ExprTree as e
use Rattle.c_syntax.specs.ExprTree.{ExprTree, ExprList}
use Rattle.c_syntax.specs.FirstToken.{first_token, first_of}
use Rattle.c_syntax.specs.Place.{ExprAt, ExprsAt, first_comma}

mutual
  pub first_token_is : (x : ExprTree) (at : ℕ) → ExprAt at x → first_token x ≡ at
  first_token_is (e.Comma token operands) at h = first_of_is operands token at h.0 h.1
  first_token_is (e.Assign token sign target value) at h = first_token_is target at h.1
  first_token_is (e.Conditional token condition first second) at h = first_token_is condition at h.1
  first_token_is (e.Chain level first links) at h = first_token_is first at h.0
  first_token_is (e.Postfix primary operators) at h = first_token_is primary at h.0
  first_token_is (e.Name token name) at h = h
  first_token_is (e.Constant token kind value) at h = h
  first_token_is (e.Strings token parts) at h = h
  first_token_is (e.Null token) at h = h
  first_token_is (e.EndOfFile token) at h = h
  first_token_is x at h = h.0

  pub first_of_is : (xs : ExprList) (token at : ℕ) → token ≡ first_comma at xs → ExprsAt at xs → first_of token xs ≡ at
  first_of_is e.no_exprs token at h placed = h
  first_of_is (e.more_exprs x rest) token at h placed = first_token_is x at placed.0
