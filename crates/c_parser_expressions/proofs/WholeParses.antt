-- The parser of expressions meets its rules, at every depth.
use Rattle.std.proofs.Common.{◌≡◌, ℕ, zero, suc, ◌-◌, ◌≤◌, Err, refl, arith}
use Rattle.c_syntax.specs.ExprTree.{ExprTree}
use Rattle.c_parser_expressions.specs.Reading.{Cursor, Fails, Read, Outcome}
use Rattle.c_parser_expressions.specs.Expressions.{expression, inner_expression}
use Rattle.c_parser_expressions.specs.ExpressionParser.{Parsers, parser_layer, no_parsers, parsers, deeper_than, primary_by, postfix_by, unary_by, cast_by, chain_by}
use Rattle.c_parser_expressions.specs.ExpressionParser.{conditional_by, assignment_by, whole_by}
use Rattle.c_parser_expressions.proofs.Laws.{leads-here, leads-outcome}
use Rattle.c_parser_expressions.proofs.Tokens.{fails-here}
use Rattle.c_parser_expressions.proofs.Primary.{primary-parses}
use Rattle.c_parser_expressions.proofs.Postfix.{postfix-parses}
use Rattle.c_parser_expressions.proofs.Unary.{unary-parses}
use Rattle.c_parser_expressions.proofs.Casts.{cast-parses}
use Rattle.c_parser_expressions.proofs.Chains.{chain-parses}
use Rattle.c_parser_expressions.proofs.Choices.{conditional-parses}
use Rattle.c_parser_expressions.proofs.Assignments.{assignment-parses}
use Rattle.c_parser_expressions.proofs.Commas.{whole-by-parses}

-- what parsers of what lies deeper are to do
pub record Deep (d : ℕ) (deeper : Parsers) : Type 0 where
  pub whole : (c : Cursor) → Outcome (inner_expression 0 d) c (deeper.whole c)
  pub assignment : (c : Cursor) → Outcome (inner_expression 1 d) c (deeper.assignment c)
  pub conditional : (c : Cursor) → Outcome (inner_expression 2 d) c (deeper.conditional c)
  pub cast : (c : Cursor) → Outcome (inner_expression 13 d) c (deeper.cast c)
  pub unary : (c : Cursor) → Outcome (inner_expression 14 d) c (deeper.unary c)
  pub flat : d ≡ 0 → (c : Cursor) → deeper.assignment c ≡ Err c.at

pub record Parses (d : ℕ) (deeper : Parsers) : Type 0 where
  pub primary : (c : Cursor) → Outcome (expression 16 d) c (primary_by d deeper c)
  pub postfix : (c : Cursor) → Outcome (expression 15 d) c (postfix_by d deeper c)
  pub unary : (c : Cursor) → Outcome (expression 14 d) c (unary_by d deeper c)
  pub cast : (c : Cursor) → Outcome (expression 13 d) c (cast_by d deeper c)
  pub chain : (n : ℕ) → n ≤ 10 → (c : Cursor) → Outcome (expression (13 - n) d) c (chain_by n (cast_by d deeper) c)
  pub conditional : (c : Cursor) → Outcome (expression 2 d) c (conditional_by d deeper c)
  pub assignment : (c : Cursor) → Outcome (expression 1 d) c (assignment_by d deeper c)
  pub whole : (c : Cursor) → Outcome (expression 0 d) c (whole_by d deeper c)

one-layer : (d : ℕ) (deeper : Parsers) → Deep d deeper → Parses d deeper
one-layer d deeper deep =
    let primary = primary-parses d deeper deep.whole deep.assignment deep.flat in
    let postfix = postfix-parses d deeper deep.whole primary in
    let unary = unary-parses d deeper deep.unary deep.cast postfix in
    let cast = cast-parses d deeper deep.cast unary in
    let chain = λ (n : ℕ) (le : n ≤ 10). chain-parses n d (cast_by d deeper) le cast in
    let conditional = conditional-parses d deeper deep.whole deep.conditional (chain 10 (omega arith)) in
    let assignment = assignment-parses d deeper deep.assignment conditional in
    record {
      primary = primary;
      postfix = postfix;
      unary = unary;
      cast = cast;
      chain = chain;
      conditional = conditional;
      assignment = assignment;
      whole = whole-by-parses d deeper assignment;
    }

-- nothing lies deeper than what may not nest
no-inner : (r : ℕ) (c : Cursor) → Fails (inner_expression r 0) c c.at
no-inner r c = fails-here (inner_expression r 0) c (λ x k is ends same. (let nests = is.nests in omega arith))

deep-none : Deep 0 no_parsers
unfolding no_parsers
deep-none = record { whole = no-inner 0; assignment = no-inner 1; conditional = no-inner 2; cast = no-inner 13; unary = no-inner 14; flat = λ h c. refl }

inner-of : (r n : ℕ) (f : Cursor → Read ExprTree) → ((c : Cursor) → Outcome (expression r n) c (f c)) → (c : Cursor) → Outcome (inner_expression r (suc n)) c (f c)
inner-of r n f o c =
    leads-outcome (inner_expression r (suc n)) (expression r n) c c (f c)
    (leads-here (inner_expression r (suc n)) (expression r n) c (λ x. x)
    (λ x is. (let nests = is.nests in record { ranks = is.ranks; shaped = is.shaped; nests = omega arith; placed = is.placed }))
    (λ x. refl)
    (λ x k last is ends le same. (let nests = is.nests in (
      x,
      refl,
      record { ranks = is.ranks; shaped = is.shaped; nests = omega arith; placed = is.placed },
      ends,
    ))))
    (o c)

deep-more : (n : ℕ) (deeper : Parsers) → Parses n deeper → Deep (suc n) (parser_layer n deeper)
unfolding parser_layer
deep-more n deeper p = record {
  whole = inner-of 0 n (whole_by n deeper) p.whole;
  assignment = inner-of 1 n (assignment_by n deeper) p.assignment;
  conditional = inner-of 2 n (conditional_by n deeper) p.conditional;
  cast = inner-of 13 n (cast_by n deeper) p.cast;
  unary = inner-of 14 n (unary_by n deeper) p.unary;
  flat = λ h c. absurd (omega arith);
}

pub deep : (d : ℕ) → Deep d (deeper_than d)
unfolding deeper_than parsers
deep zero = deep-none
deep (suc zero) = deep-more 0 no_parsers (one-layer 0 no_parsers deep-none)
deep (suc (suc n)) = deep-more (suc n) (parsers n) (one-layer (suc n) (parsers n) (deep (suc n)))

pub parses : (d : ℕ) → Parses d (deeper_than d)
parses d = one-layer d (deeper_than d) (deep d)

-- what stands at a depth
pub parsers-at : (d : ℕ) → parsers d ≡ parser_layer d (deeper_than d)
unfolding parsers deeper_than
parsers-at zero = refl
parsers-at (suc n) = refl
