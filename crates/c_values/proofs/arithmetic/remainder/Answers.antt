use Rattle.std.proofs.Common.{◌≡◌, ◌∙◌, sym, refl, true, false, w64}
use Rattle.std.proofs.lemmas.Int.{rem_is}
use Rattle.std.specs.Prelude.{int_div}
use Rattle.cbi_base.specs.Kind.{lies_in}
use Rattle.c_values.proofs.Division.{quotient_of, is_zero-false, remainder-LiesIn}
use Rattle.c_values.proofs.arithmetic.remainder.Goals as goal

pub returns-then-not-lies_in-clause-value : goal.returns-then-not-lies_in-clause-value
returns-then-not-lies_in-clause-value c =
    let exact = quotient_of c.args.kind c.args.left c.args.right c.requires.left c.ranges.left c.ranges.right in
    let apart = is_zero-false c.args.right c.ranges.right c.if-right-eq0.false in
    let outside : lies_in c.args.kind (int_div c.args.left c.args.right) ≡ false = sym (rw exact at c.lies_in.ensures) ∙ c.if-not-lies_in.true in
    rw (apart, outside) refl

pub returns-clause-value : goal.returns-clause-value
returns-clause-value c =
    let exact = quotient_of c.args.kind c.args.left c.args.right c.requires.left c.ranges.left c.ranges.right in
    let apart = is_zero-false c.args.right c.ranges.right c.if-right-eq0.false in
    let inside : lies_in c.args.kind (int_div c.args.left c.args.right) ≡ true = sym (rw exact at c.lies_in.ensures) ∙ c.if-not-lies_in.false in
    rw (rem_is w64 c.args.left c.args.right c.ranges.left c.ranges.right, apart, inside) refl

pub returns-clause-in_range : goal.returns-clause-in_range
returns-clause-in_range c = rw (rem_is w64 c.args.left c.args.right c.ranges.left c.ranges.right) (remainder-LiesIn c.args.kind c.args.left c.args.right c.requires.left)
