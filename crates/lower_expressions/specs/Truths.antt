-- What stands before an operator of a chain: its value and its truth, one operator after another.
use Rattle.std.specs.Prelude.{ℕ, zero, suc, List, [], ◌∷◌, Option}
use Rattle.c_syntax.specs.Words.{ExprTree, plain_expr, plain_links}
use Rattle.c_syntax.specs.declared.expr.Link.{Link}
use Rattle.c_types_expressions.specs.ExprWalk.{binary_of}
use Rattle.c_meaning.specs.declared.value_type.ValueType.{ValueType}
use Rattle.c_meaning.specs.Words.{Facts, Sites, begins_null, is_null_beside, joint_of_sign, operand_type, type_of}
use Rattle.lower_relation.specs.Expressions.{emitted_expression}
use Rattle.lower_relation.specs.Operators.{LinkedTruth}
use Rattle.lower_relation.specs.Paths.{Graph, Path, ◌then◌, Ways}
use Rattle.lower_relation.specs.Values.{NullOr, NullTruth}
use Rattle.lower_nodes.specs.Made.{GraphPath}
use Rattle.lower_operators.specs.Linking.{link_part}

module _ (facts : Facts) (sites : Sites) where
  module _ (G : Graph) where
    -- the value and the truth of an operator's right operand
    abbrev pub right_value : Option ValueType → Link → Path ℕ
    right_value left x = NullOr G (is_null_beside (binary_of x.sign) left (plain_expr x.operand)) (emitted_expression G facts sites (plain_expr x.operand))

    abbrev pub right_truth : Option ValueType → Link → Path Ways
    right_truth left x = NullTruth G (is_null_beside (binary_of x.sign) left (plain_expr x.operand)) (emitted_expression G facts sites (plain_expr x.operand))

    -- the value and the truth of an operator, where its left side has these
    abbrev pub value_behind : Option ValueType → Link → Path ℕ → Path ℕ
    value_behind left x R = R then link_part facts sites left x.token x.sign (plain_expr x.operand) G

    abbrev pub truth_behind : Option ValueType → Link → Path ℕ → Path Ways → Path Ways
    truth_behind left x R T =
        LinkedTruth G facts sites (joint_of_sign x.sign) x.token left
        (operand_type (is_null_beside (binary_of x.sign) left (plain_expr x.operand)) (type_of facts (plain_expr x.operand))) R T
        (right_value left x) (right_truth left x)

    -- those of what stands before the operator with this index
    abbrev pub value_at : Option ValueType → Path ℕ → List Link → ℕ → Path ℕ
    value_at left R links zero = R
    value_at left R [] (suc j) = R
    value_at left R (x ∷ links) (suc j) = value_at (facts.type_at x.token) (value_behind left x R) links j

    abbrev pub truth_at : Option ValueType → Path ℕ → Path Ways → List Link → ℕ → Path Ways
    truth_at left R T links zero = T
    truth_at left R T [] (suc j) = T
    truth_at left R T (x ∷ links) (suc j) = truth_at (facts.type_at x.token) (value_behind left x R) (truth_behind left x R T) links j

  module _ (first : ExprTree) (links : List Link) where
    -- the type of the first operand, its value and its truth
    abbrev pub begins_as : Option ValueType
    begins_as = operand_type (begins_null facts first (plain_links links)) (type_of facts first)

    abbrev pub begins_with : GraphPath ℕ
    begins_with G = NullOr G (begins_null facts first (plain_links links)) (emitted_expression G facts sites first)

    abbrev pub begins_truly : GraphPath Ways
    begins_truly G = NullTruth G (begins_null facts first (plain_links links)) (emitted_expression G facts sites first)

    -- the value and the truth of what stands before the operator with this index
    abbrev pub chain_value : ℕ → GraphPath ℕ
    chain_value j G = value_at G begins_as (begins_with G) links j

    abbrev pub chain_truth : ℕ → GraphPath Ways
    chain_truth j G = truth_at G begins_as (begins_with G) (begins_truly G) links j
