-- The nodes of operators.
use Rattle.std.proofs.Common.{◌≡◌, ℕ, refl, ap, ◌∙◌, subst, List, [], ◌∷◌, ◌++◌, length}
use Rattle.cbi_base.specs.declared.scalar.Kind.{Kind}
use Rattle.cbi_base.specs.declared.operators.Binary.{Binary}
use Rattle.flow.specs.declared.node.Node.{Node}
use Rattle.flow.specs.declared.node.Node.TheVariants as node
use Rattle.c_meaning.specs.declared.conversion.Conversion.{Conversion}
use Rattle.c_meaning.specs.declared.operation.Operation.TheVariants.{Numbers}
use Rattle.c_meaning.specs.Words.{kind_conversion, left_kind, right_kind}
use Rattle.lower_relation.specs.Paths.{Does, ◌then◌}
use Rattle.lower_relation.specs.Values.{Converts, ConvertsBelow}
use Rattle.lower_relation.specs.Operators.{Operates}
use Rattle.lower_nodes.specs.Made.{Made}
use Rattle.lower_nodes.proofs.Building.{one_made, then_made}

-- two numbers are converted, and then calculated with
pub numbers_made : (o : Binary) (left right to_left to_right : Kind) (a b : Conversion) (n0 n1 n2 n3 : List Node) (m c i k : ℕ) →
    to_left ≡ left_kind o left right → to_right ≡ right_kind o left right → a ≡ kind_conversion left to_left → b ≡ kind_conversion right to_right →
    m ≡ length n0 → n1 ≡ n0 ++ node.Math o k ∷ [] → Made (λ G. Converts G b) n1 n2 c m → Made (λ G. ConvertsBelow G a) n2 n3 i c →
    Made (λ G. Operates G (Numbers o left right)) n0 n3 i k
numbers_made o left right to_left to_right a b n0 n1 n2 n3 m c i k l r ea eb at is converted below =
    let math : Made (λ G. Does G (node.Math o 0)) n0 n1 m k = one_made (node.Math o 0) (node.Math o k) n0 n1 m k refl at is in
    let second : Made (λ G. Converts G (kind_conversion right (right_kind o left right))) n1 n2 c m = subst (λ x. Made (λ G. Converts G x) n1 n2 c m) (eb ∙ ap (kind_conversion right) r) converted in
    let first : Made (λ G. ConvertsBelow G (kind_conversion left (left_kind o left right))) n2 n3 i c = subst (λ x. Made (λ G. ConvertsBelow G x) n2 n3 i c) (ea ∙ ap (kind_conversion left) l) below in
    then_made (λ G. ConvertsBelow G (kind_conversion left (left_kind o left right))) (λ G. Converts G (kind_conversion right (right_kind o left right)) then Does G (node.Math o 0)) n0 n2 n3 i c k
    (then_made (λ G. Converts G (kind_conversion right (right_kind o left right))) (λ G. Does G (node.Math o 0)) n0 n1 n2 c m k math second) first
