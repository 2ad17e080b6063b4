-- The kinds of numbers that operators calculate with, as the machine's operations have them (C99 6.3.1.8, 6.5.7p3).
use Rattle.cbi_base.specs.declared.scalar.Kind.{Kind}
use Rattle.cbi_base.specs.declared.scalar.Kind.TheVariants as kind
use Rattle.cbi_base.specs.declared.operators.Binary.{Binary}
use Rattle.cbi_base.specs.declared.operators.Binary.TheVariants as op
use Rattle.cbi_base.specs.Arithmetic.{kind_given}

abbrev pub promoted_kind : Kind → Kind
promoted_kind kind.Char = kind.Int
promoted_kind k = k

abbrev pub common_kind : Kind → Kind → Kind
common_kind kind.Unsigned l = kind.Unsigned
common_kind k kind.Unsigned = kind.Unsigned
common_kind k l = kind.Int

-- the kind to which the left operand is converted: a shift leaves its right operand aside
abbrev pub calculated_kind : Binary → Kind → Kind → Kind
calculated_kind op.Shl k l = promoted_kind k
calculated_kind op.Shr k l = promoted_kind k
calculated_kind o k l = common_kind k l

abbrev pub result_kind : Binary → Kind → Kind → Kind
result_kind o k l = kind_given o (calculated_kind o k l)
